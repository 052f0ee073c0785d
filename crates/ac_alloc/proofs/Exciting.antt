-- Excitation by running leaks.
use Rattle.std.proofs.Common.{◌≡◌, ℕ, ◌-◌, ◌<◌, ◌≤◌, ℤ, pos, ◌-ℤ◌, Bool, true, false, sym, ap, ◌∙◌, arith}
use Rattle.std.specs.Prelude.{if◌then◌else◌, nat_lt, nat_le}
use Rattle.std.proofs.lemmas.Bool.Decides.{nat_tests}
use Rattle.std.specs.Int.{int_max}
use Rattle.ac_alloc.specs.declared.params.Params.{Params}
use Rattle.ac_alloc.specs.Excitation.{leak, leak_from, low, begin, joined, excite, excite_coupling}
use Rattle.ac_alloc.specs.Codes.{fast_gain, slow_gain, fast_decay, slow_decay, fast_start, slow_start}
use Rattle.ac_alloc.proofs.Leaking.{leak_rest}

joined_low : (f s : ℤ) (l b : ℕ) → b ≤ 21 → joined f s l b ≡ int_max (f -ℤ pos l) s
joined_low f s l b h =
    let t : nat_le b 21 ≡ true = grind (arith, nat_tests) in
    ap (λ x. if x then int_max (f -ℤ pos l) s else int_max f s) t

joined_high : (f s : ℤ) (l b : ℕ) → 21 < b → joined f s l b ≡ int_max f s
joined_high f s l b h =
    let t : nat_le b 21 ≡ false = grind (arith, nat_tests) in
    ap (λ x. if x then int_max (f -ℤ pos l) s else int_max f s) t

pub excite_below : (p : Params) (lfe : Bool) (P : ℕ → ℕ) (b z gain l : ℕ) (x : ℤ) → z ≡ begin lfe P → gain ≡ fast_gain p → l ≡ low lfe P b → b < z → x ≡ pos (P b) -ℤ pos gain -ℤ pos l → x ≡ excite p lfe P b
excite_below p lfe P b z gain l x ez eg el h ex =
    let t : nat_lt b (begin lfe P) ≡ true = grind (arith, nat_tests) in
    let w = λ (y : Bool). if y then pos (P b) -ℤ pos (fast_gain p) -ℤ pos (low lfe P b) else joined (leak P (fast_gain p) (fast_decay p) (begin lfe P - 1) b) (leak P (slow_gain p) (slow_decay p) (begin lfe P - 1) b) (low lfe P b) b in
    ex ∙ ap (λ v. pos (P b) -ℤ pos v -ℤ pos l) eg ∙ ap (λ v. pos (P b) -ℤ pos (fast_gain p) -ℤ pos v) el ∙ sym (ap w t)

-- a leak of the code, from the band at which the leaks begin
leak_here : (P : ℕ → ℕ) (b z k gain decay g d : ℕ) (first x : ℤ) → z ≡ k → gain ≡ g → decay ≡ d → first ≡ pos (P (z - 1)) -ℤ pos gain → x ≡ leak_from first P gain decay z b → 0 < z → z ≤ b → x ≡ leak P g d (k - 1) b
leak_here P b z k gain decay g d first x ez eg ed ef ex s l =
    let r = leak_rest P gain decay z b s l in
    ex ∙ ap (λ v. leak_from v P gain decay z b) ef ∙ sym r ∙ ap (λ v. leak P gain decay (v - 1) b) ez ∙ ap (λ v. leak P v decay (k - 1) b) eg ∙ ap (λ v. leak P g v (k - 1) b) ed

-- what the code knows of a leak at b
pub record IsLeak (P : ℕ → ℕ) (g d b z : ℕ) (x : ℤ) : Type 0 where
  pub gain : ℕ
  pub decay : ℕ
  pub first : ℤ
  pub gain_is : gain ≡ g
  pub decay_is : decay ≡ d
  pub first_is : first ≡ pos (P (z - 1)) -ℤ pos gain
  pub value : x ≡ leak_from first P gain decay z b

pub excite_from : (p : Params) (lfe : Bool) (P : ℕ → ℕ) (b z l : ℕ) (x f s : ℤ) → z ≡ begin lfe P → 0 < z → z ≤ b → IsLeak P (fast_gain p) (fast_decay p) b z f → IsLeak P (slow_gain p) (slow_decay p) b z s → joined f s (low lfe P b) b ≡ excite p lfe P b
excite_from p lfe P b z l x f s ez some h lf ls =
    let t : nat_lt b (begin lfe P) ≡ false = grind (arith, nat_tests) in
    let w = λ (y : Bool). if y then pos (P b) -ℤ pos (fast_gain p) -ℤ pos (low lfe P b) else joined (leak P (fast_gain p) (fast_decay p) (begin lfe P - 1) b) (leak P (slow_gain p) (slow_decay p) (begin lfe P - 1) b) (low lfe P b) b in
    let ef = leak_here P b z (begin lfe P) lf.gain lf.decay (fast_gain p) (fast_decay p) lf.first f ez lf.gain_is lf.decay_is lf.first_is lf.value some h in
    let es = leak_here P b z (begin lfe P) ls.gain ls.decay (slow_gain p) (slow_decay p) ls.first s ez ls.gain_is ls.decay_is ls.first_is ls.value some h in
    ap (λ v. joined v s (low lfe P b) b) ef ∙ ap (λ v. joined (leak P (fast_gain p) (fast_decay p) (begin lfe P - 1) b) v (low lfe P b) b) es ∙ sym (ap w t)

pub excite_low : (p : Params) (lfe : Bool) (P : ℕ → ℕ) (b z l : ℕ) (x f s : ℤ) → z ≡ begin lfe P → 0 < z → z ≤ b → b ≤ 21 → IsLeak P (fast_gain p) (fast_decay p) b z f → IsLeak P (slow_gain p) (slow_decay p) b z s → l ≡ low lfe P b → x ≡ int_max (f -ℤ pos l) s → x ≡ excite p lfe P b
excite_low p lfe P b z l x f s ez some h m lf ls el ex =
    ex ∙ ap (λ v. int_max (f -ℤ pos v) s) el ∙ sym (joined_low f s (low lfe P b) b m) ∙ excite_from p lfe P b z l x f s ez some h lf ls

pub excite_high : (p : Params) (lfe : Bool) (P : ℕ → ℕ) (b z : ℕ) (x f s : ℤ) → z ≡ begin lfe P → 0 < z → z ≤ b → 21 < b → IsLeak P (fast_gain p) (fast_decay p) b z f → IsLeak P (slow_gain p) (slow_decay p) b z s → x ≡ int_max f s → x ≡ excite p lfe P b
excite_high p lfe P b z x f s ez some h m lf ls ex =
    ex ∙ sym (joined_high f s (low lfe P b) b m) ∙ excite_from p lfe P b z 0 x f s ez some h lf ls

pub lows_reach : (lfe : Bool) (b to : ℕ) → to ≤ (if lfe then 7 else 50) → b < to → b ≤ 21 → b < (if lfe then 7 else 22)
lows_reach true b to h l m = omega arith
lows_reach false b to h l m = omega arith

pub few_bands : (lfe : Bool) (to : ℕ) → to ≤ (if lfe then 7 else 50) → to ≤ 50
few_bands true to h = omega arith
few_bands false to h = omega arith

-- the leak of the code at the values of the parameters
pub same_leak : (P : ℕ → ℕ) (f b gain decay g d : ℕ) (first : ℤ) (n start : ℕ) (x : ℤ) → gain ≡ g → decay ≡ d → first ≡ pos n → n ≡ start → x ≡ leak_from first P gain decay f b → x ≡ leak_from (pos start) P g d f b
same_leak P f b gain decay g d first n start x eg ed ef en ex =
    ex ∙ ap (λ v. leak_from v P gain decay f b) ef ∙ ap (λ v. leak_from (pos v) P gain decay f b) en ∙ ap (λ v. leak_from (pos start) P v decay f b) eg ∙ ap (λ v. leak_from (pos start) P g v f b) ed

pub coupling_value : (p : Params) (a : ℕ) (P : ℕ → ℕ) (b : ℕ) (x f s : ℤ) → f ≡ leak_from (pos (fast_start p)) P (fast_gain p) (fast_decay p) a b → s ≡ leak_from (pos (slow_start p)) P (slow_gain p) (slow_decay p) a b → x ≡ int_max f s → x ≡ excite_coupling p a P b
coupling_value p a P b x f s ef es ex =
    ex ∙ ap (λ v. int_max v s) ef ∙ ap (int_max (leak_from (pos (fast_start p)) P (fast_gain p) (fast_decay p) a b)) es

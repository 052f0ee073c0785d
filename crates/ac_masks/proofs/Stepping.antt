-- A row from a band to the next.
use Rattle.std.proofs.Common.{◌≡◌, ℕ, zero, suc, ◌+◌, ◌*◌, ◌/◌, ◌-◌, ◌<◌, ◌≤◌, min, max, ℤ, pos, ◌-ℤ◌, ◌+ℤ◌, Bool, true, false, refl, sym, ap, ◌∙◌, arith, subst, inl, inr, add-one}
use Rattle.std.specs.Prelude.{if◌then◌else◌, nat_lt, nat_le}
use Rattle.std.proofs.lemmas.Int.{ints, clamps}
use Rattle.std.proofs.lemmas.Bool.{cases_lt}
use Rattle.std.proofs.lemmas.Bool.Decides.{nat_tests}
use Rattle.std.specs.Int.{int_max}
use Rattle.ac_base.specs.declared.spans.Lead.{Lead}
use Rattle.ac_base.specs.declared.spans.Lead.TheVariants as lead
use Rattle.ac_alloc.specs.declared.params.Params.{Params}
use Rattle.ac_alloc.specs.Codes.{fast_gain, slow_gain, fast_decay, slow_decay, fast_start, slow_start}
use Rattle.ac_alloc.specs.Excitation.{lowcomp, lowcomp_to, low, first_rise, begin, leak, leak_from, joined, excite, excite_coupling, excite_by, AreBands}
use Rattle.ac_alloc.specs.Masking.{masked}
use Rattle.ac_alloc.proofs.Leaking.{leak_here, leak_next, so_far, so_far_next}
use Rattle.ac_sixths.specs.Runs.{base_of}
use Rattle.ac_masks.specs.Steps.{IsRaised, low_before, begin_of, leak_at, leak_before, low_step, leak_step, excite_step, base_step}

-- ---- compensation
lowcomp_small : (a b0 b1 n : ℕ) → a ≤ 384 - 128 * (n - 20) → lowcomp a b0 b1 n ≤ 384 - 128 * (n + 1 - 20)
unfolding lowcomp
lowcomp_small a b0 b1 n l = grind (arith, nat_tests)

low_small : (P : ℕ → ℕ) (n : ℕ) → lowcomp_to P n ≤ 384 - 128 * (n - 20)
low_small P zero = omega arith
low_small P (suc n) = omega (arith, lowcomp_small (lowcomp_to P n) (P n) (P (n + 1)) n (low_small P n))

low_more : (P : ℕ → ℕ) (b x : ℕ) → x ≡ lowcomp (lowcomp_to P b) (P b) (P (b + 1)) b → x ≡ lowcomp_to P (b + 1)
low_more P b x e = rw add-one e

low_next : (P : ℕ → ℕ) (b old new : ℕ) → old ≡ lowcomp_to P b → new ≡ lowcomp old (P b) (P (b + 1)) b → new ≡ lowcomp_to P (b + 1)
low_next P b old new e f = low_more P b new (f ∙ ap (λ x. lowcomp x (P b) (P (b + 1)) b) e)

lfe_next : (P : ℕ → ℕ) (b old new : ℕ) → b < 7 → old ≡ lowcomp_to P (min b 6) → new ≡ (if nat_lt b 6 then lowcomp old (P b) (P (b + 1)) b else old) → new ≡ lowcomp_to P (min (b + 1) 6)
lfe_next P b old new l e f =
    elim (cases_lt b 6) [
      | inl m ↦
          let t : nat_lt b 6 ≡ true = grind (arith, nat_tests) in
          let here : min b 6 ≡ b = omega arith in
          let next : min (b + 1) 6 ≡ b + 1 = omega arith in
          low_next P b old new (e ∙ ap (lowcomp_to P) here) (f ∙ ap (λ x. if x then lowcomp old (P b) (P (b + 1)) b else old) t) ∙ ap (lowcomp_to P) (sym next)
      | inr m ↦
          let t : nat_lt b 6 ≡ false = grind (arith, nat_tests) in
          let same : min b 6 ≡ min (b + 1) 6 = omega arith in
          f ∙ ap (λ x. if x then lowcomp old (P b) (P (b + 1)) b else old) t ∙ e ∙ ap (lowcomp_to P) same
    ]

pub low_after : (l : Lead) (P : ℕ → ℕ) (f to b old new : ℕ) → AreBands l f to → b < to → old ≡ low_before l P b → new ≡ low_step l old (P b) (P (b + 1)) b → new ≡ low_before l P (b + 1)
low_after lead.Free P f to b old new a m e n = low_next P b old new e n
low_after lead.Coupled P f to b old new a m e n = low_next P b old new e n
low_after lead.Coupling P f to b old new a m e n = n ∙ e
low_after lead.Low P f to b old new a m e n = lfe_next P b old new (omega (arith, a.1)) e n

pub low_none : (l : Lead) (P : ℕ → ℕ) (f to : ℕ) → AreBands l f to → low_before l P f ≡ 0
low_none lead.Free P f to a = ap (lowcomp_to P) a.0
low_none lead.Coupled P f to a = ap (lowcomp_to P) a.0
low_none lead.Coupling P f to a = refl
low_none lead.Low P f to a = let e : min f 6 ≡ 0 = omega (arith, a.0) in ap (lowcomp_to P) e

-- ---- where the leaks begin
rise_late : (P : ℕ → ℕ) (b n : ℕ) → 2 ≤ b → 3 ≤ first_rise P b n
rise_late P b zero l = omega arith
rise_late P b (suc n) l = let h = rise_late P (b + 1) n (omega arith) in grind (arith, nat_tests)

begin_late : (lfe : Bool) (P : ℕ → ℕ) → 3 ≤ begin lfe P
begin_late lfe P = rise_late P 2 (if lfe then 4 else 5) (omega arith)

rise_one : (P : ℕ → ℕ) (b n m : ℕ) → m ≡ suc n → first_rise P b m ≡ (if nat_le (P b) (P (b + 1)) then b + 1 else first_rise P (b + 1) n)
rise_one P b n m e = ap (first_rise P b) e

pub rise_more : (P : ℕ → ℕ) (end n b old new : ℕ) → n + 1 ≤ end → b ≡ end - 1 - n → old ≡ first_rise P (end - n) n → new ≡ (if nat_le (P b) (P (b + 1)) then b + 1 else old) → new ≡ first_rise P (end - (n + 1)) (n + 1)
rise_more P end n b old new l eb eo en =
    let at : end - (n + 1) ≡ b = omega arith in
    let next : end - n ≡ b + 1 = omega arith in
    en ∙ ap (λ x. if nat_le (P b) (P (b + 1)) then b + 1 else x) (eo ∙ ap (λ k. first_rise P k n) next)
    ∙ sym (ap (λ k. first_rise P k (n + 1)) at ∙ rise_one P b n (n + 1) (add-one n))

pub rise_done : (P : ℕ → ℕ) (end n x : ℕ) → 2 ≤ end → n ≡ end - 2 → x ≡ first_rise P (end - n) n → x ≡ first_rise P 2 (end - 2)
rise_done P end n x l e h =
    let at : end - n ≡ 2 = omega arith in h ∙ ap (λ k. first_rise P k n) at ∙ ap (first_rise P 2) e

-- ---- leaks
raised_next : (x : ℤ) (leak d gain decay : ℕ) → IsRaised x leak → gain ≤ 2000 → IsRaised (int_max (x -ℤ pos decay) (pos d -ℤ pos gain)) (max (leak - decay) (d + (4096 - gain)))
raised_next x leak d gain decay r l = omega (arith, ints, clamps)

raised_first : (d gain : ℕ) → gain ≤ 2000 → IsRaised (pos d -ℤ pos gain) (max 0 (d + (4096 - gain)))
raised_first d gain l = omega (arith, ints, clamps)

step_open : (leak begin b d gain decay : ℕ) → begin ≤ b → leak_step leak begin b d gain decay ≡ max (leak - decay) (d + (4096 - gain))
step_open leak begin b d gain decay l =
    let t : nat_le begin b ≡ true = grind (arith, nat_tests) in ap (λ x. max (if x then leak - decay else 0) (d + (4096 - gain))) t

step_closed : (leak begin b d gain decay : ℕ) → b < begin → leak_step leak begin b d gain decay ≡ max 0 (d + (4096 - gain))
step_closed leak begin b d gain decay l =
    let t : nat_le begin b ≡ false = grind (arith, nat_tests) in ap (λ x. max (if x then leak - decay else 0) (d + (4096 - gain))) t

-- of a channel whose leaks begin at z
full_after : (P : ℕ → ℕ) (gain decay z b old new : ℕ) → 3 ≤ z → gain ≤ 2000 → ((n : ℕ) → b ≡ n + 1 → IsRaised (leak P gain decay (min (z - 1) n) n) old) → new ≡ leak_step old z b (P b) gain decay → IsRaised (leak P gain decay (min (z - 1) b) b) new
full_after P gain decay z b old new late few before step =
    elim (cases_lt b z) [
      | inl below ↦
          let at : min (z - 1) b ≡ b = omega arith in
          let value = ap (λ a. leak P gain decay a b) at ∙ leak_here P gain decay b in
          subst (λ x. IsRaised x new) (sym value) (subst (IsRaised (pos (P b) -ℤ pos gain)) (sym (step ∙ step_closed old z b (P b) gain decay below)) (raised_first (P b) gain few))
      | inr above ↦
          let n = b - 1 in
          let more : b ≡ n + 1 = omega arith in
          let was : min (z - 1) n ≡ z - 1 = omega arith in
          let at : min (z - 1) b ≡ z - 1 = omega arith in
          let ran = leak_next P gain decay (z - 1) n (omega arith) in
          let value : leak P gain decay (min (z - 1) b) b ≡ int_max (leak P gain decay (z - 1) n -ℤ pos decay) (pos (P b) -ℤ pos gain) = ap (λ a. leak P gain decay a b) at ∙ ap (leak P gain decay (z - 1)) more ∙ ran ∙ ap (λ k. int_max (leak P gain decay (z - 1) n -ℤ pos decay) (pos (P k) -ℤ pos gain)) (sym more) in
          let held : IsRaised (leak P gain decay (z - 1) n) old = subst (λ a. IsRaised (leak P gain decay a n) old) was (before n more) in
          subst (λ x. IsRaised x new) (sym value) (subst (IsRaised (int_max (leak P gain decay (z - 1) n -ℤ pos decay) (pos (P b) -ℤ pos gain))) (sym (step ∙ step_open old z b (P b) gain decay above)) (raised_next (leak P gain decay (z - 1) n) old (P b) gain decay held few))
    ]

before_is : (l : Lead) (start : ℤ) (P : ℕ → ℕ) (gain decay f b old n : ℕ) → f ≡ 0 → b ≡ n + 1 → IsRaised (leak_before l start P gain decay f (b - f)) old → IsRaised (leak_at l start P gain decay f n) old
before_is l start P gain decay f b old n ef eb h =
    let e : b - f ≡ suc n = omega arith in
    let t : f + n ≡ n = omega arith in
    subst (λ x. IsRaised (leak_at l start P gain decay f x) old) t (subst (λ x. IsRaised (leak_before l start P gain decay f x) old) e h)

coupling_before : (start : ℤ) (P : ℕ → ℕ) (gain decay f n : ℕ) → leak_before lead.Coupling start P gain decay f n ≡ so_far start P gain decay f n
coupling_before start P gain decay f zero = refl
coupling_before start P gain decay f (suc n) = refl

coupling_after : (start : ℤ) (P : ℕ → ℕ) (gain decay f b z old new : ℕ) → f ≤ b → z ≡ 0 → gain ≤ 2000 → IsRaised (leak_before lead.Coupling start P gain decay f (b - f)) old → new ≡ leak_step old z b (P b) gain decay → IsRaised (leak_from start P gain decay f b) new
coupling_after start P gain decay f b z old new l ez few before step =
    let x = leak_before lead.Coupling start P gain decay f (b - f) in
    let y = int_max (x -ℤ pos decay) (pos (P b) -ℤ pos gain) in
    let value : y ≡ leak_from start P gain decay f b = so_far_next start P gain decay f b x y l (coupling_before start P gain decay f (b - f)) refl in
    subst (λ v. IsRaised v new) value (subst (IsRaised y) (sym (step ∙ step_open old z b (P b) gain decay (omega arith))) (raised_next x old (P b) gain decay before few))

pub leak_after : (l : Lead) (start : ℤ) (P : ℕ → ℕ) (gain decay f to b z old new : ℕ) → AreBands l f to → f ≤ b → gain ≤ 2000 → z ≡ begin_of l P → IsRaised (leak_before l start P gain decay f (b - f)) old → new ≡ leak_step old z b (P b) gain decay → IsRaised (leak_at l start P gain decay f b) new
leak_after lead.Free start P gain decay f to b z old new a m few ez before step =
    full_after P gain decay (begin false P) b old new (begin_late false P) few (λ n e. before_is lead.Free start P gain decay f b old n a.0 e before) (step ∙ ap (λ k. leak_step old k b (P b) gain decay) ez)
leak_after lead.Coupled start P gain decay f to b z old new a m few ez before step =
    full_after P gain decay (begin false P) b old new (begin_late false P) few (λ n e. before_is lead.Coupled start P gain decay f b old n a.0 e before) (step ∙ ap (λ k. leak_step old k b (P b) gain decay) ez)
leak_after lead.Coupling start P gain decay f to b z old new a m few ez before step =
    coupling_after start P gain decay f b z old new m ez few before step
leak_after lead.Low start P gain decay f to b z old new a m few ez before step =
    full_after P gain decay (begin true P) b old new (begin_late true P) few (λ n e. before_is lead.Low start P gain decay f b old n a.0 e before) (step ∙ ap (λ k. leak_step old k b (P b) gain decay) ez)

pub leak_kept : (l : Lead) (start : ℤ) (P : ℕ → ℕ) (gain decay f b new : ℕ) → f ≤ b → IsRaised (leak_at l start P gain decay f b) new → IsRaised (leak_before l start P gain decay f (b + 1 - f)) new
leak_kept l start P gain decay f b new m h =
    let e : suc (b - f) ≡ b + 1 - f = omega arith in
    let t : b ≡ f + (b - f) = omega arith in
    subst (λ x. IsRaised (leak_before l start P gain decay f x) new) e (subst (λ x. IsRaised (leak_at l start P gain decay f x) new) t h)

pub leak_none : (l : Lead) (start : ℤ) (P : ℕ → ℕ) (gain decay f x : ℕ) → IsRaised start x → IsRaised (leak_before l start P gain decay f (f - f)) x
leak_none l start P gain decay f x h =
    let e : 0 ≡ f - f = omega arith in subst (λ n. IsRaised (leak_before l start P gain decay f n) x) e h

pub leak_given : (l : Lead) (start : ℤ) (P : ℕ → ℕ) (gain decay f b x : ℕ) → f ≤ b → IsRaised (leak_before l start P gain decay f (b + 1 - f)) x → IsRaised (leak_at l start P gain decay f b) x
leak_given l start P gain decay f b x m h =
    let e : b + 1 - f ≡ suc (b - f) = omega arith in
    let t : f + (b - f) ≡ b = omega arith in
    subst (λ k. IsRaised (leak_at l start P gain decay f k) x) t (subst (λ k. IsRaised (leak_before l start P gain decay f k) x) e h)

pub raised_start : (n x : ℕ) → x ≡ n + 4096 → IsRaised (pos n) x
raised_start n x e = omega (arith, ints)

-- ---- excitation
step_both : (fast slow low z b : ℕ) → z ≤ b → excite_step fast slow low z b ≡ max (fast - low) slow
step_both fast slow low z b l =
    let t : nat_le z b ≡ true = grind (arith, nat_tests) in ap (λ x. if x then max (fast - low) slow else fast - low) t

step_alone : (fast slow low z b : ℕ) → b < z → excite_step fast slow low z b ≡ fast - low
step_alone fast slow low z b l =
    let t : nat_le z b ≡ false = grind (arith, nat_tests) in ap (λ x. if x then max (fast - low) slow else fast - low) t

raised_both : (f s : ℤ) (fast slow low : ℕ) → IsRaised f fast → IsRaised s slow → IsRaised (int_max (f -ℤ pos low) s) (max (fast - low) slow)
raised_both f s fast slow low a b = omega (arith, ints, clamps)

raised_alone : (fast d gain low : ℕ) → gain ≤ 2000 → low ≤ 384 → IsRaised (pos d -ℤ pos gain) fast → IsRaised (pos d -ℤ pos gain -ℤ pos low) (fast - low)
raised_alone fast d gain low l m h = omega (arith, ints, clamps)

no_low : (f s : ℤ) (low : ℕ) → low ≡ 0 → int_max (f -ℤ pos low) s ≡ int_max f s
no_low f s low e = omega (arith, ints, clamps)

joined_is : (f s : ℤ) (low b : ℕ) → (21 < b → low ≡ 0) → joined f s low b ≡ int_max (f -ℤ pos low) s
joined_is f s low b gone =
    elim (cases_lt 21 b) [
      | inl high ↦
          let t : nat_le b 21 ≡ false = grind (arith, nat_tests) in
          ap (λ x. if x then int_max (f -ℤ pos low) s else int_max f s) t ∙ sym (no_low f s low (gone high))
      | inr few ↦
          let t : nat_le b 21 ≡ true = grind (arith, nat_tests) in
          ap (λ x. if x then int_max (f -ℤ pos low) s else int_max f s) t
    ]

full_excite : (p : Params) (lfe : Bool) (P : ℕ → ℕ) (b fast slow lows : ℕ) → fast_gain p ≤ 2000 → lows ≡ low lfe P b → lows ≤ 384 → (21 < b → lows ≡ 0) → IsRaised (leak P (fast_gain p) (fast_decay p) (min (begin lfe P - 1) b) b) fast → IsRaised (leak P (slow_gain p) (slow_decay p) (min (begin lfe P - 1) b) b) slow → IsRaised (excite p lfe P b) (excite_step fast slow lows (begin lfe P) b)
full_excite p lfe P b fast slow lows few el small gone hf hs =
    let z = begin lfe P in
    let late = begin_late lfe P in
    let L = λ (x : ℕ). leak P (fast_gain p) (fast_decay p) x b in
    let S = λ (x : ℕ). leak P (slow_gain p) (slow_decay p) x b in
    let w = λ (y : Bool). if y then pos (P b) -ℤ pos (fast_gain p) -ℤ pos (low lfe P b) else joined (L (z - 1)) (S (z - 1)) (low lfe P b) b in
    elim (cases_lt b z) [
      | inl below ↦
          let t : nat_lt b z ≡ true = grind (arith, nat_tests) in
          let at : min (z - 1) b ≡ b = omega arith in
          let value = ap L at ∙ leak_here P (fast_gain p) (fast_decay p) b in
          let alone = raised_alone fast (P b) (fast_gain p) lows few small (subst (λ x. IsRaised x fast) value hf) in
          let is : pos (P b) -ℤ pos (fast_gain p) -ℤ pos lows ≡ excite p lfe P b = ap (λ x. pos (P b) -ℤ pos (fast_gain p) -ℤ pos x) el ∙ sym (ap w t) in
          subst (λ x. IsRaised x (excite_step fast slow lows z b)) is (subst (IsRaised (pos (P b) -ℤ pos (fast_gain p) -ℤ pos lows)) (sym (step_alone fast slow lows z b below)) alone)
      | inr above ↦
          let t : nat_lt b z ≡ false = grind (arith, nat_tests) in
          let at : min (z - 1) b ≡ z - 1 = omega arith in
          let both = raised_both (L (z - 1)) (S (z - 1)) fast slow lows (subst (λ x. IsRaised (L x) fast) at hf) (subst (λ x. IsRaised (S x) slow) at hs) in
          let is : int_max (L (z - 1) -ℤ pos lows) (S (z - 1)) ≡ excite p lfe P b = sym (joined_is (L (z - 1)) (S (z - 1)) lows b gone) ∙ ap (λ x. joined (L (z - 1)) (S (z - 1)) x b) el ∙ sym (ap w t) in
          subst (λ x. IsRaised x (excite_step fast slow lows z b)) is (subst (IsRaised (int_max (L (z - 1) -ℤ pos lows) (S (z - 1)))) (sym (step_both fast slow lows z b above)) both)
    ]

coupling_excite : (f s : ℤ) (fast slow lows z b : ℕ) → z ≡ 0 → lows ≡ 0 → IsRaised f fast → IsRaised s slow → IsRaised (int_max f s) (excite_step fast slow lows z b)
coupling_excite f s fast slow lows z b ez el hf hs =
    let both = raised_both f s fast slow lows hf hs in
    subst (λ x. IsRaised x (excite_step fast slow lows z b)) (no_low f s lows el) (subst (IsRaised (int_max (f -ℤ pos lows) s)) (sym (step_both fast slow lows z b (omega arith))) both)

pub excite_after : (p : Params) (l : Lead) (P : ℕ → ℕ) (f to b z fast slow lows : ℕ) → AreBands l f to → b < to → fast_gain p ≤ 2000 → z ≡ begin_of l P → lows ≡ low_before l P (b + 1) → IsRaised (leak_at l (pos (fast_start p)) P (fast_gain p) (fast_decay p) f b) fast → IsRaised (leak_at l (pos (slow_start p)) P (slow_gain p) (slow_decay p) f b) slow → IsRaised (excite_by l p f P b) (excite_step fast slow lows z b)
excite_after p lead.Free P f to b z fast slow lows a m few ez el hf hs =
    let small = low_small P (b + 1) in
    subst (λ k. IsRaised (excite p false P b) (excite_step fast slow lows k b)) (sym ez) (full_excite p false P b fast slow lows few el (omega arith) (λ h. omega arith) hf hs)
excite_after p lead.Coupled P f to b z fast slow lows a m few ez el hf hs =
    let small = low_small P (b + 1) in
    subst (λ k. IsRaised (excite p false P b) (excite_step fast slow lows k b)) (sym ez) (full_excite p false P b fast slow lows few el (omega arith) (λ h. omega arith) hf hs)
excite_after p lead.Coupling P f to b z fast slow lows a m few ez el hf hs =
    coupling_excite (leak_from (pos (fast_start p)) P (fast_gain p) (fast_decay p) f b) (leak_from (pos (slow_start p)) P (slow_gain p) (slow_decay p) f b) fast slow lows z b ez el hf hs
excite_after p lead.Low P f to b z fast slow lows a m few ez el hf hs =
    let small = low_small P (min (b + 1) 6) in
    subst (λ k. IsRaised (excite p true P b) (excite_step fast slow lows k b)) (sym ez) (full_excite p true P b fast slow lows few el (omega arith) (λ h. omega (arith, a.1)) hf hs)

-- ---- bases
mask_is : (z : ℤ) (x d knee th : ℕ) → IsRaised z x → masked z knee d th ≡ pos (max (x + (knee - d) / 4) (th + 4096) - 4096)
mask_is z x d knee th h =
    elim (cases_lt d knee) [
      | inl m ↦
          let t : nat_lt d knee ≡ true = grind (arith, nat_tests) in
          let v : int_max (z +ℤ pos ((knee - d) / 4)) (pos th) ≡ pos (max (x + (knee - d) / 4) (th + 4096) - 4096) = omega (arith, ints, clamps) in
          ap (λ y. int_max (if y then z +ℤ pos ((knee - d) / 4) else z) (pos th)) t ∙ v
      | inr m ↦
          let t : nat_lt d knee ≡ false = grind (arith, nat_tests) in
          let none : (knee - d) / 4 ≡ 0 = omega arith in
          let v : int_max z (pos th) ≡ pos (max (x + (knee - d) / 4) (th + 4096) - 4096) = omega (arith, ints, clamps) in
          ap (λ y. int_max (if y then z +ℤ pos ((knee - d) / 4) else z) (pos th)) t ∙ v
    ]

pub base_is : (z : ℤ) (x d knee th : ℕ) → IsRaised z x → base_step x d knee th ≡ base_of (masked z knee d th)
base_is z x d knee th h =
    let m = max (x + (knee - d) / 4) (th + 4096) in
    let e : m - 1088 ≡ m - 4096 + 3008 = omega arith in
    ap (λ v. 2232 - v / 4) e ∙ ap base_of (sym (mask_is z x d knee th h))

-- Bounds of folded integrate.
use Rattle.std.proofs.Common.{◌≡◌, ℕ, zero, suc, ◌+◌, ◌*◌, ◌/◌, ◌-◌, ◌<◌, ◌≤◌, min, refl, arith, slice_index, add-one, ap, ◌∙◌, sym}
use Rattle.std.specs.Int.{abs_diff}
use Rattle.std.proofs.Common.{Bool, true, false, List, take, get_or-take, subst, inl, inr}
use Rattle.std.specs.Prelude.{if◌then◌else◌, nat_lt, ◌&&◌}
use Rattle.std.proofs.lemmas.Bool.{cases_eq, cases_lt}
use Rattle.std.proofs.lemmas.List.{get_or_past, length-take}
use Rattle.std.proofs.lemmas.Bool.Decides.{nat_tests}
use Rattle.ac_alloc.specs.Integration.{logadd, folded, bndpsd, psd, first_bin, last_bin}
use Rattle.ac_base.specs.Allocation.{bndtab_list, masktab_list}
use Rattle.ac_base.proofs.AllocationTables.{latab_small, starts_past, starts_rise, band_ends_after}

pub logadd_bound : (a b m : ℕ) → a ≤ m → b ≤ m → logadd a b ≤ m + 64
unfolding logadd
logadd_bound a b m p q =
    omega (arith, latab_small (min (abs_diff a b / 2) 255) (omega arith))

pub folded_bound : (f : ℕ → ℕ) (a n m : ℕ) → ((j : ℕ) → a ≤ j → j ≤ a + n → f j ≤ m) → folded f a n ≤ m + 64 * n
folded_bound f a zero m h = omega (arith, h a (omega arith) (omega arith))
folded_bound f a (suc n) m h =
    let rest = folded_bound f a n m (λ j p q. h j p (omega arith)) in
    let here = h (a + suc n) (omega arith) (omega arith) in
    omega (arith, logadd_bound (folded f a n) (f (a + suc n)) (m + 64 * n) rest (omega arith))

pub folded_more : (f : ℕ → ℕ) (a n k : ℕ) → a + n + 1 ≡ k → folded f a (n + 1) ≡ logadd (folded f a n) (f k)
folded_more f a n k e =
    let s : a + suc n ≡ k = omega arith in
    rw add-one (ap (λ x. logadd (folded f a n) (f x)) s)

and_false : (a : Bool) → (a && false) ≡ false
and_false true = refl
and_false false = refl

-- the three cases of a band: it meets the span, begins after it, ends before it
pub bndpsd_meets : (start end : ℕ) (exps : List ℕ) (b : ℕ) → slice_index bndtab_list b < end → start < slice_index bndtab_list (b + 1) → bndpsd start end exps b ≡ folded (psd exps) (first_bin start b) (last_bin end b - first_bin start b)
bndpsd_meets start end exps b l m =
    let p : nat_lt (slice_index bndtab_list b) end ≡ true = grind (arith, nat_tests) in
    let q : nat_lt start (slice_index bndtab_list (b + 1)) ≡ true = grind (arith, nat_tests) in
    let w = λ (t : Bool). if t then folded (psd exps) (first_bin start b) (last_bin end b - first_bin start b) else 0 in
    ap (λ t. w (t && nat_lt start (slice_index bndtab_list (b + 1)))) p ∙ ap w q

pub bndpsd_after : (start end : ℕ) (exps : List ℕ) (b : ℕ) → end ≤ slice_index bndtab_list b → bndpsd start end exps b ≡ 0
bndpsd_after start end exps b l =
    let p : nat_lt (slice_index bndtab_list b) end ≡ false = grind (arith, nat_tests) in
    let w = λ (t : Bool). if t then folded (psd exps) (first_bin start b) (last_bin end b - first_bin start b) else 0 in
    ap (λ t. w (t && nat_lt start (slice_index bndtab_list (b + 1)))) p

pub bndpsd_before : (start end : ℕ) (exps : List ℕ) (b : ℕ) → slice_index bndtab_list (b + 1) ≤ start → bndpsd start end exps b ≡ 0
bndpsd_before start end exps b l =
    let p : nat_lt start (slice_index bndtab_list (b + 1)) ≡ false = grind (arith, nat_tests) in
    let w = λ (t : Bool). if t then folded (psd exps) (first_bin start b) (last_bin end b - first_bin start b) else 0 in
    ap (λ t. w (nat_lt (slice_index bndtab_list b) end && t)) p ∙ ap w (and_false (nat_lt (slice_index bndtab_list b) end))

-- past the bands there is no bndpsd
pub bndpsd_past : (start end : ℕ) (exps : List ℕ) (b : ℕ) → end ≤ 253 → 50 ≤ b → bndpsd start end exps b ≡ 0
bndpsd_past start end exps b l m =
    elim (cases_eq b 50) [
      | inl e ↦ subst (λ n. bndpsd start end exps n ≡ 0) (sym e) (bndpsd_after start end exps 50 l)
      | inr n ↦ let z = starts_past (b + 1) (omega arith) in bndpsd_before start end exps b (omega arith)
    ]

-- bands behind that of the last bin have no bin
pub bndpsd_behind : (start end : ℕ) (exps : List ℕ) (b : ℕ) → 0 < end → end ≤ 253 → slice_index masktab_list (end - 1) + 1 ≤ b → bndpsd start end exps b ≡ 0
bndpsd_behind start end exps b some l m =
    elim (cases_lt b 50) [
      | inl h ↦ bndpsd_after start end exps b (omega (arith, band_ends_after (end - 1) (omega arith), starts_rise (slice_index masktab_list (end - 1) + 1) b m (omega arith)))
      | inr h ↦ bndpsd_past start end exps b l (omega arith)
    ]

-- so the densities of a channel's bands alone tell them all
pub bndpsd_alone : (start end to : ℕ) (exps xs : List ℕ) → 0 < end → end ≤ 253 → to ≡ slice_index masktab_list (end - 1) + 1 → ((b : ℕ) → slice_index xs b ≡ bndpsd start end exps b) → (b : ℕ) → slice_index (take to xs) b ≡ bndpsd start end exps b
bndpsd_alone start end to exps xs some l e h b =
    elim (cases_lt b to) [
      | inl below ↦ get_or-take to xs b 0 below ∙ h b
      | inr above ↦ get_or_past (take to xs) b 0 (omega (arith, length-take to xs)) ∙ sym (bndpsd_behind start end exps b some l (omega arith))
    ]

pub bndpsd_alone_bound : (to : ℕ) (xs : List ℕ) → ((b : ℕ) → slice_index xs b ≤ 4544) → (b : ℕ) → slice_index (take to xs) b ≤ 4544
bndpsd_alone_bound to xs h b =
    elim (cases_lt b to) [
      | inl below ↦ omega (arith, get_or-take to xs b 0 below, h b)
      | inr above ↦ omega (arith, get_or_past (take to xs) b 0 (omega (arith, length-take to xs)))
    ]

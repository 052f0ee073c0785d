-- The code of a coefficient is one of its pointer.
use Rattle.std.proofs.Common.{◌≡◌, ℕ, ◌*◌, ◌^◌, ◌<◌, ◌≤◌, ℤ, pos, unsigned_abs, Bool, true, false, List, slice_index, refl, sym, subst, arith}
use Rattle.std.specs.Prelude.{if◌then◌else◌}
use Rattle.std.proofs.lemmas.Bool.Decides.{nat_tests}
use Rattle.std.proofs.lemmas.Int.{unsigned_abs-mul}
use Rattle.std.proofs.Math.Nat.{mul-le-mul_left}
use Rattle.ac_base.specs.declared.spans.Span.{Span}
use Rattle.ac_base.proofs.AllocationTables.{baps_small}
use Rattle.ac_base.proofs.Powers.{pow_le}
use Rattle.ac_alloc.specs.declared.params.Params.{Params}
use Rattle.ac_alloc.specs.Codes.{floor_of}
use Rattle.ac_alloc.specs.Integration.{psd}
use Rattle.ac_alloc.specs.Masking.{mask}
use Rattle.ac_alloc.specs.Pointers.{address, level, bap_at, pointer}
use Rattle.ac_base.specs.Allocation.{masktab_list}
use Rattle.ac_mant.specs.Quantiser.{IsCode, code_of, complement, is_symmetric, level_of, levels, natural, nearest, normalised, width}
use Rattle.ac_mant.proofs.Pointers.{levels_least, width_least, width_most}
use Rattle.ac_mant.proofs.Rounding.{level_around_is, nearest_low, nearest_high, complement_low}

-- ---- a pointer is at most 15
bounded : (b : Bool) (x m : ℕ) → x ≤ m → (if b then 0 else x) ≤ m
bounded true x m l = omega arith
bounded false x m l = l

pub pointer_small : (silent : Bool) (p : Params) (s : Span) (exps : List ℕ) (k t : ℕ) → pointer silent p s exps k t ≤ 15
pointer_small silent p s exps k t =
    bounded silent (bap_at p s exps k t) 15 (baps_small (address (level (mask p s exps (slice_index masktab_list k)) (floor_of p) t) (psd exps k)) (omega arith))

-- ---- codes
level_below : (n : ℕ) (z : ℤ) → 1 ≤ n → unsigned_abs z < 2 ^ 24 → level_of n z < n
unfolding level_of
level_below n z least small =
    let at = level_around_is z n small least in
    subst (λ (y : ℤ). natural y < n) (sym at.1.1) at.1.0

normal_small : (x : ℤ) (e : ℕ) → unsigned_abs x * 2 ^ e < 2 ^ 24 → unsigned_abs (normalised x e) < 2 ^ 24
normal_small x e below = omega (arith, unsigned_abs-mul x (pos (2 ^ e)), below)

picked : (t : Bool) (x y m n : ℕ) → (t ≡ true → x < m) → (t ≡ false → y < n) → (if t then x else y) < (if t then m else n)
picked true x y m n f g = f refl
picked false x y m n f g = g refl

pub code_is : (x : ℤ) (e bap : ℕ) → bap ≤ 15 → unsigned_abs x * 2 ^ e < 2 ^ 24 → IsCode bap (code_of x e bap)
code_is x e bap most below =
    let z = normalised x e in
    let small = normal_small x e below in
    picked (is_symmetric bap) (level_of (levels bap) z) (complement (width bap) (nearest (width bap) z)) (levels bap) (2 ^ width bap)
    (λ even. let few : bap ≤ 5 = grind (arith, nat_tests) in level_below (levels bap) z (levels_least bap few) small)
    (λ odd.
    let many : 6 ≤ bap = grind (arith, nat_tests) in
    let least = width_least bap many most in
    let great = width_most bap most in
    complement_low (width bap) (nearest (width bap) z) (omega (arith, least)) (nearest_low (width bap) z least great small) (nearest_high (width bap) z least great small))

-- ---- below an exponent that fits another does
pub below_fits : (a e f : ℕ) → e ≤ f → a * 2 ^ f < 2 ^ 24 → a * 2 ^ e < 2 ^ 24
below_fits a e f l fits = omega (arith, mul-le-mul_left a (pow_le e f l), fits)

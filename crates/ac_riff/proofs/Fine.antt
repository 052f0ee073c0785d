-- What an accepted format has.
use Rattle.std.proofs.Common.{◌≡◌, ℕ, zero, suc, ◌≤◌, Bool, true, false, List, [], ◌∷◌, Option, Some, None, refl, sym, subst, ap, ◌∙◌, arith, inl, inr, lit≤, leb-true, eqb-true}
use Rattle.std.specs.Prelude.{◌⊎◌, if◌then◌else◌, ◌==◌, ◌&&◌, ◌||◌, not, leb}
use Rattle.ac_riff.specs.declared.format.Format.{Format}
use Rattle.ac_riff.specs.declared.format.Fault.{Fault}
use Rattle.ac_riff.specs.Layout.{has_lfe, acmod_of, channel_count, default_mask}
use Rattle.ac_riff.specs.Format.{Test, first_failing, first_fault, common_tests, extension_tests, is_extensible, fault_of, layout_of, IsFine}

-- all tests hold
abbrev Holds : List Test → Type 0
Holds [] = Unit {0}
Holds (t ∷ ts) = (t.holds ≡ true) × Holds ts

one_holds : (b : Bool) (x : Option Fault) (fault : Fault) → (if b then x else Some fault) ≡ None → (b ≡ true) × (x ≡ None)
one_holds true x fault e = (refl, e)
one_holds false x fault e = cc

all_hold : (ts : List Test) → first_failing ts ≡ None → Holds ts
all_hold [] e = tt
all_hold (t ∷ ts) e =
    let p = one_holds t.holds (first_failing ts) (record { kind = t.kind; place = t.place }) e in
    (p.0, all_hold ts p.1)

first_none : (a b : Option Fault) → first_fault a b ≡ None → (a ≡ None) × (b ≡ None)
first_none None b e = (refl, e)
first_none (Some fault) b e = cc

-- the usual masks stand for as many channels
usual : (c : ℕ) → 1 ≤ c → c ≤ 6 → (1 ≤ acmod_of (default_mask c)) × (channel_count (acmod_of (default_mask c)) (has_lfe (default_mask c)) ≡ c)
usual zero h k = absurd (omega arith)
usual (suc zero) h k = (lit≤ tt, refl)
usual (suc (suc zero)) h k = (lit≤ tt, refl)
usual (suc (suc (suc zero))) h k = (lit≤ tt, refl)
usual (suc (suc (suc (suc zero)))) h k = (lit≤ tt, refl)
usual (suc (suc (suc (suc (suc zero))))) h k = (lit≤ tt, refl)
usual (suc (suc (suc (suc (suc (suc zero)))))) h k = (lit≤ tt, refl)
usual (suc (suc (suc (suc (suc (suc (suc n))))))) h k = absurd (omega arith)

both : (b : Bool) → (b ≡ true) ⊎ (b ≡ false)
both true = inl refl
both false = inr refl

and_left : (a b : Bool) → (a && b) ≡ true → a ≡ true
and_left true b e = refl
and_left false b e = cc

and_right : (a b : Bool) → (a && b) ≡ true → b ≡ true
and_right true b e = e
and_right false b e = cc

or_cases : (a b : Bool) → (a || b) ≡ true → (a ≡ true) ⊎ (b ≡ true)
or_cases true b e = inl refl
or_cases false b e = inr e

or_right : (a b : Bool) → a ≡ false → (a || b) ≡ true → b ≡ true
or_right true b z e = cc
or_right false b z e = e

not_zero : (n : ℕ) → not (n == 0) ≡ true → 1 ≤ n
not_zero zero e = let h : false ≡ true = e in cc
not_zero (suc n) e = omega arith

bits_fine : (n : ℕ) → (n == 16 || n == 24) ≡ true → (n ≡ 16) ⊎ (n ≡ 24)
bits_fine n e = elim (or_cases (n == 16) (n == 24) e) [ inl h ↦ inl (eqb-true n 16 h) | inr h ↦ inr (eqb-true n 24 h) ]

usual_layout : (f : Format) → layout_of f ≡ default_mask f.channels → 1 ≤ f.channels → f.channels ≤ 6 → (1 ≤ acmod_of (layout_of f)) × (channel_count (acmod_of (layout_of f)) (has_lfe (layout_of f)) ≡ f.channels)
usual_layout f e least most = subst (λ (m : ℕ). (1 ≤ acmod_of m) × (channel_count (acmod_of m) (has_lfe m) ≡ f.channels)) (sym e) (usual f.channels least most)

named_layout : (f : Format) → is_extensible f ≡ true → (f.mask == 0) ≡ false → layout_of f ≡ f.mask → first_failing (extension_tests f) ≡ None → (1 ≤ acmod_of (layout_of f)) × (channel_count (acmod_of (layout_of f)) (has_lfe (layout_of f)) ≡ f.channels)
named_layout f x z e none =
    let tests = all_hold (extension_tests f) none in
    let mode : 1 ≤ acmod_of f.mask = not_zero (acmod_of f.mask) (or_right (f.mask == 0) (not (acmod_of f.mask == 0)) z tests.1.0) in
    let count : channel_count (acmod_of f.mask) (has_lfe f.mask) ≡ f.channels =
    eqb-true (channel_count (acmod_of f.mask) (has_lfe f.mask)) f.channels (or_right (f.mask == 0) (channel_count (acmod_of f.mask) (has_lfe f.mask) == f.channels) z tests.1.1.0) in
    subst (λ (m : ℕ). (1 ≤ acmod_of m) × (channel_count (acmod_of m) (has_lfe m) ≡ f.channels)) (sym e) (mode, count)

chosen : (f : Format) (x z : Bool) → is_extensible f ≡ x → (f.mask == 0) ≡ z → layout_of f ≡ (if x && not z then f.mask else default_mask f.channels)
chosen f x z e h = ap (λ b. if b && not (f.mask == 0) then f.mask else default_mask f.channels) e ∙ ap (λ b. if x && not b then f.mask else default_mask f.channels) h

layout_fine : (f : Format) → fault_of f ≡ None → 1 ≤ f.channels → f.channels ≤ 6 → (1 ≤ acmod_of (layout_of f)) × (channel_count (acmod_of (layout_of f)) (has_lfe (layout_of f)) ≡ f.channels)
layout_fine f e least most =
    let p = first_none (first_failing (common_tests f)) (if is_extensible f then first_failing (extension_tests f) else None) e in
    elim (both (is_extensible f)) [
      | inl x ↦ elim (both (f.mask == 0)) [
        | inl z ↦ usual_layout f (chosen f true true x z) least most
        | inr z ↦ named_layout f x z (chosen f true false x z) (sym (ap (λ b. if b then first_failing (extension_tests f) else None) x) ∙ p.1)
      ]
      | inr x ↦ usual_layout f (chosen f false (f.mask == 0) x refl) least most
    ]

pub fine : (f : Format) → fault_of f ≡ None → IsFine f
fine f e =
    let p = first_none (first_failing (common_tests f)) (if is_extensible f then first_failing (extension_tests f) else None) e in
    let common = all_hold (common_tests f) p.0 in
    let few = common.1.1.1.0 in
    let least : 1 ≤ f.channels = leb-true 1 f.channels (and_left (leb 1 f.channels) (leb f.channels 6) few) in
    let most : f.channels ≤ 6 = leb-true f.channels 6 (and_right (leb 1 f.channels) (leb f.channels 6) few) in
    let layout = layout_fine f e least most in
    record {
      least = least;
      most = most;
      bits_are = bits_fine f.bits common.1.1.1.1.1.0;
      mode = layout.0;
      count = layout.1;
    }

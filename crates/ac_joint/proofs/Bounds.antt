-- What stays below 2 ^ 24 in magnitude, and where the spans end.
use Rattle.std.proofs.Common.{◌≡◌, ℕ, ◌+◌, ◌-◌, ◌*◌, ◌^◌, ◌<◌, ◌≤◌, Bool, ℤ, pos, negsuc, ◌+ℤ◌, neg_ℤ, arith, refl, inl, inr, subst, sym, ap, ◌∙◌}
use Rattle.std.specs.Prelude.{unsigned_abs, nat_le, nat_eq, Option, Some, None, if◌then◌else◌}
use Rattle.std.proofs.lemmas.Bool.{cases_lt, cases_eq, leb-true, lt-ltb, le-ltb, eq-eqb, ne_eqb}
use Rattle.std.proofs.lemmas.Int.{ints}
use Rattle.std.proofs.lemmas.Nat.{div_below}
use Rattle.ac_base.specs.declared.shapes.Shape.{Shape}
use Rattle.ac_base.specs.declared.spans.Span.{Span}
use Rattle.ac_base.specs.Floor.{floor_div}
use Rattle.ac_base.specs.Shape.{full_of, span_of, full_span, next_span, low_span, IsCoupling}
use Rattle.ac_base.specs.Sigma.{sigma}
use Rattle.ac_base.proofs.Sums.{sigma_bound}
use Rattle.ac_base.proofs.Tests.{all_below-at}
use Rattle.ac_energy.specs.Coefficients.{Coefficients}
use Rattle.ac_coupling.specs.Coupling.{mean_of, end_by}
use Rattle.ac_rematrix.specs.Rematrix.{half_of}

floor_within : (z : ℤ) (d m : ℕ) → 1 ≤ d → unsigned_abs z ≤ d * m → unsigned_abs (floor_div z d) ≤ m
floor_within (pos n) d m some h = omega (arith, div_below n d (m + 1) some (omega arith))
floor_within (negsuc n) d m some h = omega (arith, div_below n d m some (omega arith))

pub half_small : (z : ℤ) → unsigned_abs z ≤ 2 * (2 ^ 24 - 1) → unsigned_abs (half_of z) < 2 ^ 24
half_small z h = omega (arith, floor_within z 2 (2 ^ 24 - 1) (omega arith) h)

pub half_sum_small : (x y : ℤ) → unsigned_abs x < 2 ^ 24 → unsigned_abs y < 2 ^ 24 → unsigned_abs (half_of (x +ℤ y)) < 2 ^ 24
half_sum_small x y p q = half_small (x +ℤ y) (omega (arith, ints))

pub half_difference_small : (x y : ℤ) → unsigned_abs x < 2 ^ 24 → unsigned_abs y < 2 ^ 24 → unsigned_abs (half_of (x +ℤ neg_ℤ y)) < 2 ^ 24
half_difference_small x y p q = half_small (x +ℤ neg_ℤ y) (omega (arith, ints))

pub mean_small : (full : ℕ) (x : Coefficients) (b k : ℕ) → 1 ≤ full → ((c : ℕ) → c < full → unsigned_abs (x c b k) < 2 ^ 24) → unsigned_abs (mean_of full x b k) < 2 ^ 24
mean_small full x b k some small =
    let sum = sigma_bound (λ c. x c b k) (2 ^ 24 - 1) full (λ c below. omega (arith, small c below)) in
    omega (arith, floor_within (sigma full (λ c. x c b k)) full (2 ^ 24 - 1) some sum)

pub full_some : (acmod : ℕ) → 1 ≤ acmod → acmod ≤ 7 → 1 ≤ full_of acmod
full_some acmod some most = leb-true 1 (full_of acmod) (all_below-at 8 (λ a. nat_le 1 (full_of a)) refl acmod (omega arith))

-- ---- the ends of spans

full_end : (acmod bw : ℕ) (couple : Option (ℕ × ℕ)) → bw ≤ 60 → IsCoupling acmod couple → (full_span bw couple).end ≤ 253
full_end acmod bw None wide is = omega arith
full_end acmod bw (Some p) wide is = omega (arith, (is p refl).1)

next_end : (acmod : ℕ) (couple : Option (ℕ × ℕ)) → IsCoupling acmod couple → (next_span couple).end ≤ 253
next_end acmod None is = omega arith
next_end acmod (Some p) is = omega (arith, (is p refl).2)

pub end_by_small : (acmod : ℕ) (couple : Option (ℕ × ℕ)) → IsCoupling acmod couple → end_by couple ≤ 253
end_by_small acmod None is = omega arith
end_by_small acmod (Some p) is = omega (arith, (is p refl).2)

-- the span of a full channel, of the next one and of those behind
pub span_full : (acmod bw : ℕ) (couple : Option (ℕ × ℕ)) (c : ℕ) → c < full_of acmod → span_of acmod bw couple c ≡ full_span bw couple
span_full acmod bw couple c below = ap (λ (t : Bool). if t then full_span bw couple else (if nat_eq c (full_of acmod) then next_span couple else low_span)) (lt-ltb c (full_of acmod) below)

pub span_next : (acmod bw : ℕ) (couple : Option (ℕ × ℕ)) (c : ℕ) → c ≡ full_of acmod → span_of acmod bw couple c ≡ next_span couple
span_next acmod bw couple c is =
    ap (λ (t : Bool). if t then full_span bw couple else (if nat_eq c (full_of acmod) then next_span couple else low_span)) (le-ltb c (full_of acmod) (omega arith))
    ∙ ap (λ (t : Bool). if t then next_span couple else low_span) (eq-eqb c (full_of acmod) is)

span_rest : (acmod bw : ℕ) (couple : Option (ℕ × ℕ)) (c : ℕ) → full_of acmod < c → span_of acmod bw couple c ≡ low_span
span_rest acmod bw couple c above =
    ap (λ (t : Bool). if t then full_span bw couple else (if nat_eq c (full_of acmod) then next_span couple else low_span)) (le-ltb c (full_of acmod) (omega arith))
    ∙ ap (λ (t : Bool). if t then next_span couple else low_span) (ne_eqb c (full_of acmod) (λ e. omega arith))

pub span_end : (shape : Shape) (c : ℕ) → (span_of shape.acmod shape.bw shape.couple c).end ≤ 253
span_end shape c =
    let P : Span → Type 0 = λ s. s.end ≤ 253 in
    elim (cases_lt c (full_of shape.acmod)) [
      | inl below ↦ subst P (sym (span_full shape.acmod shape.bw shape.couple c below)) (full_end shape.acmod shape.bw shape.couple shape.bandwidth shape.coupling)
      | inr above ↦ elim (cases_eq c (full_of shape.acmod)) [
        | inl is ↦ subst P (sym (span_next shape.acmod shape.bw shape.couple c is)) (next_end shape.acmod shape.couple shape.coupling)
        | inr other ↦ subst P (sym (span_rest shape.acmod shape.bw shape.couple c (omega arith))) (omega arith)
      ]
    ]

-- The bins of the coded channels of a shape, and which numbers channels have.
use Rattle.std.proofs.Common.{◌≡◌, ℕ, zero, suc, ◌+◌, ◌<◌, ◌≤◌, Bool, true, false, Option, Some, None, nat_lt, refl, arith}
use Rattle.std.specs.Prelude.{is_some, if◌then◌else◌, nat_eq}
use Rattle.std.proofs.lemmas.Bool.{le-ltb, eq-eqb, ne_eqb, ltb-true}
use Rattle.ac_base.specs.declared.shapes.Shape.{Shape}
use Rattle.ac_base.specs.declared.spans.Span.{Span}
use Rattle.ac_base.specs.Shape.{IsSpan, IsCoupling, full_of, full_span, next_span, low_span, span_of, coded_of, count_of}
use Rattle.ac_expo.specs.Raw.{channel_span, channels}
use Rattle.ac_sent.specs.Fields.{low_number}

either : (b : Bool) (x y : Span) → IsSpan x → IsSpan y → IsSpan (if b then x else y)
either true x y p q = p
either false x y p q = q

full_is : (acmod bw : ℕ) (couple : Option (ℕ × ℕ)) → bw ≤ 60 → IsCoupling acmod couple → IsSpan (full_span bw couple)
full_is acmod bw None l is = (refl, (bw, l, refl))
full_is acmod bw (Some p) l is = (refl, (p.0, (is p refl).1, refl))

next_is : (acmod : ℕ) (couple : Option (ℕ × ℕ)) → IsCoupling acmod couple → IsSpan (next_span couple)
next_is acmod None is = (refl, refl)
next_is acmod (Some p) is = let h = is p refl in (p.0, p.1, h.1, h.2, h.3, refl, refl)

span_is : (acmod bw : ℕ) (couple : Option (ℕ × ℕ)) (c : ℕ) → bw ≤ 60 → IsCoupling acmod couple → IsSpan (span_of acmod bw couple c)
span_is acmod bw couple c l is =
    either (nat_lt c (full_of acmod)) (full_span bw couple) (if nat_eq c (full_of acmod) then next_span couple else low_span) (full_is acmod bw couple l is) (either (nat_eq c (full_of acmod)) (next_span couple) low_span (next_is acmod couple is) (refl, refl))

pub is_span : (shape : Shape) (c : ℕ) → IsSpan (channel_span shape c)
is_span shape c = span_is shape.acmod shape.bw shape.couple c shape.bandwidth shape.coupling

-- ---- by what a channel is
pub span_full : (shape : Shape) (c : ℕ) → nat_lt c (full_of shape.acmod) ≡ true → channel_span shape c ≡ full_span shape.bw shape.couple
span_full shape c e = rw e refl

pub span_next : (shape : Shape) → channel_span shape (full_of shape.acmod) ≡ next_span shape.couple
span_next shape = rw (le-ltb (full_of shape.acmod) (full_of shape.acmod) (omega arith), eq-eqb (full_of shape.acmod) (full_of shape.acmod) refl) refl

low_by : (acmod bw : ℕ) (couple : Option (ℕ × ℕ)) → span_of acmod bw couple (coded_of acmod false couple) ≡ low_span
low_by acmod bw None = rw (le-ltb (coded_of acmod false None) (full_of acmod) (omega arith), eq-eqb (coded_of acmod false None) (full_of acmod) (omega arith)) refl
low_by acmod bw (Some p) = rw (le-ltb (coded_of acmod false (Some p)) (full_of acmod) (omega arith), ne_eqb (coded_of acmod false (Some p)) (full_of acmod) (omega arith)) refl

pub span_low : (shape : Shape) → channel_span shape (low_number shape) ≡ low_span
span_low shape = low_by shape.acmod shape.bw shape.couple

-- ---- which there are
pub full_coded : (shape : Shape) (c : ℕ) → nat_lt c (full_of shape.acmod) ≡ true → c < channels shape
full_coded shape c e = omega (arith, ltb-true c (full_of shape.acmod) e)

coupled_by : (acmod : ℕ) (low used : Bool) → used ≡ true → full_of acmod < full_of acmod + count_of used + count_of low
coupled_by acmod low true e = omega arith
coupled_by acmod low false e = absurd cc

pub coupling_coded : (shape : Shape) → is_some shape.couple ≡ true → full_of shape.acmod < channels shape
coupling_coded shape e = coupled_by shape.acmod shape.lfe (is_some shape.couple) e

low_coded_by : (n : ℕ) (low : Bool) → low ≡ true → n + count_of false < n + count_of low
low_coded_by n true e = omega arith
low_coded_by n false e = absurd cc

pub low_coded : (shape : Shape) → shape.lfe ≡ true → low_number shape < channels shape
low_coded shape e = low_coded_by (full_of shape.acmod + count_of (is_some shape.couple)) shape.lfe e

-- ---- how many full channels
full_by : (acmod : ℕ) → 1 ≤ acmod → acmod ≤ 7 → (1 ≤ full_of acmod) × (full_of acmod ≤ 5) × (2 ≤ acmod → 2 ≤ full_of acmod)
full_by zero l m = absurd (omega arith)
full_by (suc zero) l m = (omega arith, omega arith, λ h. absurd (omega arith))
full_by (suc (suc zero)) l m = (omega arith, omega arith, λ h. omega arith)
full_by (suc (suc (suc zero))) l m = (omega arith, omega arith, λ h. omega arith)
full_by (suc (suc (suc (suc zero)))) l m = (omega arith, omega arith, λ h. omega arith)
full_by (suc (suc (suc (suc (suc zero))))) l m = (omega arith, omega arith, λ h. omega arith)
full_by (suc (suc (suc (suc (suc (suc zero)))))) l m = (omega arith, omega arith, λ h. omega arith)
full_by (suc (suc (suc (suc (suc (suc (suc zero))))))) l m = (omega arith, omega arith, λ h. omega arith)
full_by (suc (suc (suc (suc (suc (suc (suc (suc n)))))))) l m = absurd (omega arith)

pub full_least : (shape : Shape) → 1 ≤ full_of shape.acmod
full_least shape = (full_by shape.acmod shape.some_channel shape.channels).0

pub full_most : (shape : Shape) → full_of shape.acmod ≤ 5
full_most shape = (full_by shape.acmod shape.some_channel shape.channels).1

pub full_two : (shape : Shape) → 2 ≤ shape.acmod → 2 ≤ full_of shape.acmod
full_two shape h = (full_by shape.acmod shape.some_channel shape.channels).2 h

-- What stands outside the spans of the coded channels.
use Rattle.std.proofs.Common.{◌≡◌, ℕ, ◌+◌, ◌<◌, ℤ, arith, length-set, List, [], length, slice_index, slice_index_or, get_or-set_same, get_or-set_other, set, sym, ap, ◌∙◌, inl, inr, subst}
use Rattle.std.specs.Prelude.{replicate}
use Rattle.std.proofs.lemmas.Bool.{cases_eq}
use Rattle.std.proofs.lemmas.List.{get_or-replicate}
use Rattle.ac_base.specs.declared.shapes.Shape.{Shape}
use Rattle.ac_base.specs.declared.spans.Span.{Span}
use Rattle.ac_base.specs.Spans.{IsIn}
use Rattle.ac_expo.specs.Raw.{channels, channel_span, AreRawInBlocks, KeepsOutside, KeepsElsewhere, AreSilentElsewhere}

-- a channel's blocks are written, and keep what stands outside its span
pub kept_at : (shape : Shape) (old es : List (List (List ℕ))) (c : ℕ) (rows : List (List ℕ)) → c < channels shape → c < length es → KeepsOutside (channel_span shape c) (slice_index_or es c []) rows → KeepsElsewhere shape old es → KeepsElsewhere shape old (set es c rows)
kept_at shape old es c rows coded room outside before = λ d b k out.
    elim (cases_eq d c) [
      | inl same ↦
          subst
          (λ x. (x < channels shape → IsIn (channel_span shape x) k → ⊥) → slice_index (slice_index_or (slice_index_or (set es c rows) x []) b []) k ≡ slice_index (slice_index_or (slice_index_or old x []) b []) k)
          (sym same)
          (λ o. ap (λ r. slice_index (slice_index_or r b []) k) (get_or-set_same es c rows [] room) ∙ outside b k (o coded) ∙ before c b k o)
          out
      | inr other ↦ ap (λ r. slice_index (slice_index_or r b []) k) (get_or-set_other es c d rows [] other) ∙ before d b k out
    ]

-- a channel's blocks are written: those of the channels before it stay
pub raw_at : (shape : Shape) (coefs : List (List (List ℤ))) (es : List (List (List ℕ))) (c : ℕ) (rows : List (List ℕ)) → c < length es → AreRawInBlocks (channel_span shape c) (slice_index_or coefs c []) rows → ((d : ℕ) → d < c → AreRawInBlocks (channel_span shape d) (slice_index_or coefs d []) (slice_index_or es d [])) → (d : ℕ) → d < c + 1 → AreRawInBlocks (channel_span shape d) (slice_index_or coefs d []) (slice_index_or (set es c rows) d [])
raw_at shape coefs es c rows room now before d within =
    elim (cases_eq d c) [
      | inl same ↦
          subst (λ x. AreRawInBlocks (channel_span shape x) (slice_index_or coefs x []) (slice_index_or (set es c rows) x [])) (sym same)
          (subst (λ r. AreRawInBlocks (channel_span shape c) (slice_index_or coefs c []) r) (sym (get_or-set_same es c rows [] room)) now)
      | inr other ↦
          subst (λ r. AreRawInBlocks (channel_span shape d) (slice_index_or coefs d []) r) (sym (get_or-set_other es c d rows [] other)) (before d (omega arith))
    ]

-- what the blocks of a channel, written at its place, leave
pub written_at : (shape : Shape) (coefs : List (List (List ℤ))) (old es : List (List (List ℕ))) (c i : ℕ) (span : Span) (rows : List (List ℕ)) → i ≡ c → span ≡ channel_span shape c → c < channels shape → length es ≡ 7 → c < 7
    → AreRawInBlocks span (slice_index_or coefs i []) rows → KeepsOutside span (slice_index_or es i []) rows
    → ((d : ℕ) → d < c → AreRawInBlocks (channel_span shape d) (slice_index_or coefs d []) (slice_index_or es d [])) → KeepsElsewhere shape old es
    → (length (set es i rows) ≡ 7) × ((d : ℕ) → d < c + 1 → AreRawInBlocks (channel_span shape d) (slice_index_or coefs d []) (slice_index_or (set es i rows) d [])) × KeepsElsewhere shape old (set es i rows)
written_at shape coefs old es c i span rows at is coded long small raw outside before kept =
    let room : c < length es = omega (arith, long) in
    let raw_here : AreRawInBlocks (channel_span shape c) (slice_index_or coefs c []) rows =
    subst (λ s. AreRawInBlocks s (slice_index_or coefs c []) rows) is (subst (λ x. AreRawInBlocks span (slice_index_or coefs x []) rows) at raw) in
    let outside_here : KeepsOutside (channel_span shape c) (slice_index_or es c []) rows =
    subst (λ s. KeepsOutside s (slice_index_or es c []) rows) is (subst (λ x. KeepsOutside span (slice_index_or es x []) rows) at outside) in
    let P : ℕ → Type 0 = λ x. (length (set es x rows) ≡ 7) × ((d : ℕ) → d < c + 1 → AreRawInBlocks (channel_span shape d) (slice_index_or coefs d []) (slice_index_or (set es x rows) d [])) × KeepsElsewhere shape old (set es x rows) in
    subst P (sym at) (length-set es c rows ∙ long, raw_at shape coefs es c rows room raw_here before, kept_at shape old es c rows coded room outside_here kept)

abbrev pub silence : List (List (List ℕ))
silence = replicate 7 (replicate 6 (replicate 256 24))

pub silence_at : (c b k : ℕ) → c < 7 → b < 6 → k < 256 → slice_index (slice_index_or (slice_index_or silence c []) b []) k ≡ 24
silence_at c b k hc hb hk =
    ap (λ r. slice_index (slice_index_or r b []) k) (get_or-replicate 7 c (replicate 6 (replicate 256 24)) [] hc)
    ∙ ap (λ r. slice_index r k) (get_or-replicate 6 b (replicate 256 24) [] hb)
    ∙ get_or-replicate 256 k 24 0 hk

pub silent : (shape : Shape) (es : List (List (List ℕ))) → KeepsElsewhere shape silence es → AreSilentElsewhere shape es
silent shape es kept = λ c b k hc hb hk out. kept c b k out ∙ silence_at c b k hc hb hk

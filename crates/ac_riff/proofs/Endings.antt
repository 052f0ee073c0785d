-- A list of bytes ends in one way before its data: by its head, by what stands behind its chunks, or by its `fmt ` chunk.
use Rattle.std.proofs.Common.{◌≡◌, ◌⊎◌, ℕ, ◌+◌, ◌≤◌, ◌<◌, List, length, drop, Option, None, Some, inl, inr, refl, sym, ap, subst, ◌∙◌, arith}
use Rattle.ac_riff.specs.declared.fault.WavKind.{WavKind}
use Rattle.ac_riff.specs.declared.fault.WavKind.TheVariants.{Short, NotRiff, NoFmt, NoData, BadFmt, Unsupported}
use Rattle.ac_riff.specs.declared.format.Fault.{Fault}
use Rattle.ac_riff.specs.declared.head.WavHead.{WavHead}
use Rattle.ac_riff.specs.Format.{format_of, fault_of}
use Rattle.ac_riff.specs.Form.{size_of, body_of, IsRiff, IsOpen, IsFormatted, IsDataAt, IsHead, head_of}
use Rattle.ac_riff.specs.Refusal.{Reaches, IsCutAt, IsNoRiff, IsFaulty, Refuses}
use Rattle.ac_riff.proofs.Unique.{open_before}
use Rattle.ac_riff.proofs.Ways.{GoesOn, HasFormat, passed_goes, formatted_has, faulty_has, one_start, one_chunk, open_goes, formatted_before}

-- ---- where the chunks end

-- no chunk that can be passed over begins at this place: `data`, a cut chunk, or the list's end
abbrev pub IsEnd : List ℕ → ℕ → Type 0
IsEnd bytes place = IsDataAt bytes place ⊎ (IsCutAt bytes place ⊎ (place ≡ length bytes))

end_stays : (bytes : List ℕ) (place : ℕ) → GoesOn bytes place → IsEnd bytes place → ⊥
end_stays bytes place g (inl d) = g.no_data d.named
end_stays bytes place g (inr (inl (more, inl short))) = let w = g.within in absurd (omega arith)
end_stays bytes place g (inr (inl (more, inr c))) = let w = g.within in let short = c.2 in absurd (omega arith)
end_stays bytes place g (inr (inr e)) = let w = g.within in absurd (omega arith)

data_whole : (bytes : List ℕ) (place : ℕ) → IsDataAt bytes place → IsCutAt bytes place → ⊥
data_whole bytes place d (more, inl short) = let long = d.long in absurd (omega arith)
data_whole bytes place d (more, inr c) = c.1 d.named

data_inside : (bytes : List ℕ) (place : ℕ) → IsDataAt bytes place → place ≡ length bytes → ⊥
data_inside bytes place d e = let long = d.long in absurd (omega arith)

cut_inside : (bytes : List ℕ) (place : ℕ) → IsCutAt bytes place → place ≡ length bytes → ⊥
cut_inside bytes place c e = let more = c.0 in absurd (omega arith)

one_open : (bytes : List ℕ) (p q : ℕ) → IsOpen bytes p → IsOpen bytes q → IsEnd bytes p → IsEnd bytes q → p ≡ q
one_open bytes p q o u e k =
    elim (Rattle.std.proofs.lemmas.Bool.cases_lt p q) [
      | inl h ↦ absurd (end_stays bytes p (passed_goes bytes p (open_before bytes p q o u h)) e)
      | inr h ↦ elim (Rattle.std.proofs.lemmas.Bool.cases_lt q p) [
        | inl i ↦ absurd (end_stays bytes q (passed_goes bytes q (open_before bytes q p u o i)) k)
        | inr i ↦ omega arith
      ]
    ]

one_formatted : (bytes c d : List ℕ) (p q : ℕ) → IsFormatted bytes c p → IsFormatted bytes d q → IsEnd bytes p → IsEnd bytes q → p ≡ q
one_formatted bytes c d p q f g e k =
    elim (Rattle.std.proofs.lemmas.Bool.cases_lt p q) [
      | inl h ↦ absurd (end_stays bytes p (formatted_before bytes c d p q f g h) e)
      | inr h ↦ elim (Rattle.std.proofs.lemmas.Bool.cases_lt q p) [
        | inl i ↦ absurd (end_stays bytes q (formatted_before bytes d c q p g f i) k)
        | inr i ↦ omega arith
      ]
    ]

never_open : (bytes chunk : List ℕ) (p start : ℕ) → IsOpen bytes p → HasFormat bytes chunk start → IsEnd bytes p → ⊥
never_open bytes chunk p start o f e = end_stays bytes p (open_goes bytes chunk p start o f) e

one_end : (bytes : List ℕ) (p q : ℕ) → Reaches bytes p → Reaches bytes q → IsEnd bytes p → IsEnd bytes q → p ≡ q
one_end bytes p q (inl o) (inl u) e k = one_open bytes p q o u e k
one_end bytes p q (inl o) (inr g) e k = absurd (never_open bytes g.0 p g.1.start o (formatted_has bytes g.0 q g.1) e)
one_end bytes p q (inr f) (inl u) e k = absurd (never_open bytes f.0 q f.1.start u (formatted_has bytes f.0 p f.1) k)
one_end bytes p q (inr f) (inr g) e k = one_formatted bytes f.0 g.0 p q f.1 g.1 e k

formatted_fine : (bytes chunk : List ℕ) (p : ℕ) (kind : WavKind) (place : ℕ) → IsFormatted bytes chunk p → IsFaulty bytes kind place → ⊥
formatted_fine bytes chunk p kind place f b =
    let same : chunk ≡ b.chunk = one_chunk bytes chunk b.chunk f.start b.start (formatted_has bytes chunk p f) (faulty_has bytes kind place b) in
    let e : None ≡ Some b.fault = sym f.accepted ∙ (ap (λ c. fault_of (format_of (body_of c))) same ∙ b.first) in
    absurd (cc)

-- ---- why a list is refused: its 12-byte head, where its chunks end, or its `fmt ` chunk

abbrev IsEarly : List ℕ → WavKind → ℕ → Type 0
IsEarly bytes kind place = ((kind ≡ Short) × (place ≡ length bytes) × (length bytes < 12)) ⊎ ((kind ≡ NotRiff) × (12 ≤ length bytes) × IsNoRiff bytes place)

abbrev IsEndOf : List ℕ → WavKind → ℕ → ℕ → Type 0
IsEndOf bytes kind place at = ((kind ≡ Short) × (place ≡ length bytes) × IsCutAt bytes at)
    ⊎ (((kind ≡ NoFmt) × (place ≡ at) × IsDataAt bytes at) ⊎ ((kind ≡ NoData) × (place ≡ at) × (at ≡ length bytes)))

record IsLate (bytes : List ℕ) (kind : WavKind) (place : ℕ) : Type 0 where
  pub at : ℕ
  pub reaches : Reaches bytes at
  pub ends : IsEndOf bytes kind place at

abbrev IsOneOf : List ℕ → WavKind → ℕ → Type 0
IsOneOf bytes kind place = IsEarly bytes kind place ⊎ (IsLate bytes kind place ⊎ IsFaulty bytes kind place)

sorted : (bytes : List ℕ) (kind : WavKind) (place : ℕ) → Refuses bytes kind place → IsOneOf bytes kind place
sorted bytes Short place (e, inl short) = inl (inl (refl, e, short))
sorted bytes Short place (e, inr c) = inr (inl (record { at = c.0; reaches = c.1; ends = inl (refl, e, c.2) }))
sorted bytes NotRiff place r = inl (inr (refl, r.0, r.1))
sorted bytes NoFmt place r = inr (inl (record { at = place; reaches = inl r.0; ends = inr (inl (refl, refl, r.1)) }))
sorted bytes NoData place r = inr (inl (record { at = place; reaches = r.1; ends = inr (inr (refl, refl, r.0)) }))
sorted bytes (BadFmt field) place r = inr (inr r)
sorted bytes (Unsupported field value) place r = inr (inr r)

late_end : (bytes : List ℕ) (kind : WavKind) (place at : ℕ) → IsEndOf bytes kind place at → IsEnd bytes at
late_end bytes kind place at (inl c) = inr (inl c.2)
late_end bytes kind place at (inr (inl d)) = inl d.2
late_end bytes kind place at (inr (inr e)) = inr (inr e.2)

-- ---- a riff head is no early refusal

early_no_riff : (bytes : List ℕ) (kind : WavKind) (place : ℕ) → IsEarly bytes kind place → IsRiff bytes → ⊥
early_no_riff bytes kind place (inl e) r = let short = e.2 in let long = r.long in absurd (omega arith)
early_no_riff bytes kind place (inr (k, long, inl n)) r = n.1 r.riff
early_no_riff bytes kind place (inr (k, long, inr n)) r = n.2 r.wave

reaches_riff : (bytes : List ℕ) (place : ℕ) → Reaches bytes place → IsRiff bytes
reaches_riff bytes place (inl o) = o.riff
reaches_riff bytes place (inr f) = f.1.opened.riff

-- ---- a head

pub never_both : (bytes : List ℕ) (head : WavHead) (kind : WavKind) (place : ℕ) → IsHead bytes head → Refuses bytes kind place → ⊥
never_both bytes head Short place h (e, inl short) = let long = h.formatted.opened.riff.long in absurd (omega arith)
never_both bytes head Short place h (e, inr c) =
    let same = one_end bytes h.place c.0 (inr (h.chunk, h.formatted)) c.1 (inl h.at) (inr (inl c.2)) in
    data_whole bytes c.0 (subst (λ (p : ℕ). IsDataAt bytes p) same h.at) c.2
never_both bytes head NotRiff place h r = early_no_riff bytes NotRiff place (inr (refl, r.0, r.1)) h.formatted.opened.riff
never_both bytes head NoFmt place h r = never_open bytes h.chunk place h.formatted.start r.0 (formatted_has bytes h.chunk h.place h.formatted) (inl r.1)
never_both bytes head NoData place h r =
    let same = one_end bytes h.place place (inr (h.chunk, h.formatted)) r.1 (inl h.at) (inr (inr r.0)) in
    data_inside bytes place (subst (λ (p : ℕ). IsDataAt bytes p) same h.at) r.0
never_both bytes head (BadFmt field) place h r = formatted_fine bytes h.chunk h.place (BadFmt field) place h.formatted r
never_both bytes head (Unsupported field value) place h r = formatted_fine bytes h.chunk h.place (Unsupported field value) place h.formatted r

pub one_head : (bytes : List ℕ) (head other : WavHead) → IsHead bytes head → IsHead bytes other → head ≡ other
one_head bytes head other h k =
    let place : h.place ≡ k.place = one_end bytes h.place k.place (inr (h.chunk, h.formatted)) (inr (k.chunk, k.formatted)) (inl h.at) (inl k.at) in
    let chunk : h.chunk ≡ k.chunk = one_chunk bytes h.chunk k.chunk h.formatted.start k.formatted.start (formatted_has bytes h.chunk h.place h.formatted) (formatted_has bytes k.chunk k.place k.formatted) in
    h.says ∙ (ap (λ c. head_of (format_of (body_of c)) (size_of (drop h.place bytes)) (h.place + 8)) chunk
    ∙ (ap (λ p. head_of (format_of (body_of k.chunk)) (size_of (drop p bytes)) (p + 8)) place ∙ sym k.says))

-- ---- one refusal

one_no_riff : (bytes : List ℕ) (place there : ℕ) → IsNoRiff bytes place → IsNoRiff bytes there → place ≡ there
one_no_riff bytes place there (inl n) (inl m) = n.0 ∙ sym m.0
one_no_riff bytes place there (inl n) (inr m) = absurd (n.1 m.1)
one_no_riff bytes place there (inr n) (inl m) = absurd (m.1 n.1)
one_no_riff bytes place there (inr n) (inr m) = n.0 ∙ sym m.0

one_early : (bytes : List ℕ) (kind other : WavKind) (place there : ℕ) → IsEarly bytes kind place → IsEarly bytes other there → (kind ≡ other) × (place ≡ there)
one_early bytes kind other place there (inl r) (inl s) = (r.0 ∙ sym s.0, r.1 ∙ sym s.1)
one_early bytes kind other place there (inl r) (inr s) = let short = r.2 in let long = s.1 in absurd (omega arith)
one_early bytes kind other place there (inr r) (inl s) = let short = s.2 in let long = r.1 in absurd (omega arith)
one_early bytes kind other place there (inr r) (inr s) = (r.0 ∙ sym s.0, one_no_riff bytes place there r.2 s.2)

one_at : (bytes : List ℕ) (kind other : WavKind) (place there at : ℕ) → IsEndOf bytes kind place at → IsEndOf bytes other there at → (kind ≡ other) × (place ≡ there)
one_at bytes kind other place there at (inl r) (inl s) = (r.0 ∙ sym s.0, r.1 ∙ sym s.1)
one_at bytes kind other place there at (inl r) (inr (inl s)) = absurd (data_whole bytes at s.2 r.2)
one_at bytes kind other place there at (inl r) (inr (inr s)) = absurd (cut_inside bytes at r.2 s.2)
one_at bytes kind other place there at (inr (inl r)) (inl s) = absurd (data_whole bytes at r.2 s.2)
one_at bytes kind other place there at (inr (inl r)) (inr (inl s)) = (r.0 ∙ sym s.0, r.1 ∙ sym s.1)
one_at bytes kind other place there at (inr (inl r)) (inr (inr s)) = absurd (data_inside bytes at r.2 s.2)
one_at bytes kind other place there at (inr (inr r)) (inl s) = absurd (cut_inside bytes at s.2 r.2)
one_at bytes kind other place there at (inr (inr r)) (inr (inl s)) = absurd (data_inside bytes at s.2 r.2)
one_at bytes kind other place there at (inr (inr r)) (inr (inr s)) = (r.0 ∙ sym s.0, r.1 ∙ sym s.1)

one_late : (bytes : List ℕ) (kind other : WavKind) (place there : ℕ) → IsLate bytes kind place → IsLate bytes other there → (kind ≡ other) × (place ≡ there)
one_late bytes kind other place there r s =
    let same : r.at ≡ s.at = one_end bytes r.at s.at r.reaches s.reaches (late_end bytes kind place r.at r.ends) (late_end bytes other there s.at s.ends) in
    one_at bytes kind other place there s.at (subst (λ (p : ℕ). IsEndOf bytes kind place p) same r.ends) s.ends

same_fault : (a b : Fault) → ◌≡◌ {A = Option Fault} (Some a) (Some b) → a ≡ b
same_fault a b e = cc

one_faulty : (bytes : List ℕ) (kind other : WavKind) (place there : ℕ) → IsFaulty bytes kind place → IsFaulty bytes other there → (kind ≡ other) × (place ≡ there)
one_faulty bytes kind other place there r s =
    let has = faulty_has bytes kind place r in
    let too = faulty_has bytes other there s in
    let start : r.start ≡ s.start = one_start bytes r.chunk s.chunk r.start s.start has too in
    let chunk : r.chunk ≡ s.chunk = one_chunk bytes r.chunk s.chunk r.start s.start has too in
    let fault : r.fault ≡ s.fault = same_fault r.fault s.fault (sym r.first ∙ (ap (λ c. fault_of (format_of (body_of c))) chunk ∙ s.first)) in (
      sym r.kind_is ∙ (ap (λ (f : Fault). f.kind) fault ∙ s.kind_is),
      r.place_is ∙ (ap (λ n. n + r.fault.place) start ∙ (ap (λ (f : Fault). s.start + f.place) fault ∙ sym s.place_is)),
    )

reached_fine : (bytes : List ℕ) (kind : WavKind) (place at : ℕ) → Reaches bytes at → IsEnd bytes at → IsFaulty bytes kind place → ⊥
reached_fine bytes kind place at (inl o) e f = never_open bytes f.chunk at f.start o (faulty_has bytes kind place f) e
reached_fine bytes kind place at (inr g) e f = formatted_fine bytes g.0 at kind place g.1 f

late_fine : (bytes : List ℕ) (kind other : WavKind) (place there : ℕ) → IsLate bytes kind place → IsFaulty bytes other there → ⊥
late_fine bytes kind other place there r f = reached_fine bytes other there r.at r.reaches (late_end bytes kind place r.at r.ends) f

one_sorted : (bytes : List ℕ) (kind other : WavKind) (place there : ℕ) → IsOneOf bytes kind place → IsOneOf bytes other there → (kind ≡ other) × (place ≡ there)
one_sorted bytes kind other place there (inl r) (inl s) = one_early bytes kind other place there r s
one_sorted bytes kind other place there (inl r) (inr (inl s)) = absurd (early_no_riff bytes kind place r (reaches_riff bytes s.at s.reaches))
one_sorted bytes kind other place there (inl r) (inr (inr s)) = absurd (early_no_riff bytes kind place r s.opened.riff)
one_sorted bytes kind other place there (inr (inl r)) (inl s) = absurd (early_no_riff bytes other there s (reaches_riff bytes r.at r.reaches))
one_sorted bytes kind other place there (inr (inl r)) (inr (inl s)) = one_late bytes kind other place there r s
one_sorted bytes kind other place there (inr (inl r)) (inr (inr s)) = absurd (late_fine bytes kind other place there r s)
one_sorted bytes kind other place there (inr (inr r)) (inl s) = absurd (early_no_riff bytes other there s r.opened.riff)
one_sorted bytes kind other place there (inr (inr r)) (inr (inl s)) = absurd (late_fine bytes other kind there place s r)
one_sorted bytes kind other place there (inr (inr r)) (inr (inr s)) = one_faulty bytes kind other place there r s

pub one_refusal : (bytes : List ℕ) (kind other : WavKind) (place there : ℕ) → Refuses bytes kind place → Refuses bytes other there → (kind ≡ other) × (place ≡ there)
one_refusal bytes kind other place there r s = one_sorted bytes kind other place there (sorted bytes kind place r) (sorted bytes other there s)

-- The WAV as a whole, and what its first bytes tell of it.
use Rattle.std.proofs.Common.{◌≡◌, ◌⊎◌, ℕ, ◌+◌, ◌-◌, ◌*◌, ◌≤◌, ◌<◌, List, length, take, drop, Option, None, Some, inl, inr, refl, sym, ap, subst, ◌∙◌, arith}
use Rattle.std.specs.Prelude.{ℤ}
use Rattle.std.proofs.lemmas.Bool.{cases_lt}
use Rattle.std.proofs.lemmas.List.{take_all}
use Rattle.ac_riff.specs.declared.fault.WavKind.{WavKind}
use Rattle.ac_riff.specs.declared.fault.WavKind.TheVariants.{Short, NotRiff, NoFmt, NoData, BadFmt, Unsupported}
use Rattle.ac_riff.specs.declared.fault.WavFault.TheVariants.{Bad, TooLong}
use Rattle.ac_riff.specs.declared.head.WavHead.{WavHead}
use Rattle.ac_riff.specs.Form.{IsHead}
use Rattle.ac_wav.specs.Samples.{stated}
use Rattle.ac_wav.specs.Whole.{IsWav}
use Rattle.ac_riff.specs.Refusal.{Refuses, IsTooLong, IsStopped, HeadRead}
use Rattle.ac_io.specs.Within.{IsAt}
use Rattle.ac_wav.specs.Samples.{align_of, data_length, part_of, frame_bytes, SamplesRead, IsUnsampled}
use Rattle.ac_wav.specs.Whole.{end_of, behind, HasCutData, RefusesWav, RunsOn, NeedsMore, EndsWithin, RefusedWithin}
use Rattle.ac_riff.proofs.Chunks.{length_cut}
use Rattle.ac_riff.proofs.Endings.{never_both, one_head, one_refusal}
use Rattle.ac_riff.proofs.Fronts.{taken_within, head_cut, head_back, back_below, refused_back}
use Rattle.ac_riff.proofs.Each.{each}

-- ---- the whole list

-- data that run on end with the list
pub runs_end : (bytes : List ℕ) (head : WavHead) → IsHead bytes head → head.size ≡ None → end_of head bytes ≡ length bytes
runs_end bytes head h e =
    let same : end_of head bytes ≡ head.taken + (length bytes - head.taken) = ap (λ s. head.taken + stated s (length bytes - head.taken)) e in
    omega (arith, same, taken_within bytes head h)

-- data of a stated size end where it says
pub stated_end : (bytes : List ℕ) (head : WavHead) (size : ℕ) → head.size ≡ Some size → end_of head bytes ≡ head.taken + size
stated_end bytes head size e = ap (λ s. head.taken + stated s (length bytes - head.taken)) e

never_cut : (bytes : List ℕ) (head : WavHead) → IsHead bytes head → end_of head bytes ≤ length bytes → HasCutData bytes → ⊥
never_cut bytes head h whole c =
    let same : end_of head bytes ≡ end_of c.head bytes = ap (λ x. end_of x bytes) (one_head bytes head c.head h c.begins) in
    absurd (omega (arith, whole, c.cut, same))

pub wav_never_both : (bytes : List ℕ) (head : WavHead) (kind : WavKind) (place : ℕ) → IsWav bytes head → RefusesWav bytes kind place → ⊥
wav_never_both bytes head kind place w (inl r) = never_both bytes head kind place w.begins r
wav_never_both bytes head kind place w (inr c) = never_cut bytes head w.begins w.whole c.2

pub wav_one_head : (bytes : List ℕ) (head other : WavHead) → IsWav bytes head → IsWav bytes other → head ≡ other
wav_one_head bytes head other w v = one_head bytes head other w.begins v.begins

pub wav_one_refusal : (bytes : List ℕ) (kind other : WavKind) (place there : ℕ) → RefusesWav bytes kind place → RefusesWav bytes other there → (kind ≡ other) × (place ≡ there)
wav_one_refusal bytes kind other place there (inl r) (inl s) = one_refusal bytes kind other place there r s
wav_one_refusal bytes kind other place there (inl r) (inr d) = absurd (never_both bytes d.2.head kind place d.2.begins r)
wav_one_refusal bytes kind other place there (inr c) (inl s) = absurd (never_both bytes c.2.head other there c.2.begins s)
wav_one_refusal bytes kind other place there (inr c) (inr d) = (c.0 ∙ sym d.0, c.1 ∙ sym d.1)

pub wav_each : (bytes : List ℕ) → ((head : WavHead) × IsWav bytes head) ⊎ ((kind : WavKind) × (place : ℕ) × RefusesWav bytes kind place)
wav_each bytes =
    elim (each bytes) [
      | inl h ↦ elim (cases_lt (length bytes) (end_of h.0 bytes)) [
        | inl cut ↦ inr (Short, length bytes, inr (refl, refl, record { head = h.0; begins = h.1; cut = cut }))
        | inr whole ↦ inl (h.0, record { begins = h.1; whole = whole })
      ]
      | inr r ↦ inr (r.0, r.1, inl r.2)
    ]

-- ---- within a limit

abbrev IsToldWithin : List ℕ → ℕ → Type 0
IsToldWithin bytes limit = ((head : WavHead) × EndsWithin bytes head limit) ⊎ (((kind : WavKind) × (place : ℕ) × RefusedWithin bytes kind place limit) ⊎ NeedsMore bytes limit)

front_wav : (bytes : List ℕ) (limit : ℕ) (head : WavHead) (size : Option ℕ) → limit < length bytes → head.size ≡ size → IsWav (take limit bytes) head → IsToldWithin bytes limit
front_wav bytes limit head None more e w = inr (inr (more, inr (inr (record { head = head; begins = w.begins; unsized = e }))))
front_wav bytes limit head (Some size) more e w =
    let ends : end_of head (take limit bytes) ≤ length (take limit bytes) = w.whole in
    let b = back_below bytes (end_of head (take limit bytes)) limit ends in
    let same : end_of head bytes ≡ end_of head (take limit bytes) = stated_end bytes head size e ∙ sym (stated_end (take limit bytes) head size e) in
    inl (head, record { whole = record { begins = head_back bytes head limit w.begins; whole = omega (arith, b.1, same) }; within = omega (arith, b.0, same) })

front_refused : (bytes : List ℕ) (limit : ℕ) (kind : WavKind) (place : ℕ) → limit < length bytes → RefusesWav (take limit bytes) kind place → IsToldWithin bytes limit
front_refused bytes limit kind place more (inl r) =
    elim (refused_back bytes limit kind place (omega (arith, more)) r) [
      | inl s ↦ inr (inl (kind, place, (inl s, inl r)))
      | inr (inl s) ↦ inr (inr (more, inl (inl s)))
      | inr (inr s) ↦ inr (inr (more, inr (inl s)))
    ]
front_refused bytes limit kind place more (inr c) = inr (inr (more, inl (inr (refl, sym (length_cut bytes limit (omega (arith, more))), c.2))))

pub each_within : (bytes : List ℕ) (limit : ℕ) → ((head : WavHead) × EndsWithin bytes head limit) ⊎ (((kind : WavKind) × (place : ℕ) × RefusedWithin bytes kind place limit) ⊎ NeedsMore bytes limit)
each_within bytes limit =
    elim (cases_lt limit (length bytes)) [
      | inl more ↦ elim (wav_each (take limit bytes)) [
        | inl w ↦ front_wav bytes limit w.0 w.0.size more refl w.1
        | inr r ↦ front_refused bytes limit r.0 r.1 more r.2
      ]
      | inr all ↦ elim (wav_each bytes) [
        | inl w ↦ inl (w.0, record { whole = w.1; within = omega (arith, w.1.whole, all) })
        | inr r ↦ inr (inl (r.0, r.1, (r.2, subst (λ (l : List ℕ). RefusesWav l r.0 r.1) (sym (take_all limit bytes all)) r.2)))
      ]
    ]

-- the first bytes of a WAV that ends at the limit or before are that WAV
sized_cut : (bytes : List ℕ) (head : WavHead) (limit : ℕ) (size : Option ℕ) → EndsWithin bytes head limit → limit < length bytes → head.size ≡ size
    → IsWav (take limit bytes) head × ((size : ℕ) × (head.size ≡ Some size))
sized_cut bytes head limit None w more e =
    let ends = runs_end bytes head w.whole.begins e in
    absurd (omega (arith, ends, w.within, more))
sized_cut bytes head limit (Some size) w more e =
    let within : end_of head bytes ≤ limit = w.within in
    let a : end_of head bytes ≡ head.taken + size = stated_end bytes head size e in
    let b : end_of head (take limit bytes) ≡ head.taken + size = stated_end (take limit bytes) head size e in
    let long = length_cut bytes limit (omega (arith, more)) in
    let whole : end_of head (take limit bytes) ≤ length (take limit bytes) = omega (arith, within, a, b, long) in
    (record { begins = head_cut bytes head limit w.whole.begins (omega (arith, within, a)); whole = whole }, (size, e))

sized_runs : (head other : WavHead) (size : ℕ) → head ≡ other → head.size ≡ Some size → other.size ≡ None → ⊥
sized_runs head other size e a b = let c : ◌≡◌ {A = Option ℕ} (Some size) None = sym a ∙ (ap (λ (h : WavHead). h.size) e ∙ b) in absurd (cc)

pub never_ends_and_needs : (bytes : List ℕ) (head : WavHead) (limit : ℕ) → EndsWithin bytes head limit → NeedsMore bytes limit → ⊥
never_ends_and_needs bytes head limit w (more, inl r) =
    wav_never_both (take limit bytes) head Short limit (sized_cut bytes head limit head.size w more refl).0 r
never_ends_and_needs bytes head limit w (more, inr (inl r)) =
    wav_never_both (take limit bytes) head NoData limit (sized_cut bytes head limit head.size w more refl).0 (inl r)
never_ends_and_needs bytes head limit w (more, inr (inr o)) =
    let c = sized_cut bytes head limit head.size w more refl in
    sized_runs head o.head c.1.0 (one_head (take limit bytes) head o.head c.0.begins o.begins) c.1.1 o.unsized

-- too early an end is refused at the end
early_place : (bytes : List ℕ) (kind : WavKind) (place : ℕ) → (kind ≡ Short) ⊎ (kind ≡ NoData) → RefusesWav bytes kind place → place ≡ length bytes
early_place bytes kind place (inl e) (inl r) = (subst (λ (k : WavKind). Refuses bytes k place) e r).0
early_place bytes kind place (inr e) (inl r) = (subst (λ (k : WavKind). Refuses bytes k place) e r).0
early_place bytes kind place e (inr c) = c.1

early_stays : (bytes : List ℕ) (kind other : WavKind) (place limit : ℕ) → (other ≡ Short) ⊎ (other ≡ NoData) → limit < length bytes → RefusedWithin bytes kind place limit
    → RefusesWav (take limit bytes) other limit → ⊥
early_stays bytes kind other place limit e more r s =
    let same = wav_one_refusal (take limit bytes) kind other place limit r.1 s in
    let k : (kind ≡ Short) ⊎ (kind ≡ NoData) = elim e [ inl a ↦ inl (same.0 ∙ a) | inr a ↦ inr (same.0 ∙ a) ] in
    let place_is = early_place bytes kind place k r.0 in
    absurd (omega (arith, place_is, same.1, more))

runs_refused : (bytes : List ℕ) (kind : WavKind) (place : ℕ) → RefusesWav bytes kind place → RunsOn bytes → ⊥
runs_refused bytes kind place r o =
    let ends = runs_end bytes o.head o.begins o.unsized in
    wav_never_both bytes o.head kind place (record { begins = o.begins; whole = omega (arith, ends) }) r

pub never_refused_and_needs : (bytes : List ℕ) (kind : WavKind) (place limit : ℕ) → RefusedWithin bytes kind place limit → NeedsMore bytes limit → ⊥
never_refused_and_needs bytes kind place limit r (more, inl s) = early_stays bytes kind Short place limit (inl refl) more r s
never_refused_and_needs bytes kind place limit r (more, inr (inl s)) = early_stays bytes kind NoData place limit (inr refl) more r (inl s)
never_refused_and_needs bytes kind place limit r (more, inr (inr o)) = runs_refused (take limit bytes) kind place r.1 o

pub never_ends_and_refused : (bytes : List ℕ) (head : WavHead) (kind : WavKind) (place limit : ℕ) → EndsWithin bytes head limit → RefusedWithin bytes kind place limit → ⊥
never_ends_and_refused bytes head kind place limit w r = wav_never_both bytes head kind place w.whole r.0

-- ---- a head that wasn't read

-- too long a head needs a byte past the limit
pub stopped_needs : (bytes : List ℕ) (limit : ℕ) → IsTooLong bytes limit → NeedsMore bytes limit
stopped_needs bytes limit (more, inl r) = (more, inl (inl r))
stopped_needs bytes limit (more, inr r) = (more, inr (inl r))

-- a head that is refused is refused within the limit
pub stopped_refused : (bytes : List ℕ) (limit : ℕ) (kind : WavKind) (place : ℕ) → IsStopped bytes limit (Bad kind place) → RefusedWithin bytes kind place limit
stopped_refused bytes limit kind place r = (inl r.0, inl r.1)

-- behind a head that was read stands the first byte of its data
pub read_at : (bytes : List ℕ) (limit : ℕ) (head : WavHead) (left : Option (List ℕ)) → HeadRead bytes limit head left → IsAt bytes head.taken left
read_at bytes limit head left r = record { within = taken_within bytes head r.is; left_is = r.left_is }

-- ---- samples that weren't read

-- what is asked for is no more than a full piece, and stands within the data that are stated
pub part_most : (size : Option ℕ) (full done : ℕ) → part_of size full done ≤ full
part_most None full done = omega arith
part_most (Some size) full done = omega arith

part_within : (size taken before full limit : ℕ) → before ≤ limit → limit < before + part_of (Some size) full (before - taken) → limit < taken + size
part_within size taken before full limit h k = omega (arith, h, k)

-- where a byte past the limit is asked for and there, the data go on past the limit
pub asked_within : (bytes : List ℕ) (head : WavHead) (size : Option ℕ) (before limit : ℕ) → head.size ≡ size → before ≤ limit → limit < length bytes → limit < before + frame_bytes head before
    → limit < head.taken + data_length head bytes
asked_within bytes head None before limit e h more k =
    let same : head.taken + data_length head bytes ≡ head.taken + (length bytes - head.taken) = ap (λ s. head.taken + stated s (length bytes - head.taken)) e in
    omega (arith, same, more)
asked_within bytes head (Some size) before limit e h more k =
    let same : head.taken + data_length head bytes ≡ head.taken + size = ap (λ s. head.taken + stated s (length bytes - head.taken)) e in
    let frame : frame_bytes head before ≡ part_of (Some size) (1536 * align_of head) (before - head.taken) = ap (λ s. part_of s (1536 * align_of head) (before - head.taken)) e in
    let asked : limit < before + part_of (Some size) (1536 * align_of head) (before - head.taken) = omega (arith, frame, k) in
    let inside = part_within size head.taken before (1536 * align_of head) limit h asked in
    omega (arith, same, inside)

-- cut data are a refusal within the limit
pub unsampled_refused : (bytes : List ℕ) (head : WavHead) (before limit : ℕ) (kind : WavKind) (place : ℕ) → IsHead bytes head → IsUnsampled bytes head before limit (Bad kind place)
    → RefusedWithin bytes kind place limit
unsampled_refused bytes head before limit Short place h u =
    let cut : length bytes < end_of head bytes = u.1 in
    let r : RefusesWav bytes Short place = inr (refl, u.0, record { head = head; begins = h; cut = cut }) in
    (r, subst (λ (l : List ℕ). RefusesWav l Short place) (sym (take_all limit bytes u.3)) r)
unsampled_refused bytes head before limit NotRiff place h u = absurd u
unsampled_refused bytes head before limit NoFmt place h u = absurd u
unsampled_refused bytes head before limit NoData place h u = absurd u
unsampled_refused bytes head before limit (BadFmt field) place h u = absurd u
unsampled_refused bytes head before limit (Unsupported field value) place h u = absurd u

sized_needs : (bytes : List ℕ) (head : WavHead) (before limit : ℕ) (size : Option ℕ) → head.size ≡ size → IsHead (take limit bytes) head → before ≤ limit → limit < length bytes
    → limit < before + frame_bytes head before → NeedsMore bytes limit
sized_needs bytes head before limit None e h below more asked = (more, inr (inr (record { head = head; begins = h; unsized = e })))
sized_needs bytes head before limit (Some size) e h below more asked =
    let past : limit < head.taken + data_length head bytes = asked_within bytes head (Some size) before limit e below more asked in
    let a : head.taken + data_length head bytes ≡ head.taken + size = stated_end bytes head size e in
    let b : end_of head (take limit bytes) ≡ head.taken + size = stated_end (take limit bytes) head size e in
    let long = length_cut bytes limit (omega (arith, more)) in
    (more, inl (inr (refl, sym long, record { head = head; begins = h; cut = omega (arith, past, a, b, long) })))

-- samples past the limit need a byte past it
pub unsampled_needs : (bytes : List ℕ) (head : WavHead) (before limit : ℕ) → IsHead bytes head → head.taken ≤ before → before ≤ limit → IsUnsampled bytes head before limit TooLong → NeedsMore bytes limit
unsampled_needs bytes head before limit h least below u =
    sized_needs bytes head before limit head.size refl (head_cut bytes head limit h (omega (arith, least, below))) below u.0 u.1

-- ---- samples to the end of the data

pub read_whole : (bytes : List ℕ) (head : WavHead) (before «from» after n : ℕ) (rows : List (List ℤ)) (left : Option (List ℕ)) → IsHead bytes head
    → SamplesRead bytes head before «from» after n rows left → n < 1536 → IsWav bytes head
read_whole bytes head before «from» after n rows left h r below =
    let e : after ≡ head.taken + data_length head bytes = r.end below in
    record { begins = h; whole = omega (arith, e, r.at.within) }

pub read_within : (bytes : List ℕ) (head : WavHead) (before «from» after n limit : ℕ) (rows : List (List ℤ)) (left : Option (List ℕ)) → IsHead bytes head
    → SamplesRead bytes head before «from» after n rows left → n < 1536 → after ≤ limit → EndsWithin bytes head limit
read_within bytes head before «from» after n limit rows left h r below within =
    let e : after ≡ end_of head bytes = r.end below in
    record { whole = read_whole bytes head before «from» after n rows left h r below; within = omega (arith, e, within) }

pub read_left : (bytes : List ℕ) (head : WavHead) (before «from» after n : ℕ) (rows : List (List ℤ)) (left : Option (List ℕ)) → SamplesRead bytes head before «from» after n rows left → n < 1536
    → left ≡ Some (behind head bytes)
read_left bytes head before «from» after n rows left r below = r.at.left_is ∙ ap (λ k. Some (drop k bytes)) (r.end below)

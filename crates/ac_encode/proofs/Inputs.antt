-- Which inputs are encoded, and why others are refused.
use Rattle.std.proofs.Common.{◌≡◌, ◌⊎◌, ℕ, ◌≤◌, Bool, true, false, List, take, Option, None, subst, refl, sym, ap, arith, lit≤, inl, inr}
use Rattle.std.specs.Prelude.{◌==◌, if◌then◌else◌}
use Rattle.std.proofs.lemmas.Bool.{cases_lt}
use Rattle.ac_base.specs.declared.sizes.Part.{Part}
use Rattle.ac_base.specs.Fit.{rooms_of}
use Rattle.ac_base.specs.Rates.{IsRate}
use Rattle.ac_base.specs.Sizes.{table_words}
use Rattle.ac_riff.specs.declared.fault.WavKind.{WavKind}
use Rattle.ac_riff.specs.declared.fault.WavKind.TheVariants.{Short, NoData}
use Rattle.ac_riff.specs.declared.fault.WavFault.{WavFault}
use Rattle.ac_riff.specs.declared.fault.WavFault.TheVariants as wav_faults
use Rattle.ac_riff.specs.declared.head.WavHead.{WavHead}
use Rattle.ac_riff.specs.Format.{fscod_of, format_of}
use Rattle.ac_riff.specs.Form.{IsHead, body_of}
use Rattle.ac_riff.specs.Refusal as ends
use Rattle.ac_riff.specs.Refusal.{HeadRead}
use Rattle.ac_wav.specs.Whole.{EndsWithin}
use Rattle.ac_riff.proofs.Endings as heads
use Rattle.ac_riff.proofs.Each as heads_each
use Rattle.ac_wav.proofs.Whole.{wav_never_both, wav_one_refusal, each_within, never_ends_and_needs, never_refused_and_needs}
use Rattle.ac_riff.proofs.Fronts.{head_cut}
use Rattle.ac_enc.specs.Layout.{layout_of, cheapest_bits, IsTooLow, IsNewFault}
use Rattle.ac_enc.specs.declared.fault.NewFault.{NewFault}
use Rattle.ac_enc.specs.declared.fault.NewFault.TheVariants as new_faults
use Rattle.ac_words.specs.declared.meaning.Options.{Options}
use Rattle.ac_encode.specs.Input.{Suits, IsUnsuited, IsInput, HasNoUnsuited, IsRefused, IsTooLong, IsRateTooLow}
use Rattle.ac_world.specs.Limit.{limit}
use Rattle.ac_encode.specs.Encodes.{EncodeHasCause}
use Rattle.ac_encode.specs.Loop.{unread_status, denied_status}
use Rattle.ac_encode.proofs.Enough.{enough_known, too_low, one_over}

-- ---- heads

pub begins : (o : Options) (bytes : List ℕ) (head : WavHead) → IsInput o bytes head → IsHead bytes head
begins o bytes head i = i.wav.whole.begins

pub one_input : (o : Options) (bytes : List ℕ) (head other : WavHead) → IsInput o bytes head → IsInput o bytes other → head ≡ other
one_input o bytes head other i j = heads.one_head bytes head other (begins o bytes head i) (begins o bytes other j)

-- a head that the rate is enough for leaves none that it isn't enough for
pub no_unsuited : (o : Options) (bytes : List ℕ) (head : WavHead) → IsHead bytes head → Suits o head → HasNoUnsuited o bytes
no_unsuited o bytes head h suits other u = u.unsuited (subst (Suits o) (heads.one_head bytes head other h u.begins) suits)

-- a rate that is too low isn't enough
unsuited : (o : Options) (bytes : List ℕ) (part : Part) (needed room : ℕ) → (t : IsRateTooLow o bytes part needed room) → IsUnsuited o bytes t.head
unsuited o bytes part needed room t = record { begins = t.begins; within = t.within; unsuited = t.low.short }

-- fscod of a head that is accepted
small : (first second : Bool) → (if first then 0 else (if second then 1 else 2)) ≤ 2
small true second = lit≤ tt
small false true = lit≤ tt
small false false = lit≤ tt

fscod_small : (rate : ℕ) → fscod_of rate ≤ 2
fscod_small rate = small (rate == 48000) (rate == 44100)

pub sampling : (o : Options) (bytes : List ℕ) (head : WavHead) → IsInput o bytes head → head.fscod ≤ 2
sampling o bytes head i =
    let h = begins o bytes head i in
    subst (λ (n : ℕ). n ≤ 2) (sym (ap (λ (w : WavHead). w.fscod) h.says)) (fscod_small (format_of (body_of h.chunk)).rate)

-- ---- never two of them

pub never_both : (o : Options) (bytes : List ℕ) (head : WavHead) (kind : WavKind) (place : ℕ) → IsInput o bytes head → IsRefused o bytes kind place → ⊥
never_both o bytes head kind place i r = wav_never_both bytes head kind place i.wav.whole r.0.0

pub never_longer : (o : Options) (bytes : List ℕ) (head : WavHead) → IsInput o bytes head → IsTooLong o bytes → ⊥
never_longer o bytes head i t = never_ends_and_needs bytes head limit i.wav t.0

pub never_refused : (o : Options) (bytes : List ℕ) (kind : WavKind) (place : ℕ) → IsRefused o bytes kind place → IsTooLong o bytes → ⊥
never_refused o bytes kind place r t = never_refused_and_needs bytes kind place limit r.0 t.0

pub never_low : (o : Options) (bytes : List ℕ) (part : Part) (needed room : ℕ) (head : WavHead) → IsRateTooLow o bytes part needed room → IsInput o bytes head → ⊥
never_low o bytes part needed room head t i = no_unsuited o bytes head (begins o bytes head i) i.suits t.head (unsuited o bytes part needed room t)

pub never_refused_low : (o : Options) (bytes : List ℕ) (part : Part) (needed room : ℕ) (kind : WavKind) (place : ℕ) → IsRateTooLow o bytes part needed room → IsRefused o bytes kind place → ⊥
never_refused_low o bytes part needed room kind place t r = r.1 t.head (unsuited o bytes part needed room t)

pub never_longer_low : (o : Options) (bytes : List ℕ) (part : Part) (needed room : ℕ) → IsRateTooLow o bytes part needed room → IsTooLong o bytes → ⊥
never_longer_low o bytes part needed room t l = l.1 t.head (unsuited o bytes part needed room t)

pub one_refusal : (o : Options) (bytes : List ℕ) (kind other : WavKind) (place there : ℕ) → IsRefused o bytes kind place → IsRefused o bytes other there → (kind ≡ other) × (place ≡ there)
one_refusal o bytes kind other place there r s = wav_one_refusal bytes kind other place there r.0.0 s.0.0

pub one_low : (o : Options) (bytes : List ℕ) (part other : Part) (needed room much little : ℕ) → IsRateTooLow o bytes part needed room → IsRateTooLow o bytes other much little
    → (part ≡ other) × (needed ≡ much) × (room ≡ little)
one_low o bytes part other needed room much little t u =
    let same = heads.one_head bytes u.head t.head u.begins t.begins in
    let low = subst (λ (h : WavHead). IsTooLow o (layout_of h) other much little) same u.low in
    let l = layout_of t.head in
    one_over (cheapest_bits o l None) (rooms_of (table_words o.rate l.fscod)) part other needed room much little t.low.first low.first

-- ---- one of them

of_head : (o : Options) (bytes : List ℕ) (head : WavHead) → IsHead bytes head → ((other : WavHead) × IsUnsuited o bytes other) ⊎ HasNoUnsuited o bytes
of_head o bytes head h = elim (enough_known o (layout_of head)) [
  | inl suits ↦ inr (no_unsuited o bytes head h suits)
  | inr low ↦ elim (cases_lt limit head.taken) [
    | inl far ↦ inr (λ another u. let same = ap (λ (w : WavHead). w.taken) (heads.one_head bytes head another h u.begins) in omega (arith, far, same, u.within))
    | inr near ↦ inl (head, record { begins = h; within = near; unsuited = low })
  ]
]

unsuited_known : (o : Options) (bytes : List ℕ) → ((head : WavHead) × IsUnsuited o bytes head) ⊎ HasNoUnsuited o bytes
unsuited_known o bytes = elim (heads_each.each bytes) [
  | inl h ↦ of_head o bytes h.0 h.1
  | inr r ↦ inr (λ head u. heads.never_both bytes head r.0 r.1 u.begins r.2)
]

low_by : (o : Options) (bytes : List ℕ) (head : WavHead) → IsRate o.rate → IsUnsuited o bytes head → (part : Part) × (needed : ℕ) × (room : ℕ) × IsRateTooLow o bytes part needed room
low_by o bytes head is u =
    let t = too_low o (layout_of head) is u.unsuited in
    (t.0, t.1, t.2, record { head = head; begins = u.begins; within = u.within; low = t.3 })

ends_unsuited : (o : Options) (bytes : List ℕ) (head : WavHead) → EndsWithin bytes head limit → (Suits o head → ⊥) → IsUnsuited o bytes head
ends_unsuited o bytes head w low = record { begins = w.whole.begins; within = omega (arith, w.within); unsuited = low }

pub each : (o : Options) (bytes : List ℕ) → IsRate o.rate → ((head : WavHead) × IsInput o bytes head)
    ⊎ (((kind : WavKind) × (place : ℕ) × IsRefused o bytes kind place) ⊎ (IsTooLong o bytes ⊎ ((part : Part) × (needed : ℕ) × (room : ℕ) × IsRateTooLow o bytes part needed room)))
each o bytes is = elim (unsuited_known o bytes) [
  | inl u ↦ inr (inr (inr (low_by o bytes u.0 is u.1)))
  | inr none ↦ elim (each_within bytes limit) [
    | inl w ↦ elim (enough_known o (layout_of w.0)) [
      | inl suits ↦ inl (w.0, record { wav = w.1; suits = suits })
      | inr low ↦ absurd (none w.0 (ends_unsuited o bytes w.0 w.1 low))
    ]
    | inr (inl r) ↦ inr (inl (r.0, r.1, (r.2, none)))
    | inr (inr more) ↦ inr (inr (inl (more, none)))
  ]
]

-- ---- what a reader of the head was told

pub head_cause : (o : Options) (bytes : List ℕ) (fault : WavFault) → ends.IsStopped bytes limit fault → EncodeHasCause o (unread_status fault) bytes
head_cause o bytes (wav_faults.Bad kind place) r = ((inl r.0, inl r.1), λ head u. heads.never_both bytes head kind place u.begins r.0)
head_cause o bytes wav_faults.ReadFault r = tt
head_cause o bytes wav_faults.TooLong (more, inl r) =
    (((more, inl (inl r)), λ head u. heads.never_both (take limit bytes) head Short limit (head_cut bytes head limit u.begins u.within) r), refl)
head_cause o bytes wav_faults.TooLong (more, inr r) =
    (((more, inr (inl r)), λ head u. heads.never_both (take limit bytes) head NoData limit (head_cut bytes head limit u.begins u.within) r), refl)

-- the encoder's fault, behind a head that was read
pub denied_cause : (o : Options) (bytes : List ℕ) (head : WavHead) (left : Option (List ℕ)) (fault : NewFault) → HeadRead bytes limit head left → IsNewFault o (layout_of head) fault
    → EncodeHasCause o (denied_status fault) bytes
denied_cause o bytes head left (new_faults.RateTooLow part needed room) h f = record { head = head; begins = h.is; within = h.within; low = f }
denied_cause o bytes head left new_faults.NoMemory h f = tt

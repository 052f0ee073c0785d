-- The shape of a frame as plain numbers, its coded channels and their bins (A/52 5.4.2.3, 5.4.3.11, 5.4.3.12, 7.1.3).
-- A coupling is a pair of cplbegf and cplendf.
use Rattle.std.specs.Prelude.{ℕ, ◌≡◌, ◌+◌, ◌-◌, ◌*◌, ◌≤◌, Bool, ◌||◌, nat_lt, nat_le, nat_eq, is_some, if◌then◌else◌, Option, Some, None, [], ◌∷◌, slice_index}
use Rattle.std.specs.Option.{ForSome}
use Rattle.ac_base.specs.Sizes.{least_words, most_words}
use Rattle.ac_base.specs.declared.spans.Span.{Span}
use Rattle.ac_base.specs.declared.spans.Lead.{Lead}
use Rattle.ac_base.specs.declared.spans.Lead.TheVariants.{Free, Coupled, Coupling, Low}

-- a coupling needs two full channels (A/52 7.4), has codes of 4 bits, and has at least one subband (5.4.3.11, 5.4.3.12)
abbrev pub IsCoupling : ℕ → Option (ℕ × ℕ) → Type 0
IsCoupling acmod couple = ForSome couple (λ p. (2 ≤ acmod) × (p.0 ≤ 15) × (p.1 ≤ 15) × (p.0 ≤ p.1 + 2))

-- fscod (A/52 5.4.1.3), acmod (5.4.2.3; 0, two programmes of one channel, is left out by this project's profile), chbwcod (5.4.3.24), the
-- coupling and the words of a frame (Table 5.18)
abbrev pub IsShape : ℕ → ℕ → ℕ → Option (ℕ × ℕ) → ℕ → Type 0
IsShape fscod acmod chbwcod couple words =
    (fscod ≤ 2) × (1 ≤ acmod) × (acmod ≤ 7) × (chbwcod ≤ 60) × (least_words ≤ words) × (words ≤ most_words) × IsCoupling acmod couple

-- the full-bandwidth channels, by acmod (A/52 Table 5.8)
abbrev pub full_of : ℕ → ℕ
full_of acmod = slice_index (2 ∷ 1 ∷ 2 ∷ 3 ∷ 3 ∷ 4 ∷ 4 ∷ 5 ∷ []) acmod

-- two channels, of which alone there is rematrixing (A/52 5.4.2.3, 7.5)
abbrev pub is_stereo : ℕ → Bool
is_stereo acmod = nat_eq acmod 2

-- a center among three channels in front (A/52 5.4.2.3), for which there is cmixlev (5.4.2.4)
abbrev pub has_center : ℕ → Bool
has_center acmod = nat_eq acmod 3 || nat_eq acmod 5 || nat_eq acmod 7

-- one or two surround channels (A/52 5.4.2.3), for which there is surmixlev (5.4.2.5)
abbrev pub has_surround : ℕ → Bool
has_surround acmod = nat_le 4 acmod

-- the subbands of a coupling (A/52 5.4.3.12); each is a band by this project's profile, as every cplbndstrc is 0 (5.4.3.13)
abbrev pub subbands : Option (ℕ × ℕ) → ℕ
subbands None = 0
subbands (Some p) = 3 + p.1 - p.0

-- the rematrixing bands, by cplbegf under coupling (A/52 7.5.2)
abbrev pub rematrix_bands : Option (ℕ × ℕ) → ℕ
rematrix_bands None = 4
rematrix_bands (Some p) = if nat_lt 2 p.0 then 4 else if nat_lt 0 p.0 then 3 else 2

-- 1 where it is there: for counting alone
abbrev pub count_of : Bool → ℕ
count_of there = if there then 1 else 0

-- the coded channels: the full ones in the order of A/52 Table 5.8, then the coupling channel, then LFE; this project's numbering
abbrev pub coded_of : ℕ → Bool → Option (ℕ × ℕ) → ℕ
coded_of acmod lfe couple = full_of acmod + count_of (is_some couple) + count_of lfe

-- the first bin of the coupling channel (A/52 7.1.3, as all bins below)
abbrev pub coupling_start : ℕ → ℕ
coupling_start cplbegf = 37 + 12 * cplbegf

-- the bin behind the last of the coupling channel
abbrev pub coupling_end : ℕ → ℕ
coupling_end cplendf = 37 + 12 * (cplendf + 3)

-- the bin behind the last of a full channel that isn't coupled
abbrev pub end_of : ℕ → ℕ
end_of chbwcod = 37 + 3 * (chbwcod + 12)

-- the bins of a full channel that isn't coupled
abbrev pub free_span : ℕ → Span
free_span chbwcod = record { start = 0; end = end_of chbwcod; lead = Free }

-- the bins of a coupled channel
abbrev pub coupled_span : ℕ → Span
coupled_span cplbegf = record { start = 0; end = coupling_start cplbegf; lead = Coupled }

-- the bins of the coupling channel
abbrev pub coupling_span : ℕ → ℕ → Span
coupling_span cplbegf cplendf = record { start = coupling_start cplbegf; end = coupling_end cplendf; lead = Coupling }

-- the bins of a full channel
abbrev pub full_span : ℕ → Option (ℕ × ℕ) → Span
full_span chbwcod None = free_span chbwcod
full_span chbwcod (Some p) = coupled_span p.0

-- the bins of LFE
abbrev pub low_span : Span
low_span = record { start = 0; end = 7; lead = Low }

-- the bins of the channel behind the full ones
abbrev pub next_span : Option (ℕ × ℕ) → Span
next_span None = low_span
next_span (Some p) = coupling_span p.0 p.1

-- the bins of coded channel c
abbrev pub span_of : ℕ → ℕ → Option (ℕ × ℕ) → ℕ → Span
span_of acmod chbwcod couple c =
    if nat_lt c (full_of acmod) then full_span chbwcod couple
    else if nat_eq c (full_of acmod) then next_span couple
    else low_span

-- the bins of a channel of some shape, by what it is (A/52 7.1.3)
abbrev pub IsSpanOf : Lead → ℕ → ℕ → Type 0
IsSpanOf Free start end = (start ≡ 0) × ((chbwcod : ℕ) × (chbwcod ≤ 60) × (end ≡ end_of chbwcod))
IsSpanOf Coupled start end = (start ≡ 0) × ((cplbegf : ℕ) × (cplbegf ≤ 15) × (end ≡ coupling_start cplbegf))
IsSpanOf Coupling start end =
    (cplbegf : ℕ) × (cplendf : ℕ) × (cplbegf ≤ 15) × (cplendf ≤ 15) × (cplbegf ≤ cplendf + 2)
    × (start ≡ coupling_start cplbegf) × (end ≡ coupling_end cplendf)
IsSpanOf Low start end = (start ≡ 0) × (end ≡ 7)

-- the span of a coded channel
abbrev pub IsSpan : Span → Type 0
IsSpan s = IsSpanOf s.lead s.start s.end

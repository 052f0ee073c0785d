-- The readers answer the refusal whose cause is there.
use Rattle.std.proofs.Common.{◌≡◌, ◌≢◌, ◌⊎◌, ℕ, ◌+◌, ◌-◌, ◌*◌, ◌/◌, ◌≤◌, ◌<◌, List, length, Option, Result, Ok, Err, inl, inr, refl, ap, arith}
use Rattle.std.specs.Prelude.{ℤ}
use Rattle.std.proofs.lemmas.Bool.{cases_lt}
use Rattle.std.proofs.Math.Nat.{div-mul-le_self}
use Rattle.ac_riff.specs.declared.fault.WavKind.TheVariants.{Short, NotRiff, NoFmt, NoData, BadFmt, Unsupported}
use Rattle.ac_riff.specs.declared.fault.WavFault.{WavFault}
use Rattle.ac_riff.specs.declared.fault.WavFault.TheVariants.{Bad, ReadFault, TooLong}
use Rattle.ac_riff.specs.declared.head.WavHead.{WavHead}
use Rattle.ac_wav.specs.Samples.{align_of, data_length, frame_bytes, SamplesRead, IsUnsampled, StopsExactly}
use Rattle.ac_wav.proofs.Whole.{part_most, asked_within}

-- ---- samples

-- the samples that were read end at the end of the data, or behind all that was asked for
read_end : (bytes : List ℕ) (head : WavHead) (before «from» after n : ℕ) (rows : List (List ℤ)) (left : Option (List ℕ)) → SamplesRead bytes head before «from» after n rows left
    → (after ≡ head.taken + data_length head bytes) ⊎ (before + frame_bytes head before ≤ after)
read_end bytes head before «from» after n rows left r =
    elim (cases_lt n 1536) [
      | inl h ↦ inl (r.end h)
      | inr h ↦
          let full = r.more (omega (arith, h, r.count)) in
          inr (omega (arith, full, part_most head.size (1536 * align_of head) (before - head.taken)))
    ]

pub read_stops_exactly : (bytes : List ℕ) (head : WavHead) (before «from» after n limit : ℕ) (rows : List (List ℤ)) (left : Option (List ℕ)) → SamplesRead bytes head before «from» after n rows left
    → before ≤ limit → after ≤ limit → StopsExactly bytes head before limit (Ok n)
read_stops_exactly bytes head before «from» after n limit rows left r below within = record {
  too_long = λ t.
      let past = asked_within bytes head head.size before limit refl below t.0 t.1 in
      elim (read_end bytes head before «from» after n rows left r) [
        | inl e ↦ absurd (omega (arith, e, past, within))
        | inr e ↦ let asked : limit < before + frame_bytes head before = t.1 in absurd (omega (arith, e, asked, within))
      ];
  short = λ t.
      let there : after ≤ length bytes = r.at.within in
      let cut : length bytes < head.taken + data_length head bytes = t.1 in
      let asked : length bytes < before + frame_bytes head before = t.2 in
      elim (read_end bytes head before «from» after n rows left r) [
        | inl e ↦ absurd (omega (arith, e, cut, there))
        | inr e ↦ absurd (omega (arith, e, asked, there))
      ];
}

pub unread_stops_exactly : (bytes : List ℕ) (head : WavHead) (before limit : ℕ) (fault : WavFault) → IsUnsampled bytes head before limit fault
    → ◌≢◌ {A = Result ℕ WavFault} (Err fault) (Err ReadFault) → StopsExactly bytes head before limit (Err fault)
unread_stops_exactly bytes head before limit (Bad Short place) u nf = record {
  too_long = λ t. let a = u.3 in let b = t.0 in absurd (omega (arith, a, b));
  short = λ t. ap (λ (p : ℕ). Err (Bad Short p)) u.0;
}
unread_stops_exactly bytes head before limit (Bad NotRiff place) u nf = absurd u
unread_stops_exactly bytes head before limit (Bad NoFmt place) u nf = absurd u
unread_stops_exactly bytes head before limit (Bad NoData place) u nf = absurd u
unread_stops_exactly bytes head before limit (Bad (BadFmt field) place) u nf = absurd u
unread_stops_exactly bytes head before limit (Bad (Unsupported field value) place) u nf = absurd u
unread_stops_exactly bytes head before limit ReadFault u nf = absurd (nf refl)
unread_stops_exactly bytes head before limit TooLong u nf = record {
  too_long = λ _. refl;
  short = λ t. let a = t.3 in let b = u.0 in absurd (omega (arith, a, b));
}

-- ---- whole pieces

pub full_piece : (n a : ℕ) → n ≤ 1536 * a → n / a ≡ 1536 → n ≡ 1536 * a
full_piece n a h e =
    let b : n / a * a ≤ n = div-mul-le_self n a in
    let d : n / a * a ≡ 1536 * a = ap (λ k. k * a) e in
    omega (arith, h, b, d)

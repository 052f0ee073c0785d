use Rattle.std.proofs.Common.{◌≡◌, ◌≢◌, ◌<◌, ℕ, [], List, ap, get_or-set_other, length, length-set, slice_index, slice_index_or, ◌∙◌, arith}
use Rattle.ac_coordinates.specs.declared.Coordinate.{Coordinate}
use Rattle.ac_base.specs.Shape.{full_of}
use Rattle.ac_energy.specs.Coefficients.{entry, cell_of}
use Rattle.ac_coupling.specs.Coupling.{sent_coordinate}
use Rattle.ac_coupling.proofs.Rows.{with_written}
use Rattle.ac_coupling.proofs.Sent.{nothing, IsSentBy, sent_by}
use Rattle.ac_coupling.proofs.sending.coordinates_of.Goals as goal

pub loop-c-preserved : goal.loop-c-preserved
loop-c-preserved c =
    let x = entry c.args.coefs.now.c in
    let shape = c.args.coupled.now in
    let range = c.of-range.result in
    let i = c.loop-c.c in
    let row = c.channel_coordinates.result in
    let old = c.loop-c.invariant in
    let within : i < length c.loop-c.of = omega (arith, old.0) in
    let there : i < full_of shape.acmod = omega arith in
    let by : IsSentBy shape x range.start range.end range.bands (slice_index c.band_energies-own.result) (slice_index c.band_energies-shared.result) i (cell_of c.args.shared.now) = record {
      start_is = c.of-range.ensures.start;
      end_is = c.of-range.ensures.end;
      bands_is = c.of-range.ensures.bands;
      whole = range.whole;
      there = there;
      mean_is = c.requires.mean;
      own_is = c.band_energies-own.ensures;
      shared_is = c.band_energies-shared.ensures;
    } in
    let sent = λ (band : ℕ) (few : band < 18).
    sent_by shape x range.start range.end range.bands (slice_index c.band_energies-own.result) (slice_index c.band_energies-shared.result) i (cell_of c.args.shared.now) by band (slice_index_or row band nothing)
    (c.channel_coordinates.ensures.sent band) (λ past. c.channel_coordinates.ensures.none band past few) in (
      length-set c.loop-c.of i row ∙ old.0,
      λ (k : ℕ) below. with_written (λ (j : ℕ) (r : List Coordinate). length r ≡ 18) [] c.loop-c.of i row within c.channel_coordinates.ensures.long k (λ apart. old.1 k below),
      λ (k : ℕ) below.
          with_written (λ (j : ℕ) (r : List Coordinate). (band : ℕ) → band < 18 → slice_index_or r band nothing ≡ sent_coordinate shape x j band) [] c.loop-c.of i row within sent k
          (λ apart. old.2 k (omega arith)),
      λ (k : ℕ) from below (band : ℕ) few.
          let apart : k ≢ i = omega arith in
          ap (λ r. slice_index_or r band nothing) (get_or-set_other c.loop-c.of i k row [] apart) ∙ old.3 k (omega arith) below band few,
    )

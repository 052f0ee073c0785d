use Rattle.std.proofs.Common.{◌+◌, ℕ, slice_index, arith}
use Rattle.ac_base.specs.Allocation.{bndtab_list}
use Rattle.ac_base.proofs.AllocationTables.{starts_rise}
use Rattle.ac_sixths.specs.Runs.{column, entry_at}
use Rattle.ac_sixths.proofs.Grouped.{parts_room, parts_last, parts_all}
use Rattle.ac_sixths.proofs.by_bands.band_sums.Goals as goal

pub sums-six-requires-clause-levels : goal.sums-six-requires-clause-levels
sums-six-requires-clause-levels g c = λ (k : ℕ) l m.
    let a = starts_rise c.first_whole-whole.result c.after_whole-after.result (omega arith) (omega arith) in
    c.requires.levels k (omega arith) (omega (arith, c.band_start.ensures.value))

pub whole_bands-requires-clause-narrow : goal.whole_bands-requires-clause-narrow
whole_bands-requires-clause-narrow g c =
    c.requires.narrow c.first_whole-whole.result c.after_whole-after.result c.after_whole-after.ensures.bound c.first_whole-whole.ensures.least c.after_whole-after.ensures.most

pub whole_bands-requires-clause-wide : goal.whole_bands-requires-clause-wide
whole_bands-requires-clause-wide g c =
    c.requires.wide c.first_whole-whole.result c.after_whole-after.result c.after_whole-after.ensures.bound c.first_whole-whole.ensures.least c.after_whole-after.ensures.most

pub whole_bands-requires-clause-room : goal.whole_bands-requires-clause-room
whole_bands-requires-clause-room g c = λ (j : ℕ) h.
    let a = starts_rise c.first_whole-whole.result c.after_whole-after.result (omega arith) (omega arith) in
    parts_room c.args.f.now c.args.levels.now (column c.args.bases.now c.args.row) (c.args.t0 + j) c.args.start c.args.end (slice_index bndtab_list c.first_whole-whole.result) (slice_index bndtab_list c.after_whole-after.result) c.band_start.result (slice_index c.sums-six.result j) c.requires.small (omega arith) c.requires.levels c.requires.bases c.requires.end c.first_whole-whole.ensures.least a c.after_whole-after.ensures.most c.band_start.ensures.value (c.sums-six.ensures j h)

pub sums-rest-requires-clause-levels : goal.sums-rest-requires-clause-levels
sums-rest-requires-clause-levels g c = λ (k : ℕ) l m.
    let a = starts_rise c.first_whole-whole.result c.after_whole-after.result (omega arith) (omega arith) in
    c.requires.levels k (omega (arith, c.band_start-then-whole-after.ensures.value)) (omega arith)

pub add_times-requires-clause-room : goal.add_times-requires-clause-room
add_times-requires-clause-room g c = λ (j : ℕ) h.
    let a = starts_rise c.first_whole-whole.result c.after_whole-after.result (omega arith) (omega arith) in
    parts_last c.args.f.now c.args.levels.now (column c.args.bases.now c.args.row) (c.args.t0 + j) c.args.start c.args.end (slice_index bndtab_list c.first_whole-whole.result) (slice_index bndtab_list c.after_whole-after.result) c.band_start.result c.band_start-then-whole-after.result (slice_index c.sums-six.result j) (slice_index c.whole_bands.new.six j) (slice_index c.sums-rest.result j) c.requires.small (omega arith) c.requires.levels c.requires.bases c.requires.end c.first_whole-whole.ensures.least a c.after_whole-after.ensures.most c.band_start.ensures.value c.band_start-then-whole-after.ensures.value (c.sums-six.ensures j h) (c.whole_bands.ensures j h) (c.sums-rest.ensures j h)

pub returns-then-whole-after : goal.returns-then-whole-after
returns-then-whole-after g c = λ (j : ℕ) h.
    let F = entry_at c.args.f.now c.args.levels.now (column c.args.bases.now c.args.row) (c.args.t0 + j) in
    let a = starts_rise c.first_whole-whole.result c.after_whole-after.result (omega arith) (omega arith) in
    parts_all F c.args.start c.args.end (slice_index bndtab_list c.first_whole-whole.result) (slice_index bndtab_list c.after_whole-after.result) c.band_start.result c.band_start-then-whole-after.result (slice_index c.sums-six.result j) (slice_index c.whole_bands.new.six j) (slice_index c.sums-rest.result j) (slice_index c.add_times.new.six j) c.first_whole-whole.ensures.least a c.after_whole-after.ensures.most c.band_start.ensures.value c.band_start-then-whole-after.ensures.value (c.sums-six.ensures j h) (c.whole_bands.ensures j h) (c.sums-rest.ensures j h) (c.add_times.ensures j h)

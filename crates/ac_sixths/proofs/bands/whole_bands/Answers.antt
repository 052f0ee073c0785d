use Rattle.std.proofs.Common.{◌≡◌, ◌+◌, ◌-◌, ℕ, slice_index, arith}
use Rattle.ac_base.specs.Allocation.{bndtab_list}
use Rattle.ac_base.proofs.AllocationTables.{starts_small, starts_rise}
use Rattle.ac_sixths.specs.Runs.{column, entry_at, total_from}
use Rattle.ac_sixths.proofs.Meanings.{sums_small}
use Rattle.ac_sixths.proofs.Grouped.{room_at, next_at, none_so_far}
use Rattle.ac_sixths.proofs.Widths.{wide_1, wide_3, wide_6, wide_12, wide_24}
use Rattle.ac_sixths.proofs.bands.whole_bands.Goals as goal

pub group-requires-clause-levels : goal.group-requires-clause-levels
group-requires-clause-levels g c = λ (k : ℕ) l m.
    let low = starts_rise c.args.from c.args.from (omega arith) (omega arith) in
    let high = starts_rise c.near-three.result c.args.to (omega arith) (omega arith) in
    c.requires.levels k (omega arith) (omega arith)

pub group-requires-clause-wide : goal.group-requires-clause-wide
group-requires-clause-wide g c = λ (b : ℕ) l m. wide_1 c.args.from c.args.to c.requires.order b (omega arith) (omega arith)

pub group-requires-clause-room : goal.group-requires-clause-room
group-requires-clause-room g c = λ (j : ℕ) h.
    let s = slice_index bndtab_list c.args.from in
    let z = slice_index c.args.six.now j in
    let F = entry_at c.args.f.now c.args.levels.now (column c.args.bases.now c.args.row) (c.args.t0 + j) in
    let e0 : z ≡ z + total_from F s (s - s) = none_so_far F s z in
    let low = starts_rise c.args.from c.args.from (omega arith) (omega arith) in
    let next = starts_rise c.args.from c.near-three.result (omega arith) (omega arith) in
    let high = starts_rise c.near-three.result c.args.to (omega arith) (omega arith) in
    let end = starts_small c.args.to (omega arith) in
    room_at F s (slice_index bndtab_list c.args.to) (slice_index bndtab_list c.args.from) (slice_index bndtab_list c.near-three.result) (slice_index c.args.six.now j) z low next high (λ n w. sums_small c.args.f.now c.args.levels.now (column c.args.bases.now c.args.row) (c.args.t0 + j) s (slice_index bndtab_list c.args.to) n c.requires.small (omega arith) c.requires.levels c.requires.bases end w) (c.requires.room j h) e0

pub group-requires-2-clause-levels : goal.group-requires-2-clause-levels
group-requires-2-clause-levels g c = λ (k : ℕ) l m.
    let low = starts_rise c.args.from c.near-three.result (omega arith) (omega arith) in
    let high = starts_rise c.near-six_bins.result c.args.to (omega arith) (omega arith) in
    c.requires.levels k (omega arith) (omega arith)

pub group-requires-2-clause-wide : goal.group-requires-2-clause-wide
group-requires-2-clause-wide g c = λ (b : ℕ) l m. wide_3 c.args.from c.args.to c.requires.order b (omega arith) (omega arith)

pub group-requires-2-clause-room : goal.group-requires-2-clause-room
group-requires-2-clause-room g c = λ (j : ℕ) h.
    let s = slice_index bndtab_list c.args.from in
    let z = slice_index c.args.six.now j in
    let F = entry_at c.args.f.now c.args.levels.now (column c.args.bases.now c.args.row) (c.args.t0 + j) in
    let e0 : z ≡ z + total_from F s (s - s) = none_so_far F s z in
    let r1 = starts_rise c.args.from c.args.from (omega arith) (omega arith) in
    let q1 = starts_rise c.args.from c.near-three.result (omega arith) (omega arith) in
    let e1 : slice_index c.group.new.six j ≡ z + total_from F s (slice_index bndtab_list c.near-three.result - s) = next_at F s (slice_index bndtab_list c.args.from) (slice_index bndtab_list c.near-three.result) (slice_index c.args.six.now j) (slice_index c.group.new.six j) z r1 q1 e0 (c.group.ensures j h) in
    let low = starts_rise c.args.from c.near-three.result (omega arith) (omega arith) in
    let next = starts_rise c.near-three.result c.near-six_bins.result (omega arith) (omega arith) in
    let high = starts_rise c.near-six_bins.result c.args.to (omega arith) (omega arith) in
    let end = starts_small c.args.to (omega arith) in
    room_at F s (slice_index bndtab_list c.args.to) (slice_index bndtab_list c.near-three.result) (slice_index bndtab_list c.near-six_bins.result) (slice_index c.group.new.six j) z low next high (λ n w. sums_small c.args.f.now c.args.levels.now (column c.args.bases.now c.args.row) (c.args.t0 + j) s (slice_index bndtab_list c.args.to) n c.requires.small (omega arith) c.requires.levels c.requires.bases end w) (c.requires.room j h) e1

pub group-requires-3-clause-levels : goal.group-requires-3-clause-levels
group-requires-3-clause-levels g c = λ (k : ℕ) l m.
    let low = starts_rise c.args.from c.near-six_bins.result (omega arith) (omega arith) in
    let high = starts_rise c.near-twelve.result c.args.to (omega arith) (omega arith) in
    c.requires.levels k (omega arith) (omega arith)

pub group-requires-3-clause-wide : goal.group-requires-3-clause-wide
group-requires-3-clause-wide g c = λ (b : ℕ) l m. wide_6 c.args.from c.args.to c.requires.order b (omega arith) (omega arith)

pub group-requires-3-clause-room : goal.group-requires-3-clause-room
group-requires-3-clause-room g c = λ (j : ℕ) h.
    let s = slice_index bndtab_list c.args.from in
    let z = slice_index c.args.six.now j in
    let F = entry_at c.args.f.now c.args.levels.now (column c.args.bases.now c.args.row) (c.args.t0 + j) in
    let e0 : z ≡ z + total_from F s (s - s) = none_so_far F s z in
    let r1 = starts_rise c.args.from c.args.from (omega arith) (omega arith) in
    let q1 = starts_rise c.args.from c.near-three.result (omega arith) (omega arith) in
    let e1 : slice_index c.group.new.six j ≡ z + total_from F s (slice_index bndtab_list c.near-three.result - s) = next_at F s (slice_index bndtab_list c.args.from) (slice_index bndtab_list c.near-three.result) (slice_index c.args.six.now j) (slice_index c.group.new.six j) z r1 q1 e0 (c.group.ensures j h) in
    let r2 = starts_rise c.args.from c.near-three.result (omega arith) (omega arith) in
    let q2 = starts_rise c.near-three.result c.near-six_bins.result (omega arith) (omega arith) in
    let e2 : slice_index c.group-2.new.six j ≡ z + total_from F s (slice_index bndtab_list c.near-six_bins.result - s) = next_at F s (slice_index bndtab_list c.near-three.result) (slice_index bndtab_list c.near-six_bins.result) (slice_index c.group.new.six j) (slice_index c.group-2.new.six j) z r2 q2 e1 (c.group-2.ensures j h) in
    let low = starts_rise c.args.from c.near-six_bins.result (omega arith) (omega arith) in
    let next = starts_rise c.near-six_bins.result c.near-twelve.result (omega arith) (omega arith) in
    let high = starts_rise c.near-twelve.result c.args.to (omega arith) (omega arith) in
    let end = starts_small c.args.to (omega arith) in
    room_at F s (slice_index bndtab_list c.args.to) (slice_index bndtab_list c.near-six_bins.result) (slice_index bndtab_list c.near-twelve.result) (slice_index c.group-2.new.six j) z low next high (λ n w. sums_small c.args.f.now c.args.levels.now (column c.args.bases.now c.args.row) (c.args.t0 + j) s (slice_index bndtab_list c.args.to) n c.requires.small (omega arith) c.requires.levels c.requires.bases end w) (c.requires.room j h) e2

pub group-requires-4-clause-levels : goal.group-requires-4-clause-levels
group-requires-4-clause-levels g c = λ (k : ℕ) l m.
    let low = starts_rise c.args.from c.near-twelve.result (omega arith) (omega arith) in
    let high = starts_rise c.near-last.result c.args.to (omega arith) (omega arith) in
    c.requires.levels k (omega arith) (omega arith)

pub group-requires-4-clause-wide : goal.group-requires-4-clause-wide
group-requires-4-clause-wide g c = λ (b : ℕ) l m. wide_12 c.args.from c.args.to c.requires.order b (omega arith) (omega arith)

pub group-requires-4-clause-room : goal.group-requires-4-clause-room
group-requires-4-clause-room g c = λ (j : ℕ) h.
    let s = slice_index bndtab_list c.args.from in
    let z = slice_index c.args.six.now j in
    let F = entry_at c.args.f.now c.args.levels.now (column c.args.bases.now c.args.row) (c.args.t0 + j) in
    let e0 : z ≡ z + total_from F s (s - s) = none_so_far F s z in
    let r1 = starts_rise c.args.from c.args.from (omega arith) (omega arith) in
    let q1 = starts_rise c.args.from c.near-three.result (omega arith) (omega arith) in
    let e1 : slice_index c.group.new.six j ≡ z + total_from F s (slice_index bndtab_list c.near-three.result - s) = next_at F s (slice_index bndtab_list c.args.from) (slice_index bndtab_list c.near-three.result) (slice_index c.args.six.now j) (slice_index c.group.new.six j) z r1 q1 e0 (c.group.ensures j h) in
    let r2 = starts_rise c.args.from c.near-three.result (omega arith) (omega arith) in
    let q2 = starts_rise c.near-three.result c.near-six_bins.result (omega arith) (omega arith) in
    let e2 : slice_index c.group-2.new.six j ≡ z + total_from F s (slice_index bndtab_list c.near-six_bins.result - s) = next_at F s (slice_index bndtab_list c.near-three.result) (slice_index bndtab_list c.near-six_bins.result) (slice_index c.group.new.six j) (slice_index c.group-2.new.six j) z r2 q2 e1 (c.group-2.ensures j h) in
    let r3 = starts_rise c.args.from c.near-six_bins.result (omega arith) (omega arith) in
    let q3 = starts_rise c.near-six_bins.result c.near-twelve.result (omega arith) (omega arith) in
    let e3 : slice_index c.group-3.new.six j ≡ z + total_from F s (slice_index bndtab_list c.near-twelve.result - s) = next_at F s (slice_index bndtab_list c.near-six_bins.result) (slice_index bndtab_list c.near-twelve.result) (slice_index c.group-2.new.six j) (slice_index c.group-3.new.six j) z r3 q3 e2 (c.group-3.ensures j h) in
    let low = starts_rise c.args.from c.near-twelve.result (omega arith) (omega arith) in
    let next = starts_rise c.near-twelve.result c.near-last.result (omega arith) (omega arith) in
    let high = starts_rise c.near-last.result c.args.to (omega arith) (omega arith) in
    let end = starts_small c.args.to (omega arith) in
    room_at F s (slice_index bndtab_list c.args.to) (slice_index bndtab_list c.near-twelve.result) (slice_index bndtab_list c.near-last.result) (slice_index c.group-3.new.six j) z low next high (λ n w. sums_small c.args.f.now c.args.levels.now (column c.args.bases.now c.args.row) (c.args.t0 + j) s (slice_index bndtab_list c.args.to) n c.requires.small (omega arith) c.requires.levels c.requires.bases end w) (c.requires.room j h) e3

pub group-requires-5-clause-levels : goal.group-requires-5-clause-levels
group-requires-5-clause-levels g c = λ (k : ℕ) l m.
    let low = starts_rise c.args.from c.near-last.result (omega arith) (omega arith) in
    let high = starts_rise c.args.to c.args.to (omega arith) (omega arith) in
    c.requires.levels k (omega arith) (omega arith)

pub group-requires-5-clause-wide : goal.group-requires-5-clause-wide
group-requires-5-clause-wide g c = λ (b : ℕ) l m. wide_24 c.args.from c.args.to c.requires.order c.requires.to b (omega arith) (omega arith)

pub group-requires-5-clause-room : goal.group-requires-5-clause-room
group-requires-5-clause-room g c = λ (j : ℕ) h.
    let s = slice_index bndtab_list c.args.from in
    let z = slice_index c.args.six.now j in
    let F = entry_at c.args.f.now c.args.levels.now (column c.args.bases.now c.args.row) (c.args.t0 + j) in
    let e0 : z ≡ z + total_from F s (s - s) = none_so_far F s z in
    let r1 = starts_rise c.args.from c.args.from (omega arith) (omega arith) in
    let q1 = starts_rise c.args.from c.near-three.result (omega arith) (omega arith) in
    let e1 : slice_index c.group.new.six j ≡ z + total_from F s (slice_index bndtab_list c.near-three.result - s) = next_at F s (slice_index bndtab_list c.args.from) (slice_index bndtab_list c.near-three.result) (slice_index c.args.six.now j) (slice_index c.group.new.six j) z r1 q1 e0 (c.group.ensures j h) in
    let r2 = starts_rise c.args.from c.near-three.result (omega arith) (omega arith) in
    let q2 = starts_rise c.near-three.result c.near-six_bins.result (omega arith) (omega arith) in
    let e2 : slice_index c.group-2.new.six j ≡ z + total_from F s (slice_index bndtab_list c.near-six_bins.result - s) = next_at F s (slice_index bndtab_list c.near-three.result) (slice_index bndtab_list c.near-six_bins.result) (slice_index c.group.new.six j) (slice_index c.group-2.new.six j) z r2 q2 e1 (c.group-2.ensures j h) in
    let r3 = starts_rise c.args.from c.near-six_bins.result (omega arith) (omega arith) in
    let q3 = starts_rise c.near-six_bins.result c.near-twelve.result (omega arith) (omega arith) in
    let e3 : slice_index c.group-3.new.six j ≡ z + total_from F s (slice_index bndtab_list c.near-twelve.result - s) = next_at F s (slice_index bndtab_list c.near-six_bins.result) (slice_index bndtab_list c.near-twelve.result) (slice_index c.group-2.new.six j) (slice_index c.group-3.new.six j) z r3 q3 e2 (c.group-3.ensures j h) in
    let r4 = starts_rise c.args.from c.near-twelve.result (omega arith) (omega arith) in
    let q4 = starts_rise c.near-twelve.result c.near-last.result (omega arith) (omega arith) in
    let e4 : slice_index c.group-4.new.six j ≡ z + total_from F s (slice_index bndtab_list c.near-last.result - s) = next_at F s (slice_index bndtab_list c.near-twelve.result) (slice_index bndtab_list c.near-last.result) (slice_index c.group-3.new.six j) (slice_index c.group-4.new.six j) z r4 q4 e3 (c.group-4.ensures j h) in
    let low = starts_rise c.args.from c.near-last.result (omega arith) (omega arith) in
    let next = starts_rise c.near-last.result c.args.to (omega arith) (omega arith) in
    let high = starts_rise c.args.to c.args.to (omega arith) (omega arith) in
    let end = starts_small c.args.to (omega arith) in
    room_at F s (slice_index bndtab_list c.args.to) (slice_index bndtab_list c.near-last.result) (slice_index bndtab_list c.args.to) (slice_index c.group-4.new.six j) z low next high (λ n w. sums_small c.args.f.now c.args.levels.now (column c.args.bases.now c.args.row) (c.args.t0 + j) s (slice_index bndtab_list c.args.to) n c.requires.small (omega arith) c.requires.levels c.requires.bases end w) (c.requires.room j h) e4

pub returns : goal.returns
returns g c = λ (j : ℕ) h.
    let s = slice_index bndtab_list c.args.from in
    let z = slice_index c.args.six.now j in
    let F = entry_at c.args.f.now c.args.levels.now (column c.args.bases.now c.args.row) (c.args.t0 + j) in
    let e0 : z ≡ z + total_from F s (s - s) = none_so_far F s z in
    let r1 = starts_rise c.args.from c.args.from (omega arith) (omega arith) in
    let q1 = starts_rise c.args.from c.near-three.result (omega arith) (omega arith) in
    let e1 : slice_index c.group.new.six j ≡ z + total_from F s (slice_index bndtab_list c.near-three.result - s) = next_at F s (slice_index bndtab_list c.args.from) (slice_index bndtab_list c.near-three.result) (slice_index c.args.six.now j) (slice_index c.group.new.six j) z r1 q1 e0 (c.group.ensures j h) in
    let r2 = starts_rise c.args.from c.near-three.result (omega arith) (omega arith) in
    let q2 = starts_rise c.near-three.result c.near-six_bins.result (omega arith) (omega arith) in
    let e2 : slice_index c.group-2.new.six j ≡ z + total_from F s (slice_index bndtab_list c.near-six_bins.result - s) = next_at F s (slice_index bndtab_list c.near-three.result) (slice_index bndtab_list c.near-six_bins.result) (slice_index c.group.new.six j) (slice_index c.group-2.new.six j) z r2 q2 e1 (c.group-2.ensures j h) in
    let r3 = starts_rise c.args.from c.near-six_bins.result (omega arith) (omega arith) in
    let q3 = starts_rise c.near-six_bins.result c.near-twelve.result (omega arith) (omega arith) in
    let e3 : slice_index c.group-3.new.six j ≡ z + total_from F s (slice_index bndtab_list c.near-twelve.result - s) = next_at F s (slice_index bndtab_list c.near-six_bins.result) (slice_index bndtab_list c.near-twelve.result) (slice_index c.group-2.new.six j) (slice_index c.group-3.new.six j) z r3 q3 e2 (c.group-3.ensures j h) in
    let r4 = starts_rise c.args.from c.near-twelve.result (omega arith) (omega arith) in
    let q4 = starts_rise c.near-twelve.result c.near-last.result (omega arith) (omega arith) in
    let e4 : slice_index c.group-4.new.six j ≡ z + total_from F s (slice_index bndtab_list c.near-last.result - s) = next_at F s (slice_index bndtab_list c.near-twelve.result) (slice_index bndtab_list c.near-last.result) (slice_index c.group-3.new.six j) (slice_index c.group-4.new.six j) z r4 q4 e3 (c.group-4.ensures j h) in
    let r5 = starts_rise c.args.from c.near-last.result (omega arith) (omega arith) in
    let q5 = starts_rise c.near-last.result c.args.to (omega arith) (omega arith) in
    let e5 : slice_index c.group-5.new.six j ≡ z + total_from F s (slice_index bndtab_list c.args.to - s) = next_at F s (slice_index bndtab_list c.near-last.result) (slice_index bndtab_list c.args.to) (slice_index c.group-4.new.six j) (slice_index c.group-5.new.six j) z r5 q5 e4 (c.group-5.ensures j h) in
    e5

-- SNR offsets are within their fields.
use Rattle.std.proofs.Common.{ℕ, ◌<◌, ◌≤◌, ◌^◌, ◌==◌, Bool, true, false, ◌&&◌, List, [], nat_lt, Option, Some, None, refl, ap, arith, inl, inr}
use Rattle.std.specs.Prelude.{is_some, if◌then◌else◌}
use Rattle.std.specs.Option.{option_or, ForSome}
use Rattle.std.proofs.lemmas.Bool.{cases_lt, lt-ltb, le-ltb}
use Rattle.ac_base.specs.Shape.{full_of, is_stereo}
use Rattle.ac_alloc.specs.Pointers.{most_offset}
use Rattle.ac_codec.specs.Codec.{field, given, pair, shaped}
use Rattle.ac_rows.specs.Blocks.{Block}
use Rattle.ac_rows.specs.declared.head.Head.{Head}
use Rattle.ac_rows.specs.declared.groups.Allocation.{Allocation}
use Rattle.ac_rows.specs.declared.groups.Coupling.{Coupling}
use Rattle.ac_rows.specs.declared.groups.Known.{Known}
use Rattle.ac_rows.specs.Groups.{strategy_of, allocation_of}
use Rattle.ac_rows.specs.Filled.{number, entry, latest_in, needed, coupling_in, filled_of, holds}
use Rattle.ac_rows.specs.Known.{known_of}
use Rattle.ac_rows.specs.BlockRows.{allocation, parameters, offsets, leaks, coupling_now, block_fields, AreLawful}
use Rattle.ac_rows.proofs.BlockBits.{block_parts}
use Rattle.ac_rows.proofs.ZippedLawful.{allocation_offsets, offsets_fit}
use Rattle.ac_record.specs.Held.{offset_of, fine_of}
use Rattle.ac_reading.proofs.Latest.{some_held, at_first_listed}
use Rattle.ac_reading.proofs.HeldSpells.{full_most}

record Small (x : Allocation) : Type 0 where
  coarse : ForSome x.csnroffst (λ v. v < 2 ^ 6)
  shared : ForSome x.cplfsnroffst (λ v. v < 2 ^ 4)
  full : (i : ℕ) → i < 5 → ForSome (entry x.fsnroffst i) (λ v. v < 2 ^ 4)
  low : ForSome x.lfefsnroffst (λ v. v < 2 ^ 4)

small_allocation : (full : ℕ) (low : Bool) (known : Known) (c : Coupling) (x : Allocation) → (allocation full low known c).Lawful x → Small x
unfolding allocation parameters offsets leaks shaped pair given field
small_allocation full low known c x h =
    let o = allocation_offsets full low known c x h in
    record {
      coarse = λ v e. (h.1.0.1.0.1 v e).0;
      shared = λ v e. (h.1.0.1.1.0.1 v e).0;
      full = λ i lt. (offsets_fit o.0 x.fsnroffst x.fgaincod o.1 i lt).0;
      low = λ v e. (h.1.0.1.1.1.1.1.0.1 v e).0;
    }

small_block : (h : Head) (before : List Block) (b : Block) → (block_fields h before).Lawful b → Small (allocation_of b)
unfolding block_fields
small_block h before b l =
    let p = block_parts (full_of h.acmod) (is_stereo h.acmod) h.lfeon (known_of before) b l in
    small_allocation (full_of h.acmod) h.lfeon (known_of before) (coupling_now (known_of before) (strategy_of b)) (allocation_of b) p.allocation

number_below : (o : Option ℕ) (n : ℕ) → 0 < n → ForSome o (λ v. v < n) → number o < n
number_below None n some h = some
number_below (Some v) n some h = h v refl

needed_small : (there : Bool) (own kept : Option ℕ) → ForSome own (λ v. v < 2 ^ 4) → ForSome (option_or own kept) (λ v. v < 2 ^ 4) → number (if there then option_or own kept else own) < 2 ^ 4
needed_small true own kept h k = number_below (option_or own kept) (2 ^ 4) (omega arith) k
needed_small false own kept h k = number_below own (2 ^ 4) (omega arith) h

either_small : (t : Bool) (a b : ℕ) → a ≤ 15 → b ≤ 15 → (if t then a else b) ≤ 15
either_small true a b h k = h
either_small false a b h k = k

fine_small : (h : Head) (earlier : List Block) (b : Block) (c : ℕ) → AreLawful h earlier → (block_fields h earlier).Lawful b → fine_of h (filled_of h earlier b) c ≤ 15
unfolding filled_of
fine_small h earlier b c k l =
    let here = small_block h earlier b l in
    let full = full_of h.acmod in
    elim (cases_lt c full) [
      | inl lt ↦
          let m = full_most h.acmod in
          let small : c < 5 = omega arith in
          let w = needed_small (nat_lt c full) (entry b.fsnroffst c) (latest_in (λ _ d. entry d.fsnroffst c) [] earlier) (here.full c small)
          (some_held (λ v. v < 2 ^ 4) (λ _ d. entry d.fsnroffst c) h earlier b (λ before d bk dl. (small_block h before d dl).full c small) k l) in
          let at = ap number (at_first_listed 5 (λ i. needed (nat_lt i full) (λ d. entry d.fsnroffst i) earlier b) c None small) in
          rw (lt-ltb c full lt) (omega (arith, w, at))
      | inr le ↦
          let u = is_some (coupling_in earlier b).range in
          let shared = needed_small u b.cplfsnroffst (latest_in (λ _ d. d.cplfsnroffst) [] earlier) here.shared
          (some_held (λ v. v < 2 ^ 4) (λ _ d. d.cplfsnroffst) h earlier b (λ before d bk dl. (small_block h before d dl).shared) k l) in
          let low = needed_small h.lfeon b.lfefsnroffst (latest_in (λ _ d. d.lfefsnroffst) [] earlier) here.low
          (some_held (λ v. v < 2 ^ 4) (λ _ d. d.lfefsnroffst) h earlier b (λ before d bk dl. (small_block h before d dl).low) k l) in
          rw (le-ltb c full le) (either_small (holds (filled_of h earlier b).cplinu && c == full) _ _ (omega (arith, shared)) (omega (arith, low)))
    ]

coarse_small : (h : Head) (earlier : List Block) (b : Block) → AreLawful h earlier → (block_fields h earlier).Lawful b → number (filled_of h earlier b).csnroffst ≤ 63
unfolding filled_of
coarse_small h earlier b k l =
    let w = number_below (option_or b.csnroffst (latest_in (λ _ d. d.csnroffst) [] earlier)) (2 ^ 6) (omega arith)
    (some_held (λ v. v < 2 ^ 6) (λ _ d. d.csnroffst) h earlier b (λ before d bk dl. (small_block h before d dl).coarse) k l) in
    omega (arith, w)

pub offset_small : (h : Head) (earlier : List Block) (b : Block) (c : ℕ) → AreLawful h earlier → (block_fields h earlier).Lawful b → offset_of h (filled_of h earlier b) c ≤ most_offset
offset_small h earlier b c k l =
    let a = coarse_small h earlier b k l in
    let f = fine_small h earlier b c k l in
    omega (arith, a, f)

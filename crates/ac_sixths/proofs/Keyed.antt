-- The index of a bin in the table, and bounds of the table.
use Rattle.std.proofs.Common.{◌≡◌, ℕ, ◌+◌, ◌*◌, ◌-◌, ◌/◌, ◌<◌, ◌≤◌, min, ℤ, pos, negsuc, ◌-ℤ◌, List, slice_index, arith, ap, refl}
use Rattle.std.specs.Prelude.{nat_le, nat_eq}
use Rattle.std.proofs.lemmas.Int.{ints}
use Rattle.std.proofs.lemmas.Bool.{leb-true, eqb-true}
use Rattle.ac_base.specs.Allocation.{baptab_list}
use Rattle.ac_base.proofs.Tests.{all_below-at}
use Rattle.ac_base.proofs.AllocationTables.{baps_small}
use Rattle.ac_alloc.specs.Keys.{lowest, key, place, pointer_above, sixths_by}
use Rattle.ac_alloc.specs.Masking.{IsLevel}
use Rattle.ac_alloc.specs.Pointers.{natural, bap}
use Rattle.ac_alloc.proofs.Keyed.{address_is, place_is}
use Rattle.ac_sixths.specs.Keys.{weights, weight, sixths, WeightsAreSixths}
use Rattle.ac_sixths.specs.Runs.{base_of, level_of, IsSixthTable}

-- key less offset is all that the pointer depends on
pub baps_are_by_key : (mask : ℤ) (exponent t : ℕ) → IsLevel mask → exponent ≤ 24 → bap mask lowest (3072 - 128 * exponent) t ≡ pointer_above (pos (key mask exponent) -ℤ pos t)
baps_are_by_key mask e t is l = ap (slice_index baptab_list) (address_is mask e t is l)

pub weights_are_sixths : WeightsAreSixths
weights_are_sixths bap l = eqb-true _ _ (all_below-at 16 (λ k. nat_eq (weight k) (sixths_by k)) refl bap (omega arith))

pub natural_small : (mask : ℤ) → IsLevel mask → natural mask ≤ 5120
natural_small (pos n) is = omega (arith, is.1)
natural_small (negsuc n) is = omega arith

difference : (i k t : ℕ) → i + k ≡ 3000 + t → pos 3000 -ℤ pos i ≡ pos k -ℤ pos t
difference i k t e = omega (arith, ints, e)

-- the index of a bin at an offset
pub index_is : (mask : ℤ) (exponent t base level : ℕ) → IsLevel mask → exponent ≤ 24 → t ≤ 1023 → base ≡ base_of mask → level ≡ level_of exponent → (base + 4 * level + t < 4128) × (pos 3000 -ℤ pos (base + 4 * level + t) ≡ pos (key mask exponent) -ℤ pos t)
index_is mask exponent t base level is l m eb el =
    let small = natural_small mask is in
    (omega (arith, small, eb, el), difference (base + 4 * level + t) (key mask exponent) t (omega (arith, small, eb, el)))

-- what a mantissa costs is at most 96
pub weight_small : (bap : ℕ) → bap < 16 → weight bap ≤ 96
weight_small bap l = leb-true _ _ (all_below-at 16 (λ k. nat_le (slice_index weights k) 96) refl bap l)

pub sixths_small : (d : ℤ) → sixths d ≤ 96
sixths_small d = weight_small (pointer_above d) (omega (arith, baps_small (place d) (omega arith)))

pub table_small : (f : List ℕ) → IsSixthTable f → (i : ℕ) → i < 4128 → slice_index f i ≤ 96
table_small f is i l = omega (arith, is i l, sixths_small (pos 3000 -ℤ pos i))

-- the place at an index
place_at : (i : ℕ) → place (pos 3000 -ℤ pos i) ≡ min ((i - 1713) / 8) 63
place_at i = let e = place_is (pos 3000 -ℤ pos i) 3000 i refl in omega (arith, e)

-- below 1713 it is 0
pub low_sixths : (i : ℕ) → i < 1713 → sixths (pos 3000 -ℤ pos i) ≡ 0
low_sixths i l =
    let e : place (pos 3000 -ℤ pos i) ≡ 0 = omega (arith, place_at i) in ap (λ p. weight (slice_index baptab_list p)) e

-- from 2217 on it is 63
pub high_sixths : (i : ℕ) → 2217 ≤ i → sixths (pos 3000 -ℤ pos i) ≡ 96
high_sixths i l =
    let e : place (pos 3000 -ℤ pos i) ≡ 63 = omega (arith, place_at i) in ap (λ p. weight (slice_index baptab_list p)) e

-- The law of the keys.
use Rattle.std.proofs.Common.{◌≡◌, ℕ, zero, suc, subst, ◌+◌, ◌*◌, ◌-◌, ◌/◌, ◌<◌, ◌≤◌, min, ℤ, pos, negsuc, ◌-ℤ◌, ◌+ℤ◌, ◌≤ℤ◌, slice_index, bit_and, arith, ap, sym, ◌∙◌, refl}
use Rattle.std.specs.Prelude.{nat_le}
use Rattle.std.proofs.lemmas.Int.{ints}
use Rattle.std.proofs.lemmas.Nat.Bits.{and_high_mask}
use Rattle.std.proofs.lemmas.Bool.{leb-true}
use Rattle.ac_base.specs.Allocation.{baptab_list}
use Rattle.ac_base.specs.Floor.{floor_div}
use Rattle.ac_base.proofs.Tests.{all_below-at}
use Rattle.ac_base.proofs.AllocationTables.{baps_rise, baps_small}
use Rattle.ac_alloc.specs.Masking.{IsLevel}
use Rattle.ac_alloc.specs.Pointers.{natural, snr_offset, level, address, bap}
use Rattle.ac_base.specs.Allocation.{masktab_list}
use Rattle.ac_base.proofs.AllocationTables.{bands_small}
use Rattle.ac_base.proofs.SpanBounds.{span_end}
use Rattle.ac_alloc.specs.Integration.{psd}
use Rattle.ac_alloc.specs.Masking.{mask}
use Rattle.ac_alloc.specs.Keys.{lowest, key, place, pointer_above, sixths_by, LowestIsSent, BapsAreByKey, ChannelsAreByKey, SixthsRise}
use Rattle.ac_alloc.proofs.Rising.{masks_are_levels}

natural_of : (x : ℤ) (n m : ℕ) → x ≡ pos n -ℤ pos m → natural x ≡ n - m
natural_of (pos k) n m e = omega (arith, ints, e)
natural_of (negsuc k) n m e = omega (arith, ints, e)

natural_less : (n m : ℕ) → natural (pos n -ℤ pos m) ≡ n - m
natural_less n m = natural_of (pos n -ℤ pos m) n m refl

natural_least : (x : ℤ) (k : ℕ) → pos k ≤ℤ x → k ≤ natural x
natural_least (pos n) k h = omega (arith, ints)
natural_least (negsuc n) k h = absurd (omega (arith, ints))

natural_more : (n m k : ℕ) → k ≤ n → k ≤ natural (pos n -ℤ negsuc m)
natural_more n m k h = natural_least (pos n -ℤ negsuc m) k (omega (arith, ints))

-- the place on naturals: a above the offset t
pub place_is : (d : ℤ) (a t : ℕ) → d ≡ pos a -ℤ pos t → place d ≡ min ((1287 + t - a) / 8) 63
place_is (pos n) a t e =
    let f : a ≡ n + t = omega (arith, ints, e) in
    let g : natural (pos 160 -ℤ pos (n / 8)) ≡ 160 - n / 8 = natural_less 160 (n / 8) in
    omega (arith, g)
place_is (negsuc n) a t e =
    let f : t ≡ a + n + 1 = omega (arith, ints, e) in
    let g : 63 ≤ natural (pos 160 -ℤ negsuc (n / 8)) = natural_more 160 (n / 8) 63 (omega arith) in
    omega (arith, g)

-- a mask of n, less offset and floor
above : (x : ℤ) (n t : ℕ) → x ≡ pos n -ℤ snr_offset t -ℤ lowest → natural x ≡ n + 3008 - 4 * t
above (pos k) n t e = omega (arith, ints, e)
above (negsuc k) n t e = omega (arith, ints, e)

-- a density less a level of q steps
left_is : (x : ℤ) (psd q : ℕ) → x ≡ pos psd -ℤ (pos q +ℤ lowest) → natural x ≡ psd + 2048 - q
left_is (pos k) psd q e = omega (arith, ints, e)
left_is (negsuc k) psd q e = omega (arith, ints, e)

steps_are : (a e t : ℕ) → a < 8192 → e ≤ 24 → min ((3072 - 128 * e + 2048 - (a - 4 * t) / 32 * 32) / 32) 63 ≡ min ((1287 + t - (32 * e + a / 4)) / 8) 63
steps_are a e t h l = omega arith

pub address_is : (mask : ℤ) (e t : ℕ) → IsLevel mask → e ≤ 24 → address (level mask lowest t) (3072 - 128 * e) ≡ place (pos (key mask e) -ℤ pos t)
address_is (pos n) e t is l =
    let x = pos n -ℤ snr_offset t -ℤ lowest in
    let a = above x n t refl in
    let q : bit_and (natural x) 0x1fe0 ≡ (n + 3008 - 4 * t) / 32 * 32 = ap (λ v. bit_and v 0x1fe0) a ∙ and_high_mask 13 5 (omega arith) (n + 3008 - 4 * t) (omega (arith, is.1)) in
    let b = left_is (pos (3072 - 128 * e) -ℤ level (pos n) lowest t) (3072 - 128 * e) (bit_and (natural x) 0x1fe0) refl in
    let c = place_is (pos (key (pos n) e) -ℤ pos t) (key (pos n) e) t refl in
    let s = steps_are (n + 3008) e t (omega (arith, is.1)) l in
    ap (λ v. min (v / 32) 63) (b ∙ ap (λ v. 3072 - 128 * e + 2048 - v) q) ∙ s ∙ sym c
address_is (negsuc n) e t is l = absurd (omega (arith, ints, is.0))

pub baps_are_by_key : BapsAreByKey
baps_are_by_key mask e t is l = address_is mask e t is l

pub lowest_is_sent : LowestIsSent
lowest_is_sent fscod rate = refl

pub channels_are_by_key : ChannelsAreByKey
channels_are_by_key p s exps k t low is inside small =
    let b = slice_index masktab_list k in
    let m = mask p s exps b in
    let near = bands_small k (omega (arith, inside.1, span_end s is)) in
    let lev = masks_are_levels p s exps b is (omega arith) in
    ap (λ f. bap m f (psd exps k) t) low ∙ ap (slice_index baptab_list) (address_is m (slice_index exps k) t lev small)

-- ---- what a bin costs rises
zero_more : (i : ℕ) → i + 0 ≡ i
zero_more i = omega arith

step_up : (i : ℕ) → i < 15 → sixths_by i ≤ sixths_by (suc i)
step_up i l = leb-true _ _ (all_below-at 15 (λ k. nat_le (sixths_by k) (sixths_by (suc k))) refl i l)

far_up : (i n : ℕ) → i + n < 16 → sixths_by i ≤ sixths_by (i + n)
far_up i zero l = subst (λ x. sixths_by i ≤ sixths_by x) (sym (zero_more i)) (omega arith)
far_up i (suc n) l =
    let e : i + suc n ≡ suc (i + n) = omega arith in
    subst (λ x. sixths_by i ≤ sixths_by x) (sym e) (omega (arith, far_up i n (omega arith), step_up (i + n) (omega arith)))

weights_rise : (i j : ℕ) → i ≤ j → j < 16 → sixths_by i ≤ sixths_by j
weights_rise i j l m =
    let e : i + (j - i) ≡ j = omega arith in
    subst (λ x. sixths_by i ≤ sixths_by x) e (far_up i (j - i) (omega arith))

natural_rises : (x y : ℤ) → x ≤ℤ y → natural x ≤ natural y
natural_rises (pos a) (pos b) l = omega (arith, ints)
natural_rises (pos a) (negsuc b) l = absurd (omega (arith, ints))
natural_rises (negsuc a) (pos b) l = omega (arith, ints)
natural_rises (negsuc a) (negsuc b) l = omega (arith, ints)

floors_rise : (c d : ℤ) → c ≤ℤ d → floor_div c 8 ≤ℤ floor_div d 8
floors_rise (pos a) (pos b) l = omega (arith, ints)
floors_rise (pos a) (negsuc b) l = absurd (omega (arith, ints))
floors_rise (negsuc a) (pos b) l = omega (arith, ints)
floors_rise (negsuc a) (negsuc b) l = omega (arith, ints)

falls : (x y : ℤ) → x ≤ℤ y → (pos 160 -ℤ y) ≤ℤ (pos 160 -ℤ x)
falls x y l = omega (arith, ints)

pub sixths_rise : SixthsRise
sixths_rise c d l =
    let n = natural_rises (pos 160 -ℤ floor_div d 8) (pos 160 -ℤ floor_div c 8) (falls (floor_div c 8) (floor_div d 8) (floors_rise c d l)) in
    let b = baps_rise (place d) (place c) (omega (arith, n)) (omega arith) in
    weights_rise (pointer_above d) (pointer_above c) b (omega (arith, baps_small (place c) (omega arith)))

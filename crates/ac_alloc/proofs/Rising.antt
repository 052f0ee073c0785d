-- Bits never fall as the offset rises.
use Rattle.std.proofs.Common.{◌≡◌, ℕ, zero, suc, ◌+◌, ◌*◌, ◌-◌, ◌/◌, ◌<◌, ◌≤◌, min, ℤ, pos, negsuc, ◌+ℤ◌, ◌-ℤ◌, ◌≤ℤ◌, Bool, true, false, List, slice_index, slice_index_or, bit_and, refl, arith, rules, inl, inr}
use Rattle.std.specs.Prelude.{unsigned_abs, nat_le, nat_lt, if◌then◌else◌, ◌&&◌}
use Rattle.std.proofs.lemmas.Int.{ints, clamps}
use Rattle.std.proofs.lemmas.Nat.Bits.{and_high_mask}
use Rattle.std.proofs.lemmas.Bool.{leb-true, cases_lt}
use Rattle.std.specs.Int.{int_max}
use Rattle.ac_alloc.specs.declared.params.Params.{Params}
use Rattle.ac_base.specs.declared.spans.Lead.{Lead}
use Rattle.ac_base.specs.declared.spans.Lead.TheVariants as lead
use Rattle.ac_base.specs.Allocation.{bndtab_list, masktab_list, hth_list}
use Rattle.ac_alloc.specs.Codes.{slow_gains, knees, floors, fast_gain, slow_gain, fast_decay, slow_decay, fast_start, slow_start, knee, floor_of}
use Rattle.ac_alloc.specs.Integration.{folded, psd, bndpsd, first_bin, last_bin}
use Rattle.ac_alloc.specs.Excitation.{greatest, leak, leak_from, joined, low, begin, excite, excite_coupling, excite_by}
use Rattle.ac_alloc.specs.Masking.{masked, IsLevel, IsFloor, MasksAreLevels, FloorsAreFloors, mask, first_band}
use Rattle.ac_alloc.specs.Pointers.{natural, snr_offset, level, BapsRise, BapRisesWithOffset}
use Rattle.ac_base.proofs.Tests.{all_below-at}
use Rattle.ac_base.proofs.AllocationTables.{baps_rise, starts_near, hearing_small, bands_small}
use Rattle.ac_alloc.proofs.Folds.{folded_bound, bndpsd_past}
use Rattle.ac_base.proofs.SpanBounds.{span_end}

natural_is : (x : ℤ) (n d : ℕ) → x +ℤ pos d ≡ pos n → natural x ≡ n - d
natural_is (pos k) n d e = omega (arith, ints)
natural_is (negsuc k) n d e = omega (arith, ints)

pub natural_max : (x : ℤ) → natural x ≡ unsigned_abs (int_max x (pos 0))
natural_max (pos n) = omega (arith, ints, clamps)
natural_max (negsuc n) = omega (arith, ints, clamps)

natural_rises : (x y : ℤ) → x ≤ℤ y → natural x ≤ natural y
natural_rises (pos a) (pos b) l = omega (arith, ints)
natural_rises (pos a) (negsuc b) l = absurd (omega (arith, ints))
natural_rises (negsuc a) (pos b) l = omega (arith, ints)
natural_rises (negsuc a) (negsuc b) l = omega (arith, ints)

natural_below : (x : ℤ) (n : ℕ) → x ≤ℤ pos n → natural x ≤ n
natural_below x n l = natural_rises x (pos n) l

and-le : (x y : ℕ) → x ≤ y → y < 8192 → bit_and x 0x1fe0 ≤ bit_and y 0x1fe0
and-le x y l h =
    omega (arith, and_high_mask 13 5 (omega arith) x (omega arith), and_high_mask 13 5 (omega arith) y (omega arith))

pub baps_rise_with_t : BapsRise
baps_rise_with_t m floor d t u im fl l =
    let x = m -ℤ snr_offset t -ℤ floor in
    let y = m -ℤ snr_offset u -ℤ floor in
    let falls : y ≤ℤ x = omega (arith, ints, im.0, im.1, fl.0, fl.1) in
    let small : x ≤ℤ pos 8128 = omega (arith, ints, im.0, im.1, fl.0, fl.1) in
    let a = and-le (natural y) (natural x) (natural_rises y x falls) (omega (arith, natural_below x 8128 small)) in
    let lower : (pos d -ℤ level m floor t) ≤ℤ (pos d -ℤ level m floor u) = omega (arith, ints, a) in
    let n = natural_rises (pos d -ℤ level m floor t) (pos d -ℤ level m floor u) lower in
    baps_rise (min (natural (pos d -ℤ level m floor t) / 32) 63) (min (natural (pos d -ℤ level m floor u) / 32) 63) (omega (arith, n)) (omega arith)

-- ---- masks of the definition are small
within : (b : Bool) (x y m : ℕ) → x ≤ m → y ≤ m → (if b then x else y) ≤ m
within true x y m p q = p
within false x y m p q = q

bndpsd_bound : (start end : ℕ) (exps : List ℕ) (b : ℕ) → end ≤ 253 → bndpsd start end exps b ≤ 4544
bndpsd_bound start end exps b l =
    let f = folded_bound (psd exps) (first_bin start b) (last_bin end b - first_bin start b) 3072 (λ j p q. omega arith) in
    let w = folded (psd exps) (first_bin start b) (last_bin end b - first_bin start b) in
    elim (cases_lt b 50) [
      | inl h ↦ within (nat_lt (slice_index bndtab_list b) end && nat_lt start (slice_index bndtab_list (b + 1))) w 0 4544 (omega (arith, starts_near b h, f)) (omega arith)
      | inr h ↦ omega (arith, bndpsd_past start end exps b l (omega arith))
    ]

greatest_bound : (f : ℕ → ℤ) (a n : ℕ) (m : ℤ) → ((j : ℕ) → f j ≤ℤ m) → greatest f a n ≤ℤ m
greatest_bound f a zero m h = h a
greatest_bound f a (suc n) m h =
    omega (arith, ints, clamps, greatest_bound f a n m h, h (a + suc n))

term_bound : (x g d : ℕ) → x ≤ 4544 → 128 ≤ g → (pos x -ℤ pos g -ℤ pos d) ≤ℤ pos 4416
term_bound x g d p q = omega (arith, ints)

leak_bound : (P : ℕ → ℕ) (g d a b : ℕ) → ((j : ℕ) → P j ≤ 4544) → 128 ≤ g → leak P g d a b ≤ℤ pos 4416
leak_bound P g d a b h q =
    greatest_bound (λ j. pos (P j) -ℤ pos g -ℤ pos (d * (b - j))) a (b - a) (pos 4416) (λ j. term_bound (P j) g (d * (b - j)) (h j) q)

max_bound : (x y m : ℤ) → x ≤ℤ m → y ≤ℤ m → int_max x y ≤ℤ m
max_bound x y m p q = omega (arith, ints, clamps)

less_bound : (x m : ℤ) (n : ℕ) → x ≤ℤ m → (x -ℤ pos n) ≤ℤ m
less_bound x m n p = omega (arith, ints)

either : (b : Bool) (x y m : ℤ) → x ≤ℤ m → y ≤ℤ m → (if b then x else y) ≤ℤ m
either true x y m p q = p
either false x y m p q = q

fast_gain_least : (p : Params) → 128 ≤ fast_gain p
fast_gain_least p = omega arith

slow_gain_least : (p : Params) → 128 ≤ slow_gain p
slow_gain_least p =
    leb-true _ _ (all_below-at 4 (λ k. nat_le 128 (slice_index slow_gains k)) refl p.sgaincod (omega (arith, p.gain_code)))

knee_most : (p : Params) → knee p ≤ 2816
knee_most p =
    leb-true _ _ (all_below-at 4 (λ k. nat_le (slice_index knees k) 2816) refl p.dbpbcod (omega (arith, p.knee_code)))

excite_bound : (p : Params) → (lfe : Bool) (P : ℕ → ℕ) (b : ℕ) → ((j : ℕ) → P j ≤ 4544) → excite p lfe P b ≤ℤ pos 4416
excite_bound p lfe P b h =
    let z = begin lfe P in
    let f = leak P (fast_gain p) (fast_decay p) (z - 1) b in
    let s = leak P (slow_gain p) (slow_decay p) (z - 1) b in
    let l = low lfe P b in
    let fb = leak_bound P (fast_gain p) (fast_decay p) (z - 1) b h (fast_gain_least p) in
    let sb = leak_bound P (slow_gain p) (slow_decay p) (z - 1) b h (slow_gain_least p) in
    either (nat_lt b z) (pos (P b) -ℤ pos (fast_gain p) -ℤ pos l) (joined f s l b) (pos 4416) (term_bound (P b) (fast_gain p) l (h b) (fast_gain_least p)) (either (nat_le b 21) (int_max (f -ℤ pos l) s) (int_max f s) (pos 4416) (max_bound (f -ℤ pos l) s (pos 4416) (less_bound f (pos 4416) l fb) sb) (max_bound f s (pos 4416) fb sb))

start_bound : (n d : ℕ) → n ≤ 2560 → (pos n -ℤ pos d) ≤ℤ pos 4416
start_bound n d l = omega (arith, ints)

coupling_bound : (p : Params) → (a : ℕ) (P : ℕ → ℕ) (b : ℕ) → ((j : ℕ) → P j ≤ 4544) → excite_coupling p a P b ≤ℤ pos 4416
coupling_bound p a P b h =
    let fb = leak_bound P (fast_gain p) (fast_decay p) a b h (fast_gain_least p) in
    let sb = leak_bound P (slow_gain p) (slow_decay p) a b h (slow_gain_least p) in
    let f0 = start_bound (fast_start p) (fast_decay p * (b - a + 1)) (omega (arith, p.fast_leak_code)) in
    let s0 = start_bound (slow_start p) (slow_decay p * (b - a + 1)) (omega (arith, p.slow_leak_code)) in
    max_bound (leak_from (pos (fast_start p)) P (fast_gain p) (fast_decay p) a b) (leak_from (pos (slow_start p)) P (slow_gain p) (slow_decay p) a b) (pos 4416) (max_bound (pos (fast_start p) -ℤ pos (fast_decay p * (b - a + 1))) (leak P (fast_gain p) (fast_decay p) a b) (pos 4416) f0 fb) (max_bound (pos (slow_start p) -ℤ pos (slow_decay p * (b - a + 1))) (leak P (slow_gain p) (slow_decay p) a b) (pos 4416) s0 sb)

by_bound : (l : Lead) (p : Params) → (a : ℕ) (P : ℕ → ℕ) (b : ℕ) → ((j : ℕ) → P j ≤ 4544) → excite_by l p a P b ≤ℤ pos 4416
by_bound lead.Free p a P b h = excite_bound p false P b h
by_bound lead.Coupled p a P b h = excite_bound p false P b h
by_bound lead.Coupling p a P b h = coupling_bound p a P b h
by_bound lead.Low p a P b h = excite_bound p true P b h

grown_bound : (x : ℤ) (n : ℕ) → x ≤ℤ pos 4416 → n ≤ 704 → (x +ℤ pos n) ≤ℤ pos 5120
grown_bound x n p q = omega (arith, ints)

is_level : (x : ℤ) (n : ℕ) → x ≤ℤ pos 5120 → n ≤ 2112 → IsLevel (int_max x (pos n))
is_level x n p q = (omega (arith, ints, clamps), omega (arith, ints, clamps))

masked_level : (x : ℤ) (knee bndpsd threshold : ℕ) → x ≤ℤ pos 4416 → knee ≤ 2816 → threshold ≤ 2112 → IsLevel (masked x knee bndpsd threshold)
masked_level x knee bndpsd threshold p q r =
    let g = grown_bound x ((knee - bndpsd) / 4) p (omega arith) in
    let h : x ≤ℤ pos 5120 = omega (arith, ints) in
    is_level (if nat_lt bndpsd knee then x +ℤ pos ((knee - bndpsd) / 4) else x) threshold (either (nat_lt bndpsd knee) (x +ℤ pos ((knee - bndpsd) / 4)) x (pos 5120) g h) r

pub floor_in : (k : ℕ) → k ≤ 7 → IsFloor (slice_index_or floors k (pos 0))
floor_in zero h = search rules
floor_in (suc zero) h = search rules
floor_in (suc (suc zero)) h = search rules
floor_in (suc (suc (suc zero))) h = search rules
floor_in (suc (suc (suc (suc zero)))) h = search rules
floor_in (suc (suc (suc (suc (suc zero))))) h = search rules
floor_in (suc (suc (suc (suc (suc (suc zero)))))) h = search rules
floor_in (suc (suc (suc (suc (suc (suc (suc zero))))))) h = search rules
floor_in (suc (suc (suc (suc (suc (suc (suc (suc k)))))))) h = absurd (omega arith)

pub masks_are_levels : MasksAreLevels
masks_are_levels p s exps b span below =
    let P = bndpsd s.start s.end exps in
    let e = by_bound s.lead p (first_band s) P b (λ j. bndpsd_bound s.start s.end exps j (span_end s span)) in
    masked_level (excite_by s.lead p (first_band s) P b) (knee p) (P b) (slice_index (hth_list p.fscod) b) e (knee_most p) (hearing_small p.fscod b below)

pub floors_are_floors : FloorsAreFloors
floors_are_floors p = floor_in p.floorcod (omega (arith, p.floor_code))

pub bap_rises : BapRisesWithOffset
bap_rises p s exps k t u span l m h =
    let b = slice_index masktab_list k in
    let small = bands_small k (omega (arith, span_end s span)) in
    baps_rise_with_t (mask p s exps b) (floor_of p) (psd exps k) t u (masks_are_levels p s exps b span (omega arith)) (floors_are_floors p) h

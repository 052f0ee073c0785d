-- Steps of the loops over rows, channels and lists.
use Rattle.std.proofs.Common.{◌≡◌, ◌⊎◌, ℕ, zero, suc, ◌+◌, ◌-◌, ◌*◌, ◌<◌, ◌≤◌, ℤ, Bool, true, false, ◌&&◌, ◌||◌, List, [], ◌∷◌, ◌++◌, length, slice_index, set, take, drop, refl, ap, ap₂, sym, subst, ◌∙◌, arith, inl, inr, append_assoc, get_or-set_same, get_or-set_other}
use Rattle.std.specs.Prelude.{map, not, if◌then◌else◌}
use Rattle.std.specs.List.{range_with_len, slice_range}
use Rattle.std.proofs.lemmas.List.{take_rest, take_more_set, length-take-le, drop-take, get_or-take}
use Rattle.std.proofs.lemmas.Bool.{cases_eq, cases_lt}
use Rattle.std.proofs.Math.Seq.{take-append-add, drop-append-add}
use Rattle.ac_base.specs.declared.spans.Span.{Span}
use Rattle.ac_base.specs.Shape.{count_of}
use Rattle.ac_base.specs.Sizes.{front_room, front_words_of}
use Rattle.ac_base.specs.Spans.{IsIn}
use Rattle.ac_base.specs.Allocation.{masktab_list}
use Rattle.ac_base.proofs.AllocationTables.{baps_small}
use Rattle.ac_alloc.specs.declared.params.Params.{Params}
use Rattle.ac_alloc.specs.Pointers.{pointer, address, bap_of, level}
use Rattle.ac_alloc.specs.Codes.{floor_of}
use Rattle.ac_alloc.specs.Integration.{psd}
use Rattle.ac_alloc.specs.Masking.{mask}
use Rattle.ac_bits.specs.Bits.{bits, bits_of}
use Rattle.ac_bits.proofs.Laws.{length-bits}
use Rattle.ac_crc.specs.Remainder.{IsRemainder}
use Rattle.ac_record.specs.Channels.{is_in}
use Rattle.ac_record.specs.Order.{with_coupling, over_bins, over_channels}
use Rattle.ac_record.specs.Readings.{cell}
use Rattle.ac_record.specs.CrcParts.{front_part, all_part}
use Rattle.ac_reading.specs.Cells.{IsRow, IsPut, StaysBut}
use Rattle.ac_reading.proofs.Flat.{bins_more, bins_flat, channel_more, channels_same}
use Rattle.ac_reading.proofs.Orders.{order_step}
use Rattle.ac_reading.proofs.Rows.{row_inside}

-- ---- pointers

bap_small : (l : ℤ) (d : ℕ) → bap_of l d ≤ 15
bap_small l d = baps_small (address l d) (omega arith)

pub pointer_small : (silent : Bool) (p : Params) (s : Span) (exps : List ℕ) (k t : ℕ) → pointer silent p s exps k t ≤ 15
pointer_small true p s exps k t = omega arith
pointer_small false p s exps k t = bap_small (level (mask p s exps (slice_index masktab_list k)) (floor_of p) t) (psd exps k)

if_small : (t : Bool) (n : ℕ) → n ≤ 15 → (if t then n else 0) ≤ 15
if_small true n h = h
if_small false n h = omega arith

pub row_small : (span : Span) (g : ℕ → ℕ) (row : List ℕ) → IsRow span g row → ((k : ℕ) → g k ≤ 15) → (k : ℕ) → slice_index row k ≤ 15
row_small span g row h small k = omega (arith, h k, if_small (is_in span k) (g k) (small k))

pub outside_span : (span : Span) (k : ℕ) → (IsIn span k → ⊥) → (k < span.start) ⊎ (span.end ≤ k)
outside_span span k out = elim (cases_lt k span.start) [
  | inl lt ↦ inl lt
  | inr le ↦ elim (cases_lt k span.end) [ inl lt ↦ absurd (out (le, lt)) | inr ge ↦ inr ge ]
]

-- ---- bits of bytes

bits_take : (n : ℕ) (xs : List ℕ) → n ≤ length xs → take (8 * n) (bits_of xs) ≡ bits_of (take n xs)
bits_take zero xs le = refl
bits_take (suc n) [] le = absurd (omega arith)
bits_take (suc n) (x ∷ xs) le =
    let long : 8 * suc n ≡ length (bits x 8) + 8 * n = omega (arith, length-bits x 8) in
    ap (λ (m : ℕ). take m (bits x 8 ++ bits_of xs)) long ∙ (take-append-add (bits x 8) (bits_of xs) (8 * n) ∙ ap (λ (l : List Bool). bits x 8 ++ l) (bits_take n xs (omega arith)))

bits_drop : (n : ℕ) (xs : List ℕ) → n ≤ length xs → drop (8 * n) (bits_of xs) ≡ bits_of (drop n xs)
bits_drop zero xs le = refl
bits_drop (suc n) [] le = absurd (omega arith)
bits_drop (suc n) (x ∷ xs) le =
    let long : 8 * suc n ≡ length (bits x 8) + 8 * n = omega (arith, length-bits x 8) in
    ap (λ (m : ℕ). drop m (bits x 8 ++ bits_of xs)) long ∙ (drop-append-add (bits x 8) (bits_of xs) (8 * n) ∙ bits_drop n xs (omega arith))

pub front_bits : (frame : List ℕ) (words n : ℕ) → n ≡ 2 * front_words_of words → n ≤ length frame → 2 ≤ n → front_part words (bits_of frame) ≡ bits_of (slice_range frame 2 n)
front_bits frame words n e le two =
    let m : front_room words ≡ 8 * n = omega arith in
    let split : n ≡ 2 + (n - 2) = omega arith in
    ap (λ (x : ℕ). drop 16 (take x (bits_of frame))) m
    ∙ (ap (drop 16) (bits_take n frame le)
    ∙ (bits_drop 2 (take n frame) (omega (arith, length-take-le n frame le))
    ∙ ap bits_of (ap (λ (x : ℕ). drop 2 (take x frame)) split ∙ drop-take 2 (n - 2) frame)))

pub all_bits : (frame : List ℕ) → 2 ≤ length frame → all_part (bits_of frame) ≡ bits_of (slice_range frame 2 (length frame))
all_bits frame le = bits_drop 2 frame le ∙ ap bits_of (sym (take_rest frame 2))

-- ---- mantissas

pub gather_step : (flat row base : List ℕ) (to start k v : ℕ) → to < length flat → start ≤ k → v ≡ slice_index row k → take to flat ≡ base ++ map (slice_index row) (range_with_len start (k - start))
    → take (to + 1) (set flat to v) ≡ base ++ map (slice_index row) (range_with_len start (k + 1 - start))
gather_step flat row base to start k v room le is so_far =
    let n : k + 1 - start ≡ (k - start) + 1 = omega arith in
    let at : start + (k - start) ≡ k = omega arith in
    take_more_set flat to v room
    ∙ (ap₂ (λ (l : List ℕ) (x : ℕ). l ++ x ∷ []) so_far (is ∙ ap (slice_index row) (sym at))
    ∙ (append_assoc base (map (slice_index row) (range_with_len start (k - start))) (slice_index row (start + (k - start)) ∷ [])
    ∙ (ap (λ (l : List ℕ). base ++ l) (sym (bins_more (slice_index row) start (k - start)))
    ∙ ap (λ (m : ℕ). base ++ map (slice_index row) (range_with_len start m)) (sym n))))

-- one channel more
pub gather_more : (s : ℕ → Span) (order : List ℕ) (j at r : ℕ) (flat new : List ℕ) (f : ℕ → ℕ → ℕ) → j < length order → take at flat ≡ over_channels s (take j order) f
    → take r new ≡ take at flat ++ over_bins (f (slice_index order j)) (s (slice_index order j)) → take r new ≡ over_channels s (take (j + 1) order) f
gather_more s order j at r flat new f lt so_far more = more ∙ (ap (λ (l : List ℕ). l ++ over_bins (f (slice_index order j)) (s (slice_index order j))) so_far ∙ sym (channel_more s order j f lt))

-- a code more in a row
pub scatter_in : (row flat : List ℕ) (at start k v : ℕ) → k < length row → v ≡ slice_index flat (at + (k - start)) → ((i : ℕ) → start ≤ i → i < k → slice_index row i ≡ slice_index flat (at + (i - start)))
    → (i : ℕ) → start ≤ i → i < k + 1 → slice_index (set row k v) i ≡ slice_index flat (at + (i - start))
scatter_in row flat at start k v room is before i le lt = elim (cases_eq i k) [
  | inl e ↦ ap (slice_index (set row k v)) e ∙ (get_or-set_same row k v 0 room ∙ (is ∙ ap (λ (x : ℕ). slice_index flat (at + (x - start))) (sym e)))
  | inr ne ↦ get_or-set_other row k i v 0 ne ∙ before i le (omega arith)
]

pub scatter_out : (span : Span) (row : List ℕ) (k v : ℕ) → IsIn span k → ((i : ℕ) → (IsIn span i → ⊥) → slice_index row i ≡ 0) → (i : ℕ) → (IsIn span i → ⊥) → slice_index (set row k v) i ≡ 0
scatter_out span row k v inside before i out = elim (cases_eq i k) [
  | inl e ↦ absurd (out (subst (IsIn span) (sym e) inside))
  | inr ne ↦ get_or-set_other row k i v 0 ne ∙ before i out
]

-- a channel's codes more
pub scatter_more : (s : ℕ → Span) (order : List ℕ) (j at b c : ℕ) (flat row : List ℕ) (old new : List (List (List ℕ))) → c ≡ slice_index order j → j < length order
    → ((i : ℕ) → i < j → slice_index order i ≡ slice_index order j → ⊥) → (s c).start ≤ (s c).end → at + 256 ≤ length flat → (s c).end ≤ 256
    → over_channels s (take j order) (λ c k. cell old c b k) ≡ take at flat → IsRow (s c) (λ k. slice_index flat (at + (k - (s c).start))) row → IsPut old new c b row
    → over_channels s (take (j + 1) order) (λ c k. cell new c b k) ≡ take (at + ((s c).end - (s c).start)) flat
scatter_more s order j at b c flat row old new is lt apart le room end so_far has put =
    let long : length (take j order) ≡ j = length-take-le j order (omega arith) in
    let kept : over_channels s (take j order) (λ c k. cell new c b k) ≡ over_channels s (take j order) (λ c k. cell old c b k) =
    channels_same s s (take j order) (λ c k. cell new c b k) (λ c k. cell old c b k) (λ i l. refl)
    (λ i k l in_. put.rest (slice_index (take j order) i) b k (inl (λ e.
    apart i (omega (arith, long)) (sym (get_or-take j order i 0 (omega (arith, long))) ∙ (e ∙ is))))) in
    let now : take at flat ++ over_bins (λ k. cell new c b k) (s c) ≡ take (at + ((s c).end - (s c).start)) flat =
    bins_flat (λ k. cell new c b k) (s c).start ((s c).end - (s c).start) flat at (omega arith) (λ k low high. put.here k ∙ row_inside (s c) (λ k. slice_index flat (at + (k - (s c).start))) row has k (low, omega arith)) in
    let P : ℕ → Type 0 = λ x. over_channels s (take (j + 1) order) (λ c k. cell new c b k) ≡ over_channels s (take j order) (λ c k. cell new c b k) ++ over_bins (λ k. cell new x b k) (s x) in
    subst P (sym is) (channel_more s order j (λ c k. cell new c b k) lt)
    ∙ (ap (λ (l : List ℕ). l ++ over_bins (λ k. cell new c b k) (s c)) (kept ∙ so_far) ∙ now)

pub scatter_elsewhere : (s : ℕ → Span) (b c : ℕ) (g : ℕ → ℕ) (row : List ℕ) (old new : List (List (List ℕ))) → IsRow (s c) g row → IsPut old new c b row
    → ((d k : ℕ) → is_in (s d) k ≡ false → cell old d b k ≡ 0) → (d k : ℕ) → is_in (s d) k ≡ false → cell new d b k ≡ 0
scatter_elsewhere s b c g row old new has put before d k out = elim (cases_eq d c) [
  | inl e ↦
      let here : is_in (s c) k ≡ false = subst (λ (x : ℕ). is_in (s x) k ≡ false) e out in
      ap (λ (x : ℕ). cell new x b k) e ∙ (put.here k ∙ (has k ∙ ap (λ (t : Bool). if t then g k else 0) here))
  | inr ne ↦ put.rest d b k (inl ne) ∙ before d k out
]

pub put_stays : (b c : ℕ) (row : List ℕ) (first old new : List (List (List ℕ))) → IsPut old new c b row → StaysBut b first old → StaysBut b first new
put_stays b c row first old new put before d e k ne = put.rest d e k (inr ne) ∙ before d e k ne

-- ---- the order

regroup : (a : List ℕ) (i : ℕ) (b c : List ℕ) → ((a ++ i ∷ []) ++ b) ++ c ≡ a ++ (i ∷ (b ++ c))
regroup a i b c = simp append_assoc refl

pub full_more : (coupled : ℕ → Bool) (shared full i count next last : ℕ) (came t now : Bool) (out one two total : List ℕ) → i < full → coupled i ≡ t → now ≡ (t && not came) → take next one ≡ take count out ++ i ∷ []
    → take last two ≡ take next one ++ (if now then shared ∷ [] else []) → take count out ++ with_coupling coupled shared came i (full - i) ≡ total
    → take last two ++ with_coupling coupled shared (came || t) (i + 1) (full - (i + 1)) ≡ total
full_more coupled shared full i count next last came t now out one two total lt is test first second so_far =
    let n : full - i ≡ suc (full - (i + 1)) = omega arith in
    let m : suc i ≡ i + 1 = omega arith in
    let rest = with_coupling coupled shared (came || t) (i + 1) (full - (i + 1)) in
    let more : with_coupling coupled shared came i (full - i) ≡ i ∷ ((if now then shared ∷ [] else []) ++ rest) =
    ap (with_coupling coupled shared came i) n ∙ (order_step coupled shared came i (full - (i + 1))
    ∙ ap₂ (λ (x : Bool) (y : ℕ). i ∷ ((if x && not came then shared ∷ [] else []) ++ with_coupling coupled shared (came || x) y (full - (i + 1)))) is m
    ∙ ap (λ (x : Bool). i ∷ ((if x then shared ∷ [] else []) ++ rest)) (sym test)) in
    ap (λ (l : List ℕ). l ++ rest) (second ∙ ap (λ (l : List ℕ). l ++ (if now then shared ∷ [] else [])) first)
    ∙ (regroup (take count out) i (if now then shared ∷ [] else []) rest ∙ (ap (λ (l : List ℕ). take count out ++ l) (sym more) ∙ so_far))

pub no_more : (coupled : ℕ → Bool) (shared : ℕ) (came : Bool) (i n : ℕ) → n ≤ i → with_coupling coupled shared came i (n - i) ≡ []
unfolding with_coupling
no_more coupled shared came i n le = let z : n - i ≡ 0 = omega arith in ap (with_coupling coupled shared came i) z

pub few_more : (came t : Bool) (count i : ℕ) → count ≤ i + count_of came → count + 1 + count_of (t && not came) ≤ i + 1 + count_of (came || t)
few_more true true count i le = omega arith
few_more true false count i le = omega arith
few_more false true count i le = omega arith
few_more false false count i le = omega arith

pub scatter_in_at : (row flat : List ℕ) (at start k n v : ℕ) → n ≡ k → k < length row → v ≡ slice_index flat (at + (k - start)) → ((i : ℕ) → start ≤ i → i < k → slice_index row i ≡ slice_index flat (at + (i - start)))
    → (i : ℕ) → start ≤ i → i < k + 1 → slice_index (set row n v) i ≡ slice_index flat (at + (i - start))
scatter_in_at row flat at start k n v e room is before =
    subst (λ (x : ℕ). (i : ℕ) → start ≤ i → i < k + 1 → slice_index (set row x v) i ≡ slice_index flat (at + (i - start))) (sym e) (scatter_in row flat at start k v room is before)

pub no_rest : (l : List Bool) (r : ℕ) → r ≡ 0 → IsRemainder l r → IsRemainder l 0
no_rest l r e h = subst (IsRemainder l) e h

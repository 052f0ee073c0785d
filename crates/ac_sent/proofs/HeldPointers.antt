-- The pointers of a block that is sent are those of the values that were handed in.
use Rattle.std.proofs.Common.{◌≡◌, ℕ, zero, suc, ◌+◌, ◌<◌, ◌≤◌, ◌&&◌, Bool, true, false, List, [], ◌∷◌, slice_index, nat_lt, refl, ap, sym, subst, ◌∙◌, arith}
use Rattle.std.specs.Prelude.{is_some, if◌then◌else◌, ◌==◌}
use Rattle.std.proofs.lemmas.Bool.{lt-ltb}
use Rattle.std.proofs.lemmas.List.FromFn.{get_or-map-range_with_len}
use Rattle.ac_base.specs.declared.shapes.Shape.{Shape}
use Rattle.ac_base.specs.Allocation.{bins, masktab_list}
use Rattle.ac_base.specs.Shape.{full_of, count_of}
use Rattle.ac_base.specs.Spans.{IsIn}
use Rattle.ac_base.proofs.AllocationTables.{baps_small}
use Rattle.ac_base.proofs.SpanBounds.{span_end}
use Rattle.ac_alloc.specs.Codes.{encoder_params, floor_of}
use Rattle.ac_alloc.specs.Integration.{psd}
use Rattle.ac_alloc.specs.Masking.{mask}
use Rattle.ac_alloc.specs.Pointers.{pointer, address, level}
use Rattle.ac_alloc.proofs.Reading.{pointers_by_span}
use Rattle.ac_expo.specs.Raw.{channel_span, channels}
use Rattle.ac_mant.specs.Groups.{IsCoded, coded, pointers, zeros, IsFill, AreCoded}
use Rattle.ac_rows.specs.Groups.{strategy_of}
use Rattle.ac_rows.specs.Filled.{holds, is_coupled, span_in}
use Rattle.ac_record.specs.Held.{params_in, offset_of, exponents_in, exponent_in, pointer_in}
use Rattle.ac_record.specs.Order.{order_of, over_channels, in_order}
use Rattle.ac_record.specs.Readings.{cell}
use Rattle.ac_record.specs.Records.{IsBlock}
use Rattle.ac_sent.specs.Values.{Quantised}
use Rattle.ac_sent.specs.Asked.{IsQuantised}
use Rattle.ac_sent.specs.Fields.{sent_head, sent_block, exponents_at, pointer_at, low_number}
use Rattle.ac_sent.specs.Packed.{sent_mantissas, sent_part}
use Rattle.ac_sent.proofs.Tests.{and_true}
use Rattle.ac_sent.proofs.Spans.{is_span, full_coded, coupling_coded, low_coded}
use Rattle.ac_sent.proofs.Orders.{AllOf, Agrees, all_more, all_order, order_same, channels_same, pointers_over, coded_over}
use Rattle.ac_sent.proofs.Earlier.{sent_before}
use Rattle.ac_sent.proofs.Fillings.{filled_block, filled_inu, filled_coupled, filled_span}
use Rattle.ac_sent.proofs.HeldExponents.{exponent_held}
use Rattle.ac_sent.proofs.HeldParameters.{offset_is, silent_is, params_are}
use Rattle.ac_sent.proofs.Blocks.{whole_block_is}

-- ---- a pointer
list_held : (q : Quantised) → IsQuantised q → (frmsizecod crc1 c b k : ℕ) → c < channels q.shape → b < 6 → IsIn (channel_span q.shape c) k
    → slice_index (exponents_in (sent_head q.shape frmsizecod crc1) (sent_before q b) (sent_block q b) c) k ≡ slice_index (exponents_at q c b) k
list_held q is code crc1 c b k lt in_frame inside =
    let end = span_end (channel_span q.shape c) (is_span q.shape c) in
    get_or-map-range_with_len (exponent_in (sent_head q.shape code crc1) (sent_before q b) (sent_block q b) c) 0 bins k k 0 (omega (arith, inside.1, end)) (omega arith)
    ∙ exponent_held q is code crc1 c b k lt in_frame inside

pub pointer_held : (q : Quantised) → IsQuantised q → (frmsizecod crc1 c b k : ℕ) → c < channels q.shape → b < 6 → IsIn (channel_span q.shape c) k
    → pointer_in (sent_head q.shape frmsizecod crc1) (sent_before q b) (sent_block q b) c k ≡ pointer_at q c b k
unfolding pointer_in
pointer_held q is code crc1 c b k lt in_frame inside =
    let h = sent_head q.shape code crc1 in
    let f = filled_block q code crc1 b in
    let xs = exponents_in h (sent_before q b) (sent_block q b) c in
    let span = channel_span q.shape c in
    let p = encoder_params q.shape.fscod q.shape.sampling in
    ap (λ s. pointer s (params_in h f c) (span_in h f c) xs k (offset_of h f c)) (silent_is q code crc1 b)
    ∙ (ap (λ r. pointer (q.t == 0) r (span_in h f c) xs k (offset_of h f c)) (params_are q code crc1 b c lt)
    ∙ (ap (λ z. pointer (q.t == 0) p z xs k (offset_of h f c)) (filled_span q is code crc1 b c lt)
    ∙ (ap (λ t. pointer (q.t == 0) p span xs k t) (offset_is q code crc1 b c lt)
    ∙ pointers_by_span (q.t == 0) p span xs (exponents_at q c b) k q.t (is_span q.shape c) (λ j there. list_held q is code crc1 c b j lt in_frame there) inside)))

bounded : (b : Bool) (x y m : ℕ) → x ≤ m → y ≤ m → (if b then x else y) ≤ m
bounded true x y m p q = p
bounded false x y m p q = q

pub pointer_small : (q : Quantised) (c b k : ℕ) → pointer_at q c b k ≤ 15
pointer_small q c b k =
    let p = encoder_params q.shape.fscod q.shape.sampling in
    let exps = exponents_at q c b in
    let m = mask p (channel_span q.shape c) exps (slice_index masktab_list k) in
    bounded (q.t == 0) 0 _ 15 (omega arith) (baps_small (address (level m (floor_of p) q.t) (psd exps k)) (omega arith))

-- ---- the mantissas
abbrev pub sent_order : Quantised → List ℕ
sent_order q = order_of (λ i. is_some q.shape.couple && nat_lt i (full_of q.shape.acmod)) (full_of q.shape.acmod) (is_some q.shape.couple) q.shape.lfe

low_is : (shape : Shape) → full_of shape.acmod + count_of (is_some shape.couple) ≡ low_number shape
low_is shape = omega arith

-- each channel of the order is a coded one
pub order_coded : (q : Quantised) → AllOf (λ c. c < channels q.shape) (sent_order q)
order_coded q =
    all_order (λ c. c < channels q.shape) (λ i. is_some q.shape.couple && nat_lt i (full_of q.shape.acmod)) (full_of q.shape.acmod) (is_some q.shape.couple) q.shape.lfe
    (λ c lt. full_coded q.shape c (lt-ltb c (full_of q.shape.acmod) lt)) (λ used. coupling_coded q.shape used)
    (λ low. subst (λ (n : ℕ). n < channels q.shape) (sym (low_is q.shape)) (low_coded q.shape low))

-- the order of a block as it is filled
pub order_filled : (q : Quantised) (frmsizecod crc1 b : ℕ)
    → order_of (is_coupled (strategy_of (filled_block q frmsizecod crc1 b))) (full_of q.shape.acmod) (holds (filled_block q frmsizecod crc1 b).cplinu) q.shape.lfe ≡ sent_order q
order_filled q code crc1 b =
    let f = filled_block q code crc1 b in
    let full = full_of q.shape.acmod in
    ap (λ (u : Bool). order_of (is_coupled (strategy_of f)) full u q.shape.lfe) (filled_inu q code crc1 b)
    ∙ order_same (is_coupled (strategy_of f)) (λ i. is_some q.shape.couple && nat_lt i full) full (is_some q.shape.couple) q.shape.lfe
    (λ i lt.
    let here = lt-ltb i full lt in
    filled_coupled q code crc1 b i here ∙ sym (ap (λ (t : Bool). is_some q.shape.couple && t) here ∙ and_true (is_some q.shape.couple)))

-- what a block has in order, where it agrees on the bins of its channels
pub order_sent : {A : Type 0} (q : Quantised) → IsQuantised q → (frmsizecod crc1 b : ℕ) (f g : ℕ → ℕ → A) → ((c k : ℕ) → c < channels q.shape → IsIn (channel_span q.shape c) k → f c k ≡ g c k)
    → in_order (sent_head q.shape frmsizecod crc1) (filled_block q frmsizecod crc1 b) f ≡ over_channels (channel_span q.shape) (sent_order q) g
order_sent q is code crc1 b f g same =
    let h = sent_head q.shape code crc1 in
    let x = filled_block q code crc1 b in
    ap (λ cs. over_channels (span_in h x) cs f) (order_filled q code crc1 b)
    ∙ channels_same (span_in h x) (channel_span q.shape) f g (sent_order q)
    (all_more (λ c. c < channels q.shape) (Agrees (span_in h x) (channel_span q.shape) f g) (sent_order q)
    (λ c lt. record { span = filled_span q is code crc1 b c lt; bins = λ k inside. same c k lt inside }) (order_coded q))

pub pointers_sent : (q : Quantised) (b : ℕ) → pointers (sent_mantissas q b) ≡ over_channels (channel_span q.shape) (sent_order q) (λ c k. pointer_at q c b k)
pointers_sent q b = pointers_over (channel_span q.shape) (sent_order q) (λ c k. pointer_at q c b k) (λ c k. cell q.codes c b k)

pub mantissas_coded : (q : Quantised) → IsQuantised q → (b : ℕ) → b < 6 → AreCoded (sent_mantissas q b)
mantissas_coded q is b in_frame =
    coded_over (channel_span q.shape) (sent_order q) (λ c k. pointer_at q c b k) (λ c k. cell q.codes c b k)
    (all_more (λ c. c < channels q.shape) (λ c. (k : ℕ) → IsIn (channel_span q.shape c) k → IsCoded (coded (pointer_at q c b k) (cell q.codes c b k))) (sent_order q)
    (λ c lt k inside. record { pointer = pointer_small q c b k; code = is.codes c b k lt in_frame inside }) (order_coded q))

three_zeros : (i : ℕ) → slice_index (0 ∷ 0 ∷ []) i ≡ 0
three_zeros zero = refl
three_zeros (suc zero) = refl
three_zeros (suc (suc i)) = refl

two_zeros : (i : ℕ) → slice_index (0 ∷ []) i ≡ 0
two_zeros zero = refl
two_zeros (suc i) = refl

pub zeros_fill : IsFill zeros
zeros_fill = record {
  one = λ i. omega (arith, three_zeros i);
  two = λ i. omega (arith, three_zeros i);
  four = λ i. omega (arith, two_zeros i);
}

pub part_is_block : (q : Quantised) → IsQuantised q → (frmsizecod crc1 b : ℕ) → b < 6 → IsBlock (sent_head q.shape frmsizecod crc1) (sent_before q b) (sent_part q b)
part_is_block q is code crc1 b in_frame = record {
  fields = whole_block_is q code crc1 is b in_frame;
  pointers =
      pointers_sent q b
      ∙ sym (order_sent q is code crc1 b (pointer_in (sent_head q.shape code crc1) (sent_before q b) (sent_block q b)) (λ c k. pointer_at q c b k) (λ c k lt inside. pointer_held q is code crc1 c b k lt in_frame inside));
  coded = mantissas_coded q is b in_frame;
  missing = zeros_fill;
}

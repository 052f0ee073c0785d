-- Unpacked codes, put at their channels and bins.
use Rattle.std.proofs.Common.{◌≡◌, ℕ, ◌<◌, ◌≤◌, false, Bool, List, ◌++◌, length, slice_index, take, refl, ap, ap₂, sym, subst, ◌∙◌}
use Rattle.std.specs.List.{All}
use Rattle.std.proofs.Math.Seq.{take-append_seam}
use Rattle.ac_base.specs.declared.spans.Span.{Span}
use Rattle.ac_base.specs.Shape.{full_of}
use Rattle.ac_codec.specs.declared.refused.Refused.{Refused}
use Rattle.ac_mant.specs.declared.coded.Coded.{Coded}
use Rattle.ac_mant.specs.declared.coded.MantFault.{MantFault}
use Rattle.ac_mant.specs.Groups.{closed, coded, pairs, AreCoded, Fill, IsFill, spelled, Refuses}
use Rattle.ac_rows.specs.Blocks.{Block}
use Rattle.ac_rows.specs.declared.head.Head.{Head}
use Rattle.ac_rows.specs.Groups.{strategy_of}
use Rattle.ac_rows.specs.Filled.{holds, is_coupled, span_in, spans_of}
use Rattle.ac_record.specs.Channels.{is_in}
use Rattle.ac_record.specs.Faults.{refused_as}
use Rattle.ac_record.specs.Order.{over_channels, order_of, in_order}
use Rattle.ac_record.specs.Readings.{cell}
use Rattle.ac_reading.specs.Mantissas.{span_at, AreApart, AreUnpacked, AreRefused}
use Rattle.ac_reading.proofs.Flat.{channels_same, pairs_channels, all_channels, length-channels}
use Rattle.ac_reading.proofs.Orders.{each_at, order_small, order_apart}
use Rattle.ac_reading.proofs.HeldSpells.{full_most}
use Rattle.ac_reading.proofs.Rooms.{at_span, past_in}

abbrev order_in : Head → Block → List ℕ
order_in h f = order_of (is_coupled (strategy_of f)) (full_of h.acmod) (holds f.cplinu) h.lfeon

pub order_channels : (h : Head) (f : Block) (order : List ℕ) → order ≡ order_in h f → (j : ℕ) → j < length order → slice_index order j < 7
order_channels h f order e =
    subst (λ (l : List ℕ). (j : ℕ) → j < length l → slice_index l j < 7) (sym e)
    (λ j lt. each_at (λ c. c < 7) (order_in h f) j (order_small (is_coupled (strategy_of f)) (full_of h.acmod) (holds f.cplinu) h.lfeon (full_most h.acmod)) lt)

pub order_twice : (h : Head) (f : Block) (order : List ℕ) → order ≡ order_in h f → AreApart order
order_twice h f order e = subst AreApart (sym e) (order_apart (is_coupled (strategy_of f)) (full_of h.acmod) (holds f.cplinu) h.lfeon)

pub flat_small : (s : ℕ → Span) (order : List ℕ) (f : ℕ → ℕ → ℕ) (flat : List ℕ) → ((c k : ℕ) → f c k ≤ 15) → flat ≡ over_channels s order f → All (λ bap. bap ≤ 15) flat
flat_small s order f flat small e = subst (All (λ bap. bap ≤ 15)) (sym e) (all_channels (λ bap. bap ≤ 15) s order f small)

-- by the array of spans, or by the head and the filled block
pub in_order_is : {A : Type 0} (h : Head) (f : Block) (spans : List Span) (order : List ℕ) (g : ℕ → ℕ → A) → spans ≡ spans_of h f → order ≡ order_in h f → over_channels (span_at spans) order g ≡ in_order h f g
in_order_is h f spans order g e same =
    channels_same (span_at spans) (span_in h f) order g g (λ j lt. at_span h f spans (slice_index order j) e (order_channels h f order same j lt)) (λ j k lt i. refl)
    ∙ ap (λ (l : List ℕ). over_channels (span_in h f) l g) same

pub refused : (h : Head) (f : Block) (b : ℕ) (spans : List Span) (order : List ℕ) (baps : List (List (List ℕ))) (flat : List ℕ) (old : List Bool) (fault : MantFault) (e : Refused) → spans ≡ spans_of h f → order ≡ order_in h f
    → flat ≡ over_channels (span_at spans) order (λ c k. cell baps c b k) → Refuses closed 0 flat old fault → e ≡ refused_as fault → AreRefused h f b baps old e
refused h f b spans order baps flat old fault e at same is r how = record {
  fault = fault;
  refuses = subst (λ (l : List ℕ). Refuses closed 0 l old fault) (is ∙ in_order_is h f spans order (λ c k. cell baps c b k) at same) r;
  same = how;
}

pub unpacked : (h : Head) (f : Block) (b : ℕ) (spans : List Span) (order : List ℕ) (baps codes : List (List (List ℕ))) (pointers numbers : List ℕ) (old new : List Bool) (fill : Fill) → spans ≡ spans_of h f → order ≡ order_in h f
    → pointers ≡ over_channels (span_at spans) order (λ c k. cell baps c b k) → numbers ≡ over_channels (span_at spans) order (λ c k. cell codes c b k)
    → IsFill fill → AreCoded (pairs pointers numbers) → old ≡ spelled fill closed (pairs pointers numbers) ++ new → ((c k : ℕ) → is_in (span_at spans c) k ≡ false → cell codes c b k ≡ 0) → AreUnpacked h f b baps codes old new
unpacked h f b spans order baps codes pointers numbers old new fill at same is_p is_n is_fill are whole elsewhere =
    let g = λ (c k : ℕ). coded (cell baps c b k) (cell codes c b k) in
    let e : pairs pointers numbers ≡ in_order h f g =
    ap₂ pairs is_p is_n ∙ (pairs_channels (span_at spans) order (λ c k. cell baps c b k) (λ c k. cell codes c b k) ∙ in_order_is h f spans order g at same) in
    record {
      fill = fill;
      is_fill = is_fill;
      are_coded = subst AreCoded e are;
      whole = subst (λ (l : List Coded). old ≡ spelled fill closed l ++ new) e whole;
      elsewhere = λ c k out. elsewhere c k (past_in h f spans c k at out);
    }

pub numbers_are : (s : ℕ → Span) (order : List ℕ) (f g : ℕ → ℕ → ℕ) (pointers numbers flat rest : List ℕ) → pointers ≡ over_channels s order f → length numbers ≡ length pointers → flat ≡ numbers ++ rest → take (length (over_channels s order g)) flat ≡ over_channels s order g
    → numbers ≡ over_channels s order g
numbers_are s order f g pointers numbers flat rest is long whole put =
    let n : length numbers ≡ length (over_channels s order g) = long ∙ (ap length is ∙ length-channels s order f g) in
    sym (take-append_seam numbers rest) ∙ (ap₂ (λ (m : ℕ) (l : List ℕ). take m l) n (sym whole) ∙ put)

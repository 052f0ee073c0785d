-- A block from its fields and codes, and why there is none.
use Rattle.std.proofs.Common.{◌≡◌, ℕ, ◌+◌, ◌<◌, Bool, true, false, List, [], ◌∷◌, ◌++◌, length, slice_index, take, refl, ap, sym, subst, ◌∙◌, arith, inl, inr, append_assoc}
use Rattle.std.specs.Prelude.{if◌then◌else◌, slice_index_or}
use Rattle.std.proofs.lemmas.Bool.{cases_lt}
use Rattle.std.proofs.lemmas.List.FromFn.{get_or-map-range_with_len}
use Rattle.ac_base.specs.declared.spans.Span.{Span}
use Rattle.ac_base.specs.Allocation.{bins}
use Rattle.ac_base.specs.Shape.{full_of, IsSpan}
use Rattle.ac_base.specs.Spans.{IsIn}
use Rattle.ac_base.proofs.SpanBounds.{span_end}
use Rattle.ac_alloc.specs.Pointers.{pointer, Agree}
use Rattle.ac_alloc.proofs.Reading.{pointers_by_span}
use Rattle.ac_codec.specs.declared.refused.Refused.{Refused}
use Rattle.ac_mant.specs.Groups.{coded, pointers, closed, spelled, Refuses}
use Rattle.ac_rows.specs.Blocks.{Block}
use Rattle.ac_rows.specs.declared.head.Head.{Head}
use Rattle.ac_rows.specs.Groups.{strategy_of}
use Rattle.ac_rows.specs.HeadRows.{head_fields}
use Rattle.ac_rows.specs.BlockRows.{block_fields, whole_block, AreLawful}
use Rattle.ac_rows.specs.Filled.{holds, is_coupled, span_in, filled_of, blank_span}
use Rattle.ac_record.specs.Frames.{FrameCodes}
use Rattle.ac_record.specs.Channels.{coded_in, is_in}
use Rattle.ac_record.specs.Held.{exponent_in, exponents_in, pointer_in, is_silent, params_in, offset_of}
use Rattle.ac_record.specs.Order.{over_channels, order_of, in_order}
use Rattle.ac_record.specs.Readings.{cell, HoldsIn}
use Rattle.ac_record.specs.Faults.{BlockRefuses}
use Rattle.ac_reading.specs.Begun.{IsRead}
use Rattle.ac_reading.specs.Kept.{pointer_by}
use Rattle.ac_reading.specs.Mantissas.{AreUnpacked, AreRefused}
use Rattle.ac_reading.proofs.Blocks.{whole_lawful}
use Rattle.ac_reading.proofs.Flat.{channels_same, pairs_channels, pointers_pairs, length-channels}
use Rattle.ac_reading.proofs.HeldSpells.{coded_is_span}
use Rattle.ac_reading.proofs.Rooms.{span_blank}
use Rattle.ac_reading.proofs.Rows.{cases_in, in_true, in_false}
use Rattle.ac_reading.proofs.Unpacking.{order_channels}

-- a bin of a coded channel
in_coded : (h : Head) (e : List Block) (b : Block) (c k : ℕ) → head_fields.Lawful h → AreLawful h e → (block_fields h e).Lawful b → IsIn (span_in h (filled_of h e b) c) k → IsSpan (span_in h (filled_of h e b) c) × (k < 253)
in_coded h e b c k head l lawful i = elim (cases_lt c (coded_in h (filled_of h e b))) [
  | inl lt ↦
      let is = coded_is_span h e b c head l lawful lt in
      (is, omega (arith, i.1, span_end (span_in h (filled_of h e b) c) is))
  | inr le ↦
      let j : IsIn blank_span k = subst (λ (s : Span). IsIn s k) (span_blank h (filled_of h e b) c le) i in
      absurd (omega (arith, j.1))
]

if_on : (t : Bool) (n : ℕ) → t ≡ true → (if t then n else 0) ≡ n
if_on true n e = refl
if_on false n e = absurd cc

pub pointers_are : (h : Head) (e : List Block) (x : Block) (b : ℕ) (exps : List (List (List ℕ))) → head_fields.Lawful h → AreLawful h e → (block_fields h e).Lawful x → HoldsIn h (filled_of h e x) b exps (exponent_in h e x)
    → (c k : ℕ) → c < 7 → IsIn (span_in h (filled_of h e x) c) k → pointer_by h (filled_of h e x) b exps c k ≡ pointer_in h e x c k
unfolding pointer_in
pointers_are h e x b exps head l lawful has c k small i =
    let f = filled_of h e x in
    let s = span_in h f c in
    let is = in_coded h e x c k head l lawful i in
    let agree : Agree s (slice_index_or (slice_index_or exps c []) b []) (exponents_in h e x c) = λ j inside.
    let low = (in_coded h e x c j head l lawful inside).1 in
    has c j small (omega (arith, low)) ∙ (if_on (is_in s j) (exponent_in h e x c j) (in_true s j inside) ∙ sym (get_or-map-range_with_len (exponent_in h e x c) 0 bins j j 0 low (omega arith))) in
    pointers_by_span (is_silent h f) (params_in h f c) s (slice_index_or (slice_index_or exps c []) b []) (exponents_in h e x c) k (offset_of h f c) is.0 agree i

-- the pointers of an array
baps_are : (h : Head) (e : List Block) (x : Block) (b : ℕ) (exps baps : List (List (List ℕ))) → head_fields.Lawful h → AreLawful h e → (block_fields h e).Lawful x → HoldsIn h (filled_of h e x) b exps (exponent_in h e x)
    → HoldsIn h (filled_of h e x) b baps (pointer_by h (filled_of h e x) b exps) → HoldsIn h (filled_of h e x) b baps (pointer_in h e x)
baps_are h e x b exps baps head l lawful has_e has c k hc hk =
    let s = span_in h (filled_of h e x) c in
    elim (cases_in s k) [
      | inl i ↦ has c k hc hk ∙ (if_on (is_in s k) _ (in_true s k i) ∙ (pointers_are h e x b exps head l lawful has_e c k hc i ∙ sym (if_on (is_in s k) (pointer_in h e x c k) (in_true s k i))))
      | inr out ↦ has c k hc hk ∙ (ap (λ (t : Bool). if t then pointer_by h (filled_of h e x) b exps c k else 0) (in_false s k out) ∙ sym (ap (λ (t : Bool). if t then pointer_in h e x c k else 0) (in_false s k out)))
    ]

order_baps : (h : Head) (e : List Block) (x : Block) (b : ℕ) (baps : List (List (List ℕ))) → head_fields.Lawful h → AreLawful h e → (block_fields h e).Lawful x → HoldsIn h (filled_of h e x) b baps (pointer_in h e x)
    → in_order h (filled_of h e x) (λ c k. cell baps c b k) ≡ in_order h (filled_of h e x) (pointer_in h e x)
order_baps h e x b baps head l lawful has =
    let f = filled_of h e x in
    let order = order_of (is_coupled (strategy_of f)) (full_of h.acmod) (holds f.cplinu) h.lfeon in
    channels_same (span_in h f) (span_in h f) order (λ c k. cell baps c b k) (pointer_in h e x) (λ j lt. refl)
    (λ j k lt i.
    let c = slice_index order j in
    let low = (in_coded h e x c k head l lawful i).1 in
    has c k (order_channels h f order refl j lt) (omega (arith, low)) ∙ if_on (is_in (span_in h f c) k) (pointer_in h e x c k) (in_true (span_in h f c) k i))

coded_pointers : (s : ℕ → Span) (cs : List ℕ) (f g : ℕ → ℕ → ℕ) → pointers (over_channels s cs (λ c k. coded (f c k) (g c k))) ≡ over_channels s cs f
coded_pointers s cs f g = ap pointers (sym (pairs_channels s cs f g)) ∙ pointers_pairs (over_channels s cs f) (over_channels s cs g) (length-channels s cs g f)

-- what is known of a block whose pointers are there
pub record IsAllocated (h : Head) (e : List Block) (b : ℕ) (x whole : Block) (exps baps : List (List (List ℕ))) : Type 0 where
  pub head : head_fields.Lawful h
  pub earlier : AreLawful h e
  pub filled : whole ≡ filled_of h e x
  pub exponents : HoldsIn h whole b exps (exponent_in h e x)
  pub allocation : HoldsIn h whole b baps (pointer_by h whole b exps)

pub one_read : (h : Head) (b : ℕ) (f g : FrameCodes) (x whole : Block) (skipped old mid new : List Bool) → IsAllocated h (take b f.block) b x whole g.exps g.baps → (whole_block h (take b f.block)).Lawful (x, skipped)
    → old ≡ (whole_block h (take b f.block)).spell (x, skipped) ++ mid → AreUnpacked h whole b g.baps g.codes mid new → take (b + 1) g.block ≡ take b f.block ++ x ∷ [] → length g.block ≡ length f.block → IsRead h b f g old new
one_read h b f g x whole skipped old mid new a lawful is u fields long =
    let e = take b f.block in
    let law = whole_lawful h e x skipped lawful in
    let filled = filled_of h e x in
    let exps : HoldsIn h filled b g.exps (exponent_in h e x) = subst (λ (w : Block). HoldsIn h w b g.exps (exponent_in h e x)) a.filled a.exponents in
    let by : HoldsIn h filled b g.baps (pointer_by h filled b g.exps) = subst (λ (w : Block). HoldsIn h w b g.baps (pointer_by h w b g.exps)) a.filled a.allocation in
    let baps = baps_are h e x b g.exps g.baps a.head a.earlier law exps by in
    let v : AreUnpacked h filled b g.baps g.codes mid new = subst (λ (w : Block). AreUnpacked h w b g.baps g.codes mid new) a.filled u in
    let order = order_of (is_coupled (strategy_of filled)) (full_of h.acmod) (holds filled.cplinu) h.lfeon in
    let mantissas = in_order h filled (λ c k. coded (cell g.baps c b k) (cell g.codes c b k)) in
    record {
      block = record { fields = x; skipped = skipped; mantissas = mantissas; missing = v.fill };
      lawful = record {
        fields = lawful;
        pointers = coded_pointers (span_in h filled) order (λ c k. cell g.baps c b k) (λ c k. cell g.codes c b k) ∙ order_baps h e x b g.baps a.head a.earlier law baps;
        coded = v.are_coded;
        missing = v.is_fill;
      };
      whole = is ∙ (ap (λ (l : List Bool). (whole_block h e).spell (x, skipped) ++ l) v.whole ∙ sym (append_assoc ((whole_block h e).spell (x, skipped)) (spelled v.fill closed mantissas) new));
      reading = record { exps = exps; baps = baps; codes = refl; elsewhere = λ c k hc hk out. v.elsewhere c k out };
      fields = fields;
      long = long;
    }

pub one_refused : (h : Head) (e : List Block) (b : ℕ) (exps baps : List (List (List ℕ))) (x whole : Block) (skipped old mid : List Bool) (fault : Refused) → IsAllocated h e b x whole exps baps → (whole_block h e).Lawful (x, skipped)
    → old ≡ (whole_block h e).spell (x, skipped) ++ mid → AreRefused h whole b baps mid fault → BlockRefuses h e old fault
one_refused h e b exps baps x whole skipped old mid fault a lawful is r =
    let law = whole_lawful h e x skipped lawful in
    let filled = filled_of h e x in
    let has : HoldsIn h filled b exps (exponent_in h e x) = subst (λ (w : Block). HoldsIn h w b exps (exponent_in h e x)) a.filled a.exponents in
    let by : HoldsIn h filled b baps (pointer_by h filled b exps) = subst (λ (w : Block). HoldsIn h w b baps (pointer_by h w b exps)) a.filled a.allocation in
    let all = baps_are h e x b exps baps a.head a.earlier law has by in
    let s : AreRefused h filled b baps mid fault = subst (λ (w : Block). AreRefused h w b baps mid fault) a.filled r in
    inr (x, skipped, mid, s.fault, lawful, is, subst (λ (l : List ℕ). Refuses closed 0 l mid s.fault) (order_baps h e x b baps a.head a.earlier law all) s.refuses, s.same)

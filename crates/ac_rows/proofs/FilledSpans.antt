-- A lawful block that is filled has spans; and one block more of a frame.
use Rattle.std.proofs.Common.{◌≡◌, ℕ, zero, suc, ◌+◌, ◌<◌, ◌≤◌, Bool, true, false, List, [], ◌∷◌, ◌++◌, length, get_or, Option, Some, None}
use Rattle.std.proofs.Common.{nat_lt, refl, ap, sym, subst, ◌∙◌, arith, append_assoc, inl, inr}
use Rattle.std.specs.Prelude.{is_some, if◌then◌else◌}
use Rattle.std.specs.Option.{option_or}
use Rattle.std.proofs.lemmas.Bool.{cases_lt}
use Rattle.std.proofs.lemmas.List.{append-nil, get_or_past}
use Rattle.ac_base.specs.Shape.{full_of}
use Rattle.ac_rows.specs.Blocks.{Block}
use Rattle.ac_rows.specs.declared.head.Head.{Head}
use Rattle.ac_rows.specs.HeadRows.{head_fields}
use Rattle.ac_rows.specs.Groups.{strategy_of, codes_of}
use Rattle.ac_rows.specs.Filled.{holds, number, entry, listed, latest_in, latest, held, needed, range_of, channel_coupled, coupling_in}
use Rattle.ac_rows.specs.Filled.{filled_of, HasSpans}
use Rattle.ac_rows.specs.BlockRows.{block_fields, block_rows, AreLawfulAfter, AreLawful, HasSubbands, PairFits}
use Rattle.ac_codec.specs.Codec.{pair, shaped}
use Rattle.ac_rows.proofs.HeadSound.{head_channels}
use Rattle.ac_rows.proofs.Bounds.{over_pair, block_pair, latest_pair, range_in, codes_fit}

after_more : (h : Head) (before bs : List Block) (b : Block) → AreLawfulAfter h before bs → (block_fields h (before ++ bs)).Lawful b
    → AreLawfulAfter h before (bs ++ b ∷ [])
after_more h before [] b k l = (subst (λ (x : List Block). (block_fields h x).Lawful b) (append-nil before) l, tt)
after_more h before (c ∷ bs) b k l = (
  k.0,
  after_more h (before ++ c ∷ []) bs b k.1 (subst (λ (x : List Block). (block_fields h x).Lawful b)
      (sym (append_assoc before (c ∷ []) bs)) l),
)

-- one block more
pub lawful_more : (h : Head) (bs : List Block) (b : Block) → AreLawful h bs → (block_fields h bs).Lawful b → AreLawful h (bs ++ b ∷ [])
lawful_more h bs b k l = after_more h [] bs b k l

-- ---- bandwidths
block_width : (h : Head) (before : List Block) (b : Block) → (block_fields h before).Lawful b → (i : ℕ) → i < 5
    → number (entry b.chbwcod i) ≤ 60
unfolding block_fields block_rows shaped pair
block_width h before b k i lt = (codes_fit _ _ _ _ _ (codes_of b) k.1.1.1.0).widths i lt

or_small : (o p : Option ℕ) (n : ℕ) → number o ≤ n → number p ≤ n → number (option_or o p) ≤ n
or_small None p n h k = k
or_small (Some x) p n h k = h

latest_width : (h : Head) (before bs : List Block) (i : ℕ) → i < 5 → AreLawfulAfter h before bs
    → number (latest_in (λ _ b. entry b.chbwcod i) before bs) ≤ 60
unfolding latest_in
latest_width h before [] i lt k = omega arith
latest_width h before (b ∷ bs) i lt k =
    or_small (latest_in (λ _ b. entry b.chbwcod i) (before ++ b ∷ []) bs) (entry b.chbwcod i) 60
    (latest_width h (before ++ b ∷ []) bs i lt k.1) (block_width h before b k.0 i lt)

if_small : (a there : Bool) (own kept : Option ℕ) (n : ℕ) → number own ≤ n → number kept ≤ n
    → number (if a then None else if there then option_or own kept else own) ≤ n
if_small true there own kept n h k = omega arith
if_small false true own kept n h k = or_small own kept n h k
if_small false false own kept n h k = h

entry_listed : {A : Type 0} (n j : ℕ) (f : ℕ → A) (k : ℕ) (d : A) → k < n → get_or (listed n j f) k d ≡ f (j + k)
unfolding listed
entry_listed zero j f k d lt = absurd (omega arith)
entry_listed (suc n) j f zero d lt = ap f (omega arith)
entry_listed (suc n) j f (suc k) d lt = entry_listed n (suc j) f k d (omega arith) ∙ ap f (omega arith)

length-listed : {A : Type 0} (n j : ℕ) (f : ℕ → A) → length (listed n j f) ≡ n
unfolding listed
length-listed zero j f = refl
length-listed (suc n) j f = ap suc (length-listed n (suc j) f)

width_of : Head → List Block → Block → ℕ → Option ℕ
width_of h earlier b i =
    if channel_coupled (coupling_in earlier b) i then None else needed (nat_lt i (full_of h.acmod)) (λ d. entry d.chbwcod i) earlier b

filled_width : (h : Head) (earlier : List Block) (b : Block) → AreLawful h earlier → (block_fields h earlier).Lawful b → (i : ℕ)
    → number (entry (listed 5 0 (width_of h earlier b)) i) ≤ 60
unfolding width_of
filled_width h earlier b k l i = elim (cases_lt i 5) [
  | inl lt ↦
      let e = entry_listed 5 0 (width_of h earlier b) i None lt ∙ ap (width_of h earlier b) (omega arith) in
      let s =
      if_small (channel_coupled (coupling_in earlier b) i) (nat_lt i (full_of h.acmod)) (entry b.chbwcod i)
      (latest (λ d. entry d.chbwcod i) earlier) 60 (block_width h earlier b l i lt) (latest_width h [] earlier i lt k) in
      subst (λ (o : Option ℕ). number o ≤ 60) (sym e) s
  | inr le ↦
      let e : entry (listed 5 0 (width_of h earlier b)) i ≡ None =
      get_or_past (listed 5 0 (width_of h earlier b)) i None (omega (arith, le, length-listed 5 0 (width_of h earlier b))) in
      subst (λ (o : Option ℕ). number o ≤ 60) (sym e) (omega arith)
]

filled_width_in : (h : Head) (earlier : List Block) (b : Block) → AreLawful h earlier → (block_fields h earlier).Lawful b → (i : ℕ)
    → number (entry (filled_of h earlier b).chbwcod i) ≤ 60
unfolding filled_of width_of
filled_width_in h earlier b k l i = filled_width h earlier b k l i

-- ---- the coupling range
needed_pair : (used : Bool) (a b p q : Option ℕ) → PairFits a b → PairFits p q
    → PairFits (if used then option_or a p else a) (if used then option_or b q else b)
needed_pair true a b p q h k = over_pair a b p q h k
needed_pair false a b p q h k = h

filled_range : (h : Head) (earlier : List Block) (b : Block) → AreLawful h earlier → (block_fields h earlier).Lawful b
    → HasSubbands (range_of (strategy_of (filled_of h earlier b)))
unfolding filled_of
filled_range h earlier b k l =
    range_in (holds (held (λ d. d.cplinu) earlier b)) _ _
    (needed_pair (is_some (coupling_in earlier b).range) b.cplbegf b.cplendf (latest (λ d. d.cplbegf) earlier)
    (latest (λ d. d.cplendf) earlier) (block_pair h earlier b l) (latest_pair h [] earlier k))

-- a filled block has what its spans are made of
pub filled_has_spans : (h : Head) (earlier : List Block) (b : Block) → head_fields.Lawful h → AreLawful h earlier
    → (block_fields h earlier).Lawful b → HasSpans h (filled_of h earlier b)
unfolding filled_of
filled_has_spans h earlier b head k l = record {
  channels = head_channels h head;
  free = λ i lt e. filled_width_in h earlier b k l i;
  range = λ p e. let r = filled_range h earlier b k l p e in (r.0, r.1);
}

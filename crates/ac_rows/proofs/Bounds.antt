-- Lawful values are within the bounds that bins are made of.
use Rattle.std.proofs.Common.{◌≡◌, ℕ, zero, suc, ◌+◌, ◌<◌, ◌≤◌, ◌^◌, Bool, true, false, List, [], ◌∷◌, ◌++◌, get_or, slice_index, Option}
use Rattle.std.proofs.Common.{Some, None, nat_lt, refl, sym, subst, ◌∙◌, arith}
use Rattle.std.specs.Prelude.{is_some, if◌then◌else◌}
use Rattle.std.specs.Option.{ForSome, option_or}
use Rattle.std.proofs.Common.{inl, inr}
use Rattle.std.proofs.lemmas.Bool.{cases_lt, le-ltb, lt-ltb}
use Rattle.ac_codec.specs.declared.refused.Row.TheVariants.{Chexpstr, Chbwcod, Cplexpstr}
use Rattle.ac_codec.specs.Codec.{Codec, field, below, reused, given, slot, SlotLawful, pair, shaped, each, cons, absent}
use Rattle.ac_rows.specs.Blocks.{Block}
use Rattle.ac_rows.specs.declared.head.Head.{Head}
use Rattle.ac_rows.specs.declared.groups.Strategy.{Strategy}
use Rattle.ac_rows.specs.declared.groups.Coupling.{Coupling}
use Rattle.ac_rows.specs.declared.groups.Codes.{Codes}
use Rattle.ac_rows.specs.declared.groups.Known.{Known}
use Rattle.ac_rows.specs.Groups.{strategy_of}
use Rattle.ac_rows.specs.Filled.{holds, number, entry, latest_in}
use Rattle.ac_rows.specs.Known.{known_of, may_keep_channel, may_keep_shared}
use Rattle.ac_rows.specs.BlockRows.{no_less, strategy, strategy_each, width_each, has_width, codes, block_rows, block_fields, coupling_now}
use Rattle.ac_rows.specs.BlockRows.{HasSubbands, CodesFit, PairFits, AreLawfulAfter, AreLawful}

-- ---- entries of rows
pub each_at : {A : Type 0} (n i : ℕ) (c : ℕ → Codec A) (xs : List A) → (each n i c).Lawful xs → (k : ℕ) (d : A) → k < n
    → (c (i + k)).Lawful (get_or xs k d)
unfolding each cons absent
each_at zero i c xs h k d lt = absurd (omega arith)
each_at (suc n) i c [] h k d lt = absurd h
each_at {A} (suc n) i c (x ∷ xs) h zero d lt =
    let e : i ≡ i + 0 = omega arith in
    subst (λ (j : ℕ). (c j).Lawful x) e h.0
each_at {A} (suc n) i c (x ∷ xs) h (suc k) d lt =
    let e : suc i + k ≡ i + suc k = omega arith in
    subst (λ (j : ℕ). (c j).Lawful (get_or xs k d)) e (each_at n (suc i) c xs h.1 k d (omega arith))

pub each_here : {A : Type 0} (n : ℕ) (c : ℕ → Codec A) (xs : List A) → (each n 0 c).Lawful xs → (k : ℕ) (d : A) → k < n
    → (c k).Lawful (get_or xs k d)
each_here n c xs h k d lt = subst (λ (j : ℕ). (c j).Lawful (get_or xs k d)) (omega arith) (each_at n 0 c xs h k d lt)

some_below : (o : Option ℕ) (n : ℕ) → ForSome o (λ v. v ≤ n) → number o ≤ n
some_below None n h = omega arith
some_below (Some v) n h = h v refl

-- ---- a coupling range
no_less_from : (a b : ℕ) → no_less a b ≡ None → a ≤ b + 2
no_less_from a b e = elim (cases_lt (b + 2) a) [
  | inl lt ↦ let g = rw (lt-ltb (b + 2) a lt) at e in absurd cc
  | inr le ↦ le
]

pair_from : (there : Bool) (a b : Option ℕ) → (is_some a ≡ there) → ForSome a (λ v. v < 2 ^ 4) → (is_some b ≡ there)
    → ForSome b (λ v. (v < 2 ^ 4) × (no_less (number a) v ≡ None)) → PairFits a b
pair_from there None None e h f k = record { both = refl; begin = omega arith; end = omega arith; some = omega arith }
pair_from there None (Some b) e h f k = let g : false ≡ true = e ∙ sym f in absurd cc
pair_from there (Some a) None e h f k = let g : true ≡ false = e ∙ sym f in absurd cc
pair_from there (Some a) (Some b) e h f k =
    record { both = refl; begin = omega (arith, h a refl); end = omega (arith, (k b refl).0); some = no_less_from a b (k b refl).1 }

pub strategy_pair : (full : ℕ) (stereo begun : Bool) (s : Strategy) → (strategy full stereo begun).Lawful s → PairFits s.cplbegf s.cplendf
unfolding strategy shaped pair given field
strategy_pair full stereo begun s h =
    let a = h.1.1.1.1.0 in
    let b = h.1.1.1.1.1.0 in
    pair_from (holds s.cplinu) s.cplbegf s.cplendf a.0 (λ v e. (a.1 v e).0) b.0 (λ v e. b.1 v e)

pub over_pair : (a b p q : Option ℕ) → PairFits a b → PairFits p q → PairFits (option_or a p) (option_or b q)
over_pair None None p q h k = k
over_pair None (Some b) p q h k = let g : false ≡ true = h.both in absurd cc
over_pair (Some a) None p q h k = let g : true ≡ false = h.both in absurd cc
over_pair (Some a) (Some b) p q h k = h

pub range_in : (there : Bool) (a b : Option ℕ) → PairFits a b → HasSubbands (if there then Some (number a, number b) else None)
range_in true a b h p e =
    let same : (number a, number b) ≡ p = cc in
    subst (λ (x : ℕ × ℕ). (x.0 ≤ 15) × (x.1 ≤ 15) × (x.0 ≤ x.1 + 2)) same (h.begin, h.end, h.some)
range_in false a b h p e = absurd cc

-- of the coupling that holds
pub range_fits : (full : ℕ) (stereo : Bool) (known : Known) (s : Strategy) → PairFits known.strategy.cplbegf known.strategy.cplendf
    → (strategy full stereo known.begun).Lawful s → HasSubbands (coupling_now known s).range
range_fits full stereo known s k h =
    range_in (holds (option_or s.cplinu known.strategy.cplinu)) (option_or s.cplbegf known.strategy.cplbegf)
    (option_or s.cplendf known.strategy.cplendf)
    (over_pair s.cplbegf s.cplendf known.strategy.cplbegf known.strategy.cplendf (strategy_pair full stereo known.begun s h) k)

-- ---- strategies and bandwidths
codes_parts : (full : ℕ) (stereo low : Bool) (known : Known) (c : Coupling) (k : Codes) → (codes full stereo low known c).Lawful k
    → ((is_some k.cplexpstr ≡ is_some c.range) × ForSome k.cplexpstr
    (λ v. (v < 2 ^ 2) × (reused (may_keep_shared known c) Cplexpstr v ≡ None)))
    × (strategy_each full known c).Lawful k.chexpstr × (width_each full c k.chexpstr).Lawful k.chbwcod
unfolding codes shaped pair given field
codes_parts full stereo low known c k h = (h.1.1.0, h.1.1.1.0, h.1.1.1.1.1)

slot_below : (there may : Bool) (v : ℕ) → SlotLawful there 0 (λ x. (x < 2 ^ 2) × (reused may Chexpstr x ≡ None)) v → v ≤ 3
slot_below true may v h = omega (arith, h.0)
slot_below false may v h = omega (arith, h)

kind_at : (full : ℕ) (known : Known) (c : Coupling) (xs : List ℕ) → (strategy_each full known c).Lawful xs → (i : ℕ) → i < 5
    → slice_index xs i ≤ 3
unfolding strategy_each slot field
kind_at full known c xs h i lt =
    slot_below (nat_lt i full) (may_keep_channel known c i) (slice_index xs i)
    (each_here 5 (λ i. slot (nat_lt i full) 0 (field 2 (reused (may_keep_channel known c i) Chexpstr))) xs h i 0 lt)

below_from : (v : ℕ) → below 61 Chbwcod v ≡ None → v ≤ 60
below_from v e = elim (cases_lt v 61) [
  | inl lt ↦ omega (arith, lt)
  | inr le ↦ let g = rw (le-ltb v 61 le) at e in absurd cc
]

width_at : (full : ℕ) (c : Coupling) (chexpstr : List ℕ) (xs : List (Option ℕ)) → (width_each full c chexpstr).Lawful xs → (i : ℕ) → i < 5
    → number (entry xs i) ≤ 60
unfolding width_each given field
width_at full c chexpstr xs h i lt =
    let r = each_here 5 (λ i. given (has_width full c chexpstr i) (field 6 (below 61 Chbwcod))) xs h i None lt in
    some_below (entry xs i) 60 (λ v e. below_from v (r.1 v e).1)

used_from : (o : Option ℕ) (there : Bool) → is_some o ≡ there → 0 < number o → there ≡ true
used_from None there e h = absurd (omega arith)
used_from (Some v) there e h = sym e

pub codes_fit : (full : ℕ) (stereo low : Bool) (known : Known) (c : Coupling) (k : Codes) → (codes full stereo low known c).Lawful k
    → CodesFit c k
codes_fit full stereo low known c k h =
    let p = codes_parts full stereo low known c k h in
    record {
      shared = some_below k.cplexpstr 3 (λ v e. let r = (p.0.1 v e).0 in omega (arith, r));
      used = used_from k.cplexpstr (is_some c.range) p.0.0;
      kinds = kind_at full known c k.chexpstr p.1;
      widths = width_at full c k.chexpstr k.chbwcod p.2;
    }

-- ---- and of all blocks before
pub block_pair : (h : Head) (before : List Block) (b : Block) → (block_fields h before).Lawful b → PairFits b.cplbegf b.cplendf
unfolding block_fields block_rows shaped pair
block_pair h before b k = strategy_pair _ _ _ (strategy_of b) k.1.0

pub latest_pair : (h : Head) (before bs : List Block) → AreLawfulAfter h before bs
    → PairFits (latest_in (λ _ b. b.cplbegf) before bs) (latest_in (λ _ b. b.cplendf) before bs)
unfolding latest_in
latest_pair h before [] k = record { both = refl; begin = omega arith; end = omega arith; some = omega arith }
latest_pair h before (b ∷ bs) k =
    over_pair (latest_in (λ _ b. b.cplbegf) (before ++ b ∷ []) bs) (latest_in (λ _ b. b.cplendf) (before ++ b ∷ []) bs) b.cplbegf b.cplendf
    (latest_pair h (before ++ b ∷ []) bs k.1) (block_pair h before b k.0)

pub known_pair : (h : Head) (bs : List Block) → AreLawful h bs → PairFits (known_of bs).strategy.cplbegf (known_of bs).strategy.cplendf
unfolding known_of
known_pair h bs k = latest_pair h [] bs k

-- the other way round
pub some_from : (o : Option ℕ) (n m : ℕ) → n < m → number o ≤ n → ForSome o (λ v. v < m)
some_from None n m lt h v e = absurd cc
some_from (Some w) n m lt h v e = let same : w ≡ v = cc in omega (arith, same, h, lt)

-- Where coupling is in use in a block, one of its channels is coupled: the last flag isn't 0 where none before it is 1 (A/52 5.4.3.9).
use Rattle.std.proofs.Common.{◌≡◌, ℕ, zero, suc, ◌+◌, ◌<◌, ◌≤◌, Bool, true, false, ◌&&◌, ◌||◌, List, [], ◌∷◌, ◌++◌, nat_lt, Option, Some, None, refl, ap, ap₂, sym, ◌∙◌, arith, inl, inr}
use Rattle.std.specs.Prelude.{is_some, if◌then◌else◌}
use Rattle.std.specs.Option.{option_or}
use Rattle.std.proofs.lemmas.Bool.{lt-ltb, le-ltb, cases_lt}
use Rattle.ac_base.specs.Shape.{full_of, is_stereo}
use Rattle.ac_codec.specs.Codec.{pair, shaped, given, tested_bit, cons_then, absent}
use Rattle.ac_rows.specs.Blocks.{Block}
use Rattle.ac_rows.specs.declared.head.Head.{Head}
use Rattle.ac_rows.specs.declared.groups.Strategy.{Strategy}
use Rattle.ac_rows.specs.Groups.{strategy_of}
use Rattle.ac_rows.specs.Known.{known_of}
use Rattle.ac_rows.specs.Filled.{holds, entry, latest, latest_in, held, is_coupled, latest_strategy, filled_of}
use Rattle.ac_rows.specs.BlockRows.{strategy, coupled_each, block_fields, AreLawfulAfter, AreLawful}
use Rattle.ac_rows.proofs.BlockBits.{BlockParts, block_parts}
use Rattle.ac_reading.proofs.Coupling.{now, filled_used, coupled_now, filled_coupled}
use Rattle.ac_reading.proofs.HeldSpells.{full_most}
use Rattle.ac_reading.proofs.Latest.{at_first_listed}

-- one of the first channels is coupled
abbrev pub Some_is : ℕ → (ℕ → Bool) → Type 0
Some_is full coupled = (i : ℕ) × (i < full) × (coupled i ≡ true)

-- where coupling is sent as in use a channel is coupled, and where nothing is sent there are no flags
abbrev Uses : ℕ → Option Bool → (ℕ → Option Bool) → Type 0
Uses full None flags = (i : ℕ) → i < 5 → flags i ≡ None
Uses full (Some true) flags = (i : ℕ) × (i < full) × (flags i ≡ Some true)
Uses full (Some false) flags = Unit {0}

over_uses : (full : ℕ) (a b : Option Bool) (f g : ℕ → Option Bool) → full ≤ 5 → Uses full a f → Uses full b g → Uses full (option_or a b) (λ i. option_or (f i) (g i))
over_uses full None None f g few h k = λ i lt. ap₂ option_or (h i lt) (k i lt)
over_uses full None (Some true) f g few h k = let lt = k.1 in (k.0, k.1, ap₂ option_or (h k.0 (omega (arith, lt, few))) k.2)
over_uses full None (Some false) f g few h k = tt
over_uses full (Some true) b f g few h k = (h.0, h.1, ap (λ (o : Option Bool). option_or o (g h.0)) h.2)
over_uses full (Some false) b f g few h k = tt

-- ---- of a block

none_here : (o : Option Bool) → is_some o ≡ false → o ≡ None
none_here None e = refl
none_here (Some b) e = absurd cc

none_coupled : (n i full : ℕ) (seen : Bool) (xs : List (Option Bool)) → (coupled_each n i false full seen).Lawful xs → (j : ℕ) → entry xs j ≡ None
unfolding coupled_each cons_then given tested_bit absent
none_coupled zero i full seen xs h j = ap (λ (l : List (Option Bool)). entry l j) h
none_coupled (suc n) i full seen [] h j = refl
none_coupled (suc n) i full seen (x ∷ xs) h zero = none_here x h.0.0
none_coupled (suc n) i full seen (x ∷ xs) h (suc j) = none_coupled n (suc i) full (seen || holds x) xs h.1 j

later_there : (i full : ℕ) → i < full → (nat_lt (suc i) full ≡ true → suc i < full) → (if nat_lt (suc i) full || false then true else false) ≡ true → suc i < full
later_there i full lt next e = elim (cases_lt (suc i) full) [
  | inl more ↦ more
  | inr last ↦ let g = rw (le-ltb (suc i) full last) at e in absurd cc
]

some_coupled : (n i full : ℕ) (xs : List (Option Bool)) → (coupled_each n i true full false).Lawful xs → i < full → full ≤ i + n → (j : ℕ) × (i + j < full) × (entry xs j ≡ Some true)
unfolding coupled_each cons_then given tested_bit
some_coupled zero i full xs h lt le = absurd (omega (arith, lt, le))
some_coupled (suc n) i full [] h lt le = absurd h
some_coupled (suc n) i full (None ∷ xs) h lt le = let g = rw (lt-ltb i full lt) at h.0.0 in absurd cc
some_coupled (suc n) i full (Some true ∷ xs) h lt le = (0, omega (arith, lt), refl)
some_coupled (suc n) i full (Some false ∷ xs) h lt le = elim (cases_lt (suc i) full) [
  | inl more ↦ let r = some_coupled n (suc i) full xs h.1 more (omega (arith, le)) in let small = r.1 in (suc r.0, omega (arith, small), r.2)
  | inr last ↦ let g = rw (le-ltb (suc i) full last) at (h.0.1 false refl) in absurd cc
]

sent_uses : (full : ℕ) (o : Option Bool) (xs : List (Option Bool)) → 0 < full → full ≤ 5 → (coupled_each 5 0 (holds o) full false).Lawful xs → Uses full o (λ i. entry xs i)
sent_uses full None xs some few h = λ i lt. none_coupled 5 0 full false xs h i
sent_uses full (Some true) xs some few h = let r = some_coupled 5 0 full xs h some few in let lt = r.1 in (r.0, omega (arith, lt), r.2)
sent_uses full (Some false) xs some few h = tt

strategy_uses : (full : ℕ) (stereo begun : Bool) (s : Strategy) → 0 < full → full ≤ 5 → (strategy full stereo begun).Lawful s → Uses full s.cplinu (λ i. entry s.chincpl i)
unfolding strategy shaped pair
strategy_uses full stereo begun s some few h = sent_uses full s.cplinu s.chincpl some few h.1.1.0

parts_of : (h : Head) (before : List Block) (b : Block) → (block_fields h before).Lawful b → BlockParts (full_of h.acmod) (is_stereo h.acmod) h.lfeon (known_of before) b
unfolding block_fields
parts_of h before b l = block_parts (full_of h.acmod) (is_stereo h.acmod) h.lfeon (known_of before) b l

block_uses : (h : Head) (before : List Block) (b : Block) → 0 < full_of h.acmod → (block_fields h before).Lawful b → Uses (full_of h.acmod) b.cplinu (λ i. entry b.chincpl i)
block_uses h before b some l = strategy_uses (full_of h.acmod) (is_stereo h.acmod) (known_of before).begun (strategy_of b) some (full_most h.acmod) (parts_of h before b l).strategy

-- ---- of the strategy that holds

latest_uses : (h : Head) (before bs : List Block) → 0 < full_of h.acmod → AreLawfulAfter h before bs → Uses (full_of h.acmod) (latest_in (λ _ b. b.cplinu) before bs) (λ i. latest_in (λ _ b. entry b.chincpl i) before bs)
unfolding latest_in
latest_uses h before [] some k = λ i lt. refl
latest_uses h before (b ∷ bs) some k =
    over_uses (full_of h.acmod) (latest_in (λ _ d. d.cplinu) (before ++ b ∷ []) bs) b.cplinu (λ i. latest_in (λ _ d. entry d.chincpl i) (before ++ b ∷ []) bs) (λ i. entry b.chincpl i)
    (full_most h.acmod) (latest_uses h (before ++ b ∷ []) bs some k.1) (block_uses h before b some k.0)

held_uses : (h : Head) (earlier : List Block) (b : Block) → 0 < full_of h.acmod → AreLawful h earlier → (block_fields h earlier).Lawful b → Uses (full_of h.acmod) (held (λ d. d.cplinu) earlier b) (λ i. held (λ d. entry d.chincpl i) earlier b)
held_uses h earlier b some k l =
    over_uses (full_of h.acmod) b.cplinu (latest (λ d. d.cplinu) earlier) (λ i. entry b.chincpl i) (λ i. latest (λ d. entry d.chincpl i) earlier)
    (full_most h.acmod) (block_uses h earlier b some l) (latest_uses h [] earlier some k)

flag_now : (earlier : List Block) (b : Block) (i : ℕ) → i < 5 → entry (now earlier b).chincpl i ≡ held (λ d. entry d.chincpl i) earlier b
flag_now earlier b i lt =
    at_first_listed 5 (λ j. option_or (entry b.chincpl j) (entry (latest_strategy earlier).chincpl j)) i None lt
    ∙ ap (λ (o : Option Bool). option_or (entry b.chincpl i) o) (at_first_listed 5 (λ j. latest (λ d. entry d.chincpl j) earlier) i None lt)

both_hold : (o p : Option Bool) → holds o ≡ true → p ≡ Some true → (holds o && holds p) ≡ true
both_hold o p e f = ap₂ (λ (a b : Bool). a && b) e (ap holds f)

uses_some : (full : ℕ) (o : Option Bool) (flags : ℕ → Option Bool) → Uses full o flags → holds o ≡ true → (i : ℕ) × (i < full) × (flags i ≡ Some true)
uses_some full None flags h e = absurd cc
uses_some full (Some true) flags h e = h
uses_some full (Some false) flags h e = absurd cc

pub one_is_coupled : (h : Head) (earlier : List Block) (b : Block) → 0 < full_of h.acmod → AreLawful h earlier → (block_fields h earlier).Lawful b → holds (filled_of h earlier b).cplinu ≡ true → Some_is (full_of h.acmod) (is_coupled (strategy_of (filled_of h earlier b)))
one_is_coupled h earlier b some k l used =
    let on : holds (held (λ d. d.cplinu) earlier b) ≡ true = sym (filled_used h earlier b) ∙ used in
    let r = uses_some (full_of h.acmod) (held (λ d. d.cplinu) earlier b) (λ i. held (λ d. entry d.chincpl i) earlier b) (held_uses h earlier b some k l) on in
    let most = full_most h.acmod in
    let lt = r.1 in
    let small : r.0 < 5 = omega (arith, lt, most) in
    (r.0, r.1, filled_coupled h earlier b r.0 small r.1 ∙ (coupled_now earlier b r.0 small ∙ both_hold (now earlier b).cplinu (entry (now earlier b).chincpl r.0) on (flag_now earlier b r.0 small ∙ r.2)))

-- What the blocks that were sent before a block gave last.
use Rattle.std.proofs.Common.{◌≡◌, ◌⊎◌, ℕ, zero, suc, ◌||◌, Bool, true, false, List, [], ◌∷◌, ◌++◌, Option, Some, None, refl, ap, ap₂, ◌∙◌, inl, inr, arith}
use Rattle.std.specs.List.{list_any}
use Rattle.std.specs.Option.{option_or}
use Rattle.std.proofs.lemmas.Bool.{ne_eqb}
use Rattle.ac_rows.specs.Blocks.{Block}
use Rattle.ac_rows.specs.Filled.{listed, latest_in, latest, held}
use Rattle.ac_rows.proofs.Later.{latest_more, any_more}
use Rattle.ac_sent.specs.Values.{Quantised}
use Rattle.ac_sent.specs.Fields.{sent_fields, sent_block, skip_at}
use Rattle.ac_sent.proofs.Listed.{listed_more}

-- the first n blocks that are sent
abbrev pub sent_before : Quantised → ℕ → List Block
sent_before q n = listed n 0 (sent_block q)

pub before_none : (q : Quantised) → sent_before q 0 ≡ []
unfolding listed
before_none q = refl

pub before_more : (q : Quantised) (n : ℕ) → sent_before q (suc n) ≡ sent_before q n ++ sent_block q n ∷ []
before_more q n = listed_more n (sent_block q)

-- block 0, and a later one
abbrev pub first_block : Quantised → Block
first_block q = sent_fields q true 0 None

abbrev pub later_block : Quantised → ℕ → Block
later_block q n = sent_fields q false (suc n) (skip_at q (suc n))

pub block_first : (q : Quantised) → sent_block q 0 ≡ first_block q
unfolding sent_block
block_first q = refl

pub block_later : (q : Quantised) (n : ℕ) → sent_block q (suc n) ≡ later_block q n
unfolding sent_block
block_later q n = ap (λ (first : Bool). sent_fields q first (suc n) (skip_at q (suc n))) (ne_eqb (suc n) 0 (omega arith))

or_none : {A : Type 0} (o : Option A) → option_or o None ≡ o
or_none None = refl
or_none (Some x) = refl

or_same : {A : Type 0} (o : Option A) → option_or o o ≡ o
or_same None = refl
or_same (Some x) = refl

-- nothing, or the same again
or_step : {A : Type 0} (p o : Option A) → (p ≡ None) ⊎ (p ≡ o) → option_or p o ≡ o
or_step p o (inl e) = ap (λ x. option_or x o) e
or_step p o (inr e) = ap (λ x. option_or x o) e ∙ or_same o

pub latest_none : {A : Type 0} (f : List Block → Block → Option A) (before : List Block) → latest_in f before [] ≡ None
unfolding latest_in
latest_none f before = refl

-- ---- what block 0 gives, and each later block gives again or not at all, is the latest
pub latest_sent : {A : Type 0} (q : Quantised) (f : List Block → Block → Option A) (o : Option A) → f [] (sent_block q 0) ≡ o
    → ((n : ℕ) → (f (sent_before q (suc n)) (sent_block q (suc n)) ≡ None) ⊎ (f (sent_before q (suc n)) (sent_block q (suc n)) ≡ o))
    → (n : ℕ) → latest_in f [] (sent_before q (suc n)) ≡ o
latest_sent q f o first later zero =
    ap (latest_in f []) (before_more q 0 ∙ ap (λ l. l ++ sent_block q 0 ∷ []) (before_none q))
    ∙ latest_more f [] [] (sent_block q 0)
    ∙ ap₂ option_or first (latest_none f [])
    ∙ or_none o
latest_sent q f o first later (suc n) =
    ap (latest_in f []) (before_more q (suc n))
    ∙ latest_more f [] (sent_before q (suc n)) (sent_block q (suc n))
    ∙ ap (option_or (f (sent_before q (suc n)) (sent_block q (suc n)))) (latest_sent q f o first later n)
    ∙ or_step (f (sent_before q (suc n)) (sent_block q (suc n))) o (later n)

-- what holds in each block
pub held_sent : {A : Type 0} (q : Quantised) (f : Block → Option A) (o : Option A) → f (first_block q) ≡ o
    → ((n : ℕ) → (f (later_block q n) ≡ None) ⊎ (f (later_block q n) ≡ o))
    → (b : ℕ) → held f (sent_before q b) (sent_block q b) ≡ o
held_sent q f o first later zero =
    ap₂ option_or (ap f (block_first q) ∙ first) (ap (latest_in (λ _. f) []) (before_none q) ∙ latest_none (λ _. f) []) ∙ or_none o
held_sent q f o first later (suc n) =
    let again : (m : ℕ) → (f (sent_block q (suc m)) ≡ None) ⊎ (f (sent_block q (suc m)) ≡ o) =
    λ m. elim (later m) [ inl e ↦ inl (ap f (block_later q m) ∙ e) | inr e ↦ inr (ap f (block_later q m) ∙ e) ] in
    ap (option_or (f (sent_block q (suc n)))) (latest_sent q (λ _. f) o (ap f (block_first q) ∙ first) again n)
    ∙ or_step (f (sent_block q (suc n))) o (again n)

-- one block later what held is the latest
pub latest_held : {A : Type 0} (q : Quantised) (f : Block → Option A) (n : ℕ) → latest f (sent_before q (suc n)) ≡ held f (sent_before q n) (sent_block q n)
latest_held q f n = ap (latest_in (λ _. f) []) (before_more q n) ∙ latest_more (λ _. f) [] (sent_before q n) (sent_block q n)

-- some block sent it, as block 0 did
or_left : (a b : Bool) → a ≡ true → (a || b) ≡ true
or_left true b e = refl
or_left false b e = absurd cc

pub any_sent_block : (q : Quantised) (p : Block → Bool) → p (first_block q) ≡ true → (n : ℕ) → list_any p (sent_before q (suc n)) ≡ true
any_sent_block q p first zero =
    ap (list_any p) (before_more q 0 ∙ ap (λ l. l ++ sent_block q 0 ∷ []) (before_none q)) ∙ ap (λ b. b || false) (ap p (block_first q) ∙ first)
any_sent_block q p first (suc n) =
    ap (list_any p) (before_more q (suc n)) ∙ any_more p (sent_before q (suc n)) (sent_block q (suc n)) ∙ or_left _ (p (sent_block q (suc n))) (any_sent_block q p first n)

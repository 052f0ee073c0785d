-- What holds of the latest of earlier blocks, since it holds of each.
use Rattle.std.proofs.Common.{◌≡◌, ℕ, zero, suc, ◌+◌, ◌<◌, List, [], ◌∷◌, ◌++◌, get_or, Option, Some, None, ap, ◌∙◌, arith}
use Rattle.std.specs.Option.{option_or, ForSome}
use Rattle.ac_rows.specs.Blocks.{Block}
use Rattle.ac_rows.specs.declared.head.Head.{Head}
use Rattle.ac_rows.specs.Filled.{listed, latest_in}
use Rattle.ac_rows.specs.BlockRows.{block_fields, AreLawfulAfter, AreLawful}
use Rattle.ac_rows.proofs.FilledSpans.{lawful_more}

-- both are there, and then this, or neither
abbrev pub Both : {A B : Type 0} → (A → B → Type 0) → Option A → Option B → Type 0
Both R None None = Unit {0}
Both R None (Some b) = ⊥
Both R (Some a) None = ⊥
Both R (Some a) (Some b) = R a b

both_or : {A B : Type 0} (R : A → B → Type 0) (o p : Option A) (q r : Option B) → Both R o q → Both R p r → Both R (option_or o p) (option_or q r)
both_or R None p None r h k = k
both_or R None p (Some b) r h k = absurd h
both_or R (Some a) p None r h k = absurd h
both_or R (Some a) p (Some b) r h k = h

pub both_latest : {A B : Type 0} (R : A → B → Type 0) (f : List Block → Block → Option A) (g : List Block → Block → Option B) (h : Head)
    → ((before : List Block) (b : Block) → AreLawful h before → (block_fields h before).Lawful b → Both R (f before b) (g before b))
    → (before bs : List Block) → AreLawful h before → AreLawfulAfter h before bs → Both R (latest_in f before bs) (latest_in g before bs)
unfolding latest_in
both_latest R f g h each before [] k l = tt
both_latest R f g h each before (b ∷ bs) k l =
    both_or R (latest_in f (before ++ b ∷ []) bs) (f before b) (latest_in g (before ++ b ∷ []) bs) (g before b)
    (both_latest R f g h each (before ++ b ∷ []) bs (lawful_more h before b k l.0) l.1) (each before b k l.0)

some_or : {A : Type 0} (P : A → Type 0) (o p : Option A) → ForSome o P → ForSome p P → ForSome (option_or o p) P
some_or P None p h k = k
some_or P (Some a) p h k = h

pub some_latest : {A : Type 0} (P : A → Type 0) (f : List Block → Block → Option A) (h : Head)
    → ((before : List Block) (b : Block) → AreLawful h before → (block_fields h before).Lawful b → ForSome (f before b) P)
    → (before bs : List Block) → AreLawful h before → AreLawfulAfter h before bs → ForSome (latest_in f before bs) P
unfolding latest_in
some_latest P f h each before [] k l = λ x e. absurd cc
some_latest P f h each before (b ∷ bs) k l =
    some_or P (latest_in f (before ++ b ∷ []) bs) (f before b)
    (some_latest P f h each (before ++ b ∷ []) bs (lawful_more h before b k l.0) l.1) (each before b k l.0)

-- its own, or else the latest
pub some_held : {A : Type 0} (P : A → Type 0) (f : List Block → Block → Option A) (h : Head) (earlier : List Block) (b : Block)
    → ((before : List Block) (b : Block) → AreLawful h before → (block_fields h before).Lawful b → ForSome (f before b) P)
    → AreLawful h earlier → (block_fields h earlier).Lawful b → ForSome (option_or (f earlier b) (latest_in f [] earlier)) P
some_held P f h earlier b each k l =
    some_or P (f earlier b) (latest_in f [] earlier) (each earlier b k l) (some_latest P f h each [] earlier tt k)

-- ---- lists by their entries

pub at_listed : {A : Type 0} (n j : ℕ) (f : ℕ → A) (k : ℕ) (d : A) → k < n → get_or (listed n j f) k d ≡ f (j + k)
unfolding listed
at_listed zero j f k d lt = absurd (omega arith)
at_listed (suc n) j f zero d lt = ap f (omega arith)
at_listed (suc n) j f (suc k) d lt = at_listed n (suc j) f k d (omega arith) ∙ ap f (omega arith)

pub at_first_listed : {A : Type 0} (n : ℕ) (f : ℕ → A) (k : ℕ) (d : A) → k < n → get_or (listed n 0 f) k d ≡ f k
at_first_listed n f k d lt = at_listed n 0 f k d lt ∙ ap f (omega arith)

-- What is known one block later.
use Rattle.std.proofs.Common.{◌≡◌, ◌||◌, Bool, true, false, List, [], ◌∷◌, ◌++◌, Option, Some, None, refl, ap, sym, ◌∙◌, append_assoc}
use Rattle.std.specs.List.{list_any}
use Rattle.std.specs.Option.{option_or}
use Rattle.std.proofs.lemmas.List.{append-nil}
use Rattle.ac_rows.specs.Blocks.{Block}
use Rattle.ac_rows.specs.Filled.{listed, latest_in}
use Rattle.ac_rows.specs.Known.{known_of, after, is_begun}

or_none : {A : Type 0} (o : Option A) → option_or o None ≡ o
or_none None = refl
or_none (Some x) = refl

or_assoc : {A : Type 0} (o p q : Option A) → option_or (option_or o p) q ≡ option_or o (option_or p q)
or_assoc None p q = refl
or_assoc (Some x) p q = refl

pub latest_more : {A : Type 0} (f : List Block → Block → Option A) (before bs : List Block) (b : Block)
    → latest_in f before (bs ++ b ∷ []) ≡ option_or (f (before ++ bs) b) (latest_in f before bs)
unfolding latest_in
latest_more f before [] b = sym (or_none (f (before ++ []) b) ∙ ap (λ l. f l b) (append-nil before))
latest_more f before (c ∷ bs) b =
    ap (λ o. option_or o (f before c)) (latest_more f (before ++ c ∷ []) bs b)
    ∙ (or_assoc (f ((before ++ c ∷ []) ++ bs) b) (latest_in f (before ++ c ∷ []) bs) (f before c)
    ∙ ap (λ l. option_or (f l b) (option_or (latest_in f (before ++ c ∷ []) bs) (f before c))) (append_assoc before (c ∷ []) bs))

or_false : (a : Bool) → (a || false) ≡ a
or_false true = refl
or_false false = refl

or_or : (a b c : Bool) → (a || (b || c)) ≡ ((a || b) || c)
or_or true b c = refl
or_or false b c = refl

pub any_more : (p : Block → Bool) (bs : List Block) (b : Block) → list_any p (bs ++ b ∷ []) ≡ (list_any p bs || p b)
any_more p [] b = or_false (p b)
any_more p (c ∷ bs) b = ap (λ x. p c || x) (any_more p bs b) ∙ or_or (p c) (list_any p bs) (p b)

pub begun_more : (bs : List Block) (b : Block) → is_begun (bs ++ b ∷ []) ≡ true
begun_more [] b = refl
begun_more (c ∷ bs) b = refl

pub known_more : (bs : List Block) (b : Block) → known_of (bs ++ b ∷ []) ≡ after (known_of bs) b
unfolding known_of listed
known_more bs b = simp (latest_more, any_more, begun_more) refl

-- The text of a coupling.
use Rattle.std.proofs.Common.{◌≡◌, ◌≢◌, ◌∙◌, ◌+◌, ◌<◌, ◌≤◌, ◌^◌, ℕ, MatchOption, Option, Bor, not, true, refl, sym, ap, arith, All, [], ◌∷◌, ◌++◌, length, get_or, codes, decimal}
use Rattle.std.specs.Int.{IsInRange}
use Rattle.std.specs.Str.Parse.{starts_with_minus}
use Rattle.std.proofs.lemmas.Fmt.{decimal_is_IsNumeral, decimal_injective}
use Rattle.std.proofs.lemmas.List.Elements.{All-head, All-tail, All-from_get_or}
use Rattle.std.proofs.lemmas.Str.Parse.{digit_at}
use Rattle.std.proofs.lemmas.Str.Pattern.{IsSplitOnceResult, split_after}
use Rattle.ac_words.specs.Grammar.{AreBins, IsCouple, IsNumber, Text}
use Rattle.ac_words.specs.declared.meaning.Couple.{Couple}
use Rattle.ac_words.specs.declared.meaning.Couple.TheVariants.{Off, Auto, Bins}
use Rattle.ac_words.proofs.Numbers.{Begins, decimal_begins, plain_decimal, same_number}

-- ---- a comma between two numbers

-- a byte other than a comma
abbrev IsOther : ℕ → Type 0
IsOther b = b ≢ 44

pub no_comma_at : (n : ℕ) → n < 2 ^ 64 → (i : ℕ) → i < length (decimal n) → get_or (decimal n) i 0 ≢ 44
no_comma_at n small i lt = λ is.
    let digit : IsInRange 48 57 (get_or (decimal n) i 0) = digit_at (decimal n) i (decimal_is_IsNumeral n small).0.1 lt in
    omega arith

no_comma : (n : ℕ) → n < 2 ^ 64 → All IsOther (decimal n)
no_comma n small = All-from_get_or IsOther (decimal n) 0 (no_comma_at n small)

-- a text has one part before its first comma, and one after it
same_parts : (xs us ys vs : Text) → All IsOther xs → All IsOther us → xs ++ 44 ∷ ys ≡ us ++ 44 ∷ vs → (xs ≡ us) × (ys ≡ vs)
same_parts [] [] ys vs h k e = (refl, cc)
same_parts [] (u ∷ us) ys vs h k e = let is : u ≡ 44 = cc in absurd (All-head IsOther u us k is)
same_parts (x ∷ xs) [] ys vs h k e = let is : x ≡ 44 = cc in absurd (All-head IsOther x xs h is)
same_parts (x ∷ xs) (u ∷ us) ys vs h k e =
    let rest : xs ++ 44 ∷ ys ≡ us ++ 44 ∷ vs = cc in
    let parts = same_parts xs us ys vs (All-tail IsOther x xs h) (All-tail IsOther u us k) rest in
    let first : x ≡ u = cc in
    (ap (λ (b : ℕ). b ∷ xs) first ∙ ap (λ (bs : Text). u ∷ bs) parts.0, parts.1)

-- ---- what `split_once` gives at a comma

pub parts_of_bins : (text : Text) (r : Option (Bor Text × Bor Text)) (begin end : ℕ) → IsSplitOnceResult 44 text r → AreBins text begin end
    → MatchOption r ⊥ (λ x. (x.0.now ≡ decimal begin) × (x.1.now ≡ decimal end))
parts_of_bins text r begin end split h =
    let small : begin < 2 ^ 64 = omega (arith, h.1) in
    split_after 44 text (decimal begin) (decimal end) r split (omega arith) h.0 (no_comma_at begin small)

code_one : (text : Text) (m n : ℕ) → IsNumber 15 text m → IsNumber 15 text n → m ≡ n
code_one text m n h k =
    let below : m < 2 ^ 64 = omega (arith, h.1) in
    let also : n < 2 ^ 64 = omega (arith, k.1) in
    same_number text m n below also h.0 k.0

-- the codes that two texts write are no coupling, if the second one and 2 are less than the first
pub too_early : (front back : Text) (m n begin end : ℕ) → IsNumber 15 front m → IsNumber 15 back n → n + 2 < m
    → IsNumber 15 front begin → IsNumber 15 back end → begin ≤ end + 2 → ⊥
too_early front back m n begin end first second early also_first also_second order =
    let begins : m ≡ begin = code_one front m begin first also_first in
    let ends : n ≡ end = code_one back n end second also_second in
    omega arith

-- ---- one coupling

bins_one : (text : Text) (b e c f : ℕ) → AreBins text b e → AreBins text c f → Bins b e ≡ Bins c f
bins_one text b e c f h k =
    let begins : b < 2 ^ 64 = omega (arith, h.1) in
    let ends : e < 2 ^ 64 = omega (arith, h.2) in
    let also_begins : c < 2 ^ 64 = omega (arith, k.1) in
    let also_ends : f < 2 ^ 64 = omega (arith, k.2) in
    let parts = same_parts (decimal b) (decimal c) (decimal e) (decimal f) (no_comma b begins) (no_comma c also_begins) (sym h.0 ∙ k.0) in
    let first : b ≡ c = decimal_injective b c begins also_begins parts.0 in
    let second : e ≡ f = decimal_injective e f ends also_ends parts.1 in
    cc

-- a word that begins with a letter is no two numbers
begins_low : (n : ℕ) (ds rest : Text) → Begins n ds → (b : ℕ) (bs : Text) → b ∷ bs ≡ ds ++ rest → b ≤ 57
begins_low n [] rest h b bs e = absurd (omega (arith, h.some))
begins_low n (d ∷ ds) rest h b bs e = let same : b ≡ d = cc in omega (arith, h.high)

no_bins : (text : Text) (b : ℕ) (bs : Text) (begin end : ℕ) → text ≡ b ∷ bs → 57 < b → AreBins text begin end → ⊥
no_bins text b bs begin end is letter h =
    let small : begin < 2 ^ 64 = omega (arith, h.1) in
    let low : b ≤ 57 = begins_low begin (decimal begin) (codes "," ++ decimal end) (decimal_begins begin small) b bs (sym is ∙ h.0) in
    omega arith

plain_before : (ds rest : Text) → 0 < length ds → not (starts_with_minus ds) ≡ true → not (starts_with_minus (ds ++ rest)) ≡ true
plain_before [] rest some plain = absurd (omega arith)
plain_before (d ∷ ds) rest some plain = plain

-- the text of a coupling doesn't begin with a hyphen
pub plain_couple : (text : Text) (c : Couple) → IsCouple text c → not (starts_with_minus text) ≡ true
plain_couple text Off h = ap (λ t. not (starts_with_minus t)) h
plain_couple text Auto h = ap (λ t. not (starts_with_minus t)) h
plain_couple text (Bins begin end) h =
    let small : begin < 2 ^ 64 = omega (arith, h.1) in
    ap (λ t. not (starts_with_minus t)) h.0
    ∙ plain_before (decimal begin) (codes "," ++ decimal end) (decimal_begins begin small).some (plain_decimal begin small)

pub couple_one : (text : Text) (c d : Couple) → IsCouple text c → IsCouple text d → c ≡ d
couple_one text Off Off h k = refl
couple_one text Off Auto h k = absurd (cc)
couple_one text Off (Bins b e) h k = absurd (no_bins text 111 (102 ∷ 102 ∷ []) b e h (omega arith) k)
couple_one text Auto Off h k = absurd (cc)
couple_one text Auto Auto h k = refl
couple_one text Auto (Bins b e) h k = absurd (no_bins text 97 (117 ∷ 116 ∷ 111 ∷ []) b e h (omega arith) k)
couple_one text (Bins b e) Off h k = absurd (no_bins text 111 (102 ∷ 102 ∷ []) b e k (omega arith) h)
couple_one text (Bins b e) Auto h k = absurd (no_bins text 97 (117 ∷ 116 ∷ 111 ∷ []) b e k (omega arith) h)
couple_one text (Bins b e) (Bins c f) h k = bins_one text b e c f h k

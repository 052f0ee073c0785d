-- Mantissas are told by their bits: each list has those of one list of codes, or is refused for one fault, and never both.
use Rattle.std.proofs.Common.{◌≡◌, ℕ, Bool, true, false, List, [], ◌∷◌, ◌++◌, Result, Ok, Err, refl, ap, ap₂, sym, subst, ◌∙◌}
use Rattle.ac_mant.specs.declared.coded.Coded.{Coded}
use Rattle.ac_mant.specs.declared.coded.MantFault.{MantFault}
use Rattle.ac_mant.specs.Groups.{AreCoded, Fill, IsFill, closed, pairs, pointers, spelled, Refuses}
use Rattle.ac_mant.specs.Unpacking.{nothing, read_from}
use Rattle.ac_mant.proofs.Whole.{refused_reads}
use Rattle.ac_mant.proofs.Spelled.{codes_of, spelled_reads}

codes_got : Result (List ℕ × List Bool) MantFault → List ℕ
codes_got (Ok r) = r.0
codes_got (Err fault) = []

bits_left : Result (List ℕ × List Bool) MantFault → List Bool
bits_left (Ok r) = r.1
bits_left (Err fault) = []

is_good : Result (List ℕ × List Bool) MantFault → Bool
is_good (Ok r) = true
is_good (Err fault) = false

fault_in : MantFault → Result (List ℕ × List Bool) MantFault → MantFault
fault_in other (Ok r) = other
fault_in other (Err fault) = fault

same_codes : {a b : List ℕ × List Bool} → ◌≡◌ {A = Result (List ℕ × List Bool) MantFault} (Ok a) (Ok b) → a.0 ≡ b.0
unfolding codes_got
same_codes is = ap codes_got is

same_bits : {a b : List ℕ × List Bool} → ◌≡◌ {A = Result (List ℕ × List Bool) MantFault} (Ok a) (Ok b) → a.1 ≡ b.1
unfolding bits_left
same_bits is = ap bits_left is

same_fault : {d e : MantFault} → ◌≡◌ {A = Result (List ℕ × List Bool) MantFault} (Err d) (Err e) → d ≡ e
unfolding fault_in
same_fault {d} {e} is = ap (fault_in d) is

never_both : {a : List ℕ × List Bool} {e : MantFault} → ◌≡◌ {A = Result (List ℕ × List Bool) MantFault} (Ok a) (Err e) → ⊥
unfolding is_good
never_both is = let same : true ≡ false = ap is_good is in cc

coded_whole : (xs : List Coded) → pairs (pointers xs) (codes_of xs) ≡ xs
coded_whole [] = refl
coded_whole (x ∷ xs) = ap (λ l. x ∷ l) (coded_whole xs)

-- what is spelled is read
mantissas_read : (xs : List Coded) (f : Fill) (l rest : List Bool) → IsFill f → AreCoded xs → l ≡ spelled f closed xs ++ rest → read_from nothing 0 (pointers xs) l ≡ Ok (codes_of xs, rest)
mantissas_read xs f l rest is are whole =
    ap (λ b. read_from nothing 0 (pointers xs) b) whole
    ∙ spelled_reads xs nothing 0 f rest is are (record { one = tt; two = tt; four = tt })

-- two lists of mantissas with the same pointers and the same bits are one
pub one_list : (xs ys : List Coded) (f g : Fill) (x y : List Bool) → pointers xs ≡ pointers ys → IsFill f → IsFill g → AreCoded xs → AreCoded ys → spelled f closed xs ++ x ≡ spelled g closed ys ++ y → (xs ≡ ys) × (x ≡ y)
one_list xs ys f g x y same is also are too whole =
    let l = spelled g closed ys ++ y in
    let first : read_from nothing 0 (pointers ys) l ≡ Ok (codes_of xs, x) = subst (λ (p : List ℕ). read_from nothing 0 p l ≡ Ok (codes_of xs, x)) same (mantissas_read xs f l x is are (sym whole)) in
    let second : read_from nothing 0 (pointers ys) l ≡ Ok (codes_of ys, y) = mantissas_read ys g l y also too refl in
    (sym (coded_whole xs) ∙ ap₂ pairs same (same_codes (sym first ∙ second)) ∙ coded_whole ys, same_bits (sym first ∙ second))

-- what is spelled isn't refused
pub spelled_apart : (xs : List Coded) (f : Fill) (rest : List Bool) (fault : MantFault) → IsFill f → AreCoded xs → Refuses closed 0 (pointers xs) (spelled f closed xs ++ rest) fault → ⊥
spelled_apart xs f rest fault is are refuses =
    let l = spelled f closed xs ++ rest in
    never_both (sym (mantissas_read xs f l rest is are refl) ∙ refused_reads (pointers xs) nothing 0 l fault refuses)

-- and what is refused is refused for one fault
pub one_fault : (baps : List ℕ) (l : List Bool) (d e : MantFault) → Refuses closed 0 baps l d → Refuses closed 0 baps l e → d ≡ e
one_fault baps l d e first second = same_fault (sym (refused_reads baps nothing 0 l d first) ∙ refused_reads baps nothing 0 l e second)

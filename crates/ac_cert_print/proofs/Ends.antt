-- The text of the offsets, one by one.
use Rattle.std.proofs.Common.{◌≡◌, ℕ, zero, suc, ◌+◌, ◌<◌, ◌≤◌, List, [], ◌∷◌, ◌++◌, length, take, get_or, codes, refl, ap, sym, subst, ◌∙◌, arith, append_assoc, append-nil}
use Rattle.std.proofs.lemmas.List.{take_more, take_all, length-take-le, length-map}
use Rattle.ac_claim.specs.declared.certs.Level.{Level}
use Rattle.ac_cert_text.specs.Codec.{fork, cons, before, absent}
use Rattle.ac_cert_text.specs.Text.{Fields, Offset, level, levels, offset_of, offsets_of}
use Rattle.ac_cert_print.specs.Pages.{Page, Wrote}
use Rattle.ac_cert_print.proofs.Writing.{then, nothing}

-- offsets from n - 1 downwards, without the last line
abbrev pub lines : Fields → ℕ → List Offset → List ℕ
lines f n [] = []
lines f zero (x ∷ xs) = []
lines f (suc n) (x ∷ xs) = (level f n).spell x ++ lines f n xs

ended : (f : Fields) (n : ℕ) (xs : List Offset) → length xs ≤ n → (levels f n).spell xs ≡ lines f n xs ++ codes "end\n"
unfolding levels fork cons before absent
ended f zero [] h = refl
ended f zero (x ∷ xs) h = absurd (omega arith)
ended f (suc n) [] h = refl
ended f (suc n) (x ∷ xs) h =
    ap (λ (l : List ℕ). (level f n).spell x ++ l) (ended f n xs (omega arith)) ∙ sym (append_assoc ((level f n).spell x) (lines f n xs) (codes "end\n"))

one-more : (f : Fields) (n t : ℕ) (xs : List Offset) (x : Offset) → t + 1 + length xs ≡ n → lines f n (xs ++ x ∷ []) ≡ lines f n xs ++ (level f t).spell x
one-more f zero t xs x h = absurd (omega arith)
one-more f (suc n) t [] x h =
    let e : n ≡ t = omega arith in
    rw e (append-nil ((level f t).spell x))
one-more f (suc n) t (y ∷ xs) x h =
    ap (λ (l : List ℕ). (level f n).spell y ++ l) (one-more f n t xs x (omega arith)) ∙ sym (append_assoc ((level f n).spell y) (lines f n xs) ((level f t).spell x))

offsets-more : (levels : List Level) (x : Level) → offsets_of (levels ++ x ∷ []) ≡ offsets_of levels ++ offset_of x ∷ []
offsets-more [] x = refl
offsets-more (y ∷ levels) x = ap (λ (o : List Offset). offset_of y ∷ o) (offsets-more levels x)

-- ---- what the writer of the offsets cites
pub no-lines : (f : Fields) (n : ℕ) (all : List Level) (a : Page) → Wrote (lines f n (offsets_of (take 0 all))) a a
no-lines f zero all a = nothing a
no-lines f (suc n) all a = nothing a

pub level-wrote : (f : Fields) (n k t : ℕ) (all : List Level) (x : Level) (a b c : Page) → k < length all → t + 1 + k ≡ n → x ≡ get_or all k x → Wrote (lines f n (offsets_of (take k all))) a b
    → Wrote ((level f t).spell (offset_of x)) b c → Wrote (lines f n (offsets_of (take (k + 1) all))) a c
level-wrote f n k t all x a b c lt left is p q =
    let taken : take (k + 1) all ≡ take k all ++ x ∷ [] = take_more all k x lt ∙ ap (λ (y : Level). take k all ++ y ∷ []) (sym is) in
    let short : length (offsets_of (take k all)) ≡ k = length-map (take k all) offset_of ∙ length-take-le k all (omega arith) in
    let more : lines f n (offsets_of (take (k + 1) all)) ≡ lines f n (offsets_of (take k all)) ++ (level f t).spell (offset_of x) =
    ap (lines f n) (ap offsets_of taken ∙ offsets-more (take k all) x) ∙ one-more f n t (offsets_of (take k all)) (offset_of x) (omega arith) in
    subst (λ (l : List ℕ). Wrote l a c) (sym more) (then p q)

pub end-wrote : (f : Fields) (n k : ℕ) (all : List Level) (a b c : Page) → length all ≤ n → length all ≤ k → Wrote (lines f n (offsets_of (take k all))) a b → Wrote (codes "end\n") b c
    → Wrote ((levels f n).spell (offsets_of all)) a c
end-wrote f n k all a b c few done p q =
    let whole : lines f n (offsets_of (take k all)) ++ codes "end\n" ≡ (levels f n).spell (offsets_of all) =
    ap (λ (ls : List Level). lines f n (offsets_of ls) ++ codes "end\n") (take_all k all done) ∙ sym (ended f n (offsets_of all) (subst (λ (m : ℕ). m ≤ n) (sym (length-map all offset_of)) few)) in
    subst (λ (l : List ℕ). Wrote l a c) whole (then p q)

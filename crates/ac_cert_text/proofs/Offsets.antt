-- Offsets, one after the other.
use Rattle.std.proofs.Common.{◌≡◌, ℕ, zero, suc, ◌+◌, ◌-◌, ◌<◌, ◌&&◌, Bool, true, false, List, [], ◌∷◌, ◌++◌, Ok, Err, refl, ap, sym, ◌∙◌, arith}
use Rattle.std.specs.Prelude.{nat_lt, codes}
use Rattle.std.proofs.lemmas.Bool.{ltb-true}
use Rattle.std.proofs.lemmas.Bool.Decides.{nat_tests}
use Rattle.ac_claim.specs.declared.certs.Level.{Level}
use Rattle.std.proofs.lemmas.List.{append-nil}
use Rattle.ac_cert_text.specs.declared.fault.Fault.{Fault}
use Rattle.ac_cert_text.specs.declared.fault.Fault.TheVariants.{Bad, Deep, NoMemory}
use Rattle.ac_cert_text.specs.Codec.{Outcome, Fails, ◌>>=◌, begins, word_read, fork, cons, before, absent}
use Rattle.ac_cert_text.specs.Text.{Fields, Offset, level, levels, offset_of, offsets_of}
use Rattle.ac_cert_text.proofs.Loops.{front_then, regroup}
use Rattle.ac_cert_text.proofs.Numbers.{both}

on-suc : (f : Fields) (front : List Offset) (n : ℕ) (l r : List ℕ) (o : Offset) → begins 111 l ≡ true → (level f n).read l ≡ Ok (o, r)
    → front_then front ((levels f (suc n)).read l) ≡ front_then (front ++ o ∷ []) ((levels f n).read r)
unfolding levels fork cons
on-suc f front n l r o b h = rw (b, h) (regroup front o ((levels f n).read r))

err-suc : (f : Fields) (front : List Offset) (n : ℕ) (l : List ℕ) (e : Fault × List ℕ) → begins 111 l ≡ true → (level f n).read l ≡ Err e
    → front_then front ((levels f (suc n)).read l) ≡ Err e
unfolding levels fork cons
err-suc f front n l e b h = rw (b, h) refl

pub level-goes_on : (f : Fields) (front : List Offset) (n m : ℕ) (l r : List ℕ) (o : Offset) (total : Outcome (List Offset)) → (nat_lt 0 n && begins 111 l) ≡ true → m + 1 ≡ n
    → (level f m).read l ≡ Ok (o, r) → front_then front ((levels f n).read l) ≡ total → front_then (front ++ o ∷ []) ((levels f m).read r) ≡ total
level-goes_on f front n m l r o total t is h so_far =
    let p = both (nat_lt 0 n) (begins 111 l) t in
    let s : suc m ≡ n = omega (arith, is) in
    sym (on-suc f front m l r o p.1 h) ∙ (ap (λ (k : ℕ). front_then front ((levels f k).read l)) s ∙ so_far)

err-total : (f : Fields) (front : List Offset) (n m : ℕ) (l : List ℕ) (e : Fault × List ℕ) (total : Outcome (List Offset)) → (nat_lt 0 n && begins 111 l) ≡ true → m + 1 ≡ n
    → (level f m).read l ≡ Err e → front_then front ((levels f n).read l) ≡ total → total ≡ Err e
err-total f front n m l e total t is h so_far =
    let p = both (nat_lt 0 n) (begins 111 l) t in
    let s : suc m ≡ n = omega (arith, is) in
    sym so_far ∙ (sym (ap (λ (k : ℕ). front_then front ((levels f k).read l)) s) ∙ err-suc f front m l e p.1 h)

pub level-fails : (f : Fields) (front : List Offset) (n m : ℕ) (l r : List ℕ) (e : Fault) (total : Outcome (List Offset)) → (nat_lt 0 n && begins 111 l) ≡ true → m + 1 ≡ n
    → Fails e r ((level f m).read l) → front_then front ((levels f n).read l) ≡ total → Fails e r total
level-fails f front n m l r Bad total t is h so_far = err-total f front n m l (Bad, r) total t is h so_far
level-fails f front n m l r Deep total t is h so_far = err-total f front n m l (Deep, r) total t is h so_far
level-fails f front n m l r NoMemory total t is h so_far = tt

-- ---- the last line
abbrev last_read : List ℕ → Outcome (List Offset)
last_read l = word_read (codes "end\n") l >>= λ y. Ok ([], y.1)

at-end : (f : Fields) (n : ℕ) (l : List ℕ) → (nat_lt 0 n && begins 111 l) ≡ false → (levels f n).read l ≡ last_read l
unfolding levels fork before absent
at-end f zero l t = refl
at-end f (suc n) l t = go (begins 111 l) refl t
  where
    go : (b : Bool) → begins 111 l ≡ b → (nat_lt 0 (suc n) && begins 111 l) ≡ false → (levels f (suc n)).read l ≡ last_read l
    go true e t = absurd (grind (arith, nat_tests))
    go false e t = rw e refl

pub levels-end : (f : Fields) (front : List Offset) (n : ℕ) (l r : List ℕ) (total : Outcome (List Offset)) → (nat_lt 0 n && begins 111 l) ≡ false
    → word_read (codes "end\n") l ≡ Ok (tt, r) → front_then front ((levels f n).read l) ≡ total → total ≡ Ok (front, r)
levels-end f front n l r total t h so_far =
    let one : front_then front (last_read l) ≡ Ok (front, r) = rw h (ap (λ (x : List Offset). Ok (x, r)) (append-nil front)) in
    sym so_far ∙ (ap (λ (o : Outcome (List Offset)). front_then front o) (at-end f n l t) ∙ one)

end-err : (f : Fields) (front : List Offset) (n : ℕ) (l : List ℕ) (e : Fault × List ℕ) (total : Outcome (List Offset)) → (nat_lt 0 n && begins 111 l) ≡ false
    → word_read (codes "end\n") l ≡ Err e → front_then front ((levels f n).read l) ≡ total → total ≡ Err e
end-err f front n l e total t h so_far =
    let one : front_then front (last_read l) ≡ Err e = rw h refl in
    sym so_far ∙ (ap (λ (o : Outcome (List Offset)). front_then front o) (at-end f n l t) ∙ one)

pub end-fails : (f : Fields) (front : List Offset) (n : ℕ) (l r : List ℕ) (e : Fault) (total : Outcome (List Offset)) → (nat_lt 0 n && begins 111 l) ≡ false
    → Fails e r (word_read (codes "end\n") l) → front_then front ((levels f n).read l) ≡ total → Fails e r total
end-fails f front n l r Bad total t h so_far = end-err f front n l (Bad, r) total t h so_far
end-fails f front n l r Deep total t h so_far = end-err f front n l (Deep, r) total t h so_far
end-fails f front n l r NoMemory total t h so_far = tt

-- ---- what the loop over offsets cites
pub one-less : (n : ℕ) (b : Bool) → (nat_lt 0 n && b) ≡ true → n - 1 + 1 ≡ n
one-less n b h = let some : 0 < n = ltb-true 0 n (both (nat_lt 0 n) b h).0 in omega (arith, some)

pub offsets-more : (levels : List Level) (level : Level) → offsets_of (levels ++ level ∷ []) ≡ offsets_of levels ++ offset_of level ∷ []
offsets-more [] level = refl
offsets-more (x ∷ levels) level = ap (λ (o : List Offset). offset_of x ∷ o) (offsets-more levels level)

-- A loop that reads a piece for each number.
use Rattle.std.proofs.Common.{◌≡◌, ℕ, suc, ◌+◌, ◌-◌, ◌<◌, ◌≤◌, List, [], ◌∷◌, ◌++◌, Ok, Err, refl, ap, sym, ◌∙◌, arith, append_assoc}
use Rattle.std.proofs.lemmas.List.{append-nil}
use Rattle.ac_cert_text.specs.declared.fault.Fault.{Fault}
use Rattle.ac_cert_text.specs.declared.fault.Fault.TheVariants.{Bad, Deep, NoMemory}
use Rattle.ac_cert_text.specs.Codec.{Codec, Outcome, Fails, ◌>>=◌, each, cons, absent}

-- what was read before, and what is still read
abbrev pub front_then : {A : Type 0} → List A → Outcome (List A) → Outcome (List A)
front_then front read = read >>= λ x. Ok (front ++ x.0, x.1)

pub regroup : {A : Type 0} (front : List A) (a : A) (read : Outcome (List A)) → front_then front (read >>= λ y. Ok (a ∷ y.0, y.1)) ≡ front_then (front ++ a ∷ []) read
regroup {A} front a (Ok x) = ap (λ (l : List A). Ok (l, x.1)) (sym (append_assoc front (a ∷ []) x.0))
regroup front a (Err e) = refl

pub goes_on : {A : Type 0} (c : ℕ → Codec A) (front : List A) (a : A) (n i : ℕ) (l rest : List ℕ) (total : Outcome (List A)) → i < n → (c i).read l ≡ Ok (a, rest)
    → front_then front ((each (n - i) i c).read l) ≡ total → front_then (front ++ a ∷ []) ((each (n - (i + 1)) (i + 1) c).read rest) ≡ total
unfolding each cons
goes_on c front a n i l rest total lt h so_far =
    let k : n - i ≡ suc (n - (i + 1)) = omega arith in
    let e : i + 1 ≡ suc i = omega arith in
    let one : front_then front ((each (n - i) i c).read l) ≡ front_then (front ++ a ∷ []) ((each (n - (i + 1)) (i + 1) c).read rest) =
    rw (k, h, e) (regroup front a ((each (n - suc i) (suc i) c).read rest)) in
    sym one ∙ so_far

ends : {A : Type 0} (c : ℕ → Codec A) (front : List A) (n i : ℕ) (l : List ℕ) (e : Fault × List ℕ) (total : Outcome (List A)) → i < n → (c i).read l ≡ Err e
    → front_then front ((each (n - i) i c).read l) ≡ total → total ≡ Err e
unfolding each cons
ends {A} c front n i l e total lt h so_far =
    let k : n - i ≡ suc (n - (i + 1)) = omega arith in
    let one : front_then front ((each (n - i) i c).read l) ≡ Err e = rw (k, h) refl in
    sym so_far ∙ one

pub fails : {A : Type 0} (c : ℕ → Codec A) (front : List A) (n i : ℕ) (l rest : List ℕ) (e : Fault) (total : Outcome (List A)) → i < n → Fails e rest ((c i).read l)
    → front_then front ((each (n - i) i c).read l) ≡ total → Fails e rest total
fails c front n i l rest Bad total lt h so_far = ends c front n i l (Bad, rest) total lt h so_far
fails c front n i l rest Deep total lt h so_far = ends c front n i l (Deep, rest) total lt h so_far
fails c front n i l rest NoMemory total lt h so_far = tt

pub is_done : {A : Type 0} (c : ℕ → Codec A) (front : List A) (n i : ℕ) (l : List ℕ) (total : Outcome (List A)) → n ≤ i
    → front_then front ((each (n - i) i c).read l) ≡ total → total ≡ Ok (front, l)
unfolding each absent
is_done {A} c front n i l total le so_far =
    let k : n - i ≡ 0 = omega arith in
    let one : front_then front ((each (n - i) i c).read l) ≡ Ok (front, l) = rw k (ap (λ (x : List A). Ok (x, l)) (append-nil front)) in
    sym so_far ∙ one

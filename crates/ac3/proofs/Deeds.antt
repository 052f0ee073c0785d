-- Deeds behind deeds.
use Rattle.std.proofs.Common.{◌≡◌, List, [], ◌++◌, Option, Some, None, append_assoc, append-nil, sym, ap, ◌∙◌}
use Rattle.ac3.specs.Deeds.{Deed, Did}

pub did_nothing : (a : Option (List Deed)) → Did a a []
did_nothing None = tt
did_nothing (Some old) = sym (append-nil old)

pub did_then : (a b c : Option (List Deed)) (xs ys : List Deed) → Did a b xs → Did b c ys → Did a c (xs ++ ys)
did_then a b None xs ys p q = tt
did_then a None (Some new) xs ys p q = absurd q
did_then None (Some mid) (Some new) xs ys p q = absurd p
did_then (Some old) (Some mid) (Some new) xs ys p q =
    let more : new ≡ mid ++ ys = q in
    let e : mid ≡ old ++ xs = p in
    more ∙ ap (λ ds. ds ++ ys) e ∙ append_assoc old xs ys

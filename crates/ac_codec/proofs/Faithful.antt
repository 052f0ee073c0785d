-- Sound fields are faithful.
use Rattle.std.proofs.Common.{◌≡◌, ◌⊎◌, inl, inr, Bool, List, ◌++◌, Ok, Err, refl, sym, ◌∙◌}
use Rattle.ac_codec.specs.declared.refused.Refused.{Refused}
use Rattle.ac_codec.specs.Codec.{Codec, Outcome}
use Rattle.ac_codec.specs.Meaning.{IsNeverBoth, HasOneRefusal, IsFaithful}
use Rattle.ac_codec.proofs.Sound.{Sound, one_value, err_pair}

decided_by : {A : Type 0} (c : Codec A) → Sound c → (l : List Bool) (o : Outcome A) → c.read l ≡ o
    → ((a : A) × (rest : List Bool) × (c.Lawful a × (l ≡ c.spell a ++ rest))) ⊎ ((e : Refused) × (at : List Bool) × c.Refuses l e at)
decided_by c s l (Ok x) e = inl (x.0, x.1, s.found l x.0 x.1 e)
decided_by c s l (Err x) e = inr (x.0, x.1, s.refused l x.0 x.1 e)

never_both : {A : Type 0} (c : Codec A) → Sound c → IsNeverBoth c
never_both {A} c s a rest e at h k =
    let f : Outcome A = Ok (a, rest) in
    let g : f ≡ Err (e, at) = sym (s.only a rest h) ∙ s.refuses (c.spell a ++ rest) e at k in
    absurd cc

one_refusal : {A : Type 0} (c : Codec A) → Sound c → HasOneRefusal c
one_refusal {A} c s l d e at there h k = err_pair {A = A} d e at there (sym (s.refuses l d at h) ∙ s.refuses l e there k)

pub faithful : {A : Type 0} (c : Codec A) → Sound c → IsFaithful c
faithful c s = record {
  meaning = one_value c s;
  back = s.only;
  decided = λ l. decided_by c s l (c.read l) refl;
  apart = never_both c s;
  refusal = one_refusal c s;
}

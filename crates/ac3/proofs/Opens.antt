-- From what was asked for to how the program ends.
use Rattle.std.proofs.Common.{◌≡◌, ◌⊎◌, ◌∷◌, ◌++◌, false, List, [], Option, Result, Ok, Err, inl, inr, refl, sym, subst}
use Rattle.std.specs.Prelude.{MatchResult}
use Rattle.ac_words.specs.Grammar.{Text, LastWords, InGrammar}
use Rattle.ac_words.specs.Asked.{GivesNames}
use Rattle.ac_words.specs.declared.fault.WordsFault.{WordsFault}
use Rattle.ac_words.specs.declared.fault.WordsFault.TheVariants.{Usage, NoMemory}
use Rattle.ac_status.specs.Lines.{status_line}
use Rattle.ac_world.specs.World.{World}
use Rattle.ac3.specs.declared.perform.Answers.{Answers}
use Rattle.ac3.specs.declared.perform.Ended.{Ended}
use Rattle.ac3.specs.declared.perform.Ended.TheVariants.{NoWords, OpenFault, Unsaid}
use Rattle.ac3.specs.Codes.{open_fault_line, status_of_words}
use Rattle.ac3.specs.Deeds.{Deed, Did, said, unsaid, all_compared, all_given, is_shared, AllGiven, Refused, Stopped, not_given}
use Rattle.ac3.specs.Ends.{IfNoWords, IfOpenFault, IfUnsaid, StopsAt, HasNoWords, HasUnsaid}
use Rattle.ac3.proofs.Deeds.{did_then}

-- what is opened behind the comparisons
pub opened : {T E : Type 0} → (n : LastWords) (a : Answers) (start mid end : Option (List Deed)) (result : Result T E) (tell : T → World) → is_shared n a ≡ false → Did start mid (all_compared n a)
    → MatchResult result (λ t. Did mid end (all_given n (tell t))) (λ _. (deeds : List Deed) × Refused n deeds × Did mid end deeds)
    → (x : List Deed) × Did start end x × MatchResult result (λ t. AllGiven n (tell t) x) (λ _. Stopped n x)
opened n a start mid end (Ok t) tell apart c o =
    (all_compared n a ++ all_given n (tell t), did_then start mid end (all_compared n a) (all_given n (tell t)) c o, record { answers = a; apart = apart; same = refl })
opened n a start mid end (Err e) tell apart c o =
    (all_compared n a ++ o.0, did_then start mid end (all_compared n a) o.0 c o.2, not_given a o.0 apart o.1)

stops : (ws : List Text) (n : LastWords) (start mid end : Option (List Deed)) (last : Deed) → GivesNames ws n → (x : List Deed) × Did start mid x × Stopped n x → Did mid end (last ∷ []) → StopsAt ws last start end
stops ws n start mid end last named o d =
    record { names = n; named = named; deeds = o.0; stopped = o.2; did = did_then start mid end o.0 (last ∷ []) o.1 d }

-- the line of an open fault was printed, or not
pub fault_said : {S O N : Type 0} → (ws : List Text) (n : LastWords) (start mid end : Option (List Deed)) (result : Ended S O N) → GivesNames ws n → (x : List Deed) × Did start mid x × Stopped n x
    → ((result ≡ OpenFault) × Did mid end (said open_fault_line ∷ [])) ⊎ ((result ≡ Unsaid) × Did mid end (unsaid open_fault_line ∷ []))
    → IfOpenFault result (StopsAt ws (said open_fault_line) start end)
fault_said ws n start mid end result named o (inl h) =
    subst (λ (r : Ended _ _ _). IfOpenFault r (StopsAt ws (said open_fault_line) start end)) (sym h.0) (stops ws n start mid end (said open_fault_line) named o h.1)
fault_said ws n start mid end result named o (inr h) =
    subst (λ (r : Ended _ _ _). IfOpenFault r (StopsAt ws (said open_fault_line) start end)) (sym h.0) tt

pub fault_unsaid : {S O N : Type 0} → (ws : List Text) (n : LastWords) (start mid end : Option (List Deed)) (result : Ended S O N) → GivesNames ws n → (x : List Deed) × Did start mid x × Stopped n x
    → ((result ≡ OpenFault) × Did mid end (said open_fault_line ∷ [])) ⊎ ((result ≡ Unsaid) × Did mid end (unsaid open_fault_line ∷ []))
    → IfUnsaid result (HasUnsaid ws start end)
fault_unsaid ws n start mid end result named o (inl h) = subst (λ (r : Ended _ _ _). IfUnsaid r (HasUnsaid ws start end)) (sym h.0) tt
fault_unsaid ws n start mid end result named o (inr h) =
    subst (λ (r : Ended _ _ _). IfUnsaid r (HasUnsaid ws start end)) (sym h.0) (inl (stops ws n start mid end (unsaid open_fault_line) named o h.1))

-- ---- no words to follow

no_words : (ws : List Text) (fault : WordsFault) (last : Deed) (start end : Option (List Deed)) → (fault ≡ Usage → InGrammar ws → ⊥) → Did start end (last ∷ []) → HasNoWords ws fault last start end
no_words ws Usage last start end outside d = record { no_meaning = outside refl; did = d }
no_words ws NoMemory last start end outside d = d

-- how the line that says why was printed, or not
abbrev Refusal : {S O N : Type 0} → Ended S O N → WordsFault → Option (List Deed) → Option (List Deed) → Type 0
Refusal result fault start end = ((result ≡ NoWords fault) × Did start end (said (status_line (status_of_words fault)) ∷ []))
    ⊎ ((result ≡ Unsaid) × Did start end (unsaid (status_line (status_of_words fault)) ∷ []))

pub words_said : {S O N : Type 0} → (ws : List Text) (fault : WordsFault) (start end : Option (List Deed)) (result : Ended S O N) → (fault ≡ Usage → InGrammar ws → ⊥) → Refusal result fault start end
    → IfNoWords result (λ f. HasNoWords ws f (said (status_line (status_of_words f))) start end)
words_said ws fault start end result outside (inl h) =
    subst (λ (r : Ended _ _ _). IfNoWords r (λ f. HasNoWords ws f (said (status_line (status_of_words f))) start end)) (sym h.0)
    (no_words ws fault (said (status_line (status_of_words fault))) start end outside h.1)
words_said ws fault start end result outside (inr h) =
    subst (λ (r : Ended _ _ _). IfNoWords r (λ f. HasNoWords ws f (said (status_line (status_of_words f))) start end)) (sym h.0) tt

pub words_unsaid : {S O N : Type 0} → (ws : List Text) (fault : WordsFault) (start end : Option (List Deed)) (result : Ended S O N) → (fault ≡ Usage → InGrammar ws → ⊥) → Refusal result fault start end
    → IfUnsaid result (HasUnsaid ws start end)
words_unsaid ws fault start end result outside (inl h) = subst (λ (r : Ended _ _ _). IfUnsaid r (HasUnsaid ws start end)) (sym h.0) tt
words_unsaid ws fault start end result outside (inr h) =
    subst (λ (r : Ended _ _ _). IfUnsaid r (HasUnsaid ws start end)) (sym h.0)
    (inr (fault, no_words ws fault (unsaid (status_line (status_of_words fault))) start end outside h.1))

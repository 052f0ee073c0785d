-- The coupling that holds in each block that is sent.
use Rattle.std.proofs.Common.{◌≡◌, ℕ, zero, suc, ◌+◌, ◌<◌, ◌&&◌, Bool, true, false, List, [], ◌∷◌, take, Option, Some, None, nat_lt, nat_le, cond, refl, ap, ap₂, ◌∙◌, inl, arith}
use Rattle.std.specs.Prelude.{is_some}
use Rattle.std.specs.List.{count_by}
use Rattle.std.specs.Option.{option_or}
use Rattle.std.proofs.lemmas.List.Sums.{sum_by-cons}
use Rattle.ac_base.specs.Shape.{full_of, is_stereo, subbands}
use Rattle.ac_rows.specs.Blocks.{Block}
use Rattle.ac_rows.specs.declared.groups.Strategy.{Strategy}
use Rattle.ac_rows.specs.declared.groups.Coupling.{Coupling}
use Rattle.ac_rows.specs.Groups.{strategy_of}
use Rattle.ac_rows.specs.Filled.{listed, entry, holds, latest, held, over, latest_strategy, is_coupled, coupling_of, coupling_in}
use Rattle.ac_sent.specs.Values.{Quantised}
use Rattle.ac_sent.specs.Fields.{when, sent_fields, sent_block, begin_code, end_code}
use Rattle.ac_sent.proofs.Listed.{entry_at, listed_same}
use Rattle.ac_sent.proofs.Tests.{holds_when, and_true}
use Rattle.ac_sent.proofs.Earlier.{sent_before, first_block, later_block, held_sent}
use Rattle.ac_sent.proofs.SharedRows.{sent_coupling}

-- ---- lists that block 0 sends, and no other block
pub entries_held : {A : Type 0} (q : Quantised) (f : Block → List (Option A)) (n : ℕ) (g : ℕ → Option A) → f (first_block q) ≡ listed n 0 g → ((m : ℕ) → f (later_block q m) ≡ listed n 0 (λ _. None))
    → (b i : ℕ) → i < n → held (λ d. entry (f d) i) (sent_before q b) (sent_block q b) ≡ g i
entries_held q f n g first later b i lt =
    held_sent q (λ d. entry (f d) i) (g i) (ap (λ l. entry l i) first ∙ entry_at n g i None lt)
    (λ m. inl (ap (λ l. entry l i) (later m) ∙ entry_at n (λ _. None) i None lt)) b

over_entries : {A : Type 0} (q : Quantised) (f : Block → List (Option A)) (n : ℕ) (g : ℕ → Option A) → f (first_block q) ≡ listed n 0 g → ((m : ℕ) → f (later_block q m) ≡ listed n 0 (λ _. None))
    → (b : ℕ) → listed n 0 (λ i. option_or (entry (f (sent_block q b)) i) (entry (listed n 0 (λ k. latest (λ d. entry (f d) k) (sent_before q b))) i)) ≡ listed n 0 g
over_entries q f n g first later b =
    listed_same n (λ i. option_or (entry (f (sent_block q b)) i) (entry (listed n 0 (λ k. latest (λ d. entry (f d) k) (sent_before q b))) i)) g
    (λ i lt. ap (option_or (entry (f (sent_block q b)) i)) (entry_at n (λ k. latest (λ d. entry (f d) k) (sent_before q b)) i None lt) ∙ entries_held q f n g first later b i lt)

-- ---- the strategy of block 0 holds
abbrev pub held_strategy : ℕ → Bool → Option (ℕ × ℕ) → Bool → Strategy
held_strategy full stereo couple first = record {
  cplstre = first;
  cplinu = Some (is_some couple);
  chincpl = listed 5 0 (λ i. when (is_some couple && nat_lt i full) true);
  phsflginu = when (is_some couple && stereo) false;
  cplbegf = when (is_some couple) (begin_code couple);
  cplendf = when (is_some couple) (end_code couple);
  cplbndstrc = listed 18 0 (λ k. when (nat_le 1 k && nat_lt k (subbands couple)) false);
}

same_strategy : (s t : Strategy) → s.cplstre ≡ t.cplstre → s.cplinu ≡ t.cplinu → s.chincpl ≡ t.chincpl → s.phsflginu ≡ t.phsflginu → s.cplbegf ≡ t.cplbegf → s.cplendf ≡ t.cplendf → s.cplbndstrc ≡ t.cplbndstrc → s ≡ t
same_strategy s t a b c d e f g = λ i. record { cplstre = a i; cplinu = b i; chincpl = c i; phsflginu = d i; cplbegf = e i; cplendf = f i; cplbndstrc = g i }

pub strategy_held : (q : Quantised) (b : ℕ) → over (strategy_of (sent_block q b)) (latest_strategy (sent_before q b)) ≡ held_strategy (full_of q.shape.acmod) (is_stereo q.shape.acmod) q.shape.couple (sent_block q b).cplstre
unfolding sent_fields
strategy_held q b =
    let couple = q.shape.couple in
    let full = full_of q.shape.acmod in
    same_strategy _ _ refl
    (held_sent q (λ d. d.cplinu) (Some (is_some couple)) refl (λ n. inl refl) b)
    (over_entries q (λ d. d.chincpl) 5 (λ i. when (is_some couple && nat_lt i full) true) refl (λ m. refl) b)
    (held_sent q (λ d. d.phsflginu) (when (is_some couple && is_stereo q.shape.acmod) false) refl (λ n. inl refl) b)
    (held_sent q (λ d. d.cplbegf) (when (is_some couple) (begin_code couple)) refl (λ n. inl refl) b)
    (held_sent q (λ d. d.cplendf) (when (is_some couple) (end_code couple)) refl (λ n. inl refl) b)
    (over_entries q (λ d. d.cplbndstrc) 18 (λ k. when (nat_le 1 k && nat_lt k (subbands couple)) false) refl (λ m. refl) b)

-- ---- as a coupling
same_coupling : (s t : Coupling) → s.range ≡ t.range → s.coupled ≡ t.coupled → s.phases ≡ t.phases → s.bands ≡ t.bands → s ≡ t
same_coupling s t a b c d = λ i. record { range = a i; coupled = b i; phases = c i; bands = d i }

one_of : Bool → ℕ
one_of b = cond b 1 0

pub none_counted : (n : ℕ) (xs : List (Option Bool)) → ((i : ℕ) → holds (entry xs i) ≡ false) → count_by holds (take n xs) ≡ 0
unfolding one_of
none_counted zero xs h = refl
none_counted (suc n) [] h = refl
none_counted (suc n) (x ∷ xs) h = sum_by-cons (λ y. cond (holds y) 1 0) x (take n xs) ∙ ap₂ (λ a b. a + b) (ap one_of (h 0)) (none_counted n xs (λ i. h (suc i)))

pub none_holds : (n j : ℕ) (f : ℕ → Option Bool) → ((k : ℕ) → holds (f k) ≡ false) → (i : ℕ) → holds (entry (listed n j f) i) ≡ false
unfolding listed
none_holds zero j f h i = refl
none_holds (suc n) j f h zero = h j
none_holds (suc n) j f h (suc i) = none_holds n (suc j) f h i

pub when_clear : (there : Bool) → holds (when there false) ≡ false
when_clear true = refl
when_clear false = refl

coupling_is : (full : ℕ) (stereo : Bool) (couple : Option (ℕ × ℕ)) (first : Bool) → coupling_of (held_strategy full stereo couple first) ≡ sent_coupling full couple
coupling_is full stereo None first = same_coupling _ _ refl refl refl (omega arith)
coupling_is full stereo (Some p) first =
    let s = held_strategy full stereo (Some p) first in
    let none = none_counted (subbands (Some p)) s.cplbndstrc (none_holds 18 0 (λ k. when (nat_le 1 k && nat_lt k (subbands (Some p))) false) (λ k. when_clear (nat_le 1 k && nat_lt k (subbands (Some p))))) in
    same_coupling _ _ refl
    (listed_same 5 (is_coupled s) (λ i. nat_lt i full) (λ i lt. ap holds (entry_at 5 (λ k. when (nat_lt k full) true) i None lt) ∙ (holds_when (nat_lt i full) true ∙ and_true (nat_lt i full))))
    (when_clear stereo)
    (omega (arith, none))

pub coupling_sent : (q : Quantised) (b : ℕ) → coupling_in (sent_before q b) (sent_block q b) ≡ sent_coupling (full_of q.shape.acmod) q.shape.couple
coupling_sent q b = ap coupling_of (strategy_held q b) ∙ coupling_is (full_of q.shape.acmod) (is_stereo q.shape.acmod) q.shape.couple (sent_block q b).cplstre

-- The codes of an assignment by its runs, and its runs by channel.
use Rattle.std.proofs.Common.{◌≡◌, ℕ, zero, suc, ◌+◌, ◌<◌, ◌≤◌, Bool, true, false, List, [], ◌∷◌, length, slice_index, refl, sym, ap, ◌∙◌, arith}
use Rattle.std.specs.Prelude.{◌==◌, ◌&&◌, if◌then◌else◌}
use Rattle.std.proofs.lemmas.Bool.{eq-eqb, ne_eqb}
use Rattle.ac_base.specs.declared.runs.Run.{Run}
use Rattle.ac_base.specs.Words.{zeros, runs_at, runs_of, IsWord, word_of}
use Rattle.ac_bound.proofs.Threes.{of_six}
use Rattle.ac_seek.specs.declared.step.Step.{Step}
use Rattle.ac_seek.specs.Games.{onto}
use Rattle.ac_seek.specs.Words.{code_at, word_at, words_of}

-- ---- runs earliest first
-- the code of a channel in a block by these runs, or else d
abbrev pub code_in : List Step → ℕ → ℕ → ℕ → ℕ
code_in [] c b d = d
code_in (s ∷ steps) c b d = code_in steps c b (if s.channel == c && s.run.from == b then s.run.kind else d)

pub code-onto : (path steps : List Step) (c b : ℕ) → code_at (onto path steps) c b ≡ code_in steps c b (code_at path c b)
code-onto path [] c b = refl
code-onto path (s ∷ steps) c b = code-onto (s ∷ path) steps c b

-- the runs of a channel
abbrev pub runs_in : ℕ → List Step → List Run
runs_in c [] = []
runs_in c (s ∷ steps) = if s.channel == c then s.run ∷ runs_in c steps else runs_in c steps

-- the code in a block by the runs of one channel
abbrev code_of : List Run → ℕ → ℕ → ℕ
code_of [] b d = d
code_of (run ∷ runs) b d = code_of runs b (if run.from == b then run.kind else d)

picked : (here there : Bool) (run : Run) (runs : List Run) (b d : ℕ) → (run.from == b) ≡ there → code_of runs b (if here && there then run.kind else d) ≡ code_of (if here then run ∷ runs else runs) b d
picked true there run runs b d e = ap (λ (t : Bool). code_of runs b (if t then run.kind else d)) (sym e)
picked false there run runs b d e = refl

one-channel : (steps : List Step) (c b d : ℕ) → code_in steps c b d ≡ code_of (runs_in c steps) b d
one-channel [] c b d = refl
one-channel (s ∷ steps) c b d =
    one-channel steps c b (if s.channel == c && s.run.from == b then s.run.kind else d) ∙ picked (s.channel == c) (s.run.from == b) s.run (runs_in c steps) b d refl

-- ---- the runs of codes give them back
run-here : (from k : ℕ) (codes : List ℕ) → 1 ≤ k → runs_at from (k ∷ codes) ≡ record { from = from; to = from + 1 + zeros codes; kind = k } ∷ runs_at (from + 1) codes
run-here from k codes l = let e : (k == 0) ≡ false = ne_eqb k 0 (omega arith) in rw e refl

-- a code that isn't 0 is that of its block, and no other's
code-first : (from k : ℕ) (codes : List ℕ) (b d : ℕ) (t : Bool) → 1 ≤ k → (from == b) ≡ t → code_of (runs_at from (k ∷ codes)) b d ≡ code_of (runs_at (from + 1) codes) b (if t then k else d)
code-first from k codes b d t l e =
    ap (λ (runs : List Run). code_of runs b d) (run-here from k codes l)
    ∙ ap (λ (x : Bool). code_of (runs_at (from + 1) codes) b (if x then k else d)) e

no-code : (from : ℕ) (codes : List ℕ) (b d : ℕ) → b < from → code_of (runs_at from codes) b d ≡ d
no-code from [] b d l = refl
no-code from (zero ∷ codes) b d l = no-code (from + 1) codes b d (omega arith)
no-code from (suc k ∷ codes) b d l =
    code-first from (suc k) codes b d false (omega arith) (ne_eqb from b (omega arith)) ∙ no-code (from + 1) codes b d (omega arith)

abbrev or-else : ℕ → ℕ → ℕ
or-else zero d = d
or-else (suc k) d = suc k

code-back : (from : ℕ) (codes : List ℕ) (i b d : ℕ) → b ≡ from + i → i < length codes → code_of (runs_at from codes) b d ≡ or-else (slice_index codes i) d
code-back from [] i b d e l = absurd (omega arith)
code-back from (zero ∷ codes) zero b d e l = no-code (from + 1) codes b d (omega arith)
code-back from (suc k ∷ codes) zero b d e l =
    code-first from (suc k) codes b d true (omega arith) (eq-eqb from b (omega arith)) ∙ no-code (from + 1) codes b (suc k) (omega arith)
code-back from (zero ∷ codes) (suc i) b d e l = code-back (from + 1) codes i b d (omega arith) (omega arith)
code-back from (suc k ∷ codes) (suc i) b d e l =
    code-first from (suc k) codes b d false (omega arith) (ne_eqb from b (omega arith)) ∙ code-back (from + 1) codes i b d (omega arith) (omega arith)

-- ---- the word of a channel
some-else : (k d : ℕ) → 1 ≤ k → or-else k d ≡ k
some-else zero d l = absurd (omega arith)
some-else (suc k) d l = refl

none-else : (k : ℕ) → or-else k 0 ≡ k
none-else zero = refl
none-else (suc k) = refl

-- a channel with no runs
pub none-code : (steps : List Step) (c b : ℕ) → runs_in c steps ≡ [] → code_at (onto [] steps) c b ≡ (if b == 0 then 1 else 0)
none-code steps c b none =
    code-onto [] steps c b ∙ (one-channel steps c b (if b == 0 then 1 else 0) ∙ ap (λ (runs : List Run). code_of runs b (if b == 0 then 1 else 0)) none)

-- two lists of one length with the same numbers
same-list : (xs ys : List ℕ) → length xs ≡ length ys → ((i : ℕ) → i < length xs → slice_index xs i ≡ slice_index ys i) → xs ≡ ys
same-list [] [] e h = refl
same-list [] (y ∷ ys) e h = absurd (omega arith)
same-list (x ∷ xs) [] e h = absurd (omega arith)
same-list (x ∷ xs) (y ∷ ys) e h =
    let first : x ≡ y = h 0 (omega arith) in
    let rest : xs ≡ ys = same-list xs ys (omega arith) (λ i l. h (suc i) (omega arith)) in
    λ i. first i ∷ rest i

module _ (steps : List Step) (c : ℕ) (word : List ℕ) (is : IsWord word) (same : runs_in c steps ≡ runs_of word) where
  code-is : (b : ℕ) → b < 6 → code_at (onto [] steps) c b ≡ or-else (slice_index word b) (if b == 0 then 1 else 0)
  code-is b l =
      code-onto [] steps c b ∙ (one-channel steps c b (if b == 0 then 1 else 0) ∙ (ap (λ (runs : List Run). code_of runs b (if b == 0 then 1 else 0)) same ∙ code-back 0 word b b (if b == 0 then 1 else 0) (omega arith) (omega (arith, is.long))))

  pub code-word : (b : ℕ) → b < 6 → code_at (onto [] steps) c b ≡ slice_index word b
  code-word zero l = code-is 0 l ∙ some-else (slice_index word 0) 1 is.sends
  code-word (suc b) l =
      let e : (suc b == 0) ≡ false = ne_eqb (suc b) 0 (omega arith) in
      code-is (suc b) l ∙ (ap (λ (t : Bool). or-else (slice_index word (suc b)) (if t then 1 else 0)) e ∙ none-else (slice_index word (suc b)))

  pub word-is : word_at (onto [] steps) c ≡ word
  word-is = same-list (word_at (onto [] steps) c) word (sym is.long) (λ b l. of_six (λ i. slice_index (word_at (onto [] steps) c) i ≡ slice_index word i) (code-word 0 (omega arith)) (code-word 1 (omega arith)) (code-word 2 (omega arith)) (code-word 3 (omega arith)) (code-word 4 (omega arith)) (code-word 5 (omega arith)) b l)

pub word-of : (path : List Step) (c : ℕ) → c < 7 → word_of (words_of path) c ≡ word_at path c
word-of path zero l = refl
word-of path (suc zero) l = refl
word-of path (suc (suc zero)) l = refl
word-of path (suc (suc (suc zero))) l = refl
word-of path (suc (suc (suc (suc zero)))) l = refl
word-of path (suc (suc (suc (suc (suc zero))))) l = refl
word-of path (suc (suc (suc (suc (suc (suc zero)))))) l = refl
word-of path (suc (suc (suc (suc (suc (suc (suc c))))))) l = absurd (omega arith)

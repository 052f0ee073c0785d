-- Codes written run by run, and the words made of them.
use Rattle.std.proofs.Common.{◌≡◌, ℕ, zero, suc, ◌+◌, ◌*◌, ◌<◌, ◌≤◌, Bool, true, false, List, [], ◌∷◌, ◌++◌, length, reverse, drop, set, get_or, get_or-set_same, get_or-set_other, slice_index, eqb, refl, sym, ap, ◌∙◌, inl, inr, subst, arith}
use Rattle.std.specs.Prelude.{◌==◌, ◌&&◌, if◌then◌else◌}
use Rattle.std.specs.List.{AllByRecursion}
use Rattle.std.proofs.Math.Seq.{drop-cons}
use Rattle.std.proofs.lemmas.Bool.{cases_eq, cases_lt, eq-eqb, ne_eqb, eqb-true}
use Rattle.std.proofs.lemmas.List.{reverse-reverse, reverse-append}
use Rattle.ac_base.specs.Words.{IsWord}
use Rattle.ac_base.proofs.Tests.{all_below, all_below-at}
use Rattle.ac_expo.specs.Raw.{channels}
use Rattle.ac_cost.specs.Records.{AtOffset}
use Rattle.ac_bound.proofs.Threes.{of_six}
use Rattle.ac_seek.specs.declared.step.Step.{Step}
use Rattle.ac_seek.specs.Games.{IsPath, IsWay, channel_of, channel_after, boundary_after, onto}
use Rattle.ac_seek.specs.Walks.{IsInPlace, row_of}
use Rattle.ac_seek.specs.Words.{game_of, code_at, word_at, words_of}
use Rattle.ac_seek.proofs.Codes.{code_in, code-onto, runs_in, none-code, word-of}
use Rattle.ac_seek.proofs.Wholes.{whole-from, has-word}

-- ---- a path and its runs, earliest first
onto-last : (acc xs : List Step) (s : Step) → onto acc (xs ++ (s ∷ [])) ≡ s ∷ onto acc xs
onto-last acc [] s = refl
onto-last acc (x ∷ xs) s = onto-last (x ∷ acc) xs s

onto-reverse : (path : List Step) → onto [] (reverse path) ≡ path
onto-reverse [] = refl
onto-reverse (s ∷ path) =
    ap (onto []) (reverse-append (s ∷ []) path) ∙ (onto-last [] (reverse path) s ∙ ap (λ (xs : List Step). s ∷ xs) (onto-reverse path))

All-below : (P : Step → Type 0) (acc xs : List Step) → AllByRecursion P (onto acc xs) → AllByRecursion P acc
All-below P acc [] all = all
All-below P acc (x ∷ xs) all = (All-below P (x ∷ acc) xs all).1

All-onto : (P : Step → Type 0) (acc xs : List Step) → AllByRecursion P (onto acc xs) → AllByRecursion P xs
All-onto P acc [] all = tt
All-onto P acc (x ∷ xs) all = ((All-below P (x ∷ acc) xs all).0, All-onto P (x ∷ acc) xs all)

pub All-reverse : (P : Step → Type 0) (path : List Step) → AllByRecursion P path → AllByRecursion P (reverse path)
All-reverse P path all = All-onto P [] (reverse path) (subst (AllByRecursion P) (sym (onto-reverse path)) all)

pub items-are : (items path : List Step) → reverse items ≡ path → items ≡ reverse path
items-are items path e = sym (reverse-reverse items) ∙ ap reverse e

-- ---- the codes before any run
abbrev start : List ℕ
start = 1 ∷ 0 ∷ 0 ∷ 0 ∷ 0 ∷ 0 ∷ 1 ∷ 0 ∷ 0 ∷ 0 ∷ 0 ∷ 0 ∷ 1 ∷ 0 ∷ 0 ∷ 0 ∷ 0 ∷ 0 ∷ 1 ∷ 0 ∷ 0 ∷ 0 ∷ 0 ∷ 0 ∷ 1 ∷ 0 ∷ 0 ∷ 0 ∷ 0 ∷ 0 ∷ 1 ∷ 0 ∷ 0 ∷ 0 ∷ 0 ∷ 0 ∷ 1 ∷ 0 ∷ 0 ∷ 0 ∷ 0 ∷ 0 ∷ []

start-is : (c b : ℕ) → c < 7 → b < 6 → slice_index start (6 * c + b) ≡ (if b == 0 then 1 else 0)
start-is c b l m =
    let test : ℕ → ℕ → Bool = λ i j. eqb (slice_index start (6 * i + j)) (if j == 0 then 1 else 0) in
    eqb-true (slice_index start (6 * c + b)) (if b == 0 then 1 else 0) (all_below-at 6 (test c) (all_below-at 7 (λ i. all_below 6 (test i)) refl c l) b m)

pub codes-start : (path : List Step) (c b : ℕ) → c < 7 → b < 6 → code_in (reverse path) c b (slice_index start (6 * c + b)) ≡ code_at path c b
codes-start path c b l m =
    ap (λ d. code_in (reverse path) c b d) (start-is c b l m)
    ∙ (sym (code-onto [] (reverse path) c b) ∙ ap (λ (p : List Step). code_at p c b) (onto-reverse path))

-- ---- one run more
written : (codes : List ℕ) (s : Step) (c b : ℕ) → s.channel < 7 → s.run.from < 6 → b < 6 → length codes ≡ 42 → slice_index (set codes (6 * s.channel + s.run.from) s.run.kind) (6 * c + b) ≡ (if s.channel == c && s.run.from == b then s.run.kind else slice_index codes (6 * c + b))
written codes s c b l m low long = elim (cases_eq s.channel c) [
  | inl here ↦
      let t : (s.channel == c) ≡ true = eq-eqb s.channel c here in
      elim (cases_eq s.run.from b) [
        | inl there ↦
            let u : (s.run.from == b) ≡ true = eq-eqb s.run.from b there in
            let place : 6 * c + b ≡ 6 * s.channel + s.run.from = omega arith in
            rw (t, u) (ap (slice_index (set codes (6 * s.channel + s.run.from) s.run.kind)) place ∙ get_or-set_same codes (6 * s.channel + s.run.from) s.run.kind 0 (omega arith))
        | inr other ↦
            let u : (s.run.from == b) ≡ false = ne_eqb s.run.from b other in
            rw (t, u) (get_or-set_other codes (6 * s.channel + s.run.from) (6 * c + b) s.run.kind 0 (λ e. other (omega arith)))
      ]
  | inr other ↦
      let t : (s.channel == c) ≡ false = ne_eqb s.channel c other in
      rw t (get_or-set_other codes (6 * s.channel + s.run.from) (6 * c + b) s.run.kind 0 (λ e. other (omega arith)))
]

pub drop-next : (xs : List Step) (i : ℕ) (d : Step) → i < length xs → drop i xs ≡ get_or xs i d ∷ drop (i + 1) xs
drop-next xs i d l =
    let e : suc i ≡ i + 1 = omega arith in
    subst (λ k. drop i xs ≡ get_or xs i d ∷ drop k xs) e (drop-cons xs i d l)

none-long : (xs : List Step) → length xs ≡ 0 → xs ≡ []
none-long [] e = refl
none-long (x ∷ xs) e = absurd (omega arith)

pub drop-past : (xs : List Step) (i : ℕ) → length xs ≤ i → drop i xs ≡ []
drop-past xs zero l = none-long xs (omega arith)
drop-past [] (suc i) l = refl
drop-past (x ∷ xs) (suc i) l = drop-past xs i (omega arith)

module _ (xs : List Step) (codes : List ℕ) (i : ℕ) (d : Step) (l : i < length xs) (long : length codes ≡ 42) (each : AllByRecursion IsInPlace (drop i xs)) where
  all-here : AllByRecursion IsInPlace (get_or xs i d ∷ drop (i + 1) xs)
  all-here = subst (AllByRecursion IsInPlace) (drop-next xs i d l) each

  pub in-place : IsInPlace (get_or xs i d)
  in-place = all-here.0

  pub all-later : AllByRecursion IsInPlace (drop (i + 1) xs)
  all-later = all-here.1

  pub codes-more : (k c b : ℕ) → k ≡ 6 * (get_or xs i d).channel + (get_or xs i d).run.from → b < 6 → code_in (drop (i + 1) xs) c b (slice_index (set codes k (get_or xs i d).run.kind) (6 * c + b)) ≡ code_in (drop i xs) c b (slice_index codes (6 * c + b))
  codes-more k c b e low =
      let s = get_or xs i d in
      ap (λ j. code_in (drop (i + 1) xs) c b (slice_index (set codes j s.run.kind) (6 * c + b))) e
      ∙ (ap (λ x. code_in (drop (i + 1) xs) c b x) (written codes s c b in-place.0 in-place.1 low long)
      ∙ ap (λ (ys : List Step). code_in ys c b (slice_index codes (6 * c + b))) (sym (drop-next xs i d l)))

-- ---- the words of a whole assignment
beyond : (v : AtOffset) (c channel at : ℕ) (steps : List Step) → channels v.shape ≤ c → IsWay (game_of v) channel at steps → runs_in c steps ≡ []
beyond v c channel at [] l w = refl
beyond v c channel at (s ∷ steps) l w =
    let e : (s.channel == c) ≡ false = ne_eqb s.channel c (λ h. omega (arith, h, w.0.inside, w.0.same)) in
    rw e (beyond v c (channel_after s) (boundary_after s) steps l w.1)

-- D15 in block 0 and reuse after it
abbrev plain : List ℕ
plain = 1 ∷ 0 ∷ 0 ∷ 0 ∷ 0 ∷ 0 ∷ []

plain-is : IsWord plain
plain-is = record {
  long = refl;
  sends = omega arith;
  small = λ block l. of_six (λ i. slice_index plain i ≤ 3) (omega arith) (omega arith) (omega arith) (omega arith) (omega arith) (omega arith) block l;
}

none-word : (steps : List Step) (c : ℕ) → runs_in c steps ≡ [] → word_at (onto [] steps) c ≡ plain
none-word steps c none =
    let code = λ (b : ℕ). none-code steps c b none in
    let a0 = code 0 in
    let a1 = code 1 in
    let a2 = code 2 in
    let a3 = code 3 in
    let a4 = code 4 in
    let a5 = code 5 in
    λ i. a0 i ∷ a1 i ∷ a2 i ∷ a3 i ∷ a4 i ∷ a5 i ∷ []

pub words-each : (v : AtOffset) (path : List Step) → IsPath (game_of v) path → channels v.shape ≤ channel_of path → (c : ℕ) → c < 7 → IsWord (word_at path c)
words-each v path is past c l =
    let from = whole-from (game_of v) path is past in
    subst (λ (p : List Step). IsWord (word_at p c)) from.same (elim (cases_lt c (channels v.shape)) [
      | inl coded ↦
          let h = has-word v from.steps c coded from.way in
          subst IsWord (sym (sym (word-of (onto [] from.steps) c l) ∙ h.same)) h.is.is_word
      | inr past_all ↦
          let none = beyond v c 0 0 from.steps past_all from.way in
          subst IsWord (sym (none-word from.steps c none)) plain-is
    ])

-- ---- rows of codes
pub rows-are : (codes : List ℕ) (path : List Step) (c : ℕ) → ((b : ℕ) → b < 6 → slice_index codes (6 * c + b) ≡ code_at path c b) → row_of codes c ≡ word_at path c
rows-are codes path c h =
    let e : 6 * c ≡ 6 * c + 0 = omega arith in
    let a0 : slice_index codes (6 * c) ≡ code_at path c 0 = ap (slice_index codes) e ∙ h 0 (omega arith) in
    let a1 = h 1 (omega arith) in
    let a2 = h 2 (omega arith) in
    let a3 = h 3 (omega arith) in
    let a4 = h 4 (omega arith) in
    let a5 = h 5 (omega arith) in
    λ i. a0 i ∷ a1 i ∷ a2 i ∷ a3 i ∷ a4 i ∷ a5 i ∷ []

pub all-rows : (codes : List ℕ) (path : List Step) → ((c b : ℕ) → c < 7 → b < 6 → slice_index codes (6 * c + b) ≡ code_at path c b) → (row_of codes 0 ∷ row_of codes 1 ∷ row_of codes 2 ∷ row_of codes 3 ∷ row_of codes 4 ∷ row_of codes 5 ∷ row_of codes 6 ∷ []) ≡ words_of path
all-rows codes path h =
    let row = λ (c : ℕ) (l : c < 7). rows-are codes path c (λ b m. h c b l m) in
    let a0 = row 0 (omega arith) in
    let a1 = row 1 (omega arith) in
    let a2 = row 2 (omega arith) in
    let a3 = row 3 (omega arith) in
    let a4 = row 4 (omega arith) in
    let a5 = row 5 (omega arith) in
    let a6 = row 6 (omega arith) in
    λ i. a0 i ∷ a1 i ∷ a2 i ∷ a3 i ∷ a4 i ∷ a5 i ∷ a6 i ∷ []

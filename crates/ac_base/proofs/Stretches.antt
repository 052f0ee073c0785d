-- The runs of a word are its stretches.
use Rattle.std.proofs.Common.{◌≡◌, ℕ, zero, suc, ◌+◌, ◌-◌, ◌<◌, ◌≤◌, List, [], ◌∷◌, length, false, eqb, slice_index, refl, sym, ap, ◌∙◌, subst, inl, inr, arith}
use Rattle.std.proofs.lemmas.Bool.{cases_eq, cases_lt, ne_eqb}
use Rattle.std.specs.List.{AllByRecursion, Contains}
use Rattle.std.proofs.lemmas.List.Elements.{All-from_recursion, All-contains}
use Rattle.ac_base.specs.declared.runs.Run.{Run}
use Rattle.ac_base.specs.Words.{IsWord, zeros, runs_at, runs_of, IsStretch, Tile, RunsTile, RunsAreStretches, EachStretchIsARun}

-- ---- a code that isn't 0
some_code : (k : ℕ) → eqb (suc k) 0 ≡ false
some_code k = ne_eqb (suc k) 0 (omega arith)

pub zeros-suc : (k : ℕ) (ks : List ℕ) → zeros (suc k ∷ ks) ≡ 0
zeros-suc k ks = rw (some_code k) refl

abbrev the_run : ℕ → ℕ → List ℕ → Run
the_run b k ks = record { from = b; to = b + 1 + zeros ks; kind = k }

pub runs-suc : (b k : ℕ) (ks : List ℕ) → runs_at b (suc k ∷ ks) ≡ record { from = b; to = b + 1 + zeros ks; kind = suc k } ∷ runs_at (b + 1) ks
runs-suc b k ks = rw (some_code k) refl

-- ---- the zeros at the front
pub zeros-le : (ks : List ℕ) → zeros ks ≤ length ks
zeros-le [] = omega arith
zeros-le (zero ∷ ks) = omega (arith, zeros-le ks)
zeros-le (suc k ∷ ks) = omega (arith, zeros-suc k ks)

pub zeros-zero : (ks : List ℕ) (j : ℕ) → j < zeros ks → slice_index ks j ≡ 0
zeros-zero [] j l = absurd (omega arith)
zeros-zero (zero ∷ ks) zero l = refl
zeros-zero (zero ∷ ks) (suc j) l = zeros-zero ks j (omega arith)
zeros-zero (suc k ∷ ks) j l = absurd (omega (arith, zeros-suc k ks))

pub zeros-some : (ks : List ℕ) → zeros ks < length ks → 1 ≤ slice_index ks (zeros ks)
zeros-some [] l = absurd (omega arith)
zeros-some (zero ∷ ks) l =
    let e : zeros ks + 1 ≡ suc (zeros ks) = omega arith in
    let P : ℕ → Type 0 = λ n. 1 ≤ slice_index (zero ∷ ks) n in
    subst P (sym e) (zeros-some ks (omega arith))
zeros-some (suc k ∷ ks) l =
    let P : ℕ → Type 0 = λ n. 1 ≤ slice_index (suc k ∷ ks) n in subst P (sym (zeros-suc k ks)) (omega arith)

-- ---- the codes of the blocks from b on are the end of a word
record IsEnd (word : List ℕ) (b : ℕ) (ks : List ℕ) : Type 0 where
  pub long : b + length ks ≡ 6
  pub same : (j : ℕ) → slice_index word (b + j) ≡ slice_index ks j

rest_end : (word : List ℕ) (b k : ℕ) (ks : List ℕ) → IsEnd word b (k ∷ ks) → IsEnd word (b + 1) ks
rest_end word b k ks is = record {
  long = omega (arith, is.long);
  same = λ j. let e : b + 1 + j ≡ b + suc j = omega arith in ap (slice_index word) e ∙ is.same (suc j);
}

at_block : (word : List ℕ) (b : ℕ) (ks : List ℕ) (block : ℕ) → IsEnd word b ks → b ≤ block → slice_index word block ≡ slice_index ks (block - b)
at_block word b ks block is l =
    let e : block ≡ b + (block - b) = omega arith in ap (slice_index word) e ∙ is.same (block - b)

first_stretch : (word : List ℕ) (b k : ℕ) (ks : List ℕ) → IsEnd word b (suc k ∷ ks) → IsStretch word (the_run b (suc k) ks)
first_stretch word b k ks is =
    let z = zeros-le ks in
    let r = rest_end word b (suc k) ks is in
    let here : slice_index word b ≡ suc k = let e : b ≡ b + 0 = omega arith in ap (slice_index word) e ∙ is.same 0 in
    record {
      order = omega arith;
      blocks = omega (arith, is.long, z);
      sends = omega (arith, here);
      kind = sym here;
      reuses = λ block l h. at_block word (b + 1) ks block r (omega arith) ∙ zeros-zero ks (block - (b + 1)) (omega arith);
      longest = λ h.
          let e : b + 1 + zeros ks - (b + 1) ≡ zeros ks = omega arith in
          let s = at_block word (b + 1) ks (b + 1 + zeros ks) r (omega arith) ∙ ap (slice_index ks) e in
          let some = zeros-some ks (omega (arith, is.long)) in
          omega (arith, s, some);
    }

stretches : (word : List ℕ) (b : ℕ) (ks : List ℕ) → IsEnd word b ks → AllByRecursion (IsStretch word) (runs_at b ks)
stretches word b [] is = tt
stretches word b (zero ∷ ks) is = stretches word (b + 1) ks (rest_end word b zero ks is)
stretches word b (suc k ∷ ks) is =
    subst (AllByRecursion (IsStretch word)) (sym (runs-suc b k ks)) (first_stretch word b k ks is, stretches word (b + 1) ks (rest_end word b (suc k) ks is))

tiles : (word : List ℕ) (b : ℕ) (ks : List ℕ) → IsEnd word b ks → Tile (b + zeros ks) 6 (runs_at b ks)
tiles word b [] is = is.long
tiles word b (zero ∷ ks) is =
    let e : b + 1 + zeros ks ≡ b + (zeros ks + 1) = omega arith in
    let P : ℕ → Type 0 = λ n. Tile n 6 (runs_at (b + 1) ks) in
    subst P e (tiles word (b + 1) ks (rest_end word b zero ks is))
tiles word b (suc k ∷ ks) is =
    let P : List Run → Type 0 = Tile (b + zeros (suc k ∷ ks)) 6 in
    let z = zeros-suc k ks in
    subst P (sym (runs-suc b k ks)) (omega (arith, z), omega (arith, z), tiles word (b + 1) ks (rest_end word b (suc k) ks is))

-- ---- a run begins at each code that isn't 0
later : (r s : Run) (rs : List Run) → Contains rs s → Contains (r ∷ rs) s
later r s rs h = (suc h.0, omega (arith, h.1), h.2)

abbrev BeginsAt : ℕ → List Run → Type 0
BeginsAt block rs = (s : Run) × Contains rs s × (s.from ≡ block)

begins : (word : List ℕ) (b : ℕ) (ks : List ℕ) (block : ℕ) → IsEnd word b ks → b ≤ block → block < 6 → 1 ≤ slice_index word block → BeginsAt block (runs_at b ks)
begins word b [] block is l h some = absurd (omega (arith, is.long))
begins word b (zero ∷ ks) block is l h some =
    let here = at_block word b (zero ∷ ks) block is l in
    elim (cases_eq block b) [
      | inl e ↦ absurd (let n : block - b ≡ 0 = omega arith in let o = here ∙ ap (slice_index (zero ∷ ks)) n in omega (arith, o))
      | inr ne ↦ begins word (b + 1) ks block (rest_end word b zero ks is) (omega arith) h some
    ]
begins word b (suc k ∷ ks) block is l h some =
    let r = the_run b (suc k) ks in
    let P : List Run → Type 0 = BeginsAt block in
    subst P (sym (runs-suc b k ks)) (elim (cases_eq block b) [
      | inl e ↦ (r, (0, omega arith, refl), sym e)
      | inr ne ↦
          let m = begins word (b + 1) ks block (rest_end word b (suc k) ks is) (omega arith) h some in
          (m.0, later r m.0 (runs_at (b + 1) ks) m.1, m.2)
    ])

-- two stretches that begin in one block are one
to_same : (word : List ℕ) (r s : Run) → IsStretch word r → IsStretch word s → r.from ≡ s.from → r.to ≤ s.to
to_same word r s is_r is_s e =
    elim (cases_lt s.to r.to) [
      | inl less ↦
          let zero_there = is_r.reuses s.to (omega (arith, is_s.order)) less in
          let some = is_s.longest (omega (arith, is_r.blocks)) in
          absurd (omega arith)
      | inr within ↦ within
    ]

same_run : (r s : Run) → r.from ≡ s.from → r.to ≡ s.to → r.kind ≡ s.kind → r ≡ s
same_run r s a b c = λ i. record { from = a i; to = b i; kind = c i }

stretch_one : (word : List ℕ) (r s : Run) → IsStretch word r → IsStretch word s → r.from ≡ s.from → r ≡ s
stretch_one word r s is_r is_s e =
    let a = to_same word r s is_r is_s e in
    let b = to_same word s r is_s is_r (sym e) in
    same_run r s e (omega arith) (is_r.kind ∙ (ap (slice_index word) e ∙ sym is_s.kind))

-- ---- of a whole word
first_code : (word : List ℕ) → 1 ≤ slice_index word 0 → zeros word ≡ 0
first_code [] some = refl
first_code (zero ∷ ks) some = absurd (omega arith)
first_code (suc k ∷ ks) some = zeros-suc k ks

whole_end : (word : List ℕ) → IsWord word → IsEnd word 0 word
whole_end word is = record {
  long = omega (arith, is.long);
  same = λ j. let e : 0 + j ≡ j = omega arith in ap (slice_index word) e;
}

pub tile : RunsTile
tile word is =
    let first : zeros word ≡ 0 = first_code word is.sends in
    let e : 0 + zeros word ≡ 0 = omega arith in
    let P : ℕ → Type 0 = λ n. Tile n 6 (runs_of word) in
    subst P e (tiles word 0 word (whole_end word is))

pub are_stretches : RunsAreStretches
are_stretches word is = All-from_recursion (IsStretch word) (runs_of word) (stretches word 0 word (whole_end word is))

pub each_stretch : EachStretchIsARun
each_stretch word run is stretch =
    let there = begins word 0 word run.from (whole_end word is) (omega arith) (omega (arith, stretch.order, stretch.blocks)) stretch.sends in
    let s = there.0 in
    let is_s = All-contains (IsStretch word) (runs_of word) s (are_stretches word is) there.1 in
    let same = stretch_one word s run is_s stretch there.2 in
    subst (Contains (runs_of word)) same there.1

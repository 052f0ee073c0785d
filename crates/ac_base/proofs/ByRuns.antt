-- The exponents of blocks are those of runs.
use Rattle.std.proofs.Common.{◌≡◌, ℕ, zero, suc, ◌+◌, ◌-◌, ◌<◌, ◌≤◌, Bool, true, false, List, [], ◌∷◌, slice_index, Option, refl, sym, ap, ◌∙◌, inl, inr, arith, cond}
use Rattle.std.specs.Prelude.{nat_lt}
use Rattle.std.proofs.lemmas.Bool.{cases_eq, lt-ltb, le-ltb}
use Rattle.ac_base.specs.declared.spans.Span.{Span}
use Rattle.ac_base.specs.Sigma.{sum_below}
use Rattle.ac_base.specs.Shape.{coded_of, span_of}
use Rattle.ac_base.specs.Words.{runs_at, runs_of, word_of}
use Rattle.ac_base.specs.Fit.{exponent_bits, exponents_in, mantissas_in, run_bits, all_run_bits, mantissa_bits, block_cost, PartsAreByRuns}
use Rattle.ac_base.proofs.Stretches.{runs-suc}

-- ---- sums
pub sum_more : (n : ℕ) (f : ℕ → ℕ) → sum_below (suc n) f ≡ sum_below n f + f n
unfolding sum_below
sum_more n f = refl

pub sum_none : (f : ℕ → ℕ) → sum_below 0 f ≡ 0
unfolding sum_below
sum_none f = refl

pub sum_both : (n : ℕ) (f g : ℕ → ℕ) → sum_below n (λ k. f k + g k) ≡ sum_below n f + sum_below n g
unfolding sum_below
sum_both zero f g = refl
sum_both (suc n) f g = omega (arith, sum_both n f g)

pub sum_same : (n : ℕ) (f g : ℕ → ℕ) → ((k : ℕ) → f k ≡ g k) → sum_below n f ≡ sum_below n g
unfolding sum_below
sum_same zero f g e = refl
sum_same (suc n) f g e = omega (arith, sum_same n f g e, e n)

-- of zeros
pub sum_zero : (n : ℕ) → sum_below n (λ k. 0) ≡ 0
unfolding sum_below
sum_zero zero = refl
sum_zero (suc n) = omega (arith, sum_zero n)

-- in either order
pub sum_swap : (n m : ℕ) (f : ℕ → ℕ → ℕ) → sum_below n (λ a. sum_below m (λ b. f a b)) ≡ sum_below m (λ b. sum_below n (λ a. f a b))
sum_swap zero m f = sum_none (λ a. sum_below m (λ b. f a b)) ∙ sym (sum_same m (λ b. sum_below 0 (λ a. f a b)) (λ b. 0) (λ b. sum_none (λ a. f a b)) ∙ sum_zero m)
sum_swap (suc n) m f =
    sum_more n (λ a. sum_below m (λ b. f a b))
    ∙ (ap (λ x. x + sum_below m (λ b. f n b)) (sum_swap n m f)
    ∙ (sym (sum_both m (λ b. sum_below n (λ a. f a b)) (λ b. f n b))
    ∙ sum_same m (λ b. sum_below n (λ a. f a b) + f n b) (λ b. sum_below (suc n) (λ a. f a b)) (λ b. sym (sum_more n (λ a. f a b)))))

-- ---- the codes of blocks from b on
module _ (span : Span) where
  -- what the code of block b adds to the first n blocks
  abbrev here : ℕ → ℕ → ℕ → ℕ
  here n b k = cond (nat_lt b n) (exponent_bits k span) 0

  abbrev below : ℕ → ℕ → List ℕ → ℕ
  below n b [] = 0
  below n b (k ∷ ks) = here n b k + below n (b + 1) ks

  reused : (t : Bool) → cond t (exponent_bits 0 span) 0 ≡ 0
  reused true = refl
  reused false = refl

  by_runs : (n b : ℕ) (ks : List ℕ) → run_bits span n (runs_at b ks) ≡ below n b ks
  by_runs n b [] = refl
  by_runs n b (zero ∷ ks) = by_runs n (b + 1) ks ∙ (let none = reused (nat_lt b n) in omega (arith, none))
  by_runs n b (suc k ∷ ks) =
      ap (run_bits span n) (runs-suc b k ks) ∙ ap (λ x. here n b (suc k) + x) (by_runs n (b + 1) ks)

  outside : (n b k : ℕ) → n ≤ b → here n b k ≡ 0
  outside n b k l = let f : nat_lt b n ≡ false = le-ltb _ _ l in rw f refl

  inside : (n b k : ℕ) → b < n → here n b k ≡ exponent_bits k span
  inside n b k l = let t : nat_lt b n ≡ true = lt-ltb _ _ l in rw t refl

  late : (n b : ℕ) (ks : List ℕ) → n ≤ b → below n b ks ≡ 0
  late n b [] l = refl
  late n b (k ∷ ks) l = omega (arith, outside n b k l, late n (b + 1) ks (omega arith))

  abbrev code_bits : List ℕ → ℕ → ℕ
  code_bits codes b = exponent_bits (slice_index codes b) span

  at_last : (n b : ℕ) (ks : List ℕ) → b ≤ n → below (suc n) b ks ≡ below n b ks + code_bits ks (n - b)
  at_last n b [] l = refl
  at_last n b (k ∷ ks) l =
      elim (cases_eq b n) [
        | inl e ↦
            let z : n - b ≡ 0 = omega arith in
            let c : code_bits (k ∷ ks) (n - b) ≡ exponent_bits k span = ap (code_bits (k ∷ ks)) z in
            omega (arith, c, inside (suc n) b k (omega arith), outside n b k (omega arith), late (suc n) (b + 1) ks (omega arith), late n (b + 1) ks (omega arith))
        | inr ne ↦
            let d : n - b ≡ suc (n - (b + 1)) = omega arith in
            let c : code_bits (k ∷ ks) (n - b) ≡ code_bits ks (n - (b + 1)) = ap (code_bits (k ∷ ks)) d in
            omega (arith, c, inside (suc n) b k (omega arith), inside n b k (omega arith), at_last n (b + 1) ks (omega arith))
      ]

  by_blocks : (n : ℕ) (codes : List ℕ) → below n 0 codes ≡ sum_below n (code_bits codes)
  by_blocks zero codes = late 0 0 codes (omega arith) ∙ sym (sum_none (code_bits codes))
  by_blocks (suc n) codes =
      let d : n - 0 ≡ n = omega arith in
      at_last n 0 codes (omega arith)
      ∙ (ap (λ x. below n 0 codes + code_bits codes x) d
      ∙ (ap (λ x. x + code_bits codes n) (by_blocks n codes) ∙ sym (sum_more n (code_bits codes))))

  pub runs_are_blocks : (n : ℕ) (codes : List ℕ) → run_bits span n (runs_of codes) ≡ sum_below n (code_bits codes)
  runs_are_blocks n codes = by_runs n 0 codes ∙ by_blocks n codes

-- ---- of all channels
costs : (acmod : ℕ) (lfe : Bool) (bw : ℕ) (couple : Option (ℕ × ℕ)) (assign : List (List ℕ)) (bap : ℕ → ℕ → ℕ → ℕ) (n : ℕ) → sum_below n (block_cost acmod lfe bw couple assign bap) ≡ all_run_bits acmod lfe bw couple assign n + mantissa_bits acmod lfe bw couple bap n
costs acmod lfe bw couple assign bap n =
    let span = span_of acmod bw couple in
    let coded = coded_of acmod lfe couple in
    let bits : ℕ → ℕ → ℕ = λ b c. exponent_bits (slice_index (word_of assign c) b) (span c) in
    let by_channel : sum_below coded (λ c. sum_below n (λ b. bits b c)) ≡ all_run_bits acmod lfe bw couple assign n =
    sum_same coded (λ c. sum_below n (λ b. bits b c)) (λ c. run_bits (span c) n (runs_of (word_of assign c))) (λ c. sym (runs_are_blocks (span c) n (word_of assign c))) in
    sum_both n (exponents_in span coded assign) (mantissas_in span coded bap)
    ∙ ap (λ x. x + sum_below n (mantissas_in span coded bap)) (sum_swap n coded bits ∙ by_channel)

pub parts_by_runs : PartsAreByRuns
parts_by_runs acmod lfe bw couple assign bap =
    (omega (arith, costs acmod lfe bw couple assign bap 2), omega (arith, costs acmod lfe bw couple assign bap 6))

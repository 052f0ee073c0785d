-- The pointers of a frame, from its exponents.
use Rattle.std.proofs.Common.{◌≡◌, ℕ, zero, suc, ◌+◌, ◌-◌, ◌<◌, ◌≤◌, List, [], ◌∷◌, length, slice_index, slice_index_or, refl, ap, sym, subst, ◌∙◌, inl, inr, arith}
use Rattle.std.specs.Prelude.{◌==◌, Bool}
use Rattle.std.proofs.lemmas.Bool.{cases_lt}
use Rattle.ac_base.specs.declared.spans.Span.{Span}
use Rattle.ac_base.specs.Spans.{IsIn}
use Rattle.ac_base.specs.Words.{word_of}
use Rattle.ac_alloc.specs.declared.params.Params.{Params}
use Rattle.ac_alloc.specs.Codes.{encoder_params}
use Rattle.ac_alloc.specs.Integration.{AreExponents}
use Rattle.ac_alloc.specs.Pointers as allocation
use Rattle.ac_alloc.proofs.Reading.{pointers_by_span}
use Rattle.ac_expo.specs.Raw.{channel_span, channels}
use Rattle.ac_sent.specs.Values.{Quantised}
use Rattle.ac_sent.specs.Asked.{IsQuantised}
use Rattle.ac_sent.specs.Fields.{code_at, exponents_at}
use Rattle.ac_sent.proofs.Spans.{is_span}
use Rattle.ac_sent.proofs.Reuse.{sends_first}
use Rattle.ac_packing.specs.Listing.{ArePointersIn}

-- exponents of blocks that send and that reuse are at most 24
exponent_small : (q : Quantised) → IsQuantised q → (c b k : ℕ) → c < channels q.shape → b < 6 → IsIn (channel_span q.shape c) k → slice_index (exponents_at q c b) k ≤ 24
exponent_small q is c zero k lt in_frame inside = (is.spellable c 0 lt in_frame (sends_first q is c lt)).small k inside
exponent_small q is c (suc b) k lt in_frame inside =
    elim (cases_lt 0 (code_at q c (suc b))) [
      | inl sends ↦ (is.spellable c (suc b) lt in_frame sends).small k inside
      | inr not ↦
          let next : suc b ≡ b + 1 = omega arith in
          let code : code_at q c (b + 1) ≡ 0 = ap (code_at q c) (sym next) ∙ omega (arith, not) in
          let same = ap (λ a. slice_index (exponents_at q c a) k) next ∙ is.reused c b k lt (omega (arith, in_frame)) code inside in
          omega (arith, same, exponent_small q is c b k lt (omega (arith, in_frame)) inside)
    ]

pub exponents_small : (q : Quantised) → IsQuantised q → (c b at block : ℕ) (s : Span) → c < channels q.shape → b < 6 → at ≡ c → block ≡ b → s ≡ channel_span q.shape c
    → AreExponents s.start s.end (slice_index_or (slice_index_or q.exps at []) block [])
exponents_small q is c b at block s lt in_frame e f same =
    let here : AreExponents (channel_span q.shape c).start (channel_span q.shape c).end (exponents_at q c b) = λ k l m. exponent_small q is c b k lt in_frame (l, m) in
    subst (λ (i : ℕ). AreExponents s.start s.end (slice_index_or (slice_index_or q.exps i []) block [])) (sym e)
    (subst (λ (j : ℕ). AreExponents s.start s.end (slice_index_or (slice_index_or q.exps c []) j [])) (sym f)
    (subst (λ (z : Span). AreExponents z.start z.end (exponents_at q c b)) (sym same) here))

-- a row that was allocated has the pointers
pub allocated : (q : Quantised) (c b at block : ℕ) (s : Span) (p : Params) (silent : Bool) (row : List ℕ) → at ≡ c → block ≡ b → s ≡ channel_span q.shape c
    → p ≡ encoder_params q.shape.fscod q.shape.sampling → silent ≡ (q.t == 0)
    → allocation.ArePointers silent p s (slice_index_or (slice_index_or q.exps at []) block []) q.t row → ArePointersIn q c b row
allocated q c b at block s p silent row e f same params quiet are =
    let P : ℕ → ℕ → Span → Params → Bool → Type 0 = λ i j z r y. allocation.ArePointers y r z (slice_index_or (slice_index_or q.exps i []) j []) q.t row in
    subst (λ i. P i b (channel_span q.shape c) (encoder_params q.shape.fscod q.shape.sampling) (q.t == 0)) e
    (subst (λ j. P at j (channel_span q.shape c) (encoder_params q.shape.fscod q.shape.sampling) (q.t == 0)) f
    (subst (λ z. P at block z (encoder_params q.shape.fscod q.shape.sampling) (q.t == 0)) same
    (subst (λ r. P at block s r (q.t == 0)) params
    (subst (λ y. P at block s p y) quiet are))))

-- where a block reuses exponents, its pointers are those of the block before
pub reused : (q : Quantised) → IsQuantised q → (c b : ℕ) (row : List ℕ) → c < channels q.shape → b < 5 → code_at q c (b + 1) ≡ 0 → ArePointersIn q c b row → ArePointersIn q c (b + 1) row
reused q is c b row lt in_frame code are k inside =
    are k inside
    ∙ sym (pointers_by_span (q.t == 0) (encoder_params q.shape.fscod q.shape.sampling) (channel_span q.shape c) (exponents_at q c (b + 1)) (exponents_at q c b) k q.t (is_span q.shape c)
    (λ j there. is.reused c b j lt in_frame code there) inside)

-- a word that is there is the same by each default
word_there : (l : List (List ℕ)) (i : ℕ) (x : List ℕ) → length (slice_index_or l i []) ≡ 6 → slice_index_or l i x ≡ slice_index_or l i []
word_there [] i x e = absurd cc
word_there (w ∷ l) zero x e = refl
word_there (w ∷ l) (suc i) x e = word_there l i x e

pub code_read : (q : Quantised) → IsQuantised q → (c at b code : ℕ) (x : List ℕ) → c < channels q.shape → at ≡ c → code ≡ slice_index (slice_index_or q.assign.w at x) b → code ≡ code_at q c b
code_read q is c at b code x lt e here =
    let w = q.assign.w in
    let same : slice_index_or w at x ≡ word_of w c = ap (λ (i : ℕ). slice_index_or w i x) e ∙ word_there w c x (is.assigned.words c lt).long in
    here ∙ ap (λ (l : List ℕ). slice_index l b) same

-- the same by the row that was copied
pub copied : (q : Quantised) → IsQuantised q → (c at b : ℕ) (rows : List (List ℕ)) → c < channels q.shape → at ≡ b → b < 6 → code_at q c b ≡ 0
    → ((a : ℕ) → a < b → ArePointersIn q c a (slice_index_or rows a [])) → ArePointersIn q c b (slice_index_or rows (at - 1) [])
copied q is c at zero rows lt e in_frame code before = absurd (omega (arith, code, sends_first q is c lt))
copied q is c at (suc b) rows lt e in_frame code before =
    let next : suc b ≡ b + 1 = omega arith in
    let here : code_at q c (b + 1) ≡ 0 = ap (code_at q c) (sym next) ∙ code in
    let last : at - 1 ≡ b = omega (arith, e) in
    subst (λ (i : ℕ). ArePointersIn q c i (slice_index_or rows (at - 1) [])) (sym next)
    (subst (λ (i : ℕ). ArePointersIn q c (b + 1) (slice_index_or rows i [])) (sym last)
    (reused q is c b (slice_index_or rows b []) lt (omega (arith, in_frame)) here (before b (omega arith))))

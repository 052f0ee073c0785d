-- What mantissas and exponents cost, in loops.
use Rattle.std.proofs.Common.{◌≡◌, ℕ, zero, suc, ◌+◌, ◌*◌, ◌-◌, ◌^◌, ◌<◌, ◌≤◌, List, [], ◌∷◌, ◌++◌, take, length, slice_index_or, refl, ap, ap₂, sym, subst, ◌∙◌, inl, inr, arith, eqb}
use Rattle.std.specs.Prelude.{nat_le}
use Rattle.std.proofs.lemmas.Bool.{leb-true, cases_lt, cond_both}
use Rattle.std.proofs.lemmas.List.{get_or_past, length-take-le}
use Rattle.std.proofs.Math.Seq.{take-length}
use Rattle.ac_base.specs.Counts.{Tally, none, with_one, one_if, code_width, joined, tally_of, exact_of}
use Rattle.ac_base.specs.Fit.{exponents_in, side_of}
use Rattle.ac_base.specs.Sigma.{sum_below}
use Rattle.ac_base.proofs.ByRuns.{sum_more, sum_none}
use Rattle.ac_base.proofs.Tallies.{join, same_tally}
use Rattle.ac_base.proofs.Tests.{all_below-at}
use Rattle.ac_expo.specs.Raw.{channel_span, channels}
use Rattle.ac_mant.specs.declared.coded.Coded.{Coded}
use Rattle.ac_mant.specs.declared.counts.Counts.{Counts}
use Rattle.ac_mant.specs.Counts.{tally, AreWithin}
use Rattle.ac_mant.specs.Groups.{pointers, zeros, AreCoded}
use Rattle.ac_mant.proofs.Costs.{whole_cost}
use Rattle.ac_sent.specs.Values.{Quantised}
use Rattle.ac_sent.specs.Asked.{IsQuantised}
use Rattle.ac_sent.specs.Fields.{parts_at}
use Rattle.ac_sent.specs.Packed.{sent_mantissas}
use Rattle.ac_sent.proofs.Tallies.{mantissas_cost}
use Rattle.ac_packing.specs.Listing.{exponents_of, mantissas_of}

-- ---- tallies
pub record IsWithin (n : ℕ) (t : Tally) : Type 0 where
  pub linear : t.linear ≤ 16 * n
  pub n1 : t.n1 ≤ n
  pub n2 : t.n2 ≤ n
  pub n4 : t.n4 ≤ n

widest : (bap : ℕ) → code_width bap ≤ 16
widest bap =
    elim (cases_lt bap 16) [
      | inl small ↦ leb-true _ _ (all_below-at 16 (λ k. nat_le (code_width k) 16) refl bap small)
      | inr great ↦ omega (arith, get_or_past {X = ℕ} (0 ∷ 0 ∷ 0 ∷ 3 ∷ 0 ∷ 4 ∷ 5 ∷ 6 ∷ 7 ∷ 8 ∷ 9 ∷ 10 ∷ 11 ∷ 12 ∷ 14 ∷ 16 ∷ []) bap 0 great)
    ]

one_small : (pointer bap : ℕ) → one_if pointer bap ≤ 1
one_small pointer bap = let P : ℕ → Type 0 = λ x. x ≤ 1 in cond_both (eqb bap pointer) 1 0 P (λ e. omega arith) (λ e. omega arith)

within : (l : List ℕ) → IsWithin (length l) (tally_of l)
within [] = record { linear = omega arith; n1 = omega arith; n2 = omega arith; n4 = omega arith }
within (x ∷ l) =
    let w = within l in
    record {
      linear = omega (arith, w.linear, widest x);
      n1 = omega (arith, w.n1, one_small 1 x);
      n2 = omega (arith, w.n2, one_small 2 x);
      n4 = omega (arith, w.n4, one_small 4 x);
    }

pub pointers_long : (l : List Coded) → length (pointers l) ≡ length l
pointers_long [] = refl
pointers_long (x ∷ l) = ap suc (pointers_long l)

-- one more behind
one_joined : (t : Tally) (x : ℕ) → joined t (with_one none x) ≡ with_one t x
one_joined t x = same_tally (joined t (with_one none x)) (with_one t x) (omega arith) (omega arith) (omega arith) (omega arith)

tally_last : (l : List ℕ) (x : ℕ) → tally_of (l ++ x ∷ []) ≡ with_one (tally_of l) x
tally_last l x = join l (x ∷ []) ∙ one_joined (tally_of l) x

pointers_more : (l : List Coded) (i : ℕ) (x : Coded) → i < length l → pointers (take (i + 1) l) ≡ pointers (take i l) ++ (slice_index_or l i x).bap ∷ []
pointers_more [] i x lt = absurd (omega arith)
pointers_more (y ∷ l) zero x lt = refl
pointers_more (y ∷ l) (suc i) x lt =
    let next : suc i + 1 ≡ suc (i + 1) = omega arith in
    ap (λ k. pointers (take k (y ∷ l))) next ∙ ap (λ m. y.bap ∷ m) (pointers_more l i x (omega (arith, lt)))

pub counted : (l : List Coded) (i : ℕ) (x y : Coded) (s t : Tally) → i < length l → y ≡ slice_index_or l i x → s ≡ tally_of (pointers (take i l)) → t ≡ with_one s y.bap → t ≡ tally_of (pointers (take (i + 1) l))
counted l i x y s t lt here so next =
    next ∙ (ap₂ with_one so (ap (λ (z : Coded). z.bap) here) ∙ (sym (tally_last (pointers (take i l)) (slice_index_or l i x).bap) ∙ sym (ap tally_of (pointers_more l i x lt))))

pub coded_small : (l : List Coded) (i : ℕ) (x y : Coded) → AreCoded l → i < length l → y ≡ slice_index_or l i x → y.bap ≤ 15
coded_small [] i x y are lt e = absurd (omega arith)
coded_small (z ∷ l) zero x y are lt e = subst (λ (w : Coded). w.bap ≤ 15) (sym e) are.0.pointer
coded_small (z ∷ l) (suc i) x y are lt e = coded_small l i x y are.1 (omega (arith, lt)) e

pub few_within : (l : List Coded) (t : Tally) → length l ≤ 1792 → t ≡ tally_of (pointers l) → IsWithin 1792 t
few_within l t few e =
    let w = within (pointers l) in
    let n = pointers_long l in
    subst (IsWithin 1792) (sym e) (record {
      linear = omega (arith, w.linear, n, few);
      n1 = omega (arith, w.n1, n, few);
      n2 = omega (arith, w.n2, n, few);
      n4 = omega (arith, w.n4, n, few);
    })

pub counts_small : (counts : Counts) (l : List Coded) (i : ℕ) → i ≤ length l → length l ≤ 1792 → tally counts ≡ tally_of (pointers (take i l)) → AreWithin (2 ^ 20 - 1) counts
counts_small counts l i room few e =
    let w = few_within (take i l) (tally counts) (omega (arith, length-take-le i l room, room, few)) e in
    (omega (arith, w.linear), omega (arith, w.n1), omega (arith, w.n2), omega (arith, w.n4))

pub counts_most : (counts : Counts) (l : List Coded) → length l ≤ 1792 → tally counts ≡ tally_of (pointers (take (length l) l)) → AreWithin (2 ^ 20) counts × (tally counts ≡ tally_of (pointers l)) × (exact_of (tally counts) ≤ 2 ^ 16)
counts_most counts l few e =
    let all = e ∙ ap (λ (k : List Coded). tally_of (pointers k)) (take-length l) in
    let w = few_within l (tally counts) few all in
    ((omega (arith, w.linear), omega (arith, w.n1), omega (arith, w.n2), omega (arith, w.n4)), all, omega (arith, w.linear, w.n1, w.n2, w.n4))

-- ---- blocks
pub mantissas_are : (q : Quantised) (b cost : ℕ) (l : List Coded) → l ≡ sent_mantissas q b → cost ≡ exact_of (tally_of (pointers l)) → cost ≡ mantissas_of q b
mantissas_are q b cost l e here =
    here ∙ (ap (λ (k : List Coded). exact_of (tally_of (pointers k))) e ∙ (sym (whole_cost zeros (sent_mantissas q b)) ∙ mantissas_cost q b))

pub exponents_none : (q : Quantised) (b : ℕ) → 0 ≡ exponents_in (channel_span q.shape) 0 q.assign.w b
exponents_none q b = sym (sum_none (exponents_of q b))

pub exponents_more : (q : Quantised) (b n so more : ℕ) → so ≡ exponents_in (channel_span q.shape) n q.assign.w b → more ≡ exponents_of q b n → so + more ≡ exponents_in (channel_span q.shape) (n + 1) q.assign.w b
exponents_more q b n so more before here =
    let next : suc n ≡ n + 1 = omega arith in
    let e = sum_more n (exponents_of q b) in
    ap₂ (λ x y. x + y) before here ∙ (sym e ∙ ap (λ m. sum_below m (exponents_of q b)) next)

-- ---- the frame
abbrev pub cost_of : Quantised → ℕ → ℕ
cost_of q b = exponents_in (channel_span q.shape) (channels q.shape) q.assign.w b + mantissas_of q b

-- the bits of the first n blocks with all side bits
abbrev pub sum_to : Quantised → ℕ → ℕ
sum_to q n = (side_of q.shape.acmod q.shape.lfe q.shape.couple).total + sum_below n (cost_of q)

sum_grows : (f : ℕ → ℕ) (n m : ℕ) → sum_below n f ≤ sum_below (n + m) f
sum_grows f n zero =
    let same : n ≡ n + 0 = omega arith in
    omega (arith, ap (λ k. sum_below k f) same)
sum_grows f n (suc m) =
    let next : suc (n + m) ≡ n + suc m = omega arith in
    omega (arith, sum_grows f n m, sum_more (n + m) f, ap (λ k. sum_below k f) next)

pub sum_next : (q : Quantised) (n so more : ℕ) → so ≡ sum_to q n → more ≡ cost_of q n → so + more ≡ sum_to q (n + 1)
sum_next q n so more before here =
    let next : suc n ≡ n + 1 = omega arith in
    omega (arith, before, here, sum_more n (cost_of q), ap (λ m. sum_below m (cost_of q)) next)

pub sum_fits : (q : Quantised) → IsQuantised q → (n : ℕ) → n ≤ 6 → sum_to q n ≤ 30720
sum_fits q is n few =
    let rest : n + (6 - n) ≡ 6 = omega (arith, few) in
    omega (arith, sum_grows (cost_of q) n (6 - n), ap (λ k. sum_below k (cost_of q)) rest, is.fits.whole, q.shape.most_size)

pub sum_none_yet : (q : Quantised) → (side_of q.shape.acmod q.shape.lfe q.shape.couple).total ≡ sum_to q 0
sum_none_yet q = omega (arith, sum_none (cost_of q))

pub total_is : (q : Quantised) → sum_to q 6 ≡ (parts_at q).total
total_is q = refl

-- with block 5 behind the five before it all is there
pub sum_all : (q : Quantised) (b so exponents mantissas : ℕ) → b ≤ 5 → 5 ≤ b → so ≡ sum_to q b → exponents ≡ exponents_in (channel_span q.shape) (channels q.shape) q.assign.w 5 → mantissas ≡ mantissas_of q 5
    → so + exponents + mantissas ≡ (parts_at q).total
sum_all q b so exponents mantissas most least before e m =
    let five : b ≡ 5 = omega (arith, most, least) in
    let all : so + (exponents + mantissas) ≡ sum_to q 6 = sum_next q 5 so (exponents + mantissas) (before ∙ ap (sum_to q) five) (ap₂ (λ x y. x + y) e m) in
    let same : so + exponents + mantissas ≡ so + (exponents + mantissas) = omega arith in
    same ∙ (all ∙ total_is q)

pub total_fits : (q : Quantised) → IsQuantised q → (n : ℕ) → n ≡ (parts_at q).total → n ≤ 30720
total_fits q is n e = omega (arith, e ∙ sym (total_is q), sum_fits q is 6 (omega arith))

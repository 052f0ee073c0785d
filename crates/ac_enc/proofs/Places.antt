-- A frame's places are told by their values alone.
use Rattle.std.proofs.Common.{◌≡◌, ℕ, ◌+◌, ◌-◌, ◌*◌, ◌<◌, List, ℤ, pos, ◌++◌, slice_index_or, length, ap, subst, ◌∙◌, arith, inl, inr}
use Rattle.std.specs.Prelude.{◌*ℤ◌}
use Rattle.std.proofs.lemmas.Bool.{cases_lt}
use Rattle.std.proofs.lemmas.List.{get_or_append_left, get_or-append-add}
use Rattle.ac_base.specs.Cosine.{cosine_at}
use Rattle.ac_base.specs.Sigma.{Lists}
use Rattle.ac_base.specs.Window.{window_of}
use Rattle.ac_base.proofs.Rearranged.{sigma_same}
use Rattle.ac_mdct.specs.Forward.{phase, rounded, windowed, forward_sum, coefficient}
use Rattle.ac_expo.specs.Raw.{raw_of}
use Rattle.ac_joint.specs.Joint.{joint_flags, joint_of}
use Rattle.ac_plan.specs.declared.answer.Plan.{Plan}
use Rattle.ac_sent.specs.Laws.{IsBack}
use Rattle.ac_sent.specs.Packed.{IsPacked}
use Rattle.ac_sent.specs.Values.{Quantised}
use Rattle.ac_words.specs.declared.meaning.Options.{Options}
use Rattle.ac_enc.specs.Frame.{Places, IsFrame, coefficient_at, coefficients}
use Rattle.ac_enc.specs.Layout.{Layout, channels_in}
use Rattle.ac_enc.proofs.Alike.{Alike, flags_same}
use Rattle.ac_enc.proofs.Coordinates.{coordinates_same}
use Rattle.ac_enc.proofs.Made.{joint_agrees, values_are}
use Rattle.ac_enc.proofs.OneShape.{of_for, alike_of, alike_full, for_same}
use Rattle.ac_base.specs.Sizes.{frame_words_of}

-- a sum is told by its terms
sum_same : (v u : ℕ → ℤ) (k : ℕ) → ((n : ℕ) → n < 512 → v n ≡ u n) → forward_sum v k ≡ forward_sum u k
sum_same v u k same = sigma_same 512 (λ n. v n *ℤ cosine_at (phase k n)) (λ n. u n *ℤ cosine_at (phase k n)) (λ n below. ap (λ z. z *ℤ cosine_at (phase k n)) (same n below))

pub coefficient_same : (x y : ℕ → ℤ) → ((p : ℕ) → p < 1792 → x p ≡ y p) → (b k : ℕ) → b < 6 → coefficient_at x b k ≡ coefficient_at y b k
coefficient_same x y same b k below =
    ap coefficient (sum_same (λ n. rounded (x (256 * b + n)) (window_of n)) (λ n. rounded (y (256 * b + n)) (window_of n)) k (λ n within. ap (λ z. rounded z (window_of n)) (same (256 * b + n) (omega arith))))

-- two blocks side by side
side_by_side : (x : ℕ → ℤ) (b : ℕ) (prev now : List ℤ) → length prev ≡ 256 → Lists 256 (λ n. x (256 * b + n)) prev → Lists 256 (λ n. x (256 * (b + 1) + n)) now
    → (n : ℕ) → n < 512 → slice_index_or (prev ++ now) n (pos 0) ≡ x (256 * b + n)
side_by_side x b prev now long before after n within =
    elim (cases_lt n 256) [
      | inl h ↦ get_or_append_left prev now (pos 0) n (omega arith) ∙ before n h
      | inr h ↦
          let at : n ≡ length prev + (n - 256) = omega arith in
          let same : 256 * (b + 1) + (n - 256) ≡ 256 * b + n = omega arith in
          ap (λ m. slice_index_or (prev ++ now) m (pos 0)) at ∙ (get_or-append-add prev now (n - 256) (pos 0) ∙ (after (n - 256) (omega arith) ∙ ap x same))
    ]

pub block_sum : (x : ℕ → ℤ) (b k : ℕ) (prev now : List ℤ) → length prev ≡ 256 → Lists 256 (λ n. x (256 * b + n)) prev → Lists 256 (λ n. x (256 * (b + 1) + n)) now
    → coefficient (forward_sum (windowed (prev ++ now)) k) ≡ coefficient_at x b k
block_sum x b k prev now long before after =
    ap coefficient (sum_same (windowed (prev ++ now)) (λ n. rounded (x (256 * b + n)) (window_of n)) k (λ n within. ap (λ z. rounded z (window_of n)) (side_by_side x b prev now long before after n within)))

-- ---- a frame depends on its places alone
pub alike : (n : ℕ) (x y : Places) → ((c p : ℕ) → c < n → p < 1792 → x c p ≡ y c p) → Alike n (coefficients x) (coefficients y)
alike n x y same c b k below block bin = coefficient_same (x c) (y c) (λ p within. same c p below within) b k block

pub frame_same : (o : Options) (l : Layout) (i : ℕ) (x y : Places) (plan : Plan) (frame : List ℕ) → ((c p : ℕ) → c < channels_in l → p < 1792 → x c p ≡ y c p) → IsFrame o l i x plan frame → IsFrame o l i y plan frame
frame_same o l i x y plan frame same p =
    let words = frame_words_of o.rate l.fscod i in
    let z = coefficients x in
    let w = coefficients y in
    let both = alike (channels_in l) x y same in
    let of = of_for o l words z p.shape p.shape_is in
    let full = alike_full l words p.shape z w of both in
    let agree = joint_agrees p.shape z w (alike_of l words p.shape z w of both) in
    let values = values_are p.shape (joint_of p.shape z) (joint_of p.shape w) plan.offset plan.assign (joint_flags p.shape z) (joint_flags p.shape w) p.coords agree (flags_same p.shape z w full) in
    record {
      shape = p.shape;
      shape_is = for_same o l words z w p.shape both p.shape_is;
      coords = p.coords;
      coords_are = coordinates_same p.shape z w p.coords full p.coords_are;
      raw = p.raw;
      raw_is = λ c b k below block inside. p.raw_is c b k below block inside ∙ ap raw_of (agree c b k below block inside);
      lawful = p.lawful;
      coded = subst (λ (q : Quantised). IsPacked q frame) values p.coded;
      back = λ f reading. subst (λ (q : Quantised). IsBack q f) values (p.back f reading);
    }

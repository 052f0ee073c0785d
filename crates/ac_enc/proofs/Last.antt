-- The last samples of a frame have as many bits as the others.
use Rattle.std.proofs.Common.{◌≡◌, ℕ, zero, suc, Bool, true, false, ◌+◌, ◌^◌, ◌≤◌, ◌<◌, List, ap, sym, subst, ◌∙◌, arith, ℤ, pos, slice_index_or, unsigned_abs, drop}
use Rattle.std.specs.Prelude.{[], slice_range}
use Rattle.std.proofs.lemmas.List.{get_or-drop, get_or-take}
use Rattle.ac_base.specs.Shape.{full_of, count_of}
use Rattle.ac_base.specs.Sigma.{Within}
use Rattle.ac_enc.specs.Layout.{Layout, channels_in}

from_range : (pcm : List ℤ) (p : ℕ) → p < 256 → slice_index_or (slice_range pcm 1280 1536) p (pos 0) ≡ slice_index_or pcm (1280 + p) (pos 0)
from_range pcm p below = get_or-take 256 (drop 1280 pcm) p (pos 0) below ∙ get_or-drop 1280 pcm p (pos 0)

pub last_bound : (pcm last : List ℤ) → last ≡ slice_range pcm 1280 1536 → Within (2 ^ 23) 1536 pcm → Within (2 ^ 23) 256 last
last_bound pcm last same within p below =
    let e : slice_index_or last p (pos 0) ≡ slice_index_or pcm (1280 + p) (pos 0) = ap (λ l. slice_index_or l p (pos 0)) same ∙ from_range pcm p below in
    subst (λ (z : ℤ). unsigned_abs z ≤ 2 ^ 23) (sym e) (within (1280 + p) (omega arith))

full_most : (acmod : ℕ) → acmod ≤ 7 → full_of acmod ≤ 5
full_most zero l = omega arith
full_most (suc zero) l = omega arith
full_most (suc (suc zero)) l = omega arith
full_most (suc (suc (suc zero))) l = omega arith
full_most (suc (suc (suc (suc zero)))) l = omega arith
full_most (suc (suc (suc (suc (suc zero))))) l = omega arith
full_most (suc (suc (suc (suc (suc (suc zero)))))) l = omega arith
full_most (suc (suc (suc (suc (suc (suc (suc zero))))))) l = omega arith
full_most (suc (suc (suc (suc (suc (suc (suc (suc n)))))))) l = absurd (omega arith)

low_most : (lfe : Bool) → count_of lfe ≤ 1
low_most true = omega arith
low_most false = omega arith

pub few_channels : (l : Layout) → l.acmod ≤ 7 → channels_in l ≤ 6
few_channels l most = let f = full_most l.acmod most in let b = low_most l.lfe in omega (arith, f, b)

-- those of each channel
pub lasts_bound : (l : Layout) → l.acmod ≤ 7 → (pcm last : List (List ℤ)) → ((c : ℕ) → c < 6 → slice_index_or last c [] ≡ slice_range (slice_index_or pcm c []) 1280 1536)
    → ((c : ℕ) → c < channels_in l → Within (2 ^ 23) 1536 (slice_index_or pcm c [])) → (c : ℕ) → c < channels_in l → Within (2 ^ 23) 256 (slice_index_or last c [])
lasts_bound l most pcm last kept within c below =
    let few = few_channels l most in
    last_bound (slice_index_or pcm c []) (slice_index_or last c []) (kept c (omega (arith, below, few))) (within c below)

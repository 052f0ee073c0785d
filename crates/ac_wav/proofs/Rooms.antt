-- The places of samples stand within whole samples of all channels.
use Rattle.std.proofs.Common.{◌≡◌, ℕ, zero, suc, ◌+◌, ◌*◌, ◌/◌, ◌≤◌, ◌<◌, Bool, true, false, List, [], ◌∷◌, refl, ap, arith, slice_index, lit<}
use Rattle.std.specs.Prelude.{nat_lt, ◌&&◌}
use Rattle.std.proofs.lemmas.Bool.{ltb-true}
use Rattle.std.proofs.Math.Nat.{mul-le-mul_right, div-mul-le_self}
use Rattle.ac_riff.specs.declared.head.WavHead.{WavHead}
use Rattle.ac_riff.specs.Layout.{order_of, channel_count}
use Rattle.ac_riff.specs.Form.{IsOfProfile}
use Rattle.ac_wav.specs.Samples.{align_of, width_of, offset_of}

abbrev all_lt : ℕ → List ℕ → Bool
all_lt m [] = true
all_lt m (x ∷ xs) = nat_lt x m && all_lt m xs

and_both : (a b : Bool) → (a && b) ≡ true → (a ≡ true) × (b ≡ true)
and_both true b e = (refl, e)
and_both false b e = cc

below_at : (m : ℕ) (xs : List ℕ) → 0 < m → all_lt m xs ≡ true → (c : ℕ) → slice_index xs c < m
below_at m [] h e c = h
below_at m (x ∷ xs) h e zero = ltb-true x m (and_both (nat_lt x m) (all_lt m xs) e).0
below_at m (x ∷ xs) h e (suc c) = below_at m xs h (and_both (nat_lt x m) (all_lt m xs) e).1 c

order_fits : (a : ℕ) (l : Bool) → 1 ≤ a → a ≤ 7 → (0 < channel_count a l) × (all_lt (channel_count a l) (order_of a l) ≡ true)
order_fits zero l h k = absurd (omega arith)
order_fits (suc zero) true h k = (lit< tt, refl)
order_fits (suc zero) false h k = (lit< tt, refl)
order_fits (suc (suc zero)) true h k = (lit< tt, refl)
order_fits (suc (suc zero)) false h k = (lit< tt, refl)
order_fits (suc (suc (suc zero))) true h k = (lit< tt, refl)
order_fits (suc (suc (suc zero))) false h k = (lit< tt, refl)
order_fits (suc (suc (suc (suc zero)))) true h k = (lit< tt, refl)
order_fits (suc (suc (suc (suc zero)))) false h k = (lit< tt, refl)
order_fits (suc (suc (suc (suc (suc zero))))) true h k = (lit< tt, refl)
order_fits (suc (suc (suc (suc (suc zero))))) false h k = (lit< tt, refl)
order_fits (suc (suc (suc (suc (suc (suc zero)))))) true h k = (lit< tt, refl)
order_fits (suc (suc (suc (suc (suc (suc zero)))))) false h k = (lit< tt, refl)
order_fits (suc (suc (suc (suc (suc (suc (suc zero))))))) true h k = (lit< tt, refl)
order_fits (suc (suc (suc (suc (suc (suc (suc zero))))))) false h k = (lit< tt, refl)
order_fits (suc (suc (suc (suc (suc (suc (suc (suc n)))))))) l h k = absurd (omega arith)

pub order_below : (head : WavHead) (c : ℕ) → IsOfProfile head → slice_index head.order c < head.channels
order_below head c p =
    let fits = order_fits head.acmod head.lfe p.acmod_least p.acmod_most in
    let below = below_at (channel_count head.acmod head.lfe) (order_of head.acmod head.lfe) fits.0 fits.1 c in
    let same : slice_index head.order c ≡ slice_index (order_of head.acmod head.lfe) c = ap (λ l. slice_index l c) p.order_is in
    omega (arith, below, same, p.count)

pub room : (t o w ch n : ℕ) → o < ch → t < n / (ch * w) → t * (ch * w) + o * w + w ≤ n
room t o w ch n low below =
    let a : (t + 1) * (ch * w) ≤ n / (ch * w) * (ch * w) = mul-le-mul_right (ch * w) (omega arith) in
    let b : n / (ch * w) * (ch * w) ≤ n = div-mul-le_self n (ch * w) in
    let d : (o + 1) * w ≤ ch * w = mul-le-mul_right w (omega arith) in
    omega (arith, a, b, d)

pub offset_room : (head : WavHead) (c t n : ℕ) → IsOfProfile head → t < n / align_of head → offset_of head c t + width_of head ≤ n
offset_room head c t n p below = room t (slice_index head.order c) (width_of head) head.channels n (order_below head c p) below

-- there is a channel, and a sample of it has two bytes at least
pub align_least : (head : WavHead) → IsOfProfile head → 0 < align_of head
align_least head p =
    let fits = order_fits head.acmod head.lfe p.acmod_least p.acmod_most in
    let wide : 2 ≤ head.bits / 8 = omega (arith, p.bits_least) in
    let one : 1 * width_of head ≤ head.channels * width_of head = mul-le-mul_right (width_of head) (omega (arith, fits.0, p.count)) in
    omega (arith, one, wide)

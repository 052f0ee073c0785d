-- Sums of magnitudes, frame after frame.
use Rattle.std.proofs.Common.{◌≡◌, ℕ, zero, suc, ◌+◌, ◌*◌, ◌<◌, List, [], ◌∷◌, ◌++◌, length, length-append, ℤ, pos, slice_index_or, unsigned_abs, refl, ap, ap₂, sym, ◌∙◌, arith}
use Rattle.ac_base.specs.Sigma.{sum_below}
use Rattle.ac_base.proofs.ByRuns.{sum_more, sum_none, sum_both}
use Rattle.ac_dec.specs.Sound.{sound_of}
use Rattle.ac_record.specs.Frames.{FrameCodes}
use Rattle.ac_wav.specs.declared.written.Pcm.{Pcm}
use Rattle.ac_synth.specs.Sums.{magnitude_at, row_sum, pcm_sum}
use Rattle.ac_synth.specs.Synth.{sum_of}

-- ---- sums

-- of numbers that are the same below the bound
pub sum_alike : (n : ℕ) (f g : ℕ → ℕ) → ((k : ℕ) → k < n → f k ≡ g k) → sum_below n f ≡ sum_below n g
sum_alike zero f g same = sum_none f ∙ sym (sum_none g)
sum_alike (suc n) f g same =
    sum_more n f ∙ (ap₂ (λ (a b : ℕ). a + b) (sum_alike n f g (λ k lt. same k (omega (arith, lt)))) (same n (omega arith)) ∙ sym (sum_more n g))

-- one behind the other
pub sum_joined : (n m : ℕ) (f : ℕ → ℕ) → sum_below (n + m) f ≡ sum_below n f + sum_below m (λ k. f (n + k))
sum_joined n zero f =
    let none = sum_none (λ k. f (n + k)) in
    let at : n + 0 ≡ n = omega arith in
    ap (λ k. sum_below k f) at ∙ omega (arith, none)
sum_joined n (suc m) f =
    let at : n + suc m ≡ suc (n + m) = omega arith in
    let before = sum_joined n m f in
    let here = sum_more (n + m) f in
    let last = sum_more m (λ k. f (n + k)) in
    ap (λ k. sum_below k f) at ∙ omega (arith, before, here, last)

-- by blocks of 256
pub sum_blocks : (n : ℕ) (f : ℕ → ℕ) → sum_below n (λ b. sum_below 256 (λ t. f (256 * b + t))) ≡ sum_below (256 * n) f
sum_blocks zero f = sum_none (λ b. sum_below 256 (λ t. f (256 * b + t))) ∙ sym (sum_none f)
sum_blocks (suc n) f =
    let at : 256 * n + 256 ≡ 256 * suc n = omega arith in
    sum_more n (λ b. sum_below 256 (λ t. f (256 * b + t)))
    ∙ (ap (λ (k : ℕ). k + sum_below 256 (λ t. f (256 * n + t))) (sum_blocks n f)
    ∙ (sym (sum_joined (256 * n) 256 f) ∙ ap (λ k. sum_below k f) at))

-- ---- one frame more

-- block j of channel c
abbrev block_sum : List FrameCodes → ℕ → ℕ → ℕ
block_sum gs c j = sum_below 256 (λ t. unsigned_abs (sound_of gs c j t))

-- all blocks of channel c
abbrev channel_sum : List FrameCodes → ℕ → ℕ
channel_sum gs c = sum_below (6 * length gs) (block_sum gs c)

-- what is known of the sound of one frame more
pub record GoesOn (gs : List FrameCodes) (g : FrameCodes) (pcm : Pcm) : Type 0 where
  pub front : (c j t : ℕ) → j < 6 * length gs → sound_of (gs ++ g ∷ []) c j t ≡ sound_of gs c j t
  pub next : (c b t : ℕ) → c < 2 → b < 6 → t < 256 → slice_index_or (slice_index_or pcm.s c []) (256 * b + t) (pos 0) ≡ sound_of (gs ++ g ∷ []) c (6 * length gs + b) t

front_same : (gs : List FrameCodes) (g : FrameCodes) (pcm : Pcm) (c : ℕ) → GoesOn gs g pcm → sum_below (6 * length gs) (block_sum (gs ++ g ∷ []) c) ≡ channel_sum gs c
front_same gs g pcm c on =
    sum_alike (6 * length gs) (block_sum (gs ++ g ∷ []) c) (block_sum gs c)
    (λ j lt. sum_alike 256 (λ t. unsigned_abs (sound_of (gs ++ g ∷ []) c j t)) (λ t. unsigned_abs (sound_of gs c j t)) (λ t below. ap unsigned_abs (on.front c j t lt)))

next_same : (gs : List FrameCodes) (g : FrameCodes) (pcm : Pcm) (c : ℕ) → c < 2 → GoesOn gs g pcm
    → sum_below 6 (λ b. block_sum (gs ++ g ∷ []) c (6 * length gs + b)) ≡ row_sum (slice_index_or pcm.s c []) 1536
next_same gs g pcm c two on =
    let row = slice_index_or pcm.s c [] in
    sum_alike 6 (λ b. block_sum (gs ++ g ∷ []) c (6 * length gs + b)) (λ b. sum_below 256 (λ t. magnitude_at row (256 * b + t)))
    (λ b six. sum_alike 256 (λ t. unsigned_abs (sound_of (gs ++ g ∷ []) c (6 * length gs + b) t)) (λ t. magnitude_at row (256 * b + t)) (λ t below. ap unsigned_abs (sym (on.next c b t two six below))))
    ∙ sum_blocks 6 (magnitude_at row)

channel_more : (gs : List FrameCodes) (g : FrameCodes) (pcm : Pcm) (c : ℕ) → c < 2 → GoesOn gs g pcm → channel_sum (gs ++ g ∷ []) c ≡ channel_sum gs c + row_sum (slice_index_or pcm.s c []) 1536
channel_more gs g pcm c two on =
    let long = length-append gs (g ∷ []) in
    let at : 6 * length (gs ++ g ∷ []) ≡ 6 * length gs + 6 = omega (arith, long) in
    ap (λ n. sum_below n (block_sum (gs ++ g ∷ []) c)) at
    ∙ (sum_joined (6 * length gs) 6 (block_sum (gs ++ g ∷ []) c) ∙ ap₂ (λ (a b : ℕ). a + b) (front_same gs g pcm c on) (next_same gs g pcm c two on))

pub sum_of_more : (gs : List FrameCodes) (g : FrameCodes) (pcm : Pcm) → GoesOn gs g pcm → sum_of (gs ++ g ∷ []) ≡ sum_of gs + pcm_sum pcm
unfolding sum_of
sum_of_more gs g pcm on =
    sum_alike 2 (channel_sum (gs ++ g ∷ [])) (λ c. channel_sum gs c + row_sum (slice_index_or pcm.s c []) 1536) (λ c two. channel_more gs g pcm c two on)
    ∙ sum_both 2 (channel_sum gs) (λ c. row_sum (slice_index_or pcm.s c []) 1536)

two_zeros : sum_below 2 (λ c. 0) ≡ 0
unfolding sum_below
two_zeros = refl

pub sum_of_none : sum_of [] ≡ 0
unfolding sum_of
sum_of_none = sum_alike 2 (channel_sum []) (λ c. 0) (λ c two. sum_none (block_sum [] c)) ∙ two_zeros

-- ---- rows

pub row_none : (row : List ℤ) → 0 ≡ row_sum row 0
row_none row = sym (sum_none (magnitude_at row))

pub row_more : (row : List ℤ) (t : ℕ) → row_sum row (t + 1) ≡ row_sum row t + magnitude_at row t
row_more row t =
    let at : t + 1 ≡ suc t = omega arith in
    ap (row_sum row) at ∙ sum_more t (magnitude_at row)

pub both_rows : (pcm : Pcm) → row_sum (slice_index_or pcm.s 0 []) 1536 + row_sum (slice_index_or pcm.s 1 []) 1536 ≡ pcm_sum pcm
both_rows pcm =
    let f : ℕ → ℕ = λ c. row_sum (slice_index_or pcm.s c []) 1536 in
    let none = sum_none f in
    let one = sum_more 0 f in
    let two = sum_more 1 f in
    omega (arith, none, one, two)

-- The sound of frames goes on from one to the next.
use Rattle.std.proofs.Common.{◌≡◌, ℕ, zero, suc, ◌+◌, ◌*◌, ◌/◌, ◌%◌, ◌<◌, ◌≤◌, List, [], ◌∷◌, ◌++◌, length, length-append, ℤ, pos, slice_index_or, ap, ap₂, sym, ◌∙◌, arith}
use Rattle.std.proofs.lemmas.List.{get_or_append_left, get_or-append-add, get_or-replicate}
use Rattle.std.specs.Prelude.{replicate}
use Rattle.ac_mdct.specs.Inverse.{part, sample_of}
use Rattle.ac_record.specs.Empty.{empty_codes}
use Rattle.ac_record.specs.Frames.{FrameCodes}
use Rattle.ac_dec.specs.Heard.{heard_of}
use Rattle.ac_dec.specs.Sound.{block_list, delay_at, sample_at, stream_block, sound_of, IsBehind}
use Rattle.ac_dec.proofs.Lists.{SameFront, delay_same, sample_same, delay_first, delay_next}

-- ---- the blocks of a front of the frames

frame_at : (gs more : List FrameCodes) (n : ℕ) → n < length gs → slice_index_or (gs ++ more) n empty_codes ≡ slice_index_or gs n empty_codes
frame_at gs more n lt = get_or_append_left gs more empty_codes n lt

pub front_block : (gs more : List FrameCodes) (c j : ℕ) → j < 6 * length gs → stream_block (gs ++ more) c j ≡ stream_block gs c j
front_block gs more c j lt = ap (λ (g : FrameCodes). block_list (heard_of g c) (j % 6)) (frame_at gs more (j / 6) (omega (arith, lt)))

same_lists : (xs ys : List ℤ) → xs ≡ ys → SameFront xs ys
same_lists xs ys e k lt = ap (λ (l : List ℤ). slice_index_or l k (pos 0)) e

pub front_sound : (gs more : List FrameCodes) (c j t : ℕ) → j < 6 * length gs → sound_of (gs ++ more) c j t ≡ sound_of gs c j t
front_sound gs more c j t lt =
    sample_same [] (stream_block (gs ++ more) c) (stream_block gs c) j
    (λ b le. same_lists (stream_block (gs ++ more) c b) (stream_block gs c b) (front_block gs more c b (omega (arith, le, lt)))) t

front_delay : (gs more : List FrameCodes) (c t : ℕ) → delay_at [] (stream_block (gs ++ more) c) (6 * length gs) t ≡ delay_at [] (stream_block gs c) (6 * length gs) t
front_delay gs more c t =
    delay_same [] (stream_block (gs ++ more) c) (stream_block gs c) (6 * length gs)
    (λ b lt. same_lists (stream_block (gs ++ more) c b) (stream_block gs c b) (front_block gs more c b lt)) t

-- ---- the blocks of one frame more

last_frame : (gs : List FrameCodes) (g : FrameCodes) → slice_index_or (gs ++ g ∷ []) (length gs) empty_codes ≡ g
last_frame gs g = let e : length gs ≡ length gs + 0 = omega arith in ap (λ (n : ℕ). slice_index_or (gs ++ g ∷ []) n empty_codes) e ∙ get_or-append-add gs (g ∷ []) 0 empty_codes

last_block : (gs : List FrameCodes) (g : FrameCodes) (c b : ℕ) → b < 6 → stream_block (gs ++ g ∷ []) c (6 * length gs + b) ≡ block_list (heard_of g c) b
last_block gs g c b lt =
    let n = length gs in
    let frame : (6 * n + b) / 6 ≡ n = omega (arith, lt) in
    let block : (6 * n + b) % 6 ≡ b = omega (arith, lt) in
    ap₂ (λ (i j : ℕ). block_list (heard_of (slice_index_or (gs ++ g ∷ []) i empty_codes) c) j) frame block
    ∙ ap (λ (f : FrameCodes). block_list (heard_of f c) b) (last_frame gs g)

next_delay : (gs : List FrameCodes) (g : FrameCodes) (c : ℕ) (first : List ℤ) → IsBehind gs c first → (b t : ℕ) → b ≤ 6 → t < 256
    → delay_at first (block_list (heard_of g c)) b t ≡ delay_at [] (stream_block (gs ++ g ∷ []) c) (6 * length gs + b) t
next_delay gs g c first is zero t le lt =
    let at : 6 * length gs ≡ 6 * length gs + 0 = omega arith in
    delay_first first (block_list (heard_of g c)) t
    ∙ (is t lt
    ∙ (sym (front_delay gs (g ∷ []) c t) ∙ ap (λ (m : ℕ). delay_at [] (stream_block (gs ++ g ∷ []) c) m t) at))
next_delay gs g c first is (suc b) t le lt =
    let one : suc b ≡ b + 1 = omega arith in
    let at : 6 * length gs + b + 1 ≡ 6 * length gs + suc b = omega arith in
    ap (λ (m : ℕ). delay_at first (block_list (heard_of g c)) m t) one
    ∙ (delay_next first (block_list (heard_of g c)) b t
    ∙ (ap (λ (l : List ℤ). part l (t + 256)) (sym (last_block gs g c b (omega (arith, le))))
    ∙ (sym (delay_next [] (stream_block (gs ++ g ∷ []) c) (6 * length gs + b) t)
    ∙ ap (λ (m : ℕ). delay_at [] (stream_block (gs ++ g ∷ []) c) m t) at)))

pub next_sound : (gs : List FrameCodes) (g : FrameCodes) (c : ℕ) (first : List ℤ) → IsBehind gs c first → (b t : ℕ) → b < 6 → t < 256
    → sample_at first (block_list (heard_of g c)) b t ≡ sound_of (gs ++ g ∷ []) c (6 * length gs + b) t
next_sound gs g c first is b t lt below =
    ap₂ sample_of (ap (λ (l : List ℤ). part l t) (sym (last_block gs g c b lt))) (next_delay gs g c first is b t (omega (arith, lt)) below)

pub next_behind : (gs : List FrameCodes) (g : FrameCodes) (c : ℕ) (first delay : List ℤ) → IsBehind gs c first
    → ((t : ℕ) → t < 256 → slice_index_or delay t (pos 0) ≡ delay_at first (block_list (heard_of g c)) 6 t) → IsBehind (gs ++ g ∷ []) c delay
next_behind gs g c first delay is left t lt =
    let long = length-append gs (g ∷ []) in
    let at : 6 * length gs + 6 ≡ 6 * length (gs ++ g ∷ []) = omega (arith, long) in
    left t lt ∙ (next_delay gs g c first is 6 t (omega arith) lt ∙ ap (λ (m : ℕ). delay_at [] (stream_block (gs ++ g ∷ []) c) m t) at)

-- before the first frame there is silence
pub silent_behind : (c : ℕ) → c < 6 → IsBehind [] c (slice_index_or (replicate 6 (replicate 256 (pos 0))) c [])
silent_behind c small t lt =
    ap (λ (l : List ℤ). slice_index_or l t (pos 0)) (get_or-replicate 6 c (replicate 256 (pos 0)) [] small)
    ∙ (get_or-replicate 256 t (pos 0) (pos 0) lt ∙ sym (delay_first [] (stream_block [] c) t))

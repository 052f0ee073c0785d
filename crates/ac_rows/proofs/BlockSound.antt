-- The fields of a block are sound.
use Rattle.std.proofs.Common.{◌≡◌, ℕ, zero, suc, ◌&&◌, ◌||◌, Bool, List, [], ◌∷◌, length, Option, nat_lt, refl, ap, ap₂, arith}
use Rattle.ac_codec.specs.declared.refused.Refused.{Refused}
use Rattle.ac_codec.specs.declared.refused.Refused.TheVariants.{Reserved}
use Rattle.ac_codec.specs.declared.refused.Row.TheVariants.{Chincpl}
use Rattle.ac_codec.specs.Codec.{Codec, tested_bit, zero_where, given, free}
use Rattle.ac_codec.proofs.Sound.{Sound, field_sound, tested_bit_sound, absent_sound, pair_sound, shaped_sound, fitted_sound, given_sound}
use Rattle.ac_codec.proofs.Sound.{slot_sound, each_sound, cons_then_sound, free_sound}
use Rattle.ac_rows.specs.Blocks.{Block}
use Rattle.ac_rows.specs.declared.head.Head.{Head}
use Rattle.ac_rows.specs.declared.groups.ChannelShared.{ChannelShared}
use Rattle.ac_rows.specs.declared.groups.Shared.{Shared}
use Rattle.ac_rows.specs.declared.groups.Coupling.{Coupling}
use Rattle.ac_rows.specs.declared.groups.Codes.{Codes}
use Rattle.ac_rows.specs.declared.groups.Known.{Known}
use Rattle.ac_rows.specs.Filled.{holds}
use Rattle.ac_rows.specs.BlockRows.{clear_each, start, start_to, start_from, coupled_each, joined_each, strategy, strategy_to}
use Rattle.ac_rows.specs.BlockRows.{strategy_from, firsts, seconds, zipped, alternating, coordinate_each, channel_to, channel_from}
use Rattle.ac_rows.specs.BlockRows.{channel_shared, shared_each, coes, masters, coordinate_exps, coordinate_mants, joined_channels}
use Rattle.ac_rows.specs.BlockRows.{phase_each, shared_to, shared_from, SharedFits, shared, rematrix_each, strategy_each, width_each, codes}
use Rattle.ac_rows.specs.BlockRows.{codes_to, codes_from, exponents_each, exponents, exponents_to, exponents_from, offset_each, parameters}
use Rattle.ac_rows.specs.BlockRows.{offsets, leaks, allocation, allocation_to, allocation_from, rest, rest_to, rest_from, block_rows}
use Rattle.ac_rows.specs.BlockRows.{groups_to, groups_from, block_fields, whole_block, skip_bits}
use Rattle.ac_rows.proofs.Pairs.{zipped_firsts, zipped_seconds}
use Rattle.ac_rows.proofs.SpelledSound.{spelled_row_sound}

-- ---- two lists and a list of pairs
zipped_back : {A B : Type 0} (xs : List (A × B)) → zipped (firsts xs) (seconds xs) ≡ xs
zipped_back [] = refl
zipped_back (x ∷ xs) = ap (λ ys. x ∷ ys) (zipped_back xs)

same_length : {A B : Type 0} (xs : List (A × B)) → length (firsts xs) ≡ length (seconds xs)
same_length [] = refl
same_length (x ∷ xs) = ap suc (same_length xs)

pub alternating_sound : {A B : Type 0} (c : Codec (List (A × B))) → Sound c → Sound (alternating c)
unfolding alternating
alternating_sound {A} {B} c s =
    fitted_sound (λ xs. (firsts xs, seconds xs)) (λ p. zipped p.0 p.1) (λ p. length p.0 ≡ length p.1) c
    (λ xs h. (same_length xs, zipped_back xs))
    (λ p h. let P : List A → List B → List A × List B = λ x y. (x, y) in ap₂ P (zipped_firsts p.0 p.1 h) (zipped_seconds p.0 p.1 h))
    s

-- ---- four lists and a list of channels
joined_back : (xs : List ChannelShared) → joined_channels (coes xs) (masters xs) (coordinate_exps xs) (coordinate_mants xs) ≡ xs
joined_back [] = refl
joined_back (x ∷ xs) = ap (λ ys. x ∷ ys) (joined_back xs)

lengths : (xs : List ChannelShared) → (length (masters xs) ≡ length (coes xs)) × (length (coordinate_exps xs) ≡ length (coes xs))
    × (length (coordinate_mants xs) ≡ length (coes xs))
lengths [] = (refl, refl, refl)
lengths (x ∷ xs) = let h = lengths xs in (ap suc h.0, ap suc h.1, ap suc h.2)

shared_again : (w : List (Option Bool)) (x : List (Option ℕ)) (y z : List (List (Option ℕ))) → length x ≡ length w → length y ≡ length w
    → length z ≡ length w
    → (coes (joined_channels w x y z) ≡ w) × (masters (joined_channels w x y z) ≡ x) × (coordinate_exps (joined_channels w x y z) ≡ y)
    × (coordinate_mants (joined_channels w x y z) ≡ z)
shared_again [] [] [] [] e f g = (refl, refl, refl, refl)
shared_again [] (b ∷ bs) y z e f g = absurd (omega (arith, e))
shared_again [] [] (c ∷ cs) z e f g = absurd (omega (arith, f))
shared_again [] [] [] (d ∷ ds) e f g = absurd (omega (arith, g))
shared_again (a ∷ w) [] y z e f g = absurd (omega (arith, e))
shared_again (a ∷ w) (b ∷ bs) [] z e f g = absurd (omega (arith, f))
shared_again (a ∷ w) (b ∷ bs) (c ∷ cs) [] e f g = absurd (omega (arith, g))
shared_again (a ∷ w) (b ∷ bs) (c ∷ cs) (d ∷ ds) e f g =
    let h = shared_again w bs cs ds (omega (arith, e)) (omega (arith, f)) (omega (arith, g)) in
    (ap (λ l. a ∷ l) h.0, ap (λ l. b ∷ l) h.1, ap (λ l. c ∷ l) h.2, ap (λ l. d ∷ l) h.3)

shared_same : (x : Shared)
    → (coes (joined_channels x.cplcoe x.mstrcplco x.cplcoexp x.cplcomant) ≡ x.cplcoe)
    × (masters (joined_channels x.cplcoe x.mstrcplco x.cplcoexp x.cplcomant) ≡ x.mstrcplco)
    × (coordinate_exps (joined_channels x.cplcoe x.mstrcplco x.cplcoexp x.cplcomant) ≡ x.cplcoexp)
    × (coordinate_mants (joined_channels x.cplcoe x.mstrcplco x.cplcoexp x.cplcomant) ≡ x.cplcomant)
    → shared_to (shared_from x) ≡ x
shared_same x h = rw (h.0, h.1, h.2, h.3) refl

-- ---- the groups
clear_each_sound : (full : ℕ) (r : Refused) → Sound (clear_each full r)
unfolding clear_each
clear_each_sound full r = each_sound _ _ _ (λ i. slot_sound _ _ _ (tested_bit_sound _))

pub start_sound : (full : ℕ) → Sound (start full)
unfolding start
start_sound full =
    shaped_sound start_to start_from _ (λ _. refl) (λ _. refl)
    (search (pair_sound, field_sound, tested_bit_sound, given_sound, clear_each_sound) depth 20)

coupled_each_sound : (n i : ℕ) (sent : Bool) (full : ℕ) (seen : Bool) → Sound (coupled_each n i sent full seen)
unfolding coupled_each
coupled_each_sound zero i sent full seen = absent_sound []
coupled_each_sound (suc n) i sent full seen =
    cons_then_sound (given (sent && nat_lt i full) (tested_bit (zero_where (nat_lt (suc i) full || seen) (Reserved Chincpl))))
    (λ coupled. coupled_each n (suc i) sent full (seen || holds coupled))
    (given_sound _ _ (tested_bit_sound _)) (λ coupled. coupled_each_sound n (suc i) sent full (seen || holds coupled))

joined_each_sound : (n : ℕ) → Sound (joined_each n)
unfolding joined_each
joined_each_sound n = each_sound _ _ _ (λ i. given_sound _ _ (tested_bit_sound _))

pub strategy_sound : (full : ℕ) (stereo begun : Bool) → Sound (strategy full stereo begun)
unfolding strategy
strategy_sound full stereo begun =
    shaped_sound strategy_to strategy_from _ (λ _. refl) (λ _. refl)
    (search (pair_sound, field_sound, tested_bit_sound, given_sound, coupled_each_sound, joined_each_sound) depth 40)

coordinate_each_sound : (bands : ℕ) → Sound (coordinate_each bands)
unfolding coordinate_each
coordinate_each_sound bands =
    alternating_sound _ (each_sound _ _ _ (λ i. pair_sound _ _ (given_sound _ _ (field_sound _ _))
    (λ _. given_sound _ _ (field_sound _ _))))

channel_shared_sound : (coupled may : Bool) (bands : ℕ) → Sound (channel_shared coupled may bands)
unfolding channel_shared
channel_shared_sound coupled may bands =
    shaped_sound channel_to channel_from _ (λ _. refl) (λ _. refl)
    (search (pair_sound, field_sound, tested_bit_sound, given_sound, coordinate_each_sound) depth 20)

shared_each_sound : (known : Known) (c : Coupling) → Sound (shared_each known c)
unfolding shared_each
shared_each_sound known c = each_sound _ _ _ (λ i. channel_shared_sound _ _ _)

phase_each_sound : (bands : ℕ) → Sound (phase_each bands)
unfolding phase_each
phase_each_sound bands = each_sound _ _ _ (λ i. given_sound _ _ (tested_bit_sound _))

pub shared_sound : (known : Known) (c : Coupling) → Sound (shared known c)
unfolding shared
shared_sound known c =
    fitted_sound shared_to shared_from SharedFits _
    (λ p h. (lengths p.0, ap (λ l. (l, p.1)) (joined_back p.0)))
    (λ x h. shared_same x (shared_again x.cplcoe x.mstrcplco x.cplcoexp x.cplcomant h.0 h.1 h.2))
    (pair_sound _ _ (shared_each_sound known c) (λ channels. phase_each_sound _))

rematrix_each_sound : (bands : ℕ) → Sound (rematrix_each bands)
unfolding rematrix_each
rematrix_each_sound bands = each_sound _ _ _ (λ i. given_sound _ _ (tested_bit_sound _))

strategy_each_sound : (full : ℕ) (known : Known) (c : Coupling) → Sound (strategy_each full known c)
unfolding strategy_each
strategy_each_sound full known c = each_sound _ _ _ (λ i. slot_sound _ _ _ (field_sound _ _))

width_each_sound : (full : ℕ) (c : Coupling) (chexpstr : List ℕ) → Sound (width_each full c chexpstr)
unfolding width_each
width_each_sound full c chexpstr = each_sound _ _ _ (λ i. given_sound _ _ (field_sound _ _))

pub codes_sound : (full : ℕ) (stereo low : Bool) (known : Known) (c : Coupling) → Sound (codes full stereo low known c)
unfolding codes
codes_sound full stereo low known c =
    shaped_sound codes_to codes_from _ (λ _. refl) (λ _. refl)
    (search (pair_sound, field_sound, tested_bit_sound, given_sound, rematrix_each_sound, strategy_each_sound, width_each_sound) depth 40)

exponents_each_sound : (c : Coupling) (k : Codes) → Sound (exponents_each c k)
unfolding exponents_each
exponents_each_sound c k =
    alternating_sound _ (each_sound _ _ _ (λ i. pair_sound _ _ (given_sound _ _ (spelled_row_sound _ _ _))
    (λ _. given_sound _ _ (field_sound _ _))))

pub exponents_sound : (full : ℕ) (c : Coupling) (k : Codes) → Sound (exponents full c k)
unfolding exponents
exponents_sound full c k =
    shaped_sound exponents_to exponents_from _ (λ _. refl) (λ _. refl)
    (search (pair_sound, given_sound, spelled_row_sound, exponents_each_sound) depth 20)

offset_each_sound : (full : ℕ) → Sound (offset_each full)
unfolding offset_each
offset_each_sound full =
    alternating_sound _ (each_sound _ _ _ (λ i. pair_sound _ _ (given_sound _ _ (field_sound _ _))
    (λ _. given_sound _ _ (field_sound _ _))))

parameters_sound : (begun : Bool) → Sound (parameters begun)
unfolding parameters
parameters_sound begun = search (pair_sound, field_sound, tested_bit_sound, given_sound) depth 40

offsets_sound : (full : ℕ) (low : Bool) (known : Known) (c : Coupling) → Sound (offsets full low known c)
unfolding offsets
offsets_sound full low known c = search (pair_sound, field_sound, tested_bit_sound, given_sound, offset_each_sound) depth 40

leaks_sound : (known : Known) (c : Coupling) → Sound (leaks known c)
unfolding leaks
leaks_sound known c = search (pair_sound, field_sound, tested_bit_sound, given_sound) depth 20

pub allocation_sound : (full : ℕ) (low : Bool) (known : Known) (c : Coupling) → Sound (allocation full low known c)
unfolding allocation
allocation_sound full low known c =
    shaped_sound allocation_to allocation_from _ (λ _. refl) (λ _. refl)
    (search (pair_sound, parameters_sound, offsets_sound, leaks_sound) depth 20)

pub rest_sound : Sound rest
unfolding rest
rest_sound =
    shaped_sound rest_to rest_from _ (λ _. refl) (λ _. refl) (search (pair_sound, field_sound, tested_bit_sound, given_sound) depth 20)

pub block_rows_sound : (full : ℕ) (stereo low : Bool) (known : Known) → Sound (block_rows full stereo low known)
unfolding block_rows
block_rows_sound full stereo low known =
    shaped_sound groups_to groups_from _ (λ _. refl) (λ _. refl)
    (search (pair_sound, start_sound, strategy_sound, shared_sound, codes_sound, exponents_sound, allocation_sound, rest_sound) depth 40)

pub block_fields_sound : (h : Head) (earlier : List Block) → Sound (block_fields h earlier)
unfolding block_fields
block_fields_sound h earlier = block_rows_sound _ _ _ _

pub whole_block_sound : (h : Head) (earlier : List Block) → Sound (whole_block h earlier)
unfolding whole_block
whole_block_sound h earlier =
    pair_sound (block_fields h earlier) (λ b. free (skip_bits b)) (block_fields_sound h earlier) (λ b. free_sound (skip_bits b))

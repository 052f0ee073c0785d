-- The steps of a frame, put together.
use Rattle.std.proofs.Common.{◌≡◌, ◌≢◌, ℕ, ◌+◌, ◌*◌, ◌/◌, ◌%◌, ◌^◌, ◌<◌, ◌≤◌, Bool, true, false, nat_lt, List, set, length, ℤ, pos, slice_index_or, unsigned_abs, Result, Ok, Err, ap, ap₂, sym, subst, ◌∙◌, arith, inl, inr}
use Rattle.std.specs.Prelude.{if◌then◌else◌}
use Rattle.std.proofs.lemmas.Bool.{cases_lt, lt-ltb, le-ltb}
use Rattle.std.proofs.lemmas.List.{get_or-set_same, get_or-set_other}
use Rattle.ac_base.specs.Shape.{full_of, count_of}
use Rattle.ac_base.specs.Sigma.{Within}
use Rattle.ac_energy.specs.Coefficients.{entry}
use Rattle.ac_mdct.specs.Inverse.{part}
use Rattle.ac_reading.proofs.HeldSpells.{full_most}
use Rattle.ac_record.specs.declared.codes.FrameFault.{FrameFault}
use Rattle.ac_record.specs.Frames.{FrameCodes}
use Rattle.ac_rows.specs.Blocks.{Block}
use Rattle.ac_rows.specs.Filled.{holds}
use Rattle.ac_separation.specs.Separation.{uncoupled_of, unrematrixed_of}
use Rattle.ac_dec.specs.declared.kind.Heard.{Heard}
use Rattle.ac_dec.specs.Decoding.{IsHeard}
use Rattle.ac_dec.specs.Heard.{block_at, values_of, separated_of, coded_at, heard_of, channels_of}
use Rattle.ac_dec.specs.Separated.{HasBlock, HasValues, HasSeparated}
use Rattle.ac_dec.specs.Sound.{block_list, delay_at, sample_at}
use Rattle.ac_dec.specs.Sounding.{row_at, coded_block, AreSounds, AreRest}
use Rattle.ac_dec.proofs.Alike.{Same, uncoupled_same, unrematrixed_same, heard_is}
use Rattle.ac_dec.proofs.Lists.{SameFront, at_list, delay_same, sample_same, sample_within}

-- ---- a block taken apart

both_apart : (g : FrameCodes) (b : ℕ) (f : Block) (old mid new : List (List (List ℤ))) → HasValues g b old
    → Same (λ c k. entry mid c b k) (uncoupled_of g.head f (λ c k. entry old c b k)) → Same (λ c k. entry new c b k) (unrematrixed_of g.head f (λ c k. entry mid c b k))
    → Same (λ c k. entry new c b k) (unrematrixed_of g.head f (uncoupled_of g.head f (values_of g b)))
both_apart g b f old mid new has first second c k small below =
    second c k small below
    ∙ unrematrixed_same g.head f (λ c k. entry mid c b k) (uncoupled_of g.head f (values_of g b))
    (λ d j s t. first d j s t ∙ uncoupled_same g.head f (λ c k. entry old c b k) (values_of g b) has.is d j s t) c k small below

pub block_apart : (g : FrameCodes) (b : ℕ) (f : Block) (old mid new : List (List (List ℤ))) → f ≡ block_at g b → HasValues g b old
    → Same (λ c k. entry mid c b k) (uncoupled_of g.head f (λ c k. entry old c b k)) → Same (λ c k. entry new c b k) (unrematrixed_of g.head f (λ c k. entry mid c b k))
    → ((c k : ℕ) → c < 7 → k < 256 → unsigned_abs (entry new c b k) ≤ 2 ^ 24) → HasSeparated g b new
block_apart g b f old mid new e has first second small = record {
  is = subst (λ (x : Block). Same (λ c k. entry new c b k) (unrematrixed_of g.head x (uncoupled_of g.head x (values_of g b)))) e (both_apart g b f old mid new has first second);
  small = small;
}

-- ---- the blocks that are done, and those that are left

pub block_kept : (x : ℕ → ℕ → ℤ) (b n : ℕ) (old new : List (List (List ℤ))) → ((c e k : ℕ) → e ≢ n → entry new c e k ≡ entry old c e k) → b ≢ n → HasBlock x b old → HasBlock x b new
block_kept x b n old new rest other has = record {
  is = λ c k small below. rest c b k other ∙ has.is c k small below;
  small = λ c k small below. subst (λ (z : ℤ). unsigned_abs z ≤ 2 ^ 24) (sym (rest c b k other)) (has.small c k small below);
}

pub done_more : (g : FrameCodes) (n : ℕ) (old new : List (List (List ℤ))) → ((c e k : ℕ) → e ≢ n → entry new c e k ≡ entry old c e k) → HasSeparated g n new
    → ((b : ℕ) → b < n → HasSeparated g b old) → (b : ℕ) → b < n + 1 → HasSeparated g b new
done_more g n old new rest here before b lt = elim (cases_lt b n) [
  | inl earlier ↦ block_kept (separated_of g b) b n old new rest (λ e. omega (arith, earlier, e)) (before b earlier)
  | inr last ↦ let same : n ≡ b = omega (arith, lt, last) in subst (λ (m : ℕ). HasSeparated g m new) same here
]

pub left_more : (g : FrameCodes) (n : ℕ) (old new : List (List (List ℤ))) → ((c e k : ℕ) → e ≢ n → entry new c e k ≡ entry old c e k)
    → ((b : ℕ) → n ≤ b → b < 6 → HasValues g b old) → (b : ℕ) → n + 1 ≤ b → b < 6 → HasValues g b new
left_more g n old new rest before b le lt = block_kept (values_of g b) b n old new rest (λ e. omega (arith, le, e)) (before b (omega (arith, le)) lt)

pub used_more : (g : FrameCodes) (n : ℕ) (old : List Bool) (r : Bool) → n < length old → r ≡ holds (block_at g n).cplinu
    → ((b : ℕ) → b < n → slice_index_or old b false ≡ holds (block_at g b).cplinu) → (b : ℕ) → b < n + 1 → slice_index_or (set old n r) b false ≡ holds (block_at g b).cplinu
used_more g n old r room here before b lt = elim (cases_lt b n) [
  | inl earlier ↦ get_or-set_other old n b r false (λ e. omega (arith, earlier, e)) ∙ before b earlier
  | inr last ↦
      let same : n ≡ b = omega (arith, lt, last) in
      subst (λ (m : ℕ). slice_index_or (set old n r) m false ≡ holds (block_at g m).cplinu) same (get_or-set_same old n r false room ∙ here)
]

-- ---- the rows of what is heard

low_most : (t : Bool) → count_of t ≤ 1
low_most true = omega arith
low_most false = omega arith

coded_small : (t : Bool) (full c : ℕ) → full ≤ 5 → (if nat_lt c full then c else full + count_of t) < 7
coded_small t full c few =
    let one = low_most t in
    elim (cases_lt c full) [
      | inl lt ↦ rw (lt-ltb c full lt) (omega (arith, lt, few))
      | inr le ↦ rw (le-ltb c full le) (omega (arith, one, few))
    ]

-- where the coefficients stand behind the separation
pub record Stand (g : FrameCodes) (full : ℕ) (used : List Bool) (coefs : List (List (List ℤ))) : Type 0 where
  pub is_full : full ≡ full_of g.head.acmod
  pub is_used : (b : ℕ) → b < 6 → slice_index_or used b false ≡ holds (block_at g b).cplinu
  pub are : (b : ℕ) → b < 6 → HasSeparated g b coefs

row_is : (g : FrameCodes) (full : ℕ) (used : List Bool) (coefs : List (List (List ℤ))) (c b : ℕ) → Stand g full used coefs → b < 6 → row_at full used c b ≡ coded_at g c b
row_is g full used coefs c b s lt = ap₂ (λ (n : ℕ) (t : Bool). if nat_lt c n then c else n + count_of t) s.is_full (s.is_used b lt)

front_is : (g : FrameCodes) (full : ℕ) (used : List Bool) (coefs : List (List (List ℤ))) (c b : ℕ) → Stand g full used coefs → b < 6 → SameFront (coded_block coefs full used c b) (block_list (heard_of g c) b)
front_is g full used coefs c b s lt k below =
    let row = coded_at g c b in
    let small : row < 7 = coded_small (holds (block_at g b).cplinu) (full_of g.head.acmod) c (full_most g.head.acmod) in
    ap (λ (r : ℕ). entry coefs r b k) (row_is g full used coefs c b s lt)
    ∙ ((s.are b lt).is row k small below ∙ (sym (heard_is g c b k) ∙ sym (at_list (heard_of g c) b k below)))

pub rows_within : (g : FrameCodes) (full : ℕ) (used : List Bool) (coefs : List (List (List ℤ))) (c b : ℕ) → Stand g full used coefs → b < 6 → Within (2 ^ 24) 256 (coded_block coefs full used c b)
rows_within g full used coefs c b s lt k below =
    let small : coded_at g c b < 7 = coded_small (holds (block_at g b).cplinu) (full_of g.head.acmod) c (full_most g.head.acmod) in
    subst (λ (r : ℕ). unsigned_abs (entry coefs r b k) ≤ 2 ^ 24) (sym (row_is g full used coefs c b s lt)) ((s.are b lt).small (coded_at g c b) k small below)

pub samples_are : (g : FrameCodes) (full : ℕ) (used : List Bool) (coefs : List (List (List ℤ))) (c : ℕ) (first out : List ℤ) → Stand g full used coefs → AreSounds (coded_block coefs full used c) first 6 out
    → (b t : ℕ) → b < 6 → t < 256 → slice_index_or out (256 * b + t) (pos 0) ≡ sample_at first (block_list (heard_of g c)) b t
samples_are g full used coefs c first out s are b t lt below =
    are b t lt below ∙ sample_same first (coded_block coefs full used c) (block_list (heard_of g c)) b (λ e le. front_is g full used coefs c e s (omega (arith, le, lt))) t

pub rest_is : (g : FrameCodes) (full : ℕ) (used : List Bool) (coefs : List (List (List ℤ))) (c : ℕ) (first delay : List ℤ) → Stand g full used coefs → AreRest (coded_block coefs full used c) first 6 delay
    → (t : ℕ) → t < 256 → slice_index_or delay t (pos 0) ≡ delay_at first (block_list (heard_of g c)) 6 t
rest_is g full used coefs c first delay s is t below =
    is t below ∙ delay_same first (coded_block coefs full used c) (block_list (heard_of g c)) 6 (λ e lt. front_is g full used coefs c e s lt) t

-- ---- samples have 24 bits

pub samples_within : (first out : List ℤ) (blocks : ℕ → List ℤ) → ((b t : ℕ) → b < 6 → t < 256 → slice_index_or out (256 * b + t) (pos 0) ≡ sample_at first blocks b t) → Within (2 ^ 23) 1536 out
samples_within first out blocks are i lt =
    let b = i / 256 in
    let t = i % 256 in
    let at : 256 * b + t ≡ i = omega arith in
    let few : b < 6 = omega (arith, lt) in
    let below : t < 256 = omega arith in
    subst (λ (z : ℤ). unsigned_abs z ≤ 2 ^ 23) (sym (are b t few below) ∙ ap (λ (j : ℕ). slice_index_or out j (pos 0)) at) (sample_within (part (blocks b) t) (delay_at first blocks b t))

-- ---- answers

-- what is told of a frame tells its channels
pub heard_channels : (g : FrameCodes) (heard : Heard) → IsHeard g heard → full_of heard.acmod + count_of heard.lfe ≡ channels_of g
heard_channels g heard is = ap₂ (λ (n : ℕ) (t : Bool). full_of n + count_of t) is.acmod is.lfe

again : {A B : Type 0} → Result B FrameFault → Result A FrameFault → Result B FrameFault
again other (Ok a) = other
again other (Err e) = Err e

pub err_again : {A B : Type 0} (d e : FrameFault) → ◌≡◌ {A = Result A FrameFault} (Err d) (Err e) → ◌≡◌ {A = Result B FrameFault} (Err d) (Err e)
unfolding again
err_again {A} {B} d e same = ap (again {A = A} {B = B} (Err d)) same

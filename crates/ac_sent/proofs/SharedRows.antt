-- The rows of coordinates, rematrixing and strategies of a block that is sent are lawful.
use Rattle.std.proofs.Common.{◌≡◌, ℕ, zero, suc, ◌+◌, ◌<◌, ◌≤◌, ◌^◌, ◌&&◌, Bool, true, false, replicate, Option, Some, None, nat_lt, nat_le, refl, ap, ap₂, sym, subst, ◌∙◌, arith}
use Rattle.std.specs.Prelude.{is_some, not, if◌then◌else◌}
use Rattle.std.proofs.lemmas.Bool.{lt-ltb, ne_eqb}
use Rattle.ac_base.specs.Shape.{subbands, rematrix_bands}
use Rattle.ac_codec.specs.declared.refused.Refused.TheVariants.{NoReuse}
use Rattle.ac_codec.specs.declared.refused.Row.TheVariants.{Cplcoe, Rematstr, Cplexpstr, Chexpstr, Lfeexpstr, Chbwcod}
use Rattle.ac_codec.specs.Codec.{Codec, each, given, slot, SlotLawful, pair, shaped, fitted, field, tested_bit, flag, any, below, reused, zero_where}
use Rattle.ac_rows.specs.declared.groups.ChannelShared.{ChannelShared}
use Rattle.ac_rows.specs.declared.groups.Shared.{Shared}
use Rattle.ac_rows.specs.declared.groups.Codes.{Codes}
use Rattle.ac_rows.specs.declared.groups.Coupling.{Coupling}
use Rattle.ac_rows.specs.declared.groups.Known.{Known}
use Rattle.ac_rows.specs.Filled.{holds, listed, channel_coupled}
use Rattle.ac_rows.specs.Known.{may_keep_coordinates, may_keep_shared, may_keep_channel}
use Rattle.ac_rows.specs.BlockRows.{alternating, coordinate_each, channel_shared, shared_each, phase_each, shared, rematrix_each, strategy_each, has_width, width_each, codes}
use Rattle.ac_sent.specs.Fields.{when}
use Rattle.ac_sent.proofs.Listed.{entry_at, length-listed, each_lawful, zipped_listed, channel_with, joined_listed, given_when, given_not}
use Rattle.ac_sent.proofs.Tests.{zero_true, zero_may, none_below, and_not}

-- the coupling that holds in each block
abbrev pub sent_coupling : ℕ → Option (ℕ × ℕ) → Coupling
sent_coupling full couple =
    record { range = couple; coupled = listed 5 0 (λ i. is_some couple && nat_lt i full); phases = false; bands = subbands couple }

pub channel_is_coupled : (full : ℕ) (couple : Option (ℕ × ℕ)) (i : ℕ) → i < 5 → channel_coupled (sent_coupling full couple) i ≡ (is_some couple && nat_lt i full)
channel_is_coupled full couple i lt = entry_at 5 (λ j. is_some couple && nat_lt j full) i false lt

-- ---- coordinates
two_rows : ℕ → ℕ → Codec (Option ℕ × Option ℕ)
two_rows n k = pair (given (nat_lt k n) (field 4 any)) (λ _. given (nat_lt k n) (field 4 any))

two_lawful : (n k x y : ℕ) → (nat_lt k n ≡ true → (x ≤ 15) × (y ≤ 15)) → (two_rows n k).Lawful (when (nat_lt k n) x, when (nat_lt k n) y)
unfolding two_rows pair field
two_lawful n k x y small = (
  given_when (nat_lt k n) (field 4 any) x (λ e. let s = small e in (omega (arith, s.0), refl)),
  given_when (nat_lt k n) (field 4 any) y (λ e. let s = small e in (omega (arith, s.1), refl)),
)

two_none : (k : ℕ) → (two_rows 0 k).Lawful (None, None)
unfolding two_rows pair
two_none k = (given_not (nat_lt k 0) (field 4 any) (none_below k), given_not (nat_lt k 0) (field 4 any) (none_below k))

coordinates_by : (n : ℕ) (f g : ℕ → Option ℕ) → ((k : ℕ) → (two_rows n k).Lawful (f k, g k)) → (coordinate_each n).Lawful (listed 18 0 f, listed 18 0 g)
unfolding coordinate_each alternating fitted two_rows
coordinates_by n f g h = (
  length-listed 18 0 f ∙ sym (length-listed 18 0 g),
  subst (each 18 0 (two_rows n)).Lawful (sym (zipped_listed 18 0 f g)) (each_lawful 18 0 (two_rows n) (λ k. (f k, g k)) (λ k l m. h k)),
)

coordinates_lawful : (n : ℕ) (x y : ℕ → ℕ) → ((k : ℕ) → nat_lt k n ≡ true → (x k ≤ 15) × (y k ≤ 15)) → (coordinate_each n).Lawful (listed 18 0 (λ k. when (nat_lt k n) (x k)), listed 18 0 (λ k. when (nat_lt k n) (y k)))
coordinates_lawful n x y small = coordinates_by n (λ k. when (nat_lt k n) (x k)) (λ k. when (nat_lt k n) (y k)) (λ k. two_lawful n k (x k) (y k) (small k))

coordinates_none : (coordinate_each 0).Lawful (listed 18 0 (λ k. None), listed 18 0 (λ k. None))
coordinates_none = coordinates_by 0 (λ k. None) (λ k. None) two_none

abbrev sent_channel : Option (ℕ × ℕ) → Bool → Bool → (ℕ → ℕ) → (ℕ → ℕ) → ChannelShared
sent_channel couple first here x y =
    channel_with (when (is_some couple && here) first) (when (first && is_some couple && here) 0)
    (listed 18 0 (λ k. when (first && here && nat_lt k (subbands couple)) (x k)))
    (listed 18 0 (λ k. when (first && here && nat_lt k (subbands couple)) (y k)))

channel_lawful : (couple : Option (ℕ × ℕ)) (first here may : Bool) (x y : ℕ → ℕ) → (first ≡ false → (is_some couple && here) ≡ true → may ≡ true) → ((k : ℕ) → here ≡ true → nat_lt k (subbands couple) ≡ true → (x k ≤ 15) × (y k ≤ 15))
    → (channel_shared (is_some couple && here) may (subbands couple)).Lawful (sent_channel couple first here x y)
unfolding channel_shared shaped pair tested_bit field
channel_lawful None true false may x y was small = (
  given_not false (tested_bit (zero_where may (NoReuse Cplcoe))) refl,
  (given_not false (field 2 any) refl, coordinates_none),
)
channel_lawful None false false may x y was small = (
  given_not false (tested_bit (zero_where may (NoReuse Cplcoe))) refl,
  (given_not false (field 2 any) refl, coordinates_none),
)
channel_lawful None true true may x y was small = (
  given_not false (tested_bit (zero_where may (NoReuse Cplcoe))) refl,
  (given_not false (field 2 any) refl, coordinates_lawful 0 x y (λ k e. small k refl e)),
)
channel_lawful None false true may x y was small = (
  given_not false (tested_bit (zero_where may (NoReuse Cplcoe))) refl,
  (given_not false (field 2 any) refl, coordinates_none),
)
channel_lawful (Some p) true false may x y was small = (
  given_not false (tested_bit (zero_where may (NoReuse Cplcoe))) refl,
  (given_not false (field 2 any) refl, coordinates_none),
)
channel_lawful (Some p) false false may x y was small = (
  given_not false (tested_bit (zero_where may (NoReuse Cplcoe))) refl,
  (given_not false (field 2 any) refl, coordinates_none),
)
channel_lawful (Some p) true true may x y was small = (
  given_when true (tested_bit (zero_where may (NoReuse Cplcoe))) true (λ e. zero_true may (NoReuse Cplcoe)),
  (given_when true (field 2 any) 0 (λ e. (omega arith, refl)), coordinates_lawful (subbands (Some p)) x y (λ k e. small k refl e)),
)
channel_lawful (Some p) false true may x y was small = (
  given_when true (tested_bit (zero_where may (NoReuse Cplcoe))) false (λ e. zero_may may (NoReuse Cplcoe) false (was refl refl)),
  (given_not false (field 2 any) refl, coordinates_none),
)

no_flag : ℕ → Option Bool
no_flag k = None

none_listed : listed 18 0 no_flag ≡ replicate 18 None
unfolding listed no_flag
none_listed = refl

phases_none : (phase_each 0).Lawful (replicate 18 None)
unfolding phase_each no_flag
phases_none =
    subst (each 18 0 (λ k. given (nat_le 0 k && nat_lt k 0) flag)).Lawful none_listed
    (each_lawful 18 0 (λ k. given (nat_le 0 k && nat_lt k 0) flag) no_flag (λ k l m. given_not (nat_le 0 k && nat_lt k 0) flag (and_not (nat_le 0 k) (nat_lt k 0) (none_below k))))

abbrev pub sent_shared : ℕ → Option (ℕ × ℕ) → Bool → (ℕ → ℕ → ℕ) → (ℕ → ℕ → ℕ) → Shared
sent_shared full couple first x y = record {
  cplcoe = listed 5 0 (λ i. when (is_some couple && nat_lt i full) first);
  mstrcplco = listed 5 0 (λ i. when (first && is_some couple && nat_lt i full) 0);
  cplcoexp = listed 5 0 (λ i. listed 18 0 (λ k. when (first && nat_lt i full && nat_lt k (subbands couple)) (x i k)));
  cplcomant = listed 5 0 (λ i. listed 18 0 (λ k. when (first && nat_lt i full && nat_lt k (subbands couple)) (y i k)));
  phsflg = replicate 18 None;
}

pub shared_lawful : (known : Known) (full : ℕ) (couple : Option (ℕ × ℕ)) (first : Bool) (x y : ℕ → ℕ → ℕ)
    → ((i : ℕ) → i < 5 → first ≡ false → (is_some couple && nat_lt i full) ≡ true → may_keep_coordinates known (sent_coupling full couple) i ≡ true)
    → ((i k : ℕ) → nat_lt i full ≡ true → nat_lt k (subbands couple) ≡ true → (x i k ≤ 15) × (y i k ≤ 15))
    → (shared known (sent_coupling full couple)).Lawful (sent_shared full couple first x y)
unfolding shared fitted pair shared_each
shared_lawful known full couple first x y was small =
    let c = sent_coupling full couple in
    let s = sent_shared full couple first x y in
    let row = λ (i : ℕ). channel_shared (channel_coupled c i) (may_keep_coordinates known c i) c.bands in
    let at = λ (i : ℕ). sent_channel couple first (nat_lt i full) (x i) (y i) in
    let same = joined_listed 5 0 (λ i. when (is_some couple && nat_lt i full) first) (λ i. when (first && is_some couple && nat_lt i full) 0) (λ i. listed 18 0 (λ k. when (first && nat_lt i full && nat_lt k (subbands couple)) (x i k))) (λ i. listed 18 0 (λ k. when (first && nat_lt i full && nat_lt k (subbands couple)) (y i k))) in
    let one : (i : ℕ) → 0 ≤ i → i < 0 + 5 → (row i).Lawful (at i) = λ i l m.
    subst (λ (b : Bool). (channel_shared b (may_keep_coordinates known c i) c.bands).Lawful (at i)) (sym (channel_is_coupled full couple i (omega arith)))
    (channel_lawful couple first (nat_lt i full) (may_keep_coordinates known c i) (x i) (y i) (was i (omega arith)) (λ k. small i k)) in (
      (length-listed 5 0 _ ∙ sym (length-listed 5 0 _), length-listed 5 0 _ ∙ sym (length-listed 5 0 _), length-listed 5 0 _ ∙ sym (length-listed 5 0 _)),
      (subst (each 5 0 row).Lawful (sym same) (each_lawful 5 0 row at one), phases_none),
    )

-- ---- rematrixing, strategies, bandwidths
abbrev pub sent_codes : ℕ → Bool → Bool → ℕ → Option (ℕ × ℕ) → (ℕ → Bool) → (ℕ → ℕ) → ℕ → Bool → Codes
sent_codes full stereo low bw couple remat code last first = record {
  rematstr = when stereo first;
  rematflg = listed 4 0 (λ k. when (first && stereo && nat_lt k (rematrix_bands couple)) (remat k));
  cplexpstr = when (is_some couple) (code full);
  chexpstr = listed 5 0 (λ i. if nat_lt i full then code i else 0);
  lfeexpstr = when low (nat_lt 0 (code last));
  chbwcod = listed 5 0 (λ i. when (nat_lt i full && not (is_some couple) && nat_lt 0 (code i)) bw);
}

remat_lawful : (n : ℕ) (stereo first : Bool) (remat : ℕ → Bool) → (rematrix_each (if holds (when stereo first) then n else 0)).Lawful (listed 4 0 (λ k. when (first && stereo && nat_lt k n) (remat k)))
unfolding rematrix_each tested_bit
remat_lawful n true true remat = each_lawful 4 0 (λ k. given (nat_lt k n) flag) (λ k. when (nat_lt k n) (remat k)) (λ k l m. given_when (nat_lt k n) flag (remat k) (λ e. refl))
remat_lawful n true false remat = each_lawful 4 0 (λ k. given (nat_lt k 0) flag) (λ k. None) (λ k l m. given_not (nat_lt k 0) flag (none_below k))
remat_lawful n false true remat = each_lawful 4 0 (λ k. given (nat_lt k 0) flag) (λ k. None) (λ k l m. given_not (nat_lt k 0) flag (none_below k))
remat_lawful n false false remat = each_lawful 4 0 (λ k. given (nat_lt k 0) flag) (λ k. None) (λ k l m. given_not (nat_lt k 0) flag (none_below k))

-- a code of a channel that may be kept where it is 0
reuse_lawful : (may : Bool) (v : ℕ) → (v ≡ 0 → may ≡ true) → (row : _) → reused may row v ≡ None
reuse_lawful true v h row = refl
reuse_lawful false zero h row = let e = h refl in absurd cc
reuse_lawful false (suc v) h row = rw (ne_eqb (suc v) 0 (omega arith)) refl

slot_lawful : (there may : Bool) (v : ℕ) → (there ≡ true → v ≤ 3) → (there ≡ true → v ≡ 0 → may ≡ true) → SlotLawful there 0 (λ x. (x < 2 ^ 2) × (reused may Chexpstr x ≡ None)) (if there then v else 0)
slot_lawful true may v small was = let s = small refl in (omega (arith, s), reuse_lawful may v (was refl) Chexpstr)
slot_lawful false may v small was = refl

strategies_lawful : (full : ℕ) (known : Known) (c : Coupling) (code : ℕ → ℕ) → ((i : ℕ) → nat_lt i full ≡ true → code i ≤ 3) → ((i : ℕ) → i < 5 → nat_lt i full ≡ true → code i ≡ 0 → may_keep_channel known c i ≡ true)
    → (strategy_each full known c).Lawful (listed 5 0 (λ i. if nat_lt i full then code i else 0))
unfolding strategy_each slot field
strategies_lawful full known c code small was =
    each_lawful 5 0 (λ i. slot (nat_lt i full) 0 (field 2 (reused (may_keep_channel known c i) Chexpstr))) (λ i. if nat_lt i full then code i else 0)
    (λ i l m. slot_lawful (nat_lt i full) (may_keep_channel known c i) (code i) (small i) (was i (omega arith)))

-- a bandwidth stands where a channel isn't coupled and sends exponents
width_there : (here coupled : Bool) (v : ℕ) → (here && (not (coupled && here) && nat_lt 0 (if here then v else 0))) ≡ (here && not coupled && nat_lt 0 v)
width_there true true v = refl
width_there true false v = refl
width_there false coupled v = refl

widths_lawful : (full : ℕ) (couple : Option (ℕ × ℕ)) (code : ℕ → ℕ) (bw : ℕ) → bw ≤ 60
    → (width_each full (sent_coupling full couple) (listed 5 0 (λ i. if nat_lt i full then code i else 0))).Lawful (listed 5 0 (λ i. when (nat_lt i full && not (is_some couple) && nat_lt 0 (code i)) bw))
unfolding width_each field
widths_lawful full couple code bw small =
    let c = sent_coupling full couple in
    let codes_sent = listed 5 0 (λ i. if nat_lt i full then code i else 0) in
    each_lawful 5 0 (λ i. given (has_width full c codes_sent i) (field 6 (below 61 Chbwcod))) (λ i. when (nat_lt i full && not (is_some couple) && nat_lt 0 (code i)) bw)
    (λ i l m.
    let a = channel_is_coupled full couple i (omega arith) in
    let b = entry_at 5 (λ j. if nat_lt j full then code j else 0) i 0 (omega arith) in
    let P : Bool → ℕ → Bool = λ x v. nat_lt i full && (not x && nat_lt 0 v) in
    let there : has_width full c codes_sent i ≡ (nat_lt i full && not (is_some couple) && nat_lt 0 (code i)) = ap₂ P a b ∙ width_there (nat_lt i full) (is_some couple) (code i) in
    subst (λ (t : Bool). (given t (field 6 (below 61 Chbwcod))).Lawful (when (nat_lt i full && not (is_some couple) && nat_lt 0 (code i)) bw)) (sym there)
    (given_when (nat_lt i full && not (is_some couple) && nat_lt 0 (code i)) (field 6 (below 61 Chbwcod)) bw (λ e. (omega (arith, small), rw (lt-ltb bw 61 (omega (arith, small))) refl))))

started : (first may : Bool) → (first ≡ false → may ≡ true) → zero_where may (NoReuse Rematstr) first ≡ None
started true may was = zero_true may (NoReuse Rematstr)
started false may was = zero_may may (NoReuse Rematstr) false (was refl)

low_lawful : (may : Bool) (v : ℕ) → (v ≡ 0 → may ≡ true) → zero_where may (NoReuse Lfeexpstr) (nat_lt 0 v) ≡ None
low_lawful may zero was = zero_may may (NoReuse Lfeexpstr) false (was refl)
low_lawful may (suc v) was = ap (zero_where may (NoReuse Lfeexpstr)) (lt-ltb 0 (suc v) (omega arith)) ∙ zero_true may (NoReuse Lfeexpstr)

pub codes_lawful : (full : ℕ) (stereo low : Bool) (known : Known) (bw : ℕ) (couple : Option (ℕ × ℕ)) (remat : ℕ → Bool) (code : ℕ → ℕ) (last : ℕ) (first : Bool) → bw ≤ 60
    → (first ≡ false → known.begun ≡ true)
    → ((is_some couple ≡ true) → code full ≤ 3)
    → ((is_some couple ≡ true) → code full ≡ 0 → may_keep_shared known (sent_coupling full couple) ≡ true)
    → ((i : ℕ) → nat_lt i full ≡ true → code i ≤ 3)
    → ((i : ℕ) → i < 5 → nat_lt i full ≡ true → code i ≡ 0 → may_keep_channel known (sent_coupling full couple) i ≡ true)
    → (low ≡ true → code last ≡ 0 → known.low ≡ true)
    → (codes full stereo low known (sent_coupling full couple)).Lawful (sent_codes full stereo low bw couple remat code last first)
unfolding codes shaped pair tested_bit field
codes_lawful full stereo low known bw couple remat code last first narrow begun shared_small shared_kept small kept low_kept =
    let c = sent_coupling full couple in (
      given_when stereo (tested_bit (zero_where known.begun (NoReuse Rematstr))) first (λ e. started first known.begun begun),
      (
        remat_lawful (rematrix_bands couple) stereo first remat,
        (
          given_when (is_some couple) (field 2 (reused (may_keep_shared known c) Cplexpstr)) (code full) (λ e. let s = shared_small e in (omega (arith, s), reuse_lawful (may_keep_shared known c) (code full) (shared_kept e) Cplexpstr)),
          (
            strategies_lawful full known c code small kept,
            (
              given_when low (tested_bit (zero_where known.low (NoReuse Lfeexpstr))) (nat_lt 0 (code last)) (λ e. low_lawful known.low (code last) (low_kept e)),
              widths_lawful full couple code bw narrow,
            ),
          ),
        ),
      ),
    )

-- The rows of exponents and of the bit allocation of a block that is sent are lawful.
use Rattle.std.proofs.Common.{◌≡◌, ℕ, zero, suc, ◌+◌, ◌/◌, ◌%◌, ◌<◌, ◌≤◌, ◌&&◌, ◌||◌, Bool, true, false, List, [], ◌∷◌, ◌++◌, slice_index, Option, Some, None, nat_lt, refl, ap, ap₂, sym, subst, ◌∙◌, arith}
use Rattle.std.specs.Prelude.{is_some, not, if◌then◌else◌}
use Rattle.std.proofs.lemmas.Bool.{lt-ltb, ltb-true}
use Rattle.ac_base.specs.declared.spans.Span.{Span}
use Rattle.ac_base.specs.Shape.{full_span, next_span, low_span, count_of, IsSpan}
use Rattle.ac_base.specs.Spans.{IsKind, groups_of}
use Rattle.ac_base.specs.Profile.{sent_sdcycod, sent_fdcycod, sent_sgaincod, sent_dbpbcod, sent_floorcod, sent_fgaincod, sent_cplfleak, sent_cplsleak}
use Rattle.ac_codec.specs.declared.refused.Refused.TheVariants.{NoReuse}
use Rattle.ac_codec.specs.declared.refused.Row.TheVariants.{Baie, Snroffste, Cplleake}
use Rattle.ac_codec.specs.Codec.{Codec, each, cons, absent, given, pair, shaped, fitted, field, single, tested_bit, any, zero_where}
use Rattle.ac_expo.specs.Greatest.{IsSpellable}
use Rattle.ac_expo.specs.Groups.{group_of, groups_below, spelled_of}
use Rattle.ac_expo.specs.Spelling.{Spelling}
use Rattle.ac_expo.proofs.Places.{placed, first_small}
use Rattle.ac_expo.proofs.Spellings.{group_small, back}
use Rattle.ac_rows.specs.declared.groups.Exponents.{Exponents}
use Rattle.ac_rows.specs.declared.groups.Allocation.{Allocation}
use Rattle.ac_rows.specs.declared.groups.Known.{Known}
use Rattle.ac_rows.specs.Filled.{holds, number, listed}
use Rattle.ac_rows.specs.Spelled.{spelled_row, groups_row, bad_exponent}
use Rattle.ac_rows.specs.BlockRows.{alternating, sent_span, exponents_each, exponents, offset_each, parameters, offsets, leaks, allocation}
use Rattle.ac_rows.proofs.Deciding.{when_none}
use Rattle.ac_sent.specs.Fields.{when}
use Rattle.ac_sent.proofs.Listed.{entry_at, length-listed, each_lawful, zipped_listed, given_when, given_not}
use Rattle.ac_sent.proofs.Tests.{zero_true, zero_may, none_below, and_both}
use Rattle.ac_sent.proofs.SharedRows.{sent_coupling, channel_is_coupled, sent_codes}

-- ---- a list of exponents
append_lawful : (n i : ℕ) (xs : List ℕ) (g : ℕ) → (each n i (λ _. field 7 any)).Lawful xs → g ≤ 124 → (each (suc n) i (λ _. field 7 any)).Lawful (xs ++ g ∷ [])
unfolding each cons absent field
append_lawful zero i [] g h small = ((omega (arith, small), refl), refl)
append_lawful zero i (x ∷ xs) g h small = absurd cc
append_lawful (suc n) i [] g h small = absurd h
append_lawful (suc n) i (x ∷ xs) g h small = (h.0, append_lawful n (suc i) xs g h.1 small)

no_groups : (each 0 0 (λ _. field 7 any)).Lawful []
unfolding each absent
no_groups = refl

groups_lawful : (kind : ℕ) (span : Span) (exps : List ℕ) (n : ℕ) → ((place : ℕ) → group_of kind span exps place ≤ 124) → (each n 0 (λ _. field 7 any)).Lawful (groups_below kind span exps n)
unfolding groups_below
groups_lawful kind span exps zero small = no_groups
groups_lawful kind span exps (suc n) small = append_lawful n 0 (groups_below kind span exps n) (group_of kind span exps n) (groups_lawful kind span exps n small) (small n)

-- a list that its kind can spell is lawful as it is spelled
pub spelled_lawful : (kind : ℕ) (span : Span) (channel : ℕ) (exps : List ℕ) → IsSpan span → IsKind kind span → IsSpellable kind span exps → (spelled_row kind span channel).Lawful (spelled_of kind span exps)
unfolding spelled_row single groups_row shaped pair field
spelled_lawful kind span channel exps is_span is_kind can =
    let p = placed kind span exps is_span is_kind can in
    let none = when_none kind span (spelled_of kind span exps) (back kind span exps is_span is_kind can).0 in
    let first = first_small kind span exps p in (
      ((omega (arith, first), refl), groups_lawful kind span exps (groups_of kind span) (group_small kind span exps is_span p)),
      ap (bad_exponent channel) none,
    )

-- ---- the exponents of a block
abbrev pub sent_exponents : ℕ → Bool → Option (ℕ × ℕ) → (ℕ → ℕ) → (ℕ → Spelling) → ℕ → Exponents
sent_exponents full low couple code spelling last = record {
  cplabsexp = if is_some couple then when (nat_lt 0 (code full)) (spelling full) else None;
  exps = listed 5 0 (λ i. if nat_lt i full then when (nat_lt 0 (code i)) (spelling i) else None);
  gainrng = listed 5 0 (λ i. when (nat_lt i full && nat_lt 0 (code i)) 0);
  lfeexps = if low then when (nat_lt 0 (code last)) (spelling last) else None;
}

channel_row : ℕ → Span → ℕ → Codec (Option Spelling × Option ℕ)
channel_row kind span i = pair (given (nat_lt 0 kind) (spelled_row kind span i)) (λ _. given (nat_lt 0 kind) (field 2 any))

channel_row_lawful : (here : Bool) (code : ℕ) (span : Span) (i : ℕ) (s : Spelling) → (here ≡ true → 0 < code → (spelled_row code span i).Lawful s)
    → (channel_row (if here then code else 0) span i).Lawful (if here then when (nat_lt 0 code) s else None, when (here && nat_lt 0 code) 0)
unfolding channel_row pair field
channel_row_lawful true code span i s h = (
  given_when (nat_lt 0 code) (spelled_row code span i) s (λ e. h refl (ltb-true 0 code e)),
  given_when (nat_lt 0 code) (field 2 any) 0 (λ e. (omega arith, refl)),
)
channel_row_lawful false code span i s h = (given_not false (spelled_row 0 span i) refl, given_not false (field 2 any) refl)

-- the bins of a channel that sends exponents
sent_span_is : (couple : Option (ℕ × ℕ)) (here : Bool) (code bw : ℕ) → here ≡ true → 0 < code
    → full_span (number (when (here && not (is_some couple) && nat_lt 0 code) bw)) (if is_some couple && here then couple else None) ≡ full_span bw couple
sent_span_is None true code bw h some = ap (λ (t : Bool). full_span (number (when t bw)) None) (lt-ltb 0 code some)
sent_span_is (Some p) true code bw h some = refl
sent_span_is couple false code bw h some = absurd cc

alternating_lawful : {A B : Type 0} (row : ℕ → Codec (A × B)) (f : ℕ → A) (g : ℕ → B) → ((k : ℕ) → k < 5 → (row k).Lawful (f k, g k)) → (alternating (each 5 0 row)).Lawful (listed 5 0 f, listed 5 0 g)
unfolding alternating fitted
alternating_lawful row f g h = (
  length-listed 5 0 f ∙ sym (length-listed 5 0 g),
  subst (each 5 0 row).Lawful (sym (zipped_listed 5 0 f g)) (each_lawful 5 0 row (λ k. (f k, g k)) (λ k l m. h k (omega arith))),
)

channels_lawful : (full : ℕ) (stereo low : Bool) (bw : ℕ) (couple : Option (ℕ × ℕ)) (remat : ℕ → Bool) (code : ℕ → ℕ) (spelling : ℕ → Spelling) (last : ℕ) (first : Bool)
    → ((i : ℕ) → nat_lt i full ≡ true → 0 < code i → (spelled_row (code i) (full_span bw couple) i).Lawful (spelling i))
    → (exponents_each (sent_coupling full couple) (sent_codes full stereo low bw couple remat code last first)).Lawful (listed 5 0 (λ i. if nat_lt i full then when (nat_lt 0 (code i)) (spelling i) else None), listed 5 0 (λ i. when (nat_lt i full && nat_lt 0 (code i)) 0))
unfolding exponents_each channel_row
channels_lawful full stereo low bw couple remat code spelling last first can =
    let c = sent_coupling full couple in
    let k = sent_codes full stereo low bw couple remat code last first in
    let row = λ (i : ℕ). channel_row (slice_index k.chexpstr i) (sent_span c k.chbwcod i) i in
    alternating_lawful row (λ i. if nat_lt i full then when (nat_lt 0 (code i)) (spelling i) else None) (λ i. when (nat_lt i full && nat_lt 0 (code i)) 0)
    (λ i lt.
    let a : slice_index k.chexpstr i ≡ (if nat_lt i full then code i else 0) = entry_at 5 (λ j. if nat_lt j full then code j else 0) i 0 lt in
    let b = channel_is_coupled full couple i lt in
    let w = entry_at 5 (λ j. when (nat_lt j full && not (is_some couple) && nat_lt 0 (code j)) bw) i None lt in
    let Q : Option ℕ → Bool → Span = λ o t. full_span (number o) (if t then couple else None) in
    let s : sent_span c k.chbwcod i ≡ Q (when (nat_lt i full && not (is_some couple) && nat_lt 0 (code i)) bw) (is_some couple && nat_lt i full) = ap₂ Q w b in
    subst (λ (n : ℕ). (channel_row n (sent_span c k.chbwcod i) i).Lawful (if nat_lt i full then when (nat_lt 0 (code i)) (spelling i) else None, when (nat_lt i full && nat_lt 0 (code i)) 0)) (sym a)
    (channel_row_lawful (nat_lt i full) (code i) (sent_span c k.chbwcod i) i (spelling i)
    (λ here some. subst (λ (z : Span). (spelled_row (code i) z i).Lawful (spelling i)) (sym (s ∙ sent_span_is couple (nat_lt i full) (code i) bw here some)) (can i here some))))

shared_exponents : (couple : Option (ℕ × ℕ)) (full code : ℕ) (s : Spelling) → (is_some couple ≡ true → 0 < code → (spelled_row code (next_span couple) full).Lawful s)
    → (given (nat_lt 0 (number (when (is_some couple) code))) (spelled_row (number (when (is_some couple) code)) (next_span couple) full)).Lawful (if is_some couple then when (nat_lt 0 code) s else None)
shared_exponents None full code s can = given_not false (spelled_row 0 low_span full) refl
shared_exponents (Some p) full code s can = given_when (nat_lt 0 code) (spelled_row code (next_span (Some p)) full) s (λ e. can refl (ltb-true 0 code e))

low_exponents : (low : Bool) (code channel : ℕ) (s : Spelling) → (low ≡ true → code ≤ 1) → (low ≡ true → 0 < code → (spelled_row code low_span channel).Lawful s)
    → (given (holds (when low (nat_lt 0 code))) (spelled_row 1 low_span channel)).Lawful (if low then when (nat_lt 0 code) s else None)
low_exponents true code channel s small can =
    given_when (nat_lt 0 code) (spelled_row 1 low_span channel) s
    (λ e. let some = ltb-true 0 code e in let one : code ≡ 1 = omega (arith, small refl, some) in subst (λ (n : ℕ). (spelled_row n low_span channel).Lawful s) one (can refl some))
low_exponents false code channel s small can = given_not false (spelled_row 1 low_span channel) refl

pub exponents_lawful : (full : ℕ) (stereo low : Bool) (bw : ℕ) (couple : Option (ℕ × ℕ)) (remat : ℕ → Bool) (code : ℕ → ℕ) (spelling : ℕ → Spelling) (last : ℕ) (first : Bool)
    → ((i : ℕ) → nat_lt i full ≡ true → 0 < code i → (spelled_row (code i) (full_span bw couple) i).Lawful (spelling i))
    → (is_some couple ≡ true → 0 < code full → (spelled_row (code full) (next_span couple) full).Lawful (spelling full))
    → (low ≡ true → code last ≤ 1)
    → (low ≡ true → 0 < code last → (spelled_row (code last) low_span (full + count_of (is_some couple))).Lawful (spelling last))
    → (exponents full (sent_coupling full couple) (sent_codes full stereo low bw couple remat code last first)).Lawful (sent_exponents full low couple code spelling last)
unfolding exponents shaped pair
exponents_lawful full stereo low bw couple remat code spelling last first can shared_can small low_can = (
  shared_exponents couple full (code full) (spelling full) shared_can,
  (
    channels_lawful full stereo low bw couple remat code spelling last first can,
    low_exponents low (code last) (full + count_of (is_some couple)) (spelling last) small low_can,
  ),
)

-- ---- the bit allocation
abbrev pub sent_allocation : ℕ → Bool → Option (ℕ × ℕ) → ℕ → Bool → Allocation
sent_allocation full low couple t first = record {
  baie = first;
  sdcycod = when first sent_sdcycod;
  fdcycod = when first sent_fdcycod;
  sgaincod = when first sent_sgaincod;
  dbpbcod = when first sent_dbpbcod;
  floorcod = when first sent_floorcod;
  snroffste = first;
  csnroffst = when first (t / 16);
  cplfsnroffst = when (first && is_some couple) (t % 16);
  cplfgaincod = when (first && is_some couple) sent_fgaincod;
  fsnroffst = listed 5 0 (λ i. when (first && nat_lt i full) (t % 16));
  fgaincod = listed 5 0 (λ i. when (first && nat_lt i full) sent_fgaincod);
  lfefsnroffst = when (first && low) (t % 16);
  lfefgaincod = when (first && low) sent_fgaincod;
  cplleake = when (is_some couple) first;
  cplfleak = when (first && is_some couple) sent_cplfleak;
  cplsleak = when (first && is_some couple) sent_cplsleak;
}

offset_rows : ℕ → ℕ → Codec (Option ℕ × Option ℕ)
offset_rows n k = pair (given (nat_lt k n) (field 4 any)) (λ _. given (nat_lt k n) (field 3 any))

offsets_by : (n : ℕ) (f g : ℕ → Option ℕ) → ((k : ℕ) → (offset_rows n k).Lawful (f k, g k)) → (offset_each n).Lawful (listed 5 0 f, listed 5 0 g)
unfolding offset_each offset_rows
offsets_by n f g h = alternating_lawful (offset_rows n) f g (λ k lt. h k)

fine_lawful : (n k x : ℕ) → (offset_rows n k).Lawful (when (nat_lt k n) (x % 16), when (nat_lt k n) sent_fgaincod)
unfolding offset_rows pair field
fine_lawful n k x = (
  given_when (nat_lt k n) (field 4 any) (x % 16) (λ e. (omega arith, refl)),
  given_when (nat_lt k n) (field 3 any) sent_fgaincod (λ e. (omega arith, refl)),
)

fine_none : (k : ℕ) → (offset_rows 0 k).Lawful (None, None)
unfolding offset_rows pair
fine_none k = (given_not (nat_lt k 0) (field 4 any) (none_below k), given_not (nat_lt k 0) (field 3 any) (none_below k))

fines_lawful : (full t : ℕ) (first : Bool) → (offset_each (if first then full else 0)).Lawful (listed 5 0 (λ i. when (first && nat_lt i full) (t % 16)), listed 5 0 (λ i. when (first && nat_lt i full) sent_fgaincod))
fines_lawful full t true = offsets_by full (λ i. when (nat_lt i full) (t % 16)) (λ i. when (nat_lt i full) sent_fgaincod) (λ k. fine_lawful full k t)
fines_lawful full t false = offsets_by 0 (λ i. None) (λ i. None) fine_none

kept_flag : (first may : Bool) → (first ≡ false → may ≡ true) → zero_where may (NoReuse Baie) first ≡ None
kept_flag true may was = zero_true may (NoReuse Baie)
kept_flag false may was = zero_may may (NoReuse Baie) false (was refl)

offset_may : (begun offset used : Bool) → begun ≡ true → (used ≡ true → offset ≡ true) → (begun && (not used || offset)) ≡ true
offset_may begun offset true e h = and_both begun offset e (h refl)
offset_may begun offset false e h = and_both begun true e refl

kept_offset : (first begun offset used : Bool) → (first ≡ false → begun ≡ true) → (first ≡ false → used ≡ true → offset ≡ true) → zero_where (begun && (not used || offset)) (NoReuse Snroffste) first ≡ None
kept_offset true begun offset used was kept = zero_true (begun && (not used || offset)) (NoReuse Snroffste)
kept_offset false begun offset used was kept = zero_may (begun && (not used || offset)) (NoReuse Snroffste) false (offset_may begun offset used (was refl) (kept refl))

parameters_lawful : (begun first : Bool) → (first ≡ false → begun ≡ true) → (parameters begun).Lawful (first, (when first sent_sdcycod, (when first sent_fdcycod, (when first sent_sgaincod, (when first sent_dbpbcod, when first sent_floorcod)))))
unfolding parameters pair tested_bit field
parameters_lawful begun first was = (
  kept_flag first begun was,
  (
    given_when first (field 2 any) sent_sdcycod (λ e. (omega arith, refl)),
    (
      given_when first (field 2 any) sent_fdcycod (λ e. (omega arith, refl)),
      (
        given_when first (field 2 any) sent_sgaincod (λ e. (omega arith, refl)),
        (given_when first (field 2 any) sent_dbpbcod (λ e. (omega arith, refl)), given_when first (field 3 any) sent_floorcod (λ e. (omega arith, refl))),
      ),
    ),
  ),
)

offsets_lawful : (full : ℕ) (low : Bool) (known : Known) (couple : Option (ℕ × ℕ)) (t : ℕ) (first : Bool) → t ≤ 1023 → (first ≡ false → known.begun ≡ true) → (first ≡ false → is_some couple ≡ true → known.offset ≡ true)
    → (offsets full low known (sent_coupling full couple)).Lawful (
      first,
      (
        when first (t / 16),
        (
          when (first && is_some couple) (t % 16),
          (
            when (first && is_some couple) sent_fgaincod,
            ((listed 5 0 (λ i. when (first && nat_lt i full) (t % 16)), listed 5 0 (λ i. when (first && nat_lt i full) sent_fgaincod)), (when (first && low) (t % 16), when (first && low) sent_fgaincod)),
          ),
        ),
      ),
    )
unfolding offsets pair tested_bit field
offsets_lawful full low known couple t first small was kept = (
  kept_offset first known.begun known.offset (is_some couple) was kept,
  (
    given_when first (field 6 any) (t / 16) (λ e. (omega (arith, small), refl)),
    (
      given_when (first && is_some couple) (field 4 any) (t % 16) (λ e. (omega arith, refl)),
      (
        given_when (first && is_some couple) (field 3 any) sent_fgaincod (λ e. (omega arith, refl)),
        (
          fines_lawful full t first,
          (given_when (first && low) (field 4 any) (t % 16) (λ e. (omega arith, refl)), given_when (first && low) (field 3 any) sent_fgaincod (λ e. (omega arith, refl))),
        ),
      ),
    ),
  ),
)

leaks_lawful : (full : ℕ) (known : Known) (couple : Option (ℕ × ℕ)) (first : Bool) → (first ≡ false → is_some couple ≡ true → known.leaks ≡ true)
    → (leaks known (sent_coupling full couple)).Lawful (when (is_some couple) first, (when (first && is_some couple) sent_cplfleak, when (first && is_some couple) sent_cplsleak))
unfolding leaks pair tested_bit field
leaks_lawful full known None true was = (given_not false (tested_bit (zero_where known.leaks (NoReuse Cplleake))) refl, (given_not false (field 3 any) refl, given_not false (field 3 any) refl))
leaks_lawful full known None false was = (given_not false (tested_bit (zero_where known.leaks (NoReuse Cplleake))) refl, (given_not false (field 3 any) refl, given_not false (field 3 any) refl))
leaks_lawful full known (Some p) true was = (
  given_when true (tested_bit (zero_where known.leaks (NoReuse Cplleake))) true (λ e. zero_true known.leaks (NoReuse Cplleake)),
  (given_when true (field 3 any) sent_cplfleak (λ e. (omega arith, refl)), given_when true (field 3 any) sent_cplsleak (λ e. (omega arith, refl))),
)
leaks_lawful full known (Some p) false was = (
  given_when true (tested_bit (zero_where known.leaks (NoReuse Cplleake))) false (λ e. zero_may known.leaks (NoReuse Cplleake) false (was refl refl)),
  (given_not false (field 3 any) refl, given_not false (field 3 any) refl),
)

pub allocation_lawful : (full : ℕ) (low : Bool) (known : Known) (couple : Option (ℕ × ℕ)) (t : ℕ) (first : Bool) → t ≤ 1023 → (first ≡ false → known.begun ≡ true) → (first ≡ false → is_some couple ≡ true → known.offset ≡ true) → (first ≡ false → is_some couple ≡ true → known.leaks ≡ true)
    → (allocation full low known (sent_coupling full couple)).Lawful (sent_allocation full low couple t first)
unfolding allocation shaped pair
allocation_lawful full low known couple t first small was offset_kept leaks_kept =
    (parameters_lawful known.begun first was, (offsets_lawful full low known couple t first small was offset_kept, leaks_lawful full known couple first leaks_kept))

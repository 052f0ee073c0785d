-- How many bits the groups of a block have.
use Rattle.std.proofs.Common.{◌≡◌, ℕ, zero, suc, ◌+◌, ◌-◌, ◌*◌, ◌<◌, ◌≤◌, ◌&&◌, ◌||◌, Bool, true, false, List, [], ◌∷◌, length, nat_lt}
use Rattle.std.proofs.Common.{nat_le, Option, Some, None, refl, ap, ap₂, sym, ◌∙◌, arith}
use Rattle.std.specs.Prelude.{is_some, if◌then◌else◌}
use Rattle.std.specs.Option.{ForSome}
use Rattle.ac_bits.specs.Bits.{bits}
use Rattle.ac_base.specs.Shape.{rematrix_bands}
use Rattle.ac_base.specs.SideBits.{when}
use Rattle.ac_codec.specs.declared.refused.Refused.{Refused}
use Rattle.ac_codec.specs.declared.refused.Refused.TheVariants.{ShortBlock, Dither, NoReuse}
use Rattle.ac_codec.specs.declared.refused.Row.TheVariants.{Cplcoe, Chexpstr, Chbwcod}
use Rattle.ac_codec.specs.Codec.{Codec, field, any, below, reused, flag, tested_bit, one_where, zero_where, given, slot, some_spell, each}
use Rattle.ac_codec.specs.Codec.{cons, cons_then, absent, pair, shaped, fitted}
use Rattle.ac_rows.specs.declared.groups.Start.{Start}
use Rattle.ac_rows.specs.declared.groups.Strategy.{Strategy}
use Rattle.ac_rows.specs.declared.groups.Coupling.{Coupling}
use Rattle.ac_rows.specs.declared.groups.ChannelShared.{ChannelShared}
use Rattle.ac_rows.specs.declared.groups.Shared.{Shared}
use Rattle.ac_rows.specs.declared.groups.Codes.{Codes}
use Rattle.ac_rows.specs.declared.groups.Allocation.{Allocation}
use Rattle.ac_rows.specs.declared.groups.Rest.{Rest}
use Rattle.ac_rows.specs.declared.groups.Known.{Known}
use Rattle.ac_rows.specs.Filled.{holds, entry, channel_coupled}
use Rattle.ac_rows.specs.Known.{may_keep_coordinates, may_keep_channel}
use Rattle.ac_rows.specs.BlockRows.{clear_each, start, coupled_each, joined_each, sent_subbands, strategy, zipped, alternating}
use Rattle.ac_rows.specs.BlockRows.{coordinate_each, channel_shared, shared_each, joined_channels, phase_each, shared, any_sent}
use Rattle.ac_rows.specs.BlockRows.{rematrix_each, strategy_each, has_width, width_each, codes, offset_each, parameters, offsets, leaks}
use Rattle.ac_rows.specs.BlockRows.{parameters_of, offsets_of, leaks_of, allocation, rest, PairFits}
use Rattle.std.proofs.lemmas.Bool.{le-ltb}
use Rattle.ac_codec.specs.Lists.{spelled_each}
use Rattle.ac_rows.proofs.EachBits.{each_bits}
use Rattle.ac_rows.proofs.ZippedLawful.{each_length}
use Rattle.ac_rows.proofs.Bounds.{strategy_pair}
use Rattle.ac_syntax.proofs.Widths.{total, number_width, bit_width, slot_width, slot_bit_width, each_width, full_total, both_total}
use Rattle.ac_syntax.proofs.Widths.{bands_total, joined_total, same_total, none_total, below_total, l2, l3, l4, l6, l7}

clear_width : (full : ℕ) (r : Refused) (xs : List Bool) → full ≤ 5 → (clear_each full r).Lawful xs
    → length ((clear_each full r).spell xs) ≡ full * 1
unfolding clear_each slot tested_bit
clear_width full r xs h l =
    each_width 5 0 (λ i. slot (nat_lt i full) false (tested_bit (one_where false r))) (λ i. when (nat_lt i full) 1) xs
    (λ k x le lt a. slot_bit_width (nat_lt k full) x) l ∙ full_total full 1 h

pub start_width : (full : ℕ) (x : Start) → full ≤ 5 → (start full).Lawful x → x.dynrnge ≡ false
    → length ((start full).spell x) ≡ full * 1 + full * 1 + 1
unfolding start shaped pair given field tested_bit
start_width full x h l e =
    let a = clear_width full ShortBlock x.blksw h l.0 in
    let b = clear_width full Dither x.dithflag h l.1.0 in
    let c : length (some_spell (λ v. bits v 8) x.dynrng) ≡ 0 = number_width x.dynrnge 8 x.dynrng l.1.1.1.0 ∙ ap (λ t. when t 8) e in
    let s =
    l4 ((clear_each full ShortBlock).spell x.blksw) ((clear_each full Dither).spell x.dithflag) (x.dynrnge ∷ [])
    (some_spell (λ v. bits v 8) x.dynrng) in
    omega (arith, a, b, c, s)

pub rest_width : (x : Rest) → rest.Lawful x → x.skiple ≡ false → length (rest.spell x) ≡ 2
unfolding rest shaped pair given field tested_bit
rest_width x l e =
    let c : length (some_spell (λ v. bits v 9) x.skipl) ≡ 0 = number_width x.skiple 9 x.skipl l.1.1.0 ∙ ap (λ t. when t 9) e in
    let s = l3 (x.deltbaie ∷ []) (x.skiple ∷ []) (some_spell (λ v. bits v 9) x.skipl) in
    omega (arith, c, s)

coupled_width : (n i : ℕ) (sent : Bool) (full : ℕ) (seen : Bool) (xs : List (Option Bool)) → (coupled_each n i sent full seen).Lawful xs
    → length ((coupled_each n i sent full seen).spell xs) ≡ total n i (λ k. when (sent && nat_lt k full) 1)
unfolding coupled_each cons_then absent total given tested_bit
coupled_width zero i sent full seen xs l = refl
coupled_width (suc n) i sent full seen [] l = absurd l
coupled_width (suc n) i sent full seen (x ∷ xs) l =
    let r = coupled_width n (suc i) sent full (seen || holds x) xs l.1 in
    l2 (some_spell (λ b. b ∷ []) x) ((coupled_each n (suc i) sent full (seen || holds x)).spell xs)
    ∙ ap₂ (λ a b. a + b) (bit_width (sent && nat_lt i full) x l.0.0) r

coupled_total : (sent : Bool) (full : ℕ) → full ≤ 5 → total 5 0 (λ k. when (sent && nat_lt k full) 1) ≡ when sent (full * 1)
coupled_total true full h = full_total full 1 h
coupled_total false full h = none_total 5 0

joined_width : (n : ℕ) (xs : List (Option Bool)) → n ≤ 18 → (joined_each n).Lawful xs → length ((joined_each n).spell xs) ≡ n - 1
unfolding joined_each given tested_bit
joined_width n xs h l =
    each_width 18 0 (λ k. given (nat_le 1 k && nat_lt k n) flag) (λ k. when (nat_le 1 k && nat_lt k n) 1) xs
    (λ k x le lt a. bit_width (nat_le 1 k && nat_lt k n) x a.0) l ∙ joined_total n h

sent_most : (sent : Bool) (a b : Option ℕ) → PairFits a b → sent_subbands sent a b ≤ 18
sent_most true a b h = omega (arith, h.end)
sent_most false a b h = omega arith

pub strategy_width : (full : ℕ) (stereo begun : Bool) (s : Strategy) → full ≤ 5 → (strategy full stereo begun).Lawful s
    → length ((strategy full stereo begun).spell s) ≡ 1 + when s.cplstre 1 + when (holds s.cplinu) (full * 1)
    + when (holds s.cplinu && stereo) 1 + when (holds s.cplinu) 4 + when (holds s.cplinu) 4
    + (sent_subbands (holds s.cplinu) s.cplbegf s.cplendf - 1)
unfolding strategy shaped pair given field tested_bit
strategy_width full stereo begun s h l =
    let p = strategy_pair full stereo begun s l in
    let sent = holds s.cplinu in
    let a = bit_width s.cplstre s.cplinu l.1.0.0 in
    let b = coupled_width 5 0 sent full false s.chincpl l.1.1.0 ∙ coupled_total sent full h in
    let c = bit_width (sent && stereo) s.phsflginu l.1.1.1.0.0 in
    let d = number_width sent 4 s.cplbegf l.1.1.1.1.0.0 in
    let e = number_width sent 4 s.cplendf l.1.1.1.1.1.0.0 in
    let f = joined_width (sent_subbands sent s.cplbegf s.cplendf) s.cplbndstrc (sent_most sent s.cplbegf s.cplendf p) l.1.1.1.1.1.1 in
    let t =
    l7 (s.cplstre ∷ []) (some_spell (λ b. b ∷ []) s.cplinu) ((coupled_each 5 0 sent full false).spell s.chincpl)
    (some_spell (λ b. b ∷ []) s.phsflginu) (some_spell (λ v. bits v 4) s.cplbegf) (some_spell (λ v. bits v 4) s.cplendf)
    ((joined_each (sent_subbands sent s.cplbegf s.cplendf)).spell s.cplbndstrc) in
    omega (arith, a, b, c, d, e, f, t)

-- ---- parameters of the bit allocation
seven_of : (there : Bool) (a b : Option ℕ) → is_some a ≡ there → is_some b ≡ there
    → length (some_spell (λ v. bits v 4) a) + length (some_spell (λ v. bits v 3) b) ≡ when there 7
seven_of true a b e f = omega (arith, number_width true 4 a e, number_width true 3 b f)
seven_of false a b e f = omega (arith, number_width false 4 a e, number_width false 3 b f)

offset_width : (full : ℕ) (xs ys : List (Option ℕ)) → full ≤ 5 → (offset_each full).Lawful (xs, ys)
    → length ((offset_each full).spell (xs, ys)) ≡ full * 7
unfolding offset_each alternating fitted pair given field
offset_width full xs ys h l =
    each_width 5 0 (λ i. pair (given (nat_lt i full) (field 4 any)) (λ _. given (nat_lt i full) (field 3 any)))
    (λ i. when (nat_lt i full) 7) (zipped xs ys)
    (λ k x le lt a. l2 (some_spell (λ v. bits v 4) x.0) (some_spell (λ v. bits v 3) x.1) ∙ seven_of (nat_lt k full) x.0 x.1 a.0.0 a.1.0) l.1
    ∙ full_total full 7 h

-- a bit that has to be 1 unless it may be 0, and may not
pub forced : (there : Bool) (r : Refused) (o : Option Bool) → is_some o ≡ there → ForSome o (λ b. zero_where false r b ≡ None)
    → holds o ≡ there
forced there r None e f = e
forced there r (Some true) e f = e
forced there r (Some false) e f = let g : zero_where false r false ≡ None = f false refl in absurd cc

pub forced_bit : (r : Refused) (b : Bool) → zero_where false r b ≡ None → b ≡ true
forced_bit r true e = refl
forced_bit r false e = absurd cc

few_of : (b : Bool) (full : ℕ) → full ≤ 5 → (if b then full else 0) ≤ 5
few_of true full h = h
few_of false full h = omega arith

pub allocation_width : (full : ℕ) (low used : Bool) (known : Known) (c : Coupling) (x : Allocation) → full ≤ 5 → is_some c.range ≡ used
    → (allocation full low known c).Lawful x
    → length ((allocation full low known c).spell x) ≡ (1 + when x.baie 2 + when x.baie 2 + when x.baie 2 + when x.baie 2 + when x.baie 3)
    + (1 + when x.snroffste 6 + when (x.snroffste && used) 4 + when (x.snroffste && used) 3 + (if x.snroffste then full else 0) * 7
    + when (x.snroffste && low) 4 + when (x.snroffste && low) 3)
    + (when used 1 + when (holds x.cplleake) 3 + when (holds x.cplleake) 3)
unfolding allocation parameters offsets leaks shaped pair given field tested_bit
allocation_width full low used known c x h u l =
    let p = l.0 in
    let o = l.1.0 in
    let k = l.1.1 in
    let few : (if x.snroffste then full else 0) ≤ 5 = few_of x.snroffste full h in
    let a1 = number_width x.baie 2 x.sdcycod p.1.0.0 in
    let a2 = number_width x.baie 2 x.fdcycod p.1.1.0.0 in
    let a3 = number_width x.baie 2 x.sgaincod p.1.1.1.0.0 in
    let a4 = number_width x.baie 2 x.dbpbcod p.1.1.1.1.0.0 in
    let a5 = number_width x.baie 3 x.floorcod p.1.1.1.1.1.0 in
    let b1 = number_width x.snroffste 6 x.csnroffst o.1.0.0 in
    let b2 = number_width (x.snroffste && used) 4 x.cplfsnroffst (o.1.1.0.0 ∙ ap (λ t. x.snroffste && t) u) in
    let b3 = number_width (x.snroffste && used) 3 x.cplfgaincod (o.1.1.1.0.0 ∙ ap (λ t. x.snroffste && t) u) in
    let b4 = offset_width (if x.snroffste then full else 0) x.fsnroffst x.fgaincod few o.1.1.1.1.0 in
    let b5 = number_width (x.snroffste && low) 4 x.lfefsnroffst o.1.1.1.1.1.0.0 in
    let b6 = number_width (x.snroffste && low) 3 x.lfefgaincod o.1.1.1.1.1.1.0 in
    let c1 = bit_width used x.cplleake (k.0.0 ∙ u) in
    let c2 = number_width (holds x.cplleake) 3 x.cplfleak k.1.0.0 in
    let c3 = number_width (holds x.cplleake) 3 x.cplsleak k.1.1.0 in
    let ps =
    l6 (x.baie ∷ []) (some_spell (λ v. bits v 2) x.sdcycod) (some_spell (λ v. bits v 2) x.fdcycod) (some_spell (λ v. bits v 2) x.sgaincod)
    (some_spell (λ v. bits v 2) x.dbpbcod) (some_spell (λ v. bits v 3) x.floorcod) in
    let os =
    l7 (x.snroffste ∷ []) (some_spell (λ v. bits v 6) x.csnroffst) (some_spell (λ v. bits v 4) x.cplfsnroffst)
    (some_spell (λ v. bits v 3) x.cplfgaincod) ((offset_each (if x.snroffste then full else 0)).spell (x.fsnroffst, x.fgaincod))
    (some_spell (λ v. bits v 4) x.lfefsnroffst) (some_spell (λ v. bits v 3) x.lfefgaincod) in
    let ks = l3 (some_spell (λ b. b ∷ []) x.cplleake) (some_spell (λ v. bits v 3) x.cplfleak) (some_spell (λ v. bits v 3) x.cplsleak) in
    let all =
    l3 ((parameters known.begun).spell (parameters_of x)) ((offsets full low known c).spell (offsets_of x))
    ((leaks known c).spell (leaks_of x)) in
    omega (arith, a1, a2, a3, a4, a5, b1, b2, b3, b4, b5, b6, c1, c2, c3, ps, os, ks, all)

-- ---- rematrixing, exponent strategies and bandwidths
most_of : (a b : Bool) → (if a then 4 else if b then 3 else 2) ≤ 4
most_of true b = omega arith
most_of false true = omega arith
most_of false false = omega arith

pub rematrix_most : (range : Option (ℕ × ℕ)) → rematrix_bands range ≤ 4
rematrix_most None = omega arith
rematrix_most (Some p) = most_of (nat_lt 2 p.0) (nat_lt 0 p.0)

if_most : (b : Bool) (n : ℕ) → n ≤ 4 → (if b then n else 0) ≤ 4
if_most true n h = h
if_most false n h = omega arith

rematrix_width : (n : ℕ) (xs : List (Option Bool)) → n ≤ 4 → (rematrix_each n).Lawful xs → length ((rematrix_each n).spell xs) ≡ n
unfolding rematrix_each given tested_bit
rematrix_width n xs h l =
    each_width 4 0 (λ k. given (nat_lt k n) flag) (λ k. when (nat_lt k n) 1) xs (λ k x le lt a. bit_width (nat_lt k n) x a.0) l
    ∙ (below_total 4 0 n 1 (omega arith) ∙ (omega arith))

kinds_width : (full : ℕ) (known : Known) (c : Coupling) (xs : List ℕ) → full ≤ 5 → (strategy_each full known c).Lawful xs
    → length ((strategy_each full known c).spell xs) ≡ full * 2
unfolding strategy_each slot field
kinds_width full known c xs h l =
    each_width 5 0 (λ i. slot (nat_lt i full) 0 (field 2 (reused (may_keep_channel known c i) Chexpstr))) (λ i. when (nat_lt i full) 2) xs
    (λ k x le lt a. slot_width (nat_lt k full) 2 x) l ∙ full_total full 2 h

widths_width : (full : ℕ) (c : Coupling) (chexpstr : List ℕ) (xs : List (Option ℕ)) → (width_each full c chexpstr).Lawful xs
    → length ((width_each full c chexpstr).spell xs) ≡ length (spelled_each (some_spell (λ v. bits v 6)) xs)
unfolding width_each given field
widths_width full c chexpstr xs l =
    let n = each_length 5 0 (λ i. given (has_width full c chexpstr i) (field 6 (below 61 Chbwcod))) xs l in
    ap length (each_bits 5 0 (λ i. given (has_width full c chexpstr i) (field 6 (below 61 Chbwcod))) (some_spell (λ v. bits v 6)) xs
    (λ k x. refl) (omega (arith, n)))

pub codes_width : (full : ℕ) (stereo low used : Bool) (known : Known) (c : Coupling) (k : Codes) → full ≤ 5 → is_some c.range ≡ used
    → (codes full stereo low known c).Lawful k
    → length ((codes full stereo low known c).spell k) ≡ when stereo 1 + (if holds k.rematstr then rematrix_bands c.range else 0)
    + when used 2 + full * 2 + when low 1 + length (spelled_each (some_spell (λ v. bits v 6)) k.chbwcod)
unfolding codes shaped pair given field tested_bit
codes_width full stereo low used known c k h u l =
    let n = if holds k.rematstr then rematrix_bands c.range else 0 in
    let a = bit_width stereo k.rematstr l.0.0 in
    let b = rematrix_width n k.rematflg (if_most (holds k.rematstr) (rematrix_bands c.range) (rematrix_most c.range)) l.1.0 in
    let d = number_width used 2 k.cplexpstr (l.1.1.0.0 ∙ u) in
    let e = kinds_width full known c k.chexpstr h l.1.1.1.0 in
    let f = bit_width low k.lfeexpstr l.1.1.1.1.0.0 in
    let g = widths_width full c k.chexpstr k.chbwcod l.1.1.1.1.1 in
    let t =
    l6 (some_spell (λ b. b ∷ []) k.rematstr) ((rematrix_each n).spell k.rematflg) (some_spell (λ v. bits v 2) k.cplexpstr)
    ((strategy_each full known c).spell k.chexpstr) (some_spell (λ b. b ∷ []) k.lfeexpstr)
    ((width_each full c k.chexpstr).spell k.chbwcod) in
    omega (arith, a, b, d, e, f, g, t)

-- ---- coordinates
eight_of : (there : Bool) (a b : Option ℕ) → is_some a ≡ there → is_some b ≡ there
    → length (some_spell (λ v. bits v 4) a) + length (some_spell (λ v. bits v 4) b) ≡ when there 8
eight_of true a b e f = omega (arith, number_width true 4 a e, number_width true 4 b f)
eight_of false a b e f = omega (arith, number_width false 4 a e, number_width false 4 b f)

coordinate_width : (bands : ℕ) (xs ys : List (Option ℕ)) → bands ≤ 18 → (coordinate_each bands).Lawful (xs, ys)
    → length ((coordinate_each bands).spell (xs, ys)) ≡ bands * 8
unfolding coordinate_each alternating fitted pair given field
coordinate_width bands xs ys h l =
    each_width 18 0 (λ k. pair (given (nat_lt k bands) (field 4 any)) (λ _. given (nat_lt k bands) (field 4 any)))
    (λ k. when (nat_lt k bands) 8) (zipped xs ys)
    (λ k x le lt a. l2 (some_spell (λ v. bits v 4) x.0) (some_spell (λ v. bits v 4) x.1) ∙ eight_of (nat_lt k bands) x.0 x.1 a.0.0 a.1.0)
    l.1 ∙ bands_total bands h

some_bands : (sent : Bool) (bands : ℕ) → bands ≤ 18 → (if sent then bands else 0) ≤ 18
some_bands true bands h = h
some_bands false bands h = omega arith

channel_width : (coupled may : Bool) (bands : ℕ) (y : ChannelShared) → bands ≤ 18 → (channel_shared coupled may bands).Lawful y
    → length ((channel_shared coupled may bands).spell y) ≡ when coupled 1 + when (holds y.cplcoe) 2
    + (if holds y.cplcoe then bands else 0) * 8
unfolding channel_shared shaped pair given field tested_bit
channel_width coupled may bands y h l =
    let n = if holds y.cplcoe then bands else 0 in
    let a = bit_width coupled y.cplcoe l.0.0 in
    let b = number_width (holds y.cplcoe) 2 y.mstrcplco l.1.0.0 in
    let d = coordinate_width n y.cplcoexp y.cplcomant (some_bands (holds y.cplcoe) bands h) l.1.1 in
    let t =
    l3 (some_spell (λ b. b ∷ []) y.cplcoe) (some_spell (λ v. bits v 2) y.mstrcplco) ((coordinate_each n).spell (y.cplcoexp, y.cplcomant)) in
    omega (arith, a, b, d, t)

coe_forced : (coupled may : Bool) (bands : ℕ) (y : ChannelShared) → may ≡ false → (channel_shared coupled may bands).Lawful y
    → holds y.cplcoe ≡ coupled
unfolding channel_shared shaped pair given tested_bit
coe_forced coupled may bands y e l =
    forced coupled (NoReuse Cplcoe) y.cplcoe l.0.0 (λ b g. sym (ap (λ m. zero_where m (NoReuse Cplcoe) b) e) ∙ l.0.1 b g)

whole_width : (coupled sent : Bool) (bands : ℕ) → sent ≡ coupled
    → when coupled 1 + when sent 2 + (if sent then bands else 0) * 8 ≡ when coupled (3 + bands * 8)
whole_width true true bands e = omega arith
whole_width false false bands e = omega arith
whole_width true false bands e = absurd cc
whole_width false true bands e = absurd cc

and_none : (b : Bool) → when (b && false) 1 ≡ 0
and_none true = refl
and_none false = refl

not_below : (k : ℕ) → when (nat_le 0 k && nat_lt k 0) 1 ≡ 0
not_below k = ap (λ b. when (nat_le 0 k && b) 1) (le-ltb k 0 (omega arith)) ∙ and_none (nat_le 0 k)

phase_width : (n : ℕ) (xs : List (Option Bool)) → n ≡ 0 → (phase_each n).Lawful xs → length ((phase_each n).spell xs) ≡ 0
unfolding phase_each given tested_bit
phase_width n xs e l =
    each_width 18 0 (λ k. given (nat_le 0 k && nat_lt k n) flag) (λ k. when (nat_le 0 k && nat_lt k n) 1) xs
    (λ k x le lt a. bit_width (nat_le 0 k && nat_lt k n) x a.0) l
    ∙ (same_total 18 0 (λ k. when (nat_le 0 k && nat_lt k n) 1) (λ k. 0)
    (λ k le lt. ap (λ (m : ℕ). when (nat_le 0 k && nat_lt k m) 1) e ∙ not_below k) ∙ none_total 18 0)

no_phases : (p a : Bool) (n : ℕ) → a ≡ false → (if p && a then n else 0) ≡ 0
no_phases true a n e = ap (λ b. if b then n else 0) e
no_phases false a n e = refl

-- all coupled channels send coordinates
pub shared_first : (full : ℕ) (used : Bool) (known : Known) (c : Coupling) (x : Shared) → full ≤ 5 → c.bands ≤ 18
    → ((i : ℕ) → i < 5 → channel_coupled c i ≡ (nat_lt i full && used)) → ((i : ℕ) → i < 5 → may_keep_coordinates known c i ≡ false)
    → c.phases ≡ false → (shared known c).Lawful x → length ((shared known c).spell x) ≡ when used (full * (3 + c.bands * 8))
unfolding shared shared_each fitted pair
shared_first full used known c x h m t f p l =
    let js = joined_channels x.cplcoe x.mstrcplco x.cplcoexp x.cplcomant in
    let row : ℕ → Codec ChannelShared = λ i. channel_shared (channel_coupled c i) (may_keep_coordinates known c i) c.bands in
    let a = each_width 5 0 row (λ i. when (nat_lt i full && used) (3 + c.bands * 8)) js
    (λ k y le lt q. channel_width (channel_coupled c k) (may_keep_coordinates known c k) c.bands y m q
    ∙ (whole_width (channel_coupled c k) (holds y.cplcoe) c.bands
    (coe_forced (channel_coupled c k) (may_keep_coordinates known c k) c.bands y (f k (omega arith)) q)
    ∙ ap (λ b. when b (3 + c.bands * 8)) (t k (omega arith)))) l.1.0
    ∙ both_total full (3 + c.bands * 8) used h in
    let none : (if c.phases && any_sent js then c.bands else 0) ≡ 0 = ap (λ b. if b && any_sent js then c.bands else 0) p in
    let b = phase_width (if c.phases && any_sent js then c.bands else 0) x.phsflg none l.1.1 in
    let s = l2 ((each 5 0 row).spell js) ((phase_each (if c.phases && any_sent js then c.bands else 0)).spell x.phsflg) in
    omega (arith, a, b, s)

-- none does
or_left : (a b : Bool) → (a || b) ≡ false → (a ≡ false) × (b ≡ false)
or_left true b e = absurd cc
or_left false b e = (refl, e)

kept_width : (n i : ℕ) (known : Known) (c : Coupling) (js : List ChannelShared) → c.bands ≤ 18 → any_sent js ≡ false
    → (each n i (λ k. channel_shared (channel_coupled c k) (may_keep_coordinates known c k) c.bands)).Lawful js
    → length ((each n i (λ k. channel_shared (channel_coupled c k) (may_keep_coordinates known c k) c.bands)).spell js)
    ≡ total n i (λ k. when (channel_coupled c k) 1)
unfolding each cons absent total
kept_width zero i known c js m e l = refl
kept_width (suc n) i known c [] m e l = absurd l
kept_width (suc n) i known c (y ∷ js) m e l =
    let o = or_left (holds y.cplcoe) (any_sent js) e in
    let row : ℕ → Codec ChannelShared = λ k. channel_shared (channel_coupled c k) (may_keep_coordinates known c k) c.bands in
    let a = channel_width (channel_coupled c i) (may_keep_coordinates known c i) c.bands y m l.0 in
    let b : when (holds y.cplcoe) 2 + (if holds y.cplcoe then c.bands else 0) * 8 ≡ 0 = rw o.0 (omega arith) in
    let r = kept_width n (suc i) known c js m o.1 l.1 in
    let s = l2 ((row i).spell y) ((each n (suc i) row).spell js) in
    omega (arith, a, b, r, s)

pub shared_later : (full : ℕ) (used : Bool) (known : Known) (c : Coupling) (x : Shared) → full ≤ 5 → c.bands ≤ 18
    → ((i : ℕ) → i < 5 → channel_coupled c i ≡ (nat_lt i full && used))
    → any_sent (joined_channels x.cplcoe x.mstrcplco x.cplcoexp x.cplcomant) ≡ false → (shared known c).Lawful x
    → length ((shared known c).spell x) ≡ when used (full * 1)
unfolding shared shared_each fitted pair
shared_later full used known c x h m t e l =
    let js = joined_channels x.cplcoe x.mstrcplco x.cplcoexp x.cplcomant in
    let row : ℕ → Codec ChannelShared = λ i. channel_shared (channel_coupled c i) (may_keep_coordinates known c i) c.bands in
    let a = kept_width 5 0 known c js m e l.1.0
    ∙ (same_total 5 0 (λ k. when (channel_coupled c k) 1) (λ k. when (nat_lt k full && used) 1)
    (λ k le lt. ap (λ b. when b 1) (t k (omega arith))) ∙ both_total full 1 used h) in
    let none : (if c.phases && any_sent js then c.bands else 0) ≡ 0 = no_phases c.phases (any_sent js) c.bands e in
    let b = phase_width (if c.phases && any_sent js then c.bands else 0) x.phsflg none l.1.1 in
    let s = l2 ((each 5 0 row).spell js) ((phase_each (if c.phases && any_sent js then c.bands else 0)).spell x.phsflg) in
    omega (arith, a, b, s)

pub none_sent : (w : List (Option Bool)) (x : List (Option ℕ)) (y z : List (List (Option ℕ))) → ((i : ℕ) → holds (entry w i) ≡ false)
    → any_sent (joined_channels w x y z) ≡ false
none_sent [] x y z h = refl
none_sent (a ∷ w) [] y z h = refl
none_sent (a ∷ w) (b ∷ x) [] z h = refl
none_sent (a ∷ w) (b ∷ x) (c ∷ y) [] h = refl
none_sent (a ∷ w) (b ∷ x) (c ∷ y) (d ∷ z) h = ap₂ (λ p q. p || q) (h 0) (none_sent w x y z (λ i. h (suc i)))

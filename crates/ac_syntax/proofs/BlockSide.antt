-- The rows of blocks as this encoder fills them have the widths of the side bits.
use Rattle.std.proofs.Common.{◌≡◌, ℕ, zero, suc, ◌+◌, ◌*◌, ◌<◌, ◌≤◌, ◌&&◌, ◌||◌, Bool, true, false, List, [], ◌∷◌, length, take, nat_lt}
use Rattle.std.proofs.Common.{Option, Some, None, refl, ap, ap₂, sym, subst, ◌∙◌, arith}
use Rattle.std.specs.Prelude.{is_some, not, if◌then◌else◌}
use Rattle.std.specs.List.{count_by}
use Rattle.std.proofs.Common.{cond}
use Rattle.std.proofs.lemmas.List.Sums.{sum_by-cons}
use Rattle.std.specs.Option.{option_or}
use Rattle.ac_base.specs.Shape.{full_of, is_stereo, subbands, rematrix_bands}
use Rattle.ac_base.specs.SideBits.{when}
use Rattle.ac_codec.specs.declared.refused.Refused.TheVariants.{NoReuse}
use Rattle.ac_codec.specs.declared.refused.Row.TheVariants.{Cplstre, Rematstr, Baie, Snroffste, Cplleake}
use Rattle.ac_codec.specs.Codec.{tested_bit, zero_where, given, pair, shaped}
use Rattle.ac_rows.specs.Blocks.{Block}
use Rattle.ac_rows.specs.declared.head.Head.{Head}
use Rattle.ac_rows.specs.declared.groups.Strategy.{Strategy}
use Rattle.ac_rows.specs.declared.groups.Coupling.{Coupling}
use Rattle.ac_rows.specs.declared.groups.Known.{Known}
use Rattle.ac_rows.specs.declared.groups.Codes.{Codes}
use Rattle.ac_rows.specs.declared.groups.Allocation.{Allocation}
use Rattle.ac_rows.specs.Groups.{start_of, strategy_of, shared_of, codes_of, exponents_of, allocation_of, rest_of}
use Rattle.ac_rows.specs.Filled.{holds, number, entry, listed, latest_in, channel_coupled, range_of, over, latest_strategy}
use Rattle.ac_rows.specs.Known.{known_of, may_keep_coordinates, is_count}
use Rattle.ac_rows.specs.BlockRows.{start, strategy, sent_subbands, shared, codes, exponents, allocation, offsets, parameters, leaks, rest}
use Rattle.ac_rows.specs.BlockRows.{block_rows, block_fields, coupling_now, HasSubbands, PairFits, AreLawful}
use Rattle.ac_rows.specs.Bits.{exponents_bits}
use Rattle.ac_rows.proofs.Bounds.{range_fits, known_pair}
use Rattle.ac_rows.proofs.BlockBits.{block_parts}
use Rattle.ac_rows.proofs.ZippedLawful.{exponents_same}
use Rattle.ac_syntax.specs.Sent.{exponent_rows, FirstIsSide, LaterIsSide}
use Rattle.ac_syntax.proofs.Widths.{l7}
use Rattle.ac_syntax.proofs.GroupWidths.{start_width, strategy_width, shared_first, shared_later, none_sent, codes_width, allocation_width}
use Rattle.ac_syntax.proofs.GroupWidths.{rest_width, forced, forced_bit}
use Rattle.ac_syntax.proofs.SideSums.{first_numbers, later_numbers, first_sum, later_sum}

full_most : (acmod : ℕ) → full_of acmod ≤ 5
full_most zero = omega arith
full_most (suc zero) = omega arith
full_most (suc (suc zero)) = omega arith
full_most (suc (suc (suc zero))) = omega arith
full_most (suc (suc (suc (suc zero)))) = omega arith
full_most (suc (suc (suc (suc (suc zero))))) = omega arith
full_most (suc (suc (suc (suc (suc (suc zero)))))) = omega arith
full_most (suc (suc (suc (suc (suc (suc (suc zero))))))) = omega arith
full_most (suc (suc (suc (suc (suc (suc (suc (suc n)))))))) = omega arith

-- the bits of a block, group by group
block_width : (full : ℕ) (stereo low : Bool) (known : Known) (b : Block) → (block_rows full stereo low known).Lawful b
    → length ((block_rows full stereo low known).spell b) ≡ length ((start full).spell (start_of b))
    + length ((strategy full stereo known.begun).spell (strategy_of b))
    + length ((shared known (coupling_now known (strategy_of b))).spell (shared_of b))
    + length ((codes full stereo low known (coupling_now known (strategy_of b))).spell (codes_of b))
    + length (exponents_bits (exponents_of b)) + length ((allocation full low known (coupling_now known (strategy_of b))).spell
    (allocation_of b)) + length (rest.spell (rest_of b))
unfolding block_rows shaped pair
block_width full stereo low known b l =
    let c = coupling_now known (strategy_of b) in
    let p = block_parts full stereo low known b l in
    let e = ap length (exponents_same full c (codes_of b) (exponents_of b) p.exponents) in
    let t =
    l7 ((start full).spell (start_of b)) ((strategy full stereo known.begun).spell (strategy_of b)) ((shared known c).spell (shared_of b))
    ((codes full stereo low known c).spell (codes_of b)) ((exponents full c (codes_of b)).spell (exponents_of b))
    ((allocation full low known c).spell (allocation_of b)) (rest.spell (rest_of b)) in
    omega (arith, e, t)

-- ---- the coupling that holds
or_none : {A : Type 0} (o : Option A) → option_or o None ≡ o
or_none None = refl
or_none (Some x) = refl

used_from : {A : Type 0} (t : Bool) (p : A) (couple : Option A) → (if t then Some p else None) ≡ couple → t ≡ is_some couple
used_from true p couple e = ap is_some e
used_from false p couple e = ap is_some e

subbands_most : (range : Option (ℕ × ℕ)) → HasSubbands range → subbands range ≤ 18
subbands_most None h = omega arith
subbands_most (Some p) h = let r = h p refl in omega (arith, r.1)

no_entry : {A : Type 0} (n j : ℕ) (f : ℕ → Option A) → ((k : ℕ) → f k ≡ None) → (i : ℕ) → entry (listed n j f) i ≡ None
unfolding listed
no_entry zero j f h i = refl
no_entry (suc n) j f h zero = h j
no_entry (suc n) j f h (suc i) = no_entry n (suc j) f h i

none_holds : (n j : ℕ) (f : ℕ → Option Bool) → ((k : ℕ) → holds (f k) ≡ false) → (i : ℕ) → holds (entry (listed n j f) i) ≡ false
unfolding listed
none_holds zero j f h i = refl
none_holds (suc n) j f h zero = h j
none_holds (suc n) j f h (suc i) = none_holds n (suc j) f h i

one_of : Bool → ℕ
one_of b = cond b 1 0

none_counted : (n : ℕ) (xs : List (Option Bool)) → ((i : ℕ) → holds (entry xs i) ≡ false) → count_by holds (take n xs) ≡ 0
unfolding one_of
none_counted zero xs h = refl
none_counted (suc n) [] h = refl
none_counted (suc n) (x ∷ xs) h =
    sum_by-cons (λ y. cond (holds y) 1 0) x (take n xs) ∙ ap₂ (λ a b. a + b) (ap one_of (h 0)) (none_counted n xs (λ i. h (suc i)))

and_second : (a b : Bool) → b ≡ false → (a && b) ≡ false
and_second true b e = e
and_second false b e = refl

holds_first : (o p : Option Bool) → holds o ≡ false → p ≡ None → holds (option_or o p) ≡ false
holds_first o p e f = ap (λ q. holds (option_or o q)) f ∙ (ap holds (or_none o) ∙ e)

none_pair : PairFits (known_of []).strategy.cplbegf (known_of []).strategy.cplendf
unfolding known_of latest_in
none_pair = record { both = refl; begin = omega arith; end = omega arith; some = omega arith }

-- before block 0 nothing is known
first_coupling : (s : Strategy) (couple : Option (ℕ × ℕ)) → (coupling_now (known_of []) s).range ≡ couple
    → (holds s.cplinu ≡ is_some couple) × (sent_subbands (holds s.cplinu) s.cplbegf s.cplendf ≡ subbands couple)
unfolding known_of latest_in
first_coupling s couple e =
    let r = rw (or_none s.cplinu, or_none s.cplbegf, or_none s.cplendf) at e in
    (used_from (holds s.cplinu) (number s.cplbegf, number s.cplendf) couple r, ap subbands r)

first_bands : (s : Strategy) (couple : Option (ℕ × ℕ)) → (coupling_now (known_of []) s).range ≡ couple
    → ((k : ℕ) → holds (entry s.cplbndstrc k) ≡ false) → (coupling_now (known_of []) s).bands ≡ subbands couple
unfolding known_of latest_in
first_bands s couple e h =
    let m = over s (latest_strategy []) in
    let none : (i : ℕ) → holds (entry m.cplbndstrc i) ≡ false =
    none_holds 18 0 (λ k. option_or (entry s.cplbndstrc k) (entry (latest_strategy []).cplbndstrc k))
    (λ k. holds_first (entry s.cplbndstrc k) (entry (latest_strategy []).cplbndstrc k) (h k)
    (no_entry 18 0 (λ j. latest_in (λ _ b. entry b.cplbndstrc j) [] []) (λ j. refl) k)) in
    let c = none_counted (subbands (range_of m)) m.cplbndstrc none in
    let d : subbands (range_of m) ≡ subbands couple = ap subbands e in
    omega (arith, c, d)

first_phases : (s : Strategy) → holds s.phsflginu ≡ false → (coupling_now (known_of []) s).phases ≡ false
unfolding known_of latest_in
first_phases s e = and_second (holds (option_or s.cplinu None)) (holds (option_or s.phsflginu None)) (ap holds (or_none s.phsflginu) ∙ e)

first_keeps : (c : Coupling) (i : ℕ) → may_keep_coordinates (known_of []) c i ≡ false
unfolding known_of latest_in
first_keeps c i = ap (λ (o : Option ℕ). is_count o c.bands) (no_entry 5 0 (λ _. None) (λ j. refl) i)

first_begun : ((known_of []).begun ≡ false) × ((known_of []).leaks ≡ false)
unfolding known_of
first_begun = (refl, refl)

strategy_first : (full : ℕ) (stereo begun : Bool) (s : Strategy) → begun ≡ false → (strategy full stereo begun).Lawful s → s.cplstre ≡ true
unfolding strategy shaped pair tested_bit
strategy_first full stereo begun s e l =
    forced_bit (NoReuse Cplstre) s.cplstre (sym (ap (λ b. zero_where b (NoReuse Cplstre) s.cplstre) e) ∙ l.0)

codes_first : (full : ℕ) (stereo low : Bool) (known : Known) (c : Coupling) (k : Codes) → known.begun ≡ false
    → (codes full stereo low known c).Lawful k → holds k.rematstr ≡ stereo
unfolding codes shaped pair given tested_bit
codes_first full stereo low known c k e l =
    forced stereo (NoReuse Rematstr) k.rematstr l.0.0 (λ b g. sym (ap (λ m. zero_where m (NoReuse Rematstr) b) e) ∙ l.0.1 b g)

allocation_first : (full : ℕ) (low : Bool) (known : Known) (c : Coupling) (x : Allocation) → known.begun ≡ false → known.leaks ≡ false
    → (allocation full low known c).Lawful x
    → (x.baie ≡ true) × (x.snroffste ≡ true) × (holds x.cplleake ≡ is_some c.range)
unfolding allocation parameters offsets leaks shaped pair given tested_bit
allocation_first full low known c x e f l =
    let may : (known.begun && (not (is_some c.range) || known.offset)) ≡ false =
    ap (λ b. b && (not (is_some c.range) || known.offset)) e in (
      forced_bit (NoReuse Baie) x.baie (sym (ap (λ b. zero_where b (NoReuse Baie) x.baie) e) ∙ l.0.0),
      forced_bit (NoReuse Snroffste) x.snroffste (sym (ap (λ b. zero_where b (NoReuse Snroffste) x.snroffste) may) ∙ l.1.0.0),
      forced (is_some c.range) (NoReuse Cplleake) x.cplleake l.1.1.0.0
          (λ b g. sym (ap (λ m. zero_where m (NoReuse Cplleake) b) f) ∙ l.1.1.0.1 b g),
    )

whens : (t b : Bool) (w : ℕ) → t ≡ b → when t w ≡ when b w
whens t b w e = ap (λ x. when x w) e

first_block : (full : ℕ) (stereo low : Bool) (couple : Option (ℕ × ℕ)) (b : Block) → full ≤ 5
    → (block_rows full stereo low (known_of [])).Lawful b
    → b.dynrnge ≡ false → b.skiple ≡ false → (coupling_now (known_of []) (strategy_of b)).range ≡ couple
    → ((i : ℕ) → i < 5 → channel_coupled (coupling_now (known_of []) (strategy_of b)) i ≡ (nat_lt i full && is_some couple))
    → ((k : ℕ) → holds (entry b.cplbndstrc k) ≡ false) → holds b.phsflginu ≡ false
    → length ((block_rows full stereo low (known_of [])).spell b)
    ≡ first_numbers full stereo low (is_some couple) (subbands couple) (rematrix_bands couple) + exponent_rows b
unfolding first_numbers
first_block full stereo low couple b h l dyn skip range coupled bands phases =
    let known = known_of [] in
    let s = strategy_of b in
    let c = coupling_now known s in
    let p = block_parts full stereo low known b l in
    let used = is_some couple in
    let u : is_some c.range ≡ used = ap is_some range in
    let k = first_coupling s couple range in
    let n = first_bands s couple range bands in
    let few : c.bands ≤ 18 =
    omega (arith, n, subbands_most couple (subst HasSubbands range (range_fits full stereo known s none_pair p.strategy))) in
    let f = allocation_first full low known c (allocation_of b) first_begun.0 first_begun.1 p.allocation in
    let r = codes_first full stereo low known c (codes_of b) first_begun.0 p.codes in
    let w = block_width full stereo low known b l in
    let a = start_width full (start_of b) h p.start dyn in
    let x = allocation_of b in
    let d = strategy_width full stereo known.begun s h p.strategy in
    let d1 = whens s.cplstre true 1 (strategy_first full stereo known.begun s first_begun.0 p.strategy) in
    let d2 = whens (holds s.cplinu) used (full * 1) k.0 in
    let d3 = whens (holds s.cplinu && stereo) (used && stereo) 1 (ap (λ t. t && stereo) k.0) in
    let d4 = whens (holds s.cplinu) used 4 k.0 in
    let e = shared_first full used known c (shared_of b) h few coupled (λ i lt. first_keeps c i) (first_phases s phases) p.shared in
    let e1 = ap (λ (t : ℕ). when used (full * (3 + t * 8))) n in
    let g = codes_width full stereo low used known c (codes_of b) h u p.codes in
    let g1 = ap₂ (λ (t : Bool) (q : Option (ℕ × ℕ)). if t then rematrix_bands q else 0) r range in
    let m = allocation_width full low used known c x h u p.allocation in
    let m1 = whens x.baie true 2 f.0 in
    let m2 = whens x.baie true 3 f.0 in
    let m3 = whens x.snroffste true 6 f.1 in
    let m4 = whens (x.snroffste && used) used 4 (ap (λ t. t && used) f.1) in
    let m5 = whens (x.snroffste && used) used 3 (ap (λ t. t && used) f.1) in
    let m6 : (if x.snroffste then full else 0) * 7 ≡ full * 7 = ap (λ (t : Bool). (if t then full else 0) * 7) f.1 in
    let m7 = whens (x.snroffste && low) low 4 (ap (λ t. t && low) f.1) in
    let m8 = whens (x.snroffste && low) low 3 (ap (λ t. t && low) f.1) in
    let m9 = whens (holds x.cplleake) used 3 (f.2 ∙ u) in
    let z = rest_width (rest_of b) p.rest skip in
    omega (arith, w, a, d, d1, d2, d3, d4, k.1, e, e1, g, g1, m, m1, m2, m3, m4, m5, m6, m7, m8, m9, z)

-- ---- a later block
no_flag : (o : Option Bool) → is_some o ≡ false → holds o ≡ false
no_flag None e = refl
no_flag (Some b) e = absurd cc

kept_strategy : (full : ℕ) (stereo begun : Bool) (s : Strategy) → (strategy full stereo begun).Lawful s → s.cplstre ≡ false
    → holds s.cplinu ≡ false
unfolding strategy shaped pair given
kept_strategy full stereo begun s l e = no_flag s.cplinu (l.1.0.0 ∙ e)

later_block : (h : Head) (full : ℕ) (stereo low : Bool) (couple : Option (ℕ × ℕ)) (earlier : List Block) (b : Block) → full ≤ 5
    → AreLawful h earlier → (block_rows full stereo low (known_of earlier)).Lawful b
    → b.dynrnge ≡ false → b.skiple ≡ false → (coupling_now (known_of earlier) (strategy_of b)).range ≡ couple
    → ((i : ℕ) → i < 5 → channel_coupled (coupling_now (known_of earlier) (strategy_of b)) i ≡ (nat_lt i full && is_some couple))
    → b.cplstre ≡ false → ((i : ℕ) → holds (entry b.cplcoe i) ≡ false) → holds b.rematstr ≡ false → b.baie ≡ false → b.snroffste ≡ false
    → holds b.cplleake ≡ false
    → length ((block_rows full stereo low (known_of earlier)).spell b) ≡ later_numbers full stereo low (is_some couple) + exponent_rows b
unfolding later_numbers
later_block h full stereo low couple earlier b few_channels frame l dyn skip range coupled kept sends remat parameters_kept offsets_kept
    leaks_kept =
    let known = known_of earlier in
    let s = strategy_of b in
    let c = coupling_now known s in
    let p = block_parts full stereo low known b l in
    let used = is_some couple in
    let u : is_some c.range ≡ used = ap is_some range in
    let most = subbands_most c.range (range_fits full stereo known s (known_pair h earlier frame) p.strategy) in
    let few : c.bands ≤ 18 = omega (arith, most) in
    let w = block_width full stereo low known b l in
    let a = start_width full (start_of b) few_channels p.start dyn in
    let x = allocation_of b in
    let off = kept_strategy full stereo known.begun s p.strategy kept in
    let d = strategy_width full stereo known.begun s few_channels p.strategy in
    let d1 = whens s.cplstre false 1 kept in
    let d2 = whens (holds s.cplinu) false (full * 1) off in
    let d3 = whens (holds s.cplinu && stereo) false 1 (ap (λ t. t && stereo) off) in
    let d4 = whens (holds s.cplinu) false 4 off in
    let d5 : sent_subbands (holds s.cplinu) s.cplbegf s.cplendf ≡ 0 = ap (λ t. sent_subbands t s.cplbegf s.cplendf) off in
    let e =
    shared_later full used known c (shared_of b) few_channels few coupled (none_sent b.cplcoe b.mstrcplco b.cplcoexp b.cplcomant sends)
    p.shared in
    let g = codes_width full stereo low used known c (codes_of b) few_channels u p.codes in
    let g1 : (if holds b.rematstr then rematrix_bands c.range else 0) ≡ 0 =
    ap (λ (t : Bool). if t then rematrix_bands c.range else 0) remat in
    let m = allocation_width full low used known c x few_channels u p.allocation in
    let m1 = whens x.baie false 2 parameters_kept in
    let m2 = whens x.baie false 3 parameters_kept in
    let m3 = whens x.snroffste false 6 offsets_kept in
    let m4 = whens (x.snroffste && used) false 4 (ap (λ t. t && used) offsets_kept) in
    let m5 = whens (x.snroffste && used) false 3 (ap (λ t. t && used) offsets_kept) in
    let m6 : (if x.snroffste then full else 0) * 7 ≡ 0 = ap (λ (t : Bool). (if t then full else 0) * 7) offsets_kept in
    let m7 = whens (x.snroffste && low) false 4 (ap (λ t. t && low) offsets_kept) in
    let m8 = whens (x.snroffste && low) false 3 (ap (λ t. t && low) offsets_kept) in
    let m9 = whens (holds x.cplleake) false 3 leaks_kept in
    let z = rest_width (rest_of b) p.rest skip in
    omega (arith, w, a, d, d1, d2, d3, d4, d5, e, g, g1, m, m1, m2, m3, m4, m5, m6, m7, m8, m9, z)

pub first_is_side : FirstIsSide
unfolding block_fields known_of
first_is_side h couple b head l e =
    first_block (full_of h.acmod) (is_stereo h.acmod) h.lfeon couple b (full_most h.acmod) l e.sent.dynrnge e.sent.skiple e.sent.range
    e.sent.coupled e.bands e.phases
    ∙ ap (λ n. n + exponent_rows b) (first_sum h.acmod h.lfeon couple)

pub later_is_side : LaterIsSide
unfolding block_fields known_of
later_is_side h couple earlier b head frame l e =
    later_block h (full_of h.acmod) (is_stereo h.acmod) h.lfeon couple earlier b (full_most h.acmod) frame l e.sent.dynrnge e.sent.skiple
    e.sent.range e.sent.coupled e.cplstre e.cplcoe e.rematstr e.baie e.snroffste e.cplleake
    ∙ ap (λ n. n + exponent_rows b) (later_sum h.acmod h.lfeon couple)

-- What passes every test claims what is so.
use Rattle.std.proofs.Common.{◌≡◌, ℕ, ◌+◌, ◌-◌, ◌<◌, ◌≤◌, Bool, true, false, List, [], ◌∷◌, length, drop, get_or, slice_index, Option, Some, None, refl, sym, ap, ◌∙◌, inl, inr, subst, arith}
use Rattle.std.specs.Prelude.{◌==◌, ◌&&◌, ◌||◌, nat_lt, if◌then◌else◌}
use Rattle.std.proofs.lemmas.Bool.{cases_eq, cases_lt, eqb-true, lt-ltb, le-ltb}
use Rattle.std.proofs.lemmas.List.{drop_more}
use Rattle.ac_base.specs.declared.shapes.Shape.{Shape}
use Rattle.ac_base.specs.declared.sizes.Part.{Part}
use Rattle.ac_base.specs.declared.sizes.Part.TheVariants.{Front, Total, Last}
use Rattle.ac_base.specs.Fit.{rooms_of}
use Rattle.ac_base.specs.Shape.{coded_of}
use Rattle.ac_base.specs.Sizes.{least_words, end_room, tail_bits, skip_spare}
use Rattle.ac_base.specs.Words.{word_of}
use Rattle.ac_cost.specs.Parts.{parts_at, FitsAt, IsFeasible}
use Rattle.ac_cost.specs.Records.{AtOffset, at_offset}
use Rattle.ac_cost.specs.Runs.{TakesLow}
use Rattle.ac_cost.specs.Sixths.{part_of}
use Rattle.ac_cost.proofs.Assigning.{assign-is, coded-few}
use Rattle.ac_bound.specs.declared.pots.Pots.{Pots}
use Rattle.ac_bound.specs.Ways.{potential}
use Rattle.ac_bound.proofs.Threes.{of_six}
use Rattle.ac_seek.specs.Trees.{closed}
use Rattle.ac_seek.specs.Words.{game_of}
use Rattle.ac_seek.proofs.Roots.{none-feasible}
use Rattle.ac_claim.specs.declared.certs.Cert.{Cert}
use Rattle.ac_claim.specs.declared.certs.Level.{Level}
use Rattle.ac_claim.specs.declared.no.No.{No}
use Rattle.ac_claim.specs.Laws.{PassesIsClaim}
use Rattle.ac_claim.specs.Potentials.{or_else, number_of, pots_no, empty_no}
use Rattle.ac_claim.specs.Tests.{raw_no, word_no, is_high, claim_no, part_no, fit_no, count_of, missing, missing_no, over_no, level_no, levels_no}
use Rattle.ac_claim.specs.Trees.{tree_no}
use Rattle.ac_claim.proofs.Firsts.{or-parts, then-none, else-none, le-of, some-none}
use Rattle.ac_claim.proofs.Passing.{rules-out}
use Rattle.ac_claim.proofs.Trusting.{tree-true}

-- a choice that has no fault
choices : (b : Bool) (fault : No) (other : Option No) → (if b then Some fault else other) ≡ None → (b ≡ false) × (other ≡ None)
choices true fault other h = some-none fault h
choices false fault other h = (refl, h)

-- ---- the words
either : (a b : Bool) → (a || b) ≡ false → (a ≡ false) × (b ≡ false)
either true b h = cc
either false b h = (refl, h)

low-codes : (word : List ℕ) (block : ℕ) → block < 6 → is_high word ≡ false → slice_index word block ≤ 1
low-codes word block b h =
    let at : ℕ → Bool = λ k. nat_lt 1 (slice_index word k) in
    let e = either (at 0 || at 1 || at 2 || at 3 || at 4) (at 5) h in
    let d = either (at 0 || at 1 || at 2 || at 3) (at 4) e.0 in
    let c = either (at 0 || at 1 || at 2) (at 3) d.0 in
    let f = either (at 0 || at 1) (at 2) c.0 in
    let g = either (at 0) (at 1) f.0 in
    le-of (slice_index word block) 1 (of_six (λ k. at k ≡ false) g.0 g.1 f.1 c.1 d.1 e.1 block b)

lfe-none : (lfe high : Bool) (fault : No) → (if lfe && high then Some fault else None) ≡ None → lfe ≡ true → high ≡ false
lfe-none true high fault h e = then-none high fault h
lfe-none false high fault h e = cc

pub takes-low : (shape : Shape) (assign : List (List ℕ)) → word_no shape assign ≡ None → TakesLow shape assign
takes-low shape assign h there block b =
    let low = coded_of shape.acmod false shape.couple in
    low-codes (word_of assign low) block b (lfe-none shape.lfe (is_high (word_of assign low)) _ h there)

-- ---- the claim's numbers
pub claim-order : (offset upper top : ℕ) → claim_no offset upper top ≡ None → (offset ≤ upper) × (upper ≤ top) × (top ≤ 1023)
claim-order offset upper top h =
    let first = choices (nat_lt upper offset) _ _ h in
    let second = choices (nat_lt top upper) _ _ first.1 in
    (le-of offset upper first.0, le-of upper top second.0, le-of top 1023 (then-none (nat_lt 1023 top) _ second.1))

-- ---- the parts
part-fits : (v : AtOffset) (assign : List (List ℕ)) (part : Part) → part_no v assign part ≡ None → part_of (parts_at v.shape v.raw v.t assign) (number_of part) ≤ part_of (rooms_of v.shape.words) (number_of part)
part-fits v assign part h = le-of _ _ (then-none _ _ h)

end-room : (words last : ℕ) → least_words ≤ words → last ≤ end_room words - (tail_bits + skip_spare) → last + tail_bits + skip_spare ≤ end_room words
end-room words last few l = omega (arith, few, l)

fits-by : (v : AtOffset) (assign : List (List ℕ)) → fit_no v assign ≡ None → FitsAt v.shape v.raw v.t assign
fits-by v assign h =
    let total = or-parts (part_no v assign Total) (or_else (part_no v assign Front) (part_no v assign Last)) h in
    let others = or-parts (part_no v assign Front) (part_no v assign Last) total.1 in
    let a = part-fits v assign Front others.0 in
    let b = part-fits v assign Total total.0 in
    let c = part-fits v assign Last others.1 in
    record { in_front = a; whole = b; at_end = end-room v.shape.words (part_of (parts_at v.shape v.raw v.t assign) (number_of Last)) v.shape.least_size c }

-- ---- the levels
pub level-at : (shape : Shape) (raw : List (List (List ℕ))) (levels : List Level) (top t : ℕ) → levels_no shape raw top levels ≡ None → t ≤ top → top - t < length levels → (level : Level) × (level_no (at_offset shape raw t) level ≡ None)
level-at shape raw [] top t h l less = absurd (omega arith)
level-at shape raw (level ∷ levels) top t h l less =
    let parts = or-parts (level_no (at_offset shape raw top) level) (levels_no shape raw (top - 1) levels) h in
    elim (cases_eq t top) [
      | inl e ↦ (level, subst (λ k. level_no (at_offset shape raw k) level ≡ None) (sym e) parts.0)
      | inr other ↦ level-at shape raw levels (top - 1) t parts.1 (omega arith) (omega arith)
    ]

none-at : (shape : Shape) (raw : List (List (List ℕ))) (t : ℕ) (level : Level) → level_no (at_offset shape raw t) level ≡ None → IsFeasible shape raw t → ⊥
none-at shape raw t level h =
    let v = at_offset shape raw t in
    let pot = potential level.pots.p in
    let parts = or-parts (pots_no v pot) (tree_no v pot level.tree []) h in
    none-feasible v (tree-true v pot level.tree [] (λ c part. refl) parts.0 tt parts.1)

none-over : (shape : Shape) (raw : List (List (List ℕ))) (t u : ℕ) (over : Option Pots) → over_no (at_offset shape raw t) over ≡ None → count_of over ≡ 1 → t ≤ u → IsFeasible shape raw u → ⊥
none-over shape raw t u None h one l = absurd (omega arith)
none-over shape raw t u (Some pots) h one l =
    let v = at_offset shape raw t in
    let pot = potential pots.p in
    let parts = or-parts (pots_no v pot) (empty_no v pot) h in
    rules-out shape raw t u pot (λ c part. refl) parts.0 (else-none (closed (game_of v) pot []) _ parts.1) l

-- ---- counts
count-is : (have want : ℕ) → missing have want ≡ None → have ≡ want
count-is have want h = eqb-true have want (else-none (have == want) _ h)

abbrev above-top : ℕ → ℕ
above-top top = if nat_lt top 1023 then 1 else 0

one-below : (top : ℕ) → top < 1023 → above-top top ≡ 1
one-below top l = let t : nat_lt top 1023 ≡ true = lt-ltb top 1023 l in rw t refl

pub passes-claim : PassesIsClaim
passes-claim cert words h =
    let shape = cert.shape in
    let raw = cert.raw.e in
    let here = at_offset shape raw cert.offset in
    let above = at_offset shape raw (cert.top + 1) in
    let a = or-parts (raw_no shape raw) _ h in
    let b = or-parts (word_no shape cert.assign.w) _ a.1 in
    let c = or-parts (claim_no cert.offset cert.upper cert.top) _ b.1 in
    let d = or-parts (fit_no here cert.assign.w) _ c.1 in
    let e = or-parts (missing_no cert) _ d.1 in
    let f = or-parts (over_no above cert.over) (levels_no shape raw cert.top cert.trees) e.1 in
    let order = claim-order cert.offset cert.upper cert.top c.0 in
    let counts = or-parts (missing (length cert.trees) (cert.top - cert.upper)) _ e.0 in
    let levels = count-is (length cert.trees) (cert.top - cert.upper) counts.0 in
    let over = count-is (count_of cert.over) _ counts.1 in
    record {
      is_assignment = assign-is shape cert.assign.w (coded-few shape) words (takes-low shape cert.assign.w b.0);
      fits = fits-by here cert.assign.w d.0;
      order = order.0;
      none_above = λ t low high. elim (cases_lt cert.top t) [
        | inl more ↦ none-over shape raw (cert.top + 1) t cert.over f.0 (over ∙ one-below cert.top (omega arith)) (omega arith)
        | inr within ↦
            let level = level-at shape raw cert.trees cert.top t f.1 within (omega (arith, levels)) in
            none-at shape raw t level.0 level.1
      ];
    }

-- ---- the levels from one on
pub levels-step : (shape : Shape) (raw : List (List (List ℕ))) (t i : ℕ) (level : Level) (levels : List Level) → i < length levels → level ≡ get_or levels i level → levels_no shape raw t (drop i levels) ≡ or_else (level_no (at_offset shape raw t) level) (levels_no shape raw (t - 1) (drop (i + 1) levels))
levels-step shape raw t i level levels h e =
    ap (levels_no shape raw t) (drop_more levels i level h)
    ∙ ap (λ (x : Level). or_else (level_no (at_offset shape raw t) x) (levels_no shape raw (t - 1) (drop (i + 1) levels))) (sym e)

pub over-below : (cert : Cert) → missing_no cert ≡ None → count_of cert.over ≡ 1 → cert.top < 1023
over-below cert h one =
    let counts = or-parts (missing (length cert.trees) (cert.top - cert.upper)) _ h in
    let over = count-is (count_of cert.over) (above-top cert.top) counts.1 in
    elim (cases_lt cert.top 1023) [
      | inl less ↦ less
      | inr more ↦ let f : nat_lt cert.top 1023 ≡ false = le-ltb cert.top 1023 more in let z : above-top cert.top ≡ 0 = rw f refl in absurd (omega (arith, over, one, z))
    ]

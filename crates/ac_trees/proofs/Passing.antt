-- What a made certificate has passes every test.
use Rattle.std.proofs.Common.{◌≡◌, ℕ, zero, suc, ◌+◌, ◌-◌, ◌*◌, ◌<◌, ◌≤◌, Bool, true, false, List, [], ◌∷◌, ◌++◌, length, length-append, Option, Some, None, slice_index, slice_index_or, eqb, cond, refl, sym, ap, ◌∙◌, inl, inr, subst, arith}
use Rattle.std.specs.Prelude.{nat_lt, ◌==◌, ◌&&◌, if◌then◌else◌}
use Rattle.std.proofs.lemmas.Bool.{cases_eq, cases_lt, eq-eqb, ne_eqb, lt-ltb, le-ltb}
use Rattle.ac_base.specs.declared.shapes.Shape.{Shape}
use Rattle.ac_base.specs.declared.spans.Span.{Span}
use Rattle.ac_base.specs.declared.sizes.Part.{Part}
use Rattle.ac_base.specs.declared.sizes.Part.TheVariants.{Front, Total, Last}
use Rattle.ac_base.specs.Fit.{rooms_of}
use Rattle.ac_base.specs.Shape.{coded_of}
use Rattle.ac_base.specs.Spans.{IsIn}
use Rattle.ac_base.specs.Words.{word_of}
use Rattle.ac_expo.specs.Raw.{channels, channel_span}
use Rattle.ac_cost.specs.Parts.{FitsAt, parts_at}
use Rattle.ac_cost.specs.Records.{AtOffset, at_offset}
use Rattle.ac_cost.specs.Runs.{IsAssignmentOf, TakesLow}
use Rattle.ac_cost.specs.Sixths.{part_of, run_sixths}
use Rattle.ac_bound.specs.declared.pots.Pots.{Pots}
use Rattle.ac_bound.specs.Bounds.{lower_of, nothing}
use Rattle.ac_bound.specs.Roots.{IsClosed, IsRoot}
use Rattle.ac_bound.specs.Steps.{kinds_of, between}
use Rattle.ac_bound.specs.Ways.{ArePots, potential}
use Rattle.ac_bound.proofs.Offsets.{fit-part, over_rises}
use Rattle.ac_seek.specs.declared.step.Step.{Step}
use Rattle.ac_seek.specs.Games.{IsNext}
use Rattle.ac_seek.specs.Trees.{closed}
use Rattle.ac_seek.specs.Words.{game_of}
use Rattle.ac_seek.proofs.Closing.{pots-fall}
use Rattle.ac_seek.proofs.Sames.{takes-low}
use Rattle.ac_seek.proofs.Truths.{closed-over}
use Rattle.ac_claim.specs.declared.certs.Cert.{Cert}
use Rattle.ac_claim.specs.declared.certs.Level.{Level}
use Rattle.ac_claim.specs.declared.no.No.{No}
use Rattle.ac_claim.specs.declared.no.No.TheVariants.{BadRaw, BadWord, Unfit, Potential, Loose, Missing}
use Rattle.ac_claim.specs.Potentials.{or_else, number_of, first_part, run_no, kinds_no, ends_no, starts_no, pots_no, empty_no}
use Rattle.ac_claim.specs.Trees.{tree_no}
use Rattle.ac_claim.specs.Tests.{bin_no, row_no, blocks_no, raw_no, is_high, word_no, claim_no, part_no, fit_no, count_of, missing, missing_no, over_no, level_no, levels_no, first_no, Passes}
use Rattle.ac_claim.proofs.Firsts.{or-both, none-all, part-few}
use Rattle.ac_trees.specs.Made.{AreInRange, IsLevel, AreLevels, AreAbove}

-- a test that isn't true gives no fault
no-fault : (a : Bool) (fault : No) → a ≡ false → cond a (Some fault) None ≡ None
no-fault a fault e = rw e refl

within : (room bound : ℕ) (fault : No) → bound ≤ room → cond (nat_lt room bound) (Some fault) None ≡ None
within room bound fault l = no-fault (nat_lt room bound) fault (le-ltb room bound l)

each-part : (fault : Part → Option No) → ((part : Part) → fault part ≡ None) → first_part fault ≡ None
each-part fault h =
    or-both (fault Front) (or_else (fault Total) (fault Last)) (h Front) (or-both (fault Total) (fault Last) (h Total) (h Last))

-- ---- raw exponents
bin-none : (row : List ℕ) (c b k : ℕ) → slice_index row k ≤ 24 → bin_no row c b k ≡ None
bin-none row c b k l = within 24 (slice_index row k) (BadRaw c b k) l

row-none : (span : Span) (row : List ℕ) (c b : ℕ) → ((k : ℕ) → IsIn span k → slice_index row k ≤ 24) → row_no span row c b ≡ None
row-none span row c b h =
    none-all (span.end - span.start) (λ i. bin_no row c b (span.start + i)) (λ i n. bin-none row c b (span.start + i) (h (span.start + i) (omega arith, omega arith)))

pub raw-none : (shape : Shape) (raw : List (List (List ℕ))) → AreInRange shape raw → raw_no shape raw ≡ None
raw-none shape raw h =
    none-all (channels shape) (λ c. blocks_no (channel_span shape c) (slice_index_or raw c []) c) (λ c l.
    none-all 6 (λ b. row_no (channel_span shape c) (slice_index_or (slice_index_or raw c []) b []) c b) (λ b m.
    row-none (channel_span shape c) (slice_index_or (slice_index_or raw c []) b []) c b (λ k is. h c b k l m is)))

-- ---- LFE's word
low-codes : (word : List ℕ) → ((b : ℕ) → b < 6 → slice_index word b ≤ 1) → is_high word ≡ false
low-codes word h =
    let low = λ (b : ℕ) (l : b < 6). le-ltb 1 (slice_index word b) (h b l) in
    let e0 = low 0 (omega arith) in
    let e1 = low 1 (omega arith) in
    let e2 = low 2 (omega arith) in
    let e3 = low 3 (omega arith) in
    let e4 = low 4 (omega arith) in
    let e5 = low 5 (omega arith) in
    rw (e0, e1, e2, e3, e4, e5) refl

and-false : (a b : Bool) → (a ≡ true → b ≡ false) → (a && b) ≡ false
and-false true b h = h refl
and-false false b h = refl

pub word-none : (shape : Shape) (assign : List (List ℕ)) → IsAssignmentOf shape assign → word_no shape assign ≡ None
word-none shape assign is =
    let low = coded_of shape.acmod false shape.couple in
    no-fault (shape.lfe && is_high (word_of assign low)) (BadWord low) (and-false shape.lfe (is_high (word_of assign low)) (λ there. low-codes (word_of assign low) (λ b l. takes-low shape assign is there b l)))

-- ---- the claim
pub claim-none : (offset upper top : ℕ) → offset ≤ upper → upper ≤ top → top ≤ 1023 → claim_no offset upper top ≡ None
claim-none offset upper top a b c =
    let ea : nat_lt upper offset ≡ false = le-ltb upper offset a in
    let eb : nat_lt top upper ≡ false = le-ltb top upper b in
    let ec : nat_lt 1023 top ≡ false = le-ltb 1023 top c in
    rw (ea, eb, ec) refl

part-none : (shape : Shape) (raw : List (List (List ℕ))) (t : ℕ) (assign : List (List ℕ)) (part : Part) → FitsAt shape raw t assign → part_no (at_offset shape raw t) assign part ≡ None
part-none shape raw t assign part fits =
    let needed = part_of (parts_at shape raw t assign) (number_of part) in
    let room = part_of (rooms_of shape.words) (number_of part) in
    within room needed (Unfit part needed room) (fit-part shape raw t assign fits (number_of part) (part-few part))

pub fit-none : (shape : Shape) (raw : List (List (List ℕ))) (t : ℕ) (assign : List (List ℕ)) → FitsAt shape raw t assign → fit_no (at_offset shape raw t) assign ≡ None
fit-none shape raw t assign fits =
    let fault = part_no (at_offset shape raw t) assign in
    let each = λ (part : Part). part-none shape raw t assign part fits in
    or-both (fault Total) (or_else (fault Front) (fault Last)) (each Total) (or-both (fault Front) (fault Last) (each Front) (each Last))

-- ---- potentials
next-run : (v : AtOffset) (c from i k : ℕ) → c < channels v.shape → from < 6 → i < 6 - from → k < kinds_of v.shape c → IsNext (game_of v) c from (record { channel = c; run = between from (from + 1 + i) (k + 1) })
next-run v c from i k l m n o = record {
  inside = l;
  same = refl;
  starts = refl;
  later = omega arith;
  ends = omega arith;
  some_kind = omega arith;
  kind = omega arith;
}

fall-none : (v : AtOffset) (pot : ℕ → ℕ → ℕ → ℕ) (c from i k : ℕ) (part : Part) → ArePots v pot → c < channels v.shape → from < 6 → i < 6 - from → k < kinds_of v.shape c → run_no v pot c part (between from (from + 1 + i) (k + 1)) ≡ None
fall-none v pot c from i k part are l m n o =
    let run = between from (from + 1 + i) (k + 1) in
    let p = number_of part in
    let right = run_sixths v.shape v.raw v.t p c run + pot c p (from + 1 + i) in
    within right (pot c p from) (Potential v.t c part run (pot c p from) right) (pots-fall v pot p c from (record { channel = c; run = run }) are (part-few part) (next-run v c from i k l m n o))

pub pots-none : (v : AtOffset) (pot : ℕ → ℕ → ℕ → ℕ) → ArePots v pot → pots_no v pot ≡ None
pots-none v pot are =
    none-all (channels v.shape) (λ c. first_part (starts_no v pot c)) (λ c l.
    each-part (starts_no v pot c) (λ part.
    none-all 6 (ends_no v pot c part) (λ from m.
    none-all (6 - from) (λ i. kinds_no v pot c part from (from + 1 + i)) (λ i n.
    none-all (kinds_of v.shape c) (λ k. run_no v pot c part (between from (from + 1 + i) (k + 1))) (λ k o.
    fall-none v pot c from i k part are l m n o)))))

pick : (a : Bool) (x y : Option No) → a ≡ true → cond a x y ≡ x
pick a x y e = rw e refl

empty-none : (v : AtOffset) (pot : ℕ → ℕ → ℕ → ℕ) → ArePots v pot → IsClosed v.shape v.raw v.t → empty_no v pot ≡ None
empty-none v pot are shut =
    let over = over_rises v.shape v.raw v.t v.t shut.pot pot (omega arith) shut.are are shut.over in
    pick (closed (game_of v) pot []) _ _ ((closed-over v pot []).1 over)

-- ---- levels
pub over-none : (shape : Shape) (raw : List (List (List ℕ))) (top : ℕ) (over : Option Pots) → IsRoot shape raw top → AreAbove shape raw top over → over_no (at_offset shape raw (top + 1)) over ≡ None
over-none shape raw top None root above = refl
over-none shape raw top (Some pots) root above =
    let v = at_offset shape raw (top + 1) in
    let pot = potential pots.p in
    or-both (pots_no v pot) (empty_no v pot) (pots-none v pot above.1) (empty-none v pot above.1 (root.above (top + 1) (omega arith) (omega (arith, above.0))))

pub levels-none : (shape : Shape) (raw : List (List (List ℕ))) (t : ℕ) (levels : List Level) → AreLevels shape raw t levels → levels_no shape raw t levels ≡ None
levels-none shape raw t [] are = refl
levels-none shape raw t (level ∷ levels) are =
    let v = at_offset shape raw t in
    let pot = potential level.pots.p in
    or-both (level_no v level) (levels_no shape raw (t - 1) levels)
    (or-both (pots_no v pot) (tree_no v pot level.tree []) (pots-none v pot are.0.are) are.0.fine)
    (levels-none shape raw (t - 1) levels are.1)

missing-none : (have want : ℕ) → have ≡ want → missing have want ≡ None
missing-none have want e = pick (have == want) _ _ (eq-eqb have want e)

count-none : (shape : Shape) (raw : List (List (List ℕ))) (top : ℕ) (over : Option Pots) → AreAbove shape raw top over → missing (count_of over) (if nat_lt top 1023 then 1 else 0) ≡ None
count-none shape raw top None above =
    let e : nat_lt top 1023 ≡ false = le-ltb top 1023 (omega (arith, above)) in rw e refl
count-none shape raw top (Some pots) above =
    let e : nat_lt top 1023 ≡ true = lt-ltb top 1023 above.0 in rw e refl

-- levels one behind the other, and one more
pub AreLevels-push : (shape : Shape) (raw : List (List (List ℕ))) (top t : ℕ) (levels : List Level) (level : Level) → AreLevels shape raw top levels → length levels + t ≡ top → IsLevel (at_offset shape raw t) level → AreLevels shape raw top (levels ++ level ∷ [])
AreLevels-push shape raw top t [] level are e is =
    let same : t ≡ top = omega (arith, e) in
    (subst (λ u. IsLevel (at_offset shape raw u) level) same is, tt)
AreLevels-push shape raw top t (other ∷ levels) level are e is =
    (are.0, AreLevels-push shape raw (top - 1) t levels level are.1 (omega (arith, e)) is)

-- ---- all tests
pub passes : (cert : Cert) → AreInRange cert.shape cert.raw.e → IsAssignmentOf cert.shape cert.assign.w → FitsAt cert.shape cert.raw.e cert.offset cert.assign.w → cert.offset ≤ cert.upper → cert.upper ≤ cert.top → IsRoot cert.shape cert.raw.e cert.top → AreAbove cert.shape cert.raw.e cert.top cert.over → AreLevels cert.shape cert.raw.e cert.top cert.trees → length cert.trees ≡ cert.top - cert.upper → Passes cert
passes cert range is fits low high root above levels count =
    let shape = cert.shape in
    let raw = cert.raw.e in
    let v = at_offset shape raw cert.offset in
    let above_no = over_no (at_offset shape raw (cert.top + 1)) cert.over in
    let last = levels_no shape raw cert.top cert.trees in
    let sixth = or_else above_no last in
    let fifth = or_else (missing_no cert) sixth in
    let fourth = or_else (fit_no v cert.assign.w) fifth in
    let third = or_else (claim_no cert.offset cert.upper cert.top) fourth in
    let second = or_else (word_no shape cert.assign.w) third in
    let counts = or-both (missing (length cert.trees) (cert.top - cert.upper)) (missing (count_of cert.over) (if nat_lt cert.top 1023 then 1 else 0)) (missing-none (length cert.trees) (cert.top - cert.upper) count) (count-none shape raw cert.top cert.over above) in
    or-both (raw_no shape raw) second (raw-none shape raw range)
    (or-both (word_no shape cert.assign.w) third (word-none shape cert.assign.w is)
    (or-both (claim_no cert.offset cert.upper cert.top) fourth (claim-none cert.offset cert.upper cert.top low high root.within)
    (or-both (fit_no v cert.assign.w) fifth (fit-none shape raw cert.offset cert.assign.w fits)
    (or-both (missing_no cert) sixth counts
    (or-both above_no last (over-none shape raw cert.top cert.over root above) (levels-none shape raw cert.top cert.trees levels))))))

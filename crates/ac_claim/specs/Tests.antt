-- The tests of a certificate, in their order, and the first that fails: this project's own.
use Rattle.std.specs.Prelude.{◌≡◌, ℕ, ◌+◌, ◌-◌, ◌==◌, ◌&&◌, ◌||◌, nat_lt, if◌then◌else◌, Bool, false, List, [], ◌∷◌, length, slice_index, slice_index_or, Option, Some, None, Result, Ok, Err}
use Rattle.ac_base.specs.declared.shapes.Shape.{Shape}
use Rattle.ac_base.specs.declared.sizes.Part.{Part}
use Rattle.ac_base.specs.declared.spans.Span.{Span}
use Rattle.ac_base.specs.declared.sizes.Part.TheVariants.{Front, Total, Last}
use Rattle.ac_base.specs.Fit.{rooms_of}
use Rattle.ac_base.specs.Shape.{coded_of}
use Rattle.ac_base.specs.Words.{word_of}
use Rattle.ac_expo.specs.Raw.{channels, channel_span}
use Rattle.ac_cost.specs.Parts.{parts_at}
use Rattle.ac_cost.specs.Records.{AtOffset, at_offset}
use Rattle.ac_cost.specs.Sixths.{part_of}
use Rattle.ac_bound.specs.declared.pots.Pots.{Pots}
use Rattle.ac_bound.specs.Ways.{potential}
use Rattle.ac_claim.specs.declared.certs.Cert.{Cert}
use Rattle.ac_claim.specs.declared.certs.Level.{Level}
use Rattle.ac_claim.specs.declared.no.No.{No}
use Rattle.ac_claim.specs.declared.no.No.TheVariants.{BadRaw, BadWord, BadClaim, Unfit, Missing}
use Rattle.ac_claim.specs.declared.no.Verdict.{Verdict}
use Rattle.ac_claim.specs.Potentials.{or_else, first_below, number_of, pots_no, empty_no}
use Rattle.ac_claim.specs.Trees.{given, tree_no}

-- ---- the shape's raw exponents and the words

-- a raw exponent over 24, in a bin
abbrev pub bin_no : List ℕ → ℕ → ℕ → ℕ → Option No
bin_no row c b k = if nat_lt 24 (slice_index row k) then Some (BadRaw c b k) else None

-- the first in the bins of a span in a block of a coded channel, and in the six blocks
abbrev pub row_no : Span → List ℕ → ℕ → ℕ → Option No
row_no span row c b = first_below (span.end - span.start) (λ i. bin_no row c b (span.start + i))

abbrev pub blocks_no : Span → List (List ℕ) → ℕ → Option No
blocks_no span rows c = first_below 6 (λ b. row_no span (slice_index_or rows b []) c b)

-- and in all coded channels
abbrev pub raw_no : Shape → List (List (List ℕ)) → Option No
raw_no shape raw = first_below (channels shape) (λ c. blocks_no (channel_span shape c) (slice_index_or raw c []) c)

-- whether a code of a word is over 1, in any of the six blocks
abbrev pub is_high : List ℕ → Bool
is_high word =
    nat_lt 1 (slice_index word 0) || nat_lt 1 (slice_index word 1) || nat_lt 1 (slice_index word 2) || nat_lt 1 (slice_index word 3)
    || nat_lt 1 (slice_index word 4) || nat_lt 1 (slice_index word 5)

-- LFE's word, where there is LFE, which is the last coded channel
abbrev pub word_no : Shape → List (List ℕ) → Option No
word_no shape assign =
    let low = coded_of shape.acmod false shape.couple in
    if shape.lfe && is_high (word_of assign low) then Some (BadWord low) else None

-- ---- the claim

-- the first inequality that is false
abbrev pub claim_no : ℕ → ℕ → ℕ → Option No
claim_no offset upper top =
    if nat_lt upper offset
    then Some (BadClaim offset upper)
    else if nat_lt top upper
    then Some (BadClaim upper top)
    else if nat_lt 1023 top
    then Some (BadClaim top 1023)
    else None

-- a part of the assignment is over its room
abbrev pub part_no : AtOffset → List (List ℕ) → Part → Option No
part_no v assign part =
    let needed = part_of (parts_at v.shape v.raw v.t assign) (number_of part) in
    let room = part_of (rooms_of v.shape.words) (number_of part) in
    if nat_lt room needed then Some (Unfit part needed room) else None

-- the first in the order of the whole frame, the front and the last block
abbrev pub fit_no : AtOffset → List (List ℕ) → Option No
fit_no v assign = or_else (part_no v assign Total) (or_else (part_no v assign Front) (part_no v assign Last))

-- ---- the levels

-- how many potentials are given
abbrev pub count_of : Option Pots → ℕ
count_of None = 0
count_of (Some pots) = 1

-- a number isn't what it should be
abbrev pub missing : ℕ → ℕ → Option No
missing have want = if have == want then None else Some (Missing (given have) want)

-- a level for each offset above the upper up to the top, and potentials above the top where it isn't 1023
abbrev pub missing_no : Cert → Option No
missing_no cert =
    or_else (missing (length cert.trees) (cert.top - cert.upper)) (missing (count_of cert.over) (if nat_lt cert.top 1023 then 1 else 0))

-- potentials above the top, which rule each assignment out by themselves
abbrev pub over_no : AtOffset → Option Pots → Option No
over_no v None = None
over_no v (Some pots) = or_else (pots_no v (potential pots.p)) (empty_no v (potential pots.p))

-- a level at its offset
abbrev pub level_no : AtOffset → Level → Option No
level_no v level = or_else (pots_no v (potential level.pots.p)) (tree_no v (potential level.pots.p) level.tree [])

-- levels for the offsets from one on downwards
abbrev pub levels_no : Shape → List (List (List ℕ)) → ℕ → List Level → Option No
levels_no shape raw t [] = None
levels_no shape raw t (level ∷ levels) = or_else (level_no (at_offset shape raw t) level) (levels_no shape raw (t - 1) levels)

-- ---- all tests

-- the first fault of a certificate
abbrev pub first_no : Cert → Option No
first_no cert =
    let shape = cert.shape in
    let raw = cert.raw.e in
    or_else (raw_no shape raw)
    (or_else (word_no shape cert.assign.w)
    (or_else (claim_no cert.offset cert.upper cert.top)
    (or_else (fit_no (at_offset shape raw cert.offset) cert.assign.w)
    (or_else (missing_no cert)
    (or_else (over_no (at_offset shape raw (cert.top + 1)) cert.over)
    (levels_no shape raw cert.top cert.trees))))))

-- a certificate that passes every test
abbrev pub Passes : Cert → Type 0
Passes cert = first_no cert ≡ None

-- the answer of one test
abbrev pub result_of : Option No → Result (Unit {0}) No
result_of None = Ok tt
result_of (Some fault) = Err fault

-- the answer that a certificate is given
abbrev pub answer_of : Cert → Option No → Result Verdict No
answer_of cert None = Ok (record { offset = cert.offset; upper = cert.upper })
answer_of cert (Some fault) = Err fault

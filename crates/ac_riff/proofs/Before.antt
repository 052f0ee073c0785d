-- The walk over the chunks stays before the data of the head that it comes to.
use Rattle.std.proofs.Common.{◌≡◌, ◌≢◌, ℕ, ◌+◌, ◌≤◌, ◌<◌, List, take, drop, Option, Some, None, inl, inr, refl, sym, ap, ◌∙◌, arith}
use Rattle.std.specs.Prelude.{codes, min, Result, Ok, Err, MatchResult, IfErr, IsErrOf}
use Rattle.std.proofs.lemmas.Bool.{cases_lt, cases_eq}
use Rattle.ac_io.specs.Within.{StandsIn, TakesAtMost}
use Rattle.ac_io.proofs.Limits.{at_most}
use Rattle.ac_riff.specs.declared.fault.WavFault.{WavFault}
use Rattle.ac_riff.specs.declared.fault.WavFault.TheVariants.{Bad, ReadFault, TooLong}
use Rattle.ac_riff.specs.declared.fault.WavKind.TheVariants.{Short, NoData}
use Rattle.ac_riff.specs.declared.head.WavHead.{WavHead}
use Rattle.ac_riff.specs.Form.{name_of, size_of, whole_length, IsHead}
use Rattle.ac_riff.specs.Refusal.{Reaches, IsStopped, RefusalLeaves, HeadRead}
use Rattle.ac_riff.proofs.Chunks.{open_least, start_least}
use Rattle.ac_riff.proofs.Endings as endings
use Rattle.ac_riff.proofs.Fronts.{head_place, head_cut, taken_within}
use Rattle.ac_riff.proofs.Stops.{open_next, formatted_next}
use Rattle.ac_riff.proofs.Unique.{open_before}
use Rattle.ac_riff.proofs.Ways.{formatted_has, none_earlier, begins_name, begins_size, formatted_long, passed_goes, formatted_before}

-- ---- bounds on what was taken

pub at_most_more : (bytes : List ℕ) (few more : ℕ) (left : Option (List ℕ)) → few ≤ more → TakesAtMost bytes few left → TakesAtMost bytes more left
at_most_more bytes few more None h t = tt
at_most_more bytes few more (Some rest) h t = (t.0, omega (arith, h, t.1), t.2, t.3)

pub stands_within : (bytes : List ℕ) (taken n limit : ℕ) (left : Option (List ℕ)) → StandsIn bytes taken (min (taken + n) (limit + 1)) left → TakesAtMost bytes (taken + n) left
stands_within bytes taken n limit None s = tt
stands_within bytes taken n limit (Some rest) s = (s.0, omega (arith, s.2), s.3.within, let e = s.3.left_is in cc)

-- a read fault that is handed on
pub handed : {A B : Type 0} (fault : WavFault) → IsErrOf {T = A} {E = WavFault} (Err fault) ReadFault → IsErrOf {T = B} {E = WavFault} (Err fault) ReadFault
handed (Bad kind place) e = absurd cc
handed ReadFault e = refl
handed TooLong e = absurd cc

-- ---- the walk

-- a place where a chunk can begin is no further than the data
reaches_before : (bytes : List ℕ) (head : WavHead) (p : ℕ) → Reaches bytes p → (h : IsHead bytes head) → p ≤ h.place
reaches_before bytes head p (inl o) h =
    let has = formatted_has bytes h.chunk h.place h.formatted in
    let least = start_least bytes h.chunk h.place h.formatted in
    elim (cases_lt h.formatted.start p) [
      | inl late ↦ absurd (none_earlier bytes h.chunk h.formatted.start p has o late)
      | inr early ↦ omega (arith, early, least)
    ]
reaches_before bytes head p (inr (chunk, f)) h =
    elim (cases_lt h.place p) [
      | inl late ↦ absurd ((formatted_before bytes h.chunk chunk h.place p h.formatted f late).no_data h.at.named)
      | inr early ↦ omega (arith, early)
    ]

pub head_behind : (bytes : List ℕ) (head : WavHead) (p : ℕ) → Reaches bytes p → IsHead bytes head → p + 8 ≤ head.taken
head_behind bytes head p r h = omega (arith, head_place bytes head h, reaches_before bytes head p r h)

-- the data stand no earlier than where they are named
named_later : (bytes : List ℕ) (head : WavHead) (p : ℕ) → Reaches bytes p → (h : IsHead bytes head) → name_of (drop p bytes) ≢ codes "data" → p < h.place
named_later bytes head p r h nd =
    elim (cases_eq p h.place) [
      | inl same ↦ absurd (nd (ap (λ n. name_of (drop n bytes)) same ∙ h.at.named))
      | inr other ↦ omega (arith, other, reaches_before bytes head p r h)
    ]

-- the whole `fmt ` chunk stands before the data
format_before : (bytes : List ℕ) (head : WavHead) (p : ℕ) (h : IsHead bytes head) → p ≡ h.formatted.start → p + whole_length (size_of (drop p bytes)) ≤ h.place
format_before bytes head p h e =
    let has = formatted_has bytes h.chunk h.place h.formatted in
    let size : size_of (drop p bytes) ≡ size_of h.chunk = ap (λ n. size_of (drop n bytes)) e ∙ begins_size h.chunk has.rest (drop h.formatted.start bytes) has.whole has.same in
    let long = formatted_long bytes h.chunk h.place h.formatted in
    omega (arith, e, ap whole_length size, has.whole.long, long)

-- a chunk that is passed over, or the `fmt ` chunk, ends before the data
next_before : (bytes : List ℕ) (head : WavHead) (p : ℕ) → Reaches bytes p → (h : IsHead bytes head) → name_of (drop p bytes) ≢ codes "data" → p + whole_length (size_of (drop p bytes)) ≤ h.place
next_before bytes head p (inl o) h nd =
    let next = p + whole_length (size_of (drop p bytes)) in
    elim (cases_lt p h.formatted.start) [
      | inl early ↦
          let a = open_before bytes p h.formatted.start o h.formatted.opened early in
          let g = passed_goes bytes p a in
          let nf : name_of (drop p bytes) ≢ codes "fmt " = λ e. a.passed.no_format (sym (begins_name a.chunk a.rest (drop p bytes) a.passed.whole a.same) ∙ e) in
          reaches_before bytes head next (inl (open_next bytes p next (size_of (drop p bytes)) (Some (drop next bytes)) o nf nd refl refl (record { within = g.within; left_is = refl }))) h
      | inr late ↦
          let has = formatted_has bytes h.chunk h.place h.formatted in
          elim (cases_lt h.formatted.start p) [
            | inl past ↦ absurd (none_earlier bytes h.chunk h.formatted.start p has o past)
            | inr same ↦ format_before bytes head p h (omega (arith, late, same))
          ]
    ]
next_before bytes head p (inr (chunk, f)) h nd =
    let next = p + whole_length (size_of (drop p bytes)) in
    let g = formatted_before bytes chunk h.chunk p h.place f h.formatted (named_later bytes head p (inr (chunk, f)) h nd) in
    reaches_before bytes head next (inr (chunk, formatted_next bytes chunk p next (size_of (drop p bytes)) (Some (drop next bytes)) f nd refl refl (record { within = g.within; left_is = refl }))) h

pub chunk_behind : (bytes : List ℕ) (head : WavHead) (p size : ℕ) → Reaches bytes p → IsHead bytes head → name_of (drop p bytes) ≢ codes "data" → size ≡ size_of (drop p bytes)
    → p + whole_length size ≤ head.taken
chunk_behind bytes head p size r h nd e =
    omega (arith, head_place bytes head h, next_before bytes head p r h nd, ap whole_length e)

pub riff_behind : (bytes : List ℕ) (head : WavHead) → IsHead bytes head → 12 ≤ head.taken
riff_behind bytes head h =
    let least = open_least bytes h.formatted.start h.formatted.opened in
    let start = start_least bytes h.chunk h.place h.formatted in
    omega (arith, head_place bytes head h, least, start)

-- ---- whatever is answered

no_head : (bytes : List ℕ) (limit : ℕ) (head : WavHead) → IsHead bytes head → IsStopped bytes limit TooLong → limit < head.taken
no_head bytes limit head h stop =
    elim (cases_lt limit head.taken) [
      | inl far ↦ far
      | inr near ↦
          let cut = head_cut bytes head limit h near in
          absurd (elim (stop.1) [
            | inl short ↦ endings.never_both (take limit bytes) head Short limit cut short
            | inr none ↦ endings.never_both (take limit bytes) head NoData limit cut none
          ])
    ]

fault_before : (bytes : List ℕ) (limit : ℕ) (head : WavHead) (fault : WavFault) (left : Option (List ℕ)) → IsHead bytes head → IsStopped bytes limit fault → RefusalLeaves bytes limit fault left
    → (IsErrOf {T = WavHead} {E = WavFault} (Err fault) ReadFault → TakesAtMost bytes head.taken left) → TakesAtMost bytes head.taken left
fault_before bytes limit head (Bad kind place) left h stop leaves failed = absurd (endings.never_both bytes head kind place h stop.0)
fault_before bytes limit head ReadFault left h stop leaves failed = failed refl
fault_before bytes limit head TooLong left h stop leaves failed = at_most bytes (limit + 1) head.taken left (omega (arith, no_head bytes limit head h stop)) leaves

pub before_data : (bytes : List ℕ) (limit : ℕ) (head : WavHead) (result : Result WavHead WavFault) (left : Option (List ℕ)) → IsHead bytes head → IfErr result (IsStopped bytes limit)
    → MatchResult result (λ other. HeadRead bytes limit other left) (λ fault. RefusalLeaves bytes limit fault left)
    → (IsErrOf result ReadFault → TakesAtMost bytes head.taken left) → TakesAtMost bytes head.taken left
before_data bytes limit head (Ok other) left h stop told failed =
    let same = ap (λ (w : WavHead). w.taken) (endings.one_head bytes other head told.is h) in
    at_most bytes other.taken head.taken left (omega (arith, same)) (record { within = taken_within bytes other told.is; left_is = told.left_is })
before_data bytes limit head (Err fault) left h stop told failed = fault_before bytes limit head fault left h stop told failed

-- Writes in turn, and counts of faults call after call.
use Rattle.std.proofs.Common.{◌≡◌, ℕ, ◌+◌, ◌≤◌, min, List, ◌++◌, length, take, append_assoc, Option, None, Some, Result, Ok, Err, ap, sym, subst, ◌∙◌, arith}
use Rattle.std.proofs.Math.Seq.{take-append-add}
use Rattle.std.proofs.lemmas.List.{take-append-le, take_min}
use Rattle.ac_io.specs.Outside.{Rose, Adds, AddsFront}
use Rattle.ac_io.proofs.Written.{adds_both}
use Rattle.ac_world.specs.Emits.{Emits, RoseAt}
use Rattle.ac_world.specs.World.{Told, Sinks, SinksNeverFall}
use Rattle.ac_world.specs.declared.writing.Broken.{Broken}
use Rattle.ac_world.specs.declared.writing.Broken.TheVariants as broken_ones

-- a front of the first of two pieces is one of both
pub front_of_both : (a b : Option (List ℕ)) (xs ys : List ℕ) → AddsFront a b xs → AddsFront a b (xs ++ ys)
front_of_both None b xs ys f = tt
front_of_both (Some held) b xs ys (k, e) =
    let same : take (min k (length xs)) (xs ++ ys) ≡ take k xs = take-append-le (min k (length xs)) xs ys (omega arith) ∙ take_min k xs in
    (min k (length xs), e ∙ ap (λ l. Some (held ++ l)) (sym same))

some_in : (xs ys : List ℕ) → Some xs ≡ Some ys → xs ≡ ys
some_in xs ys e = cc

-- the first, and a front of the second
pub front_behind : (a b c : Option (List ℕ)) (xs ys : List ℕ) → Adds a b xs → AddsFront b c ys → AddsFront a c (xs ++ ys)
front_behind None b c xs ys p f = tt
front_behind (Some held) None c xs ys p f = absurd cc
front_behind (Some held) (Some bs) c xs ys p (k, e) =
    let same : bs ≡ held ++ xs = some_in bs (held ++ xs) p in (
      length xs + k,
      e ∙ (ap (λ l. Some (l ++ take k ys)) same ∙ (ap (λ l. Some l) (append_assoc held xs (take k ys)) ∙ ap (λ l. Some (held ++ l)) (sym (take-append-add xs ys k)))),
    )

-- a piece in two writes, and the line
pub emits_both : (xs ys line : List ℕ) (result : Result (Unit {0}) Broken) (old mid new : Sinks) → Adds old.output.bytes mid.output.bytes xs → mid.report ≡ old.report → Emits ys line result mid new → Emits (xs ++ ys) line result old new
emits_both xs ys line (Ok u) old mid new p same e = (
  adds_both old.output.bytes mid.output.bytes new.output.bytes xs ys p e.0,
  subst (λ (t : Told). Adds t.bytes new.report.bytes line) same e.1,
)
emits_both xs ys line (Err broken_ones.Output) old mid new p same e = (front_behind old.output.bytes mid.output.bytes new.output.bytes xs ys p e.0, e.1 ∙ same)
emits_both xs ys line (Err broken_ones.Report) old mid new p same e = (
  adds_both old.output.bytes mid.output.bytes new.output.bytes xs ys p e.0,
  subst (λ (t : Told). AddsFront t.bytes new.report.bytes line) same e.1,
)

-- ---- counts

-- a count that rose after others didn't fall
pub rose_behind : (old mid new : ℕ) → old ≤ mid → Rose mid new → Rose old new
rose_behind old mid new up rose = omega (arith, up, rose)

pub sink_behind : (broken : Broken) (old mid new : Sinks) → SinksNeverFall old mid → RoseAt broken mid new → RoseAt broken old new
sink_behind broken_ones.Output old mid new up rose = rose_behind old.output.faults mid.output.faults new.output.faults up.0 rose
sink_behind broken_ones.Report old mid new up rose = rose_behind old.report.faults mid.report.faults new.report.faults up.1 rose

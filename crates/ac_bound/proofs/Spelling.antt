-- Each way is the runs of some codes.
use Rattle.std.proofs.Common.{◌≡◌, ℕ, zero, suc, ◌+◌, ◌-◌, ◌<◌, ◌≤◌, false, List, [], ◌∷◌, length, slice_index, refl, sym, ap, ◌∙◌, subst, arith}
use Rattle.std.specs.Prelude.{◌==◌}
use Rattle.std.specs.List.{AllByRecursion}
use Rattle.std.proofs.lemmas.Bool.{ne_eqb}
use Rattle.ac_base.specs.declared.runs.Run.{Run}
use Rattle.ac_base.specs.declared.shapes.Shape.{Shape}
use Rattle.ac_base.specs.Words.{zeros, runs_at}
use Rattle.ac_expo.specs.Raw.{channel_span}
use Rattle.ac_bound.specs.Ways.{IsWay}
use Rattle.ac_bound.specs.Laws.{WaysAreWords}
use Rattle.ac_bound.specs.Steps.{kinds_of}
use Rattle.ac_bound.proofs.Completing.{word_way}
use Rattle.ac_bound.proofs.Leasts.{kinds-most}

-- ---- zeros before codes
abbrev pad : ℕ → List ℕ → List ℕ
pad zero ks = ks
pad (suc n) ks = 0 ∷ pad n ks

zeros-pad : (n : ℕ) (ks : List ℕ) → zeros (pad n ks) ≡ n + zeros ks
zeros-pad zero ks = omega arith
zeros-pad (suc n) ks = omega (arith, zeros-pad n ks)

length-pad : (n : ℕ) (ks : List ℕ) → length (pad n ks) ≡ n + length ks
length-pad zero ks = omega arith
length-pad (suc n) ks = omega (arith, length-pad n ks)

each-pad : (kinds n : ℕ) (ks : List ℕ) → AllByRecursion (λ k. k ≤ kinds) ks → AllByRecursion (λ k. k ≤ kinds) (pad n ks)
each-pad kinds zero ks h = h
each-pad kinds (suc n) ks h = (omega arith, each-pad kinds n ks h)

runs-pad : (b n : ℕ) (ks : List ℕ) → runs_at b (pad n ks) ≡ runs_at (b + n) ks
runs-pad b zero ks = ap (λ x. runs_at x ks) (omega arith)
runs-pad b (suc n) ks = runs-pad (b + 1) n ks ∙ ap (λ x. runs_at x ks) (omega arith)

runs_put : (at kind n : ℕ) (ks : List ℕ) → 1 ≤ kind → zeros ks ≡ 0 → runs_at at (kind ∷ pad n ks) ≡ record { from = at; to = at + 1 + n; kind = kind } ∷ runs_at (at + 1 + n) ks
runs_put at kind n ks some z =
    let e : (kind == 0) ≡ false = ne_eqb kind 0 (omega arith) in
    let ez : zeros (pad n ks) ≡ n = omega (arith, zeros-pad n ks) in
    rw e (ap (λ x. record { from = at; to = at + 1 + x; kind = kind } ∷ runs_at (at + 1) (pad n ks)) ez
    ∙ ap (λ (rs : List Run). record { from = at; to = at + 1 + n; kind = kind } ∷ rs) (runs-pad (at + 1) n ks))

-- ---- the codes of the blocks from a boundary on, whose runs are these
record HasCodes (kinds at : ℕ) (runs : List Run) : Type 0 where
  pub codes : List ℕ
  pub long : at + length codes ≡ 6
  pub begins : zeros codes ≡ 0
  pub each : AllByRecursion (λ k. k ≤ kinds) codes
  pub same : runs_at at codes ≡ runs

put : (kinds at : ℕ) (run : Run) (runs : List Run) → run.from ≡ at → at < run.to → 1 ≤ run.kind → run.kind ≤ kinds → HasCodes kinds run.to runs → HasCodes kinds at (run ∷ runs)
put kinds at run runs starts order some most has =
    let n = run.to - at - 1 in
    let to : at + 1 + n ≡ run.to = omega arith in
    let e : (run.kind == 0) ≡ false = ne_eqb run.kind 0 (omega arith) in
    let first : record { from = at; to = at + 1 + n; kind = run.kind } ≡ run = λ i. record { from = sym starts i; to = to i; kind = run.kind } in
    record {
      codes = run.kind ∷ pad n has.codes;
      long = omega (arith, length-pad n has.codes, has.long);
      begins = rw e refl;
      each = (most, each-pad kinds n has.codes has.each);
      same = runs_put at run.kind n has.codes some has.begins
          ∙ (ap (λ x. record { from = at; to = at + 1 + n; kind = run.kind } ∷ runs_at x has.codes) to
          ∙ (ap (λ (rs : List Run). record { from = at; to = at + 1 + n; kind = run.kind } ∷ rs) has.same ∙ ap (λ (r : Run). r ∷ runs) first));
    }

spelled : (shape : Shape) (c at : ℕ) (runs : List Run) → IsWay shape c at runs → HasCodes (kinds_of shape c) at runs
spelled shape c at [] is = record { codes = []; long = omega (arith, is.tiles); begins = refl; each = tt; same = refl }
spelled shape c at (run ∷ runs) is =
    put (kinds_of shape c) at run runs is.tiles.0 is.tiles.1 is.each.0.is_run.some is.each.0.taken
    (spelled shape c run.to runs (record { tiles = is.tiles.2; each = is.each.1 }))

-- ---- from the start they are a word
each_at : (kinds : ℕ) (ks : List ℕ) (i : ℕ) → AllByRecursion (λ k. k ≤ kinds) ks → slice_index ks i ≤ kinds
each_at kinds [] i all = omega arith
each_at kinds (k ∷ ks) zero all = all.0
each_at kinds (k ∷ ks) (suc i) all = each_at kinds ks i all.1

first_some : (ks : List ℕ) → length ks ≡ 6 → zeros ks ≡ 0 → 1 ≤ slice_index ks 0
first_some [] l z = absurd (omega arith)
first_some (zero ∷ ks) l z = absurd (omega arith)
first_some (suc k ∷ ks) l z = omega arith

pub ways_words : WaysAreWords
ways_words shape c runs l = (
  λ is.
      let has = spelled shape c 0 runs is in
      let long : length has.codes ≡ 6 = omega (arith, has.long) in
      let most = kinds-most (channel_span shape c).lead in
      let each = λ (block : ℕ). each_at (kinds_of shape c) has.codes block has.each in (
        has.codes,
        record {
          is_word = record { long = long; sends = first_some has.codes long has.begins; small = λ block b. omega (arith, each block, most) };
          kinds = λ block b. each block;
        },
        has.same,
      ),
  λ has. subst (IsWay shape c 0) has.2 (word_way shape c l has.0 has.1),
)

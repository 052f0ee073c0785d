-- Where the check of a tree stands.
use Rattle.std.proofs.Common.{◌≡◌, ℕ, zero, suc, ◌+◌, ◌-◌, ◌*◌, ◌^◌, ◌<◌, ◌≤◌, List, [], ◌∷◌, length, slice_index, true, false, eqb, inl, inr, refl, sym, ap, ◌∙◌, subst, arith}
use Rattle.std.proofs.lemmas.List.{length-append}
use Rattle.ac_cost.specs.Records.{AtOffset}
use Rattle.ac_cost.specs.Sixths.{sixths_by_part}
use Rattle.ac_cost.proofs.Assigning.{coded-few}
use Rattle.ac_bound.specs.declared.bounds.Partial.{Partial}
use Rattle.ac_bound.proofs.Threes.{of_three}
use Rattle.ac_seek.specs.declared.step.Step.{Step}
use Rattle.ac_base.specs.declared.shapes.Shape.{Shape}
use Rattle.ac_bound.specs.Bounds.{IsPartial}
use Rattle.std.proofs.lemmas.Bool.{cases_eq, eq-eqb, ne_eqb}
use Rattle.ac_seek.specs.Games.{Game, IsPath, IsNext, channel_of, boundary_of, channel_after, boundary_after}
use Rattle.ac_seek.specs.Words.{game_of}
use Rattle.ac_seek.proofs.Paths.{IsShort-path, Holds-room, Holds-add, Holds-none}
use Rattle.ac_bound.specs.Steps.{kinds_of}
use Rattle.ac_seek.specs.Trees.{of_kinds, of_ends}
use Rattle.ac_claim.specs.Trees.{nexts}
use Rattle.ac_claim.specs.Walks.{Stands}

pub stands-few : (v : AtOffset) (path : List Step) (partial : Partial) (s : Step) → Stands v path partial → IsNext (game_of v) (channel_of path) (boundary_of path) s → (part : ℕ) → part < 3 → slice_index partial.spent part ≤ 2 ^ 40
stands-few v path partial s stands next part p =
    let room = Holds-room (game_of v) path partial s stands.holds (coded-few v.shape) next in
    omega (arith, stands.few part p, room)

cost-is : (v : AtOffset) (s : Step) (row : List ℕ) → row ≡ sixths_by_part v.shape v.raw v.t s.channel s.run → (part : ℕ) → part < 3 → slice_index row part ≡ (game_of v).cost part s
cost-is v s row e =
    of_three (λ q. slice_index row q ≡ (game_of v).cost q s) (ap (λ (r : List ℕ). slice_index r 0) e) (ap (λ (r : List ℕ). slice_index r 1) e) (ap (λ (r : List ℕ). slice_index r 2) e)

pub stands-add : (v : AtOffset) (path : List Step) (old new : Partial) (s : Step) (row : List ℕ) → Stands v path old → IsNext (game_of v) (channel_of path) (boundary_of path) s → row ≡ sixths_by_part v.shape v.raw v.t s.channel s.run → ((part : ℕ) → slice_index row part ≤ 2 ^ 19) → new.done ≡ channel_after s → new.at ≡ boundary_after s → ((part : ℕ) → part < 3 → slice_index new.spent part ≡ slice_index old.spent part + slice_index row part) → Stands v (s ∷ path) new
stands-add v path old new s row stands next cost small done at sums = record {
  holds = Holds-add (game_of v) path old new s row stands.holds next (cost-is v s row cost) done at sums;
  few = λ part p. omega (arith, stands.few part p, small part, sums part p);
}

pub stands-none : (v : AtOffset) (partial : Partial) → partial.done ≡ 0 → partial.at ≡ 0 → ((part : ℕ) → part < 3 → slice_index partial.spent part ≡ 0) → Stands v [] partial
stands-none v partial done at none = record {
  holds = Holds-none (game_of v) partial done at none;
  few = λ part p. omega (arith, none part p);
}

-- ---- how many runs may come next
length-kinds : (n channel from to kind : ℕ) → length (of_kinds n channel from to kind) ≡ n
length-kinds zero channel from to kind = refl
length-kinds (suc n) channel from to kind = omega (arith, length-kinds n channel from to (kind + 1))

length-ends : (kinds : ℕ → ℕ) (n channel from to : ℕ) → length (of_ends kinds n channel from to) ≡ n * kinds channel
length-ends kinds zero channel from to = omega arith
length-ends kinds (suc n) channel from to =
    omega (arith, length-append (of_kinds (kinds channel) channel from to 1) (of_ends kinds n channel from (to + 1)), length-kinds (kinds channel) channel from to 1, length-ends kinds n channel from (to + 1))

pub want-is : (v : AtOffset) (path : List Step) (partial : Partial) → Stands v path partial → length (nexts v path) ≡ (6 - partial.at) * kinds_of v.shape partial.done
want-is v path partial stands =
    length-ends (kinds_of v.shape) (6 - boundary_of path) (channel_of path) (boundary_of path) (boundary_of path + 1)
    ∙ (ap (λ b. (6 - b) * kinds_of v.shape (channel_of path)) (sym stands.holds.at) ∙ ap (λ k. (6 - partial.at) * kinds_of v.shape k) (sym stands.holds.done))

-- ---- what can be asked about
at-end : (g : Game) (path : List Step) → IsPath g path → g.channels ≤ channel_of path → boundary_of path ≡ 0
at-end g [] is l = refl
at-end g (s ∷ path) is l = elim (cases_eq s.run.to 6) [
  | inl e ↦ let t : eqb s.run.to 6 ≡ true = eq-eqb s.run.to 6 e in rw t refl
  | inr other ↦
      let f : eqb s.run.to 6 ≡ false = ne_eqb s.run.to 6 other in
      let here : channel_after s ≡ s.channel = rw f refl in
      absurd (omega (arith, l, here, is.0.inside, is.0.same))
]

pub stands-partial : (v : AtOffset) (shape : Shape) (path : List Step) (partial : Partial) → v.shape ≡ shape → Stands v path partial → IsPartial shape partial
stands-partial v shape path partial same stands =
    let short = IsShort-path (game_of v) path stands.holds.valid in
    let few = coded-few v.shape in
    subst (λ (s : Shape). IsPartial s partial) same (record {
      coded = omega (arith, stands.holds.done, short.channel);
      boundary = omega (arith, stands.holds.at, short.boundary);
      start = λ e. stands.holds.at ∙ at-end (game_of v) path stands.holds.valid (omega (arith, stands.holds.done, e));
      small = λ part p. omega (arith, stands.few part p, short.runs, few);
    })

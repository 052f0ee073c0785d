-- Where a node stands.
use Rattle.std.proofs.Common.{◌≡◌, ℕ, ◌+◌, ◌-◌, ◌*◌, ◌^◌, ◌<◌, ◌≤◌, Bool, true, false, List, [], ◌∷◌, length, set, get_or-set_same, get_or-set_other, slice_index, eqb, refl, sym, ap, ◌∙◌, inl, inr, subst, arith}
use Rattle.std.specs.Prelude.{◌==◌, ◌&&◌, if◌then◌else◌}
use Rattle.std.proofs.lemmas.Bool.{cases_eq, eq-eqb, ne_eqb}
use Rattle.ac_base.specs.declared.shapes.Shape.{Shape}
use Rattle.ac_expo.specs.Raw.{channels}
use Rattle.ac_cost.specs.Records.{AtOffset}
use Rattle.ac_cost.specs.Sixths.{sixths_by_part}
use Rattle.ac_cost.proofs.Assigning.{coded-few}
use Rattle.ac_bound.specs.declared.bounds.Partial.{Partial}
use Rattle.ac_bound.specs.Bounds.{IsPartial}
use Rattle.ac_bound.proofs.Threes.{of_three}
use Rattle.ac_seek.specs.declared.step.Step.{Step}
use Rattle.ac_seek.specs.Games.{Game, IsNext, IsPath, channel_of, boundary_of, channel_after, boundary_after}
use Rattle.ac_seek.specs.Walks.{Holds}
use Rattle.ac_cost.specs.Parts.{IsFeasible}
use Rattle.ac_seek.specs.Words.{game_of, NoneFits}
use Rattle.ac_seek.proofs.Truths.{root-all}
use Rattle.ac_seek.proofs.Paths.{IsShort-path, Holds-add}
use Rattle.ac_trees.specs.declared.node.Node.{Node}
use Rattle.ac_trees.specs.Nodes.{IsAt, IsUnfit, AreWith}

-- ---- codes
pub with-is : (codes : List ℕ) (s : Step) → s.channel < 7 → s.run.from < 6 → length codes ≡ 42 → AreWith codes s (set codes (6 * s.channel + s.run.from) s.run.kind)
with-is codes s l low long c b few m = elim (cases_eq s.channel c) [
  | inl here ↦
      let t : (s.channel == c) ≡ true = eq-eqb s.channel c here in
      elim (cases_eq s.run.from b) [
        | inl there ↦
            let u : (s.run.from == b) ≡ true = eq-eqb s.run.from b there in
            let place : 6 * c + b ≡ 6 * s.channel + s.run.from = omega arith in
            rw (t, u) (ap (slice_index (set codes (6 * s.channel + s.run.from) s.run.kind)) place ∙ get_or-set_same codes (6 * s.channel + s.run.from) s.run.kind 0 (omega arith))
        | inr other ↦
            let u : (s.run.from == b) ≡ false = ne_eqb s.run.from b other in
            rw (t, u) (get_or-set_other codes (6 * s.channel + s.run.from) (6 * c + b) s.run.kind 0 (λ e. other (omega arith)))
      ]
  | inr other ↦
      let t : (s.channel == c) ≡ false = ne_eqb s.channel c other in
      rw t (get_or-set_other codes (6 * s.channel + s.run.from) (6 * c + b) s.run.kind 0 (λ e. other (omega arith)))
]

-- ---- what is known of a node
pub next-at : (v : AtOffset) (path : List Step) (node : Node) (s : Step) → IsAt v path node → IsNext (game_of v) node.partial.done node.partial.at s → IsNext (game_of v) (channel_of path) (boundary_of path) s
next-at v path node s is ok =
    subst (λ c. IsNext (game_of v) c (boundary_of path) s) is.held.done (subst (λ x. IsNext (game_of v) node.partial.done x s) is.held.at ok)

-- no fit below a node is none below a child
pub none-child : (v : AtOffset) (path : List Step) (s : Step) → NoneFits v path → IsNext (game_of v) (channel_of path) (boundary_of path) s → NoneFits v (s ∷ path)
none-child v path s none ok = λ steps way fits. none (s ∷ steps) (ok, way) fits

whole-start : (g : Game) (path : List Step) → IsPath g path → channel_of path ≡ g.channels → boundary_of path ≡ 0
whole-start g [] is e = refl
whole-start g (s ∷ path) is e = elim (cases_eq s.run.to 6) [
  | inl six ↦ let t : eqb s.run.to 6 ≡ true = eq-eqb s.run.to 6 six in rw t refl
  | inr other ↦
      let t : eqb s.run.to 6 ≡ false = ne_eqb s.run.to 6 other in
      let same : s.channel ≡ g.channels = subst (λ (b : Bool). (if b then s.channel + 1 else s.channel) ≡ g.channels) t e in
      absurd (omega (arith, same, is.0.inside, is.0.same))
]

-- the sums of 64 bits hold what is spent
pub spent-small : (v : AtOffset) (node : Node) → IsUnfit v node → (part : ℕ) → part < 3 → slice_index node.partial.spent part ≤ 2 ^ 40
spent-small v node w part p =
    let short = IsShort-path (game_of v) w.path w.is_at.held.valid in
    omega (arith, w.small part p, short.runs, coded-few v.shape)

-- a lower bound can be asked for
pub partial-is : (v : AtOffset) (shape : Shape) (node : Node) → v.shape ≡ shape → IsUnfit v node → IsPartial shape node.partial
partial-is v shape node same w =
    let g = game_of v in
    let held = w.is_at.held in
    let short = IsShort-path g w.path held.valid in
    let count : channels v.shape ≡ channels shape = ap channels same in
    record {
      coded = omega (arith, held.done, short.channel, count);
      boundary = omega (arith, held.at, short.boundary);
      start = λ e. held.at ∙ whole-start g w.path held.valid (sym held.done ∙ (e ∙ sym count));
      small = spent-small v node w;
    }

-- ---- one run more
pub child-at : (v : AtOffset) (path : List Step) (old new : Node) (s : Step) (row : List ℕ) → IsAt v path old → IsNext (game_of v) old.partial.done old.partial.at s → row ≡ sixths_by_part v.shape v.raw v.t s.channel s.run → new.partial.done ≡ channel_after s → new.partial.at ≡ boundary_after s → ((part : ℕ) → part < 3 → slice_index new.partial.spent part ≡ slice_index old.partial.spent part + slice_index row part) → AreWith old.codes s new.codes → IsAt v (s ∷ path) new
child-at v path old new s row is ok cost done at sums codes =
    let g = game_of v in
    let each = of_three (λ p. slice_index (sixths_by_part v.shape v.raw v.t s.channel s.run) p ≡ g.cost p s) refl refl refl in
    record {
      held = Holds-add g path old.partial new.partial s row is.held (next-at v path old s is ok) (λ part p. ap (λ (r : List ℕ). slice_index r part) cost ∙ each part p) done at sums;
      codes = λ c b l m. codes c b l m ∙ ap (λ x. if s.channel == c && s.run.from == b then s.run.kind else x) (is.codes c b l m);
    }

pub child-unfit : (v : AtOffset) (old new : Node) (s : Step) (row : List ℕ) → IsUnfit v old → IsNext (game_of v) old.partial.done old.partial.at s → row ≡ sixths_by_part v.shape v.raw v.t s.channel s.run → ((part : ℕ) → slice_index row part ≤ 2 ^ 19) → new.partial.done ≡ channel_after s → new.partial.at ≡ boundary_after s → ((part : ℕ) → part < 3 → slice_index new.partial.spent part ≡ slice_index old.partial.spent part + slice_index row part) → AreWith old.codes s new.codes → IsUnfit v new
child-unfit v old new s row w ok cost few done at sums codes = record {
  path = s ∷ w.path;
  is_at = child-at v w.path old new s row w.is_at ok cost done at sums codes;
  none = none-child v w.path s w.none (next-at v w.path old s w.is_at ok);
  small = λ part p. omega (arith, w.small part p, sums part p, few part);
}

-- a run that may come next is one of seven channels'
pub next-few : (v : AtOffset) (channel at : ℕ) (s : Step) → IsNext (game_of v) channel at s → s.channel < 7
next-few v channel at s ok = omega (arith, ok.inside, ok.same, coded-few v.shape)

-- before any run
pub root-unfit : (v : AtOffset) (node : Node) → IsAt v [] node → (IsFeasible v.shape v.raw v.t → ⊥) → IsUnfit v node
root-unfit v node is none = record {
  path = [];
  is_at = is;
  none = (root-all v).1 none;
  small = λ part p. omega (arith, is.held.right part p);
}

-- each run leaves fewer boundaries to pass
pub falls : (g : Game) (channel at : ℕ) (s : Step) → at < 6 → IsNext g channel at s → 6 * (g.channels - channel_after s) - boundary_after s < 6 * (g.channels - channel) - at
falls g channel at s low ok = elim (cases_eq s.run.to 6) [
  | inl six ↦
      let t : eqb s.run.to 6 ≡ true = eq-eqb s.run.to 6 six in rw t (omega (arith, ok.inside, ok.same, low))
  | inr other ↦
      let t : eqb s.run.to 6 ≡ false = ne_eqb s.run.to 6 other in rw t (omega (arith, ok.inside, ok.same, ok.later, ok.ends))
]

-- where a node stands there are boundaries to pass
pub node-low : (v : AtOffset) (node : Node) → IsUnfit v node → node.partial.at < 6
node-low v node w =
    omega (arith, w.is_at.held.at, (IsShort-path (game_of v) w.path w.is_at.held.valid).boundary)

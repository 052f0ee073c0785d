-- What a made certificate has: this project's own.
use Rattle.std.specs.Prelude.{◌≡◌, ℕ, ◌+◌, ◌-◌, ◌<◌, ◌≤◌, ◌==◌, if◌then◌else◌, List, [], ◌∷◌, Option, Some, None, slice_index, slice_index_or}
use Rattle.ac_base.specs.declared.shapes.Shape.{Shape}
use Rattle.ac_base.specs.Spans.{IsIn}
use Rattle.ac_expo.specs.Raw.{channels, channel_span}
use Rattle.ac_expo.specs.declared.raws.RawExps.{RawExps}
use Rattle.ac_cost.specs.Records.{AtOffset, at_offset}
use Rattle.ac_bound.specs.declared.pots.Pots.{Pots}
use Rattle.ac_bound.specs.Roots.{IsRoot}
use Rattle.ac_bound.specs.Ways.{ArePots, potential}
use Rattle.ac_plan.specs.declared.answer.Mark.{Mark}
use Rattle.ac_plan.specs.declared.answer.Mark.TheVariants.{Best, Bounded}
use Rattle.ac_plan.specs.declared.answer.Plan.{Plan}
use Rattle.ac_plan.specs.Plans.{IsLawful}
use Rattle.ac_claim.specs.declared.certs.Cert.{Cert}
use Rattle.ac_claim.specs.declared.certs.Level.{Level}
use Rattle.ac_claim.specs.Tests.{Passes}
use Rattle.ac_claim.specs.Trees.{tree_no}

-- the raw exponents of the coded channels' bins are at most 24
abbrev pub AreInRange : Shape → List (List (List ℕ)) → Type 0
AreInRange shape raw =
    (c b k : ℕ) → c < channels shape → b < 6 → IsIn (channel_span shape c) k
    → slice_index (slice_index_or (slice_index_or raw c []) b []) k ≤ 24

-- the potentials are the least costs of all ways on at an offset, and the tree has no fault there
pub record IsLevel (v : AtOffset) (level : Level) : Type 0 where
  pub are : ArePots v (potential level.pots.p)
  pub fine : tree_no v (potential level.pots.p) level.tree [] ≡ None

-- levels of the offsets from one on downwards
abbrev pub AreLevels : Shape → List (List (List ℕ)) → ℕ → List Level → Type 0
AreLevels shape raw t [] = Unit {0}
AreLevels shape raw t (level ∷ levels) = IsLevel (at_offset shape raw t) level × AreLevels shape raw (t - 1) levels

-- the potentials above the root offset are the least costs of all ways on there, and they stand where it isn't 1023
abbrev pub AreAbove : Shape → List (List (List ℕ)) → ℕ → Option Pots → Type 0
AreAbove shape raw top None = top ≡ 1023
AreAbove shape raw top (Some pots) = (top < 1023) × ArePots (at_offset shape raw (top + 1)) (potential pots.p)

-- above this offset a plan says that nothing fits
abbrev pub upper_by : ℕ → Mark → ℕ
upper_by offset Best = offset
upper_by offset (Bounded upper) = upper

abbrev pub upper_of : Plan → ℕ
upper_of plan = upper_by plan.offset plan.mark

-- the plan that a certificate proves: the best where its offset is its upper
abbrev pub mark_of : ℕ → ℕ → Mark
mark_of offset upper = if offset == upper then Best else Bounded upper

abbrev pub plan_of : Cert → Plan
plan_of cert = record { offset = cert.offset; assign = cert.assign; mark = mark_of cert.offset cert.upper }

-- a certificate of a frame's plan within a budget of nodes: of this shape and these raw exponents; its offset, assignment and upper are a
-- lawful plan's; from the root offset down to above the upper, and above the root offset, its potentials are the least costs of all ways
-- on; and it passes every test
pub record IsCertificate (shape : Shape) (raw : RawExps) (nodes : ℕ) (cert : Cert) : Type 0 where
  pub same_shape : cert.shape ≡ shape
  pub same_raw : cert.raw ≡ raw
  pub lawful : IsLawful shape raw.e nodes (plan_of cert)
  pub root : IsRoot shape raw.e cert.top
  pub above : AreAbove shape raw.e cert.top cert.over
  pub levels : AreLevels shape raw.e cert.top cert.trees
  pub passes : Passes cert

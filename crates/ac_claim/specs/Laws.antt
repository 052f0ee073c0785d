-- Laws of certificates: this project's own.
use Rattle.std.specs.Prelude.{◌≡◌, ℕ, ◌<◌, ◌≤◌, IsTrue, List, [], None}
use Rattle.ac_base.specs.declared.runs.Run.{Run}
use Rattle.ac_base.specs.declared.shapes.Shape.{Shape}
use Rattle.ac_base.specs.Words.{IsWord, word_of}
use Rattle.ac_expo.specs.Raw.{channels}
use Rattle.ac_cost.specs.Parts.{IsFeasible}
use Rattle.ac_cost.specs.Records.{AtOffset, at_offset}
use Rattle.ac_cost.specs.Sixths.{runs_sixths}
use Rattle.ac_bound.specs.Ways.{IsWay}
use Rattle.ac_seek.specs.declared.step.Step.{Step}
use Rattle.ac_seek.specs.Games.{IsPath}
use Rattle.ac_seek.specs.Trees.{closed}
use Rattle.ac_seek.specs.Words.{game_of, NoneFits}
use Rattle.ac_claim.specs.declared.certs.Cert.{Cert}
use Rattle.ac_claim.specs.declared.tree.Tree.{Tree}
use Rattle.ac_claim.specs.Claims.{IsClaim}
use Rattle.ac_claim.specs.Potentials.{pots_no}
use Rattle.ac_claim.specs.Tests.{Passes}
use Rattle.ac_claim.specs.Trees.{tree_no}

-- potentials, which are 0 at the end of a frame
abbrev pub EndAtNone : (ℕ → ℕ → ℕ → ℕ) → Type 0
EndAtNone pot = (c part : ℕ) → pot c part 6 ≡ 0

-- those that pass the test bound every way on from each boundary between blocks
abbrev pub PassedIsBound : Type 0
PassedIsBound =
    (v : AtOffset) (pot : ℕ → ℕ → ℕ → ℕ) (c part at : ℕ) (runs : List Run) → EndAtNone pot → pots_no v pot ≡ None
    → c < channels v.shape → part < 3 → IsWay v.shape c at runs → pot c part at ≤ runs_sixths v.shape v.raw v.t part c runs

-- where they close the assignment of which nothing is decided, none fits at their offset or at a higher one
abbrev pub ClosedRulesOutAbove : Type 0
ClosedRulesOutAbove =
    (shape : Shape) (raw : List (List (List ℕ))) (t u : ℕ) (pot : ℕ → ℕ → ℕ → ℕ) → EndAtNone pot
    → pots_no (at_offset shape raw t) pot ≡ None → IsTrue (closed (game_of (at_offset shape raw t)) pot []) → t ≤ u
    → IsFeasible shape raw u → ⊥

-- no assignment that begins as a partial one fits where a tree has no fault at it
abbrev pub TreeIsTrue : Type 0
TreeIsTrue =
    (v : AtOffset) (pot : ℕ → ℕ → ℕ → ℕ) (tree : Tree) (path : List Step) → EndAtNone pot → pots_no v pot ≡ None
    → IsPath (game_of v) path → tree_no v pot tree path ≡ None → NoneFits v path

-- each channel has a word
abbrev pub HasWords : Cert → Type 0
HasWords cert = (c : ℕ) → c < 7 → IsWord (word_of cert.assign.w c)

-- what passes every test claims what is so, whoever made it
abbrev pub PassesIsClaim : Type 0
PassesIsClaim =
    (cert : Cert) → HasWords cert → Passes cert → IsClaim cert.shape cert.raw.e cert.assign.w cert.offset cert.upper

-- The bases of the masks of a run (A/52 7.2.2).
use Rattle.std.specs.Prelude.{◌≡◌, ℕ, ◌<◌, ◌≤◌, List, slice_index}
use Rattle.ac_base.specs.declared.spans.Span.{Span}
use Rattle.ac_base.specs.Allocation.{hth_list}
use Rattle.ac_alloc.specs.declared.params.Params.{Params}
use Rattle.ac_alloc.specs.Codes.{knee}
use Rattle.ac_alloc.specs.Excitation.{excite_by}
use Rattle.ac_alloc.specs.Masking.{mask, masked, first_band, last_band}
use Rattle.ac_base.specs.declared.spans.Lead.{Lead}
use Rattle.ac_sixths.specs.Runs.{base_of}
use Rattle.ac_masks.specs.Densities.{AreLevelsOf}

-- of band b, by the densities of the bands, of which f is the channel's first
abbrev pub base_by : Params → Lead → ℕ → (ℕ → ℕ) → ℕ → ℕ
base_by p lead f P b = base_of (masked (excite_by lead p f P b) (knee p) (P b) (slice_index (hth_list p.fscod) b))

-- by band: those of whatever exponents have these levels
pub record AreBandBases (p : Params) (s : Span) (levels bases : List ℕ) : Type 0 where
  pub bound : (b : ℕ) → b < 50 → slice_index bases b ≤ 2232
  pub value : (exps : List ℕ) → AreLevelsOf s exps levels
      → (b : ℕ) → first_band s ≤ b → b ≤ last_band s → slice_index bases b ≡ base_of (mask p s exps b)

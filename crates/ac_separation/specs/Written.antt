-- What is written where: the bins of a row, and two channels as sum and difference. What spans, a scale and a coupling channel say.
use Rattle.std.specs.Prelude.{◌≡◌, ◌≢◌, ℕ, ◌-◌, ◌*◌, ◌/◌, ◌^◌, ◌<◌, ◌≤◌, ◌⊎◌, ℤ, ◌+ℤ◌, ◌*ℤ◌, neg_ℤ, List, Bool, true, false, pos, slice_index_or, unsigned_abs}
use Rattle.ac_base.specs.declared.spans.Lead.{Lead}
use Rattle.ac_base.specs.declared.spans.Lead.TheVariants.{Free, Coupled, Coupling, Low}
use Rattle.ac_base.specs.declared.spans.Span.{Span}
use Rattle.ac_base.specs.Floor.{floor_div}
use Rattle.ac_energy.specs.Coefficients.{Coefficients}
use Rattle.ac_rows.specs.Blocks.{Block}
use Rattle.ac_rows.specs.Filled.{blank_span}
use Rattle.ac_separation.specs.Separation.{clamped, turned, band_of, separated}
use Rattle.ac_separation.specs.declared.scale.Scale.{Scale}
use Rattle.ac_separation.specs.declared.rows.Shared.{Shared}

-- a coupled channel
abbrev pub is_coupled_lead : Lead → Bool
is_coupled_lead Free = false
is_coupled_lead Coupled = true
is_coupled_lead Coupling = false
is_coupled_lead Low = false

-- what coded channel c is
abbrev pub lead_at : List Span → ℕ → Lead
lead_at spans c = (slice_index_or spans c blank_span).lead

-- a coefficient of the coupling channel by a scale
abbrev pub scaled_by : Scale → ℤ → ℤ
scaled_by s x = clamped (turned s.turned (floor_div (x *ℤ pos s.factor) (2 ^ s.shift)))

-- the values of a row by bin
abbrev pub at : List ℤ → ℕ → ℤ
at xs k = slice_index_or xs k (pos 0)

-- what a coupled channel has at bin k, by the first bin and the values of the coupling channel
abbrev pub separated_at : Block → ℕ → ℕ → (ℕ → ℤ) → ℕ → ℤ
separated_at f c start x k = separated f c (band_of f ((k - start) / 12)) (x k)

-- the coupling channel of a block: its bins, which make whole subbands, its values at most 2 ^ 24 in magnitude, the bands of its subbands
pub record IsShared (f : Block) (s : Shared) : Type 0 where
  pub start : 37 ≤ s.span.start
  pub end : s.span.end ≤ 253
  pub whole : 12 * ((s.span.end - s.span.start) / 12) ≡ s.span.end - s.span.start
  pub bands : (n : ℕ) → n < 18 → slice_index_or s.bands n 0 ≡ band_of f n
  pub small : (k : ℕ) → k < 256 → unsigned_abs (at s.row k) ≤ 2 ^ 24

-- the new row is that of g from `start` up to the bin before `end`, and as before elsewhere
pub record IsWritten (start end : ℕ) (g old new : ℕ → ℤ) : Type 0 where
  pub done : (k : ℕ) → start ≤ k → k < end → new k ≡ g k
  pub rest : (k : ℕ) → (k < start) ⊎ (end ≤ k) → new k ≡ old k

-- in block b channels 0 and 1 have sum and difference from `start` up to the bin before `end`; all else is as before
pub record AreSums (start end b : ℕ) (old new : Coefficients) : Type 0 where
  pub left : IsWritten start end (λ k. clamped (old 0 b k +ℤ old 1 b k)) (old 0 b) (new 0 b)
  pub right : IsWritten start end (λ k. clamped (old 0 b k +ℤ neg_ℤ (old 1 b k))) (old 1 b) (new 1 b)
  pub others : (c j k : ℕ) → (2 ≤ c) ⊎ (j ≢ b) → new c j k ≡ old c j k

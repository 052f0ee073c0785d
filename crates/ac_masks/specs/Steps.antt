-- One row from a band to the next (A/52 7.2.2.4, 7.2.2.5), as the program goes. Leaks and excitations stand raised by 4096, so that
-- none is negative.
use Rattle.std.specs.Prelude.{◌≡◌, ℕ, zero, suc, ◌+◌, ◌*◌, ◌/◌, ◌-◌, ◌≤◌, min, max, ℤ, pos, ◌+ℤ◌, if◌then◌else◌, nat_le, nat_lt, true, false}
use Rattle.ac_base.specs.declared.spans.Lead.{Lead}
use Rattle.ac_base.specs.declared.spans.Lead.TheVariants as lead
use Rattle.ac_alloc.specs.declared.params.Params.{Params}
use Rattle.ac_alloc.specs.Codes.{fast_gain, slow_gain, fast_decay, slow_decay, fast_start, slow_start}
use Rattle.ac_alloc.specs.Excitation.{lowcomp, lowcomp_to, begin, leak, leak_from}

abbrev pub raise : ℕ
raise = 4096

-- a raised number
abbrev pub IsRaised : ℤ → ℕ → Type 0
IsRaised z n = pos n ≡ z +ℤ pos raise

-- ---- what stands before band b
-- the low-frequency compensation of the band before; the coupling channel has none
abbrev pub low_before : Lead → (ℕ → ℕ) → ℕ → ℕ
low_before lead.Free P b = lowcomp_to P b
low_before lead.Coupled P b = lowcomp_to P b
low_before lead.Coupling P b = 0
low_before lead.Low P b = lowcomp_to P (min b 6)

-- where the leaks begin; those of the coupling channel run from its first band on
abbrev pub begin_of : Lead → (ℕ → ℕ) → ℕ
begin_of lead.Free P = begin false P
begin_of lead.Coupled P = begin false P
begin_of lead.Coupling P = 0
begin_of lead.Low P = begin true P

-- a leak at band b, which below its beginning is that of the band alone
abbrev pub leak_at : Lead → ℤ → (ℕ → ℕ) → ℕ → ℕ → ℕ → ℕ → ℤ
leak_at lead.Free start P gain decay f b = leak P gain decay (min (begin false P - 1) b) b
leak_at lead.Coupled start P gain decay f b = leak P gain decay (min (begin false P - 1) b) b
leak_at lead.Coupling start P gain decay f b = leak_from start P gain decay f b
leak_at lead.Low start P gain decay f b = leak P gain decay (min (begin true P - 1) b) b

-- before n bands more than the first, f
abbrev pub leak_before : Lead → ℤ → (ℕ → ℕ) → ℕ → ℕ → ℕ → ℕ → ℤ
leak_before lead start P gain decay f zero = start
leak_before lead start P gain decay f (suc n) = leak_at lead start P gain decay f (f + n)

-- a row before band b of those from f on
pub record IsReady (p : Params) (lead : Lead) (P : ℕ → ℕ) (f b low fast slow : ℕ) : Type 0 where
  pub low_is : low ≡ low_before lead P b
  pub fast_is : IsRaised (leak_before lead (pos (fast_start p)) P (fast_gain p) (fast_decay p) f (b - f)) fast
  pub slow_is : IsRaised (leak_before lead (pos (slow_start p)) P (slow_gain p) (slow_decay p) f (b - f)) slow

-- ---- steps
-- the compensation after a band, by its density and the next band's
abbrev pub low_step : Lead → ℕ → ℕ → ℕ → ℕ → ℕ
low_step lead.Free low here next b = lowcomp low here next b
low_step lead.Coupled low here next b = lowcomp low here next b
low_step lead.Coupling low here next b = low
low_step lead.Low low here next b = if nat_lt b 6 then lowcomp low here next b else low

-- a leak after band b, of density d
abbrev pub leak_step : ℕ → ℕ → ℕ → ℕ → ℕ → ℕ → ℕ
leak_step leak begin b d gain decay = max (if nat_le begin b then leak - decay else 0) (d + (raise - gain))

-- the excitation
abbrev pub excite_step : ℕ → ℕ → ℕ → ℕ → ℕ → ℕ
excite_step fast slow low begin b = if nat_le begin b then max (fast - low) slow else fast - low

-- the base of the mask
abbrev pub base_step : ℕ → ℕ → ℕ → ℕ → ℕ
base_step excite d knee threshold = 2232 - (max (excite + (knee - d) / 4) (threshold + raise) - 1088) / 4

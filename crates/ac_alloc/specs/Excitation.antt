-- The excitation of bands: low-frequency compensation, the leaks and where they begin (A/52 7.2.2.4).
-- P is the power spectral density by band. The standard runs through the bands with one compensation and two leaks that change from band to
-- band; here each is said of a band by itself.
use Rattle.std.specs.Prelude.{◌≡◌, ℕ, zero, suc, ◌+◌, ◌*◌, ◌-◌, ◌≤◌, min, ℤ, pos, ◌-ℤ◌, Bool, true, false, if◌then◌else◌, ◌==◌, nat_lt, nat_le}
use Rattle.std.specs.Int.{int_max}
use Rattle.ac_base.specs.declared.spans.Lead.{Lead}
use Rattle.ac_base.specs.declared.spans.Lead.TheVariants as lead
use Rattle.ac_alloc.specs.declared.params.Params.{Params}
use Rattle.ac_alloc.specs.Codes.{fast_gain, slow_gain, fast_decay, slow_decay, fast_start, slow_start}

-- ---- low-frequency compensation (A/52 7.2.2.4): a before a band, whose density is b0 and whose next band's is b1
unfoldable pub lowcomp : ℕ → ℕ → ℕ → ℕ → ℕ
lowcomp a b0 b1 band =
    if nat_lt band 20
    then (if b0 + 256 == b1 then (if nat_lt band 7 then 384 else 320) else (if nat_lt b1 b0 then a - 64 else a))
    else a - 128

-- the left fold of lowcomp from 0 over the first n bands (A/52 7.2.2.4)
abbrev pub lowcomp_to : (ℕ → ℕ) → ℕ → ℕ
lowcomp_to P zero = 0
lowcomp_to P (suc n) = lowcomp (lowcomp_to P n) (P n) (P (n + 1)) n

-- at band b; band 6 of LFE keeps that of band 5
abbrev pub low : Bool → (ℕ → ℕ) → ℕ → ℕ
low lfe P b = lowcomp_to P (if lfe then min (b + 1) 6 else b + 1)

-- ---- where the leaks begin (A/52 7.2.2.4)
-- one past the first of the n bands from b on that is at most the next band, and 7 where there is none
abbrev pub first_rise : (ℕ → ℕ) → ℕ → ℕ → ℕ
first_rise P b zero = 7
first_rise P b (suc n) = if nat_le (P b) (P (b + 1)) then b + 1 else first_rise P (b + 1) n

-- among bands 2 to 6, of LFE 2 to 5
abbrev pub begin : Bool → (ℕ → ℕ) → ℕ
begin lfe P = first_rise P 2 (if lfe then 4 else 5)

-- ---- leaks (A/52 7.2.2.4), as maxima over the bands that feed them
-- the greatest of f a, f (a + 1) and so on to f (a + n)
abbrev pub greatest : (ℕ → ℤ) → ℕ → ℕ → ℤ
greatest f a zero = f a
greatest f a (suc n) = int_max (greatest f a n) (f (a + suc n))

-- at band b: the greatest, over the bands j from a to b, of P j less the gain and less the decay for each band since
abbrev pub leak : (ℕ → ℕ) → ℕ → ℕ → ℕ → ℕ → ℤ
leak P gain decay a b = greatest (λ j. pos (P j) -ℤ pos gain -ℤ pos (decay * (b - j))) a (b - a)

-- the same where the leak has a value of its own before its first band f
abbrev pub leak_from : ℤ → (ℕ → ℕ) → ℕ → ℕ → ℕ → ℕ → ℤ
leak_from start P gain decay f b = int_max (start -ℤ pos (decay * (b - f + 1))) (leak P gain decay f b)

-- a bound that follows: how far leaks and excitations are from 0
abbrev pub most_leak : ℕ
most_leak = 4416

-- ---- excitation (A/52 7.2.2.4)
-- of a band that both leaks reach; the compensation counts up to band 21
abbrev pub joined : ℤ → ℤ → ℕ → ℕ → ℤ
joined fast slow low b = if nat_le b 21 then int_max (fast -ℤ pos low) slow else int_max fast slow

-- of a channel or of LFE: below the leaks its own density, else by the leaks, which start one band before they begin
abbrev pub excite : Params → Bool → (ℕ → ℕ) → ℕ → ℤ
excite p lfe P b =
    if nat_lt b (begin lfe P)
    then pos (P b) -ℤ pos (fast_gain p) -ℤ pos (low lfe P b)
    else joined
    (leak P (fast_gain p) (fast_decay p) (begin lfe P - 1) b)
    (leak P (slow_gain p) (slow_decay p) (begin lfe P - 1) b)
    (low lfe P b)
    b

-- of the coupling channel, whose first band is f
abbrev pub excite_coupling : Params → ℕ → (ℕ → ℕ) → ℕ → ℤ
excite_coupling p f P b =
    int_max
    (leak_from (pos (fast_start p)) P (fast_gain p) (fast_decay p) f b)
    (leak_from (pos (slow_start p)) P (slow_gain p) (slow_decay p) f b)

-- of a coded channel
abbrev pub excite_by : Lead → Params → ℕ → (ℕ → ℕ) → ℕ → ℤ
excite_by lead.Free p f P b = excite p false P b
excite_by lead.Coupled p f P b = excite p false P b
excite_by lead.Coupling p f P b = excite_coupling p f P b
excite_by lead.Low p f P b = excite p true P b

-- the bands that a coded channel can have, up to but not to: those of its bins (A/52 7.1.3) in A/52 Table 7.13
abbrev pub AreBands : Lead → ℕ → ℕ → Type 0
AreBands lead.Free from to = (from ≡ 0) × (31 ≤ to) × (to ≤ 50)
AreBands lead.Coupled from to = (from ≡ 0) × (31 ≤ to) × (to ≤ 50)
AreBands lead.Coupling from to = (from ≤ to) × (to ≤ 50)
AreBands lead.Low from to = (from ≡ 0) × (to ≡ 7)

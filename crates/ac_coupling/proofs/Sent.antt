-- The coordinate of a band is the one that is sent.
use Rattle.std.proofs.Common.{◌≡◌, ℕ, ◌+◌, ◌*◌, ◌<◌, ◌≤◌, Bool, true, false, ap, sym, ◌∙◌, inl, inr, arith}
use Rattle.std.specs.Prelude.{nat_lt, if◌then◌else◌}
use Rattle.std.proofs.lemmas.Bool.{cases_lt, lt-ltb, le-ltb}
use Rattle.ac_base.specs.declared.shapes.Shape.{Shape}
use Rattle.ac_base.specs.Shape.{full_of, subbands}
use Rattle.ac_coordinates.specs.declared.Coordinate.{Coordinate}
use Rattle.ac_energy.specs.Coefficients.{Coefficients, Channel}
use Rattle.ac_energy.specs.Energy.{energy_of}
use Rattle.ac_coupling.specs.Coordinate.{coordinate_of}
use Rattle.ac_coupling.specs.Coupling.{start_of, end_by, mean_of, band_energy, sent_coordinate}
use Rattle.ac_coupling.proofs.Sums.{energy_same}

abbrev pub nothing : Coordinate
nothing = record { exp = 0; mant = 0 }

-- nothing is sent of a channel that isn't there
pub sent_none : (shape : Shape) (x : Coefficients) (c band : ℕ) → full_of shape.acmod ≤ c → sent_coordinate shape x c band ≡ nothing
sent_none shape x c band past =
    ap (λ (b : Bool). if b then (if nat_lt band (subbands shape.couple) then coordinate_of (band_energy shape.couple (x c) band) (band_energy shape.couple (mean_of (full_of shape.acmod) x) band) else nothing) else nothing) (le-ltb c (full_of shape.acmod) past)

sent_of : (shape : Shape) (x : Coefficients) (c band : ℕ) (test : Bool) → c < full_of shape.acmod → nat_lt band (subbands shape.couple) ≡ test → sent_coordinate shape x c band ≡ if test then coordinate_of (band_energy shape.couple (x c) band) (band_energy shape.couple (mean_of (full_of shape.acmod) x) band) else nothing
sent_of shape x c band test there is =
    ap (λ (b : Bool). if b then (if nat_lt band (subbands shape.couple) then coordinate_of (band_energy shape.couple (x c) band) (band_energy shape.couple (mean_of (full_of shape.acmod) x) band) else nothing) else nothing) (lt-ltb c (full_of shape.acmod) there)
    ∙ ap (λ (b : Bool). if b then coordinate_of (band_energy shape.couple (x c) band) (band_energy shape.couple (mean_of (full_of shape.acmod) x) band) else nothing) is

-- the energies of a band, by the range's start
energies_of : (couple_start start band : ℕ) (x : Channel) → start ≡ couple_start → energy_of x (start + 12 * band) (start + 12 * band + 12) ≡ energy_of x (couple_start + 12 * band) (couple_start + 12 * band + 12)
energies_of couple_start start band x is = ap (λ s. energy_of x (s + 12 * band) (s + 12 * band + 12)) is

-- a full channel's
pub record IsSentBy (shape : Shape) (x : Coefficients) (start end bands : ℕ) (own shared : ℕ → ℕ) (c : ℕ) (mean : Channel) : Type 0 where
  pub start_is : start ≡ start_of shape.couple
  pub end_is : end ≡ end_by shape.couple
  pub bands_is : bands ≡ subbands shape.couple
  pub whole : end ≡ start + 12 * bands
  pub there : c < full_of shape.acmod
  pub mean_is : (b k : ℕ) → b < 6 → start_of shape.couple ≤ k → k < end_by shape.couple → mean b k ≡ mean_of (full_of shape.acmod) x b k
  pub own_is : (band : ℕ) → band < bands → own band ≡ energy_of (x c) (start + 12 * band) (start + 12 * band + 12)
  pub shared_is : (band : ℕ) → band < bands → shared band ≡ energy_of mean (start + 12 * band) (start + 12 * band + 12)

pub sent_by : (shape : Shape) (x : Coefficients) (start end bands : ℕ) (own shared : ℕ → ℕ) (c : ℕ) (mean : Channel) → IsSentBy shape x start end bands own shared c mean → (band : ℕ) (y : Coordinate) → (band < bands → y ≡ coordinate_of (own band) (shared band)) → (bands ≤ band → y ≡ nothing) → y ≡ sent_coordinate shape x c band
sent_by shape x start end bands own shared c mean by band y within behind =
    elim (cases_lt band bands) [
      | inl below ↦
          let first = start_of shape.couple in
          let own_energy = by.own_is band below ∙ energies_of first start band (x c) by.start_is in
          let mean_energy =
          energy_same mean (mean_of (full_of shape.acmod) x) (start + 12 * band) (start + 12 * band + 12)
          (λ b k block from to. by.mean_is b k block (omega (arith, by.start_is, from)) (omega (arith, by.end_is, by.whole, to, below))) in
          let shared_energy = by.shared_is band below ∙ mean_energy ∙ energies_of first start band (mean_of (full_of shape.acmod) x) by.start_is in
          let test = lt-ltb band (subbands shape.couple) (omega (arith, by.bands_is, below)) in
          within below ∙ ap (λ e. coordinate_of e (shared band)) own_energy ∙ ap (λ e. coordinate_of (band_energy shape.couple (x c) band) e) shared_energy ∙ sym (sent_of shape x c band true by.there test)
      | inr past ↦
          let test = le-ltb band (subbands shape.couple) (omega (arith, by.bands_is, past)) in
          behind past ∙ sym (sent_of shape x c band false by.there test)
    ]

-- The coordinates of a frame: they are told by the coefficients of a sound's channels, there is one list of them, and each has 4 bits.
use Rattle.std.proofs.Common.{◌≡◌, ℕ, ◌<◌, ◌≤◌, Bool, true, false, [], Option, Some, None, slice_index_or, if◌then◌else◌, nat_lt, refl, sym, ◌∙◌, subst, arith}
use Rattle.std.proofs.lemmas.List.{ext_get_or as list_ext}
use Rattle.ac_base.specs.declared.shapes.Shape.{Shape}
use Rattle.ac_base.specs.Shape.{IsCoupling, full_of, subbands}
use Rattle.ac_coding.specs.Asked.{coordinate_of as coordinate_in}
use Rattle.ac_coordinates.specs.declared.Coordinate.{Coordinate}
use Rattle.ac_coordinates.specs.declared.Coordinates.{Coordinates}
use Rattle.ac_coupling.specs.Coordinate.{coordinate_of}
use Rattle.ac_coupling.specs.Coupling.{AreCoordinates, sent_coordinate, band_energy, mean_of}
use Rattle.ac_energy.specs.Coefficients.{Coefficients}
use Rattle.ac_sent.proofs.Spans.{full_most}
use Rattle.ac_enc.proofs.Alike.{Alike, sent_same}

pub coordinates_same : (shape : Shape) (x y : Coefficients) (coords : Coordinates) → Alike (full_of shape.acmod) x y → AreCoordinates shape x coords → AreCoordinates shape y coords
coordinates_same shape x y coords same are = record {
  long = are.long;
  rows = are.rows;
  sent = λ c band l m. are.sent c band l m ∙ sent_same shape x y same c band;
}

pub one_coordinates : (shape : Shape) (x : Coefficients) (a b : Coordinates) → AreCoordinates shape x a → AreCoordinates shape x b → a ≡ b
one_coordinates shape x a b p q =
    let row : (c : ℕ) → c < 5 → slice_index_or a.of c [] ≡ slice_index_or b.of c [] = λ c l.
    list_ext (record { exp = 0; mant = 0 }) (slice_index_or a.of c []) (slice_index_or b.of c []) (p.rows c l ∙ sym (q.rows c l))
    (λ band m. let e = p.rows c l in p.sent c band l (omega (arith, e, m)) ∙ sym (q.sent c band l (omega (arith, e, m)))) in
    let all = list_ext [] a.of b.of (p.long ∙ sym q.long) (λ c l. let e = p.long in row c (omega (arith, e, l))) in
    λ i. record { of = all i }

-- ---- each has 4 bits
abbrev Small : Coordinate → Type 0
Small x = (x.exp ≤ 15) × (x.mant ≤ 15)

either : (b : Bool) (x y : Coordinate) → Small x → Small y → Small (if b then x else y)
either true x y p q = p
either false x y p q = q

of_energies : (own shared : ℕ) → Small (coordinate_of own shared)
unfolding coordinate_of
of_energies own shared = (omega arith, omega arith)

sent_small : (shape : Shape) (x : Coefficients) (c band : ℕ) → Small (sent_coordinate shape x c band)
sent_small shape x c band =
    let full = full_of shape.acmod in
    let own = coordinate_of (band_energy shape.couple (x c) band) (band_energy shape.couple (mean_of full x) band) in
    let none : Coordinate = record { exp = 0; mant = 0 } in
    let zero : Small none = (omega arith, omega arith) in
    either (nat_lt c full) (if nat_lt band (subbands shape.couple) then own else none) none
    (either (nat_lt band (subbands shape.couple)) own none (of_energies (band_energy shape.couple (x c) band) (band_energy shape.couple (mean_of full x) band)) zero) zero

bands_most : (acmod : ℕ) (couple : Option (ℕ × ℕ)) → IsCoupling acmod couple → subbands couple ≤ 18
bands_most acmod None is = omega arith
bands_most acmod (Some p) is = let h = is p refl in let e = h.2 in omega (arith, e)

pub coordinates_small : (shape : Shape) (x : Coefficients) (coords : Coordinates) → AreCoordinates shape x coords → (i k : ℕ) → i < full_of shape.acmod → k < subbands shape.couple
    → ((coordinate_in coords i k).exp ≤ 15) × ((coordinate_in coords i k).mant ≤ 15)
coordinates_small shape x coords are i k l m =
    let few = full_most shape in
    let bands = bands_most shape.acmod shape.couple shape.coupling in
    subst Small (sym (are.sent i k (omega (arith, few, l)) (omega (arith, bands, m)))) (sent_small shape x i k)

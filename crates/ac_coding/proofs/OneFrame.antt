-- Laws of frames by their coefficients.
use Rattle.std.proofs.Common.{◌≡◌, ℕ, ◌*◌, Bool, List, refl, ap, ◌∙◌}
use Rattle.ac_base.specs.declared.shapes.Shape.{Shape}
use Rattle.ac_expo.specs.declared.word.Assign.{Assign}
use Rattle.ac_coordinates.specs.declared.Coordinates.{Coordinates}
use Rattle.ac_sent.proofs.Back.{gives_back}
use Rattle.ac_packing.proofs.Unique.{frame_size}
use Rattle.ac_coding.specs.Laws.{OneFrameOfCoefficients, ReadingGivesCoefficients, FrameHasSize}
use Rattle.ac_energy.specs.Coefficients.{Coefficients}
use Rattle.ac_coding.specs.Values.{values_of}
use Rattle.ac_coding.proofs.OneOfValues.{one_of_values}
use Rattle.ac_coding.proofs.Values.{are_quantised}

-- the values have the shape
pub shape_is : (shape : Shape) (x : Coefficients) (t : ℕ) (assign : Assign) (remat : List Bool) (coords : Coordinates) → (values_of shape x t assign remat coords).shape ≡ shape
unfolding values_of
shape_is shape x t assign remat coords = refl

-- and the flags and the coordinates
pub flags_are : (shape : Shape) (x : Coefficients) (t : ℕ) (assign : Assign) (remat : List Bool) (coords : Coordinates) → (values_of shape x t assign remat coords).remat ≡ remat
unfolding values_of
flags_are shape x t assign remat coords = refl

pub coordinates_are : (shape : Shape) (x : Coefficients) (t : ℕ) (assign : Assign) (remat : List Bool) (coords : Coordinates) → (values_of shape x t assign remat coords).coords ≡ coords
unfolding values_of
coordinates_are shape x t assign remat coords = refl

pub one : OneFrameOfCoefficients
one shape x t assign remat coords frame other a b p q = one_of_values (values_of shape x t assign remat coords) frame other a b p q

pub back : ReadingGivesCoefficients
back shape x t assign remat coords frame f asked packed reading = gives_back (values_of shape x t assign remat coords) frame f (are_quantised shape x t assign remat coords asked) packed reading

pub size : FrameHasSize
size shape x t assign remat coords frame packed =
    frame_size (values_of shape x t assign remat coords) frame packed ∙ ap (λ (s : Shape). 2 * s.words) (shape_is shape x t assign remat coords)

-- Laws of frames by their coefficients.
use Rattle.std.specs.Prelude.{◌≡◌, ℕ, ◌*◌, ◌<◌, Bool, List, length}
use Rattle.ac_base.specs.declared.shapes.Shape.{Shape}
use Rattle.ac_base.specs.Spans.{IsIn}
use Rattle.ac_expo.specs.declared.word.Assign.{Assign}
use Rattle.ac_expo.specs.Raw.{channel_span, channels}
use Rattle.ac_coordinates.specs.declared.Coordinates.{Coordinates}
use Rattle.ac_record.specs.Frames.{FrameCodes}
use Rattle.ac_record.specs.Laws.{AreBytes}
use Rattle.ac_record.specs.Readings.{IsReading}
use Rattle.ac_sent.specs.Asked.{IsQuantised}
use Rattle.ac_sent.specs.Laws.{IsBack}
use Rattle.ac_energy.specs.Coefficients.{Coefficients}
use Rattle.ac_coding.specs.Values.{values_of, IsCoded}
use Rattle.ac_coding.specs.Asked.{IsAsked}

-- what is handed in is what a frame is asked to have
abbrev pub ValuesAreQuantised : Type 0
ValuesAreQuantised =
    (shape : Shape) (x : Coefficients) (t : ℕ) (assign : Assign) (remat : List Bool) (coords : Coordinates)
    → IsAsked shape x t assign coords → IsQuantised (values_of shape x t assign remat coords)

-- there is one frame of them, whatever they are
abbrev pub OneFrameOfCoefficients : Type 0
OneFrameOfCoefficients =
    (shape : Shape) (x : Coefficients) (t : ℕ) (assign : Assign) (remat : List Bool) (coords : Coordinates) (frame other : List ℕ)
    → AreBytes frame → AreBytes other
    → IsCoded shape x t assign remat coords frame → IsCoded shape x t assign remat coords other → frame ≡ other

-- and its reading gives them back
abbrev pub ReadingGivesCoefficients : Type 0
ReadingGivesCoefficients =
    (shape : Shape) (x : Coefficients) (t : ℕ) (assign : Assign) (remat : List Bool) (coords : Coordinates)
    (frame : List ℕ) (f : FrameCodes) → IsAsked shape x t assign coords → IsCoded shape x t assign remat coords frame → IsReading frame f
    → IsBack (values_of shape x t assign remat coords) f

-- coefficients that agree at the bins of the spans have the same values
abbrev pub Agree : Shape → Coefficients → Coefficients → Type 0
Agree shape x y = (c b k : ℕ) → c < channels shape → b < 6 → IsIn (channel_span shape c) k → x c b k ≡ y c b k

-- so that a frame of one is a frame of the other, whatever the assignment
abbrev pub FrameIsBySpans : Type 0
FrameIsBySpans =
    (shape : Shape) (x y : Coefficients) (t : ℕ) (assign : Assign) (remat : List Bool) (coords : Coordinates) (frame : List ℕ)
    → Agree shape x y → IsCoded shape x t assign remat coords frame → IsCoded shape y t assign remat coords frame

-- likewise where they agree at all bins of the coded channels
abbrev pub FrameIsByCoefficients : Type 0
FrameIsByCoefficients =
    (shape : Shape) (x y : Coefficients) (t : ℕ) (assign : Assign) (remat : List Bool) (coords : Coordinates) (frame : List ℕ)
    → ((c b k : ℕ) → c < channels shape → b < 6 → k < 256 → x c b k ≡ y c b k)
    → IsCoded shape x t assign remat coords frame → IsCoded shape y t assign remat coords frame

-- a frame has its size
abbrev pub FrameHasSize : Type 0
FrameHasSize =
    (shape : Shape) (x : Coefficients) (t : ℕ) (assign : Assign) (remat : List Bool) (coords : Coordinates) (frame : List ℕ)
    → IsCoded shape x t assign remat coords frame → length frame ≡ 2 * shape.words

-- The report, this project's own: a line for each frame. Each line ends with a line feed.
use Rattle.std.specs.Prelude.{ℕ, suc, List, [], ◌∷◌, ◌++◌, codes, decimal}
use Rattle.ac_reading.specs.Framed.{Reading}
use Rattle.ac_decode.specs.Stream.{size_of}

-- `frame I size Z read`: the frame's number and its size in bytes
abbrev pub frame_line : ℕ → ℕ → List ℕ
frame_line i size = codes "frame " ++ decimal i ++ codes " size " ++ decimal size ++ codes " read\n"

-- those from number i on
abbrev pub lines_from : ℕ → List Reading → List ℕ
lines_from i [] = []
lines_from i (g ∷ gs) = frame_line i (size_of g) ++ lines_from (suc i) gs

-- the lines of these frames
abbrev pub lines_of : List Reading → List ℕ
lines_of gs = lines_from 0 gs

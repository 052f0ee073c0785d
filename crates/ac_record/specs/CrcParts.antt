-- The two parts of a frame that the CRC words make whole (A/52 7.10.1), by the frame's bits.
use Rattle.std.specs.Prelude.{ℕ, Bool, List, take, drop}
use Rattle.ac_base.specs.Sizes.{front_room}

-- the bits that crc1 makes whole: the first CRC part without the syncword (A/52 7.10.1)
abbrev pub front_part : ℕ → List Bool → List Bool
front_part words frame = drop 16 (take (front_room words) frame)

-- the bits that crc2 makes whole: the frame without the syncword (A/52 7.10.1)
abbrev pub all_part : List Bool → List Bool
all_part frame = drop 16 frame

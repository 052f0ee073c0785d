-- Laws of these definitions.
use Rattle.std.specs.Prelude.{◌≡◌, ℕ, Bool, List, ◌++◌, length}
use Rattle.ac_mant.specs.Groups.{AreCoded, Fill, IsFill, closed, pairs, spelled}

-- bits are those of one list of codes alone, whatever fills the last groups: reading back gives the codes that were packed
abbrev pub OneReading : Type 0
OneReading =
    (baps codes others : List ℕ) (fill filled : Fill) (rest left : List Bool) → IsFill fill → IsFill filled
    → length codes ≡ length baps → length others ≡ length baps → AreCoded (pairs baps codes) → AreCoded (pairs baps others)
    → spelled fill closed (pairs baps codes) ++ rest ≡ spelled filled closed (pairs baps others) ++ left → (codes ≡ others) × (rest ≡ left)

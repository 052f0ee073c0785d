-- Rows in a row: their bits and their widths.
use Rattle.std.proofs.Common.{◌≡◌, ℕ, ◌+◌, ◌*◌, List, [], ◌∷◌, ◌++◌, length, refl, ap, sym, ◌∙◌, append_assoc, arith, length-append}
use Rattle.std.proofs.lemmas.List.{append-nil}
use Rattle.ac_bits.specs.Bits.{bits}
use Rattle.ac_bits.proofs.Laws.{length-bits}
use Rattle.ac_frame.specs.Rows.{Row, spell, group_rows}

-- how many bits the rows are
unfoldable pub widths : List Row → ℕ
widths [] = 0
widths (r ∷ rows) = r.width + widths rows

pub spell-append : (a b : List Row) → spell (a ++ b) ≡ spell a ++ spell b
unfolding spell
spell-append [] b = refl
spell-append (r ∷ a) b = ap (λ l. bits r.value r.width ++ l) (spell-append a b) ∙ sym (append_assoc (bits r.value r.width) (spell a) (spell b))

pub widths-append : (a b : List Row) → widths (a ++ b) ≡ widths a + widths b
unfolding widths
widths-append [] b = omega arith
widths-append (r ∷ a) b = omega (arith, widths-append a b)

pub length-spell : (rows : List Row) → length (spell rows) ≡ widths rows
unfolding spell widths
length-spell [] = refl
length-spell (r ∷ rows) = rw length-append (omega (arith, length-bits r.value r.width, length-spell rows))

pub one_spelled : (r : Row) → spell (r ∷ []) ≡ bits r.value r.width
unfolding spell
one_spelled r = append-nil (bits r.value r.width)

pub widths-groups : (groups : List ℕ) → widths (group_rows groups) ≡ 7 * length groups
unfolding widths group_rows
widths-groups [] = refl
widths-groups (g ∷ groups) = omega (arith, widths-groups groups)

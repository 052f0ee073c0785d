-- The transform of 256 numbers to 32 rows of 16, the products row by row, and the transform back: this project's own way to negacyclic sums.
use Rattle.std.specs.Prelude.{ℕ, ◌+◌, ◌-◌, ◌*◌, ◌/◌, ◌%◌, ◌^◌, List, ℤ, pos, neg_ℤ, ◌+ℤ◌, ◌-ℤ◌, ◌*ℤ◌, nat_lt, if◌then◌else◌}
use Rattle.ac_base.specs.Floor.{floor_div}
use Rattle.ac_base.specs.Sigma.{sigma}
use Rattle.ac_convolution.specs.Negacyclic.{wave, items}
use Rattle.ac_convolution.specs.Rows.{row, Rows}

-- row a has every sixteenth number from a on
abbrev pub column_of : (ℕ → ℤ) → ℕ → ℕ → ℤ
column_of g a s = g (16 * s + a)

abbrev pub spread_of : (ℕ → ℤ) → ℕ → ℕ → ℤ
spread_of g a = wave 16 (column_of g a)

-- row e: row a of g is turned by e places for each a
abbrev pub forward_of : (ℕ → ℕ → ℤ) → ℕ → ℕ → ℤ
forward_of g e s = sigma 16 (λ a. g a (s + e * a))

-- every other row of 48 numbers, turned by e places for each row
abbrev pub half_of : List (List ℤ) → ℕ → ℕ → ℕ → ℤ
half_of rows from e s = sigma 8 (λ q. items (row rows (2 * q + from)) (e * (2 * q + from) % 32 + s))

-- row e of the table
abbrev pub kernel_of : (ℕ → ℤ) → ℕ → ℕ → ℤ
kernel_of h e t = sigma 32 (λ j. h (16 * (t + e * j) + j))

abbrev pub product_at : (ℕ → ℕ → ℤ) → (ℕ → ℤ) → ℕ → ℕ → ℤ
product_at g h e k = sigma 16 (λ s. forward_of g e s *ℤ kernel_of h e (s + k))

-- row e is turned back by e places for each i
abbrev pub inverse_of : (ℕ → ℕ → ℤ) → ℕ → ℕ → ℤ
inverse_of q i k = sigma 32 (λ e. q e (k + 31 * (e * i)))

-- each row continued with the opposite sign
abbrev pub waves_of : List (List ℤ) → ℕ → ℕ → ℤ
waves_of q e = wave 16 (items (row q e))

-- rows e, e + 8, e + 16 and e + 24 as the places equal to c modulo 4 need them: row 8 c + e
unfoldable pub class_of : (ℕ → ℕ → ℤ) → ℕ → ℕ → ℤ
class_of q r k = sigma 4 (λ t. q (r % 8 + 8 * t) (k + 31 * (8 * t * (r / 8))))

-- 8 rows of 48 numbers, turned back
abbrev pub eighth_of : List (List ℤ) → ℕ → ℕ → ℤ
eighth_of x i k = sigma 8 (λ e. items (row x (8 * (i % 4) + e)) (31 * (e * i) % 32 + k))

-- 16 numbers, and the sums of those 8 apart
unfoldable pub parts_of : (ℕ → ℤ) → ℕ → ℤ
parts_of f n = if nat_lt n 16 then f n else f (n - 16) +ℤ f (n - 8)

-- the differences of numbers 8 apart, the opposites of their sums, and the later of them
unfoldable pub kernel_parts : (ℕ → ℤ) → ℕ → ℤ
kernel_parts v n =
    if nat_lt n 16
    then v n -ℤ v (n + 8)
    else if nat_lt n 32 then neg_ℤ (v (n - 16) +ℤ v (n - 8)) else v (n - 24)

-- 8 products of parts from a on and a kernel from b on
abbrev pub eight_of : (ℕ → ℤ) → ℕ → (ℕ → ℤ) → ℕ → ℕ → ℤ
eight_of p a w b k = sigma 8 (λ s. p (a + s) *ℤ w (b + s + k))

-- 16 products by 16
unfoldable pub joined_of : (ℕ → ℤ) → (ℕ → ℤ) → ℕ → ℤ
joined_of p w k =
    if nat_lt k 8
    then eight_of p 16 w 32 k +ℤ eight_of p 0 w 0 k
    else eight_of p 16 w 32 (k - 8) +ℤ eight_of p 8 w 16 (k - 8)

-- a number of scale 2 ^ 15 as a multiple of 2 ^ 15 and a rest from -2 ^ 14 on
unfoldable pub high_of : ℤ → ℤ
high_of z = floor_div (z +ℤ pos (2 ^ 14)) (2 ^ 15)

unfoldable pub low_of : ℤ → ℤ
low_of z = z -ℤ high_of z *ℤ pos (2 ^ 15)

-- the table of h: 32 rows of 48
abbrev pub table_of : (ℕ → ℤ) → ℕ → ℕ → ℤ
table_of h e = kernel_parts (kernel_of (wave 256 h) e)

-- what 32 times the two halves of a sum stand for
unfoldable pub whole_of : ℤ → ℤ → ℤ
whole_of p q = floor_div p 32 +ℤ floor_div q 32 *ℤ pos (2 ^ 15)

-- low and high are the table of h
abbrev pub IsTable : List ℤ → List (List ℤ) → List (List ℤ) → Type 0
IsTable h low high = Rows 32 48 (table_of (λ i. low_of (items h i))) low × Rows 32 48 (table_of (λ i. high_of (items h i))) high

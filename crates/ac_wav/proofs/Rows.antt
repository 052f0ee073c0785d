-- From a piece to the samples of the list.
use Rattle.std.proofs.Common.{replicate, unsigned_abs, lit≤, ◌^◌, ◌≡◌, ℕ, ◌+◌, ◌-◌, ◌*◌, ◌/◌, ◌%◌, ◌≤◌, ◌<◌, min, Bool, true, false, List, [], length, take, drop, Option, Some, None, refl, sym, subst, ap, ◌∙◌, arith, inl, inr, slice_index_or, ℤ, pos, lt-ltb, le-ltb}
use Rattle.std.specs.Prelude.{nat_lt, ◌&&◌, if◌then◌else◌, ◌⊎◌, ◌*ℤ◌}
use Rattle.std.proofs.lemmas.Bool.{cases_lt}
use Rattle.std.proofs.lemmas.List.{drop-drop, length-take-le, get_or-replicate}
use Rattle.std.proofs.lemmas.Nat.{le-div, div_below}
use Rattle.std.proofs.Math.Nat.{mul-add-div_right, div-eq_of_lt, add-mul}
use Rattle.byteorder.specs.Endian.{little_number, twos_complement}
use Rattle.byteorder.specs.Numbers.{little_from-take}
use Rattle.ac_riff.specs.declared.head.WavHead.{WavHead}
use Rattle.ac_riff.specs.Form.{IsOfProfile}
use Rattle.ac_wav.specs.Samples.{stated}
use Rattle.ac_wav.specs.Samples.{align_of, width_of, value_of, offset_of, sample_in, data_length, RowsAre, RowsWithin, part_of, SamplesRead, PartRead}
use Rattle.ac_riff.proofs.Chunks.{from_cut}
use Rattle.ac_wav.proofs.Rooms.{offset_room}

-- a sample that is there
pub sample_here : (head : WavHead) (count : ℕ) (bytes : List ℕ) (c j : ℕ) → c < head.channels → j < count → sample_in head count bytes c j ≡ value_of head.bits (drop (offset_of head c j) bytes)
unfolding sample_in
sample_here head count bytes c j h k =
    ap (λ b. if b && nat_lt j count then value_of head.bits (drop (offset_of head c j) bytes) else pos 0) (lt-ltb c head.channels h)
    ∙ ap (λ b. if b then value_of head.bits (drop (offset_of head c j) bytes) else pos 0) (lt-ltb j count k)

chosen : (a b b' : Bool) (v v' : ℤ) → b ≡ b' → (a ≡ true → b ≡ true → v ≡ v') → (if a && b then v else pos 0) ≡ (if a && b' then v' else pos 0)
chosen true true b' v v' e h = h refl refl ∙ ap (λ x. if x then v' else pos 0) e
chosen true false b' v v' e h = ap (λ x. if x then v' else pos 0) e
chosen false b b' v v' e h = refl

sample_same : (head : WavHead) (count count' : ℕ) (bytes bytes' : List ℕ) (c j j' : ℕ) → nat_lt j count ≡ nat_lt j' count'
    → (nat_lt c head.channels ≡ true → nat_lt j count ≡ true → value_of head.bits (drop (offset_of head c j) bytes) ≡ value_of head.bits (drop (offset_of head c j') bytes'))
    → sample_in head count bytes c j ≡ sample_in head count' bytes' c j'
unfolding sample_in
sample_same head count count' bytes bytes' c j j' e h = chosen (nat_lt c head.channels) (nat_lt j count) (nat_lt j' count') _ _ e h

-- a value reads no byte past its own
number_take : (n off k : ℕ) (xs : List ℕ) → off + k ≤ n → little_number k (drop off (take n xs)) ≡ little_number k (drop off xs)
number_take n off k xs h = ap (little_number k) (from_cut xs off n (omega arith)) ∙ little_from-take 0 k (n - off) (drop off xs) (omega arith)

two_widths : (bits : ℕ) → 16 ≤ bits → bits ≤ 24 → bits % 8 ≡ 0 → (bits ≡ 16) ⊎ (bits ≡ 24)
two_widths bits h k e = elim (cases_lt bits 24) [ inl l ↦ inl (omega (arith, h, l, e)) | inr l ↦ inr (omega (arith, k, l)) ]

value_take : (bits n off : ℕ) (xs : List ℕ) → (bits ≡ 16) ⊎ (bits ≡ 24) → off + bits / 8 ≤ n → value_of bits (drop off (take n xs)) ≡ value_of bits (drop off xs)
value_take bits n off xs (inl e) h =
    subst (λ (b : ℕ). value_of b (drop off (take n xs)) ≡ value_of b (drop off xs)) (sym e)
    (ap (λ x. twos_complement 2 x *ℤ pos 256) (number_take n off 2 xs (omega (arith, e))))
value_take bits n off xs (inr e) h =
    subst (λ (b : ℕ). value_of b (drop off (take n xs)) ≡ value_of b (drop off xs)) (sym e)
    (ap (λ x. twos_complement 3 x) (number_take n off 3 xs (omega (arith, e))))

-- ---- the number of samples

count_is : (a start total n : ℕ) → 0 < a → start * a + n ≤ total → n ≤ 1536 * a → (n < 1536 * a → start * a + n ≡ total) → n / a ≡ min 1536 (total / a - start)
count_is a start total n h inside most whole =
    let rest = total - start * a in
    let e : total ≡ start * a + rest = omega arith in
    let d : total / a ≡ start + rest / a = ap (λ x. x / a) e ∙ mul-add-div_right h start rest in
    elim (cases_lt n (1536 * a)) [
      | inl k ↦
          let same : n ≡ rest = omega (arith, whole k) in
          let q : n / a ≡ rest / a = ap (λ x. x / a) same in
          let low : n / a < 1536 = div_below n a 1536 h k in
          omega (arith, q, low, d)
      | inr k ↦
          let same : n ≡ 1536 * a + 0 = omega arith in
          let none : 0 / a ≡ 0 = div-eq_of_lt h in
          let q : n / a ≡ 1536 + 0 / a = ap (λ x. x / a) same ∙ mul-add-div_right h 1536 0 in
          let much : 1536 ≤ rest / a = le-div 1536 rest a h (omega arith) in
          omega (arith, q, none, much, d)
    ]

lt_same : (a b c d : ℕ) → (a < b → c < d) → (c < d → a < b) → nat_lt a b ≡ nat_lt c d
lt_same a b c d f g = elim (cases_lt a b) [
  | inl h ↦ lt-ltb a b h ∙ sym (lt-ltb c d (f h))
  | inr h ↦ elim (cases_lt c d) [
    | inl k ↦ absurd (omega (arith, g k, h))
    | inr k ↦ le-ltb a b h ∙ sym (le-ltb c d k)
  ]
]

true_lt : (a b : ℕ) → nat_lt a b ≡ true → a < b
true_lt a b e = Rattle.std.proofs.lemmas.Bool.ltb-true a b e

-- ---- the rows

row_same : (bytes : List ℕ) (head : WavHead) (taken start n count : ℕ) → IsOfProfile head → taken ≡ head.taken + start * align_of head → n / align_of head ≡ min 1536 (count - start)
    → (c t : ℕ) → t < 1536 → sample_in head (n / align_of head) (take n (drop taken bytes)) c t ≡ sample_in head count (drop head.taken bytes) c (start + t)
row_same bytes head taken start n count p e q c t below =
    let a = align_of head in
    sample_same head (n / a) count (take n (drop taken bytes)) (drop head.taken bytes) c t (start + t)
    (lt_same t (n / a) (start + t) count (λ h. omega (arith, h, q)) (λ h. omega (arith, h, q, below)))
    (λ h k.
    let room : offset_of head c t + width_of head ≤ n = offset_room head c t n p (true_lt t (n / a) k) in
    let far : (start + t) * a ≡ start * a + t * a = add-mul start t a in
    let off : taken + offset_of head c t ≡ head.taken + offset_of head c (start + t) = omega (arith, e, far) in
    value_take head.bits n (offset_of head c t) (drop taken bytes) (two_widths head.bits p.bits_least p.bits_most p.bits_whole) room
    ∙ ap (value_of head.bits) (drop-drop (offset_of head c t) taken bytes ∙ (ap (λ m. drop m bytes) off ∙ sym (drop-drop (offset_of head c (start + t)) head.taken bytes))))

pub samples_read : (bytes : List ℕ) (head : WavHead) (taken start n : ℕ) (piece : List ℕ) (rows : List (List ℤ)) (left : Option (List ℕ)) → IsOfProfile head → 0 < align_of head
    → taken ≡ head.taken + start * align_of head → n ≤ 1536 * align_of head → n ≤ length piece → PartRead bytes head taken n piece left
    → RowsAre (sample_in head (length (take n piece) / align_of head) (take n piece)) rows → SamplesRead bytes head taken start (taken + n) (n / align_of head) rows left
samples_read bytes head taken start n piece rows left p least e most fits r are =
    let a = align_of head in
    let total = data_length head bytes in
    let q : n / a ≡ min 1536 (total / a - start) = count_is a start total n least (omega (arith, r.inside, e)) most (λ h. omega (arith, r.whole h, e)) in
    let long : length (take n piece) ≡ n = length-take-le n piece fits in
    record {
      count = q;
      rows_are = λ c below t here.
          are c below t here
          ∙ (ap (λ m. sample_in head (m / a) (take n piece) c t) long
          ∙ (ap (λ l. sample_in head (n / a) l c t) r.front
          ∙ row_same bytes head taken start n (total / a) p e q c t here));
      at = r.at;
      more = λ h.
          let full : 1536 * a ≤ n = elim (cases_lt n (1536 * a)) [ inl k ↦ absurd (let low : n / a < 1536 = div_below n a 1536 least k in omega (arith, low, h)) | inr k ↦ k ] in
          let same : n ≡ 1536 * a = omega arith in
          ap (λ m. taken + m) same;
      end = λ h.
          let short : n < 1536 * a = elim (cases_lt n (1536 * a)) [ inl k ↦ k | inr k ↦ absurd (let much : 1536 ≤ n / a = le-div 1536 n a least k in omega (arith, much, h)) ] in
          r.whole short;
    }

-- ---- the part that is asked for

pub part_inside : (size : Option ℕ) (ht taken n long full : ℕ) → ht ≤ taken → taken ≤ ht + stated size taken → taken + n ≤ long → n ≤ part_of size full (taken - ht) → taken + n ≤ ht + stated size (long - ht)
part_inside None ht taken n long full h k m w = omega arith
part_inside (Some size) ht taken n long full h k m w = omega arith

pub part_whole : (size : Option ℕ) (ht taken n long full : ℕ) → ht ≤ taken → taken ≤ ht + stated size taken → n ≡ part_of size full (taken - ht) → n < full → taken + n ≡ ht + stated size (long - ht)
part_whole None ht taken n long full h k w s = absurd (omega arith)
part_whole (Some size) ht taken n long full h k w s = omega arith

pub part_cut : (size : Option ℕ) (s ht taken n long full : ℕ) → size ≡ Some s → ht ≤ taken → n < part_of size full (taken - ht) → taken + n ≡ long → long < ht + stated size (long - ht)
part_cut None s ht taken n long full e h w m = cc
part_cut (Some size) s ht taken n long full e h w m = omega arith

pub part_ends : (size : Option ℕ) (ht taken n long : ℕ) → size ≡ None → ht ≤ taken → taken + n ≡ long → taken + n ≡ ht + stated size (long - ht)
part_ends None ht taken n long e h m = omega arith
part_ends (Some size) ht taken n long e h m = cc

-- rows of zeros
pub zero_rows : (rows : List (List ℤ)) → rows ≡ replicate 6 (replicate 1536 (pos 0)) → RowsWithin rows
zero_rows rows e c below t here =
    let z : slice_index_or (slice_index_or rows c []) t (pos 0) ≡ pos 0 =
    ap (λ (r : List (List ℤ)). slice_index_or (slice_index_or r c []) t (pos 0)) e
    ∙ (ap (λ (r : List ℤ). slice_index_or r t (pos 0)) (get_or-replicate 6 c (replicate 1536 (pos 0)) [] below) ∙ get_or-replicate 1536 t (pos 0) (pos 0) here) in
    subst (λ (v : ℤ). unsigned_abs v ≤ 2 ^ 23) (sym z) (lit≤ tt)

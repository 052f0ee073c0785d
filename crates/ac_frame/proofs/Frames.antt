-- The parts of a frame, over lists of bits.
use Rattle.std.proofs.Common.{inl, inr, ◌<◌, ◌^◌, ◌≡◌, ◌≢◌, ◌⊎◌, ℕ, zero, suc, ◌+◌, ◌*◌, ◌≤◌, Bool, List, [], ◌∷◌, ◌++◌, length, take, drop, refl, ap, sym, ◌∙◌, subst, append_assoc, arith, length-append}
use Rattle.std.proofs.lemmas.List.{drop_at, take-append-le}
use Rattle.std.specs.Prelude.{Option, Some, None}
use Rattle.std.proofs.Math.Seq.{take-append-add}
use Rattle.std.proofs.lemmas.List.{drop-drop}
use Rattle.ac_bits.specs.Bits.{bits, bits_of}
use Rattle.ac_bits.proofs.Laws.{length-bits}
use Rattle.ac_crc.specs.Remainder.{IsRemainder}
use Rattle.ac_frame.specs.Rows.{Row, row, spell, group_rows}
use Rattle.ac_base.specs.Sizes.{front_room}
use Rattle.ac_sent.specs.Padding.{skip, skip_bits, skipped, to_skip, aux_bits}
use Rattle.ac_frame.specs.Plain.{head_rows, strategy_rows, allocation_rows, reuse_rows, skip_rows, first_block_rows, later_block_rows, later_rows, tail_rows, total_bits, body_rows, plain_rows, IsSized, IsPlain}
use Rattle.ac_record.specs.CrcParts.{front_part, all_part}
use Rattle.ac_frame.proofs.Spelling.{widths, spell-append, widths-append, widths-groups, length-spell, one_spelled}
use Rattle.ac_frame.proofs.Skips.{skipped_is, room_left}

take_none : (n : ℕ) → take {A = Bool} n [] ≡ []
take_none zero = refl
take_none (suc n) = refl

-- a front of bytes, as bits
pub bits_of-take : (k : ℕ) (l : List ℕ) → bits_of (take k l) ≡ take (8 * k) (bits_of l)
bits_of-take zero l = refl
bits_of-take (suc k) [] = sym (take_none (8 * suc k))
bits_of-take (suc k) (b ∷ l) =
    let n : 8 * suc k ≡ length (bits b 8) + 8 * k = omega (arith, length-bits b 8) in
    ap (λ x. bits b 8 ++ x) (bits_of-take k l)
    ∙ (sym (take-append-add (bits b 8) (bits_of l) (8 * k)) ∙ ap (λ m. take m (bits b 8 ++ bits_of l)) (sym n))

-- the first CRC part of a frame
pub front_of : (s c b d : List Bool) (n m : ℕ) → length s ≡ 16 → length c ≡ 16 → n ≡ 32 + m → m ≤ length b → drop 16 (take n (s ++ (c ++ (b ++ d)))) ≡ c ++ take m b
front_of s c b d n m es ec en h =
    let one : n ≡ length s + (16 + m) = omega arith in
    let two : 16 + m ≡ length c + m = omega arith in
    ap (λ k. drop 16 (take k (s ++ (c ++ (b ++ d))))) one
    ∙ (ap (drop 16) (take-append-add s (c ++ (b ++ d)) (16 + m))
    ∙ (drop_at s (take (16 + m) (c ++ (b ++ d))) 16 es
    ∙ (ap (λ k. take k (c ++ (b ++ d))) two
    ∙ (take-append-add c (b ++ d) m
    ∙ ap (λ l. c ++ l) (take-append-le m b d h)))))

pub widths-head : (fscod frmsizecod : ℕ) → widths (head_rows fscod frmsizecod) ≡ 33
unfolding head_rows widths
widths-head fscod frmsizecod = refl

widths-strategy : (bw first : ℕ) → widths (strategy_rows bw first) ≡ 17
unfolding strategy_rows widths
widths-strategy bw first = refl

widths-allocation : widths allocation_rows ≡ 30
unfolding allocation_rows widths
widths-allocation = refl

widths-reuse : widths reuse_rows ≡ 9
unfolding reuse_rows widths
widths-reuse = refl

widths-skip : (s : Option ℕ) → widths (skip_rows s) ≡ 1 + skip_bits s
unfolding skip_rows widths
widths-skip None = refl
widths-skip (Some k) = omega arith

widths-later : (s : Option ℕ) → widths (later_block_rows s) ≡ 10 + skip_bits s
widths-later s = widths-append reuse_rows (skip_rows s) ∙ (omega (arith, widths-reuse, widths-skip s))

widths-blocks : (a b c d e : List Row) → widths (a ++ (b ++ (c ++ (d ++ e)))) ≡ widths a + (widths b + (widths c + (widths d + widths e)))
widths-blocks a b c d e = omega (arith, widths-append a (b ++ (c ++ (d ++ e))), widths-append b (c ++ (d ++ e)), widths-append c (d ++ e), widths-append d e)

widths-all_later : (x : ℕ) → widths (later_rows x) ≡ 50 + skipped x
unfolding later_rows
widths-all_later x =
    let whole = widths-blocks (later_block_rows (skip x 1)) (later_block_rows (skip x 2)) (later_block_rows (skip x 3)) (later_block_rows (skip x 4)) (later_block_rows (skip x 5)) in
    omega (arith, whole, skipped_is x, widths-later (skip x 1), widths-later (skip x 2), widths-later (skip x 3), widths-later (skip x 4), widths-later (skip x 5))

widths-first : (bw first : ℕ) (groups : List ℕ) → widths (first_block_rows bw first groups) ≡ 47 + 7 * length groups
widths-first bw first groups =
    let e = widths-append (strategy_rows bw first) (group_rows groups ++ allocation_rows) in
    let f = widths-append (group_rows groups) allocation_rows in
    omega (arith, e, f, widths-strategy bw first, widths-groups groups, widths-allocation)

widths-tail : (aux crcrsv : ℕ) → widths (tail_rows aux crcrsv) ≡ aux + 2
unfolding tail_rows widths
widths-tail aux crcrsv = omega arith

-- what a plain frame is made of
pub record Made : Type 0 where
  pub fscod : ℕ
  pub frmsizecod : ℕ
  pub words : ℕ
  pub bw : ℕ
  pub first : ℕ
  pub groups : List ℕ

abbrev pub Sized : Made → Type 0
Sized a = IsSized a.words a.groups

abbrev pub body : Made → ℕ → List Row
body a r = body_rows a.fscod a.frmsizecod a.words a.bw a.first a.groups r

total : Made → ℕ
total a = total_bits (length a.groups)

-- its length
widths-body : (a : Made) (r : ℕ) → Sized a → widths (body a r) + 48 ≡ 16 * a.words
unfolding body_rows total
widths-body a r s =
    let x = to_skip a.words (total a) 0 in
    let aux = aux_bits a.words (total a) 0 in
    let head = head_rows a.fscod a.frmsizecod in
    let block = first_block_rows a.bw a.first a.groups in
    let later = later_rows x in
    let tail = tail_rows aux r in
    let e : widths (head ++ (block ++ (later ++ tail))) ≡ widths head + (widths block + (widths later + widths tail)) =
    omega (arith, widths-append head (block ++ (later ++ tail)), widths-append block (later ++ tail), widths-append later tail) in
    omega (arith, e, widths-head a.fscod a.frmsizecod, widths-first a.bw a.first a.groups, widths-all_later x, widths-tail aux r, room_left a.words (length a.groups) s.least s.most s.few)

pub length-body : (a : Made) (r : ℕ) → Sized a → length (spell (body a r)) + 48 ≡ 16 * a.words
length-body a r s = omega (arith, length-spell (body a r), widths-body a r s)

-- the bits before crcrsv
pub before : Made → List Bool
before a =
    spell (head_rows a.fscod a.frmsizecod ++ (first_block_rows a.bw a.first a.groups ++ (later_rows (to_skip a.words (total a) 0) ++ (row 0 (aux_bits a.words (total a) 0) ∷ row 0 1 ∷ []))))

regroup : (a b c d e : List Row) → a ++ (b ++ (c ++ (d ++ e))) ≡ (a ++ (b ++ (c ++ d))) ++ e
regroup a b c d e = sym (simp append_assoc)

pub body_split : (a : Made) (r : ℕ) → spell (body a r) ≡ before a ++ bits r 1
unfolding body_rows before tail_rows total
body_split a r =
    let head = head_rows a.fscod a.frmsizecod in
    let block = first_block_rows a.bw a.first a.groups in
    let later = later_rows (to_skip a.words (total a) 0) in
    let tail : List Row = row 0 (aux_bits a.words (total a) 0) ∷ row 0 1 ∷ [] in
    ap spell (regroup head block later tail (row r 1 ∷ []))
    ∙ (spell-append (head ++ (block ++ (later ++ tail))) (row r 1 ∷ []) ∙ ap (λ l. spell (head ++ (block ++ (later ++ tail))) ++ l) (one_spelled (row r 1)))

-- crcrsv is not in the first CRC part
pub front_same : (a : Made) (r q m : ℕ) → Sized a → m + 49 ≤ 16 * a.words → take m (spell (body a r)) ≡ take m (spell (body a q))
front_same a r q m s h =
    let n : length (before a) + 1 ≡ length (spell (body a r)) = omega (arith, ap length (body_split a r), length-append (before a) (bits r 1), length-bits r 1) in
    let k : m ≤ length (before a) = omega (arith, length-body a r s) in
    ap (take m) (body_split a r)
    ∙ (take-append-le m (before a) (bits r 1) k
    ∙ (sym (take-append-le m (before a) (bits q 1) k) ∙ ap (take m) (sym (body_split a q))))

pub all_rows : (a : Made) (crc1 r crc2 : ℕ) → spell (plain_rows a.fscod a.frmsizecod a.words a.bw a.first a.groups crc1 r crc2) ≡ bits 0x0B77 16 ++ (bits crc1 16 ++ (spell (body a r) ++ bits crc2 16))
unfolding plain_rows spell
all_rows a crc1 r crc2 =
    let e : spell (body a r ++ row crc2 16 ∷ []) ≡ spell (body a r) ++ bits crc2 16 = spell-append (body a r) (row crc2 16 ∷ []) ∙ ap (λ l. spell (body a r) ++ l) (one_spelled (row crc2 16)) in
    ap (λ l. bits 0x0B77 16 ++ (bits crc1 16 ++ l)) e

-- all but the first word
pub all_of : (a : Made) (crc1 r crc2 : ℕ) → all_part (spell (plain_rows a.fscod a.frmsizecod a.words a.bw a.first a.groups crc1 r crc2)) ≡ bits crc1 16 ++ (spell (body a r) ++ bits crc2 16)
all_of a crc1 r crc2 = ap (drop 16) (all_rows a crc1 r crc2) ∙ drop_at (bits 0x0B77 16) (bits crc1 16 ++ (spell (body a r) ++ bits crc2 16)) 16 (length-bits 0x0B77 16)

-- the first CRC part
pub front_is : (a : Made) (crc1 r crc2 m : ℕ) → Sized a → front_room a.words ≡ 32 + m → front_part a.words (spell (plain_rows a.fscod a.frmsizecod a.words a.bw a.first a.groups crc1 r crc2)) ≡ bits crc1 16 ++ take m (spell (body a 0))
front_is a crc1 r crc2 m s e =
    let low : m + 49 ≤ 16 * a.words = omega (arith, s.least) in
    let h : m ≤ length (spell (body a r)) = omega (arith, length-body a r s) in
    ap (λ l. front_part a.words l) (all_rows a crc1 r crc2)
    ∙ (front_of (bits 0x0B77 16) (bits crc1 16) (spell (body a r)) (bits crc2 16) (front_room a.words) m (length-bits 0x0B77 16) (length-bits crc1 16) e h
    ∙ ap (λ l. bits crc1 16 ++ l) (front_same a r 0 m s low))

-- these are the parts of a plain frame
pub is_plain : (a : Made) (frame : List ℕ) (crc1 r crc2 m : ℕ) → Sized a → front_room a.words ≡ 32 + m → (crc1 < 2 ^ 16) × (crc2 < 2 ^ 16)
    → bits_of frame ≡ bits 0x0B77 16 ++ (bits crc1 16 ++ (spell (body a r) ++ bits crc2 16))
    → IsRemainder (bits crc1 16 ++ take m (spell (body a 0))) 0
    → IsRemainder (bits crc1 16 ++ (spell (body a r) ++ bits crc2 16)) 0
    → ((r ≡ 0) × (crc2 ≢ 0x0B77)) ⊎ ((r ≡ 1) × IsRemainder (bits crc1 16 ++ (spell (body a 0) ++ bits 0x0B77 16)) 0)
    → IsPlain a.fscod a.frmsizecod a.words a.bw a.first a.groups frame
is_plain a frame crc1 r crc2 m s e fit whole front all reserved =
    let same : bits_of frame ≡ spell (plain_rows a.fscod a.frmsizecod a.words a.bw a.first a.groups crc1 r crc2) = whole ∙ sym (all_rows a crc1 r crc2) in
    let Zero : List Bool → Type 0 = λ l. IsRemainder l 0 in
    record {
      crc1 = crc1;
      crcrsv = r;
      crc2 = crc2;
      fit = fit;
      whole = same;
      front = subst Zero (sym (ap (front_part a.words) same ∙ front_is a crc1 r crc2 m s e)) front;
      all = subst Zero (sym (ap all_part same ∙ all_of a crc1 r crc2)) all;
      reserved = elim reserved [ inl p ↦ inl p | inr p ↦ inr (p.0, subst Zero (sym (all_of a crc1 0 0x0B77)) p.1) ];
    }

drop_none : (n : ℕ) → drop {A = Bool} n [] ≡ []
drop_none zero = refl
drop_none (suc n) = refl

-- what is left of bytes, as bits
pub bits_of-drop : (k : ℕ) (l : List ℕ) → bits_of (drop k l) ≡ drop (8 * k) (bits_of l)
bits_of-drop zero l = refl
bits_of-drop (suc k) [] = sym (drop_none (8 * suc k))
bits_of-drop (suc k) (b ∷ l) =
    let n : 8 * suc k ≡ 8 + 8 * k = omega arith in
    bits_of-drop k l
    ∙ (ap (drop (8 * k)) (sym (drop_at (bits b 8) (bits_of l) 8 (length-bits b 8)))
    ∙ (drop-drop (8 * k) 8 (bits b 8 ++ bits_of l) ∙ ap (λ m. drop m (bits b 8 ++ bits_of l)) (sym n)))

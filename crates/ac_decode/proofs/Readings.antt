-- A reading says the size of its frame, and depends on the bytes of the frame alone.
use Rattle.std.proofs.Common.{◌≡◌, ℕ, ◌+◌, ◌*◌, ◌≤◌, min, Bool, List, [], ◌++◌, append_assoc, length, take, drop, ap, sym, subst, ◌∙◌, arith}
use Rattle.std.proofs.lemmas.List.{length-take, take-append-drop, take-take}
use Rattle.ac_bits.specs.Bits.{bits_of}
use Rattle.ac_bits.proofs.Laws.{bits_of-append, length-bits_of}
use Rattle.ac_codec.specs.declared.refused.Row.TheVariants.{Fscod, Frmsizecod}
use Rattle.ac_codec.proofs.Sound.{one_value}
use Rattle.ac_rows.specs.declared.head.Head.{Head}
use Rattle.ac_rows.specs.HeadRows.{whole_head}
use Rattle.ac_rows.proofs.HeadSound.{whole_head_sound}
use Rattle.ac_record.specs.Records.{Record, blocks_spelled, tail_spelled, record_spelled, words_of, StandsFor}
use Rattle.ac_record.specs.Readings.{IsReading}
use Rattle.ac_record.proofs.Leading.{head_is}
use Rattle.ac_reading.specs.Framed.{Reading}
use Rattle.ac_decode.specs.Stream.{size_of, needed}
use Rattle.ac_decode.proofs.Sizes.{SixFit, SaysSize, says_size}
use Rattle.ac_decode.proofs.Needs.{sizes_fit, below_is, needed_sized}

-- the bytes begin with a lawful head, and are no fewer than it says
pub record Begun (bytes : List ℕ) (h : Head) : Type 0 where
  pub addbsi : List Bool
  pub more : List Bool
  pub lawful : whole_head.Lawful (h, addbsi)
  pub whole : bits_of bytes ≡ whole_head.spell (h, addbsi) ++ more
  pub long : 2 * words_of h ≤ length bytes
  pub least : 128 ≤ 2 * words_of h
  pub most : 2 * words_of h ≤ 3840

record_begins : (bytes : List ℕ) (r : Record) → StandsFor (bits_of (take (2 * words_of r.head) bytes)) r → Begun bytes r.head
unfolding record_spelled
record_begins bytes r p =
    let n = 2 * words_of r.head in
    let front = take n bytes in
    let behind = blocks_spelled r.head [] r.blocks ++ (r.aux ++ tail_spelled r) in
    let count : 8 * length front ≡ 16 * words_of r.head = sym (length-bits_of front) ∙ p.size in
    let kept : length front ≡ min n (length bytes) = length-take n bytes in
    let is = head_is r.head r.addbsi p.is_record.head in
    let size = sizes_fit r.head.fscod r.head.frmsizecod (below_is 3 Fscod r.head.fscod is.fscod) (below_is 38 Frmsizecod r.head.frmsizecod is.frmsizecod) in
    let least = size.0 in
    let most = size.1 in
    record {
      addbsi = r.addbsi;
      more = behind ++ bits_of (drop n bytes);
      lawful = p.is_record.head;
      whole =
          ap bits_of (sym (take-append-drop n bytes))
          ∙ (bits_of-append front (drop n bytes)
          ∙ (ap (λ (l : List Bool). l ++ bits_of (drop n bytes)) p.whole
          ∙ append_assoc (whole_head.spell (r.head, r.addbsi)) behind (bits_of (drop n bytes))));
      long = omega (arith, count, kept);
      least = omega (arith, least);
      most = omega (arith, most);
    }

pub begun : (bytes : List ℕ) (g : Reading) → IsReading bytes g → Begun bytes g.head
begun bytes g r = subst (Begun bytes) (sym r.reading.head) (record_begins bytes r.of r.stands)

-- two frames of one list of bytes have one head
pub one_head : (bytes : List ℕ) (g h : Reading) → IsReading bytes g → IsReading bytes h → g.head ≡ h.head
one_head bytes g h p q =
    let a = begun bytes g p in
    let b = begun bytes h q in
    let heads = one_value whole_head whole_head_sound (g.head, a.addbsi) (h.head, b.addbsi) a.more b.more a.lawful b.lawful (sym a.whole ∙ b.whole) in
    ap (λ (z : Head × List Bool). z.0) heads.0

-- ---- the bytes of the frame alone

pub read_by : (xs ys : List ℕ) (g : Reading) → take (size_of g) xs ≡ take (size_of g) ys → IsReading xs g → IsReading ys g
read_by xs ys g same r =
    let e : take (2 * words_of r.of.head) xs ≡ take (2 * words_of r.of.head) ys = subst (λ (h : Head). take (2 * words_of h) xs ≡ take (2 * words_of h) ys) r.reading.head same in
    record { of = r.of; stands = subst (λ (l : List ℕ). StandsFor (bits_of l) r.of) e r.stands; reading = r.reading }

pub read_taken : (n : ℕ) (xs : List ℕ) (g : Reading) → size_of g ≤ n → IsReading xs g → IsReading (take n xs) g
read_taken n xs g fits r = read_by xs (take n xs) g (sym (take-take (size_of g) n xs fits)) r

pub read_from : (n : ℕ) (xs : List ℕ) (g : Reading) → IsReading (take n xs) g → IsReading xs g
read_from n xs g r =
    let long = (begun (take n xs) g r).long in
    let kept = length-take n xs in
    read_by (take n xs) xs g (take-take (size_of g) n xs (omega (arith, long, kept))) r

-- ---- its size

pub reading_says : (bytes : List ℕ) (g : Reading) → SixFit bytes → IsReading bytes g → SaysSize bytes g.head
reading_says bytes g fit r =
    let b = begun bytes g r in
    says_size bytes g.head b.addbsi b.more fit (let long = b.long in let least = b.least in omega (arith, long, least)) b.lawful b.whole

pub reading_needs : (bytes : List ℕ) (g : Reading) → SixFit bytes → IsReading bytes g → needed bytes ≡ size_of g
reading_needs bytes g fit r =
    let b = begun bytes g r in
    let s = reading_says bytes g fit r in
    let long = b.long in
    let least = b.least in
    needed_sized bytes (omega (arith, long, least)) s.none ∙ ap (λ w. 2 * w) s.words

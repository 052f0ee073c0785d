-- A fault depends on the bytes that are looked at alone, and a frame has none.
use Rattle.std.proofs.Common.{◌≡◌, ◌≢◌, inl, inr, ℕ, ◌-◌, ◌*◌, ◌≤◌, Bool, List, length, take, Option, None, Some, ap, sym, subst, ◌∙◌, arith}
use Rattle.std.proofs.lemmas.Bool.{cases_lt}
use Rattle.std.proofs.lemmas.List.{length-take, take-take, take_all}
use Rattle.ac_base.specs.Sizes.{tail_bits}
use Rattle.ac_bits.specs.Bits.{bits_of}
use Rattle.ac_crc.specs.Remainder.{IsRemainder}
use Rattle.ac_codec.specs.declared.refused.Refused.{Refused}
use Rattle.ac_record.specs.declared.codes.FrameFault.{FrameFault}
use Rattle.ac_record.specs.declared.codes.FrameFault.TheVariants.{Short, BadCrc1, BadCrc2, Changed, Field}
use Rattle.ac_record.specs.CrcParts.{front_part, all_part}
use Rattle.ac_record.specs.Faults.{size_refusal, words_at, frame_at, FieldsRefuse, IsThere, IsShort, IsFault}
use Rattle.ac_record.proofs.Whole.{one_fault}
use Rattle.ac_decode.specs.Stream.{needed, looked_at}
use Rattle.ac_decode.proofs.Sizes.{six_refusal, six_words, six_taken}
use Rattle.ac_decode.proofs.Needs.{Need, Few, Bad, Sized, need}

-- ---- a frame that is there, by its words and its bits

abbrev TornBy : ℕ → List Bool → FrameFault → Type 0
TornBy w f (Short have) = ⊥
TornBy w f (BadCrc1 r) = IsRemainder (front_part w f) r × (r ≢ 0)
TornBy w f (BadCrc2 r) = IsRemainder (front_part w f) 0 × IsRemainder (all_part f) r × (r ≢ 0)
TornBy w f (Changed row) = ⊥
TornBy w f (Field e) = IsRemainder (front_part w f) 0 × IsRemainder (all_part f) 0 × FieldsRefuse (take (16 * w - tail_bits) f) e

none_some : (o : Option Refused) (e : Refused) → o ≡ None → o ≡ Some e → ⊥
none_some None e p q = absurd cc
none_some (Some x) e p q = absurd cc

never_short : (xs : List ℕ) → IsThere xs → IsShort xs → ⊥
never_short xs there (inl few) = let six = there.head in omega (arith, six, few)
never_short xs there (inr (six, none, less)) = let whole = there.whole in omega (arith, whole, less)

torn_of : (xs : List ℕ) (fault : FrameFault) → IsThere xs → IsFault xs fault → TornBy (words_at xs) (frame_at xs) fault
torn_of xs (Short have) there f = never_short xs there f.1
torn_of xs (BadCrc1 r) there f = (f.1, f.2)
torn_of xs (BadCrc2 r) there f = (f.1, f.2, f.3)
torn_of xs (Changed row) there f = f
torn_of xs (Field e) there (inl r) = absurd (none_some (size_refusal xs) e there.size r.1)
torn_of xs (Field e) there (inr r) = (r.1, r.2, r.3)

of_torn : (xs : List ℕ) (fault : FrameFault) → IsThere xs → TornBy (words_at xs) (frame_at xs) fault → IsFault xs fault
of_torn xs (Short have) there f = absurd f
of_torn xs (BadCrc1 r) there f = (there, f.0, f.1)
of_torn xs (BadCrc2 r) there f = (there, f.0, f.1, f.2)
of_torn xs (Changed row) there f = f
of_torn xs (Field e) there f = inr (there, f.0, f.1, f.2)

-- ---- the bytes that are looked at

frame_taken : (n : ℕ) (xs : List ℕ) → words_at (take n xs) ≡ words_at xs → 2 * words_at xs ≤ n → frame_at (take n xs) ≡ frame_at xs
frame_taken n xs same fits =
    ap (λ w. bits_of (take (2 * w) (take n xs))) same ∙ ap bits_of (take-take (2 * words_at xs) n xs fits)

-- a whole frame of them
there_taken : (n : ℕ) (xs : List ℕ) → n ≤ length xs → 6 ≤ n → size_refusal xs ≡ None → 2 * words_at xs ≤ n → IsThere (take n xs)
there_taken n xs inside six none fits =
    let kept = length-take n xs in
    let same = six_taken n xs six in
    let words = six_words (take n xs) xs same in
    record { head = omega (arith, kept, inside, six); size = six_refusal (take n xs) xs same ∙ none; whole = omega (arith, kept, inside, words, fits) }

there_whole : (n : ℕ) (xs : List ℕ) → n ≤ length xs → 6 ≤ n → size_refusal xs ≡ None → 2 * words_at xs ≤ n → IsThere xs
there_whole n xs inside six none fits = record { head = omega arith; size = none; whole = omega arith }

-- a fault of those that are looked at is one of all, and the other way round
pub record Same (xs ys : List ℕ) (fault : FrameFault) : Type 0 where
  pub there : IsFault xs fault → IsFault ys fault
  pub back : IsFault ys fault → IsFault xs fault

same_all : (xs ys : List ℕ) (fault : FrameFault) → xs ≡ ys → Same xs ys fault
same_all xs ys fault e = record { there = λ f. subst (λ (l : List ℕ). IsFault l fault) e f; back = λ f. subst (λ (l : List ℕ). IsFault l fault) (sym e) f }

same_refused : (xs ys : List ℕ) (fault : FrameFault) (e : Refused) → IsFault xs (Field e) → IsFault ys (Field e) → Same xs ys fault
same_refused xs ys fault e p q = record {
  there = λ f. subst (λ (d : FrameFault). IsFault ys d) (one_fault xs (Field e) fault p f) q;
  back = λ f. subst (λ (d : FrameFault). IsFault xs d) (one_fault ys (Field e) fault q f) p;
}

same_sized : (n : ℕ) (xs : List ℕ) (fault : FrameFault) → n ≤ length xs → 6 ≤ n → size_refusal xs ≡ None → 2 * words_at xs ≤ n → Same (take n xs) xs fault
same_sized n xs fault inside six none fits =
    let taken = there_taken n xs inside six none fits in
    let whole = there_whole n xs inside six none fits in
    let words = six_words (take n xs) xs (six_taken n xs six) in
    let frame = frame_taken n xs words fits in
    record {
      there = λ f. of_torn xs fault whole (subst (λ (w : ℕ). TornBy w (frame_at xs) fault) words (subst (λ (l : List Bool). TornBy (words_at (take n xs)) l fault) frame (torn_of (take n xs) fault taken f)));
      back = λ f. of_torn (take n xs) fault taken (subst (λ (w : ℕ). TornBy w (frame_at (take n xs)) fault) (sym words) (subst (λ (l : List Bool). TornBy (words_at xs) l fault) (sym frame) (torn_of xs fault whole f)));
    }

refused_taken : (n : ℕ) (xs : List ℕ) (e : Refused) → 6 ≤ n → 6 ≤ length xs → size_refusal xs ≡ Some e → IsFault (take n xs) (Field e)
refused_taken n xs e enough six some =
    let kept = length-take n xs in
    inl (omega (arith, kept, enough, six), six_refusal (take n xs) xs (six_taken n xs enough) ∙ some)

all_looked : (rest : List ℕ) → length rest ≤ needed rest → take (looked_at rest) rest ≡ rest
all_looked rest few = take_all (looked_at rest) rest (omega (arith, few))

same_by : (rest : List ℕ) (fault : FrameFault) → Need rest → Same (take (looked_at rest) rest) rest fault
same_by rest fault (Few few e) = same_all (take (looked_at rest) rest) rest fault (all_looked rest (omega (arith, few, e)))
same_by rest fault (Bad r six some e) =
    same_refused (take (looked_at rest) rest) rest fault r (refused_taken (looked_at rest) rest r (omega (arith, six, e)) six some) (inl (six, some))
same_by rest fault (Sized six none e least most) =
    elim (cases_lt (length rest) (2 * words_at rest)) [
      | inl few ↦ same_all (take (looked_at rest) rest) rest fault (all_looked rest (omega (arith, few, e)))
      | inr whole ↦ same_sized (looked_at rest) rest fault (omega arith) (omega (arith, six, e, least)) none (omega (arith, e, whole))
    ]

pub same_looked : (rest : List ℕ) (fault : FrameFault) → Same (take (looked_at rest) rest) rest fault
same_looked rest fault = same_by rest fault (need rest)

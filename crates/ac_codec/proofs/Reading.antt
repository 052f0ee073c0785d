-- What the readers of single fields cite.
use Rattle.std.proofs.Common.{◌≡◌, ℕ, zero, suc, ◌+◌, ◌<◌, ◌≤◌, ◌^◌, ◌==◌, Bool, true, List, [], ◌∷◌, ◌++◌, length, take, drop, Option}
use Rattle.std.proofs.Common.{Some, None, Result, Ok, Err, refl, ap, sym, ◌∙◌, arith, length-append}
use Rattle.std.proofs.lemmas.Bool.{le-ltb, lt-ltb}
use Rattle.std.proofs.lemmas.List.{take_at, drop_at}
use Rattle.ac_bits.specs.Bits.{bits, num}
use Rattle.ac_bits.proofs.Laws.{length-bits, num-bits}
use Rattle.std.specs.Prelude.{IfOk, OnErr}
use Rattle.ac_bits.specs.declared.source.OutOfBits.{OutOfBits}
use Rattle.ac_codec.specs.declared.refused.Refused.{Refused}
use Rattle.ac_codec.specs.declared.refused.Refused.TheVariants as refusals
use Rattle.ac_codec.specs.Codec.{field, field_read, checked, tested_bit, tested, free}

-- a number of w bits at the front
pub field_at : (w v : ℕ) (rest : List Bool) (refuse : ℕ → Option Refused) → v < 2 ^ w
    → field_read w refuse (bits v w ++ rest) ≡ checked (refuse v) v (bits v w ++ rest) rest
field_at w v rest refuse h =
    let l = bits v w ++ rest in
    let n : length l ≡ w + length rest = length-append (bits v w) rest ∙ ap (λ k. k + length rest) (length-bits v w) in
    let t : take w l ≡ bits v w = take_at (bits v w) rest w (length-bits v w) in
    let d : drop w l ≡ rest = drop_at (bits v w) rest w (length-bits v w) in
    let m : num (take w l) ≡ v = ap num t ∙ num-bits v w h in
    rw (le-ltb (length l) w (omega (arith, n)), m, d) refl

pub field_ok : (w v : ℕ) (l rest : List Bool) (refuse : ℕ → Option Refused) → v < 2 ^ w → l ≡ bits v w ++ rest → refuse v ≡ None
    → (field w refuse).read l ≡ Ok (v, rest)
unfolding field
field_ok w v l rest refuse h e r = rw e (field_at w v rest refuse h ∙ ap (λ o. checked o v (bits v w ++ rest) rest) r)

pub field_refused : (w v : ℕ) (l rest : List Bool) (refuse : ℕ → Option Refused) (x : Refused) → v < 2 ^ w → l ≡ bits v w ++ rest
    → refuse v ≡ Some x → (field w refuse).read l ≡ Err (x, l)
unfolding field
field_refused w v l rest refuse x h e r = rw e (field_at w v rest refuse h ∙ ap (λ o. checked o v (bits v w ++ rest) rest) r)

-- fewer bits than the field has
pub field_out : (w : ℕ) (l : List Bool) (refuse : ℕ → Option Refused) → length l < w → (field w refuse).read l ≡ Err (refusals.OutOfBits, l)
unfolding field
field_out w l refuse h = rw (lt-ltb (length l) w h) refl

pub bits-one : (v : ℕ) → v < 2 ^ 1 → bits v 1 ≡ (v == 1) ∷ []
unfolding bits
bits-one zero h = refl
bits-one (suc zero) h = refl
bits-one (suc (suc v)) h = absurd (omega arith)

short : (l : List Bool) → length l < 1 → l ≡ []
short [] h = refl
short (b ∷ l) h = absurd (omega arith)

pub tested_bit_ok : (v : ℕ) (l rest : List Bool) (refuse : Bool → Option Refused) → v < 2 ^ 1 → l ≡ bits v 1 ++ rest
    → refuse (v == 1) ≡ None → (tested_bit refuse).read l ≡ Ok (v == 1, rest)
unfolding tested_bit
tested_bit_ok v l rest refuse h e r = rw (e, bits-one v h) (ap (λ o. tested o (v == 1) ((v == 1) ∷ rest) rest) r)

pub tested_bit_refused : (v : ℕ) (l rest : List Bool) (refuse : Bool → Option Refused) (x : Refused) → v < 2 ^ 1 → l ≡ bits v 1 ++ rest
    → refuse (v == 1) ≡ Some x → (tested_bit refuse).read l ≡ Err (x, l)
unfolding tested_bit
tested_bit_refused v l rest refuse x h e r = rw (e, bits-one v h) (ap (λ o. tested o (v == 1) ((v == 1) ∷ rest) rest) r)

pub tested_bit_out : (l : List Bool) (refuse : Bool → Option Refused) → length l < 1
    → (tested_bit refuse).read l ≡ Err (refusals.OutOfBits, l)
unfolding tested_bit
tested_bit_out l refuse h = rw (short l h) refl

pub free_ok : (n : ℕ) (l : List Bool) → n ≤ length l → (free n).read l ≡ Ok (take n l, drop n l)
unfolding free
free_ok n l h = rw (le-ltb (length l) n h) refl

pub free_out : (n : ℕ) (l : List Bool) → length l < n → (free n).read l ≡ Err (refusals.OutOfBits, l)
unfolding free
free_out n l h = rw (lt-ltb (length l) n h) refl

pub drop_taken : (r : Result ℕ OutOfBits) (old new : List Bool) (w : ℕ) → w ≤ length old
    → IfOk r (λ v. (v < 2 ^ w) × (old ≡ bits v w ++ new)) → OnErr r ((length old < w) × (new ≡ old)) → new ≡ drop w old
drop_taken (Ok v) old new w h a b = sym (drop_at (bits v w) new w (length-bits v w)) ∙ ap (drop w) (sym a.1)
drop_taken (Err e) old new w h a b = absurd (omega (arith, b.0, h))

pub is_one : (v : ℕ) → v < 2 ^ 1 → (v ≡ 0 → ⊥) → (v == 1) ≡ true
is_one zero h n = absurd (n refl)
is_one (suc zero) h n = refl
is_one (suc (suc v)) h n = absurd (omega arith)

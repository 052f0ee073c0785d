-- What the bits of a block's mantissas are read as.
use Rattle.std.proofs.Common.{◌≡◌, ◌⊎◌, ℕ, zero, suc, ◌+◌, ◌<◌, ◌≤◌, Bool, List, [], ◌∷◌, ◌++◌, append_assoc, length, slice_index, Result, Ok, Err, arith, refl, inl, inr, ap, sym, subst, ◌∙◌}
use Rattle.std.proofs.lemmas.Bool.{cases_lt}
use Rattle.ac_bits.specs.Bits.{bits}
use Rattle.ac_mant.specs.declared.coded.MantFault.{MantFault}
use Rattle.ac_mant.specs.declared.coded.MantFault.TheVariants.{OutOfBits, BadGroup}
use Rattle.ac_mant.specs.declared.ahead.Ahead.{Ahead}
use Rattle.ac_mant.specs.declared.held.Codes.{Codes}
use Rattle.ac_mant.specs.declared.held.Codes.TheVariants.{None, One, Two}
use Rattle.ac_mant.specs.declared.held.Held.{Held}
use Rattle.ac_mant.specs.Groups.{AreCoded, Fill, IsFill, coded, pairs, after, number, number_width, number_limit, spelled, Refuses}
use Rattle.ac_mant.specs.Unpacking.{codes_in, ahead_in, opened, read_number, read_from, with_front}
use Rattle.ac_mant.proofs.Reading.{cases_take, read_low, read_high, read_short}
use Rattle.ac_mant.proofs.Grouping.{Begins, AreLow, IsHeld, Awaits, opened_ahead, step_held, step_code, step_number, step_awaits}

-- the bits are those of these codes, and of a fill of the last groups
pub record IsReading (h : Held) (baps codes : List ℕ) (l rest : List Bool) : Type 0 where
  pub fill : Fill
  pub is_fill : IsFill fill
  pub long : length codes ≡ length baps
  pub are : AreCoded (pairs baps codes)
  pub whole : l ≡ spelled fill (ahead_in h) (pairs baps codes) ++ rest
  pub awaits : Awaits h fill (pairs baps codes)

-- what was held is a fill
held_low : (levels : ℕ) (c : Codes) (i : ℕ) → 0 < levels → AreLow levels c → slice_index (codes_in c) i < levels
held_low levels None i some low = some
held_low levels (One a) zero some low = low
held_low levels (One a) (suc i) some low = some
held_low levels (Two a b) zero some low = low.0
held_low levels (Two a b) (suc zero) some low = low.1
held_low levels (Two a b) (suc (suc i)) some low = some

held_begins : (c : Codes) → Begins c (codes_in c)
held_begins None = tt
held_begins (One a) = refl
held_begins (Two a b) = (refl, refl)

abbrev held_fill : Held → Fill
held_fill h = record { one = codes_in h.one; two = codes_in h.two; four = codes_in h.four }

nothing_left : (h : Held) (l : List Bool) → IsHeld h → IsReading h [] [] l l
nothing_left h l is = record {
  fill = held_fill h;
  is_fill = record {
    one = λ i. held_low 3 h.one i (omega arith) is.one;
    two = λ i. held_low 5 h.two i (omega arith) is.two;
    four = λ i. held_low 11 h.four i (omega arith) is.four;
  };
  long = refl;
  are = tt;
  whole = refl;
  awaits = record { one = held_begins h.one; two = held_begins h.two; four = held_begins h.four };
}

-- one mantissa in front
one_more : (h : Held) (v bap : ℕ) (baps codes : List ℕ) (l mid rest : List Bool) → IsHeld h → bap ≤ 15 → v < number_limit (ahead_in h) bap → l ≡ bits v (number_width (ahead_in h) bap) ++ mid → IsReading (opened h bap v).1 baps codes mid rest → IsReading h (bap ∷ baps) ((opened h bap v).0 ∷ codes) l rest
one_more h v bap baps codes l mid rest is most low whole r =
    let xs = pairs baps codes in
    let code = (opened h bap v).0 in
    let awaits : Awaits h r.fill (coded bap code ∷ xs) = step_awaits h v r.fill xs is bap r.awaits in
    let same : number r.fill (ahead_in h) (coded bap code) xs ≡ v = step_number h v r.fill xs bap low r.awaits in
    let front : bits v (number_width (ahead_in h) bap) ≡ bits (number r.fill (ahead_in h) (coded bap code) xs) (number_width (ahead_in h) bap) = ap (λ n. bits n (number_width (ahead_in h) bap)) (sym same) in
    let behind : mid ≡ spelled r.fill (after (ahead_in h) bap) xs ++ rest = subst (λ (a : Ahead). mid ≡ spelled r.fill a xs ++ rest) (opened_ahead h v bap) r.whole in
    record {
      fill = r.fill;
      is_fill = r.is_fill;
      long = ap (λ n. suc n) r.long;
      are = (record { pointer = most; code = step_code h v is bap low }, r.are);
      whole =
          whole
          ∙ ap (λ b. b ++ mid) front
          ∙ ap (λ b. bits (number r.fill (ahead_in h) (coded bap code) xs) (number_width (ahead_in h) bap) ++ b) behind
          ∙ sym (append_assoc (bits (number r.fill (ahead_in h) (coded bap code) xs) (number_width (ahead_in h) bap)) (spelled r.fill (after (ahead_in h) bap) xs) rest);
      awaits = awaits;
    }

-- ---- either codes, or the first fault

pub record Reads (h : Held) (k : ℕ) (baps : List ℕ) (l : List Bool) : Type 0 where
  pub codes : List ℕ
  pub rest : List Bool
  pub read : read_from h k baps l ≡ Ok (codes, rest)
  pub reading : IsReading h baps codes l rest

pub record Fails (h : Held) (k : ℕ) (baps : List ℕ) (l : List Bool) : Type 0 where
  pub fault : MantFault
  pub read : read_from h k baps l ≡ Err fault
  pub refuses : Refuses (ahead_in h) k baps l fault

abbrev pub AreLowPointers : List ℕ → Type 0
AreLowPointers [] = Unit {0}
AreLowPointers (bap ∷ baps) = (bap ≤ 15) × AreLowPointers baps

-- how one step reads
pub step_ok : (h : Held) (k bap v : ℕ) (baps : List ℕ) (l rest : List Bool) (r : Result (List ℕ × List Bool) MantFault) → read_number k (number_width (ahead_in h) bap) (number_limit (ahead_in h) bap) l ≡ Ok (v, rest) → read_from (opened h bap v).1 (k + 1) baps rest ≡ r → read_from h k (bap ∷ baps) l ≡ with_front ((opened h bap v).0 ∷ []) r
unfolding read_from
step_ok h k bap v baps l rest r is behind = rw is (ap (λ q. with_front ((opened h bap v).0 ∷ []) q) behind)

pub step_err : (h : Held) (k bap : ℕ) (fault : MantFault) (baps : List ℕ) (l : List Bool) → read_number k (number_width (ahead_in h) bap) (number_limit (ahead_in h) bap) l ≡ Err fault → read_from h k (bap ∷ baps) l ≡ Err fault
unfolding read_from
step_err h k bap fault baps l is = rw is refl

pub end_ok : (h : Held) (k : ℕ) (l : List Bool) → read_from h k [] l ≡ Ok ([], l)
unfolding read_from
end_ok h k l = refl

pub reads : (baps : List ℕ) (h : Held) (k : ℕ) (l : List Bool) → IsHeld h → AreLowPointers baps → Reads h k baps l ⊎ Fails h k baps l
reads [] h k l is most = inl (record { codes = []; rest = l; read = end_ok h k l; reading = nothing_left h l is })
reads (bap ∷ baps) h k l is most =
    let w = number_width (ahead_in h) bap in
    let limit = number_limit (ahead_in h) bap in
    elim (cases_take w l) [
      | inl short ↦
          inr (record { fault = OutOfBits; read = step_err h k bap OutOfBits baps l (read_short k w limit l short); refuses = inl (short, refl) })
      | inr t ↦
          elim (cases_lt t.v limit) [
            | inl low ↦
                let here : read_number k w limit l ≡ Ok (t.v, t.rest) = ap (λ b. read_number k w limit b) t.whole ∙ read_low k w limit t.v t.rest t.fits low in
                elim (reads baps (opened h bap t.v).1 (k + 1) t.rest (step_held h t.v is bap low) most.1) [
                  | inl r ↦
                      inl (record {
                        codes = (opened h bap t.v).0 ∷ r.codes;
                        rest = r.rest;
                        read = step_ok h k bap t.v baps l t.rest (Ok (r.codes, r.rest)) here r.read;
                        reading = one_more h t.v bap baps r.codes l t.rest r.rest is most.0 low t.whole r.reading;
                      })
                  | inr f ↦
                      inr (record {
                        fault = f.fault;
                        read = step_ok h k bap t.v baps l t.rest (Err f.fault) here f.read;
                        refuses = inr (t.v, t.rest, t.fits, t.whole, inr (low, subst (λ (a : Ahead). Refuses a (k + 1) baps t.rest f.fault) (opened_ahead h t.v bap) f.refuses));
                      })
                ]
            | inr high ↦
                let here : read_number k w limit l ≡ Err (BadGroup k) = ap (λ b. read_number k w limit b) t.whole ∙ read_high k w limit t.v t.rest t.fits high in
                inr (record { fault = BadGroup k; read = step_err h k bap (BadGroup k) baps l here; refuses = inr (t.v, t.rest, t.fits, t.whole, inl (high, refl)) })
          ]
    ]

-- ---- and what is spelled is read

-- where the bits are refused, no codes are read
pub refused_reads : (baps : List ℕ) (h : Held) (k : ℕ) (l : List Bool) (fault : MantFault) → Refuses (ahead_in h) k baps l fault → read_from h k baps l ≡ Err fault
refused_reads [] h k l fault refuses = absurd refuses
refused_reads (bap ∷ baps) h k l fault (inl short) =
    step_err h k bap fault baps l (read_short k (number_width (ahead_in h) bap) (number_limit (ahead_in h) bap) l short.0 ∙ ap (λ e. Err e) (sym short.1))
refused_reads (bap ∷ baps) h k l fault (inr (v, rest, fits, whole, inl high)) =
    step_err h k bap fault baps l
    (ap (λ b. read_number k (number_width (ahead_in h) bap) (number_limit (ahead_in h) bap) b) whole
    ∙ read_high k (number_width (ahead_in h) bap) (number_limit (ahead_in h) bap) v rest fits high.0
    ∙ ap (λ e. Err e) (sym high.1))
refused_reads (bap ∷ baps) h k l fault (inr (v, rest, fits, whole, inr low)) =
    step_ok h k bap v baps l rest (Err fault)
    (ap (λ b. read_number k (number_width (ahead_in h) bap) (number_limit (ahead_in h) bap) b) whole ∙ read_low k (number_width (ahead_in h) bap) (number_limit (ahead_in h) bap) v rest fits low.0)
    (refused_reads baps (opened h bap v).1 (k + 1) rest fault (subst (λ (a : Ahead). Refuses a (k + 1) baps rest fault) (sym (opened_ahead h v bap)) low.1))

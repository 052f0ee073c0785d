-- How many bytes are needed of a frame.
use Rattle.std.proofs.Common.{◌≡◌, ℕ, zero, suc, ◌*◌, ◌<◌, ◌≤◌, Bool, true, false, ◌&&◌, List, length, Option, Some, None, refl, ap, ◌∙◌, arith, inl, inr}
use Rattle.std.specs.Prelude.{nat_lt, nat_le, if◌then◌else◌}
use Rattle.std.proofs.lemmas.Bool.{ltb-true, lt-ltb, le-ltb, leb-true, cases_lt}
use Rattle.ac_base.proofs.Tests.{all_below-at}
use Rattle.ac_base.specs.Sizes.{code_words}
use Rattle.ac_codec.specs.declared.refused.Refused.{Refused}
use Rattle.ac_codec.specs.declared.refused.Row.{Row}
use Rattle.ac_codec.specs.declared.refused.Row.TheVariants.{Fscod, Frmsizecod}
use Rattle.ac_codec.specs.Codec.{below}
use Rattle.ac_rows.specs.HeadRows.{sync_only, eight_only}
use Rattle.ac_record.specs.Faults.{sync_at, rate_at, code_at, version_at, first_of, size_refusal, words_at}
use Rattle.ac_decode.specs.Stream.{needed_by, needed}

-- ---- the sizes of frames

abbrev within : ℕ → Bool
within w = nat_le 64 w && nat_le w 1920

and_both : (a b : Bool) → (a && b) ≡ true → (a ≡ true) × (b ≡ true)
and_both true b e = (refl, e)
and_both false b e = absurd cc

within_is : (w : ℕ) → within w ≡ true → (64 ≤ w) × (w ≤ 1920)
within_is w e =
    let p = and_both (nat_le 64 w) (nat_le w 1920) e in
    (leb-true 64 w p.0, leb-true w 1920 p.1)

-- of each sampling rate and each size code
pub sizes_fit : (fscod code : ℕ) → fscod < 3 → code < 38 → (64 ≤ code_words fscod code) × (code_words fscod code ≤ 1920)
sizes_fit zero code f c = within_is (code_words 0 code) (all_below-at 38 (λ k. within (code_words 0 k)) refl code c)
sizes_fit (suc zero) code f c = within_is (code_words 1 code) (all_below-at 38 (λ k. within (code_words 1 k)) refl code c)
sizes_fit (suc (suc zero)) code f c = within_is (code_words 2 code) (all_below-at 38 (λ k. within (code_words 2 k)) refl code c)
sizes_fit (suc (suc (suc n))) code f c = absurd (omega (arith, f))

if_none : (b : Bool) (e : Refused) → (if b then None else Some e) ≡ None → b ≡ true
if_none true e p = refl
if_none false e p = absurd cc

pub below_is : (n : ℕ) (row : Row) (v : ℕ) → below n row v ≡ None → v < n
below_is n row v e = ltb-true v n (if_none (nat_lt v n) _ e)

first_none : (d e : Option Refused) → first_of d e ≡ None → (d ≡ None) × (e ≡ None)
first_none None e p = (refl, p)
first_none (Some x) e p = absurd cc

pub words_fit : (xs : List ℕ) → size_refusal xs ≡ None → (64 ≤ words_at xs) × (words_at xs ≤ 1920)
words_fit xs e =
    let a = first_none (sync_only (sync_at xs)) _ e in
    let b = first_none (below 3 Fscod (rate_at xs)) _ a.1 in
    let c = first_none (below 38 Frmsizecod (code_at xs)) (eight_only (version_at xs)) b.1 in
    sizes_fit (rate_at xs) (code_at xs) (below_is 3 Fscod (rate_at xs) b.0) (below_is 38 Frmsizecod (code_at xs) c.0)

-- ---- what is needed

pub needed_short : (rest : List ℕ) → length rest < 6 → needed rest ≡ 6
unfolding needed
needed_short rest few = ap (λ (b : Bool). if b then 6 else needed_by (size_refusal rest) (2 * words_at rest)) (lt-ltb (length rest) 6 few)

needed_six : (rest : List ℕ) → 6 ≤ length rest → needed rest ≡ needed_by (size_refusal rest) (2 * words_at rest)
unfolding needed
needed_six rest six = ap (λ (b : Bool). if b then 6 else needed_by (size_refusal rest) (2 * words_at rest)) (le-ltb (length rest) 6 six)

pub needed_refused : (rest : List ℕ) (e : Refused) → 6 ≤ length rest → size_refusal rest ≡ Some e → needed rest ≡ 6
needed_refused rest e six some = needed_six rest six ∙ ap (λ o. needed_by o (2 * words_at rest)) some

pub needed_sized : (rest : List ℕ) → 6 ≤ length rest → size_refusal rest ≡ None → needed rest ≡ 2 * words_at rest
needed_sized rest six none = needed_six rest six ∙ ap (λ o. needed_by o (2 * words_at rest)) none

-- what is known of it, by what the first six bytes say
pub data Need (rest : List ℕ) : Type 0 where
  Few : length rest < 6 → needed rest ≡ 6 → Need rest
  Bad : (e : Refused) → 6 ≤ length rest → size_refusal rest ≡ Some e → needed rest ≡ 6 → Need rest
  Sized : 6 ≤ length rest → size_refusal rest ≡ None → needed rest ≡ 2 * words_at rest → 64 ≤ words_at rest → words_at rest ≤ 1920 → Need rest

need_by : (rest : List ℕ) (o : Option Refused) → size_refusal rest ≡ o → 6 ≤ length rest → Need rest
need_by rest None e six = let w = words_fit rest e in Sized six e (needed_sized rest six e) w.0 w.1
need_by rest (Some r) e six = Bad r six e (needed_refused rest r six e)

pub need : (rest : List ℕ) → Need rest
need rest = elim (cases_lt (length rest) 6) [
  | inl few ↦ Few few (needed_short rest few)
  | inr six ↦ need_by rest (size_refusal rest) refl six
]

pub needed_fits : (rest : List ℕ) → (6 ≤ needed rest) × (needed rest ≤ 3840)
needed_fits rest = elim (need rest) [
  | Few few e ↦ (omega (arith, e), omega (arith, e))
  | Bad r six some e ↦ (omega (arith, e), omega (arith, e))
  | Sized six none e least most ↦ (omega (arith, e, least), omega (arith, e, most))
]

-- The exponents of a channel as one field are sound.
use Rattle.std.proofs.Common.{◌≡◌, ℕ, zero, suc, ◌+◌, ◌*◌, ◌<◌, ◌≤◌, ◌^◌, Bool, List, [], ◌∷◌, ◌++◌, length, take, drop, Ok, Err, refl, ap}
use Rattle.std.proofs.Common.{sym, ◌∙◌, arith, length-append, length-drop}
use Rattle.std.proofs.lemmas.Bool.{le-ltb, lt-ltb}
use Rattle.std.proofs.lemmas.List.Elements.{All-nil, All-cons}
use Rattle.ac_codec.specs.declared.refused.Refused.{Refused}
use Rattle.ac_codec.specs.declared.refused.Refused.TheVariants.{OutOfBits, BadExponent}
use Rattle.ac_expo.specs.Groups.{NoneRefused, IsFirstRefused}
use Rattle.ac_rows.proofs.Deciding.{when_none, when_first}
use Rattle.std.specs.List.{All}
use Rattle.ac_base.specs.declared.spans.Span.{Span}
use Rattle.ac_bits.specs.Bits.{bits, num}
use Rattle.ac_bits.proofs.Laws.{length-bits}
use Rattle.ac_expo.specs.Spelling.{Spelling}
use Rattle.ac_base.specs.Spans.{groups_of}
use Rattle.ac_codec.specs.Codec.{Outcome, field, any, pair, shaped, each, cons, absent, single, judged_as}
use Rattle.ac_codec.proofs.Sound.{Sound, IsOfWidth, single_sound, field_sound, pair_sound, shaped_sound, each_sound}
use Rattle.ac_rows.specs.Spelled.{groups_row, spelled_row, spelling_to, spelling_from, bad_exponent, first_bad}

sevens_width : (n i : ℕ) (gs : List ℕ) → (each n i (λ _. field 7 any)).Lawful gs → length ((each n i (λ _. field 7 any)).spell gs) ≡ 7 * n
unfolding each cons absent field
sevens_width zero i gs h = refl
sevens_width (suc n) i [] h = absurd h
sevens_width (suc n) i (g ∷ gs) h =
    let e = length-append (bits g 7) ((each n (suc i) (λ _. field 7 any)).spell gs) in
    omega (arith, e, length-bits g 7, sevens_width n (suc i) gs h.1)

field_total : (w : ℕ) (l : List Bool) → w ≤ length l → (field w any).read l ≡ Ok (num (take w l), drop w l)
unfolding field
field_total w l h = rw (le-ltb (length l) w h) refl

sevens_total : (n i : ℕ) (l : List Bool) → 7 * n ≤ length l → (x : List ℕ × List Bool) × ((each n i (λ _. field 7 any)).read l ≡ Ok x)
unfolding each cons absent
sevens_total zero i l h = (([], l), refl)
sevens_total (suc n) i l h =
    let room : 7 ≤ length l = omega arith in
    let r = sevens_total n (suc i) (drop 7 l) (omega (arith, length-drop 7 l)) in
    ((num (take 7 l) ∷ r.0.0, r.0.1), rw (field_total 7 l room, r.1) refl)

groups_row_sound : (n : ℕ) → Sound (groups_row n)
unfolding groups_row
groups_row_sound n =
    shaped_sound spelling_to spelling_from (pair (field 4 any) (λ _. each n 0 (λ _. field 7 any))) (λ _. refl) (λ _. refl)
    (pair_sound (field 4 any) (λ _. each n 0 (λ _. field 7 any)) (field_sound 4 any)
    (λ _. each_sound n 0 (λ _. field 7 any) (λ _. field_sound 7 any)))

groups_length : (n first : ℕ) (gs : List ℕ) → (each n 0 (λ _. field 7 any)).Lawful gs
    → length ((field 4 any).spell first ++ (each n 0 (λ _. field 7 any)).spell gs) ≡ 4 + 7 * n
unfolding field
groups_length n first gs h =
    let e = length-append (bits first 4) ((each n 0 (λ _. field 7 any)).spell gs) in
    omega (arith, e, length-bits first 4, sevens_width n 0 gs h)

groups_row_width : (n : ℕ) (s : Spelling) → (groups_row n).Lawful s → length ((groups_row n).spell s) ≡ 4 + 7 * n
unfolding groups_row pair shaped
groups_row_width n s h = groups_length n s.first s.groups h.1

groups_row_total : (n : ℕ) (l : List Bool) → 4 + 7 * n ≤ length l → (x : Spelling × List Bool) × ((groups_row n).read l ≡ Ok x)
unfolding groups_row pair shaped
groups_row_total n l h =
    let room : 4 ≤ length l = omega arith in
    let r = sevens_total n 0 (drop 4 l) (omega (arith, length-drop 4 l)) in
    ((record { first = num (take 4 l); groups = r.0.0 }, r.0.1), rw (field_total 4 l room, r.1) refl)

pub groups_row_is : (n : ℕ) → IsOfWidth (4 + 7 * n) (groups_row n)
groups_row_is n = record { sound = groups_row_sound n; width = groups_row_width n; total = groups_row_total n }

pub spelled_row_sound : (kind : ℕ) (span : Span) (channel : ℕ) → Sound (spelled_row kind span channel)
unfolding spelled_row
spelled_row_sound kind span channel =
    single_sound (4 + 7 * groups_of kind span) (λ s. bad_exponent channel (first_bad kind span s)) (groups_row (groups_of kind span))
    (groups_row_is (groups_of kind span))

-- ---- what a reader of it cites
row_found : (n : ℕ) (l rest : List Bool) (s : Spelling) → (groups_row n).read l ≡ Ok (s, rest) → (groups_row n).Lawful s
row_found n l rest s e = ((groups_row_sound n).found l s rest e).0

sevens_lawful : (n i : ℕ) (gs : List ℕ) → (each n i (λ _. field 7 any)).Lawful gs → (length gs ≡ n) × All (λ g. g < 2 ^ 7) gs
unfolding each cons absent field
sevens_lawful zero i gs h = (ap length h, rw h (All-nil (λ g. g < 2 ^ 7)))
sevens_lawful (suc n) i [] h = absurd h
sevens_lawful (suc n) i (g ∷ gs) h =
    let r = sevens_lawful n (suc i) gs h.1 in
    (omega (arith, r.0), All-cons (λ g. g < 2 ^ 7) g gs h.0.0 r.1)

first_lawful : (v : ℕ) → (field 4 any).Lawful v → v < 2 ^ 4
unfolding field
first_lawful v h = h.0

-- lawful values in plain words
pub groups_row_lawful : (n : ℕ) (s : Spelling) → (groups_row n).Lawful s
    → (s.first < 2 ^ 4) × (length s.groups ≡ n) × All (λ g. g < 2 ^ 7) s.groups
unfolding groups_row pair shaped
groups_row_lawful n s h = let r = sevens_lawful n 0 s.groups h.1 in (first_lawful s.first h.0, r.0, r.1)

pub read_lawful : (n : ℕ) (l rest : List Bool) (s : Spelling) → (groups_row n).read l ≡ Ok (s, rest)
    → (s.first < 2 ^ 4) × (length s.groups ≡ n) × All (λ g. g < 2 ^ 7) s.groups
read_lawful n l rest s e = groups_row_lawful n s (row_found n l rest s e)

pub never_short : (n : ℕ) (l : List Bool) (e : Refused) (at : List Bool) → 4 + 7 * n ≤ length l → (groups_row n).read l ≡ Err (e, at) → ⊥
never_short n l e at h k =
    let r = groups_row_total n l h in
    let f : Outcome Spelling = Err (e, at) in
    let g : f ≡ Ok r.0 = sym k ∙ r.1 in
    absurd cc

pub spelled_out : (kind : ℕ) (span : Span) (channel : ℕ) (l : List Bool) → length l < 4 + 7 * groups_of kind span
    → (spelled_row kind span channel).read l ≡ Err (OutOfBits, l)
unfolding spelled_row single
spelled_out kind span channel l h = rw (lt-ltb (length l) (4 + 7 * groups_of kind span) h) refl

spelled_at : (kind : ℕ) (span : Span) (channel : ℕ) (l new : List Bool) (s : Spelling) → 4 + 7 * groups_of kind span ≤ length l
    → (groups_row (groups_of kind span)).read l ≡ Ok (s, new)
    → (spelled_row kind span channel).read l ≡ judged_as (bad_exponent channel (first_bad kind span s)) l (s, new)
unfolding spelled_row single
spelled_at kind span channel l new s h e = rw (le-ltb (length l) (4 + 7 * groups_of kind span) h, e) refl

pub spelled_ok : (kind : ℕ) (span : Span) (channel : ℕ) (l new : List Bool) (s : Spelling) → 4 + 7 * groups_of kind span ≤ length l
    → (groups_row (groups_of kind span)).read l ≡ Ok (s, new) → NoneRefused kind span s
    → (spelled_row kind span channel).read l ≡ Ok (s, new)
spelled_ok kind span channel l new s h e n =
    spelled_at kind span channel l new s h e ∙ ap (λ o. judged_as (bad_exponent channel o) l (s, new)) (when_none kind span s n)

pub spelled_bad : (kind : ℕ) (span : Span) (channel : ℕ) (l new : List Bool) (s : Spelling) (place : ℕ)
    → 4 + 7 * groups_of kind span ≤ length l → (groups_row (groups_of kind span)).read l ≡ Ok (s, new) → IsFirstRefused kind span s place
    → (spelled_row kind span channel).read l ≡ Err (BadExponent channel place, l)
spelled_bad kind span channel l new s place h e n =
    spelled_at kind span channel l new s h e ∙ ap (λ o. judged_as (bad_exponent channel o) l (s, new)) (when_first kind span s place n)

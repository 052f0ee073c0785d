-- Lawful rows that alternate, entry by entry.
use Rattle.std.proofs.Common.{◌≡◌, ℕ, zero, suc, ◌+◌, ◌<◌, ◌^◌, Bool, Option, Some, None, List, [], ◌∷◌, ◌++◌, length, get_or, nat_lt}
use Rattle.std.proofs.Common.{slice_index, refl, ap, subst, arith}
use Rattle.ac_bits.specs.Bits.{bits}
use Rattle.std.specs.Option.{ForSome}
use Rattle.ac_codec.specs.Codec.{Codec, each, cons, absent, given, field, any, pair, shaped, fitted, single, some_spell}
use Rattle.ac_codec.specs.Lists.{spelled_each}
use Rattle.ac_expo.specs.Spelling.{Spelling}
use Rattle.ac_base.specs.declared.spans.Span.{Span}
use Rattle.std.specs.Prelude.{is_some}
use Rattle.ac_base.specs.Shape.{next_span, low_span, count_of}
use Rattle.ac_base.specs.Spans.{groups_of}
use Rattle.ac_rows.specs.declared.groups.Coupling.{Coupling}
use Rattle.ac_rows.specs.declared.groups.Codes.{Codes}
use Rattle.ac_rows.specs.declared.groups.Exponents.{Exponents}
use Rattle.ac_rows.specs.declared.groups.Known.{Known}
use Rattle.ac_rows.specs.declared.groups.Allocation.{Allocation}
use Rattle.ac_rows.specs.Filled.{entry, number}
use Rattle.ac_rows.specs.Spelled.{groups_row, spelled_row, spelling_bits}
use Rattle.ac_rows.specs.BlockRows.{zipped, alternating, offset_each, coordinate_each, exponents_each, exponents, sent_span, allocation}
use Rattle.ac_rows.specs.BlockRows.{parameters, offsets, leaks}
use Rattle.ac_rows.specs.Bits.{SpellingFits, exponent_bits, exponents_bits, ExponentsFit}
use Rattle.ac_rows.proofs.Bounds.{each_here}
use Rattle.ac_rows.proofs.EachBits.{each_bits}
use Rattle.ac_rows.proofs.SpelledSound.{groups_row_lawful}
use Rattle.ac_rows.proofs.ZippedBits.{length-zipped, get-zipped}

pub each_length : {A : Type 0} (n i : ℕ) (c : ℕ → Codec A) (xs : List A) → (each n i c).Lawful xs → length xs ≡ n
unfolding each cons absent
each_length zero i c xs h = ap length h
each_length (suc n) i c [] h = absurd h
each_length (suc n) i c (x ∷ xs) h = ap suc (each_length n (suc i) c xs h.1)

pub zipped_lawful : {A B : Type 0} (n : ℕ) (c : ℕ → Codec (A × B)) (xs : List A) (ys : List B) → length xs ≡ length ys
    → (each n 0 c).Lawful (zipped xs ys) → (i : ℕ) (d : A) (e : B) → i < n
    → (c i).Lawful (get_or xs i d, get_or ys i e)
zipped_lawful {A} {B} n c xs ys same h i d e lt =
    let len = each_length n 0 c (zipped xs ys) h in
    let short = length-zipped xs ys in
    let at = get-zipped i xs ys d e (omega arith) (omega arith) in
    subst (λ (p : A × B). (c i).Lawful p) at (each_here n c (zipped xs ys) h i (d, e) lt)

two_given : (there : Bool) (v w : ℕ) (p : Option ℕ × Option ℕ)
    → (pair (given there (field v any)) (λ _. given there (field w any))).Lawful p
    → ForSome p.0 (λ x. x < 2 ^ v) × ForSome p.1 (λ x. x < 2 ^ w)
unfolding pair given field
two_given there v w p h = ((λ x e. (h.0.1 x e).0), (λ x e. (h.1.1 x e).0))

pub offsets_fit : (full : ℕ) (xs ys : List (Option ℕ)) → (offset_each full).Lawful (xs, ys) → (i : ℕ) → i < 5
    → ForSome (entry xs i) (λ v. v < 2 ^ 4) × ForSome (entry ys i) (λ v. v < 2 ^ 3)
unfolding offset_each alternating fitted
offsets_fit full xs ys h i lt =
    two_given (nat_lt i full) 4 3 (get_or xs i None, get_or ys i None)
    (zipped_lawful 5 (λ i. pair (given (nat_lt i full) (field 4 any)) (λ _. given (nat_lt i full) (field 3 any))) xs ys h.0 h.1 i None None
    lt)

pub allocation_offsets : (full : ℕ) (low : Bool) (known : Known) (c : Coupling) (x : Allocation) → (allocation full low known c).Lawful x
    → (n : ℕ) × (offset_each n).Lawful (x.fsnroffst, x.fgaincod)
unfolding allocation shaped pair offsets parameters leaks
allocation_offsets full low known c x h = (_, h.1.0.1.1.1.1.0)

pub coordinates_fit : (bands : ℕ) (xs ys : List (Option ℕ)) → (coordinate_each bands).Lawful (xs, ys) → (i : ℕ) → i < 18
    → ForSome (entry xs i) (λ v. v < 2 ^ 4) × ForSome (entry ys i) (λ v. v < 2 ^ 4)
unfolding coordinate_each alternating fitted
coordinates_fit bands xs ys h i lt =
    two_given (nat_lt i bands) 4 4 (get_or xs i None, get_or ys i None)
    (zipped_lawful 18 (λ i. pair (given (nat_lt i bands) (field 4 any)) (λ _. given (nat_lt i bands) (field 4 any))) xs ys h.0 h.1 i None
    None lt)

-- ---- exponents
sevens_bits : (n i : ℕ) (gs : List ℕ) → length gs ≡ n → (each n i (λ _. field 7 any)).spell gs ≡ spelled_each (λ g. bits g 7) gs
unfolding field
sevens_bits n i gs h = each_bits n i (λ _. field 7 any) (λ g. bits g 7) gs (λ k x. refl) (omega (arith, h))

spelled_lawful : (kind : ℕ) (span : Span) (channel : ℕ) (s : Spelling) → (spelled_row kind span channel).Lawful s
    → (groups_row (groups_of kind span)).Lawful s
unfolding spelled_row single
spelled_lawful kind span channel s h = h.0

row_bits : (n : ℕ) (s : Spelling) → length s.groups ≡ n → (groups_row n).spell s ≡ spelling_bits s
unfolding groups_row shaped pair field
row_bits n s h = ap (λ l. bits s.first 4 ++ l) (sevens_bits n 0 s.groups h)

pub spelled_fits : (kind : ℕ) (span : Span) (channel : ℕ) (s : Spelling) → (spelled_row kind span channel).Lawful s → SpellingFits s
spelled_fits kind span channel s h = let r = groups_row_lawful (groups_of kind span) s (spelled_lawful kind span channel s h) in (r.0, r.2)

spelled_bits : (kind : ℕ) (span : Span) (channel : ℕ) (s : Spelling) → (spelled_row kind span channel).Lawful s
    → (spelled_row kind span channel).spell s ≡ spelling_bits s
unfolding spelled_row single
spelled_bits kind span channel s h = let r = groups_row_lawful (groups_of kind span) s h.0 in row_bits (groups_of kind span) s r.1

some_bits : (kind : ℕ) (span : Span) (channel : ℕ) (o : Option Spelling) → ForSome o (spelled_row kind span channel).Lawful
    → some_spell (spelled_row kind span channel).spell o ≡ some_spell spelling_bits o
some_bits kind span channel None h = refl
some_bits kind span channel (Some s) h = spelled_bits kind span channel s (h s refl)

channel_same : (there : Bool) (kind : ℕ) (span : Span) (channel : ℕ) (p : Option Spelling × Option ℕ)
    → (pair (given there (spelled_row kind span channel)) (λ _. given there (field 2 any))).Lawful p
    → (pair (given there (spelled_row kind span channel)) (λ _. given there (field 2 any))).spell p ≡ exponent_bits p
unfolding pair given field
channel_same there kind span channel p h = ap (λ l. l ++ some_spell (λ v. bits v 2) p.1) (some_bits kind span channel p.0 h.0.1)

-- rows whose bits are told where they are lawful
each_told : {A : Type 0} (n i : ℕ) (c : ℕ → Codec A) (f : A → List Bool) (xs : List A)
    → ((k : ℕ) → (x : A) → (c k).Lawful x → (c k).spell x ≡ f x) → (each n i c).Lawful xs → (each n i c).spell xs ≡ spelled_each f xs
unfolding each cons absent
each_told zero i c f xs h l = rw l refl
each_told (suc n) i c f [] h l = absurd l
each_told (suc n) i c f (x ∷ xs) h l = rw (h i x l.0, each_told n (suc i) c f xs h l.1) refl

each_same : (c : Coupling) (k : Codes) (xs : List (Option Spelling)) (ys : List (Option ℕ)) → (exponents_each c k).Lawful (xs, ys)
    → (exponents_each c k).spell (xs, ys) ≡ spelled_each exponent_bits (zipped xs ys)
unfolding exponents_each alternating fitted
each_same c k xs ys h =
    each_told 5 0 (λ i. pair (given (nat_lt 0 (slice_index k.chexpstr i))
    (spelled_row (slice_index k.chexpstr i) (sent_span c k.chbwcod i) i)) (λ _. given (nat_lt 0 (slice_index k.chexpstr i)) (field 2 any)))
    exponent_bits (zipped xs ys)
    (λ i p l. channel_same (nat_lt 0 (slice_index k.chexpstr i)) (slice_index k.chexpstr i) (sent_span c k.chbwcod i) i p l) h.1

exponents_parts : (full : ℕ) (c : Coupling) (k : Codes) (x : Exponents) → (exponents full c k).Lawful x
    → ForSome x.cplabsexp (spelled_row (number k.cplexpstr) (next_span c.range) full).Lawful
    × (exponents_each c k).Lawful (x.exps, x.gainrng)
    × ForSome x.lfeexps (spelled_row 1 low_span (full + count_of (is_some c.range))).Lawful
unfolding exponents shaped pair given
exponents_parts full c k x h = (h.0.1, h.1.0, h.1.1.1)

-- the bits of lawful exponents don't depend on the rest
pub exponents_same : (full : ℕ) (c : Coupling) (k : Codes) (x : Exponents) → (exponents full c k).Lawful x
    → (exponents full c k).spell x ≡ exponents_bits x
unfolding exponents shaped pair given
exponents_same full c k x h =
    let p = exponents_parts full c k x h in
    rw (some_bits _ _ _ x.cplabsexp p.0, each_same c k x.exps x.gainrng p.1, some_bits _ _ _ x.lfeexps p.2) refl

one_fits : (there : Bool) (kind : ℕ) (span : Span) (channel : ℕ) (p : Option Spelling × Option ℕ)
    → (pair (given there (spelled_row kind span channel)) (λ _. given there (field 2 any))).Lawful p
    → ForSome p.0 SpellingFits × ForSome p.1 (λ v. v < 2 ^ 2)
unfolding pair given field
one_fits there kind span channel p h = ((λ s e. spelled_fits kind span channel s (h.0.1 s e)), (λ v e. (h.1.1 v e).0))

channel_fits : (c : Coupling) (k : Codes) (xs : List (Option Spelling)) (ys : List (Option ℕ)) → (exponents_each c k).Lawful (xs, ys)
    → (i : ℕ) → i < 5 → ForSome (entry xs i) SpellingFits × ForSome (entry ys i) (λ v. v < 2 ^ 2)
unfolding exponents_each alternating fitted
channel_fits c k xs ys h i lt =
    one_fits (nat_lt 0 (slice_index k.chexpstr i)) (slice_index k.chexpstr i) (sent_span c k.chbwcod i) i
    (get_or xs i None, get_or ys i None)
    (zipped_lawful 5 (λ i. pair (given (nat_lt 0 (slice_index k.chexpstr i))
    (spelled_row (slice_index k.chexpstr i) (sent_span c k.chbwcod i) i)) (λ _. given (nat_lt 0 (slice_index k.chexpstr i)) (field 2 any)))
    xs ys h.0 h.1 i None None lt)

pub exponents_fit : (full : ℕ) (c : Coupling) (k : Codes) (x : Exponents) → (exponents full c k).Lawful x → ExponentsFit x
exponents_fit full c k x h =
    let p = exponents_parts full c k x h in
    record {
      shared = λ s e. spelled_fits _ _ _ s (p.0 s e);
      channels = λ i lt. (channel_fits c k x.exps x.gainrng p.1 i lt).0;
      gains = λ i lt. (channel_fits c k x.exps x.gainrng p.1 i lt).1;
      low = λ s e. spelled_fits _ _ _ s (p.2 s e);
    }

-- Words of the right shape are the words of their pairs, and clap reads them as such.
use Rattle.std.proofs.Common.{◌≡◌, ◌∙◌, ◌||◌, ◌&&◌, ◌==◌, Bool, cond, not, true, false, refl, sym, ap, ap₂, List, [], ◌∷◌, map, drop, Some, None, true≢false, subst}
use Rattle.std.specs.Prelude.{find}
use Rattle.std.specs.Str.{bytes_eq}
use Rattle.std.specs.Str.Parse.{starts_with_minus}
use Rattle.std.proofs.lemmas.Slice.Eq.{bytes_eq-Decides}
use Rattle.clap.specs.Lexer.{long_of, strip_byte}
use Rattle.clap.specs.Walk.{nothing_held, rows_after}
use Rattle.clap.specs.Words.{App, fault_of, is_simple, is_simple_and_free, matches_of, built}
use Rattle.clap.specs.Simple.{names_of}
use Rattle.clap.specs.Faults.{built_fault}
use Rattle.clap.specs.Kinds.{IsAmong}
use Rattle.clap.specs.declared.error.kind.ErrorKind.{ErrorKind}
use Rattle.clap.specs.declared.error.kind.ErrorKind.TheVariants as kind
use Rattle.clap.proofs.OnLiterals.{clap_on_literals}
use Rattle.clap.proofs.WalkLemmas.{both}
use Rattle.ac_words.specs.Grammar.{Known, Text, Pair, none_twice, spelled}
use Rattle.ac_words.specs.Options.{app_for, is_missing, is_whole, name_of, options_of, option_app, pair_row, pairs_fault}
use Rattle.ac_words.specs.Shape.{has_shape, is_option, pairs_of}
use Rattle.ac_words.specs.declared.shape.Kind.{Kind}
use Rattle.ac_words.specs.declared.shape.Kind.TheVariants.{Encode, Synth}
use Rattle.ac_words.proofs.PairLaw.{AreRead, IsRead, fault_law, rows_law}

-- clap reads the option's word as its long name
abbrev pub IsReadable : Known → Type 0
IsReadable o = (long_of (45 ∷ 45 ∷ o.0) ≡ Some (o.0, None)) × (bytes_eq (45 ∷ 45 ∷ o.0) (45 ∷ 45 ∷ []) ≡ false)

abbrev pub AreReadable : List Known → Type 0
AreReadable [] = Unit
AreReadable (o ∷ os) = IsReadable o × AreReadable os

readable_found : (os : List Known) (p : Known → Bool) (o : Known) → AreReadable os → find p os ≡ Some o → IsReadable o
readable_found [] p o are e = absurd (cc e)
readable_found (q ∷ os) p o are e = go (p q) e (readable_found os p o are.1)
  where
    go : (b : Bool) → cond b (Some q) (find p os) ≡ Some o → (find p os ≡ Some o → IsReadable o) → IsReadable o
    go true is more = let same : q ≡ o = cc in subst IsReadable same are.0
    go false is more = more is

pub option_word_is : (os : List Known) (w : Text) → is_option os w ≡ true → w ≡ 45 ∷ 45 ∷ drop 2 w
option_word_is [] w e = absurd (true≢false (sym e))
option_word_is (o ∷ os) w e = go (bytes_eq w (45 ∷ 45 ∷ o.0)) refl e (option_word_is os w)
  where
    go : (b : Bool) → bytes_eq w (45 ∷ 45 ∷ o.0) ≡ b → (b || is_option os w) ≡ true → (is_option os w ≡ true → w ≡ 45 ∷ 45 ∷ drop 2 w) → w ≡ 45 ∷ 45 ∷ drop 2 w
    go true is h more =
        let same : w ≡ 45 ∷ 45 ∷ o.0 = (bytes_eq-Decides w (45 ∷ 45 ∷ o.0)).0 is in
        same ∙ ap (λ (x : Text). 45 ∷ 45 ∷ drop 2 x) (sym same)
    go false is h more = more h

abbrev Finds : List Known → Text → Type 0
Finds os name = (o : Known) × (find (λ q. bytes_eq q.0 name) os ≡ Some o) × (o.0 ≡ name)

option_found : (os : List Known) (w : Text) → is_option os w ≡ true → Finds os (drop 2 w)
option_found [] w e = absurd (true≢false (sym e))
option_found (o ∷ os) w e = go (bytes_eq o.0 (drop 2 w)) refl (bytes_eq w (45 ∷ 45 ∷ o.0)) refl e (option_found os w)
  where
    go : (b : Bool) → bytes_eq o.0 (drop 2 w) ≡ b → (c : Bool) → bytes_eq w (45 ∷ 45 ∷ o.0) ≡ c → (c || is_option os w) ≡ true → (is_option os w ≡ true → Finds os (drop 2 w))
        → (q : Known) × (cond b (Some o) (find (λ q. bytes_eq q.0 (drop 2 w)) os) ≡ Some q) × (q.0 ≡ drop 2 w)
    go true is c word h more = (o, refl, (bytes_eq-Decides o.0 (drop 2 w)).0 is)
    go false is false word h more = more h
    go false is true word h more =
        let same : w ≡ 45 ∷ 45 ∷ o.0 = (bytes_eq-Decides w (45 ∷ 45 ∷ o.0)).0 word in
        let name : o.0 ≡ drop 2 w = ap (λ (x : Text). drop 2 x) (sym same) in
        absurd (true≢false (sym ((bytes_eq-Decides o.0 (drop 2 w)).1 name) ∙ is))

plain_value : (v : Text) → not (starts_with_minus v) ≡ true → (strip_byte 45 v ≡ None) × (bytes_eq v (45 ∷ 45 ∷ []) ≡ false)
plain_value [] e = (refl, refl)
plain_value (x ∷ xs) e = go (x == 45) e
  where
    go : (b : Bool) → not b ≡ true → (cond b (Some xs) None ≡ None) × ((b && bytes_eq xs (45 ∷ [])) ≡ false)
    go true h = absurd (true≢false (sym h))
    go false h = (refl, refl)

-- words of the right shape are those of their pairs
pub shape_law : (os : List Known) → AreReadable os → (ws : List Text) → has_shape os ws ≡ true → AreRead os (pairs_of ws) × (spelled (pairs_of ws) ≡ ws)
shape_law os are [] e = (tt, refl)
shape_law os are (w ∷ []) e = absurd (true≢false (sym e))
shape_law os are (w ∷ v ∷ rest) e =
    let parts = both (is_option os w) _ e in
    let more = both (not (starts_with_minus v)) (has_shape os rest) parts.1 in
    let tail = shape_law os are rest more.1 in
    let found = option_found os w parts.0 in
    let read : IsReadable found.0 = readable_found os (λ q. bytes_eq q.0 (drop 2 w)) found.0 are found.1 in
    let value = plain_value v more.0 in
    let here : IsRead os (drop 2 w, v) = record {
      option = found.0;
      found = found.1;
      same = found.2;
      long = subst (λ n. long_of (45 ∷ 45 ∷ n) ≡ Some (n, None)) found.2 read.0;
      more = subst (λ n. bytes_eq (45 ∷ 45 ∷ n) (45 ∷ 45 ∷ []) ≡ false) found.2 read.1;
      plain = value.0;
      value = value.1;
    } in
    ((here, tail.0), ap₂ (λ (x : Text) (xs : List Text). x ∷ v ∷ xs) (sym (option_word_is os w parts.0)) tail.1)

-- ---- each command

pub is_free_for : (k : Kind) → is_simple_and_free (app_for k) ≡ true
unfolding clap_on_literals
is_free_for Encode = refl
is_free_for Synth = refl

pub is_simple_for : (k : Kind) → is_simple (app_for k) ≡ true
unfolding clap_on_literals
is_simple_for Encode = refl
is_simple_for Synth = refl

built_for : (k : Kind) → built (app_for k) ≡ option_app (name_of k) (options_of k)
unfolding clap_on_literals
built_for Encode = refl
built_for Synth = refl

pub readable_for : (k : Kind) → AreReadable (options_of k)
unfolding clap_on_literals
readable_for Encode = ((refl, refl), ((refl, refl), ((refl, refl), ((refl, refl), tt))))
readable_for Synth = ((refl, refl), ((refl, refl), tt))

-- on words of the right shape clap refuses just a repeat and then what is missing
pub faults_for : (k : Kind) (ws : List Text) → has_shape (options_of k) ws ≡ true → fault_of (app_for k) ws ≡ pairs_fault (options_of k) (pairs_of ws)
faults_for k ws e =
    let law = shape_law (options_of k) (readable_for k) ws e in
    ap (λ a. built_fault a nothing_held ws) (built_for k)
    ∙ ap (built_fault (option_app (name_of k) (options_of k)) nothing_held) (sym law.1)
    ∙ fault_law (options_of k) (name_of k) (pairs_of ws) law.0

-- and else it finds a row for each pair
pub rows_for : (k : Kind) (ws : List Text) → has_shape (options_of k) ws ≡ true → none_twice (pairs_of ws) ≡ true → matches_of (app_for k) ws ≡ map pair_row (pairs_of ws)
rows_for k ws e once =
    let law = shape_law (options_of k) (readable_for k) ws e in
    ap (λ (a : App). rows_after a.top.rules (names_of a) ws) (built_for k)
    ∙ ap (rows_after (option_app (name_of k) (options_of k)).top.rules []) (sym law.1)
    ∙ rows_law (options_of k) (name_of k) (pairs_of ws) law.0 once

-- ---- what the faults say

pub whole_of : (os : List Known) (ps : List Pair) → pairs_fault os ps ≡ [] → is_whole os ps ≡ true
whole_of os ps e = go (none_twice ps) (is_missing os ps) e
  where
    go : (a b : Bool) → cond a (cond b (kind.MissingRequiredArgument ∷ []) []) (kind.ArgumentConflict ∷ []) ≡ [] → (a && not b) ≡ true
    go true false h = refl
    go true true h = absurd (cc h)
    go false b h = absurd (cc h)

pub not_whole_of : (os : List Known) (ps : List Pair) (k : ErrorKind) → IsAmong k (pairs_fault os ps) → is_whole os ps ≡ false
not_whole_of os ps k e = go (none_twice ps) (is_missing os ps) e
  where
    go : (a b : Bool) → IsAmong k (cond a (cond b (kind.MissingRequiredArgument ∷ []) []) (kind.ArgumentConflict ∷ [])) → (a && not b) ≡ false
    go true false h = absurd h
    go true true h = refl
    go false b h = refl

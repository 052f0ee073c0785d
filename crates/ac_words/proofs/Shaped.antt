-- Pairs in the grammar's sense against words that have their shape and are whole.
use Rattle.std.proofs.Common.{◌≡◌, ◌∙◌, ◌||◌, ◌&&◌, Bool, cond, not, true, false, refl, sym, ap, ap₂, List, [], ◌∷◌, ◌++◌, Option, Some, None, option_map, drop, append_assoc, true≢false, subst}
use Rattle.std.specs.Prelude.{find, MatchOption}
use Rattle.std.specs.List.{list_all}
use Rattle.std.specs.Option.{option_or}
use Rattle.std.specs.Str.{bytes_eq}
use Rattle.std.specs.Str.Parse.{starts_with_minus}
use Rattle.std.proofs.lemmas.List.Folds.{find-append}
use Rattle.std.proofs.lemmas.Slice.Eq.{bytes_eq-Decides}
use Rattle.clap.proofs.WalkLemmas.{both}
use Rattle.ac_words.specs.Grammar.{ArePairs, Known, Pair, Text, all_known, has_name, is_fresh, is_known, none_twice, spelled, value_in}
use Rattle.ac_words.specs.Options.{is_missing, is_whole, AreWhole}
use Rattle.ac_words.specs.Shape.{has_shape, is_option, pairs_of}
use Rattle.ac_words.proofs.PairLaw.{has_value}
use Rattle.ac_words.proofs.ShapeLaw.{AreReadable, option_word_is, shape_law}

-- ---- from the shape to the pairs

known_of : (os : List Known) (ws : List Text) → has_shape os ws ≡ true → all_known os (pairs_of ws) ≡ true
known_of os [] e = refl
known_of os (w ∷ []) e = refl
known_of os (w ∷ v ∷ rest) e =
    let parts = both (is_option os w) _ e in
    let more = both (not (starts_with_minus v)) (has_shape os rest) parts.1 in
    let here : is_known os (drop 2 w) ≡ true = subst (λ (x : Text). is_option os x ≡ true) (option_word_is os w parts.0) parts.0 in
    rw here (known_of os rest more.1)

pub pairs_from : (os : List Known) → AreReadable os → (ws : List Text) → AreWhole os ws → ArePairs os ws (pairs_of ws)
pairs_from os are ws h = record {
  words = sym (shape_law os are ws h.0).1;
  names = known_of os ws h.0;
  once = (both (none_twice (pairs_of ws)) _ h.1).0;
}

-- ---- from the pairs to the shape

pub pairs_spelled : (ps : List Pair) → pairs_of (spelled ps) ≡ ps
pairs_spelled [] = refl
pairs_spelled (p ∷ ps) = ap (λ rest. p ∷ rest) (pairs_spelled ps)

abbrev pub is_plain : Text → Bool
is_plain v = not (starts_with_minus v)

shape_spelled : (os : List Known) (ps : List Pair) → all_known os ps ≡ true → list_all (λ p. is_plain p.1) ps ≡ true → has_shape os (spelled ps) ≡ true
shape_spelled os [] known plain = refl
shape_spelled os (p ∷ ps) known plain =
    let k = both (is_known os p.0) (all_known os ps) known in
    let v = both (is_plain p.1) (list_all (λ q. is_plain q.1) ps) plain in
    let here : is_option os (45 ∷ 45 ∷ p.0) ≡ true = k.0 in
    rw (here, v.0) (shape_spelled os ps k.1 v.1)

none_found : (name : Text) (ps : List Pair) → has_name name ps ≡ false → find (λ q. bytes_eq q.0 name) ps ≡ None
none_found name [] e = refl
none_found name (p ∷ ps) e = go (bytes_eq p.0 name) e (none_found name ps)
  where
    go : (b : Bool) → (b || has_name name ps) ≡ false → (has_name name ps ≡ false → find (λ q. bytes_eq q.0 name) ps ≡ None) → cond b (Some p) (find (λ q. bytes_eq q.0 name) ps) ≡ None
    go true h more = absurd (true≢false h)
    go false h more = more h

new_of : (b : Bool) → not b ≡ true → b ≡ false
new_of true h = absurd (true≢false (sym h))
new_of false h = refl

-- where no name stands twice, the value of each pair is the value of its name
value_here : (seen : List Pair) (p : Pair) (ps : List Pair) → has_name p.0 seen ≡ false → value_in p.0 (seen ++ p ∷ ps) ≡ Some p.1
value_here seen p ps new =
    ap (option_map (λ (q : Pair). q.1)) (find-append (λ q. bytes_eq q.0 p.0) seen (p ∷ ps)
    ∙ ap (λ o. option_or o (find (λ q. bytes_eq q.0 p.0) (p ∷ ps))) (none_found p.0 seen new)
    ∙ ap (λ b. cond b (Some p) (find (λ q. bytes_eq q.0 p.0) ps)) ((bytes_eq-Decides p.0 p.0).1 refl))

-- a value that doesn't begin with a hyphen; or none, of an option that need not be given
abbrev pub IsSaid : Bool → Option Text → Type 0
IsSaid required value = MatchOption value (required ≡ false) (λ v. is_plain v ≡ true)

abbrev pub AreSaid : List Known → List Pair → Type 0
AreSaid [] ps = Unit
AreSaid (o ∷ os) ps = IsSaid o.1 (value_in o.0 ps) × AreSaid os ps

plain_of : (os : List Known) (ps : List Pair) → AreSaid os ps → (name v : Text) → is_known os name ≡ true → value_in name ps ≡ Some v → is_plain v ≡ true
plain_of [] ps said name v known value = absurd (true≢false (sym known))
plain_of (o ∷ os) ps said name v known value = go (bytes_eq name o.0) refl known (plain_of os ps said.1 name v)
  where
    go : (b : Bool) → bytes_eq name o.0 ≡ b → (b || is_known os name) ≡ true → (is_known os name ≡ true → value_in name ps ≡ Some v → is_plain v ≡ true) → is_plain v ≡ true
    go true e h more =
        let at : value_in o.0 ps ≡ Some v = subst (λ (n : Text). value_in n ps ≡ Some v) ((bytes_eq-Decides name o.0).0 e) value in
        subst (IsSaid o.1) at said.0
    go false e h more = more h value

none_missing : (os : List Known) (ps : List Pair) → AreSaid os ps → is_missing os ps ≡ false
none_missing [] ps said = refl
none_missing (o ∷ os) ps said =
    ap₂ (λ (a b : Bool). a || b) (ap (λ b. o.1 && not b) (sym (has_value o.0 ps)) ∙ go o.1 (value_in o.0 ps) said.0) (none_missing os ps said.1)
  where
    go : (required : Bool) (value : Option Text) → IsSaid required value → (required && not (Rattle.std.specs.Prelude.is_some value)) ≡ false
    go true None h = absurd (true≢false h)
    go false None h = refl
    go true (Some v) h = refl
    go false (Some v) h = refl

module _ (os : List Known) (all : List Pair) (said : AreSaid os all) where
  plain_along : (seen ps : List Pair) → seen ++ ps ≡ all → is_fresh seen ps ≡ true → all_known os ps ≡ true → list_all (λ p. is_plain p.1) ps ≡ true
  plain_along seen [] is fresh known = refl
  plain_along seen (p ∷ ps) is fresh known =
      let f = both (not (has_name p.0 seen)) (is_fresh (seen ++ p ∷ []) ps) fresh in
      let k = both (is_known os p.0) (all_known os ps) known in
      let value : value_in p.0 all ≡ Some p.1 = ap (value_in p.0) (sym is) ∙ value_here seen p ps (new_of (has_name p.0 seen) f.0) in
      let here : is_plain p.1 ≡ true = plain_of os all said p.0 p.1 k.0 value in
      rw here (plain_along (seen ++ p ∷ []) ps (append_assoc seen (p ∷ []) ps ∙ is) f.1 k.1)

-- the words of pairs are whole, and the pairs in them are these
pub record AreFound (os : List Known) (ws : List Text) (ps : List Pair) : Type 0 where
  pub whole : AreWhole os ws
  pub same : pairs_of ws ≡ ps

pub pairs_found : (os : List Known) (ws : List Text) (ps : List Pair) → ArePairs os ws ps → AreSaid os ps → AreFound os ws ps
pairs_found os ws ps h said =
    let is : pairs_of ws ≡ ps = ap pairs_of h.words ∙ pairs_spelled ps in
    let plain = plain_along os ps said [] ps refl h.once h.names in
    record {
      whole = (
        ap (has_shape os) h.words ∙ shape_spelled os ps h.names plain,
        ap (is_whole os) is ∙ ap₂ (λ (a b : Bool). a && not b) h.once (none_missing os ps said),
      );
      same = is;
    }

-- On words that are pairs of a known option and a value, clap finds the pairs, repeats and what is missing, and nothing else.
use Rattle.std.proofs.Common.{◌≡◌, ◌∙◌, ◌||◌, ◌&&◌, Bool, cond, not, true, false, refl, sym, ap, ap₂, List, [], ◌∷◌, ◌++◌, map, Option, Some, None, option_map, append-nil, append_assoc, true≢false}
use Rattle.std.proofs.lemmas.Slice.Eq.{bytes_eq-Decides}
use Rattle.std.specs.Prelude.{is_some, slice_get, nat_lt, option_and_then, find, fold}
use Rattle.std.specs.List.{list_any}
use Rattle.std.specs.Option.{option_map_or}
use Rattle.std.specs.Str.{bytes_eq}
use Rattle.std.proofs.lemmas.List.{map-append}
use Rattle.clap.specs.Lexer.{long_of, long_of_rest, short_of_rest, strip_byte}
use Rattle.clap.specs.Simple.{Shape, entered}
use Rattle.clap.specs.Walk.{Held, Step, next, after_flag, after_step, long_met, long_or_other, short_or_plain, option_word, trailing, Row, Rule, Walk, arg_by_id, arg_by_long, at_row, finished, has_row, idle, first_of, more_values, nothing_held, option, rows_after, settled, used, used_by_id, walk_from, walked, with_default, without}
use Rattle.clap.specs.Facts.{explicit_source}
use Rattle.clap.specs.Takes.{is_given}
use Rattle.clap.specs.Faults.{check_fault, defaults_fault, bundle_fault, built_fault, entered_fault, given_default_fault, flag_word_fault, long_fault, step_fault, level_fault, settle_fault, turn_fault, use_fault, walk_fault}
use Rattle.clap.specs.Kinds.{Kinds, or_else}
use Rattle.clap.specs.declared.error.kind.ErrorKind.TheVariants as kind
use Rattle.clap.specs.declared.parser.matches.ValueSource.TheVariants.{CommandLine}
use Rattle.clap.proofs.WalkLemmas.{both, find-map, list_any-map}
use Rattle.ac_words.specs.Grammar.{Known, Text, Pair, has_name, is_fresh, none_twice, spelled, value_in}
use Rattle.ac_words.specs.Options.{is_missing, option_rule, option_shape, option_app, pair_row, pairs_fault}

-- ---- the pairs

-- the pair has a known option, whose word clap reads as a long name, and a value that is no flag
pub record IsRead (os : List Known) (p : Pair) : Type 0 where
  pub option : Known
  pub found : find (λ o. bytes_eq o.0 p.0) os ≡ Some option
  pub same : option.0 ≡ p.0
  pub long : long_of (45 ∷ 45 ∷ p.0) ≡ Some (p.0, None)
  pub more : bytes_eq (45 ∷ 45 ∷ p.0) (45 ∷ 45 ∷ []) ≡ false
  pub plain : strip_byte 45 p.1 ≡ None
  pub value : bytes_eq p.1 (45 ∷ 45 ∷ []) ≡ false

abbrev pub AreRead : List Known → List Pair → Type 0
AreRead os [] = Unit
AreRead os (p ∷ ps) = IsRead os p × AreRead os ps

-- ---- finding an option

by_id : (os : List Known) (name : Text) → arg_by_id (map option_rule os) name ≡ option_map option_rule (find (λ o. bytes_eq o.0 name) os)
by_id os name = sym (find-map (λ (a : Rule). bytes_eq a.id name) option_rule os)

by_long : (os : List Known) (name : Text) → arg_by_long (map option_rule os) name ≡ option_map option_rule (find (λ o. bytes_eq o.0 name) os)
by_long [] name = refl
by_long (o ∷ os) name = go (bytes_eq o.0 name) (by_long os name)
  where
    go : (b : Bool) → arg_by_long (map option_rule os) name ≡ option_map option_rule (find (λ q. bytes_eq q.0 name) os)
        → cond (b || false) (Some (option_rule o)) (arg_by_long (map option_rule os) name) ≡ option_map option_rule (cond b (Some o) (find (λ q. bytes_eq q.0 name) os))
    go true e = refl
    go false e = e

-- ---- rows

missing_row : (id : Text) (change : Row → List Row) (new rows : List Row) → has_row id rows ≡ false → at_row id change new rows ≡ rows ++ new
missing_row id change new [] none = refl
missing_row id change new (r ∷ rs) none = go (bytes_eq r.id id) (missing_row id change new rs) none
  where
    go : (b : Bool) → (has_row id rs ≡ false → at_row id change new rs ≡ rs ++ new) → (b || has_row id rs) ≡ false
        → cond b (change r ++ rs) (r ∷ at_row id change new rs) ≡ r ∷ (rs ++ new)
    go true more e = absurd (true≢false e)
    go false more e = ap (λ xs. r ∷ xs) (more e)

has_rows : (name : Text) (ps : List Pair) → has_row name (map pair_row ps) ≡ has_name name ps
has_rows name ps = sym (list_any-map (λ (r : Row). bytes_eq r.id name) pair_row ps)

-- one use of an option that no row has
used_once : (o : Known) (v : Text) (ps : List Pair) → has_name o.0 ps ≡ false → used (option_rule o) (v ∷ []) (map pair_row ps) ≡ map pair_row (ps ++ (o.0, v) ∷ [])
used_once o v ps none =
    let no : has_row o.0 (map pair_row ps) ≡ false = has_rows o.0 ps ∙ none in
    let kept : without o.0 (map pair_row ps) ≡ map pair_row ps = missing_row o.0 (λ _. []) [] (map pair_row ps) no ∙ append-nil (map pair_row ps) in
    ap (λ rows. at_row o.0 (more_values CommandLine (v ∷ [])) (pair_row (o.0, v) ∷ []) rows) kept
    ∙ missing_row o.0 (more_values CommandLine (v ∷ [])) (pair_row (o.0, v) ∷ []) (map pair_row ps) no
    ∙ sym (map-append pair_row ps ((o.0, v) ∷ []))

is_not : (b : Bool) → not b ≡ true → b ≡ false
is_not true e = absurd (true≢false (sym e))
is_not false e = refl

-- ---- one pair

-- what is held after the pairs `seen` and the pair p, which is not settled yet
abbrev pub held_at : List Pair → Pair → Held
held_at seen p = record { rows = map pair_row seen; pending = Some (p.0, p.1 ∷ []); skip = 0 }

module _ (os : List Known) where
  abbrev rules : List Rule
  rules = map option_rule os

  pub rule_by_id : (p : Pair) (k : IsRead os p) → arg_by_id rules p.0 ≡ Some (option_rule k.option)
  rule_by_id p k = by_id os p.0 ∙ ap (option_map option_rule) k.found

  pub rule_by_long : (p : Pair) (k : IsRead os p) → arg_by_long rules p.0 ≡ Some (option_rule k.option)
  rule_by_long p k = by_long os p.0 ∙ ap (option_map option_rule) k.found

  -- settling a pair whose name is new adds its row
  pub settled_pair : (seen : List Pair) (p : Pair) (k : IsRead os p) → has_name p.0 seen ≡ false
      → settled rules (held_at seen p) ≡ record { rows = map pair_row (seen ++ p ∷ []); pending = None; skip = 0 }
  settled_pair seen p k new =
      let none : has_name k.option.0 seen ≡ false = ap (λ n. has_name n seen) k.same ∙ new in
      ap (λ o. by_rule o) (rule_by_id p k) ∙ ap with_rows (used_once k.option p.1 seen none ∙ ap (λ n. map pair_row (seen ++ (n, p.1) ∷ [])) k.same)
    where
      with_rows : List Row → Held
      with_rows rows = record { rows = rows; pending = None; skip = 0 }

      by_rule : Option Rule → Held
      by_rule o = with_rows (used_by_id o (p.1 ∷ []) (map pair_row seen))

  -- settling it is refused exactly where the name is not new
  pub settle_pair_fault : (seen : List Pair) (p : Pair) (k : IsRead os p) → settle_fault rules false (held_at seen p) ≡ cond (has_name p.0 seen) (kind.ArgumentConflict ∷ []) []
  settle_pair_fault seen p k =
      ap (λ o. option_map_or (λ a. use_fault false a (p.1 ∷ []) (map pair_row seen)) o []) (rule_by_id p k)
      ∙ ap repeats (ap (λ n. has_row n (map pair_row seen)) k.same ∙ has_rows p.0 seen)
      ∙ go (has_name p.0 seen)
    where
      repeats : Bool → Kinds
      repeats b = or_else (cond (b && true) (kind.ArgumentConflict ∷ []) []) []

      go : (b : Bool) → repeats b ≡ cond b (kind.ArgumentConflict ∷ []) []
      go true = refl
      go false = refl

  -- ---- two words

  -- what is held after one more pair
  abbrev pub held_after : Held → Pair → Held
  held_after h p = record (settled rules h) { pending = Some (p.0, p.1 ∷ []) }

  -- between the option and its value
  abbrev halfway : Held → Text → Walk
  halfway h name = record (walk_from (record (settled rules h) { pending = Some (name, []) })) { waiting = option name }

  name_walked : (h : Held) (p : Pair) (k : IsRead os p) → walked rules [] (walk_from h) (45 ∷ 45 ∷ p.0) ≡ halfway h p.0
  unfolding walked
  name_walked h p k =
      ap as_word k.more ∙ ap as_long k.long ∙ ap as_rule (rule_by_long p k) ∙ ap (halfway h) k.same
    where
      word : Text
      word = 45 ∷ 45 ∷ p.0

      as_word : Bool → Walk
      as_word b =
          let met = cond b (h, trailing 1) (long_or_other rules idle word (long_of word) h) in
          after_step rules word (walk_from h) met.0 met.1

      as_long : Option (Text × Option Text) → Walk
      as_long l =
          let met = long_or_other rules idle word l h in
          after_step rules word (walk_from h) met.0 met.1

      as_rule : Option Rule → Walk
      as_rule o =
          let met = after_flag rules idle word (long_met rules o None h).0 (long_met rules o None h).1 in
          after_step rules word (walk_from h) met.0 met.1

  one_pending : (p : Pair) (k : IsRead os p) → bytes_eq p.0 k.option.0 ≡ true
  one_pending p k = (bytes_eq-Decides p.0 k.option.0).1 (sym k.same)

  value_walked : (h : Held) (p : Pair) (k : IsRead os p) → walked rules [] (halfway h p.0) p.1 ≡ walk_from (held_after h p)
  unfolding walked
  value_walked h p k =
      ap as_word k.value ∙ ap as_long k.plain ∙ ap as_short k.plain ∙ ap as_rule (rule_by_id p k) ∙ ap as_count (one_pending p k)
    where
      at : Held
      at = record (settled rules h) { pending = Some (p.0, []) }

      after : Held × Step → Walk
      after met = after_step rules p.1 (halfway h p.0) met.0 met.1

      as_word : Bool → Walk
      as_word b = after (cond b (at, trailing 1) (long_or_other rules (option p.0) p.1 (long_of p.1) at))

      as_long : Option Text → Walk
      as_long s = after (long_or_other rules (option p.0) p.1 (option_and_then long_of_rest (option_and_then (strip_byte 45) s)) at)

      as_short : Option Text → Walk
      as_short s = after (short_or_plain rules (option p.0) p.1 (option_and_then short_of_rest s) at)

      as_rule : Option Rule → Walk
      as_rule o = after ((option_word o p.0 p.1 at).0, next (option_word o p.0 p.1 at).1)

      as_count : Bool → Walk
      as_count b = record (walk_from (held_after h p)) { waiting = cond (nat_lt (cond b 1 0) 1) (option p.0) idle }

  -- a pair takes the walk from one held state to the next
  pub pair_walked : (h : Held) (p : Pair) (k : IsRead os p) → walked rules [] (walked rules [] (walk_from h) (45 ∷ 45 ∷ p.0)) p.1 ≡ walk_from (held_after h p)
  pair_walked h p k = ap (λ w. walked rules [] w p.1) (name_walked h p k) ∙ value_walked h p k

  or_none : (ks : Kinds) → or_else ks [] ≡ ks
  or_none [] = refl
  or_none (k ∷ ks) = refl

  module _ (name : Text) where
    abbrev shape : Shape
    shape = option_shape name os

    -- the option's word is refused where what was held before cannot be settled
    name_fault : (h : Held) (p : Pair) (k : IsRead os p) → turn_fault shape [] (walk_from h) (45 ∷ 45 ∷ p.0) ≡ settle_fault rules false h
    name_fault h p k =
        ap as_word k.more ∙ ap as_long k.long ∙ ap as_rule (rule_by_long p k) ∙ or_none (settle_fault rules false h)
      where
        word : Text
        word = 45 ∷ 45 ∷ p.0

        with_step : Kinds → Held × Step → Kinds
        with_step ks met = or_else ks (step_fault shape 1 met.0 met.1)

        as_word : Bool → Kinds
        as_word b = with_step (cond b [] (flag_word_fault rules false (long_of word) word h)) (cond b (h, trailing 1) (long_or_other rules idle word (long_of word) h))

        as_long : Option (Text × Option Text) → Kinds
        as_long l = with_step (flag_word_fault rules false l word h) (long_or_other rules idle word l h)

        as_rule : Option Rule → Kinds
        as_rule o = with_step (long_fault rules false o None h) (after_flag rules idle word (long_met rules o None h).0 (long_met rules o None h).1)

    -- its value is not
    value_fault : (h : Held) (p : Pair) (k : IsRead os p) → turn_fault shape [] (halfway h p.0) p.1 ≡ []
    value_fault h p k = ap as_word k.value ∙ ap as_long k.plain ∙ ap as_short k.plain
      where
        at : Held
        at = record (settled rules h) { pending = Some (p.0, []) }

        with_step : Kinds → Held × Step → Kinds
        with_step ks met = or_else ks (step_fault shape 1 met.0 met.1)

        as_word : Bool → Kinds
        as_word b = with_step (cond b [] (flag_word_fault rules false (long_of p.1) p.1 at)) (cond b (at, trailing 1) (long_or_other rules (option p.0) p.1 (long_of p.1) at))

        as_long : Option Text → Kinds
        as_long s =
            let l = option_and_then long_of_rest (option_and_then (strip_byte 45) s) in
            with_step (flag_word_fault rules false l p.1 at) (long_or_other rules (option p.0) p.1 l at)

        as_short : Option Text → Kinds
        as_short s =
            let f = option_and_then short_of_rest s in
            with_step (option_map_or (λ flags. bundle_fault rules false flags at) f []) (short_or_plain rules (option p.0) p.1 f at)

    -- ---- after the pairs

    -- no option has a default
    no_default_fault : (rows : List Row) (qs : List Known) → defaults_fault rows (map option_rule qs) ≡ []
    unfolding defaults_fault
    no_default_fault rows [] = refl
    no_default_fault rows (q ∷ qs) =
        ap (λ ks. or_else ks (defaults_fault (with_default rows (option_rule q)) (map option_rule qs))) (go (has_row q.0 rows))
        ∙ ap (λ rs. defaults_fault rs (map option_rule qs)) (stays (has_row q.0 rows)) ∙ no_default_fault rows qs
      where
        go : (b : Bool) → cond (b || true) [] (given_default_fault (option_rule q) []) ≡ []
        go true = refl
        go false = refl

        stays : (b : Bool) → cond b rows rows ≡ rows
        stays true = refl
        stays false = refl

    no_default : (rows : List Row) (qs : List Known) → fold with_default rows (map option_rule qs) ≡ rows
    no_default rows [] = refl
    no_default rows (q ∷ qs) = ap (λ rs. fold with_default rs (map option_rule qs)) (stays (has_row q.0 rows)) ∙ no_default rows qs
      where
        stays : (b : Bool) → cond b rows rows ≡ rows
        stays true = refl
        stays false = refl

    is_given_pair : (id : Text) (ps : List Pair) → is_given id (map pair_row ps) ≡ has_name id ps
    is_given_pair id [] = refl
    is_given_pair id (p ∷ ps) = go (bytes_eq p.0 id) (is_given_pair id ps)
      where
        go : (b : Bool) → is_given id (map pair_row ps) ≡ has_name id ps
            → option_map_or (λ (r : Row). explicit_source r.source) (cond b (Some (pair_row p)) (find (λ r. bytes_eq r.id id) (map pair_row ps))) false ≡ (b || has_name id ps)
        go true e = refl
        go false e = e

    missing_is : (qs : List Known) (ps : List Pair) → list_any (λ a. a.required && not (is_given a.id (map pair_row ps))) (map option_rule qs) ≡ is_missing qs ps
    missing_is [] ps = refl
    missing_is (q ∷ qs) ps = ap₂ (λ (b c : Bool). (q.1 && not b) || c) (is_given_pair q.0 ps) (missing_is qs ps)

    abbrev missing_kinds : List Pair → Kinds
    missing_kinds ps = cond (is_missing os ps) (kind.MissingRequiredArgument ∷ []) []

    -- the checks after the walk
    abbrev end_kinds : Held → Kinds
    end_kinds h = or_else (defaults_fault (settled rules h).rows rules) (check_fault shape (finished rules h) false)

    end_is : (h : Held) (ps : List Pair) → (settled rules h).rows ≡ map pair_row ps → end_kinds h ≡ missing_kinds ps
    end_is h ps rows =
        ap (λ ks. or_else ks (check_fault shape (finished rules h) false)) (no_default_fault (settled rules h).rows os)
        ∙ ap (λ rs. check_fault shape rs false) (no_default (settled rules h).rows os ∙ rows)
        ∙ ap (λ b. cond b (kind.MissingRequiredArgument ∷ []) []) (missing_is os ps)

    -- ---- all the pairs

    -- the kinds by which clap refuses the words from here on
    abbrev kinds_from : Walk → List Text → Kinds
    kinds_from w words =
        let end = (fold (walked rules []) w words).held in
        or_else (walk_fault shape [] w words) (or_else (settle_fault rules false end) (end_kinds end))

    or_assoc : (a b c : Kinds) → or_else (or_else a b) c ≡ or_else a (or_else b c)
    or_assoc [] b c = refl
    or_assoc (k ∷ ks) b c = refl

    kinds_more : (h : Held) (p : Pair) (k : IsRead os p) (ps : List Pair)
        → kinds_from (walk_from h) (spelled (p ∷ ps)) ≡ or_else (settle_fault rules false h) (kinds_from (walk_from (held_after h p)) (spelled ps))
    unfolding walk_fault
    kinds_more h p k ps =
        ap (λ ks. or_else (or_else ks (or_else (turn_fault shape [] first p.1) (walk_fault shape [] second (spelled ps)))) last) (name_fault h p k)
        ∙ ap (λ w. or_else (or_else (settle_fault rules false h) (or_else (turn_fault shape [] w p.1) (walk_fault shape [] second (spelled ps)))) last) (name_walked h p k)
        ∙ ap (λ ks. or_else (or_else (settle_fault rules false h) (or_else ks (walk_fault shape [] second (spelled ps)))) last) (value_fault h p k)
        ∙ or_assoc (settle_fault rules false h) (walk_fault shape [] second (spelled ps)) last
        ∙ ap (λ w. or_else (settle_fault rules false h) (kinds_from w (spelled ps))) (pair_walked h p k)
      where
        first : Walk
        first = walked rules [] (walk_from h) (45 ∷ 45 ∷ p.0)

        second : Walk
        second = walked rules [] first p.1

        last : Kinds
        last =
            let end = (fold (walked rules []) second (spelled ps)).held in
            or_else (settle_fault rules false end) (end_kinds end)

    next_held : (seen : List Pair) (p q : Pair) (k : IsRead os p) → has_name p.0 seen ≡ false → held_after (held_at seen p) q ≡ held_at (seen ++ p ∷ []) q
    next_held seen p q k new = ap (λ (h : Held). with_pending h) (settled_pair seen p k new)
      where
        with_pending : Held → Held
        with_pending h = record h { pending = Some (q.0, q.1 ∷ []) }

    kinds_along : (seen : List Pair) (p : Pair) (ps : List Pair) → AreRead os (p ∷ ps)
        → kinds_from (walk_from (held_at seen p)) (spelled ps) ≡ cond (is_fresh seen (p ∷ ps)) (missing_kinds (seen ++ p ∷ ps)) (kind.ArgumentConflict ∷ [])
    unfolding walk_fault
    kinds_along seen p [] are =
        ap (λ ks. or_else ks (end_kinds (held_at seen p))) (settle_pair_fault seen p are.0)
        ∙ go (has_name p.0 seen) refl
      where
        go : (b : Bool) → has_name p.0 seen ≡ b → or_else (cond b (kind.ArgumentConflict ∷ []) []) (end_kinds (held_at seen p))
            ≡ cond (not b && true) (missing_kinds (seen ++ p ∷ [])) (kind.ArgumentConflict ∷ [])
        go true e = refl
        go false e = end_is (held_at seen p) (seen ++ p ∷ []) (ap (λ (h : Held). h.rows) (settled_pair seen p are.0 e))
    kinds_along seen p (q ∷ qs) are =
        kinds_more (held_at seen p) q are.1.0 qs
        ∙ ap (λ ks. or_else ks (kinds_from (walk_from (held_after (held_at seen p) q)) (spelled qs))) (settle_pair_fault seen p are.0)
        ∙ go (has_name p.0 seen) refl (kinds_along (seen ++ p ∷ []) q qs are.1)
      where
        go : (b : Bool) → has_name p.0 seen ≡ b
            → kinds_from (walk_from (held_at (seen ++ p ∷ []) q)) (spelled qs)
            ≡ cond (is_fresh (seen ++ p ∷ []) (q ∷ qs)) (missing_kinds ((seen ++ p ∷ []) ++ q ∷ qs)) (kind.ArgumentConflict ∷ [])
            → or_else (cond b (kind.ArgumentConflict ∷ []) []) (kinds_from (walk_from (held_after (held_at seen p) q)) (spelled qs))
            ≡ cond (not b && is_fresh (seen ++ p ∷ []) (q ∷ qs)) (missing_kinds (seen ++ p ∷ q ∷ qs)) (kind.ArgumentConflict ∷ [])
        go true e more = refl
        go false e more =
            ap (λ h. kinds_from (walk_from h) (spelled qs)) (next_held seen p q are.0 e)
            ∙ more
            ∙ ap (λ all. cond (is_fresh (seen ++ p ∷ []) (q ∷ qs)) (missing_kinds all) (kind.ArgumentConflict ∷ [])) (append_assoc seen (p ∷ []) (q ∷ qs))

    rows_along : (seen : List Pair) (p : Pair) (ps : List Pair) → AreRead os (p ∷ ps) → is_fresh seen (p ∷ ps) ≡ true
        → finished rules (fold (walked rules []) (walk_from (held_at seen p)) (spelled ps)).held ≡ map pair_row (seen ++ p ∷ ps)
    rows_along seen p [] are fresh =
        no_default (settled rules (held_at seen p)).rows os
        ∙ ap (λ (h : Held). h.rows) (settled_pair seen p are.0 (is_not (has_name p.0 seen) (both _ _ fresh).0))
    rows_along seen p (q ∷ qs) are fresh =
        let parts = both (not (has_name p.0 seen)) (is_fresh (seen ++ p ∷ []) (q ∷ qs)) fresh in
        ap (λ w. finished rules (fold (walked rules []) w (spelled qs)).held) (pair_walked (held_at seen p) q are.1.0)
        ∙ ap (λ h. finished rules (fold (walked rules []) (walk_from h) (spelled qs)).held) (next_held seen p q are.0 (is_not (has_name p.0 seen) parts.0))
        ∙ rows_along (seen ++ p ∷ []) q qs are.1 parts.1
        ∙ ap (map pair_row) (append_assoc seen (p ∷ []) (q ∷ qs))

    -- ---- the laws

    walk_is : (h : Held) (ps : List Pair) → AreRead os ps → fold (walked rules []) (walk_from h) (spelled ps) ≡ walk_from (fold held_after h ps)
    walk_is h [] are = refl
    walk_is h (p ∷ ps) are = ap (λ w. fold (walked rules []) w (spelled ps)) (pair_walked h p are.0) ∙ walk_is (held_after h p) ps are.1

    level_law : (ps : List Pair) → AreRead os ps → kinds_from (walk_from nothing_held) (spelled ps) ≡ pairs_fault os ps
    unfolding walk_fault
    level_law [] are = end_is nothing_held [] refl
    level_law (p ∷ ps) are = kinds_more nothing_held p are.0 ps ∙ kinds_along [] p ps are

    -- what clap refuses on pairs: exactly a repeat, and then what is missing
    pub fault_law : (ps : List Pair) → AreRead os ps → built_fault (option_app name os) nothing_held (spelled ps) ≡ pairs_fault os ps
    fault_law ps are =
        ap by_stop (ap (λ (w : Walk). w.stopped) (walk_is nothing_held ps are)) ∙ level_law ps are
      where
        by_stop : Option (Text × List Text) → Kinds
        by_stop stop = level_fault shape [] nothing_held (spelled ps) (is_some (entered (option_app name os) stop)) (entered_fault (option_app name os) stop)

    -- what clap finds where it refuses none: a row for each pair
    pub rows_law : (ps : List Pair) → AreRead os ps → none_twice ps ≡ true → rows_after rules [] (spelled ps) ≡ map pair_row ps
    rows_law [] are fresh = no_default [] os
    rows_law (p ∷ ps) are fresh =
        ap (λ w. finished rules (fold (walked rules []) w (spelled ps)).held) (pair_walked nothing_held p are.0) ∙ rows_along [] p ps are fresh

-- the text that a getter gives
pub first_of_pairs : (id : Text) (ps : List Pair) → first_of id (map pair_row ps) ≡ value_in id ps
first_of_pairs id [] = refl
first_of_pairs id (p ∷ ps) = go (bytes_eq p.0 id) (first_of_pairs id ps)
  where
    go : (b : Bool) → first_of id (map pair_row ps) ≡ value_in id ps
        → option_and_then (λ (r : Row). slice_get r.values 0) (cond b (Some (pair_row p)) (find (λ r. bytes_eq r.id id) (map pair_row ps)))
        ≡ option_map (λ (q : Pair). q.1) (cond b (Some p) (find (λ q. bytes_eq q.0 id) ps))
    go true e = refl
    go false e = e

pub has_value : (id : Text) (ps : List Pair) → is_some (value_in id ps) ≡ has_name id ps
has_value id [] = refl
has_value id (p ∷ ps) = go (bytes_eq p.0 id) (has_value id ps)
  where
    go : (b : Bool) → is_some (value_in id ps) ≡ has_name id ps
        → is_some (option_map (λ (q : Pair). q.1) (cond b (Some p) (find (λ q. bytes_eq q.0 id) ps))) ≡ (b || has_name id ps)
    go true e = refl
    go false e = e

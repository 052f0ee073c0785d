use Rattle.std.proofs.Common.{◌≡◌, ◌≢◌, ◌∙◌, ap, subst, true, false, map, List, [], string_bytes, Result, Ok, Err, IfOk, IfErr, inl, inr}
use Rattle.clap.specs.Kinds.{IsAmong}
use Rattle.clap.specs.Words.{FailsBy, HasMatchesOf, app_of, fault_of, first_value, found_of, is_simple_and_free, kind_of}
use Rattle.clap.specs.Walk.{first_of}
use Rattle.clap.specs.declared.error.Error.{Error}
use Rattle.clap.specs.declared.error.kind.ErrorKind.TheVariants.{OutOfMemory}
use Rattle.clap.specs.declared.parser.matches.ArgMatches.{ArgMatches}
use Rattle.clap.proofs.WalkLemmas.{both, first_value-rows}
use Rattle.ac_words.specs.Grammar.{Text, none_twice, value_in}
use Rattle.ac_words.specs.Options.{app_for, is_whole, options_of}
use Rattle.ac_words.specs.Shape.{has_shape, pairs_of}
use Rattle.ac_words.specs.declared.shape.Kind.{Kind}
use Rattle.ac_words.proofs.PairLaw.{first_of_pairs}
use Rattle.ac_words.proofs.ShapeLaw.{faults_for, is_free_for, is_simple_for, not_whole_of, rows_for, whole_of}
use Rattle.ac_words.proofs.found.found_pairs.Goals as goal

module _ (k : Kind) (ws : List Text) (shape : has_shape (options_of k) ws ≡ true) where
  when_ok : (r : Result ArgMatches Error) → FailsBy (fault_of (app_for k) ws) r → IfOk r (λ m. is_whole (options_of k) (pairs_of ws) ≡ true)
  when_ok (Ok m) fails = whole_of (options_of k) (pairs_of ws) (subst (λ ks. ks ≡ []) (faults_for k ws shape) fails)
  when_ok (Err e) fails = tt

  values : (r : Result ArgMatches Error) → IfOk r (λ m. is_whole (options_of k) (pairs_of ws) ≡ true) → IfOk r (HasMatchesOf (app_for k) ws)
      → IfOk r (λ m. (id : Text) → first_value (found_of m) id ≡ value_in id (pairs_of ws))
  values (Ok m) whole found = λ id.
      first_value-rows (found_of m) id
      ∙ ap (first_of id) ((found (is_simple_for k)).0 ∙ rows_for k ws shape (both (none_twice (pairs_of ws)) _ whole).0)
      ∙ first_of_pairs id (pairs_of ws)
  values (Err e) whole found = tt

  when_err : (r : Result ArgMatches Error) → FailsBy (fault_of (app_for k) ws) r → IfErr r (λ e. kind_of e ≢ OutOfMemory → is_whole (options_of k) (pairs_of ws) ≡ false)
  when_err (Ok m) fails = tt
  when_err (Err e) (inl memory) = λ other. absurd (other memory)
  when_err (Err e) (inr among) = λ other. not_whole_of (options_of k) (pairs_of ws) (kind_of e) (subst (λ ks. IsAmong (kind_of e) ks) (faults_for k ws shape) among)

pub returns : goal.returns
returns c =
    let k : Kind = c.args.kind in
    let is : app_of c.in_ok-command.command ≡ app_for k = c.in_ok-command.ensures in
    let parse = c.try_get_matches_from in
    let words : List Text = map string_bytes c.args.words.now in
    let fails : FailsBy (fault_of (app_for k) words) parse.result =
    subst (λ ks. FailsBy ks parse.result) (ap (λ a. fault_of a words) is) (parse.ensures.kinds (ap is_simple_and_free is ∙ is_free_for k)) in
    let found : IfOk parse.result (HasMatchesOf (app_for k) words) = subst (λ a. IfOk parse.result (HasMatchesOf a words)) is parse.ensures.matches in
    let whole = when_ok k words c.requires.shape parse.result fails in
    record {
      whole = whole;
      found = values k words c.requires.shape parse.result whole found;
      refused = when_err k words c.requires.shape parse.result fails;
    }

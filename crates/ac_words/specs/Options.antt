-- A command with plain options, as clap reads it: each has a long name, takes one value, and is required or not.
use Rattle.std.specs.Prelude.{◌≡◌, Bool, codes, List, [], ◌∷◌, ◌&&◌, not, true, Some, None, map, if◌then◌else◌}
use Rattle.std.specs.List.{list_any}
use Rattle.clap.specs.Words.{App, Rule, Row, Shape, new_rule}
use Rattle.clap.specs.Simple.{new_shape}
use Rattle.clap.specs.Kinds.{Kinds}
use Rattle.clap.specs.Values.{reading_of}
use Rattle.clap.specs.declared.builder.ArgAction.TheVariants.{Set}
use Rattle.clap.specs.declared.builder.value_parser.ValueParser.TheVariants as vp
use Rattle.clap.specs.declared.parser.matches.ValueSource.TheVariants.{CommandLine}
use Rattle.clap.specs.declared.error.kind.ErrorKind.TheVariants as kind
use Rattle.ac_words.specs.declared.shape.Kind.{Kind}
use Rattle.ac_words.specs.declared.shape.Kind.TheVariants.{Encode, Synth}
use Rattle.ac_words.specs.Grammar.{encode_known, has_name, synth_known, Known, Text, Pair, none_twice}
use Rattle.ac_words.specs.Shape.{has_shape, pairs_of}

-- the options of a command
abbrev pub options_of : Kind → List Known
options_of Encode = encode_known
options_of Synth = synth_known

-- a required option has no pair
abbrev pub is_missing : List Known → List Pair → Bool
is_missing known ps = list_any (λ option. option.1 && not (has_name option.0 ps)) known

-- no option stands twice, and each required one stands
abbrev pub is_whole : List Known → List Pair → Bool
is_whole known ps = none_twice ps && not (is_missing known ps)

-- the words have the shape of pairs, and are whole
abbrev pub AreWhole : List Known → List Text → Type 0
AreWhole known ws = (has_shape known ws ≡ true) × (is_whole known (pairs_of ws) ≡ true)

-- the argument as the code makes it
abbrev pub given_rule : Known → Rule
given_rule o = record (new_rule o.0) { long = Some o.0; action = Some Set; required = o.1 }

-- the argument as clap fills it in
abbrev pub option_rule : Known → Rule
option_rule o = record (new_rule o.0) {
  long = Some o.0;
  action = Some Set;
  range = Some (record { start_inclusive = 1; end_inclusive = 1 });
  parser = Some vp.String;
  required = o.1;
}

-- the command as clap builds it
abbrev pub option_shape : Text → List Known → Shape
option_shape name known = record (new_shape name) {
  rules = map option_rule known;
  no_binary_name = true;
  disable_help_flag = true;
  disable_help_subcommand = true;
  is_built = true;
}

abbrev pub option_app : Text → List Known → App
option_app name known = record { top = option_shape name known; subs = [] }

-- what clap finds of a pair
abbrev pub pair_row : Pair → Row
pair_row p = record {
  id = p.0;
  values = p.1 ∷ [];
  count = None;
  source = Some CommandLine;
  reading = reading_of vp.String;
}

-- how clap refuses the pairs
abbrev pub pairs_fault : List Known → List Pair → Kinds
pairs_fault known ps = if none_twice ps then (if is_missing known ps then kind.MissingRequiredArgument ∷ [] else [])
    else kind.ArgumentConflict ∷ []

-- the command as the code makes it
abbrev pub given_app : Text → List Known → App
given_app name known = record {
  top = record (new_shape name) { rules = map given_rule known; no_binary_name = true; disable_help_flag = true };
  subs = [];
}

-- the command as the code makes it, by its name and its options
abbrev pub name_of : Kind → Text
name_of Encode = codes "encode"
name_of Synth = codes "synth"

abbrev pub app_for : Kind → App
app_for kind = given_app (name_of kind) (options_of kind)

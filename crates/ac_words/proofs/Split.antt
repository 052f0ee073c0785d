-- Words fall into a command, its pairs and the names in one way.
use Rattle.std.proofs.Common.{◌≡◌, ◌∙◌, ◌<◌, ◌+◌, ℕ, true, false, refl, sym, ap, arith, List, [], ◌∷◌, ◌++◌, length, drop, take, codes, true≢false, subst}
use Rattle.std.specs.List.{list_all}
use Rattle.std.proofs.lemmas.List.{length-append}
use Rattle.std.proofs.Math.Seq.{drop-append_seam, take-append_seam}
use Rattle.ac_words.specs.Asked.{AreCommand, meaning_of}
use Rattle.ac_words.specs.Grammar.{EncodePairs, SynthPairs, Meaning, Means, InGrammar, Text, encode, decode, synth, LastWords, are_names, is_name, last_words, WordsMeanOneThing}
use Rattle.ac_words.specs.declared.meaning.Command.{Command}
use Rattle.ac_words.specs.declared.meaning.Command.TheVariants.{Encode, Decode, Synth}
use Rattle.ac_words.specs.declared.meaning.Options.{Options}
use Rattle.ac_words.proofs.InPairs.{test_of}
use Rattle.ac_words.proofs.Said.{frames_one, pairs_one, seed_one}

record SameParts (n₁ n₂ : Text) (m₁ m₂ t₁ t₂ : List Text) : Type 0 where
  name : n₁ ≡ n₂
  middle : m₁ ≡ m₂
  last : t₁ ≡ t₂

same_parts : (n₁ n₂ : Text) (m₁ m₂ t₁ t₂ : List Text) → length t₁ ≡ length t₂ → n₁ ∷ (m₁ ++ t₁) ≡ n₂ ∷ (m₂ ++ t₂) → SameParts n₁ n₂ m₁ m₂ t₁ t₂
same_parts n₁ n₂ m₁ m₂ t₁ t₂ size e =
    let rest : m₁ ++ t₁ ≡ m₂ ++ t₂ = ap (λ (ws : List Text). drop 1 ws) e in
    let sizes : length m₁ + length t₁ ≡ length m₂ + length t₂ = sym (length-append m₁ t₁) ∙ ap length rest ∙ length-append m₂ t₂ in
    let same : length m₁ ≡ length m₂ = omega arith in
    let first : n₁ ≡ n₂ = cc in
    record {
      name = first;
      middle = sym (take-append_seam m₁ t₁) ∙ ap (take (length m₁)) rest ∙ ap (λ k. take k (m₂ ++ t₂)) same ∙ take-append_seam m₂ t₂;
      last = sym (drop-append_seam m₁ t₁) ∙ ap (drop (length m₁)) rest ∙ ap (λ k. drop k (m₂ ++ t₂)) same ∙ drop-append_seam m₂ t₂;
    }

-- ---- words with no meaning

names_alone : (name : Text) (middle : List Text) (n : LastWords) → length (name ∷ (middle ++ last_words n)) ≡ length middle + 4
names_alone name middle n = let sum : length (middle ++ last_words n) ≡ length middle + 3 = length-append middle (last_words n) in omega arith

pub too_short : (ws : List Text) → length ws < 4 → InGrammar ws → ⊥
too_short ws short (encode o n, h) = omega (arith, ap length h.1 ∙ names_alone (codes "encode") h.0 n)
too_short ws short (decode n, h) = omega (arith, ap length h.0 ∙ names_alone (codes "decode") [] n)
too_short ws short (synth seed frames n, h) = omega (arith, ap length h.1 ∙ names_alone (codes "synth") h.0 n)

-- ---- the command of words in their parts

-- the command and the names of words that mean something
record IsAsked (name : Text) (middle last : List Text) : Type 0 where
  command : Command
  asked : AreCommand name middle command
  named : list_all is_name last ≡ true

module _ (ws : List Text) (name : Text) (middle last : List Text) (three : length last ≡ 3) (is : ws ≡ name ∷ (middle ++ last)) where
  is_asked : (m : Meaning) → Means ws m → IsAsked name middle last
  is_asked (encode o n) h =
      let parts = same_parts name (codes "encode") middle h.0 last (last_words n) three (sym is ∙ h.1) in
      record {
        command = Encode o;
        asked = (parts.name, subst (λ (ps : List Text). EncodePairs ps o) (sym parts.middle) h.2);
        named = ap (list_all is_name) parts.last ∙ h.3;
      }
  is_asked (decode n) h =
      let parts = same_parts name (codes "decode") middle [] last (last_words n) three (sym is ∙ h.0) in
      record { command = Decode; asked = (parts.name, parts.middle); named = ap (list_all is_name) parts.last ∙ h.1 }
  is_asked (synth seed frames n) h =
      let parts = same_parts name (codes "synth") middle h.0 last (last_words n) three (sym is ∙ h.1) in
      record {
        command = Synth seed frames;
        asked = (parts.name, subst (λ (ps : List Text). SynthPairs ps seed frames) (sym parts.middle) h.2);
        named = ap (list_all is_name) parts.last ∙ h.3;
      }

  pub bad_names : list_all is_name last ≡ false → InGrammar ws → ⊥
  bad_names refuted (m, h) = true≢false (sym (is_asked m h).named ∙ refuted)

  pub bad_command : ((c : Command) → AreCommand name middle c → ⊥) → InGrammar ws → ⊥
  bad_command refuted (m, h) = let a = is_asked m h in refuted a.command a.asked

pub not_encode : (word : Text) (middle : List Text) → word ≡ codes "encode" → ((o : Options) → EncodePairs middle o → ⊥)
    → (c : Command) → AreCommand word middle c → ⊥
not_encode word middle is none (Encode o) h = none o h.1
not_encode word middle is none Decode h = true≢false (sym (test_of _ _ (sym is ∙ h.0)))
not_encode word middle is none (Synth seed frames) h = true≢false (sym (test_of _ _ (sym is ∙ h.0)))

pub not_synth : (word : Text) (middle : List Text) → word ≡ codes "synth" → ((seed frames : ℕ) → SynthPairs middle seed frames → ⊥)
    → (c : Command) → AreCommand word middle c → ⊥
not_synth word middle is none (Encode o) h = true≢false (sym (test_of _ _ (sym is ∙ h.0)))
not_synth word middle is none Decode h = true≢false (sym (test_of _ _ (sym is ∙ h.0)))
not_synth word middle is none (Synth seed frames) h = none seed frames h.1

pub means : (ws : List Text) (name : Text) (middle : List Text) (n : LastWords) (c : Command) → ws ≡ name ∷ (middle ++ last_words n)
    → are_names n ≡ true → AreCommand name middle c → Means ws (meaning_of c n)
means ws name middle n (Encode o) is named h = (middle, is ∙ ap (λ (x : Text). x ∷ (middle ++ last_words n)) h.0, h.1, named)
means ws name middle n Decode is named h =
    (is ∙ ap (λ (x : Text). x ∷ (middle ++ last_words n)) h.0 ∙ ap (λ (x : List Text). codes "decode" ∷ (x ++ last_words n)) h.1, named)
means ws name middle n (Synth seed frames) is named h = (middle, is ∙ ap (λ (x : Text). x ∷ (middle ++ last_words n)) h.0, h.1, named)

-- ---- words mean one thing

abbrev three_words : Text → Text → Text → LastWords
three_words from to report = record { from = from; to = to; report = report }

same_last : (n m : LastWords) → last_words n ≡ last_words m → n ≡ m
same_last n m e =
    let a : n.from ≡ m.from = cc in
    let b : n.to ≡ m.to = cc in
    let c : n.report ≡ m.report = cc in
    ap (λ x. three_words x n.to n.report) a ∙ ap (λ x. three_words m.from x n.report) b ∙ ap (λ x. three_words m.from m.to x) c

encode_one : (ws : List Text) (o p : Options) (n m : LastWords) → Means ws (encode o n) → Means ws (encode p m) → encode o n ≡ encode p m
encode_one ws o p n m h k =
    let parts = same_parts (codes "encode") (codes "encode") h.0 k.0 (last_words n) (last_words m) refl (sym h.1 ∙ k.1) in
    let options : o ≡ p = pairs_one k.0 o p (subst (λ ws. EncodePairs ws o) parts.middle h.2) k.2 in
    let names : n ≡ m = same_last n m parts.last in
    cc

decode_one : (ws : List Text) (n m : LastWords) → Means ws (decode n) → Means ws (decode m) → decode n ≡ decode m
decode_one ws n m h k =
    let parts = same_parts (codes "decode") (codes "decode") [] [] (last_words n) (last_words m) refl (sym h.0 ∙ k.0) in
    ap (λ x. decode x) (same_last n m parts.last)

synth_one : (ws : List Text) (s f t g : ℕ) (n m : LastWords) → Means ws (synth s f n) → Means ws (synth t g m) → synth s f n ≡ synth t g m
synth_one ws s f t g n m h k =
    let parts = same_parts (codes "synth") (codes "synth") h.0 k.0 (last_words n) (last_words m) refl (sym h.1 ∙ k.1) in
    let moved : SynthPairs k.0 s f = subst (λ ws. SynthPairs ws s f) parts.middle h.2 in
    let seed : s ≡ t = seed_one k.0 s f t g moved k.2 in
    let frames : f ≡ g = frames_one k.0 s f t g moved k.2 in
    let names : n ≡ m = same_last n m parts.last in
    cc

-- the first words differ
two_words : (ws : List Text) (a b : Text) (xs ys : List Text) → ws ≡ a ∷ xs → ws ≡ b ∷ ys → a ≡ b
two_words ws a b xs ys h k = cc

pub one_meaning : WordsMeanOneThing
one_meaning ws (encode o n) (encode p m) h k = encode_one ws o p n m h k
one_meaning ws (encode o n) (decode m) h k = let same = two_words ws _ _ _ _ h.1 k.0 in absurd (true≢false (sym (test_of _ _ same)))
one_meaning ws (encode o n) (synth t g m) h k = let same = two_words ws _ _ _ _ h.1 k.1 in absurd (true≢false (sym (test_of _ _ same)))
one_meaning ws (decode n) (encode p m) h k = let same = two_words ws _ _ _ _ h.0 k.1 in absurd (true≢false (sym (test_of _ _ same)))
one_meaning ws (decode n) (decode m) h k = decode_one ws n m h k
one_meaning ws (decode n) (synth t g m) h k = let same = two_words ws _ _ _ _ h.0 k.1 in absurd (true≢false (sym (test_of _ _ same)))
one_meaning ws (synth s f n) (encode p m) h k = let same = two_words ws _ _ _ _ h.1 k.1 in absurd (true≢false (sym (test_of _ _ same)))
one_meaning ws (synth s f n) (decode m) h k = let same = two_words ws _ _ _ _ h.1 k.0 in absurd (true≢false (sym (test_of _ _ same)))
one_meaning ws (synth s f n) (synth t g m) h k = synth_one ws s f t g n m h k

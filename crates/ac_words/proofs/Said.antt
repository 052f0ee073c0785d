-- What the words of pairs say, in one way, and within its bounds.
use Rattle.std.proofs.Common.{◌≡◌, ◌∙◌, ◌<◌, ◌≤◌, ◌^◌, ℕ, true, false, refl, sym, ap, arith, List, Option, Some, None, codes, subst}
use Rattle.std.specs.Option.{ForSome}
use Rattle.ac_words.specs.Asked.{GivesCommand}
use Rattle.ac_words.specs.Grammar.{BandwidthOf, CoupleOf, EncodePairs, FramesOf, IsNumber, NodesOf, Pair, RateOf, Says, SeedOf, SynthPairs, Text, encode_known, synth_known, value_in}
use Rattle.ac_words.specs.Lawful.{IsRange, IsWithinBounds}
use Rattle.ac_words.specs.Options.{AreWhole}
use Rattle.ac_words.specs.Shape.{pairs_of}
use Rattle.ac_base.specs.Rates.{IsRate}
use Rattle.ac_words.specs.declared.meaning.Command.{Command}
use Rattle.ac_words.specs.declared.meaning.Command.TheVariants.{Encode, Decode, Synth}
use Rattle.ac_words.specs.declared.meaning.Couple.{Couple}
use Rattle.ac_words.specs.declared.meaning.Couple.TheVariants.{Off, Auto, Bins}
use Rattle.ac_words.specs.declared.meaning.Options.{Options}
use Rattle.ac_words.specs.declared.shape.Kind.TheVariants as kinds
use Rattle.ac_words.proofs.CoupleTexts.{couple_one, plain_couple}
use Rattle.ac_words.proofs.InPairs.{spelled_one}
use Rattle.ac_words.proofs.Numbers.{plain_decimal, same_number}
use Rattle.ac_words.proofs.RateTexts.{rate_fits}
use Rattle.ac_words.proofs.Shaped.{AreFound, IsSaid, is_plain, pairs_found, pairs_from}
use Rattle.ac_words.proofs.ShapeLaw.{readable_for}

-- ---- a text says one number

rate_one : (text : Text) (m n : ℕ) → RateOf (Some text) m → RateOf (Some text) n → m ≡ n
rate_one text m n h k = same_number text m n (rate_fits m h.1) (rate_fits n k.1) h.0 k.0

number_one : (most : ℕ) → most < 2 ^ 64 → (text : Text) (m n : ℕ) → IsNumber most text m → IsNumber most text n → m ≡ n
number_one most small text m n h k =
    let below : m < 2 ^ 64 = omega (arith, h.1) in
    let also : n < 2 ^ 64 = omega (arith, k.1) in
    same_number text m n below also h.0 k.0

nodes_one : (text : Text) (m n : ℕ) → IsNumber 10000000 text m → IsNumber 10000000 text n → m ≡ n
nodes_one = number_one 10000000 (omega arith)

bandwidth_one : (text : Text) (m n : ℕ) → IsNumber 60 text m → IsNumber 60 text n → m ≡ n
bandwidth_one = number_one 60 (omega arith)

-- ---- what is read in the words is what their pairs say

-- what the values of pairs say
abbrev SayAll : List Pair → Options → Type 0
SayAll ps o = Says (value_in (codes "rate") ps) (value_in (codes "nodes") ps) (value_in (codes "bw") ps) (value_in (codes "couple") ps) o

rate_said : (v : Option Text) (rate : ℕ) → RateOf v rate → IsSaid true v
rate_said None rate h = absurd h
rate_said (Some text) rate h = ap (λ t. is_plain t) h.0 ∙ plain_decimal rate (rate_fits rate h.1)

number_said : (most : ℕ) → most < 2 ^ 64 → (text : Text) (n : ℕ) → IsNumber most text n → is_plain text ≡ true
number_said most small text n h = let fits : n < 2 ^ 64 = omega (arith, h.1) in ap (λ t. is_plain t) h.0 ∙ plain_decimal n fits

nodes_said : (v : Option Text) (nodes : ℕ) → NodesOf v nodes → IsSaid false v
nodes_said None nodes h = refl
nodes_said (Some text) nodes h = number_said 10000000 (omega arith) text nodes h

bandwidth_said : (v : Option Text) (bw : Option ℕ) → BandwidthOf v bw → IsSaid false v
bandwidth_said None bw h = refl
bandwidth_said (Some text) bw h = number_said 60 (omega arith) text h.0 h.2

couple_said : (v : Option Text) (couple : Couple) → CoupleOf v couple → IsSaid false v
couple_said None couple h = refl
couple_said (Some text) couple h = plain_couple text couple h

seed_said : (v : Option Text) (seed : ℕ) → SeedOf v seed → IsSaid true v
seed_said None seed h = absurd h
seed_said (Some text) seed h = number_said 18446744073709551615 (omega arith) text seed h

frames_said : (v : Option Text) (frames : ℕ) → FramesOf v frames → IsSaid true v
frames_said None frames h = absurd h
frames_said (Some text) frames h = number_said 200 (omega arith) text frames h.0

pub encode_from : (ws : List Text) (o : Options) → AreWhole encode_known ws → SayAll (pairs_of ws) o → EncodePairs ws o
encode_from ws o e h = record { pairs = pairs_of ws; form = pairs_from encode_known (readable_for kinds.Encode) ws e; says = h }

encode_found : (ws : List Text) (o : Options) (h : EncodePairs ws o) → AreFound encode_known ws h.pairs
encode_found ws o h = pairs_found encode_known ws h.pairs h.form
    (rate_said _ o.rate h.says.rate_is, (nodes_said _ o.nodes h.says.nodes_is, (bandwidth_said _ o.bw h.says.bw_is, (couple_said _ o.couple h.says.couple_is, tt))))

pub encode_whole : (ws : List Text) (o : Options) → EncodePairs ws o → AreWhole encode_known ws
encode_whole ws o h = (encode_found ws o h).whole

pub encode_read : (ws : List Text) (o : Options) → EncodePairs ws o → SayAll (pairs_of ws) o
encode_read ws o h = subst (λ (ps : List Pair). SayAll ps o) (sym (encode_found ws o h).same) h.says

pub synth_from : (ws : List Text) (seed frames : ℕ) → AreWhole synth_known ws → SeedOf (value_in (codes "seed") (pairs_of ws)) seed
    → FramesOf (value_in (codes "frames") (pairs_of ws)) frames → SynthPairs ws seed frames
synth_from ws seed frames e h k =
    record { pairs = pairs_of ws; form = pairs_from synth_known (readable_for kinds.Synth) ws e; seed_is = h; frames_is = k }

synth_found : (ws : List Text) (seed frames : ℕ) (h : SynthPairs ws seed frames) → AreFound synth_known ws h.pairs
synth_found ws seed frames h = pairs_found synth_known ws h.pairs h.form (seed_said _ seed h.seed_is, (frames_said _ frames h.frames_is, tt))

pub synth_whole : (ws : List Text) (seed frames : ℕ) → SynthPairs ws seed frames → AreWhole synth_known ws
synth_whole ws seed frames h = (synth_found ws seed frames h).whole

pub seed_read : (ws : List Text) (seed frames : ℕ) → SynthPairs ws seed frames → SeedOf (value_in (codes "seed") (pairs_of ws)) seed
seed_read ws seed frames h = subst (λ (ps : List Pair). SeedOf (value_in (codes "seed") ps) seed) (sym (synth_found ws seed frames h).same) h.seed_is

pub frames_read : (ws : List Text) (seed frames : ℕ) → SynthPairs ws seed frames → FramesOf (value_in (codes "frames") (pairs_of ws)) frames
frames_read ws seed frames h = subst (λ (ps : List Pair). FramesOf (value_in (codes "frames") ps) frames) (sym (synth_found ws seed frames h).same) h.frames_is

-- ---- one meaning

abbrev options : ℕ → ℕ → Option ℕ → Couple → Options
options rate nodes bw couple = record { rate = rate; nodes = nodes; bw = bw; couple = couple }

same_options : (o p : Options) → o.rate ≡ p.rate → o.nodes ≡ p.nodes → o.bw ≡ p.bw → o.couple ≡ p.couple → o ≡ p
same_options o p a b c d =
    ap (λ x. options x o.nodes o.bw o.couple) a
    ∙ ap (λ x. options p.rate x o.bw o.couple) b
    ∙ ap (λ x. options p.rate p.nodes x o.couple) c
    ∙ ap (λ x. options p.rate p.nodes p.bw x) d

same_rate : (v : Option Text) (m n : ℕ) → RateOf v m → RateOf v n → m ≡ n
same_rate None m n h k = absurd h
same_rate (Some text) m n h k = rate_one text m n h k

same_nodes : (v : Option Text) (m n : ℕ) → NodesOf v m → NodesOf v n → m ≡ n
same_nodes None m n h k = h ∙ sym k
same_nodes (Some text) m n h k = nodes_one text m n h k

same_bandwidth : (v : Option Text) (a b : Option ℕ) → BandwidthOf v a → BandwidthOf v b → a ≡ b
same_bandwidth None a b h k = h ∙ sym k
same_bandwidth (Some text) a b h k = h.1 ∙ ap (λ (n : ℕ). Some n) (bandwidth_one text h.0 k.0 h.2 k.2) ∙ sym k.1

same_couple : (v : Option Text) (a b : Couple) → CoupleOf v a → CoupleOf v b → a ≡ b
same_couple None a b h k = h ∙ sym k
same_couple (Some text) a b h k = couple_one text a b h k

pub says_one : (rate nodes bw couple : Option Text) (o p : Options) → Says rate nodes bw couple o → Says rate nodes bw couple p → o ≡ p
says_one rate nodes bw couple o p h k =
    same_options o p
    (same_rate rate o.rate p.rate h.rate_is k.rate_is)
    (same_nodes nodes o.nodes p.nodes h.nodes_is k.nodes_is)
    (same_bandwidth bw o.bw p.bw h.bw_is k.bw_is)
    (same_couple couple o.couple p.couple h.couple_is k.couple_is)

pub pairs_one : (ws : List Text) (o p : Options) → EncodePairs ws o → EncodePairs ws p → o ≡ p
pairs_one ws o p h k =
    let same : h.pairs ≡ k.pairs = spelled_one h.pairs k.pairs (sym h.form.words ∙ k.form.words) in
    says_one (value_in (codes "rate") k.pairs) (value_in (codes "nodes") k.pairs) (value_in (codes "bw") k.pairs)
    (value_in (codes "couple") k.pairs) o p (subst (λ ps. SayAll ps o) same h.says) k.says

same_seed : (v : Option Text) (m n : ℕ) → SeedOf v m → SeedOf v n → m ≡ n
same_seed None m n h k = absurd h
same_seed (Some text) m n h k = number_one 18446744073709551615 (omega arith) text m n h k

same_frames : (v : Option Text) (m n : ℕ) → FramesOf v m → FramesOf v n → m ≡ n
same_frames None m n h k = absurd h
same_frames (Some text) m n h k = number_one 200 (omega arith) text m n h.0 k.0

pub seed_one : (ws : List Text) (s f t g : ℕ) → SynthPairs ws s f → SynthPairs ws t g → s ≡ t
seed_one ws s f t g h k = same_seed (value_in (codes "seed") (pairs_of ws)) s t (seed_read ws s f h) (seed_read ws t g k)

pub frames_one : (ws : List Text) (s f t g : ℕ) → SynthPairs ws s f → SynthPairs ws t g → f ≡ g
frames_one ws s f t g h k = same_frames (value_in (codes "frames") (pairs_of ws)) f g (frames_read ws s f h) (frames_read ws t g k)

-- ---- the bounds

rate_in : (v : Option Text) (rate : ℕ) → RateOf v rate → IsRate rate
rate_in None rate h = absurd h
rate_in (Some text) rate h = h.1

nodes_in : (v : Option Text) (nodes : ℕ) → NodesOf v nodes → nodes ≤ 10000000
nodes_in None nodes h = omega arith
nodes_in (Some text) nodes h = h.1

bandwidth_in : (v : Option Text) (bw : Option ℕ) → BandwidthOf v bw → ForSome bw (λ x. x ≤ 60)
bandwidth_in None bw h = λ x is. absurd (cc)
bandwidth_in (Some text) bw h = λ x is.
    let code : bw ≡ Some h.0 = h.1 in
    let same : h.0 ≡ x = cc in
    subst (λ (n : ℕ). n ≤ 60) same h.2.1

couple_in : (v : Option Text) (couple : Couple) → CoupleOf v couple → IsRange couple
couple_in v Off h = tt
couple_in v Auto h = tt
couple_in None (Bins begin end) h = absurd (cc)
couple_in (Some text) (Bins begin end) h = (h.1, h.2, h.3)

seed_in : (v : Option Text) (seed : ℕ) → SeedOf v seed → seed < 2 ^ 64
seed_in None seed h = absurd h
seed_in (Some text) seed h = omega (arith, h.1)

least_frames : (v : Option Text) (frames : ℕ) → FramesOf v frames → 1 ≤ frames
least_frames None frames h = absurd h
least_frames (Some text) frames h = h.1

most_frames : (v : Option Text) (frames : ℕ) → FramesOf v frames → frames ≤ 200
most_frames None frames h = absurd h
most_frames (Some text) frames h = h.0.1

pub within_bounds : (ws : List Text) (c : Command) → GivesCommand ws c → IsWithinBounds c
within_bounds ws (Encode o) h =
    let pairs = h.1.2.pairs in
    let says = h.1.2.says in
    record {
      rate = rate_in (value_in (codes "rate") pairs) o.rate says.rate_is;
      nodes = nodes_in (value_in (codes "nodes") pairs) o.nodes says.nodes_is;
      bandwidth = bandwidth_in (value_in (codes "bw") pairs) o.bw says.bw_is;
      coupling = couple_in (value_in (codes "couple") pairs) o.couple says.couple_is;
    }
within_bounds ws Decode h = tt
within_bounds ws (Synth seed frames) h =
    let read = h.1.2 in
    (seed_in _ seed read.seed_is, least_frames _ frames read.frames_is, most_frames _ frames read.frames_is)

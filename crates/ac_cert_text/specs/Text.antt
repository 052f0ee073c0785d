-- The text of a certificate, line by line: this project's own.
use Rattle.std.specs.Prelude.{◌≡◌, ℕ, zero, suc, ◌+◌, ◌^◌, ◌==◌, ◌&&◌, not, nat_le, nat_lt, Bool, true, if◌then◌else◌, List, [], ◌∷◌, map, replicate, slice_index, is_some, is_none, Option, Some, None, option_map, Result, Ok, Err, codes}
use Rattle.std.specs.Fmt.{decimal}
use Rattle.std.specs.List.{list_all}
use Rattle.ac_base.specs.declared.shapes.Shape.{Shape}
use Rattle.ac_base.specs.declared.spans.Span.{Span}
use Rattle.ac_base.specs.Shape.{coded_of, span_of}
use Rattle.ac_bound.specs.declared.pots.Pots.{Pots}
use Rattle.ac_claim.specs.declared.certs.Cert.{Cert}
use Rattle.ac_claim.specs.declared.certs.Level.{Level}
use Rattle.ac_claim.specs.declared.tree.Tree.{Tree}
use Rattle.ac_cert_text.specs.declared.fault.Fault.{Fault}
use Rattle.ac_cert_text.specs.declared.fault.Fault.TheVariants.{Bad}
use Rattle.ac_cert_text.specs.declared.whole.ParseFault.{ParseFault}
use Rattle.ac_cert_text.specs.declared.whole.ParseFault.TheVariants.{No, NoMemory}
use Rattle.ac_cert_text.specs.Codec.{Codec, Outcome, ◌>>=◌, after, before, number, flag, absent, slot, present, fork, pair, cons, each, tested}
use Rattle.ac_cert_text.specs.TreeText.{tree, is_empty}

-- a space behind each of n items but the last, a line feed behind this
abbrev pub end_at : ℕ → ℕ → ℕ
end_at n i = if suc i == n then 10 else 32

-- ---- shape FSCOD ACMOD LFE BW B E WORDS

abbrev pub Fields : Type 0
Fields = ℕ × (ℕ × (Bool × (ℕ × (Option (ℕ × ℕ) × ℕ))))

abbrev pub fields_of : Shape → Fields
fields_of s = (s.fscod, (s.acmod, (s.lfe, (s.bw, (s.couple, s.words)))))

abbrev pub is_coupling : ℕ → Option (ℕ × ℕ) → Bool
is_coupling acmod None = true
is_coupling acmod (Some p) = nat_le 2 acmod && nat_le p.0 15 && nat_le p.1 15 && nat_le p.0 (p.1 + 2)

-- the fields are those of a shape
abbrev pub is_shape : Fields → Bool
is_shape f =
    nat_le f.0 2 && nat_le 1 f.1.0 && nat_le f.1.0 7 && nat_le f.1.1.1.0 60 && nat_le 64 f.1.1.1.1.1 && nat_le f.1.1.1.1.1 1920
    && is_coupling f.1.0 f.1.1.1.1.0

-- `- -`, or the two codes
unfoldable pub couple : Codec (Option (ℕ × ℕ))
couple = fork 45 is_none (before (absent None) (codes "- - ")) (present (pair (number 256 32) (λ _. number 256 32)))

unfoldable pub fields : Codec Fields
fields =
    pair (number 256 32) (λ _.
    pair (number 256 32) (λ _.
    pair (flag 32) (λ _.
    pair (number 256 32) (λ _.
    pair couple (λ _.
    number 65536 10)))))

unfoldable pub shape_line : Codec Fields
shape_line = after (codes "shape ") (tested is_shape fields)

-- how many coded channels there are, and the bins of one
abbrev pub coded : Fields → ℕ
coded f = coded_of f.1.0 f.1.1.0 f.1.1.1.1.0

abbrev pub bins : Fields → ℕ → Span
bins f c = span_of f.1.0 f.1.1.1.0 f.1.1.1.1.0 c

-- ---- raw CH BLOCK e e ..

-- a row has an entry for each of 256 bins: those of the span are stated, the others are 0
abbrev pub is_in : Span → ℕ → Bool
is_in span k = nat_le span.start k && nat_lt k span.end

unfoldable pub bin : Span → ℕ → Codec ℕ
bin span k = slot (is_in span k) 0 (number 256 (end_at span.end k))

unfoldable pub row : Span → Codec (List ℕ)
row span = each 256 0 (bin span)

unfoldable pub raw_line : Span → ℕ → ℕ → Codec (List ℕ)
raw_line span c b = after (codes "raw ") (after (decimal c) (after (codes " ") (after (decimal b) (after (codes " ") (row span)))))

abbrev pub no_rows : List (List ℕ)
no_rows = replicate 6 (replicate 256 0)

unfoldable pub raw_lines : Fields → ℕ → Codec (List (List ℕ))
raw_lines f c = slot (nat_lt c (coded f)) no_rows (each 6 0 (raw_line (bins f c) c))

unfoldable pub raws : Fields → Codec (List (List (List ℕ)))
raws f = each 7 0 (raw_lines f)

-- ---- claim OFFSET UPPER

unfoldable pub claim : Codec (ℕ × ℕ)
claim = after (codes "claim ") (pair (number 65536 32) (λ _. number 65536 10))

-- ---- word CH c c c c c c

-- block 0 sends, and no code is over 3
abbrev pub is_word : List ℕ → Bool
is_word codes = nat_le 1 (slice_index codes 0) && list_all (λ code. nat_le code 3) codes

unfoldable pub code : ℕ → Codec ℕ
code b = number 256 (end_at 6 b)

unfoldable pub word_line : ℕ → Codec (List ℕ)
word_line c = after (codes "word ") (after (decimal c) (after (codes " ") (tested is_word (each 6 0 code))))

-- of a word that isn't stated
abbrev pub first_word : List ℕ
first_word = 1 ∷ 0 ∷ 0 ∷ 0 ∷ 0 ∷ 0 ∷ []

unfoldable pub word_at : Fields → ℕ → Codec (List ℕ)
word_at f c = slot (nat_lt c (coded f)) first_word (word_line c)

unfoldable pub words : Fields → Codec (List (List ℕ))
words f = each 7 0 (word_at f)

-- ---- top R

unfoldable pub top : Codec ℕ
top = after (codes "top ") (number 65536 10)

-- ---- pot CH PART p p p p p p

unfoldable pub potential : ℕ → Codec ℕ
potential at = number (2 ^ 32) (end_at 6 at)

unfoldable pub pot_line : ℕ → ℕ → Codec (List ℕ)
pot_line c part = after (codes "pot ") (after (decimal c) (after (codes " ") (after (decimal part) (after (codes " ") (each 6 0 potential)))))

abbrev pub no_pots : List (List ℕ)
no_pots = replicate 3 (replicate 6 0)

unfoldable pub pot_lines : Fields → ℕ → Codec (List (List ℕ))
pot_lines f c = slot (nat_lt c (coded f)) no_pots (each 3 0 (pot_line c))

unfoldable pub pots : Fields → Codec (List (List (List ℕ)))
pots f = each 7 0 (pot_lines f)

-- ---- offset T, its pot lines, tree TREE

abbrev pub Offset : Type 0
Offset = List (List (List ℕ)) × Tree

unfoldable pub tree_line : Codec Tree
tree_line = after (codes "tree") (before tree (codes "\n"))

unfoldable pub level : Fields → ℕ → Codec Offset
level f t = after (codes "offset ") (after (decimal t) (after (codes "\n") (pair (pots f) (λ _. tree_line))))

abbrev pub some_levels : {A : Type 0} → List A → Bool
some_levels levels = not (is_empty levels)

-- offsets from n - 1 downwards, as many as are given, then `end`
unfoldable pub levels : Fields → ℕ → Codec (List Offset)
levels f zero = before (absent []) (codes "end\n")
levels f (suc t) = fork 111 some_levels (cons (level f t) (levels f t)) (before (absent []) (codes "end\n"))

-- ---- the whole

abbrev pub Over : Type 0
Over = Option (List (List (List ℕ))) × List Offset

-- potentials above the top, if any, and the offsets from the top downwards
unfoldable pub over : Fields → ℕ → Codec Over
over f r =
    fork 112 (λ p. is_some p.0) (pair (present (pots f)) (λ _. levels f (r + 1))) (pair (absent None) (λ _. levels f (r + 1)))

abbrev pub Plain : Type 0
Plain = Fields × (List (List (List ℕ)) × ((ℕ × ℕ) × (List (List ℕ) × (ℕ × Over))))

unfoldable pub text : Codec Plain
text = after (codes "ac3cert 1\n") (
    pair shape_line (λ f.
    pair (raws f) (λ _.
    pair claim (λ _.
    pair (words f) (λ _.
    pair top (λ r.
    over f r))))))

-- nothing follows
abbrev pub ended : {A : Type 0} → A × List ℕ → Outcome A
ended x = elim (x.1) [
  | [] ↦ Ok (x.0, [])
  | b ∷ l ↦ Err (Bad, b ∷ l)
]

abbrev pub read_whole : List ℕ → Outcome Plain
read_whole l = text.read l >>= ended

-- ---- the certificate

abbrev pub offset_of : Level → Offset
offset_of level = (level.pots.p, level.tree)

abbrev pub offsets_of : List Level → List Offset
offsets_of levels = map offset_of levels

abbrev pub pots_of : Pots → List (List (List ℕ))
pots_of pots = pots.p

-- what a certificate's text states, and what it doesn't
abbrev pub plain_of : Cert → Plain
plain_of cert =
    (fields_of cert.shape, (cert.raw.e, ((cert.offset, cert.upper), (cert.assign.w, (cert.top, (option_map pots_of cert.over, offsets_of cert.trees))))))

-- what is answered is what reading the whole text gives, unless memory was wanting
abbrev pub Answers : Result Cert ParseFault → Outcome Plain → Type 0
Answers (Ok cert) read = (rest : List ℕ) × (read ≡ Ok (plain_of cert, rest))
Answers (Err (No fault)) read = (e : Fault × List ℕ) × (read ≡ Err e)
Answers (Err NoMemory) read = Unit {0}

-- the text stands for the certificate: with 0 in each number that it doesn't state, and the codes 1 0 0 0 0 0 in each word that it doesn't
pub record Says (bytes : List ℕ) (cert : Cert) : Type 0 where
  pub lawful : text.Lawful (plain_of cert)
  pub spelled : bytes ≡ text.spell (plain_of cert)

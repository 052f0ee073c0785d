-- The chunks of a list are walked in one way: an earlier place begins a chunk that is passed over, and the `fmt ` chunk is one.
use Rattle.std.proofs.Common.{◌≡◌, ◌≢◌, ℕ, ◌+◌, ◌≤◌, ◌<◌, List, ◌++◌, length, take, drop, inl, inr, sym, ap, subst, ◌∙◌, arith, length-append, length-drop, append_assoc}
use Rattle.std.specs.Prelude.{codes}
use Rattle.std.specs.List.{concat}
use Rattle.std.proofs.lemmas.List.{take-append-le, take-append-drop, length-take-le, append_cancel_left}
use Rattle.ac_riff.specs.declared.fault.WavKind.{WavKind}
use Rattle.ac_riff.specs.Form.{name_of, size_of, whole_length, IsChunk, IsPassedBehind, IsOpen, IsFormatted}
use Rattle.ac_riff.specs.Refusal.{IsFaulty}
use Rattle.ac_riff.proofs.Stops.{names_differ}
use Rattle.ac_riff.proofs.Unique.{least_long, front_size, same_chunk, next_chunk, IsPassedAt, open_before}

-- a whole chunk that isn't `data` begins at this place
pub record GoesOn (bytes : List ℕ) (place : ℕ) : Type 0 where
  pub within : place + whole_length (size_of (drop place bytes)) ≤ length bytes
  pub no_data : name_of (drop place bytes) ≢ codes "data"

pub begins_name : (c x l : List ℕ) → IsChunk c → l ≡ c ++ x → name_of l ≡ name_of c
begins_name c x l h e = let long = least_long c h in ap name_of e ∙ take-append-le 4 c x (omega arith)

pub begins_size : (c x l : List ℕ) → IsChunk c → l ≡ c ++ x → size_of l ≡ size_of c
begins_size c x l h e = ap size_of e ∙ front_size c x h

goes_on : (bytes : List ℕ) (place : ℕ) (c x : List ℕ) → IsChunk c → name_of c ≢ codes "data" → drop place bytes ≡ c ++ x → GoesOn bytes place
goes_on bytes place c x h nd e =
    let size : whole_length (size_of (drop place bytes)) ≡ whole_length (size_of c) = ap whole_length (begins_size c x (drop place bytes) h e) in
    let long : length (drop place bytes) ≡ length c + length x = ap length e ∙ length-append c x in
    let least = least_long c h in
    record {
      within = omega (arith, size, h.long, long, length-drop place bytes, least);
      no_data = λ n. nd (sym (begins_name c x (drop place bytes) h e) ∙ n);
    }

-- the first `fmt ` chunk, accepted or not
pub record HasFormat (bytes chunk : List ℕ) (start : ℕ) : Type 0 where
  pub opened : IsOpen bytes start
  pub whole : IsChunk chunk
  pub named : name_of chunk ≡ codes "fmt "
  pub rest : List ℕ
  pub same : drop start bytes ≡ chunk ++ rest

formatted_parts : (bytes chunk : List ℕ) (place : ℕ) (f : IsFormatted bytes chunk place) → drop f.start bytes ≡ chunk ++ (concat f.passed ++ drop place bytes)
formatted_parts bytes chunk place f =
    append_cancel_left (take f.start bytes) (drop f.start bytes) (chunk ++ (concat f.passed ++ drop place bytes)) (take-append-drop f.start bytes
    ∙ (sym (take-append-drop place bytes) ∙ (ap (λ l. l ++ drop place bytes) f.same ∙ (append_assoc (take f.start bytes) (chunk ++ concat f.passed) (drop place bytes)
    ∙ ap (λ l. take f.start bytes ++ l) (append_assoc chunk (concat f.passed) (drop place bytes))))))

pub formatted_has : (bytes chunk : List ℕ) (place : ℕ) (f : IsFormatted bytes chunk place) → HasFormat bytes chunk f.start
formatted_has bytes chunk place f = record { opened = f.opened; whole = f.whole; named = f.named; rest = concat f.passed ++ drop place bytes; same = formatted_parts bytes chunk place f }

pub faulty_has : (bytes : List ℕ) (kind : WavKind) (place : ℕ) (f : IsFaulty bytes kind place) → HasFormat bytes f.chunk f.start
faulty_has bytes kind place f =
    let rest = drop (length f.chunk) (drop f.start bytes) in
    record { opened = f.opened; whole = f.whole; named = f.named; rest = rest; same = sym (take-append-drop (length f.chunk) (drop f.start bytes)) ∙ ap (λ l. l ++ rest) f.same }

pub none_earlier : (bytes chunk : List ℕ) (p q : ℕ) → HasFormat bytes chunk p → IsOpen bytes q → p < q → ⊥
none_earlier bytes chunk p q f o h =
    let a = open_before bytes p q f.opened o h in
    a.passed.no_format (sym (begins_name a.chunk a.rest (drop p bytes) a.passed.whole a.same) ∙ (begins_name chunk f.rest (drop p bytes) f.whole f.same ∙ f.named))

pub one_start : (bytes c d : List ℕ) (p q : ℕ) → HasFormat bytes c p → HasFormat bytes d q → p ≡ q
one_start bytes c d p q f g =
    elim (Rattle.std.proofs.lemmas.Bool.cases_lt p q) [
      | inl h ↦ absurd (none_earlier bytes c p q f g.opened h)
      | inr h ↦ elim (Rattle.std.proofs.lemmas.Bool.cases_lt q p) [
        | inl k ↦ absurd (none_earlier bytes d q p g f.opened k)
        | inr k ↦ omega arith
      ]
    ]

pub one_chunk : (bytes c d : List ℕ) (p q : ℕ) → HasFormat bytes c p → HasFormat bytes d q → c ≡ d
one_chunk bytes c d p q f g = same_chunk c d f.rest g.rest f.whole g.whole (sym f.same ∙ (ap (λ n. drop n bytes) (one_start bytes c d p q f g) ∙ g.same))

pub passed_goes : (bytes : List ℕ) (place : ℕ) → IsPassedAt bytes place → GoesOn bytes place
passed_goes bytes place a = goes_on bytes place a.chunk a.rest a.passed.whole a.passed.no_data a.same

-- where there is a `fmt ` chunk, a chunk that is passed over or that one begins at each open place
pub open_goes : (bytes chunk : List ℕ) (place start : ℕ) → IsOpen bytes place → HasFormat bytes chunk start → GoesOn bytes place
open_goes bytes chunk place start o f =
    elim (Rattle.std.proofs.lemmas.Bool.cases_lt place start) [
      | inl h ↦ passed_goes bytes place (open_before bytes place start o f.opened h)
      | inr h ↦ elim (Rattle.std.proofs.lemmas.Bool.cases_lt start place) [
        | inl k ↦ absurd (none_earlier bytes chunk start place f o k)
        | inr k ↦
            let e : start ≡ place = omega arith in
            subst (λ (p : ℕ). GoesOn bytes p) e (goes_on bytes start chunk f.rest f.whole (λ n. names_differ (sym f.named ∙ n)) f.same)
      ]
    ]

pub formatted_long : (bytes chunk : List ℕ) (place : ℕ) (f : IsFormatted bytes chunk place) → place ≡ f.start + (length chunk + length (concat f.passed))
formatted_long bytes chunk place f =
    let a : length (take place bytes) ≡ place = length-take-le place bytes f.within in
    let b : length (take f.start bytes) ≡ f.start = length-take-le f.start bytes f.opened.within in
    omega (arith, a, b, ap length f.same, length-append (take f.start bytes) (chunk ++ concat f.passed), length-append chunk (concat f.passed))

pub formatted_before : (bytes c d : List ℕ) (p q : ℕ) → IsFormatted bytes c p → IsFormatted bytes d q → p < q → GoesOn bytes p
formatted_before bytes c d p q f g h =
    let has = formatted_has bytes c p f in
    let too = formatted_has bytes d q g in
    let s : f.start ≡ g.start = one_start bytes c d f.start g.start has too in
    let e : c ≡ d = one_chunk bytes c d f.start g.start has too in
    let x = concat f.passed ++ drop p bytes in
    let y = concat g.passed ++ drop q bytes in
    let whole : c ++ x ≡ d ++ y = sym (formatted_parts bytes c p f) ∙ (ap (λ n. drop n bytes) s ∙ formatted_parts bytes d q g) in
    let same : x ≡ y = append_cancel_left d x y (ap (λ l. l ++ x) (sym e) ∙ whole) in
    let long : length (concat f.passed) < length (concat g.passed) = omega (arith, formatted_long bytes c p f, formatted_long bytes d q g, s, ap length e, h) in
    let n = next_chunk IsPassedBehind (λ k i. i.whole) f.passed g.passed (drop p bytes) (drop q bytes) f.behind g.behind same long in
    goes_on bytes p n.0 n.2.0 n.1.whole n.1.no_data n.2.1

-- Every list of bytes begins with a head or is refused: its chunks are walked to the first that can't be passed over.
use Rattle.std.proofs.Common.{◌≡◌, ◌≢◌, ◌⊎◌, ℕ, zero, suc, ◌+◌, ◌≤◌, ◌<◌, Bool, true, false, List, [], ◌∷◌, length, take, drop, Option, None, Some, inl, inr, refl, subst, arith}
use Rattle.std.specs.Prelude.{codes, if◌then◌else◌}
use Rattle.std.specs.Bool.{Decides}
use Rattle.std.specs.Str.{bytes_eq}
use Rattle.std.proofs.lemmas.Bool.{cases_eq, cases_lt}
use Rattle.std.proofs.lemmas.Slice.Eq.{bytes_eq-Decides}
use Rattle.ac_riff.specs.declared.fault.WavKind.{WavKind}
use Rattle.ac_riff.specs.declared.fault.WavKind.TheVariants.{Short, NotRiff, NoFmt, NoData}
use Rattle.ac_riff.specs.declared.format.Format.{Format}
use Rattle.ac_riff.specs.declared.format.Fault.{Fault}
use Rattle.ac_riff.specs.declared.head.WavHead.{WavHead}
use Rattle.ac_riff.specs.Format.{Test, first_failing, first_fault, common_tests, extension_tests, is_extensible, format_of, fault_of, IsOfField}
use Rattle.ac_riff.specs.Form.{name_of, size_of, whole_length, body_of, IsOpen, IsFormatted, IsHead, head_of}
use Rattle.ac_riff.specs.Refusal.{Refuses}
use Rattle.ac_riff.specs.Pieces.{chunk_at}
use Rattle.ac_riff.proofs.Chunks.{open_first, open_more, formatted_first, formatted_more}
use Rattle.ac_riff.proofs.Stops.{faulty, refused}
use Rattle.ac_riff.proofs.Ways.{GoesOn}
use Rattle.ac_riff.proofs.Endings.{IsEnd}

-- ---- a fault of a format is one of a field

abbrev AllOfField : List Test → Type 0
AllOfField [] = Unit {0}
AllOfField (t ∷ ts) = IsOfField t.kind × AllOfField ts

chosen : (b : Bool) (x : Option Fault) (own fault : Fault) → ◌≡◌ {A = Option Fault} (if b then x else Some own) (Some fault) → (x ≡ Some fault) ⊎ (own ≡ fault)
chosen true x own fault e = inl e
chosen false x own fault e = inr (cc)

failing_field : (ts : List Test) (fault : Fault) → AllOfField ts → first_failing ts ≡ Some fault → IsOfField fault.kind
failing_field [] fault a e = absurd (cc)
failing_field (t ∷ ts) fault a e =
    elim (chosen t.holds (first_failing ts) (record { kind = t.kind; place = t.place }) fault e) [
      | inl h ↦ failing_field ts fault a.1 h
      | inr h ↦ subst (λ (f : Fault). IsOfField f.kind) h a.0
    ]

of_either : (a b : Option Fault) (fault : Fault) → first_fault a b ≡ Some fault → (a ≡ Some fault) ⊎ (b ≡ Some fault)
of_either None b fault e = inr e
of_either (Some own) b fault e = inl e

of_extension : (b : Bool) (x : Option Fault) (fault : Fault) → ◌≡◌ {A = Option Fault} (if b then x else None) (Some fault) → x ≡ Some fault
of_extension true x fault e = e
of_extension false x fault e = absurd (cc)

common_fields : (f : Format) → AllOfField (common_tests f)
common_fields f = (tt, (tt, (tt, (tt, (tt, (tt, (tt, tt)))))))

extension_fields : (f : Format) → AllOfField (extension_tests f)
extension_fields f = (tt, (tt, (tt, (tt, tt))))

fault_field : (f : Format) (fault : Fault) → fault_of f ≡ Some fault → IsOfField fault.kind
fault_field f fault e =
    elim (of_either (first_failing (common_tests f)) (if is_extensible f then first_failing (extension_tests f) else None) fault e) [
      | inl h ↦ failing_field (common_tests f) fault (common_fields f) h
      | inr h ↦ failing_field (extension_tests f) fault (extension_fields f) (of_extension (is_extensible f) (first_failing (extension_tests f)) fault h)
    ]

-- ---- what stands at a place

known_by : (P : Type 0) (test : Bool) → Decides test P → P ⊎ (P → ⊥)
known_by P true d = inl (d.0 refl)
known_by P false d = inr (λ p. let e = d.1 p in cc)

name_known : (l name : List ℕ) → (l ≡ name) ⊎ (l ≡ name → ⊥)
name_known l name = known_by (l ≡ name) (bytes_eq l name) (bytes_eq-Decides l name)

whole_stands : (bytes : List ℕ) (place : ℕ) → place < length bytes → place + 8 ≤ length bytes → name_of (drop place bytes) ≢ codes "data" → IsEnd bytes place ⊎ GoesOn bytes place
whole_stands bytes place more long nd =
    elim (cases_lt (length bytes) (place + whole_length (size_of (drop place bytes)))) [
      | inl cut ↦ inl (inr (inl (more, inr (long, nd, cut))))
      | inr within ↦ inr (record { within = within; no_data = nd })
    ]

long_stands : (bytes : List ℕ) (place : ℕ) → place + 8 ≤ length bytes → IsEnd bytes place ⊎ GoesOn bytes place
long_stands bytes place long =
    elim (name_known (name_of (drop place bytes)) (codes "data")) [
      | inl named ↦ inl (inl (record { long = long; named = named }))
      | inr nd ↦ whole_stands bytes place (omega arith) long nd
    ]

stands : (bytes : List ℕ) (place : ℕ) → place ≤ length bytes → IsEnd bytes place ⊎ GoesOn bytes place
stands bytes place h =
    elim (cases_lt (length bytes) (place + 8)) [
      | inl short ↦ elim (cases_eq place (length bytes)) [
        | inl e ↦ inl (inr (inr e))
        | inr ne ↦ inl (inr (inl (omega arith, inl short)))
      ]
      | inr long ↦ long_stands bytes place long
    ]

-- ---- the walk

abbrev IsTold : List ℕ → Type 0
IsTold bytes = ((head : WavHead) × IsHead bytes head) ⊎ ((kind : WavKind) × (place : ℕ) × Refuses bytes kind place)

ended_behind : (bytes chunk : List ℕ) (place : ℕ) → IsFormatted bytes chunk place → IsEnd bytes place → IsTold bytes
ended_behind bytes chunk place f (inl d) =
    inl (head_of (format_of (body_of chunk)) (size_of (drop place bytes)) (place + 8), record { chunk = chunk; place = place; formatted = f; at = d; says = refl })
ended_behind bytes chunk place f (inr (inl c)) = inr (Short, length bytes, (refl, inr (place, inr (chunk, f), c)))
ended_behind bytes chunk place f (inr (inr e)) = inr (NoData, place, (e, inr (chunk, f)))

ended_open : (bytes : List ℕ) (place : ℕ) → IsOpen bytes place → IsEnd bytes place → IsTold bytes
ended_open bytes place o (inl d) = inr (NoFmt, place, (o, d))
ended_open bytes place o (inr (inl c)) = inr (Short, length bytes, (refl, inr (place, inl o, c)))
ended_open bytes place o (inr (inr e)) = inr (NoData, place, (e, inl o))

behind : (n : ℕ) (bytes chunk : List ℕ) (place : ℕ) → IsFormatted bytes chunk place → length bytes ≤ place + n → IsTold bytes
behind zero bytes chunk place f h = let within = f.within in ended_behind bytes chunk place f (inr (inr (omega arith)))
behind (suc n) bytes chunk place f h =
    elim (stands bytes place f.within) [
      | inl e ↦ ended_behind bytes chunk place f e
      | inr g ↦ behind n bytes chunk (place + whole_length (size_of (drop place bytes))) (formatted_more bytes chunk place f g.no_data g.within) (omega arith)
    ]

at_format : (bytes : List ℕ) (place : ℕ) (first : Option Fault) → IsOpen bytes place → name_of (drop place bytes) ≡ codes "fmt " → place + whole_length (size_of (drop place bytes)) ≤ length bytes
    → fault_of (format_of (body_of (chunk_at place bytes))) ≡ first → IsTold bytes
at_format bytes place None o named within e =
    behind (length bytes) bytes (chunk_at place bytes) (place + whole_length (size_of (drop place bytes))) (formatted_first bytes place o named within e) (omega arith)
at_format bytes place (Some fault) o named within e =
    let k = fault_field (format_of (body_of (chunk_at place bytes))) fault e in
    inr (fault.kind, place + fault.place, refused bytes fault.kind (place + fault.place) k (faulty bytes place fault o named within e))

before : (n : ℕ) (bytes : List ℕ) (place : ℕ) → IsOpen bytes place → length bytes ≤ place + n → IsTold bytes
before zero bytes place o h = let within = o.within in ended_open bytes place o (inr (inr (omega arith)))
before (suc n) bytes place o h =
    elim (stands bytes place o.within) [
      | inl e ↦ ended_open bytes place o e
      | inr g ↦ elim (name_known (name_of (drop place bytes)) (codes "fmt ")) [
        | inl named ↦ at_format bytes place (fault_of (format_of (body_of (chunk_at place bytes)))) o named g.within refl
        | inr nf ↦ before n bytes (place + whole_length (size_of (drop place bytes))) (open_more bytes place o nf g.no_data g.within) (omega arith)
      ]
    ]

pub each : (bytes : List ℕ) → ((head : WavHead) × IsHead bytes head) ⊎ ((kind : WavKind) × (place : ℕ) × Refuses bytes kind place)
each bytes =
    elim (cases_lt (length bytes) 12) [
      | inl short ↦ inr (Short, length bytes, (refl, inl short))
      | inr long ↦ elim (name_known (take 4 bytes) (codes "RIFF")) [
        | inl riff ↦ elim (name_known (take 4 (drop 8 bytes)) (codes "WAVE")) [
          | inl wave ↦ before (length bytes) bytes 12 (open_first bytes (record { long = long; riff = riff; wave = wave })) (omega arith)
          | inr no_wave ↦ inr (NotRiff, 8, (long, inr (refl, riff, no_wave)))
        ]
        | inr no_riff ↦ inr (NotRiff, 0, (long, inl (refl, no_riff)))
      ]
    ]

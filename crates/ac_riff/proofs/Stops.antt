-- From what a piece tells to the refusal of the list.
use Rattle.std.proofs.Common.{◌≡◌, ◌≢◌, ℕ, ◌+◌, ◌-◌, ◌≤◌, ◌<◌, List, length, take, drop, Option, Some, None, refl, sym, subst, ap, ◌∙◌, arith, inl, inr, get_or}
use Rattle.std.specs.Prelude.{codes}
use Rattle.std.proofs.lemmas.List.{take_all, take-take}
use Rattle.ac_riff.specs.declared.fault.WavKind.{WavKind}
use Rattle.ac_riff.specs.declared.fault.WavKind.TheVariants.{Short, NotRiff, NoFmt, NoData, BadFmt, Unsupported}
use Rattle.ac_riff.specs.declared.fault.WavFault.{WavFault}
use Rattle.ac_riff.specs.declared.fault.WavFault.TheVariants.{Bad, ReadFault, TooLong}
use Rattle.ac_riff.specs.declared.format.Fault.{Fault}
use Rattle.ac_riff.specs.declared.format.Format.{Format}
use Rattle.ac_riff.specs.declared.head.Found.{Found}
use Rattle.ac_riff.specs.declared.head.Samples.{Samples}
use Rattle.ac_riff.specs.declared.head.WavHead.{WavHead}
use Rattle.ac_riff.specs.declared.chunk.Name.{Name}
use Rattle.ac_riff.specs.declared.chunk.Name.TheVariants as names
use Rattle.ac_riff.specs.Format.{format_of, fault_of, IsOfField}
use Rattle.ac_riff.specs.Form.{name_of, size_of, padded, whole_length, body_of, IsRiff, IsOpen, IsFormatted, head_of}
use Rattle.ac_riff.specs.Refusal.{Reaches, IsNoRiff, IsFaulty, Refuses, IsTooLong, IsStopped, HeadRead}
use Rattle.ac_io.specs.Within.{IsAt, ReadsOn}
use Rattle.ac_riff.specs.Pieces.{NameIs, IsUntaken, IsNoChunk, chunk_at, FormatRead, IsFound, DataFound}
use Rattle.ac_riff.proofs.Chunks.{from_cut, name_cut, size_cut, length_cut, within_cut, open_cut, reaches_cut, chunk_whole, chunk_long, chunk_name, formatted_first, open_more, formatted_more}

-- a list that is no longer than the limit is its own front
whole_front : (bytes : List ℕ) (limit : ℕ) (kind : WavKind) (place : ℕ) → length bytes ≤ limit → Refuses bytes kind place → IsStopped bytes limit (Bad kind place)
whole_front bytes limit kind place h r = (r, subst (λ (l : List ℕ). Refuses l kind place) (sym (take_all limit bytes h)) r)

-- the list cut at the limit ends inside a chunk's head, or where one can begin
cut_head : (bytes : List ℕ) (place limit : ℕ) → Reaches bytes place → place ≤ limit → limit < length bytes → limit < place + 8 → IsTooLong bytes limit
cut_head bytes place limit r below more short =
    let long : length (take limit bytes) ≡ limit = length_cut bytes limit (omega arith) in
    let there = reaches_cut bytes place limit below r in
    elim (Rattle.std.proofs.lemmas.Bool.cases_lt place limit) [
      | inl h ↦ (more, inl (sym long, inr (place, there, (omega (arith, long), inl (omega (arith, long))))))
      | inr h ↦
          let e : place ≡ limit = omega arith in
          (more, inr (sym long, subst (λ (p : ℕ). Reaches (take limit bytes) p) e there))
    ]

pub no_chunk_stops : (bytes : List ℕ) (place limit : ℕ) (fault : WavFault) → Reaches bytes place → place ≤ limit → place ≤ length bytes → IsNoChunk bytes place limit fault → IsStopped bytes limit fault
no_chunk_stops bytes place limit (Bad Short at) r below within n =
    whole_front bytes limit Short at n.3 (n.0, inr (place, r, (n.1, inl n.2)))
no_chunk_stops bytes place limit (Bad NotRiff at) r below within n = absurd n
no_chunk_stops bytes place limit (Bad NoFmt at) r below within n = absurd n
no_chunk_stops bytes place limit (Bad NoData at) r below within n =
    whole_front bytes limit NoData at (omega (arith, n.1)) (n.0, subst (λ (p : ℕ). Reaches bytes p) (n.1 ∙ sym n.0) r)
no_chunk_stops bytes place limit (Bad (BadFmt field) at) r below within n = absurd n
no_chunk_stops bytes place limit (Bad (Unsupported field value) at) r below within n = absurd n
no_chunk_stops bytes place limit ReadFault r below within n = tt
no_chunk_stops bytes place limit TooLong r below within n = cut_head bytes place limit r below n.0 n.1

-- a chunk that isn't `data` wasn't read to its end
pub cut_stops : (bytes : List ℕ) (place limit : ℕ) (fault : WavFault) → Reaches bytes place → place + 8 ≤ limit → place + 8 ≤ length bytes → name_of (drop place bytes) ≢ codes "data"
    → IsUntaken bytes (place + 8) (padded (size_of (drop place bytes))) limit fault → IsStopped bytes limit fault
cut_stops bytes place limit (Bad Short at) r below within nd u =
    whole_front bytes limit Short at u.2 (u.0, inr (place, r, (omega arith, inr (within, nd, omega (arith, u.1)))))
cut_stops bytes place limit (Bad NotRiff at) r below within nd u = absurd u
cut_stops bytes place limit (Bad NoFmt at) r below within nd u = absurd u
cut_stops bytes place limit (Bad NoData at) r below within nd u = absurd u
cut_stops bytes place limit (Bad (BadFmt field) at) r below within nd u = absurd u
cut_stops bytes place limit (Bad (Unsupported field value) at) r below within nd u = absurd u
cut_stops bytes place limit ReadFault r below within nd u = tt
cut_stops bytes place limit TooLong r below within nd u =
    let long : length (take limit bytes) ≡ limit = length_cut bytes limit (omega (arith, u.0)) in
    let size = size_cut bytes place limit below in (
      u.0,
      inl (
        sym long,
        inr (
          place,
          reaches_cut bytes place limit (omega arith) r,
          (omega (arith, long), inr (omega (arith, long), (λ e. nd (sym (name_cut bytes place limit below) ∙ e)), omega (arith, long, u.1, ap padded size))),
        ),
      ),
    )

pub no_format_stops : (bytes : List ℕ) (place limit : ℕ) → IsOpen bytes place → place + 8 ≤ limit → place + 8 ≤ length bytes → name_of (drop place bytes) ≡ codes "data" → IsStopped bytes limit (Bad NoFmt place)
no_format_stops bytes place limit o below within named = (
  (o, record { long = within; named = named }),
  (open_cut bytes place limit (omega arith) o, record { long = within_cut bytes (place + 8) limit within below; named = name_cut bytes place limit below ∙ named }),
)

pub faulty : (bytes : List ℕ) (start : ℕ) (fault : Fault) → IsOpen bytes start → name_of (drop start bytes) ≡ codes "fmt " → start + whole_length (size_of (drop start bytes)) ≤ length bytes
    → fault_of (format_of (body_of (chunk_at start bytes))) ≡ Some fault → IsFaulty bytes fault.kind (start + fault.place)
faulty bytes start fault o named within first =
    let long = chunk_long bytes start within in
    record {
      start = start;
      opened = o;
      chunk = chunk_at start bytes;
      whole = chunk_whole bytes start within;
      named = chunk_name bytes start ∙ named;
      within = omega (arith, long);
      same = ap (λ n. take n (drop start bytes)) long;
      fault = fault;
      first = first;
      kind_is = refl;
      place_is = refl;
    }

faulty_cut : (bytes : List ℕ) (limit : ℕ) (kind : WavKind) (place : ℕ) (f : IsFaulty bytes kind place) → f.start + length f.chunk ≤ limit → IsFaulty (take limit bytes) kind place
faulty_cut bytes limit kind place f h = record {
  start = f.start;
  opened = open_cut bytes f.start limit (omega arith) f.opened;
  chunk = f.chunk;
  whole = f.whole;
  named = f.named;
  within = within_cut bytes (f.start + length f.chunk) limit f.within h;
  same = ap (take (length f.chunk)) (from_cut bytes f.start limit (omega arith)) ∙ (take-take (length f.chunk) (limit - f.start) (drop f.start bytes) (omega arith) ∙ f.same);
  fault = f.fault;
  first = f.first;
  kind_is = f.kind_is;
  place_is = f.place_is;
}

pub refused : (bytes : List ℕ) (kind : WavKind) (place : ℕ) → IsOfField kind → IsFaulty bytes kind place → Refuses bytes kind place
refused bytes Short place k f = absurd k
refused bytes NotRiff place k f = absurd k
refused bytes NoFmt place k f = absurd k
refused bytes NoData place k f = absurd k
refused bytes (BadFmt field) place k f = f
refused bytes (Unsupported field value) place k f = f

-- the `fmt ` chunk was read, and a test of it fails
pub faulty_stops : (bytes : List ℕ) (place limit size : ℕ) (format : Format) (fault : Fault) (left : Option (List ℕ)) → IsOpen bytes place → name_of (drop place bytes) ≡ codes "fmt " → size ≡ size_of (drop place bytes)
    → FormatRead bytes place format left → place + whole_length size ≤ limit → Some fault ≡ fault_of format → IsOfField fault.kind → IsStopped bytes limit (Bad fault.kind (place + fault.place))
unfolding faulty
faulty_stops bytes place limit size format fault left o named e r below first k =
    let first' : fault_of (format_of (body_of (chunk_at place bytes))) ≡ Some fault = ap fault_of (sym r.says) ∙ sym first in
    let f = faulty bytes place fault o named r.at.within first' in
    let long : length (chunk_at place bytes) ≡ whole_length (size_of (drop place bytes)) = chunk_long bytes place r.at.within in
    let room : place + length (chunk_at place bytes) ≤ limit = omega (arith, long, below, ap whole_length e) in (
      refused bytes fault.kind (place + fault.place) k f,
      refused (take limit bytes) fault.kind (place + fault.place) k (faulty_cut bytes limit fault.kind (place + fault.place) f room),
    )

-- the `fmt ` chunk was read, and all its tests hold
pub found : (bytes : List ℕ) (place size end : ℕ) (format : Format) (left : Option (List ℕ)) → IsOpen bytes place → name_of (drop place bytes) ≡ codes "fmt " → size ≡ size_of (drop place bytes)
    → FormatRead bytes place format left → fault_of format ≡ None → end ≡ place + whole_length size → IsFound bytes (record { format = format; end = end }) left
found bytes place size end format left o named e r fine at =
    let same : end ≡ place + whole_length (size_of (drop place bytes)) = at ∙ ap (λ s. place + whole_length s) e in
    record {
      chunk = chunk_at place bytes;
      formatted = subst (λ (p : ℕ). IsFormatted bytes (chunk_at place bytes) p) (sym same) (formatted_first bytes place o named r.at.within (ap fault_of (sym r.says) ∙ fine));
      says = r.says;
      at = subst (λ (p : ℕ). IsAt bytes p left) (sym same) r.at;
    }

-- a chunk of this size that isn't `data` wasn't read to its end
pub sized_stops : (bytes : List ℕ) (place limit size : ℕ) (fault : WavFault) → Reaches bytes place → place + 8 ≤ limit → place + 8 ≤ length bytes → name_of (drop place bytes) ≢ codes "data" → size ≡ size_of (drop place bytes)
    → IsUntaken bytes (place + 8) (padded size) limit fault → IsStopped bytes limit fault
sized_stops bytes place limit size fault r below within nd e u =
    cut_stops bytes place limit fault r below within nd (subst (λ (s : ℕ). IsUntaken bytes (place + 8) (padded s) limit fault) e u)

-- ---- the 12-byte head

-- the 12-byte head wasn't read to its end
pub untaken_riff_stops : (bytes : List ℕ) (limit : ℕ) (fault : WavFault) → IsUntaken bytes 0 12 limit fault → IsStopped bytes limit fault
untaken_riff_stops bytes limit (Bad Short at) u = whole_front bytes limit Short at u.2 (u.0, inl (omega (arith, u.1)))
untaken_riff_stops bytes limit (Bad NotRiff at) u = absurd u
untaken_riff_stops bytes limit (Bad NoFmt at) u = absurd u
untaken_riff_stops bytes limit (Bad NoData at) u = absurd u
untaken_riff_stops bytes limit (Bad (BadFmt field) at) u = absurd u
untaken_riff_stops bytes limit (Bad (Unsupported field value) at) u = absurd u
untaken_riff_stops bytes limit ReadFault u = tt
untaken_riff_stops bytes limit TooLong u =
    let long : length (take limit bytes) ≡ limit = length_cut bytes limit (omega (arith, u.0)) in
    (u.0, inl (sym long, inl (omega (arith, long, u.1))))

riff_front : (bytes riff : List ℕ) (left : Option (List ℕ)) → ReadsOn bytes 0 12 riff left → length riff ≡ 12 → riff ≡ take 12 bytes
riff_front bytes riff left r long = sym (take_all 12 riff (omega arith)) ∙ r.front

front_riff : (bytes riff : List ℕ) → riff ≡ take 12 bytes → take 4 bytes ≡ take 4 riff
front_riff bytes riff e = sym (ap (take 4) e ∙ take-take 4 12 bytes (omega arith))

front_wave : (bytes riff : List ℕ) → riff ≡ take 12 bytes → take 4 (drop 8 bytes) ≡ take 4 (drop 8 riff)
front_wave bytes riff e = sym (ap (λ l. take 4 (drop 8 l)) e ∙ (ap (take 4) (from_cut bytes 8 12 (omega arith)) ∙ take-take 4 4 (drop 8 bytes) (omega arith)))

pub riff_read : (bytes riff : List ℕ) (left : Option (List ℕ)) → ReadsOn bytes 0 12 riff left → length riff ≡ 12 → take 4 riff ≡ codes "RIFF" → take 4 (drop 8 riff) ≡ codes "WAVE"
    → IsRiff bytes × IsAt bytes 12 left
riff_read bytes riff left r long a b =
    let e = riff_front bytes riff left r long in
    (record { long = r.at.within; riff = front_riff bytes riff e ∙ a; wave = front_wave bytes riff e ∙ b }, r.at)

pub no_riff : (bytes riff : List ℕ) (place : ℕ) → take 4 bytes ≡ take 4 riff → take 4 (drop 8 bytes) ≡ take 4 (drop 8 riff) → IsNoRiff riff place → IsNoRiff bytes place
no_riff bytes riff place a b (inl h) = inl (h.0, λ e. h.1 (sym a ∙ e))
no_riff bytes riff place a b (inr h) = inr (h.0, a ∙ h.1, λ e. h.2 (sym b ∙ e))

pub no_riff_stops : (bytes riff : List ℕ) (limit place : ℕ) (left : Option (List ℕ)) → ReadsOn bytes 0 12 riff left → length riff ≡ 12 → 12 ≤ limit → IsNoRiff riff place → IsStopped bytes limit (Bad NotRiff place)
no_riff_stops bytes riff limit place left r long below n =
    let e = riff_front bytes riff left r long in
    let e' : riff ≡ take 12 (take limit bytes) = e ∙ sym (take-take 12 limit bytes below) in (
      (r.at.within, no_riff bytes riff place (front_riff bytes riff e) (front_wave bytes riff e) n),
      (within_cut bytes 12 limit r.at.within below, no_riff (take limit bytes) riff place (front_riff (take limit bytes) riff e') (front_wave (take limit bytes) riff e') n),
    )

-- ---- from one chunk to the next

pub names_differ : codes "fmt " ≡ codes "data" → ⊥
names_differ e = let h : ◌≡◌ {A = ℕ} 102 100 = ap (λ (l : List ℕ). get_or l 0 0) e in absurd (omega (arith, h))

pub no_data : (n : Name) (l : List ℕ) → NameIs n l → (n ≡ names.Samples → ⊥) → l ≢ codes "data"
no_data names.Format l h k = λ e. names_differ (sym h ∙ e)
no_data names.Samples l h k = absurd (k refl)
no_data names.Other l h k = h.1

pub open_next : (bytes : List ℕ) (place next size : ℕ) (left : Option (List ℕ)) → IsOpen bytes place → name_of (drop place bytes) ≢ codes "fmt " → name_of (drop place bytes) ≢ codes "data"
    → size ≡ size_of (drop place bytes) → next ≡ place + whole_length size → IsAt bytes next left → IsOpen bytes next
open_next bytes place next size left o nf nd e v at =
    let same : next ≡ place + whole_length (size_of (drop place bytes)) = v ∙ ap (λ s. place + whole_length s) e in
    let within : place + whole_length (size_of (drop place bytes)) ≤ length bytes = subst (λ (p : ℕ). p ≤ length bytes) same at.within in
    subst (λ (p : ℕ). IsOpen bytes p) (sym same) (open_more bytes place o nf nd within)

pub formatted_next : (bytes chunk : List ℕ) (place next size : ℕ) (left : Option (List ℕ)) → IsFormatted bytes chunk place → name_of (drop place bytes) ≢ codes "data"
    → size ≡ size_of (drop place bytes) → next ≡ place + whole_length size → IsAt bytes next left → IsFormatted bytes chunk next
formatted_next bytes chunk place next size left f nd e v at =
    let same : next ≡ place + whole_length (size_of (drop place bytes)) = v ∙ ap (λ s. place + whole_length s) e in
    let within : place + whole_length (size_of (drop place bytes)) ≤ length bytes = subst (λ (p : ℕ). p ≤ length bytes) same at.within in
    subst (λ (p : ℕ). IsFormatted bytes chunk p) (sym same) (formatted_more bytes chunk place f nd within)

-- the head as a whole
pub head_read : (bytes : List ℕ) (limit : ℕ) (found : Found) (samples : Samples) (mid left : Option (List ℕ)) (head : WavHead) (f : IsFound bytes found mid)
    → DataFound bytes f.chunk samples left → samples.place ≤ limit → head ≡ head_of found.format samples.size samples.place → HeadRead bytes limit head left
head_read bytes limit found samples mid left head f d below says =
    let taken : head.taken ≡ samples.place = ap (λ (h : WavHead). h.taken) says in
    record {
      is = record {
        chunk = f.chunk;
        place = d.place;
        formatted = d.formatted;
        at = record { long = omega (arith, d.at.within, d.place_is); named = d.named };
        says = says ∙ (ap (λ g. head_of g samples.size samples.place) f.says
            ∙ (ap (λ s. head_of (format_of (body_of f.chunk)) s samples.place) d.size_is ∙ ap (λ p. head_of (format_of (body_of f.chunk)) (size_of (drop d.place bytes)) p) d.place_is));
      };
      within = omega (arith, taken, below);
      left_is = d.at.left_is ∙ ap (λ p. Some (drop p bytes)) (sym taken);
    }

-- What the first bytes of a list tell of its head and of its refusal.
use Rattle.std.proofs.Common.{◌≡◌, ◌⊎◌, ℕ, ◌+◌, ◌-◌, ◌≤◌, List, ◌++◌, length, take, drop, inl, inr, sym, ap, subst, ◌∙◌, arith, length-take}
use Rattle.std.specs.List.{concat}
use Rattle.std.proofs.lemmas.List.{take-take}
use Rattle.ac_riff.specs.declared.fault.WavKind.{WavKind}
use Rattle.ac_riff.specs.declared.fault.WavKind.TheVariants.{Short, NotRiff, NoFmt, NoData, BadFmt, Unsupported}
use Rattle.ac_riff.specs.declared.head.WavHead.{WavHead}
use Rattle.ac_riff.specs.Format.{format_of}
use Rattle.ac_riff.specs.Form.{body_of, IsRiff, IsOpen, IsFormatted, IsDataAt, IsHead, head_of}
use Rattle.ac_riff.specs.Refusal.{Reaches, IsNoRiff, IsFaulty, Refuses}
use Rattle.ac_riff.proofs.Chunks.{from_cut, name_cut, size_cut, length_cut, within_cut, open_least, start_least, formatted_cut}
use Rattle.ac_riff.proofs.Stops.{no_riff}

-- ---- a head in the first bytes, and in the whole list

pub head_place : (bytes : List ℕ) (head : WavHead) (h : IsHead bytes head) → head.taken ≡ h.place + 8
head_place bytes head h = ap (λ (x : WavHead). x.taken) h.says

pub taken_within : (bytes : List ℕ) (head : WavHead) → IsHead bytes head → head.taken ≤ length bytes
taken_within bytes head h = omega (arith, head_place bytes head h, h.at.long)

pub head_cut : (bytes : List ℕ) (head : WavHead) (limit : ℕ) → IsHead bytes head → head.taken ≤ limit → IsHead (take limit bytes) head
head_cut bytes head limit h k =
    let below : h.place + 8 ≤ limit = omega (arith, head_place bytes head h, k) in
    record {
      chunk = h.chunk;
      place = h.place;
      formatted = formatted_cut bytes h.chunk h.place limit (omega (arith, below)) h.formatted;
      at = record { long = within_cut bytes (h.place + 8) limit h.at.long below; named = name_cut bytes h.place limit below ∙ h.at.named };
      says = h.says ∙ ap (λ s. head_of (format_of (body_of h.chunk)) s (h.place + 8)) (sym (size_cut bytes h.place limit below));
    }

-- a place in the first bytes
pub back_below : (bytes : List ℕ) (place limit : ℕ) → place ≤ length (take limit bytes) → (place ≤ limit) × (place ≤ length bytes)
back_below bytes place limit h = (omega (arith, h, length-take limit bytes), omega (arith, h, length-take limit bytes))

riff_back : (bytes : List ℕ) (limit : ℕ) → IsRiff (take limit bytes) → IsRiff bytes
riff_back bytes limit r =
    let b = back_below bytes 12 limit r.long in
    record {
      long = b.1;
      riff = sym (take-take 4 limit bytes (omega (arith, b.0))) ∙ r.riff;
      wave = sym (ap (take 4) (from_cut bytes 8 limit (omega (arith, b.0))) ∙ take-take 4 (limit - 8) (drop 8 bytes) (omega (arith, b.0))) ∙ r.wave;
    }

pub open_back : (bytes : List ℕ) (place limit : ℕ) → IsOpen (take limit bytes) place → IsOpen bytes place
open_back bytes place limit o =
    let b = back_below bytes place limit o.within in
    let least = open_least (take limit bytes) place o in
    record {
      riff = riff_back bytes limit o.riff;
      passed = o.passed;
      before = o.before;
      same = sym (take-take place limit bytes b.0) ∙ (o.same ∙ ap (λ l. l ++ concat o.passed) (take-take 12 limit bytes (omega (arith, least, b.0))));
      within = b.1;
    }

pub formatted_back : (bytes chunk : List ℕ) (place limit : ℕ) → IsFormatted (take limit bytes) chunk place → IsFormatted bytes chunk place
formatted_back bytes chunk place limit f =
    let b = back_below bytes place limit f.within in
    let least = start_least (take limit bytes) chunk place f in
    record {
      start = f.start;
      opened = open_back bytes f.start limit f.opened;
      whole = f.whole;
      named = f.named;
      accepted = f.accepted;
      passed = f.passed;
      behind = f.behind;
      same = sym (take-take place limit bytes b.0) ∙ (f.same ∙ ap (λ l. l ++ (chunk ++ concat f.passed)) (take-take f.start limit bytes (omega (arith, least, b.0))));
      within = b.1;
    }

data_back : (bytes : List ℕ) (place limit : ℕ) → IsDataAt (take limit bytes) place → IsDataAt bytes place
data_back bytes place limit d =
    let b = back_below bytes (place + 8) limit d.long in
    record { long = b.1; named = sym (name_cut bytes place limit b.0) ∙ d.named }

pub head_back : (bytes : List ℕ) (head : WavHead) (limit : ℕ) → IsHead (take limit bytes) head → IsHead bytes head
head_back bytes head limit h =
    let b = back_below bytes (h.place + 8) limit h.at.long in
    record {
      chunk = h.chunk;
      place = h.place;
      formatted = formatted_back bytes h.chunk h.place limit h.formatted;
      at = data_back bytes h.place limit h.at;
      says = h.says ∙ ap (λ s. head_of (format_of (body_of h.chunk)) s (h.place + 8)) (size_cut bytes h.place limit b.0);
    }

-- ---- a refusal of the first bytes

faulty_back : (bytes : List ℕ) (limit : ℕ) (kind : WavKind) (place : ℕ) → IsFaulty (take limit bytes) kind place → IsFaulty bytes kind place
faulty_back bytes limit kind place f =
    let b = back_below bytes (f.start + length f.chunk) limit f.within in
    record {
      start = f.start;
      opened = open_back bytes f.start limit f.opened;
      chunk = f.chunk;
      whole = f.whole;
      named = f.named;
      within = b.1;
      same = sym (ap (take (length f.chunk)) (from_cut bytes f.start limit (omega (arith, b.0))) ∙ take-take (length f.chunk) (limit - f.start) (drop f.start bytes) (omega (arith, b.0))) ∙ f.same;
      fault = f.fault;
      first = f.first;
      kind_is = f.kind_is;
      place_is = f.place_is;
    }

no_riff_back : (bytes : List ℕ) (limit place : ℕ) → 12 ≤ limit → IsNoRiff (take limit bytes) place → IsNoRiff bytes place
no_riff_back bytes limit place h n =
    no_riff bytes (take limit bytes) place (sym (take-take 4 limit bytes (omega (arith, h))))
    (sym (ap (take 4) (from_cut bytes 8 limit (omega (arith, h))) ∙ take-take 4 (limit - 8) (drop 8 bytes) (omega (arith, h)))) n

-- the first bytes end too early
abbrev pub IsEarlyEnd : List ℕ → ℕ → Type 0
IsEarlyEnd bytes limit = Refuses (take limit bytes) Short limit ⊎ Refuses (take limit bytes) NoData limit

-- what the first bytes are refused for the whole list is refused for, but for too early an end
pub refused_back : (bytes : List ℕ) (limit : ℕ) (kind : WavKind) (place : ℕ) → limit ≤ length bytes → Refuses (take limit bytes) kind place → Refuses bytes kind place ⊎ IsEarlyEnd bytes limit
refused_back bytes limit Short place h r = inr (inl (sym (length_cut bytes limit h), r.1))
refused_back bytes limit NotRiff place h r = let b = back_below bytes 12 limit r.0 in inl (b.1, no_riff_back bytes limit place b.0 r.1)
refused_back bytes limit NoFmt place h r = inl (open_back bytes place limit r.0, data_back bytes place limit r.1)
refused_back bytes limit NoData place h r =
    let long = length_cut bytes limit h in
    inr (inr (sym long, subst (λ (p : ℕ). Reaches (take limit bytes) p) (r.0 ∙ long) r.1))
refused_back bytes limit (BadFmt field) place h r = inl (faulty_back bytes limit (BadFmt field) place r)
refused_back bytes limit (Unsupported field value) place h r = inl (faulty_back bytes limit (Unsupported field value) place r)

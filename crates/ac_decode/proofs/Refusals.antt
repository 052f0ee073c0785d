-- A refusal depends on the bytes that are looked at alone; a frame isn't refused, and no bytes are refused in two ways.
use Rattle.std.proofs.Common.{◌≡◌, inl, inr, ℕ, ◌^◌, ◌<◌, ◌≤◌, List, length, take, Option, None, Some, refl, ap, sym, subst, ◌∙◌, arith}
use Rattle.std.specs.Option.{ForSome}
use Rattle.std.proofs.lemmas.List.{length-take, get_or-take}
use Rattle.ac_codec.specs.declared.refused.Row.{Row}
use Rattle.ac_rows.specs.declared.head.Head.{Head}
use Rattle.ac_record.specs.declared.codes.FrameFault.{FrameFault}
use Rattle.ac_record.specs.declared.codes.FrameFault.TheVariants.{Changed}
use Rattle.ac_record.specs.Faults.{IsFault}
use Rattle.ac_record.specs.Laws.{AreBytes}
use Rattle.ac_record.specs.Readings.{IsReading}
use Rattle.ac_record.proofs.Whole.{frames_have_no_fault, one_fault}
use Rattle.ac_reading.specs.Framed.{Reading}
use Rattle.ac_dec.specs.declared.kind.Kind.{Kind}
use Rattle.ac_dec.specs.Decoding.{Decoding, kind_of, IsFirstChange, IsChange, IsRefusal}
use Rattle.ac_decode.specs.Stream.{size_of, needed, looked_at}
use Rattle.ac_decode.proofs.Sizes.{SixFit}
use Rattle.ac_decode.proofs.Readings.{begun, one_head, read_taken, read_from, reading_needs}
use Rattle.ac_decode.proofs.Faults.{same_looked}

-- the bytes that are looked at are bytes
abbrev pub LookedFit : List ℕ → Type 0
LookedFit rest = AreBytes (take (looked_at rest) rest)

pub six_fit : (n : ℕ) (rest : List ℕ) → AreBytes (take n rest) → 6 ≤ n → 6 ≤ length rest → SixFit rest
six_fit n rest fit enough long k below =
    let kept = length-take n rest in
    subst (λ (x : ℕ). x < 2 ^ 8) (get_or-take n rest k 0 (omega (arith, below, enough))) (fit k (omega (arith, kept, below, enough, long)))

pub fewer_fit : (n m : ℕ) (rest : List ℕ) → n ≤ m → AreBytes (take m rest) → AreBytes (take n rest)
fewer_fit n m rest fewer fit k below =
    let kept = length-take n rest in
    let more = length-take m rest in
    subst (λ (x : ℕ). x < 2 ^ 8) (get_or-take m rest k 0 (omega (arith, kept, below, fewer)) ∙ sym (get_or-take n rest k 0 (omega (arith, kept, below)))) (fit k (omega (arith, kept, more, below, fewer)))

-- a frame that begins there is what is looked at
pub reading_looked : (rest : List ℕ) (g : Reading) → SixFit rest → IsReading rest g → looked_at rest ≡ size_of g
reading_looked rest g fit r =
    let e = reading_needs rest g fit r in
    let long = (begun rest g r).long in
    omega (arith, e, long)

looked_six : (rest : List ℕ) (g : Reading) → IsReading rest g → LookedFit rest → 6 ≤ needed rest → SixFit rest
looked_six rest g r fit six =
    let b = begun rest g r in
    let long = b.long in
    let least = b.least in
    six_fit (looked_at rest) rest fit (omega (arith, six, long, least)) (omega (arith, long, least))

-- ---- what is looked at alone

pub refusal_from : (old : Decoding) (rest : List ℕ) (fault : FrameFault) → IsRefusal old (take (looked_at rest) rest) fault → IsRefusal old rest fault
refusal_from old rest fault (inl f) = inl ((same_looked rest fault).there f)
refusal_from old rest fault (inr o) =
    inr (record { other = o.other; row = o.row; reading = read_from (looked_at rest) rest o.other o.reading; is_change = o.is_change; same = o.same })

-- by the kind alone
pub refusal_by : (old new : Decoding) (rest : List ℕ) (fault : FrameFault) → old.kind ≡ new.kind → IsRefusal old rest fault → IsRefusal new rest fault
refusal_by old new rest fault same (inl f) = inl f
refusal_by old new rest fault same (inr o) =
    inr (record { other = o.other; row = o.row; reading = o.reading; is_change = subst (λ (k : Option Kind). IsChange k o.other o.row) same o.is_change; same = o.same })

-- ---- a frame isn't refused

never_changed : (k n : Kind) (row : Row) → k ≡ n → IsFirstChange k n row → ⊥
never_changed k n row same (inl c) = c.0 (ap (λ (x : Kind). x.fscod) same)
never_changed k n row same (inr (inl c)) = c.1 (ap (λ (x : Kind). x.acmod) same)
never_changed k n row same (inr (inr c)) = c.2 (ap (λ (x : Kind). x.lfe) same)

abbrev kind_in : Head → Kind
kind_in h = record { fscod = h.fscod; acmod = h.acmod; lfe = h.lfeon }

-- frames of the same bytes are of one kind
pub one_kind : (rest : List ℕ) (g h : Reading) → IsReading rest g → IsReading rest h → kind_of g ≡ kind_of h
one_kind rest g h p q = ap kind_in (one_head rest g h p q)

never_other : (o : Option Kind) (g h : Reading) (row : Row) → ForSome o (λ k. k ≡ kind_of g) → kind_of g ≡ kind_of h → IsChange o h row → ⊥
never_other None g h row same e c = c
never_other (Some k) g h row same e c = never_changed k (kind_of h) row (same k refl ∙ e) c

never_both : (rest : List ℕ) (g : Reading) (fault : FrameFault) → LookedFit rest → 6 ≤ needed rest → IsReading rest g → IsFault rest fault → ⊥
never_both rest g fault fit six r f =
    let e = reading_looked rest g (looked_six rest g r fit six) r in
    frames_have_no_fault (take (looked_at rest) rest) g fault fit (read_taken (looked_at rest) rest g (omega (arith, e)) r) ((same_looked rest fault).back f)

pub never_refused : (old : Decoding) (rest : List ℕ) (g : Reading) (fault : FrameFault) → LookedFit rest → 6 ≤ needed rest → IsReading rest g → ForSome old.kind (λ k. k ≡ kind_of g) → IsRefusal old rest fault → ⊥
never_refused old rest g fault fit six r same (inl f) = never_both rest g fault fit six r f
never_refused old rest g fault fit six r same (inr o) = never_other old.kind g o.other o.row same (one_kind rest g o.other r o.reading) o.is_change

-- ---- one refusal

one_row : (k n : Kind) (row other : Row) → IsFirstChange k n row → IsFirstChange k n other → row ≡ other
one_row k n row other (inl p) (inl q) = p.1 ∙ sym q.1
one_row k n row other (inl p) (inr (inl q)) = absurd (p.0 q.0)
one_row k n row other (inl p) (inr (inr q)) = absurd (p.0 q.0)
one_row k n row other (inr (inl p)) (inl q) = absurd (q.0 p.0)
one_row k n row other (inr (inl p)) (inr (inl q)) = p.2 ∙ sym q.2
one_row k n row other (inr (inl p)) (inr (inr q)) = absurd (p.1 q.1)
one_row k n row other (inr (inr p)) (inl q) = absurd (q.0 p.0)
one_row k n row other (inr (inr p)) (inr (inl q)) = absurd (q.1 p.1)
one_row k n row other (inr (inr p)) (inr (inr q)) = p.3 ∙ sym q.3

one_change : (o : Option Kind) (g h : Reading) (row other : Row) → kind_of g ≡ kind_of h → IsChange o g row → IsChange o h other → row ≡ other
one_change None g h row other e p q = absurd p
one_change (Some k) g h row other e p q = one_row k (kind_of g) row other p (subst (λ (n : Kind). IsFirstChange k n other) (sym e) q)

pub one_refusal : (old : Decoding) (rest : List ℕ) (fault other : FrameFault) → LookedFit rest → 6 ≤ needed rest → IsRefusal old rest fault → IsRefusal old rest other → fault ≡ other
one_refusal old rest fault other fit six (inl p) (inl q) = one_fault rest fault other p q
one_refusal old rest fault other fit six (inl p) (inr q) = absurd (never_both rest q.other fault fit six q.reading p)
one_refusal old rest fault other fit six (inr p) (inl q) = absurd (never_both rest p.other other fit six p.reading q)
one_refusal old rest fault other fit six (inr p) (inr q) =
    p.same ∙ (ap (λ (r : Row). Changed r) (one_change old.kind p.other q.other p.row q.row (one_kind rest p.other q.other p.reading q.reading) p.is_change q.is_change) ∙ sym q.same)

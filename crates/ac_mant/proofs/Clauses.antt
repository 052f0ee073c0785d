-- What a call that read so gives.
use Rattle.std.proofs.Common.{◌≡◌, ℕ, ◌-◌, ◌≤◌, Bool, true, false, List, [], ◌++◌, length, drop, arith, length-append, Result, Ok, Err, OnOk, IfErr, refl, inl, inr, ap, sym, subst, ◌∙◌}
use Rattle.ac_mant.specs.declared.coded.MantFault.{MantFault}
use Rattle.ac_mant.specs.Groups.{AreCoded, Fill, IsFill, closed, pairs, spelled, Refuses}
use Rattle.ac_mant.specs.Laws.{OneReading}
use Rattle.ac_mant.specs.Unpacking.{nothing, read_from, CodesGive}
use Rattle.ac_mant.proofs.Grouping.{IsHeld}
use Rattle.ac_mant.proofs.Whole.{AreLowPointers, reads, refused_reads}
use Rattle.ac_mant.proofs.Spelled.{pairs_read}
use Rattle.ac_mant.proofs.Windows.{behind}

codes_got : Result (List ℕ × List Bool) MantFault → List ℕ
codes_got (Ok r) = r.0
codes_got (Err fault) = []

bits_left : Result (List ℕ × List Bool) MantFault → List Bool
bits_left (Ok r) = r.1
bits_left (Err fault) = []

is_good : Result (List ℕ × List Bool) MantFault → Bool
is_good (Ok r) = true
is_good (Err fault) = false

fault_in : MantFault → Result (List ℕ × List Bool) MantFault → MantFault
fault_in other (Ok r) = other
fault_in other (Err fault) = fault

same_codes : {a b : List ℕ × List Bool} → ◌≡◌ {A = Result (List ℕ × List Bool) MantFault} (Ok a) (Ok b) → a.0 ≡ b.0
unfolding codes_got
same_codes is = ap codes_got is

same_bits : {a b : List ℕ × List Bool} → ◌≡◌ {A = Result (List ℕ × List Bool) MantFault} (Ok a) (Ok b) → a.1 ≡ b.1
unfolding bits_left
same_bits is = ap bits_left is

same_fault : {d e : MantFault} → ◌≡◌ {A = Result (List ℕ × List Bool) MantFault} (Err d) (Err e) → d ≡ e
unfolding fault_in
same_fault {d} {e} is = ap (fault_in d) is

never_both : {a : List ℕ × List Bool} {e : MantFault} → ◌≡◌ {A = Result (List ℕ × List Bool) MantFault} (Ok a) (Err e) → ⊥
unfolding is_good
never_both is = let same : true ≡ false = ap is_good is in cc

nothing_held : IsHeld nothing
nothing_held = record { one = tt; two = tt; four = tt; pair = tt }

pub found_of : (result : Result Unit MantFault) (baps out : List ℕ) (old new : List Bool) → AreLowPointers baps → CodesGive result out new (read_from nothing 0 baps old) → OnOk result ((fill : Fill) × IsFill fill × (length out ≡ length baps) × AreCoded (pairs baps out) × (old ≡ spelled fill closed (pairs baps out) ++ new))
found_of (Ok done) baps out old new low gives =
    elim (reads baps nothing 0 old nothing_held low) [
      | inl r ↦
          let codes : r.codes ≡ out = same_codes (sym r.read ∙ gives) in
          let rest : r.rest ≡ new = same_bits (sym r.read ∙ gives) in (
            r.reading.fill,
            r.reading.is_fill,
            subst (λ (c : List ℕ). length c ≡ length baps) codes r.reading.long,
            subst (λ (c : List ℕ). AreCoded (pairs baps c)) codes r.reading.are,
            subst (λ (c : List ℕ). old ≡ spelled r.reading.fill closed (pairs baps c) ++ new) codes (subst (λ (b : List Bool). old ≡ spelled r.reading.fill closed (pairs baps r.codes) ++ b) rest r.reading.whole),
          )
      | inr f ↦ absurd (never_both (sym gives ∙ f.read))
    ]
found_of (Err fault) baps out old new low gives = tt

pub only_of : (result : Result Unit MantFault) (baps out : List ℕ) (old new : List Bool) → CodesGive result out new (read_from nothing 0 baps old) → (fill : Fill) (codes : List ℕ) (rest : List Bool) → IsFill fill → length codes ≡ length baps → AreCoded (pairs baps codes) → old ≡ spelled fill closed (pairs baps codes) ++ rest → (result ≡ Ok tt) × (out ≡ codes) × (new ≡ rest)
only_of (Ok tt) baps out old new gives fill codes rest is long are whole =
    let read = pairs_read baps codes fill old rest long is are whole in (refl, same_codes (sym gives ∙ read), same_bits (sym gives ∙ read))
only_of (Err fault) baps out old new gives fill codes rest is long are whole =
    let read = pairs_read baps codes fill old rest long is are whole in absurd (never_both (sym read ∙ gives))

pub refused_of : (result : Result Unit MantFault) (baps out : List ℕ) (old new : List Bool) → AreLowPointers baps → CodesGive result out new (read_from nothing 0 baps old) → IfErr result (λ fault. Refuses closed 0 baps old fault)
refused_of (Ok done) baps out old new low gives = tt
refused_of (Err fault) baps out old new low gives =
    elim (reads baps nothing 0 old nothing_held low) [
      | inl r ↦ absurd (never_both (sym r.read ∙ gives))
      | inr f ↦ subst (λ (e : MantFault). Refuses closed 0 baps old e) (same_fault (sym f.read ∙ gives)) f.refuses
    ]

pub refuses_of : (result : Result Unit MantFault) (baps out : List ℕ) (old new : List Bool) → CodesGive result out new (read_from nothing 0 baps old) → (fault : MantFault) → Refuses closed 0 baps old fault → result ≡ Err fault
refuses_of (Ok done) baps out old new gives fault refuses = absurd (never_both (sym gives ∙ refused_reads baps nothing 0 old fault refuses))
refuses_of (Err other) baps out old new gives fault refuses = ap (λ e. Err e) (same_fault (sym gives ∙ refused_reads baps nothing 0 old fault refuses))

pub one_reading : OneReading
one_reading baps codes others fill filled rest left is also long as_long are too same =
    let l = spelled filled closed (pairs baps others) ++ left in
    let first = pairs_read baps codes fill l rest long is are (sym same) in
    let second = pairs_read baps others filled l left as_long also too refl in
    (same_codes (sym first ∙ second), same_bits (sym first ∙ second))

-- what is left is behind what was read
pub read_behind : (baps out : List ℕ) (old new : List Bool) → AreLowPointers baps → read_from nothing 0 baps old ≡ Ok (out, new) → (length new ≤ length old) × (new ≡ drop (length old - length new) old)
read_behind baps out old new low gives =
    let found = found_of (Ok tt) baps out old new low gives in
    let front = spelled found.0 closed (pairs baps out) in
    let whole : old ≡ front ++ new = found.4 in
    (omega (arith, ap length whole ∙ length-append front new), behind front old new whole)

-- A frame of the same kind has no change, and another has one.
use Rattle.std.proofs.Common.{◌≡◌, Option, Some, List, ℕ, ap, sym, subst, ◌∙◌, inl, inr}
use Rattle.std.specs.Option.{ForSome}
use Rattle.ac_codec.specs.declared.refused.Row.{Row}
use Rattle.ac_record.specs.declared.codes.FrameFault.{FrameFault}
use Rattle.ac_record.specs.declared.codes.FrameFault.TheVariants.{Changed}
use Rattle.ac_record.specs.Frames.{FrameCodes}
use Rattle.ac_record.specs.Laws.{AreBytes}
use Rattle.ac_record.specs.Readings.{IsReading}
use Rattle.ac_record.proofs.Whole.{frames_have_no_fault}
use Rattle.ac_dec.specs.declared.kind.Kind.{Kind}
use Rattle.ac_dec.specs.Decoding.{Decoding, kind_of, IsFirstChange, IsChange, IsRefusal}
use Rattle.ac_dec.proofs.Heads.{one_kind}

pub no_change : (k n : Kind) (row : Row) → k ≡ n → IsFirstChange k n row → ⊥
no_change k n row e (inl p) = p.0 (ap (λ (x : Kind). x.fscod) e)
no_change k n row e (inr (inl p)) = p.1 (ap (λ (x : Kind). x.acmod) e)
no_change k n row e (inr (inr p)) = p.2 (ap (λ (x : Kind). x.lfe) e)

one_change : (k n : Kind) (r s : Row) → IsFirstChange k n r → IsFirstChange k n s → r ≡ s
one_change k n r s (inl p) (inl q) = p.1 ∙ sym q.1
one_change k n r s (inl p) (inr (inl q)) = absurd (p.0 q.0)
one_change k n r s (inl p) (inr (inr q)) = absurd (p.0 q.0)
one_change k n r s (inr (inl p)) (inl q) = absurd (q.0 p.0)
one_change k n r s (inr (inl p)) (inr (inl q)) = p.2 ∙ sym q.2
one_change k n r s (inr (inl p)) (inr (inr q)) = absurd (p.1 q.1)
one_change k n r s (inr (inr p)) (inl q) = absurd (q.0 p.0)
one_change k n r s (inr (inr p)) (inr (inl q)) = absurd (q.1 p.1)
one_change k n r s (inr (inr p)) (inr (inr q)) = p.3 ∙ sym q.3

-- what stands behind a frame that was read
pub record Read (bytes : List ℕ) (old : Decoding) (k kind : Kind) (g : FrameCodes) : Type 0 where
  pub small : AreBytes bytes
  pub reading : IsReading bytes g
  pub is_kind : kind ≡ kind_of g
  pub is_first : old.kind ≡ Some k

other_kind : (bytes : List ℕ) (old : Decoding) (k kind : Kind) (g other : FrameCodes) → Read bytes old k kind g → IsReading bytes other → kind ≡ kind_of other
other_kind bytes old k kind g other r is = r.is_kind ∙ one_kind bytes g other r.small r.reading is

pub same_not_refused : (bytes : List ℕ) (old : Decoding) (k kind : Kind) (g : FrameCodes) (fault : FrameFault) → Read bytes old k kind g → k ≡ kind → IsRefusal old bytes fault → ⊥
same_not_refused bytes old k kind g fault r same (inl is) = frames_have_no_fault bytes g fault r.small r.reading is
same_not_refused bytes old k kind g fault r same (inr o) =
    no_change k (kind_of o.other) o.row (same ∙ other_kind bytes old k kind g o.other r o.reading) (subst (λ (f : Option Kind). IsChange f o.other o.row) r.is_first o.is_change)

pub change_refused : (bytes : List ℕ) (old : Decoding) (k kind : Kind) (g : FrameCodes) (row : Row) (fault : FrameFault) → Read bytes old k kind g → IsFirstChange k kind row → IsRefusal old bytes fault → Changed row ≡ fault
change_refused bytes old k kind g row fault r change (inl is) = absurd (frames_have_no_fault bytes g fault r.small r.reading is)
change_refused bytes old k kind g row fault r change (inr o) =
    let here : IsFirstChange k (kind_of o.other) row = subst (λ (n : Kind). IsFirstChange k n row) (other_kind bytes old k kind g o.other r o.reading) change in
    let there = subst (λ (f : Option Kind). IsChange f o.other o.row) r.is_first o.is_change in
    ap (λ (x : Row). Changed x) (one_change k (kind_of o.other) row o.row here there) ∙ sym o.same

pub change_not_same : (bytes : List ℕ) (old : Decoding) (k kind : Kind) (g other : FrameCodes) (row : Row) → Read bytes old k kind g → IsFirstChange k kind row → IsReading bytes other → ForSome old.kind (λ x. x ≡ kind_of other) → ⊥
change_not_same bytes old k kind g other row r change is same = no_change k kind row (same k r.is_first ∙ sym (other_kind bytes old k kind g other r is)) change

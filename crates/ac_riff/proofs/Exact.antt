-- The reader of heads answers the refusal whose cause is there.
use Rattle.std.proofs.Common.{◌≡◌, ◌≢◌, ◌⊎◌, ℕ, ◌≤◌, ◌<◌, List, length, take, Option, Result, Ok, Err, inl, inr, refl, ap, ◌∙◌, arith, subst}
use Rattle.std.specs.Prelude.{MatchResult}
use Rattle.ac_riff.specs.declared.fault.WavKind.{WavKind}
use Rattle.ac_riff.specs.declared.fault.WavKind.TheVariants.{Short, NoData}
use Rattle.ac_riff.specs.declared.fault.WavFault.{WavFault}
use Rattle.ac_riff.specs.declared.fault.WavFault.TheVariants.{Bad, ReadFault, TooLong}
use Rattle.ac_riff.specs.declared.head.WavHead.{WavHead}
use Rattle.ac_riff.specs.Form.{IsHead}
use Rattle.ac_riff.specs.Refusal.{Refuses, IsTooLong, IsStopped, HeadRead, ReadsExactly}
use Rattle.ac_riff.proofs.Endings.{never_both, one_head, one_refusal}
use Rattle.ac_riff.proofs.Fronts.{head_cut}

-- what the first bytes are refused for is no early end of them alone, where the whole list is refused so too
early_place : (bytes : List ℕ) (kind other : WavKind) (place limit : ℕ) → (other ≡ Short) ⊎ (other ≡ NoData) → kind ≡ other → Refuses bytes kind place → place ≡ length bytes
early_place bytes kind other place limit (inl e) same r = (subst (λ (k : WavKind). Refuses bytes k place) (same ∙ e) r).0
early_place bytes kind other place limit (inr e) same r = (subst (λ (k : WavKind). Refuses bytes k place) (same ∙ e) r).0

early_stays : (bytes : List ℕ) (limit : ℕ) (kind other : WavKind) (place : ℕ) → (other ≡ Short) ⊎ (other ≡ NoData) → limit < length bytes
    → Refuses bytes kind place → Refuses (take limit bytes) kind place → Refuses (take limit bytes) other limit → ⊥
early_stays bytes limit kind other place e more r s early =
    let same = one_refusal (take limit bytes) kind other place limit s early in
    let at = early_place bytes kind other place limit e same.0 r in
    absurd (omega (arith, at, same.1, more))

refused_not_long : (bytes : List ℕ) (limit : ℕ) (kind : WavKind) (place : ℕ) → Refuses bytes kind place → Refuses (take limit bytes) kind place → IsTooLong bytes limit → ⊥
refused_not_long bytes limit kind place r s (more, inl early) = early_stays bytes limit kind Short place (inl refl) more r s early
refused_not_long bytes limit kind place r s (more, inr early) = early_stays bytes limit kind NoData place (inr refl) more r s early

head_not_long : (bytes : List ℕ) (limit : ℕ) (head : WavHead) → IsHead bytes head → head.taken ≤ limit → IsTooLong bytes limit → ⊥
head_not_long bytes limit head h k (more, inl r) = never_both (take limit bytes) head Short limit (head_cut bytes head limit h k) r
head_not_long bytes limit head h k (more, inr r) = never_both (take limit bytes) head NoData limit (head_cut bytes head limit h k) r

pub read_exactly : (bytes : List ℕ) (limit : ℕ) (left : Option (List ℕ)) (result : Result WavHead WavFault)
    → MatchResult result (λ head. HeadRead bytes limit head left) (IsStopped bytes limit) → result ≢ Err ReadFault → ReadsExactly bytes limit result
read_exactly bytes limit left (Ok head) r nf = record {
  too_long = λ t. absurd (head_not_long bytes limit head r.is r.within t);
  refused = λ kind place s u. absurd (never_both bytes head kind place r.is s);
  accepted = λ other h k. ap (λ (x : WavHead). Ok x) (one_head bytes head other r.is h);
}
read_exactly bytes limit left (Err (Bad kind place)) r nf = record {
  too_long = λ t. absurd (refused_not_long bytes limit kind place r.0 r.1 t);
  refused = λ other there s u.
      let same = one_refusal bytes kind other place there r.0 s in
      ap (λ (k : WavKind). Err (Bad k place)) same.0 ∙ ap (λ (p : ℕ). Err (Bad other p)) same.1;
  accepted = λ head h k. absurd (never_both bytes head kind place h r.0);
}
read_exactly bytes limit left (Err ReadFault) r nf = absurd (nf refl)
read_exactly bytes limit left (Err TooLong) r nf = record {
  too_long = λ _. refl;
  refused = λ kind place s u. absurd (refused_not_long bytes limit kind place s u r);
  accepted = λ head h k. absurd (head_not_long bytes limit head h k r);
}

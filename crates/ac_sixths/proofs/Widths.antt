-- The widths of bands, and where pieces begin.
use Rattle.std.proofs.Common.{◌≡◌, ◌≢◌, ◌∙◌, ℕ, ◌+◌, ◌*◌, ◌-◌, ◌/◌, ◌<◌, ◌≤◌, min, max, List, slice_index, arith, ap, refl, subst}
use Rattle.std.specs.Prelude.{nat_eq, if◌then◌else◌, ◌==◌}
use Rattle.std.proofs.lemmas.Bool.{eqb-true, ne_eqb, cond-false}
use Rattle.ac_base.specs.Allocation.{bndtab_list}
use Rattle.ac_base.proofs.Tests.{all_below-at}
use Rattle.ac_base.proofs.AllocationTables.{starts_rise}
use Rattle.ac_sixths.specs.Runs.{AreWide, ArePieces, AreShared}
use Rattle.ac_base.specs.Spans.{width}

one_bin : (i : ℕ) → i < 28 → slice_index bndtab_list (i + 1) ≡ slice_index bndtab_list i + 1
one_bin i l = eqb-true _ _ (all_below-at 28 (λ k. nat_eq (slice_index bndtab_list (k + 1)) (slice_index bndtab_list k + 1)) refl i l)

three_bins : (i : ℕ) → i < 7 → slice_index bndtab_list (28 + i + 1) ≡ slice_index bndtab_list (28 + i) + 3
three_bins i l = eqb-true _ _ (all_below-at 7 (λ k. nat_eq (slice_index bndtab_list (28 + k + 1)) (slice_index bndtab_list (28 + k) + 3)) refl i l)

six_bins : (i : ℕ) → i < 6 → slice_index bndtab_list (35 + i + 1) ≡ slice_index bndtab_list (35 + i) + 6
six_bins i l = eqb-true _ _ (all_below-at 6 (λ k. nat_eq (slice_index bndtab_list (35 + k + 1)) (slice_index bndtab_list (35 + k) + 6)) refl i l)

twelve_bins : (i : ℕ) → i < 4 → slice_index bndtab_list (41 + i + 1) ≡ slice_index bndtab_list (41 + i) + 12
twelve_bins i l = eqb-true _ _ (all_below-at 4 (λ k. nat_eq (slice_index bndtab_list (41 + k + 1)) (slice_index bndtab_list (41 + k) + 12)) refl i l)

more_bins : (i : ℕ) → i < 5 → slice_index bndtab_list (45 + i + 1) ≡ slice_index bndtab_list (45 + i) + 24
more_bins i l = eqb-true _ _ (all_below-at 5 (λ k. nat_eq (slice_index bndtab_list (45 + k + 1)) (slice_index bndtab_list (45 + k) + 24)) refl i l)

-- from a count on
shifted : (n c b : ℕ) → ((i : ℕ) → i < c → slice_index bndtab_list (n + i + 1) ≡ slice_index bndtab_list (n + i) + b) → (m k : ℕ) → n ≤ k → k < n + c → m ≡ b → slice_index bndtab_list (k + 1) ≡ slice_index bndtab_list k + m
shifted n c b h m k lo hi e =
    let i : n + (k - n) ≡ k = omega arith in
    let there = h (k - n) (omega arith) in
    let P : ℕ → Type 0 = λ v. slice_index bndtab_list (v + 1) ≡ slice_index bndtab_list v + m in
    subst P i (omega (arith, there, e))

pub wide_1 : (from to : ℕ) → from ≤ to → AreWide 1 from (max from (min 28 to))
wide_1 from to l b lo hi = one_bin b (omega arith)

pub wide_3 : (from to : ℕ) → from ≤ to → AreWide 3 (max from (min 28 to)) (max from (min 35 to))
wide_3 from to l b lo hi = shifted 28 7 3 three_bins 3 b (omega arith) (omega arith) refl

pub wide_6 : (from to : ℕ) → from ≤ to → AreWide 6 (max from (min 35 to)) (max from (min 41 to))
wide_6 from to l b lo hi = shifted 35 6 6 six_bins 6 b (omega arith) (omega arith) refl

pub wide_12 : (from to : ℕ) → from ≤ to → AreWide 12 (max from (min 41 to)) (max from (min 45 to))
wide_12 from to l b lo hi = shifted 41 4 12 twelve_bins 12 b (omega arith) (omega arith) refl

pub wide_24 : (from to : ℕ) → from ≤ to → to ≤ 50 → AreWide 24 (max from (min 45 to)) to
wide_24 from to l m b lo hi = shifted 45 5 24 more_bins 24 b (omega arith) (omega arith) refl

-- each bin is a piece
pub pieces_1 : (from to : ℕ) (levels : List ℕ) → ArePieces 1 from to levels
pieces_1 from to levels b i k lo hi l within =
    let e : slice_index bndtab_list b + i * 1 + k ≡ slice_index bndtab_list b + i * 1 = omega arith in ap (slice_index levels) e

-- fewer bands
pub pieces_fewer : (m from to first last : ℕ) (levels : List ℕ) → ((b : ℕ) → first ≤ b → b < last → (from ≤ b) × (b < to)) → ArePieces m from to levels → ArePieces m first last levels
pieces_fewer m from to first last levels h are b i k lo hi l within =
    are b i k (h b lo hi).0 (h b lo hi).1 l within

odd_starts : (i : ℕ) → i < 16 → slice_index bndtab_list (35 + i) ≡ slice_index bndtab_list (35 + i) / 2 * 2 + 1
odd_starts i l = eqb-true _ _ (all_below-at 16 (λ k. nat_eq (slice_index bndtab_list (35 + k)) (slice_index bndtab_list (35 + k) / 2 * 2 + 1)) refl i l)

four_starts : (i : ℕ) → i < 10 → slice_index bndtab_list (41 + i) ≡ slice_index bndtab_list (41 + i) / 4 * 4 + 1
four_starts i l = eqb-true _ _ (all_below-at 10 (λ k. nat_eq (slice_index bndtab_list (41 + k)) (slice_index bndtab_list (41 + k) / 4 * 4 + 1)) refl i l)

pub odd_start : (b : ℕ) → 35 ≤ b → b ≤ 50 → slice_index bndtab_list b ≡ slice_index bndtab_list b / 2 * 2 + 1
odd_start b lo hi =
    let i : 35 + (b - 35) ≡ b = omega arith in
    let P : ℕ → Type 0 = λ v. slice_index bndtab_list v ≡ slice_index bndtab_list v / 2 * 2 + 1 in
    subst P i (odd_starts (b - 35) (omega arith))

four_start : (b : ℕ) → 41 ≤ b → b ≤ 50 → slice_index bndtab_list b ≡ slice_index bndtab_list b / 4 * 4 + 1
four_start b lo hi =
    let i : 41 + (b - 41) ≡ b = omega arith in
    let P : ℕ → Type 0 = λ v. slice_index bndtab_list v ≡ slice_index bndtab_list v / 4 * 4 + 1 in
    subst P i (four_starts (b - 41) (omega arith))

-- of places in one step
same_2 : (a i k : ℕ) → a ≡ a / 2 * 2 + 1 → k < 2 → (a + i * 2 + k + 2 - 1) / 2 ≡ (a + i * 2 + 2 - 1) / 2
same_2 a i k e l = omega arith

same_4_2 : (a i k : ℕ) → a ≡ a / 2 * 2 + 1 → k < 2 → (a + i * 2 + k + 4 - 1) / 4 ≡ (a + i * 2 + 4 - 1) / 4
same_4_2 a i k e l = omega arith

same_4 : (a i k : ℕ) → a ≡ a / 4 * 4 + 1 → k < 4 → (a + i * 4 + k + 4 - 1) / 4 ≡ (a + i * 4 + 4 - 1) / 4
same_4 a i k e l = omega arith

-- pieces of m bins of whole bands, where w bins have one level
pieces_of : (w m start end from to first last : ℕ) (levels : List ℕ) → ((b i k : ℕ) → first ≤ b → b < last → k < m → (slice_index bndtab_list b + i * m + k + w - 1) / w ≡ (slice_index bndtab_list b + i * m + w - 1) / w) → AreShared w start end levels → start ≤ slice_index bndtab_list from → slice_index bndtab_list to ≤ end → to ≤ 50 → from ≤ first → last ≤ to → ArePieces m first last levels
pieces_of w m start end from to first last levels one shared p q r u v b i k lo hi l within =
    let low = starts_rise from b (omega arith) (omega arith) in
    let high = starts_rise (b + 1) to (omega arith) (omega arith) in
    shared (slice_index bndtab_list b + i * m + k) (slice_index bndtab_list b + i * m) (omega arith) (omega arith) (omega arith) (omega arith) (one b i k lo hi l)

pub pieces_2 : (start end from to first last : ℕ) (levels : List ℕ) → AreShared 2 start end levels → start ≤ slice_index bndtab_list from → slice_index bndtab_list to ≤ end → to ≤ 50 → 35 ≤ first → from ≤ first → last ≤ to → ArePieces 2 first last levels
pieces_2 start end from to first last levels shared p q r n u v =
    pieces_of 2 2 start end from to first last levels (λ b i k lo hi l. same_2 (slice_index bndtab_list b) i k (odd_start b (omega arith) (omega arith)) l) shared p q r u v

pub pieces_4_2 : (start end from to first last : ℕ) (levels : List ℕ) → AreShared 4 start end levels → start ≤ slice_index bndtab_list from → slice_index bndtab_list to ≤ end → to ≤ 50 → 35 ≤ first → from ≤ first → last ≤ to → ArePieces 2 first last levels
pieces_4_2 start end from to first last levels shared p q r n u v =
    pieces_of 4 2 start end from to first last levels (λ b i k lo hi l. same_4_2 (slice_index bndtab_list b) i k (odd_start b (omega arith) (omega arith)) l) shared p q r u v

pub pieces_4 : (start end from to first last : ℕ) (levels : List ℕ) → AreShared 4 start end levels → start ≤ slice_index bndtab_list from → slice_index bndtab_list to ≤ end → to ≤ 50 → 41 ≤ first → from ≤ first → last ≤ to → ArePieces 4 first last levels
pieces_4 start end from to first last levels shared p q r n u v =
    pieces_of 4 4 start end from to first last levels (λ b i k lo hi l. same_4 (slice_index bndtab_list b) i k (four_start b (omega arith) (omega arith)) l) shared p q r u v

pub width_2 : (kind : ℕ) → kind ≡ 2 → width kind ≡ 2
width_2 kind e = ap width e

pub width_4 : (kind : ℕ) → kind ≢ 1 → kind ≢ 2 → width kind ≡ 4
width_4 kind p q =
    cond-false (kind == 1) 1 (if kind == 2 then 2 else 4) (ne_eqb kind 1 p) ∙ cond-false (kind == 2) 2 4 (ne_eqb kind 2 q)

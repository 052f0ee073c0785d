-- Counts of mantissas in lanes.
use Rattle.std.proofs.Common.{◌≡◌, ℕ, suc, ◌+◌, ◌*◌, ◌-◌, ◌/◌, ◌%◌, ◌^◌, ◌<◌, ◌≤◌, List, slice_index, sym, ap, ap₂, ◌∙◌, arith}
use Rattle.ac_base.specs.Allocation.{masktab_list}
use Rattle.ac_base.specs.Counts.{Tally, none, with_one}
use Rattle.ac_base.specs.Fit.{tally_bins}
use Rattle.ac_cost.proofs.Tallying.{bins_none, bins_more, bins_within, one_within, IsWithin}
use Rattle.ac_windows.specs.Packing.{packed, pointer_at, pointer_of}

packed_one : (t : Tally) (bap : ℕ) → packed (with_one t bap) ≡ packed t + packed (with_one none bap)
packed_one t bap = omega arith

pub lanes_none : (f : ℕ → ℕ) (start x : ℕ) → x ≡ 0 → x ≡ packed (tally_bins f start (start - start))
lanes_none f start x e =
    let z : start - start ≡ 0 = omega arith in
    e ∙ sym (ap (λ (n : ℕ). packed (tally_bins f start n)) z ∙ ap packed (bins_none f start))

pub lanes_more : (f : ℕ → ℕ) (start k bap sum lanes : ℕ) → start ≤ k → sum ≡ packed (tally_bins f start (k - start)) → lanes ≡ packed (with_one none bap) → bap ≡ f k → sum + lanes ≡ packed (tally_bins f start (k + 1 - start))
lanes_more f start k bap sum lanes l so here is =
    let e : k + 1 - start ≡ suc (k - start) = omega arith in
    let at : start + (k - start) ≡ k = omega arith in
    let t = tally_bins f start (k - start) in
    let one : lanes ≡ packed (with_one none (f (start + (k - start)))) = here ∙ ap (λ b. packed (with_one none b)) (is ∙ sym (ap f at)) in
    ap₂ (λ x y. x + y) so one ∙ sym (packed_one t (f (start + (k - start)))) ∙ sym (ap packed (bins_more f start (k - start))) ∙ sym (ap (λ (n : ℕ). packed (tally_bins f start n)) e)

pub lanes_small : (f : ℕ → ℕ) (start n : ℕ) → n ≤ 253 → packed (tally_bins f start n) < 2 ^ 57
lanes_small f start n l =
    let w = bins_within f start n in omega (arith, w.linear, w.n1, w.n2, w.n4)

pub one_small : (bap : ℕ) → packed (with_one none bap) < 2 ^ 57
one_small bap =
    let w = one_within 0 none bap (record { linear = omega arith; n1 = omega arith; n2 = omega arith; n4 = omega arith }) in
    omega (arith, w.linear, w.n1, w.n2, w.n4)

-- the lanes apart
apart : (x linear n1 n2 n4 : ℕ) → x ≡ linear + 2 ^ 16 * n1 + 2 ^ 32 * n2 + 2 ^ 48 * n4 → linear ≤ 4048 → n1 ≤ 253 → n2 ≤ 253 → n4 ≤ 253 → (x % 65536 ≡ linear) × (x / 65536 % 65536 ≡ n1) × (x / 4294967296 % 65536 ≡ n2) × (x / 281474976710656 ≡ n4)
apart x linear n1 n2 n4 e l a b c = (omega arith, omega arith, omega arith, omega arith)

tally_apart : (x : ℕ) (t : Tally) → x ≡ packed t → IsWithin 253 t → record { linear = x % 65536; n1 = x / 65536 % 65536; n2 = x / 4294967296 % 65536; n4 = x / 281474976710656 } ≡ t
tally_apart x t e w =
    let parts = apart x t.linear t.n1 t.n2 t.n4 e w.linear w.n1 w.n2 w.n4 in
    λ i. record { linear = parts.0 i; n1 = parts.1 i; n2 = parts.2 i; n4 = parts.3 i }

within_more : (m n : ℕ) (t : Tally) → n ≤ m → IsWithin n t → IsWithin m t
within_more m n t l w = record {
  linear = omega (arith, w.linear);
  n1 = omega (arith, w.n1);
  n2 = omega (arith, w.n2);
  n4 = omega (arith, w.n4);
}

pub unpacked : (x : ℕ) (f : ℕ → ℕ) (start n : ℕ) → n ≤ 253 → x ≡ packed (tally_bins f start n) → record { linear = x % 65536; n1 = x / 65536 % 65536; n2 = x / 4294967296 % 65536; n4 = x / 281474976710656 } ≡ tally_bins f start n
unpacked x f start n l e =
    tally_apart x (tally_bins f start n) e (within_more 253 n (tally_bins f start n) l (bins_within f start n))

-- the pointer of a bin that is read
pub pointer_read : (levels bases : List ℕ) (t k b base i bap : ℕ) → bap ≡ pointer_at i → i ≡ base + 4 * slice_index levels k + t → base ≡ slice_index bases b → b ≡ slice_index masktab_list k → bap ≡ pointer_of levels bases t k
pointer_read levels bases t k b base i bap e at eb em =
    let same = eb ∙ ap (slice_index bases) em in
    let index : i ≡ slice_index bases (slice_index masktab_list k) + 4 * slice_index levels k + t = omega (arith, at, same) in
    e ∙ ap pointer_at index

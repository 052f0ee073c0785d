-- How great side bits can be.
use Rattle.std.proofs.Common.{ℕ, ◌-◌, ◌*◌, ◌≤◌, Bool, true, false, Option, Some, None, refl, arith}
use Rattle.std.specs.Prelude.{◌&&◌, if◌then◌else◌, is_some, sum, nat_le, nat_lt}
use Rattle.std.proofs.lemmas.Bool.{leb-true}
use Rattle.std.proofs.lemmas.Nat.{mul-le}
use Rattle.ac_base.specs.declared.shapes.Shape.{Shape}
use Rattle.ac_base.specs.Fit.{side_of}
use Rattle.ac_base.specs.Shape.{IsCoupling, full_of, is_stereo, has_center, has_surround, subbands, rematrix_bands}
use Rattle.ac_base.specs.SideBits.{when, head_rows, first_block_rows, later_block_rows, side_front, side_total}
use Rattle.ac_base.proofs.Tests.{all_below-at}

when-le : (there : Bool) (width : ℕ) → when there width ≤ width
when-le true width = omega arith
when-le false width = omega arith

full-le : (acmod : ℕ) → acmod ≤ 7 → full_of acmod ≤ 5
full-le acmod l = leb-true _ _ (all_below-at 8 (λ k. nat_le (full_of k) 5) refl acmod (omega arith))

subbands-le : (acmod : ℕ) (couple : Option (ℕ × ℕ)) → IsCoupling acmod couple → subbands couple ≤ 18
subbands-le acmod None is = omega arith
subbands-le acmod (Some p) is = let h = is p refl in omega (arith, h.2)

bands-pick : (b c : Bool) → (if b then 4 else if c then 3 else 2) ≤ 4
bands-pick true c = omega arith
bands-pick false true = omega arith
bands-pick false false = omega arith

bands-le : (couple : Option (ℕ × ℕ)) → rematrix_bands couple ≤ 4
bands-le None = omega arith
bands-le (Some p) = bands-pick (nat_lt 2 p.0) (nat_lt 0 p.0)

head-le : (acmod : ℕ) → sum (head_rows acmod) ≤ 71
head-le acmod = omega (arith, when-le (has_center acmod) 2, when-le (has_surround acmod) 2, when-le (is_stereo acmod) 2)

later-le : (acmod : ℕ) (lfe : Bool) (couple : Option (ℕ × ℕ)) → full_of acmod ≤ 5 → sum (later_block_rows acmod lfe couple) ≤ 60
later-le acmod lfe couple l =
    let full = full_of acmod in
    let coupled = is_some couple in
    omega (arith, when-le coupled (full * 1), when-le (is_stereo acmod) 1, when-le coupled 2, when-le lfe 1, when-le coupled 1)

first-le : (acmod : ℕ) (lfe : Bool) (couple : Option (ℕ × ℕ)) → full_of acmod ≤ 5 → subbands couple ≤ 18 → sum (first_block_rows acmod lfe couple) ≤ 1500
first-le acmod lfe couple l m =
    let full = full_of acmod in
    let coupled = is_some couple in
    let stereo = is_stereo acmod in
    let bands = subbands couple in
    let both = mul-le full bands 5 18 l m in
    omega (arith, both, bands-le couple, when-le coupled (full * 1), when-le (coupled && stereo) 1, when-le coupled 4, when-le coupled ((bands - 1) * 1), when-le coupled (full * 2), when-le coupled (full * bands * 4), when-le stereo 1, when-le stereo (rematrix_bands couple * 1), when-le coupled 2, when-le lfe 1, when-le coupled 3, when-le lfe 4, when-le lfe 3, when-le coupled 1)

pub sides-small : (shape : Shape) → ((side_of shape.acmod shape.lfe shape.couple).front ≤ 2000) × ((side_of shape.acmod shape.lfe shape.couple).total ≤ 2000)
unfolding side_front side_total
sides-small shape =
    let full = full-le shape.acmod shape.channels in
    let h = head-le shape.acmod in
    let f = first-le shape.acmod shape.lfe shape.couple full (subbands-le shape.acmod shape.couple shape.coupling) in
    let l = later-le shape.acmod shape.lfe shape.couple full in
    (omega (arith, h, f, l), omega (arith, h, f, l))

use Rattle.std.proofs.Common.{◌+◌, ◌-◌, ◌^◌, ◌+ℤ◌, ◌-ℤ◌, arith, ◌∙◌, sym, ap₂}
use Rattle.ac_convolution.specs.Negacyclic.{items}
use Rattle.ac_convolution.specs.Rows.{row}
use Rattle.ac_convolution.specs.Transform.{class_of, waves_of}
use Rattle.ac_convolution.proofs.Alternating.{wave_16, wave_same}
use Rattle.ac_convolution.proofs.Classes.{wave_is, class_alternates, class_0, class_1, class_2, class_3}
use Rattle.ac_convolution.proofs.More.{rows_more}
use Rattle.ac_convolution.proofs.inverse.classes.Goals as goal

pub loop-a-preserved : goal.loop-a-preserved
loop-a-preserved c =
    let q = c.args.q.now in
    let a = c.loop-a.a in
    rows_more 32 48 (2 ^ 56) a (class_of (waves_of q)) c.loop-a.x c.widened.result (omega arith) c.loop-a.invariant
    (λ n below.
    c.widened.ensures.value n below
    ∙ wave_is (items c.plus.result) (class_of (waves_of q) a) (class_alternates (waves_of q) (λ e. wave_16 (items (row q e))) a)
    (λ k within.
    c.plus.ensures.value k within
    ∙ ap₂ ◌+ℤ◌ (c.pairs.ensures.even (a) (omega arith) k within) (c.pairs.ensures.even (a + 8) (omega arith) k within)
    ∙ sym (class_0 q a k (omega arith) within))
    n)
    c.widened.ensures.bound

pub loop-b-preserved : goal.loop-b-preserved
loop-b-preserved c =
    let q = c.args.q.now in
    let b = c.loop-b.b in
    rows_more 32 48 (2 ^ 56) b (class_of (waves_of q)) c.loop-b.x c.widened-in-loop-b.result (omega arith) c.loop-b.invariant
    (λ n below.
    c.widened-in-loop-b.ensures.value n below
    ∙ wave_is (items c.minus.result) (class_of (waves_of q) b) (class_alternates (waves_of q) (λ e. wave_16 (items (row q e))) b)
    (λ k within.
    c.minus.ensures.value k within
    ∙ ap₂ ◌-ℤ◌ (c.pairs.ensures.odd (b - 8) (omega arith) k within) (c.turned.ensures.value k within ∙ wave_same (items (row c.pairs.new.odd (b))) (λ k. items (row q (b)) k -ℤ items (row q (b + 16)) k) (λ k below. c.pairs.ensures.odd (b) (omega arith) k below) (k + 8))
    ∙ sym (class_1 q b k (omega arith) (omega arith) within))
    n)
    c.widened-in-loop-b.ensures.bound

pub loop-c-preserved : goal.loop-c-preserved
loop-c-preserved c =
    let q = c.args.q.now in
    let r = c.loop-c.c in
    rows_more 32 48 (2 ^ 56) r (class_of (waves_of q)) c.loop-c.x c.widened-in-loop-c.result (omega arith) c.loop-c.invariant
    (λ n below.
    c.widened-in-loop-c.ensures.value n below
    ∙ wave_is (items c.minus-in-loop-c.result) (class_of (waves_of q) r) (class_alternates (waves_of q) (λ e. wave_16 (items (row q e))) r)
    (λ k within.
    c.minus-in-loop-c.ensures.value k within
    ∙ ap₂ ◌-ℤ◌ (c.pairs.ensures.even (r - 16) (omega arith) k within) (c.pairs.ensures.even (r - 8) (omega arith) k within)
    ∙ sym (class_2 q r k (omega arith) (omega arith) within))
    n)
    c.widened-in-loop-c.ensures.bound

pub loop-d-preserved : goal.loop-d-preserved
loop-d-preserved c =
    let q = c.args.q.now in
    let d = c.loop-d.d in
    rows_more 32 48 (2 ^ 56) d (class_of (waves_of q)) c.loop-d.x c.widened-in-loop-d.result (omega arith) c.loop-d.invariant
    (λ n below.
    c.widened-in-loop-d.ensures.value n below
    ∙ wave_is (items c.plus-in-loop-d.result) (class_of (waves_of q) d) (class_alternates (waves_of q) (λ e. wave_16 (items (row q e))) d)
    (λ k within.
    c.plus-in-loop-d.ensures.value k within
    ∙ ap₂ ◌+ℤ◌ (c.pairs.ensures.odd (d - 24) (omega arith) k within) (c.turned-in-loop-d.ensures.value k within ∙ wave_same (items (row c.pairs.new.odd (d - 16))) (λ k. items (row q (d - 16)) k -ℤ items (row q (d - 16 + 16)) k) (λ k below. c.pairs.ensures.odd (d - 16) (omega arith) k below) (k + 8))
    ∙ sym (class_3 q d k (omega arith) (omega arith) within))
    n)
    c.widened-in-loop-d.ensures.bound

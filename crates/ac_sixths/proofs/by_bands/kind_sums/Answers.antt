use Rattle.std.proofs.Common.{ℕ, min, max, arith, subst}
use Rattle.ac_sixths.specs.Runs.{AreShared}
use Rattle.ac_sixths.proofs.Widths.{pieces_2, pieces_4_2, pieces_4, width_2, width_4}
use Rattle.ac_sixths.proofs.by_bands.kind_sums.Goals as goal

pub band_sums-requires-then-kind-eq2-clause-narrow : goal.band_sums-requires-then-kind-eq2-clause-narrow
band_sums-requires-then-kind-eq2-clause-narrow c = λ (from to : ℕ) most p q.
    let s = c.args.start in
    let e = c.args.end in
    let shared : AreShared 2 s e c.args.levels.now = subst (λ (w : ℕ). AreShared w s e c.args.levels.now) (width_2 c.args.kind (omega arith)) c.requires.shared in
    pieces_2 s e from to (max 35 from) (min 41 to) c.args.levels.now shared p q most (omega arith) (omega arith) (omega arith)

pub band_sums-requires-then-kind-eq2-clause-wide : goal.band_sums-requires-then-kind-eq2-clause-wide
band_sums-requires-then-kind-eq2-clause-wide c = λ (from to : ℕ) most p q.
    let s = c.args.start in
    let e = c.args.end in
    let shared : AreShared 2 s e c.args.levels.now = subst (λ (w : ℕ). AreShared w s e c.args.levels.now) (width_2 c.args.kind (omega arith)) c.requires.shared in
    pieces_2 s e from to (max 41 from) to c.args.levels.now shared p q most (omega arith) (omega arith) (omega arith)

pub band_sums-requires-else-kind-eq2-clause-narrow : goal.band_sums-requires-else-kind-eq2-clause-narrow
band_sums-requires-else-kind-eq2-clause-narrow c = λ (from to : ℕ) most p q.
    let s = c.args.start in
    let e = c.args.end in
    let shared : AreShared 4 s e c.args.levels.now = subst (λ (w : ℕ). AreShared w s e c.args.levels.now) (width_4 c.args.kind c.if-kind-eq1.false c.if-kind-eq2.false) c.requires.shared in
    pieces_4_2 s e from to (max 35 from) (min 41 to) c.args.levels.now shared p q most (omega arith) (omega arith) (omega arith)

pub band_sums-requires-else-kind-eq2-clause-wide : goal.band_sums-requires-else-kind-eq2-clause-wide
band_sums-requires-else-kind-eq2-clause-wide c = λ (from to : ℕ) most p q.
    let s = c.args.start in
    let e = c.args.end in
    let shared : AreShared 4 s e c.args.levels.now = subst (λ (w : ℕ). AreShared w s e c.args.levels.now) (width_4 c.args.kind c.if-kind-eq1.false c.if-kind-eq2.false) c.requires.shared in
    pieces_4 s e from to (max 41 from) to c.args.levels.now shared p q most (omega arith) (omega arith) (omega arith)

use Rattle.std.proofs.Common.{◌≡◌, ◌+◌, List, ◌∷◌, ◌++◌, drop, length, get_or, refl, arith, subst, sym, ap, ◌∙◌}
use Rattle.std.proofs.lemmas.List.{drop_more, length-append}
use Rattle.std.proofs.Math.ListN.{drop_of_length-le}
use Rattle.ac_mant.specs.Groups.{AreCoded, coded, closed, zeros, spelled}
use Rattle.ac_mant.specs.declared.coded.Coded.{Coded}
use Rattle.ac_mant.proofs.Costs.{after_ahead, coded_at, coded_behind, whole_cost, lengths_meet}
use Rattle.ac_mant.proofs.packing.pack_block.Goals as goal

pub pack_code-ahead-requires-clause-coded : goal.pack_code-ahead-requires-clause-coded
pack_code-ahead-requires-clause-coded c = coded_at c.args.list.now c.loop-i.i c.loop-i-test.true c.requires.coded

pub pack_code-ahead-requires-clause-others : goal.pack_code-ahead-requires-clause-others
pack_code-ahead-requires-clause-others c =
    subst AreCoded (sym c.behind.ensures) (coded_behind c.args.list.now (c.loop-i.i + 1) c.requires.coded)

pub pack_code-ahead-requires-clause-room : goal.pack_code-ahead-requires-clause-room
pack_code-ahead-requires-clause-room c =
    let whole =
    lengths_meet (c.loop-i.sink ++ c.loop-i.pen) (spelled zeros c.loop-i.ahead (drop c.loop-i.i c.args.list.now)) c.args.sink.now (spelled zeros closed c.args.list.now) (length c.args.sink.now) _
    c.loop-i.invariant.1 refl (whole_cost zeros c.args.list.now) in
    omega (arith, whole, length-append c.loop-i.sink c.loop-i.pen, c.requires.room)

pub loop-i-preserved : goal.loop-i-preserved
loop-i-preserved c =
    let x = get_or c.args.list.now c.loop-i.i (coded 0 0) in
    let here = drop_more c.args.list.now c.loop-i.i (coded 0 0) c.loop-i-test.true in
    let step =
    subst (λ (l : List Coded). (c.pack_code-ahead.new.sink ++ c.pack_code-ahead.new.pen) ++ spelled zeros c.pack_code-ahead.result l ≡ (c.loop-i.sink ++ c.loop-i.pen) ++ spelled zeros c.loop-i.ahead (x ∷ l)) c.behind.ensures
    c.pack_code-ahead.ensures.bits in
    let back = ap (λ l. (c.loop-i.sink ++ c.loop-i.pen) ++ spelled zeros c.loop-i.ahead l) (sym here) in
    (rw c.pack_code-ahead.ensures.ahead (after_ahead c.loop-i.ahead x.bap c.loop-i.invariant.0), step ∙ back ∙ c.loop-i.invariant.1)

pub close-requires : goal.close-requires
close-requires c =
    let whole =
    lengths_meet (c.loop-i.sink ++ c.loop-i.pen) (spelled zeros c.loop-i.ahead (drop c.loop-i.i c.args.list.now)) c.args.sink.now (spelled zeros closed c.args.list.now) (length c.args.sink.now) _
    c.loop-i.invariant.1 refl (whole_cost zeros c.args.list.now) in
    omega (arith, whole, length-append c.loop-i.sink c.loop-i.pen, c.requires.room)

pub returns-clause-len : goal.returns-clause-len
returns-clause-len c =
    let whole =
    lengths_meet (c.loop-i.sink ++ c.loop-i.pen) (spelled zeros c.loop-i.ahead (drop c.loop-i.i c.args.list.now)) c.args.sink.now (spelled zeros closed c.args.list.now) (length c.args.sink.now) _
    c.loop-i.invariant.1 refl (whole_cost zeros c.args.list.now) in
    let ended = drop_of_length-le c.args.list.now c.loop-i-test.false in
    let none : length (spelled zeros c.loop-i.ahead (drop c.loop-i.i c.args.list.now)) ≡ 0 = ap (λ (l : List Coded). length (spelled zeros c.loop-i.ahead l)) ended in
    omega (arith, whole, none, length-append c.loop-i.sink c.loop-i.pen, c.close.ensures.len)

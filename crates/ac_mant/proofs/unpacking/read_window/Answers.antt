use Rattle.std.proofs.Common.{◌≡◌, ◌+◌, take, drop, get_or, Ok, Err, arith, rules, sym, ap, ◌∙◌}
use Rattle.std.proofs.lemmas.List.{drop_more, take_more_set, take_all, length-set}
use Rattle.std.proofs.Math.ListN.{drop_of_length-le}
use Rattle.ac_mant.specs.Groups.{number_width, number_limit}
use Rattle.ac_mant.specs.Unpacking.{ahead_in, opened, read_number, read_from, with_front}
use Rattle.ac_mant.proofs.Reading.{one_read, none_read, end_read}
use Rattle.ac_mant.proofs.unpacking.read_window.Goals as goal

pub loop-i-preserved : goal.loop-i-preserved
loop-i-preserved c =
    let bap = get_or c.args.baps.now c.loop-i.i 0 in
    let h = c.loop-i.held in
    let front = take c.loop-i.i c.loop-i.out in
    let code = (opened h bap c.in-Ok.number).0 in
    let here = drop_more c.args.baps.now c.loop-i.i 0 c.loop-i-test.true in
    let one : read_number c.loop-i.i (number_width (ahead_in h) bap) (number_limit (ahead_in h) bap) c.loop-i.window ≡ Ok (c.in-Ok.number, c.number_at.new.window) = search rules in
    let step = one_read front h c.loop-i.i bap c.in-Ok.number (drop (c.loop-i.i + 1) c.args.baps.now) c.loop-i.window c.number_at.new.window one in
    let before = ap (λ l. with_front front (read_from h c.loop-i.i l c.loop-i.window)) here in
    let put = take_more_set c.loop-i.out c.loop-i.i code (omega (arith, c.loop-i.invariant.0, c.loop-i-test.true)) in
    rw c.opened-code.ensures (
      length-set c.loop-i.out c.loop-i.i code ∙ c.loop-i.invariant.0,
      ap (λ l. with_front l (read_from (opened h bap c.in-Ok.number).1 (c.loop-i.i + 1) (drop (c.loop-i.i + 1) c.args.baps.now) c.number_at.new.window)) put
          ∙ sym step
          ∙ sym before
          ∙ c.loop-i.invariant.1,
    )

pub returns-in-Err : goal.returns-in-Err
returns-in-Err c =
    let bap = get_or c.args.baps.now c.loop-i.i 0 in
    let h = c.loop-i.held in
    let front = take c.loop-i.i c.loop-i.out in
    let here = drop_more c.args.baps.now c.loop-i.i 0 c.loop-i-test.true in
    let none : read_number c.loop-i.i (number_width (ahead_in h) bap) (number_limit (ahead_in h) bap) c.loop-i.window ≡ Err c.in-Err.fault = search rules in
    sym c.loop-i.invariant.1
    ∙ ap (λ l. with_front front (read_from h c.loop-i.i l c.loop-i.window)) here
    ∙ none_read front h c.loop-i.i bap c.in-Err.fault (drop (c.loop-i.i + 1) c.args.baps.now) c.loop-i.window none

pub returns : goal.returns
returns c =
    let front = take c.loop-i.i c.loop-i.out in
    let whole : front ≡ c.loop-i.out = take_all c.loop-i.i c.loop-i.out (omega (arith, c.loop-i.invariant.0, c.loop-i-test.false)) in
    sym c.loop-i.invariant.1
    ∙ ap (λ l. with_front front (read_from c.loop-i.held c.loop-i.i l c.loop-i.window)) (drop_of_length-le c.args.baps.now c.loop-i-test.false)
    ∙ end_read front c.loop-i.held c.loop-i.i c.loop-i.window
    ∙ ap (λ l. Ok (l, c.loop-i.window)) whole

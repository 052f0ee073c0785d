use Rattle.std.proofs.Common.{◌≡◌, ◌-◌, Ok, drop, ap, ap₂, sym, subst, ◌∙◌, arith}
use Rattle.ac_mant.specs.Unpacking.{nothing, read_from}
use Rattle.ac_mant.proofs.Clauses.{read_behind}
use Rattle.ac_mant.proofs.Spelled.{low_pointers}
use Rattle.ac_mant.proofs.unpacking.read_codes.Goals as goal

pub overflow_sub-left : goal.overflow_sub-left
overflow_sub-left c =
    let baps = c.args.baps.now in
    let out = c.read_window.new.out in
    let new = c.read_window.new.window in
    let old = c.args.source.now in
    let read : read_from nothing 0 baps old ≡ Ok (out, new) = subst (λ l. read_from nothing 0 baps l ≡ Ok (out, new)) c.of-window.ensures c.in-Ok.ensures in
    omega (arith, (read_behind baps out old new (low_pointers baps c.requires.pointers) read).0, c.left.ensures, c.left-in-Ok.ensures)

pub returns-in-Ok : goal.returns-in-Ok
returns-in-Ok c =
    let baps = c.args.baps.now in
    let out = c.read_window.new.out in
    let new = c.read_window.new.window in
    let old = c.args.source.now in
    let read : read_from nothing 0 baps old ≡ Ok (out, new) = subst (λ l. read_from nothing 0 baps l ≡ Ok (out, new)) c.of-window.ensures c.in-Ok.ensures in
    let b = read_behind baps out old new (low_pointers baps c.requires.pointers) read in
    let n = ap₂ (λ m k. drop (m - k) old) c.left.ensures c.left-in-Ok.ensures in
    read ∙ ap (λ l. Ok (out, l)) (b.1 ∙ (sym n ∙ sym c.skip.ensures))

use Rattle.std.proofs.Common.{◌≡◌, ◌≤◌, ◌∙◌, arith}
use Rattle.std.proofs.lemmas.Result.{err_from_is_err_and}
use Rattle.ac_decode.proofs.Nexts.{six_of, stops_six, few_next, six_there, bad_next, known_six, needs_by, size_fits, at_six, stops_rest, whole_next}
use Rattle.ac_decode.proofs.next.next.Goals as goal

pub returns-in_err-head-clause-told : goal.returns-in_err-head-clause-told
returns-in_err-head-clause-told g c = λ bytes h.
    let p = err_from_is_err_and c.from_residual.result c.from_residual.ensures.1 in
    rw (p.1, p.2) (stops_six bytes c.args.taken c.in_err-head.field-0.0 _ (c.in_err-head.ensures.told bytes h))

pub returns-then-head-lt6-clause-told : goal.returns-then-head-lt6-clause-told
returns-then-head-lt6-clause-told g c = λ bytes h.
    few_next bytes c.args.taken c.in_ok-head.head c.begin.new.into _ c.if-head-lt6.true (c.in_ok-head.ensures.told bytes h)

pub returns-in_default-clause-told : goal.returns-in_default-clause-told
returns-in_default-clause-told g c = λ bytes h.
    bad_next bytes c.args.taken c.in_ok-head.head c.in_default.field-0 c.begin.new.into _ (omega (arith, c.in_ok-head.ensures.count, c.if-head-lt6.false)) c.in_default.ensures (c.in_ok-head.ensures.told bytes h)

pub finish-requires-clause-least : goal.finish-requires-clause-least
finish-requires-clause-least g c =
    let s = size_fits (six_of c.begin.new.into) c.in-Ok.whole c.in-Ok.ensures.0 c.in-Ok.ensures.1 in
    let least = s.0 in
    omega (arith, least, c.from.ensures)

pub finish-requires-clause-most : goal.finish-requires-clause-most
finish-requires-clause-most g c =
    let s = size_fits (six_of c.begin.new.into) c.in-Ok.whole c.in-Ok.ensures.0 c.in-Ok.ensures.1 in
    let most = s.1 in
    omega (arith, most, c.from.ensures)

pub returns-in_err-more-clause-told : goal.returns-in_err-more-clause-told
returns-in_err-more-clause-told g c = λ bytes h.
    let all : c.in_ok-head.head ≡ 6 = omega (arith, c.in_ok-head.ensures.count, c.if-head-lt6.false) in
    let r = c.in_ok-head.ensures.told bytes h in
    let s = six_there bytes c.args.taken c.in_ok-head.head c.begin.new.into _ all r in
    let needs = needs_by bytes c.args.taken c.from.result c.begin.new.into c.in-Ok.ensures.0 (c.from.ensures ∙ c.in-Ok.ensures.1) s in
    let fits = size_fits (six_of c.begin.new.into) c.in-Ok.whole c.in-Ok.ensures.0 c.in-Ok.ensures.1 in
    let least : 6 ≤ c.from.result = (let l = fits.0 in omega (arith, l, c.from.ensures)) in
    let p = err_from_is_err_and c.from_residual-in_err-more.result c.from_residual-in_err-more.ensures.1 in
    rw (p.1, p.2) (stops_rest bytes c.args.taken c.from.result c.in_err-more.field-0.0 _ least needs (known_six bytes c.args.taken c.begin.new.into c.fit_law.ensures s)
    (c.in_err-more.ensures.told bytes (at_six bytes c.args.taken c.in_ok-head.head c.begin.new.into _ all r)))

pub returns-clause-count : goal.returns-clause-count
returns-clause-count g c =
    let s = size_fits (six_of c.begin.new.into) c.in-Ok.whole c.in-Ok.ensures.0 c.in-Ok.ensures.1 in
    let most = s.1 in
    omega (arith, most, c.from.ensures, c.in_ok-more.ensures.count)

pub returns-clause-told : goal.returns-clause-told
returns-clause-told g c = λ bytes h.
    let all : c.in_ok-head.head ≡ 6 = omega (arith, c.in_ok-head.ensures.count, c.if-head-lt6.false) in
    let r = c.in_ok-head.ensures.told bytes h in
    let s = six_there bytes c.args.taken c.in_ok-head.head c.begin.new.into _ all r in
    let needs = needs_by bytes c.args.taken c.from.result c.begin.new.into c.in-Ok.ensures.0 (c.from.ensures ∙ c.in-Ok.ensures.1) s in
    let fits = size_fits (six_of c.begin.new.into) c.in-Ok.whole c.in-Ok.ensures.0 c.in-Ok.ensures.1 in
    let least : 6 ≤ c.from.result = (let l = fits.0 in omega (arith, l, c.from.ensures)) in
    whole_next bytes c.args.taken c.in_ok-more.more c.from.result c.finish.new.into _ least c.in_ok-more.ensures.count (c.in_ok-more.ensures.kept ∙ s.front) needs
    (c.in_ok-more.ensures.told bytes (at_six bytes c.args.taken c.in_ok-head.head c.begin.new.into _ all r))

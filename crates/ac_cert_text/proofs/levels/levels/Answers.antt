use Rattle.std.proofs.Common.{◌≡◌, ◌-◌, ◌&&◌, List, true, false, nat_lt, ap, sym, ◌∙◌}
use Rattle.std.proofs.lemmas.Result.{err_from_is_err_and}
use Rattle.ac_cert_text.specs.Codec.{begins}
use Rattle.ac_cert_text.specs.Text.{Offset, fields_of, levels, offset_of, offsets_of}
use Rattle.ac_cert_text.proofs.Loops.{front_then}
use Rattle.ac_cert_text.proofs.Offsets.{one-less, offsets-more, level-fails, level-goes_on, end-fails, levels-end}
use Rattle.ac_cert_text.proofs.levels.levels.Goals as goal

pub returns-in_err-next : goal.returns-in_err-next
returns-in_err-next c =
    let p = err_from_is_err_and c.from_residual.result c.from_residual.ensures.1 in
    let l = c.loop-alloc in
    let f = fields_of c.args.shape.now in
    let test : (nat_lt 0 l.left && begins 111 l.cursor.rest.now) ≡ true = sym c.goes_on.ensures ∙ c.loop-alloc-test.true in
    rw (p.1, p.2) (level-fails f (offsets_of l.levels.items) l.left (l.left - 1) l.cursor.rest.now c.level.new.cursor.rest.now c.in_err-next.field-0.0 ((levels f c.args.count).read c.args.cursor.now.rest.now) test (one-less l.left (begins 111 l.cursor.rest.now) test) c.in_err-next.ensures l.invariant)

pub loop-alloc-preserved : goal.loop-alloc-preserved
loop-alloc-preserved c =
    let l = c.loop-alloc in
    let f = fields_of c.args.shape.now in
    let rest = c.level.new.cursor.rest.now in
    let test : (nat_lt 0 l.left && begins 111 l.cursor.rest.now) ≡ true = sym c.goes_on.ensures ∙ c.loop-alloc-test.true in
    let more = level-goes_on f (offsets_of l.levels.items) l.left (l.left - 1) l.cursor.rest.now rest (offset_of c.in_ok-next.next) ((levels f c.args.count).read c.args.cursor.now.rest.now) test (one-less l.left (begins 111 l.cursor.rest.now) test) c.in_ok-next.ensures l.invariant in
    let all = ap offsets_of c.in_ok-push.ensures.ok ∙ offsets-more l.levels.items c.in_ok-next.next in
    ap (λ (x : List Offset). front_then x ((levels f (l.left - 1)).read rest)) all ∙ more

pub returns-in_err-word : goal.returns-in_err-word
returns-in_err-word c =
    let p = err_from_is_err_and c.from_residual-in_err-word.result c.from_residual-in_err-word.ensures.1 in
    let l = c.loop-alloc in
    let f = fields_of c.args.shape.now in
    let test : (nat_lt 0 l.left && begins 111 l.cursor.rest.now) ≡ false = sym c.goes_on.ensures ∙ c.loop-alloc-test.false in
    rw (p.1, p.2) (end-fails f (offsets_of l.levels.items) l.left l.cursor.rest.now c.word.new.self.rest.now c.in_err-word.field-0.0 ((levels f c.args.count).read c.args.cursor.now.rest.now) test c.in_err-word.ensures l.invariant)

pub returns : goal.returns
returns c =
    let l = c.loop-alloc in
    let f = fields_of c.args.shape.now in
    let test : (nat_lt 0 l.left && begins 111 l.cursor.rest.now) ≡ false = sym c.goes_on.ensures ∙ c.loop-alloc-test.false in
    levels-end f (offsets_of l.levels.items) l.left l.cursor.rest.now c.word.new.self.rest.now ((levels f c.args.count).read c.args.cursor.now.rest.now) test c.in_ok-word.ensures l.invariant

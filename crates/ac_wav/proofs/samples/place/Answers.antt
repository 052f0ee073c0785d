use Rattle.std.proofs.Common.{◌≡◌, ◌≤◌, ◌+◌, ◌*◌, arith, ap, ◌∙◌, slice_index}
use Rattle.ac_wav.specs.Samples.{align_of, offset_of}
use Rattle.ac_wav.proofs.Rooms.{offset_room}
use Rattle.ac_wav.proofs.samples.place.Goals as goal

pub overflow_add-result : goal.overflow_add-result
overflow_add-result c =
    let r = offset_room c.args.head.now c.args.c c.args.t c.args.length c.requires.profile c.requires.below in
    let e : c.args.t * c.align.result + c.from.result * c.from-2.result ≡ offset_of c.args.head.now c.args.c c.args.t =
    ap (λ a. c.args.t * a + c.from.result * c.from-2.result) c.align.ensures.value
    ∙ (ap (λ o. c.args.t * align_of c.args.head.now + o * c.from-2.result) c.from.ensures ∙ ap (λ w. c.args.t * align_of c.args.head.now + slice_index c.args.head.now.order c.args.c * w) c.from-2.ensures) in
    let most : offset_of c.args.head.now c.args.c c.args.t ≤ c.args.length = omega (arith, r) in
    let all : c.args.t * c.align.result + c.from.result * c.from-2.result ≤ c.args.length = omega (arith, e, most) in
    omega (arith, all, c.ranges.length.fits)

pub returns-clause-room : goal.returns-clause-room
returns-clause-room c =
    let r = offset_room c.args.head.now c.args.c c.args.t c.args.length c.requires.profile c.requires.below in
    let e : c.args.t * c.align.result + c.from.result * c.from-2.result ≡ offset_of c.args.head.now c.args.c c.args.t =
    ap (λ a. c.args.t * a + c.from.result * c.from-2.result) c.align.ensures.value
    ∙ (ap (λ o. c.args.t * align_of c.args.head.now + o * c.from-2.result) c.from.ensures ∙ ap (λ w. c.args.t * align_of c.args.head.now + slice_index c.args.head.now.order c.args.c * w) c.from-2.ensures) in
    omega (arith, r, e)

pub overflow_mul-result : goal.overflow_mul-result
overflow_mul-result c =
    let r = offset_room c.args.head.now c.args.c c.args.t c.args.length c.requires.profile c.requires.below in
    let m : c.args.t * c.align.result ≡ c.args.t * align_of c.args.head.now = ap (λ a. c.args.t * a) c.align.ensures.value in
    omega (arith, r, m, c.ranges.length.fits)

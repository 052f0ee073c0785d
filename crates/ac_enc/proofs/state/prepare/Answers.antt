use Rattle.std.proofs.Common.{◌∙◌, arith}
use Rattle.ac_energy.specs.Coefficients.{entry}
use Rattle.ac_enc.specs.Frame.{coefficients, joined_by}
use Rattle.ac_enc.specs.Sounds.{layout_in}
use Rattle.ac_enc.proofs.Alike.{flags_same}
use Rattle.ac_enc.proofs.Coordinates.{coordinates_same}
use Rattle.ac_enc.proofs.Made.{transformed, small_of, joint_agrees}
use Rattle.ac_enc.proofs.OneShape.{of_for, channels_are, alike_of, alike_full, for_same}
use Rattle.ac_enc.proofs.state.prepare.Goals as goal

pub shape_for-shape-requires-clause-small : goal.shape_for-shape-requires-clause-small
shape_for-shape-requires-clause-small c = small_of (layout_in c.args.sound.now) c.channels.result c.transform_channels.new.coefs.c c.channels.ensures.value c.transform_channels.ensures.bound

pub join-joint-requires : goal.join-joint-requires
join-joint-requires c =
    let o = c.args.options.now in
    let l = layout_in c.args.sound.now in
    let z = entry c.transform_channels.new.coefs.c in
    let small = small_of l c.channels.result c.transform_channels.new.coefs.c c.channels.ensures.value c.transform_channels.ensures.bound in
    let of = of_for o l c.args.words z c.shape_for-shape.result c.shape_for-shape.ensures.shape in
    record { small = λ channel b k below block bin. let e = channels_are l c.args.words c.shape_for-shape.result of in small channel b k (omega (arith, below, e)) block bin }

pub returns-clause-shape : goal.returns-clause-shape
returns-clause-shape c =
    let l = layout_in c.args.sound.now in
    let x = joined_by c.args.last.now c.args.pcm.now in
    let coefs = c.transform_channels.new.coefs.c in
    let same = transformed l c.channels.result x coefs c.channels.ensures.value c.transform_channels.ensures.value in
    for_same c.args.options.now l c.args.words (entry coefs) (coefficients x) c.shape_for-shape.result same c.shape_for-shape.ensures.shape

pub returns-clause-flags : goal.returns-clause-flags
returns-clause-flags c =
    let l = layout_in c.args.sound.now in
    let x = joined_by c.args.last.now c.args.pcm.now in
    let coefs = c.transform_channels.new.coefs.c in
    let shape = c.shape_for-shape.result in
    let same = transformed l c.channels.result x coefs c.channels.ensures.value c.transform_channels.ensures.value in
    let of = of_for c.args.options.now l c.args.words (entry coefs) shape c.shape_for-shape.ensures.shape in
    c.join-joint.ensures.flags ∙ flags_same shape (entry coefs) (coefficients x) (alike_full l c.args.words shape (entry coefs) (coefficients x) of same)

pub returns-clause-coordinates : goal.returns-clause-coordinates
returns-clause-coordinates c =
    let l = layout_in c.args.sound.now in
    let x = joined_by c.args.last.now c.args.pcm.now in
    let coefs = c.transform_channels.new.coefs.c in
    let shape = c.shape_for-shape.result in
    let same = transformed l c.channels.result x coefs c.channels.ensures.value c.transform_channels.ensures.value in
    let of = of_for c.args.options.now l c.args.words (entry coefs) shape c.shape_for-shape.ensures.shape in
    coordinates_same shape (entry coefs) (coefficients x) c.join-joint.result.coords (alike_full l c.args.words shape (entry coefs) (coefficients x) of same) c.join-joint.ensures.coordinates

pub returns-clause-joint : goal.returns-clause-joint
returns-clause-joint c =
    let l = layout_in c.args.sound.now in
    let x = joined_by c.args.last.now c.args.pcm.now in
    let coefs = c.transform_channels.new.coefs.c in
    let shape = c.shape_for-shape.result in
    let same = transformed l c.channels.result x coefs c.channels.ensures.value c.transform_channels.ensures.value in
    let of = of_for c.args.options.now l c.args.words (entry coefs) shape c.shape_for-shape.ensures.shape in
    let agrees = joint_agrees shape (entry coefs) (coefficients x) (alike_of l c.args.words shape (entry coefs) (coefficients x) of same) in
    λ channel b k below block inside. c.join-joint.ensures.joint channel b k below block inside ∙ agrees channel b k below block inside

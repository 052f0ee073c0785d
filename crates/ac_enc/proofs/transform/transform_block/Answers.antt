use Rattle.std.proofs.Common.{◌∙◌}
use Rattle.ac_enc.specs.Frame.{joined}
use Rattle.ac_enc.proofs.Places.{block_sum}
use Rattle.ac_enc.proofs.transform.transform_block.Goals as goal

pub returns-clause-value : goal.returns-clause-value
returns-clause-value c = λ k below.
    let x = joined c.args.last.now c.args.pcm.now in
    c.forward.ensures.value k below ∙ block_sum x c.args.b k c.places-prev.result c.places-now.result c.places-prev.ensures.len c.places-prev.ensures.value c.places-now.ensures.value

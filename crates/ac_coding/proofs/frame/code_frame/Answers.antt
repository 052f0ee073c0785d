use Rattle.std.proofs.Common.{◌*◌, ◌∙◌, take, ap, sym, subst}
use Rattle.ac_base.specs.declared.shapes.Shape.{Shape}
use Rattle.ac_sent.specs.Asked.{IsQuantised}
use Rattle.ac_sent.specs.Packed.{IsPacked}
use Rattle.ac_sent.specs.Values.{Quantised}
use Rattle.ac_energy.specs.Coefficients.{entry}
use Rattle.ac_coding.proofs.OneFrame.{shape_is, flags_are, coordinates_are, back}
use Rattle.ac_coding.proofs.Values.{asked_by_rows, are_quantised}
use Rattle.ac_coding.proofs.frame.code_frame.Goals as goal

pub pack-requires : goal.pack-requires
pack-requires c =
    let q = c.args.q.now in
    let asked = asked_by_rows q c.args.coefs.now.c c.args.raw.now.e c.args.t c.args.assign.now c.requires.small c.requires.raw c.requires.offset c.requires.assigned c.requires.fits c.requires.sized c.requires.coordinates in
    record { asked = subst IsQuantised (sym c.quantise_frame.ensures) (are_quantised q.shape (entry c.args.coefs.now.c) c.args.t c.args.assign.now q.remat q.coords asked) }

pub returns : goal.returns
returns c =
    let q = c.args.q.now in
    let x = entry c.args.coefs.now.c in
    let t = c.args.t in
    let assign = c.args.assign.now in
    let e = c.quantise_frame.ensures in
    let asked = asked_by_rows q c.args.coefs.now.c c.args.raw.now.e t assign c.requires.small c.requires.raw c.requires.offset c.requires.assigned c.requires.fits c.requires.sized c.requires.coordinates in
    let frame = take c.pack.result c.pack.new.out in
    let packed = subst (λ (v : Quantised). IsPacked v frame) e c.pack.ensures.frame in
    let shape = ap (λ (v : Quantised). v.shape) e ∙ shape_is q.shape x t assign q.remat q.coords in
    record {
      size = c.pack.ensures.size ∙ ap (λ (s : Shape). 2 * s.words) shape;
      frame = packed;
      back = λ f reading. back q.shape x t assign q.remat q.coords frame f asked packed reading;
      rest = c.pack.ensures.rest;
      same_shape = shape;
      same_flags = ap (λ (v : Quantised). v.remat) e ∙ flags_are q.shape x t assign q.remat q.coords;
      same_coordinates = ap (λ (v : Quantised). v.coords) e ∙ coordinates_are q.shape x t assign q.remat q.coords;
    }

use Rattle.std.proofs.Common.{arith, ◌∙◌}
use Rattle.ac_levels.specs.Reach.{IsZeroOutside}
use Rattle.ac_levels.proofs.Reaching.{spread_none, spread_more}
use Rattle.ac_levels.proofs.smooth.smooth.Goals as goal

pub returns : goal.returns
returns c =
    let n = c.args.n in
    let places = c.args.places.now in
    let zero1 : IsZeroOutside n c.pass.new.new = λ p out. c.pass.ensures.outside p out ∙ c.requires.odd p out in
    let zero2 : IsZeroOutside n c.pass-2.new.new = λ p out. c.pass-2.ensures.outside p out ∙ c.requires.even p out in
    let zero3 : IsZeroOutside n c.pass-3.new.new = λ p out. c.pass-3.ensures.outside p out ∙ zero1 p out in
    let zero4 : IsZeroOutside n c.pass-4.new.new = λ p out. c.pass-4.ensures.outside p out ∙ zero2 p out in
    record {
      spread = λ zero.
          let s1 = spread_more 0 n 1 places places c.pass.new.new (omega arith) (omega arith) c.pass.ensures.inside zero1 (spread_none n places zero) in
          let s2 = spread_more 1 n 2 places c.pass.new.new c.pass-2.new.new (omega arith) (omega arith) c.pass-2.ensures.inside zero2 s1 in
          let s3 = spread_more 3 n 4 places c.pass-2.new.new c.pass-3.new.new (omega arith) (omega arith) c.pass-3.ensures.inside zero3 s2 in
          spread_more 7 n 4 places c.pass-3.new.new c.pass-4.new.new (omega arith) (omega arith) c.pass-4.ensures.inside zero4 s3;
      odd = zero3;
      even = zero4;
    }

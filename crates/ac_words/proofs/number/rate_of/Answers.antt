use Rattle.std.proofs.Common.{◌<◌, ◌^◌, arith}
use Rattle.ac_words.proofs.RateTexts.{rate_fits, rate_written}
use Rattle.ac_words.proofs.number.rate_of.Goals as goal

pub returns-in-Some : goal.returns-in-Some
returns-in-Some c =
    let fits : c.in-Some.number < 2 ^ 64 = omega arith in
    rate_written c.args.text.now c.in-Some.number fits c.in-Some.ensures c.as_rate.result c.as_rate.ensures

pub returns-in-None : goal.returns-in-None
returns-in-None c = λ rate h. c.in-None.ensures rate (rate_fits rate h.1) h.0

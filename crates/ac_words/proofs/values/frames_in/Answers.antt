use Rattle.std.proofs.Common.{◌<◌, ◌^◌, Bor, Option, arith, option_map, subst}
use Rattle.ac_words.specs.Grammar.{FramesOf, Text}
use Rattle.ac_words.proofs.Numbers.{same_number}
use Rattle.ac_words.proofs.values.frames_in.Goals as goal

pub returns-then-frames-lt1 : goal.returns-then-frames-lt1
returns-then-frames-lt1 c = λ frames h.
    let said = subst (λ (value : Option (Bor Text)). FramesOf (option_map (λ text. text.now) value) frames) c.in-Some.is h in
    let fits : frames < 2 ^ 64 = omega (arith, said.0.1) in
    let other : c.in-Some-number_to.frames < 2 ^ 64 = omega arith in
    let same = same_number c.in-Some.text.now frames c.in-Some-number_to.frames fits other said.0.0 c.in-Some-number_to.ensures.0 in
    omega (arith, said.1, same)

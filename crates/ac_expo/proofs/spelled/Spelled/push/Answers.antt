use Rattle.std.proofs.Common.{◌<◌, length, subst, sym}
use Rattle.ac_expo.specs.Spelling.{Spelling}
use Rattle.ac_expo.proofs.Kept.{kept_push}
use Rattle.ac_expo.proofs.spelled.Spelled.push.Goals as goal

pub invariant_of-self : goal.invariant_of-self
invariant_of-self c =
    let P : Spelling → Type 0 = λ v. length v.groups < 84 in
    kept_push c.self.inside c.args.group c.self.invariant (subst P (sym c.self.view_is) c.requires)

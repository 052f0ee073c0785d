use Rattle.std.proofs.Common.{◌≡◌, ◌-◌, ◌<◌, length, arith, drop, take, length-take, subst, ℕ}
use Rattle.std.specs.Prelude.{MatchResult}
use Rattle.ac_io.specs.Within.{ReadsAll, IsLonger}
use Rattle.ac_io.proofs.Limits.{up_to_limit, most_read}
use Rattle.ac_io.proofs.within.read_within.Goals as goal

pub returns-clause-told : goal.returns-clause-told
returns-clause-told g c = λ bytes at.
    let short : c.args.limit - c.args.taken < length c.args.into.now = omega arith in
    let room : length (take (c.args.limit - c.args.taken) c.args.into.now) ≡ c.args.limit - c.args.taken = omega (arith, length-take (c.args.limit - c.args.taken) c.args.into.now) in
    let long : length c.read_to_limit.new.into ≡ c.args.limit - c.args.taken = omega (arith, c.read_to_limit.auto.into, room) in
    let read = c.read_to_limit.ensures.told (drop c.args.taken bytes) at.left_is in
    let same = subst (λ (r : ℕ). MatchResult c.read_to_limit.result (λ n. ReadsAll (drop c.args.taken bytes) n c.read_to_limit.new.into (g.S.Source.left c.read_to_limit.new.input)) (λ why. IsLonger (drop c.args.taken bytes) r why (g.S.Source.left c.read_to_limit.new.input))) room read in
    up_to_limit bytes c.args.taken c.args.limit c.args.into.now c.read_to_limit.new.into _ c.read_to_limit.result at.within c.requires long short same

pub returns-clause-most_read : goal.returns-clause-most_read
returns-clause-most_read g c = λ bytes at.
    let room : length (take (c.args.limit - c.args.taken) c.args.into.now) ≡ c.args.limit - c.args.taken = omega (arith, length-take (c.args.limit - c.args.taken) c.args.into.now) in
    most_read bytes c.args.taken (length c.args.into.now) c.args.limit (length (take (c.args.limit - c.args.taken) c.args.into.now)) _ _ c.read_to_limit.result (omega (arith, room, c.requires)) c.read_to_limit.ensures.count (returns-clause-told g c bytes at)

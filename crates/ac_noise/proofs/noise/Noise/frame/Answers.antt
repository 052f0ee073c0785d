use Rattle.std.proofs.Common.{◌+◌, ◌*◌, ◌^◌, ◌<◌, ℕ, [], ◌∷◌, slice_index_or, subst}
use Rattle.ac_base.specs.Sigma.{Lists, Within}
use Rattle.ac_noise.specs.Noise.{Noising, noise_at}
use Rattle.ac_noise.proofs.Channels.{by_channel, inside_of, left_row, next_frame, outside_of, right_row}
use Rattle.ac_noise.proofs.Filling.{filled_within, silence, silence_within, silent_at}
use Rattle.ac_noise.proofs.noise.Noise.frame.Goals as goal

pub returns-clause-value : goal.returns-clause-value
returns-clause-value c =
    let a = c.self.inside in
    let n = c.samples_in-end.result in
    let inside = inside_of n a.frames a.given c.samples_in-end.ensures in
    let outside = outside_of n a.frames a.given c.samples_in-end.ensures in
    let left = c.fill-self-inside.new.left in
    let right = c.fill-self-inside.new.right in
    let rows = left ∷ right ∷ silence ∷ silence ∷ silence ∷ silence ∷ [] in
    subst
    (λ (s : Noising). (ch : ℕ) → ch < 6 → Lists 1536 (λ t. noise_at s.seed s.frames ch (1536 * s.given + t)) (slice_index_or rows ch []))
    c.self.view_is
    (by_channel (λ ch row. Lists 1536 (λ t. noise_at a.seed a.frames ch (1536 * a.given + t)) row) left right silence
    (left_row a.seed a.frames a.given a.state n inside outside c.self.invariant left c.fill-self-inside.ensures.left)
    (right_row a.seed a.frames a.given a.state n inside outside c.self.invariant right c.fill-self-inside.ensures.right)
    silent_at silent_at silent_at silent_at)

pub returns-clause-bound : goal.returns-clause-bound
returns-clause-bound c =
    let left = c.fill-self-inside.new.left in
    let right = c.fill-self-inside.new.right in
    by_channel (λ ch row. Within (2 ^ 23) 1536 row) left right silence
    (filled_within _ _ left c.fill-self-inside.ensures.left) (filled_within _ _ right c.fill-self-inside.ensures.right)
    silence_within silence_within silence_within silence_within

pub invariant_of-self : goal.invariant_of-self
invariant_of-self c =
    let a = c.self.inside in
    next_frame a.seed a.frames a.given a.state c.fill-self-inside.result c.samples_in-end.result c.samples_in-end.ensures c.self.invariant
    c.fill-self-inside.ensures.state

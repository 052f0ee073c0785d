-- The fields of a head are sound.
use Rattle.std.proofs.Common.{◌≡◌, ◌<◌, ◌≤◌, ◌^◌, refl, None, arith}
use Rattle.ac_rows.specs.declared.head.Head.{Head}
use Rattle.ac_rows.specs.declared.head_groups.Layout.{Layout}
use Rattle.ac_codec.specs.Codec.{field, pair, shaped, free}
use Rattle.ac_codec.proofs.Sound.{Sound, field_sound, tested_bit_sound, pair_sound, shaped_sound, given_sound, free_sound}
use Rattle.ac_rows.specs.HeadRows.{layout_rows, layout, layout_to, layout_from, service_rows, service, service_to, service_from}
use Rattle.ac_rows.specs.HeadRows.{head_fields, head_to, head_from, whole_head, addbsi_bits, layout_of, no_dual}

layout_rows_sound : Sound layout_rows
unfolding layout_rows
layout_rows_sound = search (pair_sound, field_sound, tested_bit_sound, given_sound) depth 60

pub layout_sound : Sound layout
unfolding layout
layout_sound = shaped_sound layout_to layout_from layout_rows (λ _. refl) (λ _. refl) layout_rows_sound

service_rows_sound : Sound service_rows
unfolding service_rows
service_rows_sound = search (pair_sound, field_sound, tested_bit_sound, given_sound) depth 60

pub service_sound : Sound service
unfolding service
service_sound = shaped_sound service_to service_from service_rows (λ _. refl) (λ _. refl) service_rows_sound

pub head_sound : Sound head_fields
unfolding head_fields
head_sound =
    shaped_sound head_to head_from (pair layout (λ _. service)) (λ _. refl) (λ _. refl)
    (pair_sound layout (λ _. service) layout_sound (λ _. service_sound))

pub whole_head_sound : Sound whole_head
unfolding whole_head
whole_head_sound = pair_sound head_fields (λ h. free (addbsi_bits h)) head_sound (λ h. free_sound (addbsi_bits h))

-- what a lawful head says of acmod
layout_channels : (x : Layout) → layout.Lawful x → (x.acmod < 2 ^ 3) × (no_dual x.acmod ≡ None)
unfolding layout layout_rows shaped pair field
layout_channels x h = h.1.1.1.1.1.1.0

pub head_channels : (h : Head) → head_fields.Lawful h → h.acmod ≤ 7
unfolding head_fields shaped pair
head_channels h k = let r = (layout_channels (layout_of h) k.0).0 in omega (arith, r)

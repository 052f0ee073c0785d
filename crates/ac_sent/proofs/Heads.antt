-- The head that is sent is lawful.
use Rattle.std.proofs.Common.{◌≡◌, ℕ, ◌<◌, ◌≤◌, ◌^◌, false, [], None, refl, arith}
use Rattle.std.proofs.lemmas.Bool.{lt-ltb, ne_eqb}
use Rattle.ac_base.specs.declared.shapes.Shape.{Shape}
use Rattle.ac_base.specs.Shape.{has_center, has_surround, is_stereo}
use Rattle.ac_codec.specs.declared.refused.Row.{Row}
use Rattle.ac_codec.specs.Codec.{field, any, below, free, tested_bit, pair, shaped}
use Rattle.ac_rows.specs.HeadRows.{no_dual, layout, layout_rows, service, service_rows, head_fields, whole_head, layout_of, service_of}
use Rattle.ac_sent.specs.Fields.{sent_head}
use Rattle.ac_sent.proofs.Listed.{given_when, given_not}

below_lawful : (n v : ℕ) (row : Row) → v < n → below n row v ≡ None
below_lawful n v row lt = rw (lt-ltb v n lt) refl

dual_lawful : (v : ℕ) → 1 ≤ v → no_dual v ≡ None
dual_lawful v some = rw (ne_eqb v 0 (omega arith)) refl

layout_lawful : (shape : Shape) (frmsizecod crc1 : ℕ) → frmsizecod < 38 → crc1 < 2 ^ 16 → layout.Lawful (layout_of (sent_head shape frmsizecod crc1))
unfolding layout layout_rows shaped pair tested_bit field
layout_lawful shape code crc1 known word = (
  (omega arith, refl),
  (
    (omega (arith, word), refl),
    (
      (omega (arith, shape.sampling), below_lawful 3 shape.fscod _ (omega (arith, shape.sampling))),
      (
        (omega (arith, known), below_lawful 38 code _ known),
        (
          (omega arith, refl),
          (
            (omega arith, refl),
            (
              (omega (arith, shape.channels), dual_lawful shape.acmod shape.some_channel),
              (
                given_when (has_center shape.acmod) (field 2 any) 0 (λ e. (omega arith, refl)),
                (
                  given_when (has_surround shape.acmod) (field 2 any) 0 (λ e. (omega arith, refl)),
                  (given_when (is_stereo shape.acmod) (field 2 any) 0 (λ e. (omega arith, refl)), (refl, (omega arith, refl))),
                ),
              ),
            ),
          ),
        ),
      ),
    ),
  ),
)

service_lawful : (shape : Shape) (frmsizecod crc1 : ℕ) → service.Lawful (service_of (sent_head shape frmsizecod crc1))
unfolding service service_rows shaped pair tested_bit
service_lawful shape code crc1 = (
  refl,
  (
    given_not false (field 8 any) refl,
    (
      refl,
      (
        given_not false (field 8 any) refl,
        (
          refl,
          (
            given_not false (field 5 any) refl,
            (
              given_not false (field 2 any) refl,
              (
                refl,
                (
                  refl,
                  (
                    refl,
                    (given_not false (field 14 any) refl, (refl, (given_not false (field 14 any) refl, (refl, given_not false (field 6 any) refl)))),
                  ),
                ),
              ),
            ),
          ),
        ),
      ),
    ),
  ),
)

pub head_lawful : (shape : Shape) (frmsizecod crc1 : ℕ) → frmsizecod < 38 → crc1 < 2 ^ 16 → head_fields.Lawful (sent_head shape frmsizecod crc1)
unfolding head_fields shaped pair
head_lawful shape code crc1 known word = (layout_lawful shape code crc1 known word, service_lawful shape code crc1)

pub whole_head_lawful : (shape : Shape) (frmsizecod crc1 : ℕ) → frmsizecod < 38 → crc1 < 2 ^ 16 → whole_head.Lawful (sent_head shape frmsizecod crc1, [])
unfolding whole_head pair free
whole_head_lawful shape code crc1 known word = (head_lawful shape code crc1 known word, refl)

use Rattle.ac_bits.proofs.Laws.{appends-then}
use Rattle.ac_codec.specs.Codec.{field, pair, shaped, given, tested_bit}
use Rattle.ac_rows.specs.HeadRows.{layout, layout_rows}
use Rattle.ac_row_writing.proofs.head.write_layout.Goals as goal

pub returns-clause-adds : goal.returns-clause-adds
unfolding layout layout_rows pair shaped field given tested_bit
returns-clause-adds c =
    appends-then c.put.ensures.bits (appends-then c.put-2.ensures.bits
    (appends-then c.put-3.ensures.bits (appends-then c.put-4.ensures.bits
    (appends-then c.put-5.ensures.bits (appends-then c.put-6.ensures.bits
    (appends-then c.put-7.ensures.bits (appends-then c.put_optional.ensures.adds
    (appends-then c.put_optional-2.ensures.adds (appends-then c.put_optional-3.ensures.adds
    (appends-then c.put_bit.ensures.adds (c.put-8.ensures.bits)))))))))))

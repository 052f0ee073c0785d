use Rattle.ac_bits.proofs.Laws.{appends-then}
use Rattle.ac_codec.specs.Codec.{field, pair, shaped, given, tested_bit}
use Rattle.ac_rows.specs.HeadRows.{service, service_rows}
use Rattle.ac_row_writing.proofs.head.write_service.Goals as goal

pub returns-clause-adds : goal.returns-clause-adds
unfolding service service_rows pair shaped field given tested_bit
returns-clause-adds c =
    appends-then c.put_bit.ensures.adds (appends-then c.put_optional.ensures.adds
    (appends-then c.put_bit-2.ensures.adds (appends-then c.put_optional-2.ensures.adds
    (appends-then c.put_bit-3.ensures.adds (appends-then c.put_optional-3.ensures.adds
    (appends-then c.put_optional-4.ensures.adds (appends-then c.put_bit-4.ensures.adds
    (appends-then c.put_bit-5.ensures.adds (appends-then c.put_bit-6.ensures.adds
    (appends-then c.put_optional_wide.ensures.adds (appends-then c.put_bit-7.ensures.adds
    (appends-then c.put_optional_wide-2.ensures.adds (appends-then c.put_bit-8.ensures.adds (c.put_optional-5.ensures.adds))))))))))))))

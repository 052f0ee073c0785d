-- The frame of values that are handed in: the one list of bits whose fields are those that this encoder sends.
use Rattle.std.specs.Prelude.{◌≡◌, ◌≢◌, ◌⊎◌, ℕ, ◌&&◌, nat_lt, is_some, Bool, true, false, List, [], replicate}
use Rattle.ac_base.specs.Shape.{full_of}
use Rattle.ac_bits.specs.Bits.{bits_of}
use Rattle.ac_crc.specs.Remainder.{IsRemainder}
use Rattle.ac_expo.specs.Raw.{channel_span}
use Rattle.ac_mant.specs.declared.coded.Coded.{Coded}
use Rattle.ac_mant.specs.Groups.{coded, zeros}
use Rattle.ac_rows.specs.BlockRows.{skip_bits}
use Rattle.ac_rows.specs.Filled.{listed}
use Rattle.ac_record.specs.Order.{order_of, over_channels}
use Rattle.ac_record.specs.Readings.{cell}
use Rattle.ac_record.specs.Records.{BlockRecord, Record, record_spelled, StandsFor}
use Rattle.ac_record.specs.CrcParts.{all_part}
use Rattle.ac_sent.specs.Values.{Quantised}
use Rattle.ac_sent.specs.Asked.{IsSizeCode}
use Rattle.ac_sent.specs.Fields.{sent_head, sent_block, pointer_at, parts_at}
use Rattle.ac_sent.specs.Padding.{aux_bits}

-- the mantissas of a block in order (A/52 5.3.3)
abbrev pub sent_mantissas : Quantised → ℕ → List Coded
sent_mantissas q b =
    let coupled = is_some q.shape.couple in
    over_channels (channel_span q.shape)
    (order_of (λ i. coupled && nat_lt i (full_of q.shape.acmod)) (full_of q.shape.acmod) coupled q.shape.lfe)
    (λ c k. coded (pointer_at q c b k) (cell q.codes c b k))

-- a block: its skip bytes are 0, and so are the codes that its last groups lack
abbrev pub sent_part : Quantised → ℕ → BlockRecord
sent_part q b = record {
  fields = sent_block q b;
  skipped = replicate (skip_bits (sent_block q b)) false;
  mantissas = sent_mantissas q b;
  missing = zeros;
}

-- the frame with these CRC words; aux bits and auxdatae are 0
unfoldable pub sent_record : Quantised → ℕ → ℕ → Bool → ℕ → Record
sent_record q frmsizecod crc1 crcrsv crc2 = record {
  head = sent_head q.shape frmsizecod crc1;
  addbsi = [];
  blocks = listed 6 0 (sent_part q);
  aux = replicate (aux_bits q.shape.words (parts_at q).total (parts_at q).last) false;
  auxdatae = false;
  crcrsv = crcrsv;
  crc2 = crc2;
}

-- These bytes are the frame. crcrsv is 0, or 1 where crc2 would else be the syncword (A/52 5.4.5.1).
pub record IsPacked (q : Quantised) (frame : List ℕ) : Type 0 where
  pub frmsizecod : ℕ
  pub crc1 : ℕ
  pub crcrsv : Bool
  pub crc2 : ℕ
  pub size : IsSizeCode q.shape.fscod q.shape.words frmsizecod
  pub stands : StandsFor (bits_of frame) (sent_record q frmsizecod crc1 crcrsv crc2)
  pub reserved : ((crcrsv ≡ false) × (crc2 ≢ 0x0B77))
      ⊎ ((crcrsv ≡ true) × IsRemainder (all_part (record_spelled (sent_record q frmsizecod crc1 false 0x0B77))) 0)

-- What is sent is a record.
use Rattle.std.proofs.Common.{ℕ, zero, suc, ◌+◌, ◌≤◌, List, [], subst, arith}
use Rattle.ac_rows.specs.Blocks.{Block}
use Rattle.ac_rows.specs.Filled.{listed}
use Rattle.ac_record.specs.Records.{AreBlocks}
use Rattle.ac_sent.specs.Values.{Quantised}
use Rattle.ac_sent.specs.Asked.{IsQuantised}
use Rattle.ac_sent.specs.Fields.{sent_head}
use Rattle.ac_sent.specs.Packed.{sent_part, sent_record}
use Rattle.ac_sent.specs.Laws.{SentIsRecord}
use Rattle.ac_sent.proofs.Listed.{length-listed}
use Rattle.ac_sent.proofs.Earlier.{sent_before, before_none, before_more}
use Rattle.ac_sent.proofs.Heads.{whole_head_lawful}
use Rattle.ac_sent.proofs.HeldPointers.{part_is_block}

-- n blocks from number i on stand behind the first i
pub are_blocks : (q : Quantised) → IsQuantised q → (frmsizecod crc1 n i : ℕ) → i + n ≤ 6 → AreBlocks (sent_head q.shape frmsizecod crc1) (sent_before q i) (listed n i (sent_part q))
unfolding AreBlocks listed
are_blocks q is code crc1 zero i room = tt
are_blocks q is code crc1 (suc n) i room =
    let h = sent_head q.shape code crc1 in (
      part_is_block q is code crc1 i (omega (arith, room)),
      subst (λ (l : List Block). AreBlocks h l (listed n (suc i) (sent_part q))) (before_more q i) (are_blocks q is code crc1 n (suc i) (omega (arith, room))),
    )

pub six_blocks : (q : Quantised) → IsQuantised q → (frmsizecod crc1 : ℕ) → AreBlocks (sent_head q.shape frmsizecod crc1) [] (listed 6 0 (sent_part q))
six_blocks q is code crc1 = subst (λ (l : List Block). AreBlocks (sent_head q.shape code crc1) l (listed 6 0 (sent_part q))) (before_none q) (are_blocks q is code crc1 6 0 (omega arith))

pub is_record : SentIsRecord
unfolding sent_record
is_record q code crc1 crcrsv crc2 is size word1 word2 = record {
  head = whole_head_lawful q.shape code crc1 size.known word1;
  six = length-listed 6 0 (sent_part q);
  blocks = six_blocks q is code crc1;
  word = word2;
}

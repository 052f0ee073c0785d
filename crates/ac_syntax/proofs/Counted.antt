-- For the tests.
use Rattle.std.proofs.Common.{◌≡◌, ◌+◌, ◌≤◌, ◌++◌, ◌∙◌, ap, sym, ℕ, List, Bool, Result, Ok, Err, length, arith, length-append}
use Rattle.std.specs.Prelude.{replicate, false, IfOk}
use Rattle.std.proofs.lemmas.List.{length-replicate}
use Rattle.ac_codec.specs.declared.refused.Refused.{Refused}
use Rattle.ac_codec.specs.Codec.{Codec, pair, free}
use Rattle.ac_rows.specs.Blocks.{Block}
use Rattle.ac_rows.specs.declared.head.Head.{Head}
use Rattle.ac_rows.specs.HeadRows.{head_fields, whole_head, addbsi_bits}
use Rattle.ac_rows.specs.BlockRows.{block_fields, whole_block, skip_bits}

-- free bits are as many as zeros in their place
same_count : {A : Type 0} (c : Codec A) (n : A → ℕ) (a : A) (x : List Bool) → (pair c (λ b. free (n b))).Lawful (a, x)
    → c.Lawful a × (length ((pair c (λ b. free (n b))).spell (a, x)) ≡ length ((pair c (λ b. free (n b))).spell (a, replicate (n a) false)))
unfolding pair free
same_count c n a x h = (
  h.0,
  length-append (c.spell a) x ∙ (ap (λ k. length (c.spell a) + k) (h.1 ∙ sym (length-replicate (n a) false))
      ∙ sym (length-append (c.spell a) (replicate (n a) false))),
)

pub head_lawful : (r : Result Head Refused) (old new : List Bool)
    → IfOk r (λ h. (addbsi : List Bool) × whole_head.Lawful (h, addbsi) × (old ≡ whole_head.spell (h, addbsi) ++ new))
    → IfOk r (λ h. head_fields.Lawful h)
unfolding whole_head
head_lawful (Ok h) old new k = (same_count head_fields addbsi_bits h k.0 k.1).0
head_lawful (Err e) old new k = tt

pub head_length : (r : Result Head Refused) (old new : List Bool)
    → IfOk r (λ h. (addbsi : List Bool) × whole_head.Lawful (h, addbsi) × (old ≡ whole_head.spell (h, addbsi) ++ new))
    → IfOk r (λ h. length old ≡ length (whole_head.spell (h, replicate (addbsi_bits h) false)) + length new)
unfolding whole_head
head_length (Ok h) old new k =
    let s = (same_count head_fields addbsi_bits h k.0 k.1).1 in
    ap length k.2 ∙ (length-append (whole_head.spell (h, k.0)) new ∙ ap (λ n. n + length new) s)
head_length (Err e) old new k = tt

pub block_lawful : (h : Head) (earlier : List Block) (b : Block) (skipped : List Bool) → (whole_block h earlier).Lawful (b, skipped)
    → (block_fields h earlier).Lawful b
unfolding whole_block
block_lawful h earlier b x k = (same_count (block_fields h earlier) skip_bits b x k).0

pub block_length : (h : Head) (earlier : List Block) (b : Block) (skipped old new : List Bool) → (whole_block h earlier).Lawful (b, skipped)
    → old ≡ (whole_block h earlier).spell (b, skipped) ++ new
    → length ((whole_block h earlier).spell (b, replicate (skip_bits b) false)) ≤ length old
unfolding whole_block
block_length h earlier b x old new k e =
    let s = (same_count (block_fields h earlier) skip_bits b x k).1 in
    omega (arith, ap length e, length-append ((whole_block h earlier).spell (b, x)) new, s)

-- Heads are told by their bits, and with the blocks behind them the fields of a frame.
use Rattle.std.proofs.Common.{◌≡◌, inl, inr, Bool, List, [], ◌++◌, length, ap, sym, subst, ◌∙◌}
use Rattle.ac_codec.specs.declared.refused.Refused.{Refused}
use Rattle.ac_codec.proofs.Faithful.{faithful}
use Rattle.ac_codec.proofs.Sound.{one_value}
use Rattle.ac_rows.specs.declared.head.Head.{Head}
use Rattle.ac_rows.specs.HeadRows.{whole_head}
use Rattle.ac_rows.proofs.HeadSound.{whole_head_sound}
use Rattle.ac_record.specs.Records.{BlockRecord, blocks_spelled, AreBlocks}
use Rattle.ac_record.specs.Faults.{BlocksRefuse, FieldsRefuse}
use Rattle.ac_record.proofs.Blocks.{blocks_apart, blocks_one}

-- bits that begin with a head and six blocks aren't refused
pub fields_apart : (h : Head) (addbsi : List Bool) (xs : List BlockRecord) (l rest : List Bool) (e : Refused) → whole_head.Lawful (h, addbsi) → length xs ≡ 6 → AreBlocks h [] xs → l ≡ whole_head.spell (h, addbsi) ++ (blocks_spelled h [] xs ++ rest) → FieldsRefuse l e → ⊥
fields_apart h addbsi xs l rest e lawful six are whole (inl (at, refuses)) =
    (faithful whole_head whole_head_sound).apart (h, addbsi) (blocks_spelled h [] xs ++ rest) e at lawful (subst (λ (b : List Bool). whole_head.Refuses b e at) whole refuses)
fields_apart h addbsi xs l rest e lawful six are whole (inr (g, free, more, may, is, behind)) =
    let both = one_value whole_head whole_head_sound (h, addbsi) (g, free) (blocks_spelled h [] xs ++ rest) more lawful may (sym whole ∙ is) in
    let same : g ≡ h = sym (ap (λ (z : Head × List Bool). z.0) both.0) in
    blocks_apart h [] xs 6 more rest e six are (sym both.1) (subst (λ (k : Head). BlocksRefuse k [] 6 more e) same behind)

-- and others are refused once
pub fields_one : (l : List Bool) (d e : Refused) → FieldsRefuse l d → FieldsRefuse l e → d ≡ e
fields_one l d e (inl (at, first)) (inl (there, second)) = ((faithful whole_head whole_head_sound).refusal l d e at there first second).0
fields_one l d e (inl (at, first)) (inr (h, addbsi, rest, lawful, is, behind)) =
    absurd ((faithful whole_head whole_head_sound).apart (h, addbsi) rest d at lawful (subst (λ (m : List Bool). whole_head.Refuses m d at) is first))
fields_one l d e (inr (h, addbsi, rest, lawful, is, behind)) (inl (there, second)) =
    absurd ((faithful whole_head whole_head_sound).apart (h, addbsi) rest e there lawful (subst (λ (m : List Bool). whole_head.Refuses m e there) is second))
fields_one l d e (inr (h, addbsi, rest, lawful, is, first)) (inr (g, free, more, may, whole, second)) =
    let both = one_value whole_head whole_head_sound (h, addbsi) (g, free) rest more lawful may (sym is ∙ whole) in
    let same : g ≡ h = sym (ap (λ (z : Head × List Bool). z.0) both.0) in
    let moved : BlocksRefuse h [] 6 more e = subst (λ (k : Head). BlocksRefuse k [] 6 more e) same second in
    blocks_one h [] 6 rest d e first (subst (λ (m : List Bool). BlocksRefuse h [] 6 m e) (sym both.1) moved)

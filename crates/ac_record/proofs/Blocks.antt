-- Blocks are told by their bits.
use Rattle.std.proofs.Common.{◌≡◌, inl, inr, ℕ, zero, suc, Bool, List, [], ◌∷◌, ◌++◌, append_assoc, length, refl, ap, ap₂, sym, subst, ◌∙◌, arith}
use Rattle.ac_codec.specs.declared.refused.Refused.{Refused}
use Rattle.ac_codec.proofs.Faithful.{faithful}
use Rattle.ac_codec.proofs.Sound.{one_value}
use Rattle.ac_mant.specs.Groups.{closed, pointers, spelled, Refuses}
use Rattle.ac_rows.specs.Blocks.{Block}
use Rattle.ac_rows.specs.declared.head.Head.{Head}
use Rattle.ac_rows.specs.BlockRows.{whole_block}
use Rattle.ac_rows.specs.Filled.{filled_of}
use Rattle.ac_rows.proofs.BlockSound.{whole_block_sound}
use Rattle.ac_record.specs.Held.{pointer_in}
use Rattle.ac_record.specs.Order.{in_order}
use Rattle.ac_record.specs.Records.{BlockRecord, block_spelled, blocks_spelled, fields_of, IsBlock, AreBlocks}
use Rattle.ac_record.specs.Faults.{refused_as, BlockRefuses, BlocksRefuse}
use Rattle.ac_record.specs.Laws.{mantissas_of}
use Rattle.ac_record.proofs.Mantissas.{one_list, spelled_apart, one_fault}

-- the pointers of a block's mantissas
abbrev wire : Head → List Block → Block → List ℕ
wire h earlier b = in_order h (filled_of h earlier b) (pointer_in h earlier b)

one_block : (h : Head) (earlier : List Block) (x y : BlockRecord) (l r : List Bool) → IsBlock h earlier x → IsBlock h earlier y → block_spelled h earlier x ++ l ≡ block_spelled h earlier y ++ r → (x.fields ≡ y.fields) × ((x.mantissas ≡ y.mantissas) × (l ≡ r))
one_block h earlier x y l r p q whole =
    let c = whole_block h earlier in
    let split : c.spell (x.fields, x.skipped) ++ (spelled x.missing closed x.mantissas ++ l) ≡ c.spell (y.fields, y.skipped) ++ (spelled y.missing closed y.mantissas ++ r) =
    sym (append_assoc (c.spell (x.fields, x.skipped)) (spelled x.missing closed x.mantissas) l)
    ∙ whole
    ∙ append_assoc (c.spell (y.fields, y.skipped)) (spelled y.missing closed y.mantissas) r in
    let both = one_value c (whole_block_sound h earlier) (x.fields, x.skipped) (y.fields, y.skipped) (spelled x.missing closed x.mantissas ++ l) (spelled y.missing closed y.mantissas ++ r) p.fields q.fields split in
    let same : x.fields ≡ y.fields = ap (λ (z : Block × List Bool). z.0) both.0 in
    let baps : pointers x.mantissas ≡ pointers y.mantissas = p.pointers ∙ ap (wire h earlier) same ∙ sym q.pointers in
    (same, one_list x.mantissas y.mantissas x.missing y.missing l r baps p.missing q.missing p.coded q.coded both.1)

-- as many blocks with the same bits have the same fields and mantissas
pub one_blocks : (h : Head) (earlier : List Block) (xs ys : List BlockRecord) (l r : List Bool) → length xs ≡ length ys → AreBlocks h earlier xs → AreBlocks h earlier ys → blocks_spelled h earlier xs ++ l ≡ blocks_spelled h earlier ys ++ r → (fields_of xs ≡ fields_of ys) × ((mantissas_of xs ≡ mantissas_of ys) × (l ≡ r))
unfolding blocks_spelled AreBlocks
one_blocks h earlier [] [] l r long p q whole = (refl, (refl, whole))
one_blocks h earlier [] (y ∷ ys) l r long p q whole = absurd (omega arith)
one_blocks h earlier (x ∷ xs) [] l r long p q whole = absurd (omega arith)
one_blocks h earlier (x ∷ xs) (y ∷ ys) l r long p q whole =
    let mine = blocks_spelled h (earlier ++ x.fields ∷ []) xs in
    let others = blocks_spelled h (earlier ++ y.fields ∷ []) ys in
    let split : block_spelled h earlier x ++ (mine ++ l) ≡ block_spelled h earlier y ++ (others ++ r) =
    sym (append_assoc (block_spelled h earlier x) mine l) ∙ whole ∙ append_assoc (block_spelled h earlier y) others r in
    let first = one_block h earlier x y (mine ++ l) (others ++ r) p.0 q.0 split in
    let moved : AreBlocks h (earlier ++ x.fields ∷ []) ys = subst (λ (b : Block). AreBlocks h (earlier ++ b ∷ []) ys) (sym first.0) q.1 in
    let behind : mine ++ l ≡ blocks_spelled h (earlier ++ x.fields ∷ []) ys ++ r = first.1.1 ∙ ap (λ (b : Block). blocks_spelled h (earlier ++ b ∷ []) ys ++ r) (sym first.0) in
    let rest = one_blocks h (earlier ++ x.fields ∷ []) xs ys l r (omega arith) p.1 moved behind in
    (ap₂ (λ a b. a ∷ b) first.0 rest.0, (ap₂ (λ a b. a ∷ b) first.1.0 rest.1.0, rest.1.1))

-- ---- refusals

block_apart : (h : Head) (earlier : List Block) (x : BlockRecord) (l rest : List Bool) (e : Refused) → IsBlock h earlier x → l ≡ block_spelled h earlier x ++ rest → BlockRefuses h earlier l e → ⊥
block_apart h earlier x l rest e p whole (inl (at, refuses)) =
    let c = whole_block h earlier in
    let split : l ≡ c.spell (x.fields, x.skipped) ++ (spelled x.missing closed x.mantissas ++ rest) = whole ∙ append_assoc (c.spell (x.fields, x.skipped)) (spelled x.missing closed x.mantissas) rest in
    (faithful c (whole_block_sound h earlier)).apart (x.fields, x.skipped) (spelled x.missing closed x.mantissas ++ rest) e at p.fields (subst (λ (b : List Bool). c.Refuses b e at) split refuses)
block_apart h earlier x l rest e p whole (inr (b, skipped, more, fault, lawful, is, refuses, as_one)) =
    let c = whole_block h earlier in
    let mine = spelled x.missing closed x.mantissas ++ rest in
    let split : c.spell (b, skipped) ++ more ≡ c.spell (x.fields, x.skipped) ++ mine = sym is ∙ whole ∙ append_assoc (c.spell (x.fields, x.skipped)) (spelled x.missing closed x.mantissas) rest in
    let both = one_value c (whole_block_sound h earlier) (b, skipped) (x.fields, x.skipped) more mine lawful p.fields split in
    let baps : wire h earlier b ≡ pointers x.mantissas = ap (wire h earlier) (ap (λ (z : Block × List Bool). z.0) both.0) ∙ sym p.pointers in
    let here : Refuses closed 0 (pointers x.mantissas) more fault = subst (λ (p : List ℕ). Refuses closed 0 p more fault) baps refuses in
    spelled_apart x.mantissas x.missing rest fault p.missing p.coded (subst (λ (m : List Bool). Refuses closed 0 (pointers x.mantissas) m fault) both.1 here)

block_one : (h : Head) (earlier : List Block) (l : List Bool) (d e : Refused) → BlockRefuses h earlier l d → BlockRefuses h earlier l e → d ≡ e
block_one h earlier l d e (inl (at, first)) (inl (there, second)) =
    let c = whole_block h earlier in ((faithful c (whole_block_sound h earlier)).refusal l d e at there first second).0
block_one h earlier l d e (inl (at, first)) (inr (b, skipped, rest, fault, lawful, is, refuses, as_one)) =
    let c = whole_block h earlier in
    absurd ((faithful c (whole_block_sound h earlier)).apart (b, skipped) rest d at lawful (subst (λ (m : List Bool). c.Refuses m d at) is first))
block_one h earlier l d e (inr (b, skipped, rest, fault, lawful, is, refuses, as_one)) (inl (there, second)) =
    let c = whole_block h earlier in
    absurd ((faithful c (whole_block_sound h earlier)).apart (b, skipped) rest e there lawful (subst (λ (m : List Bool). c.Refuses m e there) is second))
block_one h earlier l d e (inr (b, skipped, rest, fault, lawful, is, refuses, as_one)) (inr (a, free, more, other, may, whole, also, too)) =
    let c = whole_block h earlier in
    let both = one_value c (whole_block_sound h earlier) (b, skipped) (a, free) rest more lawful may (sym is ∙ whole) in
    let baps : wire h earlier b ≡ wire h earlier a = ap (wire h earlier) (ap (λ (z : Block × List Bool). z.0) both.0) in
    let here : Refuses closed 0 (wire h earlier a) rest fault = subst (λ (p : List ℕ). Refuses closed 0 p rest fault) baps refuses in
    let there : Refuses closed 0 (wire h earlier a) more fault = subst (λ (m : List Bool). Refuses closed 0 (wire h earlier a) m fault) both.1 here in
    as_one ∙ ap refused_as (one_fault (wire h earlier a) more fault other there also) ∙ sym too

-- bits that begin with so many blocks aren't refused
pub blocks_apart : (h : Head) (earlier : List Block) (xs : List BlockRecord) (n : ℕ) (l rest : List Bool) (e : Refused) → length xs ≡ n → AreBlocks h earlier xs → l ≡ blocks_spelled h earlier xs ++ rest → BlocksRefuse h earlier n l e → ⊥
unfolding blocks_spelled AreBlocks BlocksRefuse
blocks_apart h earlier xs zero l rest e long p whole refuses = refuses
blocks_apart h earlier [] (suc n) l rest e long p whole refuses = absurd (omega arith)
blocks_apart h earlier (x ∷ xs) (suc n) l rest e long p whole (inl here) =
    block_apart h earlier x l (blocks_spelled h (earlier ++ x.fields ∷ []) xs ++ rest) e p.0
    (whole ∙ append_assoc (block_spelled h earlier x) (blocks_spelled h (earlier ++ x.fields ∷ []) xs) rest) here
blocks_apart h earlier (x ∷ xs) (suc n) l rest e long p whole (inr (y, more, q, is, behind)) =
    let mine = blocks_spelled h (earlier ++ x.fields ∷ []) xs ++ rest in
    let split : block_spelled h earlier x ++ mine ≡ block_spelled h earlier y ++ more = sym (whole ∙ append_assoc (block_spelled h earlier x) (blocks_spelled h (earlier ++ x.fields ∷ []) xs) rest) ∙ is in
    let both = one_block h earlier x y mine more p.0 q split in
    blocks_apart h (earlier ++ x.fields ∷ []) xs n more rest e (omega arith) p.1 (sym both.1.1)
    (subst (λ (b : Block). BlocksRefuse h (earlier ++ b ∷ []) n more e) (sym both.0) behind)

-- and others are refused once
pub blocks_one : (h : Head) (earlier : List Block) (n : ℕ) (l : List Bool) (d e : Refused) → BlocksRefuse h earlier n l d → BlocksRefuse h earlier n l e → d ≡ e
unfolding BlocksRefuse
blocks_one h earlier zero l d e first second = absurd first
blocks_one h earlier (suc n) l d e (inl first) (inl second) = block_one h earlier l d e first second
blocks_one h earlier (suc n) l d e (inl first) (inr (y, more, q, is, behind)) = absurd (block_apart h earlier y l more d q is first)
blocks_one h earlier (suc n) l d e (inr (x, rest, p, whole, behind)) (inl second) = absurd (block_apart h earlier x l rest e p whole second)
blocks_one h earlier (suc n) l d e (inr (x, rest, p, whole, first)) (inr (y, more, q, is, second)) =
    let both = one_block h earlier x y rest more p q (sym whole ∙ is) in
    let moved : BlocksRefuse h (earlier ++ x.fields ∷ []) n more e = subst (λ (b : Block). BlocksRefuse h (earlier ++ b ∷ []) n more e) (sym both.0) second in
    blocks_one h (earlier ++ x.fields ∷ []) n rest d e first (subst (λ (m : List Bool). BlocksRefuse h (earlier ++ x.fields ∷ []) n m e) (sym both.1.1) moved)

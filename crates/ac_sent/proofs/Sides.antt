-- The bits of the fields of a block that is sent: its side bits, its exponents, and its skip field.
use Rattle.std.proofs.Common.{◌≡◌, ℕ, zero, suc, ◌+◌, ◌<◌, ◌≤◌, ◌^◌, ◌&&◌, Bool, true, false, List, [], ◌∷◌, ◌++◌, length, Option, Some, None, nat_lt, nat_le, sum, refl, ap, sym, subst, ◌∙◌, arith}
use Rattle.std.specs.Prelude.{is_some}
use Rattle.std.proofs.lemmas.List.{length-append}
use Rattle.ac_bits.specs.Bits.{bits}
use Rattle.ac_bits.proofs.Laws.{length-bits}
use Rattle.ac_base.specs.Fit.{exponents_in}
use Rattle.ac_base.specs.Shape.{full_of, is_stereo, subbands, coded_of, span_of}
use Rattle.ac_base.specs.SideBits.{first_block_rows, later_block_rows}
use Rattle.ac_codec.specs.Codec.{some_spell, pair, shaped, tested_bit, given, field}
use Rattle.ac_rows.specs.Blocks.{Block}
use Rattle.ac_rows.specs.declared.groups.Coupling.{Coupling}
use Rattle.ac_rows.specs.declared.groups.Known.{Known}
use Rattle.ac_rows.specs.declared.groups.Rest.{Rest}
use Rattle.ac_rows.specs.declared.groups.Strategy.{Strategy}
use Rattle.ac_rows.specs.Bits.{strategy_bits, shared_bits, codes_bits, exponents_bits, allocation_bits}
use Rattle.ac_rows.specs.Groups.{start_of, strategy_of, shared_of, codes_of, exponents_of, allocation_of, rest_of}
use Rattle.ac_rows.specs.Filled.{channel_coupled, coupling_in, coupling_with}
use Rattle.ac_rows.specs.Known.{known_of}
use Rattle.ac_rows.specs.BlockRows.{start, rest, block_rows, block_fields, skip_bits, AreLawful, coupling_now}
use Rattle.ac_rows.proofs.BlockBits.{block_same, block_length}
use Rattle.ac_rows.proofs.FilledSpans.{lawful_more}
use Rattle.ac_syntax.specs.Sent.{IsFirstSent, IsLaterSent, exponent_rows}
use Rattle.ac_syntax.proofs.BlockSide.{first_is_side, later_is_side}
use Rattle.ac_sent.specs.Values.{Quantised}
use Rattle.ac_sent.specs.Asked.{IsQuantised}
use Rattle.ac_sent.specs.Fields.{when, sent_head, sent_fields, sent_block, skip_at}
use Rattle.ac_sent.specs.Padding as padding
use Rattle.ac_sent.proofs.SharedRows.{channel_is_coupled}
use Rattle.ac_sent.proofs.Earlier.{sent_before, before_none, before_more, block_first, block_later, first_block}
use Rattle.ac_sent.proofs.Coupling.{coupling_sent, none_holds, when_clear}
use Rattle.ac_sent.proofs.Reuse.{the_coupling, first_coupling}
use Rattle.ac_sent.proofs.Heads.{head_lawful}
use Rattle.ac_sent.proofs.Blocks.{MayReuse, rows_lawful, later_reuse, now_is, skip_at_small, block_is}
use Rattle.ac_sent.proofs.ExponentBits.{exponents_cost}

-- ---- with a skip field, and without
pub plain_block : Quantised → ℕ → Block
plain_block q n = sent_fields q false (suc n) None

rest_length : (x : Rest) → length (rest.spell x) ≡ 2 + length (some_spell (λ v. bits v 9) x.skipl)
unfolding rest shaped pair tested_bit given field
rest_length x = omega (arith, length-append (x.deltbaie ∷ []) (x.skiple ∷ [] ++ some_spell (λ v. bits v 9) x.skipl), length-append (x.skiple ∷ []) (some_spell (λ v. bits v 9) x.skipl))

skipl_length : (o : Option ℕ) (d : Block) → d.skipl ≡ o → length (some_spell (λ v. bits v 9) d.skipl) + skip_bits d ≡ padding.skip_bits o
skipl_length None d e = rw e refl
skipl_length (Some k) d e = rw e (omega (arith, length-bits k 9))

-- the bits of all fields but the rest
abbrev front_bits : ℕ → Block → ℕ
front_bits full b =
    length ((start full).spell (start_of b)) + length (strategy_bits (strategy_of b)) + length (shared_bits (shared_of b)) + length (codes_bits full (codes_of b))
    + length (exponents_bits (exponents_of b)) + length (allocation_bits (allocation_of b))

-- fields that are alike but for the rest
rows_length : (full : ℕ) (stereo low : Bool) (known : Known) (a d : Block) → (block_rows full stereo low known).Lawful a → (block_rows full stereo low known).Lawful d
    → front_bits full a ≡ front_bits full d → length ((block_rows full stereo low known).spell a) + length (rest.spell (rest_of d)) ≡ length ((block_rows full stereo low known).spell d) + length (rest.spell (rest_of a))
rows_length full stereo low known a d la ld same =
    let x = ap length (block_same full stereo low known a la) ∙ block_length full a in
    let y = ap length (block_same full stereo low known d ld) ∙ block_length full d in
    omega (arith, x, y, same)

same_front : (q : Quantised) (n : ℕ) (skipl : Option ℕ) → front_bits (full_of q.shape.acmod) (sent_fields q false (suc n) skipl) ≡ front_bits (full_of q.shape.acmod) (plain_block q n)
unfolding sent_fields plain_block
same_front q n skipl = refl

rest_skipl : (q : Quantised) (first : Bool) (b : ℕ) (skipl : Option ℕ) → (rest_of (sent_fields q first b skipl)).skipl ≡ skipl
unfolding sent_fields
rest_skipl q first b skipl = refl

none_length : (o : Option ℕ) → o ≡ None → length (some_spell (λ v. bits v 9) o) ≡ 0
none_length o e = rw e refl

-- a later block that is sent has the bits of one without a skip field, and those of its skip field
with_skip : (q : Quantised) (n : ℕ) (skipl : Option ℕ) (known : Known) → let rows = block_rows (full_of q.shape.acmod) (is_stereo q.shape.acmod) q.shape.lfe known in
    rows.Lawful (sent_fields q false (suc n) skipl) → rows.Lawful (plain_block q n)
    → length (rows.spell (sent_fields q false (suc n) skipl)) + skip_bits (sent_fields q false (suc n) skipl) ≡ length (rows.spell (plain_block q n)) + padding.skip_bits skipl
unfolding plain_block
with_skip q n skipl known la ld =
    let a = sent_fields q false (suc n) skipl in
    let d = sent_fields q false (suc n) None in
    let both = rows_length (full_of q.shape.acmod) (is_stereo q.shape.acmod) q.shape.lfe known a d la ld (same_front q n skipl) in
    let x = rest_length (rest_of a) in
    let y = rest_length (rest_of d) in
    let z = none_length (rest_of d).skipl (rest_skipl q false (suc n) None) in
    let w = skipl_length skipl a (rest_skipl q false (suc n) skipl) in
    omega (arith, both, x, y, z, w)

-- ---- the rows of side bits
and_swap : (a b : Bool) → (a && b) ≡ (b && a)
and_swap true true = refl
and_swap true false = refl
and_swap false true = refl
and_swap false false = refl

coupled_is : (q : Quantised) (c : Coupling) → c ≡ the_coupling q → (i : ℕ) → i < 5 → channel_coupled c i ≡ (nat_lt i (full_of q.shape.acmod) && is_some q.shape.couple)
coupled_is q c e i lt =
    ap (λ (k : Coupling). channel_coupled k i) e ∙ (channel_is_coupled (full_of q.shape.acmod) q.shape.couple i lt ∙ and_swap (is_some q.shape.couple) (nat_lt i (full_of q.shape.acmod)))

first_sent : (q : Quantised) (frmsizecod crc1 : ℕ) → coupling_in [] (first_block q) ≡ the_coupling q → IsFirstSent (sent_head q.shape frmsizecod crc1) q.shape.couple (first_block q)
unfolding sent_fields
first_sent q code crc1 e = record {
  sent = record { dynrnge = refl; skiple = refl; range = ap (λ (c : Coupling). c.range) e; coupled = coupled_is q (coupling_in [] (first_block q)) e };
  bands = none_holds 18 0 (λ k. when (nat_le 1 k && nat_lt k (subbands q.shape.couple)) false) (λ k. when_clear (nat_le 1 k && nat_lt k (subbands q.shape.couple)));
  phases = when_clear (is_some q.shape.couple && is_stereo q.shape.acmod);
}

later_sent : (q : Quantised) (frmsizecod crc1 n : ℕ) → coupling_in (sent_before q (suc n)) (plain_block q n) ≡ the_coupling q → IsLaterSent (sent_head q.shape frmsizecod crc1) q.shape.couple (sent_before q (suc n)) (plain_block q n)
unfolding sent_fields plain_block
later_sent q code crc1 n e = record {
  sent = record { dynrnge = refl; skiple = refl; range = ap (λ (c : Coupling). c.range) e; coupled = coupled_is q (coupling_in (sent_before q (suc n)) (plain_block q n)) e };
  cplstre = refl;
  cplcoe = none_holds 5 0 (λ i. when (is_some q.shape.couple && nat_lt i (full_of q.shape.acmod)) false) (λ i. when_clear (is_some q.shape.couple && nat_lt i (full_of q.shape.acmod)));
  rematstr = when_clear (is_stereo q.shape.acmod);
  baie = refl;
  snroffste = refl;
  cplleake = when_clear (is_some q.shape.couple);
}

-- the blocks before a block are lawful
pub before_lawful : (q : Quantised) (frmsizecod crc1 : ℕ) → IsQuantised q → (n : ℕ) → n ≤ 6 → AreLawful (sent_head q.shape frmsizecod crc1) (sent_before q n)
before_lawful q code crc1 is zero room = subst (AreLawful (sent_head q.shape code crc1)) (sym (before_none q)) tt
before_lawful q code crc1 is (suc n) room =
    subst (AreLawful (sent_head q.shape code crc1)) (sym (before_more q n))
    (lawful_more (sent_head q.shape code crc1) (sent_before q n) (sent_block q n) (before_lawful q code crc1 is n (omega (arith, room))) (block_is q code crc1 is n (omega (arith, room))))

same_strategy : (q : Quantised) (n : ℕ) (skipl : Option ℕ) → strategy_of (sent_fields q false (suc n) skipl) ≡ strategy_of (plain_block q n)
unfolding sent_fields plain_block
same_strategy q n skipl = refl

plain_coupling : (q : Quantised) (n : ℕ) → coupling_in (sent_before q (suc n)) (plain_block q n) ≡ the_coupling q
plain_coupling q n =
    ap (λ (s : Strategy). coupling_with (sent_before q (suc n)) s) (sym (ap strategy_of (block_later q n) ∙ same_strategy q n (skip_at q (suc n)))) ∙ coupling_sent q (suc n)

plain_lawful : (q : Quantised) → IsQuantised q → (n : ℕ) (known : Known) → suc n < 6 → MayReuse q false (suc n) known → coupling_now known (strategy_of (plain_block q n)) ≡ the_coupling q
    → (block_rows (full_of q.shape.acmod) (is_stereo q.shape.acmod) q.shape.lfe known).Lawful (plain_block q n)
unfolding plain_block
plain_lawful q is n known in_frame may same = rows_lawful q is false (suc n) None known in_frame may (λ k e. absurd cc) same

plain_cost : (q : Quantised) (n : ℕ) → exponent_rows (plain_block q n) ≡ exponents_in (span_of q.shape.acmod q.shape.bw q.shape.couple) (coded_of q.shape.acmod q.shape.lfe q.shape.couple) q.assign.w (suc n)
unfolding plain_block
plain_cost q n = exponents_cost q false (suc n) None

skip_none : (q : Quantised) → skip_bits (first_block q) ≡ 0
unfolding sent_fields
skip_none q = refl

-- ---- block 0, and a later block, with their skip bytes
pub first_bits : (q : Quantised) → IsQuantised q → (frmsizecod crc1 : ℕ) → frmsizecod < 38 → crc1 < 2 ^ 16
    → length ((block_fields (sent_head q.shape frmsizecod crc1) (sent_before q 0)).spell (sent_block q 0)) + skip_bits (sent_block q 0)
    ≡ sum (first_block_rows q.shape.acmod q.shape.lfe q.shape.couple) + exponents_in (span_of q.shape.acmod q.shape.bw q.shape.couple) (coded_of q.shape.acmod q.shape.lfe q.shape.couple) q.assign.w 0
first_bits q is code crc1 known word =
    let h = sent_head q.shape code crc1 in
    let e = sym (ap (λ (d : Block). coupling_in [] d) (block_first q)) ∙ first_coupling q in
    let P : List Block → Block → Type 0 = λ l d. (block_fields h l).Lawful d in
    let l = subst (P []) (block_first q) (subst (λ (x : List Block). P x (sent_block q 0)) (before_none q) (block_is q code crc1 is 0 (omega arith))) in
    let s = first_is_side h q.shape.couple (first_block q) (head_lawful q.shape code crc1 known word) l (first_sent q code crc1 e) in
    let x = ap (λ (x : List Block). length ((block_fields h x).spell (sent_block q 0))) (before_none q) ∙ ap (λ (d : Block). length ((block_fields h []).spell d)) (block_first q) in
    let z = ap skip_bits (block_first q) ∙ skip_none q in
    omega (arith, s, x, z, exponents_cost q true 0 None)

pub later_bits : (q : Quantised) → IsQuantised q → (frmsizecod crc1 : ℕ) → frmsizecod < 38 → crc1 < 2 ^ 16 → (n : ℕ) → suc n < 6
    → length ((block_fields (sent_head q.shape frmsizecod crc1) (sent_before q (suc n))).spell (sent_block q (suc n))) + skip_bits (sent_block q (suc n))
    ≡ sum (later_block_rows q.shape.acmod q.shape.lfe q.shape.couple) + exponents_in (span_of q.shape.acmod q.shape.bw q.shape.couple) (coded_of q.shape.acmod q.shape.lfe q.shape.couple) q.assign.w (suc n) + padding.skip_bits (skip_at q (suc n))
unfolding block_fields
later_bits q is code crc1 known word n in_frame =
    let h = sent_head q.shape code crc1 in
    let k = known_of (sent_before q (suc n)) in
    let rows = block_rows (full_of q.shape.acmod) (is_stereo q.shape.acmod) q.shape.lfe k in
    let now = ap (λ (d : Block). coupling_now k (strategy_of d)) (sym (block_later q n)) ∙ now_is q (suc n) in
    let plain_now = ap (coupling_now k) (sym (same_strategy q n (skip_at q (suc n)))) ∙ now in
    let la = rows_lawful q is false (suc n) (skip_at q (suc n)) k in_frame (later_reuse q is n) (skip_at_small q n) now in
    let ld = plain_lawful q is n k in_frame (later_reuse q is n) plain_now in
    let s = later_is_side h q.shape.couple (sent_before q (suc n)) (plain_block q n) (head_lawful q.shape code crc1 known word) (before_lawful q code crc1 is (suc n) (omega (arith, in_frame))) ld (later_sent q code crc1 n (plain_coupling q n)) in
    let x = ap (λ (d : Block). length (rows.spell d) + skip_bits d) (block_later q n) in
    let y = with_skip q n (skip_at q (suc n)) k la ld in
    omega (arith, s, x, y, plain_cost q n)

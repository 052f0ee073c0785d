-- The bits of a frame, piece by piece.
use Rattle.std.proofs.Common.{◌≡◌, ℕ, zero, suc, ◌+◌, ◌-◌, ◌*◌, ◌<◌, ◌≤◌, Bool, false, List, [], ◌∷◌, ◌++◌, append_assoc, take, length, replicate, slice_index_or, Option, None, refl, ap, ap₂, sym, subst, ◌∙◌, arith}
use Rattle.std.specs.Prelude.{◌==◌, if◌then◌else◌}
use Rattle.std.proofs.lemmas.List.{length-append, length-replicate}
use Rattle.ac_bits.specs.Bits.{bits, Appends}
use Rattle.ac_bits.proofs.Laws.{appends-then, length-appends, length-bits}
use Rattle.ac_base.specs.Counts.{tally_of, exact_of}
use Rattle.ac_mant.specs.declared.coded.Coded.{Coded}
use Rattle.ac_mant.specs.Groups.{pointers, closed, zeros, spelled}
use Rattle.ac_mant.proofs.Costs.{whole_cost}
use Rattle.ac_rows.specs.Blocks.{Block}
use Rattle.ac_rows.specs.declared.head.Head.{Head}
use Rattle.ac_rows.specs.HeadRows.{head_fields, whole_head, addbsi_bits}
use Rattle.ac_rows.specs.BlockRows.{block_fields, whole_block, skip_bits}
use Rattle.ac_rows.specs.Filled.{listed}
use Rattle.ac_record.specs.Records.{block_spelled, blocks_spelled, record_spelled}
use Rattle.ac_sent.specs.Values.{Quantised}
use Rattle.ac_sent.specs.Asked.{IsQuantised, IsSizeCode}
use Rattle.ac_sent.specs.Fields.{sent_head, sent_fields, sent_block, parts_at}
use Rattle.ac_sent.specs.Packed.{sent_mantissas, sent_part, sent_record}
use Rattle.ac_sent.specs.Padding.{skip, to_skip, aux_bits}
use Rattle.ac_sent.proofs.Blocks.{block_is}
use Rattle.ac_sent.proofs.Earlier.{sent_before, before_none, before_more}
use Rattle.ac_sent.proofs.Heads.{head_lawful}
use Rattle.ac_sent.proofs.Sizes.{has_size}

-- ---- the blocks
pub block_sent : (q : Quantised) (b x : ℕ) (skipl : Option ℕ) (d : Block) → x ≡ to_skip q.shape.words (parts_at q).total (parts_at q).last → skipl ≡ (if b == 0 then None else skip x b)
    → d ≡ sent_fields q (b == 0) b skipl → d ≡ sent_block q b
unfolding sent_block
block_sent q b x skipl d e s here =
    here ∙ ap (sent_fields q (b == 0) b) (s ∙ ap (λ (n : ℕ). if b == 0 then None else skip n b) e)

pub six_listed : {A : Type 0} (f : ℕ → A) → f 0 ∷ f 1 ∷ f 2 ∷ f 3 ∷ f 4 ∷ f 5 ∷ [] ≡ listed 6 0 f
unfolding listed
six_listed f = refl

pub same_six : {A : Type 0} (f : ℕ → A) (a b c d e g : A) → a ≡ f 0 → b ≡ f 1 → c ≡ f 2 → d ≡ f 3 → e ≡ f 4 → g ≡ f 5 → a ∷ b ∷ c ∷ d ∷ e ∷ g ∷ [] ≡ listed 6 0 f
same_six f a b c d e g p q r s t u = rw (p, q, r, s, t, u) (six_listed f)

take_listed : {A : Type 0} (f : ℕ → A) (n m i : ℕ) → m ≤ n → take m (listed n i f) ≡ listed m i f
unfolding listed
take_listed f n zero i le = refl
take_listed f zero (suc m) i le = absurd (omega arith)
take_listed f (suc n) (suc m) i le = ap (λ l. f i ∷ l) (take_listed f n m (suc i) (omega (arith, le)))

at_listed : {A : Type 0} (f : ℕ → A) (n k i : ℕ) (x : A) → k < n → slice_index_or (listed n i f) k x ≡ f (i + k)
unfolding listed
at_listed f zero k i x lt = absurd (omega arith)
at_listed f (suc n) zero i x lt = ap f (omega arith)
at_listed f (suc n) (suc k) i x lt = at_listed f n k (suc i) x (omega (arith, lt)) ∙ ap f (omega arith)

pub before_at : (q : Quantised) (b at : ℕ) (l : List Block) → l ≡ listed 6 0 (sent_block q) → at ≡ b → b < 6 → take at l ≡ sent_before q b
before_at q b at l e here lt = ap₂ (λ (n : ℕ) (k : List Block). take n k) here e ∙ take_listed (sent_block q) 6 b 0 (omega (arith, lt))

pub block_here : (q : Quantised) (b at : ℕ) (l : List Block) (x : Block) → l ≡ listed 6 0 (sent_block q) → at ≡ b → b < 6 → slice_index_or l at x ≡ sent_block q b
block_here q b at l x e here lt =
    let same : 0 + b ≡ b = omega arith in
    ap₂ (λ (n : ℕ) (k : List Block). slice_index_or k n x) here e ∙ (at_listed (sent_block q) 6 b 0 x lt ∙ ap (sent_block q) same)

-- ---- a block
pub head_asked : (q : Quantised) (h : Head) → h ≡ sent_head q.shape h.frmsizecod 0 → h.frmsizecod < 38 → head_fields.Lawful h
head_asked q h e known = subst head_fields.Lawful (sym e) (head_lawful q.shape h.frmsizecod 0 known (omega arith))

pub block_asked : (q : Quantised) → IsQuantised q → (b : ℕ) (h : Head) (l : List Block) (d : Block) → h ≡ sent_head q.shape h.frmsizecod 0 → b < 6 → l ≡ sent_before q b → d ≡ sent_block q b → (block_fields h l).Lawful d
block_asked q is b h l d e lt before here =
    subst (λ (g : Head). (block_fields g l).Lawful d) (sym e)
    (subst (λ (k : List Block). (block_fields (sent_head q.shape h.frmsizecod 0) k).Lawful d) (sym before)
    (subst (λ (x : Block). (block_fields (sent_head q.shape h.frmsizecod 0) (sent_before q b)).Lawful x) (sym here) (block_is q h.frmsizecod 0 is b lt)))

-- the fields of a block with their skip bytes
abbrev pub fields_spelled : Head → List Block → Block → List Bool
fields_spelled h l d = (whole_block h l).spell (d, replicate (skip_bits d) false)

pub fields_same : (q : Quantised) (b : ℕ) (h : Head) (l : List Block) (d : Block) → l ≡ sent_before q b → d ≡ sent_block q b → fields_spelled h l d ≡ fields_spelled h (sent_before q b) (sent_block q b)
fields_same q b h l d before here = ap₂ (fields_spelled h) before here

pub part_length : (q : Quantised) (b : ℕ) (h : Head) → length (block_spelled h (sent_before q b) (sent_part q b)) ≡ length (fields_spelled h (sent_before q b) (sent_block q b)) + exact_of (tally_of (pointers (sent_mantissas q b)))
part_length q b h =
    length-append (fields_spelled h (sent_before q b) (sent_block q b)) (spelled zeros closed (sent_mantissas q b))
    ∙ ap (λ n. length (fields_spelled h (sent_before q b) (sent_block q b)) + n) (whole_cost zeros (sent_mantissas q b))

pub part_appended : (q : Quantised) (b : ℕ) (h : Head) (l : List Block) (d : Block) (list : List Coded) {x y z : List Bool} → l ≡ sent_before q b → d ≡ sent_block q b → list ≡ sent_mantissas q b
    → Appends x y (fields_spelled h l d) → Appends y z (spelled zeros closed list) → Appends x z (block_spelled h (sent_before q b) (sent_part q b))
part_appended q b h l d list {x} {y} {z} before here mantissas p r =
    appends-then (subst (Appends x y) (fields_same q b h l d before here) p) (subst (Appends y z) (ap (spelled zeros closed) mantissas) r)

-- ---- all blocks
step : (q : Quantised) (h : Head) (n i : ℕ) → blocks_spelled h (sent_before q i) (listed (suc n) i (sent_part q)) ≡ block_spelled h (sent_before q i) (sent_part q i) ++ blocks_spelled h (sent_before q (suc i)) (listed n (suc i) (sent_part q))
unfolding blocks_spelled listed
step q h n i = ap (λ (l : List Block). block_spelled h (sent_before q i) (sent_part q i) ++ blocks_spelled h l (listed n (suc i) (sent_part q))) (sym (before_more q i))

-- what the blocks from b on have
abbrev pub rest_spelled : Quantised → Head → ℕ → List Bool
rest_spelled q h b = blocks_spelled h (sent_before q b) (listed (6 - b) b (sent_part q))

pub rest_step : (q : Quantised) (h : Head) (b : ℕ) → b < 6 → rest_spelled q h b ≡ block_spelled h (sent_before q b) (sent_part q b) ++ rest_spelled q h (b + 1)
rest_step q h b lt =
    let more : 6 - b ≡ suc (6 - (b + 1)) = omega (arith, lt) in
    let next : suc b ≡ b + 1 = omega arith in
    ap (λ (n : ℕ). blocks_spelled h (sent_before q b) (listed n b (sent_part q))) more
    ∙ (step q h (6 - (b + 1)) b ∙ ap (λ (i : ℕ). block_spelled h (sent_before q b) (sent_part q b) ++ blocks_spelled h (sent_before q i) (listed (6 - (b + 1)) i (sent_part q))) next)

pub rest_first : (q : Quantised) (h : Head) → rest_spelled q h 0 ≡ blocks_spelled h [] (listed 6 0 (sent_part q))
rest_first q h = ap (λ (l : List Block). blocks_spelled h l (listed 6 0 (sent_part q))) (before_none q)

pub rest_last : (q : Quantised) (h : Head) (b : ℕ) → b ≡ 6 → rest_spelled q h b ≡ []
unfolding blocks_spelled listed
rest_last q h b e = rw e refl

pub one_more : (q : Quantised) (h : Head) (b : ℕ) (old x y all : List Bool) → b < 6 → x ++ rest_spelled q h b ≡ old ++ all → Appends x y (block_spelled h (sent_before q b) (sent_part q b)) → y ++ rest_spelled q h (b + 1) ≡ old ++ all
one_more q h b old x y all lt before p =
    let part = block_spelled h (sent_before q b) (sent_part q b) in
    ap (λ l. l ++ rest_spelled q h (b + 1)) p.whole ∙ (append_assoc x part (rest_spelled q h (b + 1)) ∙ (ap (λ l. x ++ l) (sym (rest_step q h b lt)) ∙ before))

pub room_here : (q : Quantised) (h : Head) (b : ℕ) (old x all : List Bool) → b < 6 → x ++ rest_spelled q h b ≡ old ++ all → length old + length all ≤ 30720 → length x + length (block_spelled h (sent_before q b) (sent_part q b)) ≤ 30720
room_here q h b old x all lt before room =
    let part = block_spelled h (sent_before q b) (sent_part q b) in
    let e = ap length (rest_step q h b lt) ∙ length-append part (rest_spelled q h (b + 1)) in
    omega (arith, ap length before, length-append x (rest_spelled q h b), length-append old all, e, room)

-- ---- the frame
pub record_pieces : (q : Quantised) (code : ℕ) (crcrsv : Bool) → record_spelled (sent_record q code 0 crcrsv 0)
    ≡ whole_head.spell (sent_head q.shape code 0, []) ++ (blocks_spelled (sent_head q.shape code 0) [] (listed 6 0 (sent_part q)) ++ (replicate (aux_bits q.shape.words (parts_at q).total (parts_at q).last) false ++ (false ∷ crcrsv ∷ bits 0 16)))
unfolding record_spelled sent_record
record_pieces q code crcrsv = refl

pub pieces_long : (q : Quantised) (code : ℕ) (crcrsv : Bool) → IsQuantised q → IsSizeCode q.shape.fscod q.shape.words code
    → length (whole_head.spell (sent_head q.shape code 0, [])) + length (blocks_spelled (sent_head q.shape code 0) [] (listed 6 0 (sent_part q))) + aux_bits q.shape.words (parts_at q).total (parts_at q).last + 18 ≡ 16 * q.shape.words
pieces_long q code crcrsv is size =
    let head = whole_head.spell (sent_head q.shape code 0, []) in
    let blocks = blocks_spelled (sent_head q.shape code 0) [] (listed 6 0 (sent_part q)) in
    let n = aux_bits q.shape.words (parts_at q).total (parts_at q).last in
    let tail = false ∷ crcrsv ∷ bits 0 16 in
    omega (arith, has_size q code 0 crcrsv 0 is size (omega arith) (omega arith), ap length (record_pieces q code crcrsv), length-append head (blocks ++ (replicate n false ++ tail)), length-append blocks (replicate n false ++ tail), length-append (replicate n false) tail, length-replicate n false, length-bits 0 16)

-- a head that is sent, with the addbsi that it lacks
pub head_same : (q : Quantised) (code : ℕ) (h : Head) → h ≡ sent_head q.shape code 0 → whole_head.spell (h, replicate (addbsi_bits h) false) ≡ whole_head.spell (sent_head q.shape code 0, [])
head_same q code h e = ap (λ (g : Head). whole_head.spell (g, replicate (addbsi_bits g) false)) e

pub blocks_same : (q : Quantised) (code : ℕ) (h : Head) → h ≡ sent_head q.shape code 0 → blocks_spelled h [] (listed 6 0 (sent_part q)) ≡ blocks_spelled (sent_head q.shape code 0) [] (listed 6 0 (sent_part q))
blocks_same q code h e = ap (λ (g : Head). blocks_spelled g [] (listed 6 0 (sent_part q))) e

pub head_sent : (q : Quantised) (code : ℕ) (h : Head) → h ≡ sent_head q.shape code 0 → code < 38 → head_fields.Lawful h
head_sent q code h e known = subst head_fields.Lawful (sym e) (head_lawful q.shape code 0 known (omega arith))

pub all_written : (q : Quantised) (code : ℕ) (crcrsv : Bool) (h : Head) (aux : ℕ) {s t u v : List Bool} → h ≡ sent_head q.shape code 0 → aux ≡ aux_bits q.shape.words (parts_at q).total (parts_at q).last
    → s ≡ [] → Appends s t (whole_head.spell (h, replicate (addbsi_bits h) false)) → Appends t u (blocks_spelled h [] (listed 6 0 (sent_part q))) → Appends u v (replicate aux false ++ (false ∷ crcrsv ∷ bits 0 16))
    → v ≡ record_spelled (sent_record q code 0 crcrsv 0)
all_written q code crcrsv h aux {s} {t} {u} {v} e here none p r z =
    let tail : ℕ → List Bool = λ n. replicate n false ++ (false ∷ crcrsv ∷ bits 0 16) in
    let all = appends-then (subst (Appends s t) (head_same q code h e) p) (appends-then (subst (Appends t u) (blocks_same q code h e) r) (subst (Appends u v) (ap tail here) z)) in
    let pieces = whole_head.spell (sent_head q.shape code 0, []) ++ (blocks_spelled (sent_head q.shape code 0) [] (listed 6 0 (sent_part q)) ++ tail (aux_bits q.shape.words (parts_at q).total (parts_at q).last)) in
    all.whole ∙ (ap (λ l. l ++ pieces) none ∙ sym (record_pieces q code crcrsv))

pub front_long : (q : Quantised) (code : ℕ) (h : Head) {s t u : List Bool} → IsQuantised q → IsSizeCode q.shape.fscod q.shape.words code → h ≡ sent_head q.shape code 0
    → s ≡ [] → Appends s t (whole_head.spell (h, replicate (addbsi_bits h) false)) → Appends t u (blocks_spelled h [] (listed 6 0 (sent_part q)))
    → length u + aux_bits q.shape.words (parts_at q).total (parts_at q).last + 18 ≡ 16 * q.shape.words
front_long q code h {s} {t} {u} is size e none p r =
    omega (arith, pieces_long q code false is size, ap length (head_same q code h e), ap length (blocks_same q code h e), ap length none, length-appends p, length-appends r)

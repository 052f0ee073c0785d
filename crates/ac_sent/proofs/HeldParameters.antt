-- The parameters that hold in a block that is sent are those of this encoder.
use mathlib.Core.HLevel.{is_prop→PathP}
use native.Mathlib.Bridge.{le_prop}
use Rattle.std.proofs.Common.{◌≡◌, ℕ, zero, suc, ◌+◌, ◌/◌, ◌%◌, ◌<◌, ◌≤◌, Bool, true, false, min, Option, Some, None, nat_lt, refl, ap, sym, ◌∙◌, inl, inr, arith}
use Rattle.std.specs.Prelude.{is_some, if◌then◌else◌, ◌==◌}
use Rattle.std.proofs.lemmas.Bool.{ltb-true, eq-eqb, ne_eqb, cases_eq}
use Rattle.ac_base.specs.Shape.{full_of, count_of}
use Rattle.ac_base.specs.Sigma.{sum_below}
use Rattle.ac_base.specs.Profile.{sent_sdcycod, sent_fdcycod, sent_sgaincod, sent_dbpbcod, sent_floorcod, sent_fgaincod, sent_cplfleak, sent_cplsleak}
use Rattle.ac_alloc.specs.declared.params.Params.{Params}
use Rattle.ac_alloc.specs.Codes.{encoder_params}
use Rattle.ac_expo.specs.Raw.{channels}
use Rattle.ac_rows.specs.Blocks.{Block}
use Rattle.ac_rows.specs.declared.groups.Coupling.{Coupling}
use Rattle.ac_rows.specs.Filled.{entry, holds, number, held, needed, coupling_in, filled_of}
use Rattle.ac_record.specs.Channels.{coded_in}
use Rattle.ac_record.specs.Held.{fine_of, gain_of, offset_of, is_silent, params_in}
use Rattle.ac_sent.specs.Values.{Quantised}
use Rattle.ac_sent.specs.Fields.{when, sent_head, sent_fields, sent_block}
use Rattle.ac_sent.proofs.Listed.{entry_at}
use Rattle.ac_sent.proofs.Spans.{full_least, full_most}
use Rattle.ac_sent.proofs.Earlier.{sent_before, held_sent}
use Rattle.ac_sent.proofs.Coupling.{coupling_sent, entries_held}
use Rattle.ac_sent.proofs.Fillings.{channel_cases, filled_block, filled_inu}
use Rattle.ac_sent.proofs.HeldExponents.{by_full, by_shared, by_low}

-- ---- single fields that block 0 sends
abbrev same_before : {A : Type 0} → Quantised → (Block → Option A) → ℕ → Option A
same_before q f b = held f (sent_before q b) (sent_block q b)

csnroffst_held : (q : Quantised) (b : ℕ) → same_before q (λ d. d.csnroffst) b ≡ Some (q.t / 16)
unfolding sent_fields
csnroffst_held q b = held_sent q (λ d. d.csnroffst) (Some (q.t / 16)) refl (λ n. inl refl) b

sdcycod_held : (q : Quantised) (b : ℕ) → same_before q (λ d. d.sdcycod) b ≡ Some sent_sdcycod
unfolding sent_fields
sdcycod_held q b = held_sent q (λ d. d.sdcycod) (Some sent_sdcycod) refl (λ n. inl refl) b

fdcycod_held : (q : Quantised) (b : ℕ) → same_before q (λ d. d.fdcycod) b ≡ Some sent_fdcycod
unfolding sent_fields
fdcycod_held q b = held_sent q (λ d. d.fdcycod) (Some sent_fdcycod) refl (λ n. inl refl) b

sgaincod_held : (q : Quantised) (b : ℕ) → same_before q (λ d. d.sgaincod) b ≡ Some sent_sgaincod
unfolding sent_fields
sgaincod_held q b = held_sent q (λ d. d.sgaincod) (Some sent_sgaincod) refl (λ n. inl refl) b

dbpbcod_held : (q : Quantised) (b : ℕ) → same_before q (λ d. d.dbpbcod) b ≡ Some sent_dbpbcod
unfolding sent_fields
dbpbcod_held q b = held_sent q (λ d. d.dbpbcod) (Some sent_dbpbcod) refl (λ n. inl refl) b

floorcod_held : (q : Quantised) (b : ℕ) → same_before q (λ d. d.floorcod) b ≡ Some sent_floorcod
unfolding sent_fields
floorcod_held q b = held_sent q (λ d. d.floorcod) (Some sent_floorcod) refl (λ n. inl refl) b

shared_fine_held : (q : Quantised) (b : ℕ) → same_before q (λ d. d.cplfsnroffst) b ≡ when (is_some q.shape.couple) (q.t % 16)
unfolding sent_fields
shared_fine_held q b = held_sent q (λ d. d.cplfsnroffst) (when (is_some q.shape.couple) (q.t % 16)) refl (λ n. inl refl) b

shared_gain_held : (q : Quantised) (b : ℕ) → same_before q (λ d. d.cplfgaincod) b ≡ when (is_some q.shape.couple) sent_fgaincod
unfolding sent_fields
shared_gain_held q b = held_sent q (λ d. d.cplfgaincod) (when (is_some q.shape.couple) sent_fgaincod) refl (λ n. inl refl) b

low_fine_held : (q : Quantised) (b : ℕ) → same_before q (λ d. d.lfefsnroffst) b ≡ when q.shape.lfe (q.t % 16)
unfolding sent_fields
low_fine_held q b = held_sent q (λ d. d.lfefsnroffst) (when q.shape.lfe (q.t % 16)) refl (λ n. inl refl) b

low_gain_held : (q : Quantised) (b : ℕ) → same_before q (λ d. d.lfefgaincod) b ≡ when q.shape.lfe sent_fgaincod
unfolding sent_fields
low_gain_held q b = held_sent q (λ d. d.lfefgaincod) (when q.shape.lfe sent_fgaincod) refl (λ n. inl refl) b

fast_leak_held : (q : Quantised) (b : ℕ) → same_before q (λ d. d.cplfleak) b ≡ when (is_some q.shape.couple) sent_cplfleak
unfolding sent_fields
fast_leak_held q b = held_sent q (λ d. d.cplfleak) (when (is_some q.shape.couple) sent_cplfleak) refl (λ n. inl refl) b

slow_leak_held : (q : Quantised) (b : ℕ) → same_before q (λ d. d.cplsleak) b ≡ when (is_some q.shape.couple) sent_cplsleak
unfolding sent_fields
slow_leak_held q b = held_sent q (λ d. d.cplsleak) (when (is_some q.shape.couple) sent_cplsleak) refl (λ n. inl refl) b

fine_held : (q : Quantised) (b i : ℕ) → i < 5 → same_before q (λ d. entry d.fsnroffst i) b ≡ when (nat_lt i (full_of q.shape.acmod)) (q.t % 16)
unfolding sent_fields
fine_held q b i lt = entries_held q (λ d. d.fsnroffst) 5 (λ k. when (nat_lt k (full_of q.shape.acmod)) (q.t % 16)) refl (λ m. refl) b i lt

gain_held : (q : Quantised) (b i : ℕ) → i < 5 → same_before q (λ d. entry d.fgaincod i) b ≡ when (nat_lt i (full_of q.shape.acmod)) sent_fgaincod
unfolding sent_fields
gain_held q b i lt = entries_held q (λ d. d.fgaincod) 5 (λ k. when (nat_lt k (full_of q.shape.acmod)) sent_fgaincod) refl (λ m. refl) b i lt

-- ---- what a channel has of them
used_filled : (q : Quantised) (b : ℕ) → is_some (coupling_in (sent_before q b) (sent_block q b)).range ≡ is_some q.shape.couple
used_filled q b = ap (λ (c : Coupling). is_some c.range) (coupling_sent q b)

-- a value that is needed and was sent where the channel is there
number_there : (t there : Bool) (o x : Option ℕ) (v : ℕ) → t ≡ there → there ≡ true → o ≡ when there v → number (if t then o else x) ≡ v
number_there t true o x v e h s = rw (e, s) refl
number_there t false o x v e h s = absurd cc

fine_full : (q : Quantised) (frmsizecod crc1 b i : ℕ) → nat_lt i (full_of q.shape.acmod) ≡ true → number (entry (filled_block q frmsizecod crc1 b).fsnroffst i) ≡ q.t % 16
unfolding filled_of
fine_full q code crc1 b i here =
    let lt : i < 5 = omega (arith, ltb-true i (full_of q.shape.acmod) here, full_most q.shape) in
    ap number (entry_at 5 (λ k. needed (nat_lt k (full_of q.shape.acmod)) (λ d. entry d.fsnroffst k) (sent_before q b) (sent_block q b)) i None lt)
    ∙ number_there (nat_lt i (full_of q.shape.acmod)) (nat_lt i (full_of q.shape.acmod)) (same_before q (λ d. entry d.fsnroffst i) b) (entry (sent_block q b).fsnroffst i) (q.t % 16) refl here (fine_held q b i lt)

gain_full : (q : Quantised) (frmsizecod crc1 b i : ℕ) → nat_lt i (full_of q.shape.acmod) ≡ true → number (entry (filled_block q frmsizecod crc1 b).fgaincod i) ≡ sent_fgaincod
unfolding filled_of
gain_full q code crc1 b i here =
    let lt : i < 5 = omega (arith, ltb-true i (full_of q.shape.acmod) here, full_most q.shape) in
    ap number (entry_at 5 (λ k. needed (nat_lt k (full_of q.shape.acmod)) (λ d. entry d.fgaincod k) (sent_before q b) (sent_block q b)) i None lt)
    ∙ number_there (nat_lt i (full_of q.shape.acmod)) (nat_lt i (full_of q.shape.acmod)) (same_before q (λ d. entry d.fgaincod i) b) (entry (sent_block q b).fgaincod i) sent_fgaincod refl here (gain_held q b i lt)

fine_shared : (q : Quantised) (frmsizecod crc1 b : ℕ) → is_some q.shape.couple ≡ true → number (filled_block q frmsizecod crc1 b).cplfsnroffst ≡ q.t % 16
unfolding filled_of
fine_shared q code crc1 b used = number_there _ (is_some q.shape.couple) (same_before q (λ d. d.cplfsnroffst) b) (sent_block q b).cplfsnroffst (q.t % 16) (used_filled q b) used (shared_fine_held q b)

gain_shared : (q : Quantised) (frmsizecod crc1 b : ℕ) → is_some q.shape.couple ≡ true → number (filled_block q frmsizecod crc1 b).cplfgaincod ≡ sent_fgaincod
unfolding filled_of
gain_shared q code crc1 b used = number_there _ (is_some q.shape.couple) (same_before q (λ d. d.cplfgaincod) b) (sent_block q b).cplfgaincod sent_fgaincod (used_filled q b) used (shared_gain_held q b)

fine_low : (q : Quantised) (frmsizecod crc1 b : ℕ) → q.shape.lfe ≡ true → number (filled_block q frmsizecod crc1 b).lfefsnroffst ≡ q.t % 16
unfolding filled_of
fine_low q code crc1 b low = number_there q.shape.lfe q.shape.lfe (same_before q (λ d. d.lfefsnroffst) b) (sent_block q b).lfefsnroffst (q.t % 16) refl low (low_fine_held q b)

gain_low : (q : Quantised) (frmsizecod crc1 b : ℕ) → q.shape.lfe ≡ true → number (filled_block q frmsizecod crc1 b).lfefgaincod ≡ sent_fgaincod
unfolding filled_of
gain_low q code crc1 b low = number_there q.shape.lfe q.shape.lfe (same_before q (λ d. d.lfefgaincod) b) (sent_block q b).lfefgaincod sent_fgaincod refl low (low_gain_held q b)

pub fine_is : (q : Quantised) (frmsizecod crc1 b c : ℕ) → c < channels q.shape → fine_of (sent_head q.shape frmsizecod crc1) (filled_block q frmsizecod crc1 b) c ≡ q.t % 16
fine_is q code crc1 b c lt =
    let f = filled_block q code crc1 b in
    let full = full_of q.shape.acmod in
    let x = number (entry f.fsnroffst c) in
    let y = number f.cplfsnroffst in
    let z = number f.lfefsnroffst in
    elim (channel_cases q.shape c lt) [
      | inl here ↦ by_full full c (holds f.cplinu) x y z here ∙ fine_full q code crc1 b c here
      | inr (inl e) ↦ by_shared full c (holds f.cplinu) x y z e.1 (filled_inu q code crc1 b ∙ e.0) ∙ fine_shared q code crc1 b e.0
      | inr (inr e) ↦ by_low full c (holds f.cplinu) (is_some q.shape.couple) x y z e.1 (filled_inu q code crc1 b) ∙ fine_low q code crc1 b e.0
    ]

gain_is : (q : Quantised) (frmsizecod crc1 b c : ℕ) → c < channels q.shape → gain_of (sent_head q.shape frmsizecod crc1) (filled_block q frmsizecod crc1 b) c ≡ sent_fgaincod
gain_is q code crc1 b c lt =
    let f = filled_block q code crc1 b in
    let full = full_of q.shape.acmod in
    let x = number (entry f.fgaincod c) in
    let y = number f.cplfgaincod in
    let z = number f.lfefgaincod in
    elim (channel_cases q.shape c lt) [
      | inl here ↦ by_full full c (holds f.cplinu) x y z here ∙ gain_full q code crc1 b c here
      | inr (inl e) ↦ by_shared full c (holds f.cplinu) x y z e.1 (filled_inu q code crc1 b ∙ e.0) ∙ gain_shared q code crc1 b e.0
      | inr (inr e) ↦ by_low full c (holds f.cplinu) (is_some q.shape.couple) x y z e.1 (filled_inu q code crc1 b) ∙ gain_low q code crc1 b e.0
    ]

-- ---- the offset, and whether all SNR offset codes are 0
coarse_is : (q : Quantised) (frmsizecod crc1 b : ℕ) → number (filled_block q frmsizecod crc1 b).csnroffst ≡ q.t / 16
unfolding filled_of
coarse_is q code crc1 b = ap number (csnroffst_held q b)

pub offset_is : (q : Quantised) (frmsizecod crc1 b c : ℕ) → c < channels q.shape → offset_of (sent_head q.shape frmsizecod crc1) (filled_block q frmsizecod crc1 b) c ≡ q.t
offset_is q code crc1 b c lt = omega (arith, coarse_is q code crc1 b, fine_is q code crc1 b c lt)

sum_all : (n : ℕ) (f : ℕ → ℕ) (v : ℕ) → ((c : ℕ) → c < n → f c ≡ v) → (v ≡ 0 → sum_below n f ≡ 0) × (0 < n → v ≤ sum_below n f)
unfolding sum_below
sum_all zero f v h = (λ e. refl, λ l. absurd (omega arith))
sum_all (suc n) f v h =
    let r = sum_all n f v (λ c l. h c (omega arith)) in
    let here = h n (omega arith) in
    (λ e. let z = r.0 e in omega (arith, z, here, e), λ l. omega (arith, here))

silent_from : (a s t : ℕ) → a ≡ t / 16 → (t % 16 ≡ 0 → s ≡ 0) → t % 16 ≤ s → (a + s == 0) ≡ (t == 0)
silent_from a s t e none some = elim (cases_eq t 0) [
  | inl zero_offset ↦ let m : t % 16 ≡ 0 = omega (arith, zero_offset) in let z = none m in eq-eqb (a + s) 0 (omega (arith, e, z, zero_offset)) ∙ sym (eq-eqb t 0 zero_offset)
  | inr other ↦ ne_eqb (a + s) 0 (λ z. other (omega (arith, e, some, z))) ∙ sym (ne_eqb t 0 other)
]

coded_is : (q : Quantised) (frmsizecod crc1 b : ℕ) → coded_in (sent_head q.shape frmsizecod crc1) (filled_block q frmsizecod crc1 b) ≡ channels q.shape
coded_is q code crc1 b = ap (λ (u : Bool). full_of q.shape.acmod + count_of u + count_of q.shape.lfe) (filled_inu q code crc1 b)

pub silent_is : (q : Quantised) (frmsizecod crc1 b : ℕ) → is_silent (sent_head q.shape frmsizecod crc1) (filled_block q frmsizecod crc1 b) ≡ (q.t == 0)
silent_is q code crc1 b =
    let h = sent_head q.shape code crc1 in
    let f = filled_block q code crc1 b in
    let s = sum_all (channels q.shape) (fine_of h f) (q.t % 16) (λ c lt. fine_is q code crc1 b c lt) in
    let some : 0 < channels q.shape = omega (arith, full_least q.shape) in
    ap (λ n. (number f.csnroffst + sum_below n (fine_of h f) == 0)) (coded_is q code crc1 b)
    ∙ silent_from (number f.csnroffst) (sum_below (channels q.shape) (fine_of h f)) q.t (coarse_is q code crc1 b) s.0 (s.1 some)

-- ---- all parameters
pub same_params : (p r : Params) → p.fscod ≡ r.fscod → p.sdcycod ≡ r.sdcycod → p.fdcycod ≡ r.fdcycod → p.sgaincod ≡ r.sgaincod → p.dbpbcod ≡ r.dbpbcod → p.floorcod ≡ r.floorcod → p.fgaincod ≡ r.fgaincod → p.cplfleak ≡ r.cplfleak
    → p.cplsleak ≡ r.cplsleak → p ≡ r
same_params p r a b c d e f g h k = λ i. record {
  fscod = a i;
  sdcycod = b i;
  fdcycod = c i;
  sgaincod = d i;
  dbpbcod = e i;
  floorcod = f i;
  fgaincod = g i;
  cplfleak = h i;
  cplsleak = k i;
  sampling = is_prop→PathP (λ j. a j ≤ 2) (λ j. le_prop) p.sampling r.sampling i;
  slow_code = is_prop→PathP (λ j. b j ≤ 3) (λ j. le_prop) p.slow_code r.slow_code i;
  fast_code = is_prop→PathP (λ j. c j ≤ 3) (λ j. le_prop) p.fast_code r.fast_code i;
  gain_code = is_prop→PathP (λ j. d j ≤ 3) (λ j. le_prop) p.gain_code r.gain_code i;
  knee_code = is_prop→PathP (λ j. e j ≤ 3) (λ j. le_prop) p.knee_code r.knee_code i;
  floor_code = is_prop→PathP (λ j. f j ≤ 7) (λ j. le_prop) p.floor_code r.floor_code i;
  fast_gain_code = is_prop→PathP (λ j. g j ≤ 7) (λ j. le_prop) p.fast_gain_code r.fast_gain_code i;
  fast_leak_code = is_prop→PathP (λ j. h j ≤ 7) (λ j. le_prop) p.fast_leak_code r.fast_leak_code i;
  slow_leak_code = is_prop→PathP (λ j. k j ≤ 7) (λ j. le_prop) p.slow_leak_code r.slow_leak_code i;
}

-- the leaks are 0, be there a coupling channel or not
leak_from : (coupled t : Bool) (o x : Option ℕ) → t ≡ coupled → o ≡ when coupled 0 → (coupled ≡ false → number x ≡ 0) → number (if t then o else x) ≡ 0
leak_from true t o x e h none = rw (e, h) refl
leak_from false t o x e h none = rw e (none refl)

own_leaks : (q : Quantised) (first : Bool) (b : ℕ) (skipl : Option ℕ) → is_some q.shape.couple ≡ false → (number (sent_fields q first b skipl).cplfleak ≡ 0) × (number (sent_fields q first b skipl).cplsleak ≡ 0)
unfolding sent_fields
own_leaks q true b skipl none = (ap (λ (t : Bool). number (when t sent_cplfleak)) none, ap (λ (t : Bool). number (when t sent_cplsleak)) none)
own_leaks q false b skipl none = (refl, refl)

own_leaks_at : (q : Quantised) (b : ℕ) → is_some q.shape.couple ≡ false → (number (sent_block q b).cplfleak ≡ 0) × (number (sent_block q b).cplsleak ≡ 0)
unfolding sent_block
own_leaks_at q b none = own_leaks q (b == 0) b _ none

leaks_are : (q : Quantised) (frmsizecod crc1 b : ℕ) → (number (filled_block q frmsizecod crc1 b).cplfleak ≡ 0) × (number (filled_block q frmsizecod crc1 b).cplsleak ≡ 0)
unfolding filled_of
leaks_are q code crc1 b = (
  leak_from (is_some q.shape.couple) _ (same_before q (λ d. d.cplfleak) b) (sent_block q b).cplfleak (used_filled q b) (fast_leak_held q b) (λ none. (own_leaks_at q b none).0),
  leak_from (is_some q.shape.couple) _ (same_before q (λ d. d.cplsleak) b) (sent_block q b).cplsleak (used_filled q b) (slow_leak_held q b) (λ none. (own_leaks_at q b none).1),
)

codes_are : (q : Quantised) (frmsizecod crc1 b : ℕ) → (number (filled_block q frmsizecod crc1 b).sdcycod ≡ sent_sdcycod) × (number (filled_block q frmsizecod crc1 b).fdcycod ≡ sent_fdcycod) × (number (filled_block q frmsizecod crc1 b).sgaincod ≡ sent_sgaincod)
    × (number (filled_block q frmsizecod crc1 b).dbpbcod ≡ sent_dbpbcod) × (number (filled_block q frmsizecod crc1 b).floorcod ≡ sent_floorcod)
unfolding filled_of
codes_are q code crc1 b = (ap number (sdcycod_held q b), ap number (fdcycod_held q b), ap number (sgaincod_held q b), ap number (dbpbcod_held q b), ap number (floorcod_held q b))

within : (n v m : ℕ) → n ≡ v → v ≤ m → min n m ≡ v
within n v m e l = omega (arith, e, l)

pub params_are : (q : Quantised) (frmsizecod crc1 b c : ℕ) → c < channels q.shape → params_in (sent_head q.shape frmsizecod crc1) (filled_block q frmsizecod crc1 b) c ≡ encoder_params q.shape.fscod q.shape.sampling
params_are q code crc1 b c lt =
    let f = filled_block q code crc1 b in
    let k = codes_are q code crc1 b in
    let l = leaks_are q code crc1 b in
    same_params (params_in (sent_head q.shape code crc1) f c) (encoder_params q.shape.fscod q.shape.sampling)
    (within q.shape.fscod q.shape.fscod 2 refl q.shape.sampling)
    (within (number f.sdcycod) sent_sdcycod 3 k.0 (omega arith))
    (within (number f.fdcycod) sent_fdcycod 3 k.1 (omega arith))
    (within (number f.sgaincod) sent_sgaincod 3 k.2 (omega arith))
    (within (number f.dbpbcod) sent_dbpbcod 3 k.3 (omega arith))
    (within (number f.floorcod) sent_floorcod 7 k.4 (omega arith))
    (within (gain_of (sent_head q.shape code crc1) f c) sent_fgaincod 7 (gain_is q code crc1 b c lt) (omega arith))
    (within (number f.cplfleak) sent_cplfleak 7 l.0 (omega arith))
    (within (number f.cplsleak) sent_cplsleak 7 l.1 (omega arith))

-- The first six bytes are the first five fields.
use Rattle.std.proofs.Common.{◌≡◌, ℕ, ◌+◌, ◌*◌, ◌/◌, ◌%◌, ◌^◌, ◌<◌, ◌≤◌, Bool, List, [], ◌∷◌, ◌++◌, append_assoc, length, Option, Some, None, ap, sym, ◌∙◌, arith}
use Rattle.ac_bits.specs.Bits.{bits, bits_of}
use Rattle.ac_bits.proofs.Laws.{bits-join, bits-split, bits_same}
use Rattle.ac_codec.specs.declared.refused.Refused.{Refused}
use Rattle.ac_codec.specs.declared.refused.Row.TheVariants.{Fscod, Frmsizecod}
use Rattle.ac_codec.specs.Codec.{field, pair, shaped, free, below}
use Rattle.ac_rows.specs.declared.head.Head.{Head}
use Rattle.ac_rows.specs.HeadRows.{whole_head, head_fields, layout, layout_rows, service, sync_only, eight_only, service_of}
use Rattle.ac_record.specs.Faults.{sync_at, rate_at, code_at, version_at, first_of, size_refusal}
use Rattle.ac_record.specs.Laws.{AreBytes}

-- two bytes as one number
joined : (a b : ℕ) (r : List Bool) → b < 2 ^ 8 → bits a 8 ++ (bits b 8 ++ r) ≡ bits (256 * a + b) 16 ++ r
joined a b r small =
    let same : a * 2 ^ 8 + b ≡ 256 * a + b = omega arith in
    sym (append_assoc (bits a 8) (bits b 8) r)
    ∙ ap (λ (l : List Bool). l ++ r) (sym (bits-join a 8 8 b small))
    ∙ ap (λ (n : ℕ). bits n 16 ++ r) same

-- a byte as two numbers
cut_at_two : (e : ℕ) (r : List Bool) → bits e 8 ++ r ≡ bits (e / 64) 2 ++ (bits (e % 64) 6 ++ r)
cut_at_two e r = ap (λ (l : List Bool). l ++ r) (bits-split e 2 6) ∙ append_assoc (bits (e / 64) 2) (bits (e % 64) 6) r

cut_at_five : (e : ℕ) (r : List Bool) → bits e 8 ++ r ≡ bits (e / 8) 5 ++ (bits (e % 8) 3 ++ r)
cut_at_five e r = ap (λ (l : List Bool). l ++ r) (bits-split e 5 3) ∙ append_assoc (bits (e / 8) 5) (bits (e % 8) 3) r

-- five fields in front
abbrev five : ℕ → ℕ → ℕ → ℕ → ℕ → List Bool → List Bool
five a b c d e l = bits a 16 ++ (bits b 16 ++ (bits c 2 ++ (bits d 6 ++ (bits e 5 ++ l))))

record Begins (bytes : List ℕ) : Type 0 where
  word : ℕ
  rest : List Bool
  fits : word < 2 ^ 16
  sync : sync_at bytes < 2 ^ 16
  rate : rate_at bytes < 2 ^ 2
  code : code_at bytes < 2 ^ 6
  version : version_at bytes < 2 ^ 5
  whole : bits_of bytes ≡ five (sync_at bytes) word (rate_at bytes) (code_at bytes) (version_at bytes) rest

begins : (bytes : List ℕ) → AreBytes bytes → 6 ≤ length bytes → Begins bytes
begins [] are long = absurd (omega arith)
begins (a ∷ []) are long = absurd (omega arith)
begins (a ∷ b ∷ []) are long = absurd (omega arith)
begins (a ∷ b ∷ c ∷ []) are long = absurd (omega arith)
begins (a ∷ b ∷ c ∷ d ∷ []) are long = absurd (omega arith)
begins (a ∷ b ∷ c ∷ d ∷ e ∷ []) are long = absurd (omega arith)
begins (a ∷ b ∷ c ∷ d ∷ e ∷ f ∷ more) are long =
    let a_fits : a < 2 ^ 8 = are 0 (omega arith) in
    let b_fits : b < 2 ^ 8 = are 1 (omega arith) in
    let c_fits : c < 2 ^ 8 = are 2 (omega arith) in
    let d_fits : d < 2 ^ 8 = are 3 (omega arith) in
    let e_fits : e < 2 ^ 8 = are 4 (omega arith) in
    let f_fits : f < 2 ^ 8 = are 5 (omega arith) in
    let last = bits (f % 8) 3 ++ bits_of more in
    let behind = bits e 8 ++ (bits f 8 ++ bits_of more) in
    record {
      word = 256 * c + d;
      rest = last;
      fits = omega (arith, c_fits, d_fits);
      sync = omega (arith, a_fits, b_fits);
      rate = omega (arith, e_fits);
      code = omega (arith, e_fits);
      version = omega (arith, f_fits);
      whole =
          joined a b (bits c 8 ++ (bits d 8 ++ behind)) b_fits
          ∙ ap (λ (l : List Bool). bits (256 * a + b) 16 ++ l) (joined c d behind d_fits)
          ∙ ap (λ (l : List Bool). bits (256 * a + b) 16 ++ (bits (256 * c + d) 16 ++ l)) (cut_at_two e (bits f 8 ++ bits_of more))
          ∙ ap (λ (l : List Bool). bits (256 * a + b) 16 ++ (bits (256 * c + d) 16 ++ (bits (e / 64) 2 ++ (bits (e % 64) 6 ++ l)))) (cut_at_five f (bits_of more));
    }

five_more : (a b c d e t s : List Bool) → (a ++ (b ++ (c ++ (d ++ (e ++ t))))) ++ s ≡ a ++ (b ++ (c ++ (d ++ (e ++ (t ++ s)))))
five_more a b c d e t s =
    append_assoc a (b ++ (c ++ (d ++ (e ++ t)))) s
    ∙ ap (λ (l : List Bool). a ++ l)
    (append_assoc b (c ++ (d ++ (e ++ t))) s
    ∙ ap (λ (l : List Bool). b ++ l)
    (append_assoc c (d ++ (e ++ t)) s ∙ ap (λ (l : List Bool). c ++ l) (append_assoc d (e ++ t) s ∙ ap (λ (l : List Bool). d ++ l) (append_assoc e t s))))

-- so does a head
pub head_begins : (h : Head) (addbsi l : List Bool) → (rest : List Bool) × (whole_head.spell (h, addbsi) ++ l ≡ five h.syncword h.crc1 h.fscod h.frmsizecod h.bsid rest)
unfolding whole_head head_fields layout layout_rows pair shaped field free
head_begins h addbsi l =
    let a = bits h.syncword 16 in
    let b = bits h.crc1 16 in
    let c = bits h.fscod 2 in
    let d = bits h.frmsizecod 6 in
    let e = bits h.bsid 5 in (
      _,
      ap (λ (m : List Bool). (m ++ addbsi) ++ l) (five_more a b c d e _ (service.spell (service_of h)))
          ∙ ap (λ (m : List Bool). m ++ l) (five_more a b c d e _ addbsi)
          ∙ five_more a b c d e _ l,
    )

-- the bounds and the values of a head's first fields
pub record HeadIs (h : Head) : Type 0 where
  pub sync_fits : h.syncword < 2 ^ 16
  pub sync : sync_only h.syncword ≡ None
  pub crc1_fits : h.crc1 < 2 ^ 16
  pub fscod_fits : h.fscod < 2 ^ 2
  pub fscod : below 3 Fscod h.fscod ≡ None
  pub frmsizecod_fits : h.frmsizecod < 2 ^ 6
  pub frmsizecod : below 38 Frmsizecod h.frmsizecod ≡ None
  pub bsid_fits : h.bsid < 2 ^ 5
  pub bsid : eight_only h.bsid ≡ None

pub head_is : (h : Head) (addbsi : List Bool) → whole_head.Lawful (h, addbsi) → HeadIs h
unfolding whole_head head_fields layout layout_rows pair shaped field free
head_is h addbsi lawful =
    let rows = lawful.0.0 in
    record {
      sync_fits = rows.0.0;
      sync = rows.0.1;
      crc1_fits = rows.1.0.0;
      fscod_fits = rows.1.1.0.0;
      fscod = rows.1.1.0.1;
      frmsizecod_fits = rows.1.1.1.0.0;
      frmsizecod = rows.1.1.1.0.1;
      bsid_fits = rows.1.1.1.1.0.0;
      bsid = rows.1.1.1.1.0.1;
    }

none_first : (d e : Option Refused) → d ≡ None → e ≡ None → first_of d e ≡ None
none_first None e p q = q
none_first (Some x) e p q = absurd cc

-- bytes that begin with a head say its size
pub record Says (bytes : List ℕ) (h : Head) : Type 0 where
  pub none : size_refusal bytes ≡ None
  pub rate : rate_at bytes ≡ h.fscod
  pub code : code_at bytes ≡ h.frmsizecod

pub says : (bytes : List ℕ) (h : Head) (addbsi rest : List Bool) → AreBytes bytes → 6 ≤ length bytes → whole_head.Lawful (h, addbsi) → bits_of bytes ≡ whole_head.spell (h, addbsi) ++ rest → Says bytes h
says bytes h addbsi rest are long lawful whole =
    let p = begins bytes are long in
    let q = head_begins h addbsi rest in
    let is = head_is h addbsi lawful in
    let first = bits_same (sync_at bytes) 16 h.syncword _ _ p.sync is.sync_fits (sym p.whole ∙ whole ∙ q.1) in
    let second = bits_same p.word 16 h.crc1 _ _ p.fits is.crc1_fits first.1 in
    let third = bits_same (rate_at bytes) 2 h.fscod _ _ p.rate is.fscod_fits second.1 in
    let fourth = bits_same (code_at bytes) 6 h.frmsizecod _ _ p.code is.frmsizecod_fits third.1 in
    let fifth = bits_same (version_at bytes) 5 h.bsid _ _ p.version is.bsid_fits fourth.1 in
    record {
      none =
          none_first (sync_only (sync_at bytes)) _ (ap sync_only first.0 ∙ is.sync)
          (none_first (below 3 Fscod (rate_at bytes)) _ (ap (below 3 Fscod) third.0 ∙ is.fscod)
          (none_first (below 38 Frmsizecod (code_at bytes)) _ (ap (below 38 Frmsizecod) fourth.0 ∙ is.frmsizecod) (ap eight_only fifth.0 ∙ is.bsid)));
      rate = third.0;
      code = fourth.0;
    }

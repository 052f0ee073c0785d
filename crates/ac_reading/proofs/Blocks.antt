-- One block more.
use Rattle.std.proofs.Common.{◌≡◌, ℕ, suc, ◌+◌, ◌-◌, ◌<◌, ◌≤◌, Bool, List, [], ◌∷◌, ◌++◌, length, take, slice_index, refl, ap, ap₂, sym, subst, ◌∙◌, arith, inl, inr, append_assoc, length-append}
use Rattle.std.specs.Prelude.{replicate, slice_index_or}
use Rattle.std.proofs.lemmas.List.{append-nil, get_or-replicate, get_or_past, length-replicate}
use Rattle.std.proofs.lemmas.Bool.{cases_lt}
use Rattle.ac_codec.specs.declared.refused.Refused.{Refused}
use Rattle.ac_codec.specs.Codec.{pair}
use Rattle.ac_mant.specs.Groups.{coded}
use Rattle.ac_rows.specs.Blocks.{Block}
use Rattle.ac_rows.specs.declared.head.Head.{Head}
use Rattle.ac_rows.specs.BlockRows.{block_fields, whole_block, AreLawfulAfter, AreLawful}
use Rattle.ac_rows.specs.Filled.{filled_of, span_in}
use Rattle.ac_record.specs.Frames.{FrameCodes}
use Rattle.ac_record.specs.Records.{BlockRecord, fields_of, block_spelled, blocks_spelled, IsBlock, AreBlocks}
use Rattle.ac_record.specs.Readings.{cell, IsBlockReading, AreBlockReadings}
use Rattle.ac_record.specs.Faults.{BlockRefuses, BlocksRefuse}
use Rattle.ac_reading.specs.Begun.{IsOpen, Keeps, IsRead, IsBegun}
use Rattle.ac_record.specs.Empty.{empty_codes}
use Rattle.ac_reading.proofs.Flat.{channels_same}
use Rattle.ac_reading.proofs.Rows.{zero_at}

-- ---- lists of blocks

pub fields_more : (xs : List BlockRecord) (x : BlockRecord) → fields_of (xs ++ x ∷ []) ≡ fields_of xs ++ x.fields ∷ []
fields_more [] x = refl
fields_more (y ∷ xs) x = ap (λ (l : List Block). y.fields ∷ l) (fields_more xs x)

pub spelled_more : (h : Head) (e : List Block) (xs : List BlockRecord) (x : BlockRecord) → blocks_spelled h e (xs ++ x ∷ []) ≡ blocks_spelled h e xs ++ block_spelled h (e ++ fields_of xs) x
unfolding blocks_spelled
spelled_more h e [] x = append-nil (block_spelled h e x) ∙ ap (λ (l : List Block). block_spelled h l x) (sym (append-nil e))
spelled_more h e (y ∷ xs) x =
    ap (λ (l : List Bool). block_spelled h e y ++ l) (spelled_more h (e ++ y.fields ∷ []) xs x ∙ ap (λ (l : List Block). blocks_spelled h (e ++ y.fields ∷ []) xs ++ block_spelled h l x) (append_assoc e (y.fields ∷ []) (fields_of xs)))
    ∙ sym (append_assoc (block_spelled h e y) (blocks_spelled h (e ++ y.fields ∷ []) xs) (block_spelled h (e ++ y.fields ∷ fields_of xs) x))

pub blocks_more : (h : Head) (e : List Block) (xs : List BlockRecord) (x : BlockRecord) → AreBlocks h e xs → IsBlock h (e ++ fields_of xs) x → AreBlocks h e (xs ++ x ∷ [])
unfolding AreBlocks
blocks_more h e [] x k l = (subst (λ (b : List Block). IsBlock h b x) (append-nil e) l, tt)
blocks_more h e (y ∷ xs) x k l = (k.0, blocks_more h (e ++ y.fields ∷ []) xs x k.1 (subst (λ (b : List Block). IsBlock h b x) (sym (append_assoc e (y.fields ∷ []) (fields_of xs))) l))

pub readings_more : (h : Head) (e : List Block) (b : ℕ) (xs : List BlockRecord) (x : BlockRecord) (f : FrameCodes) → AreBlockReadings h e b xs f → IsBlockReading h (e ++ fields_of xs) (b + length xs) x f → AreBlockReadings h e b (xs ++ x ∷ []) f
unfolding AreBlockReadings
readings_more h e b [] x f k l = (subst (λ (n : ℕ). IsBlockReading h e n x f) (omega arith) (subst (λ (l : List Block). IsBlockReading h l (b + 0) x f) (append-nil e) l), tt)
readings_more h e b (y ∷ xs) x f k l = (
  k.0,
  readings_more h (e ++ y.fields ∷ []) (suc b) xs x f k.1
      (subst (λ (n : ℕ). IsBlockReading h ((e ++ y.fields ∷ []) ++ fields_of xs) n x f) (omega arith)
      (subst (λ (l : List Block). IsBlockReading h l (b + suc (length xs)) x f) (sym (append_assoc e (y.fields ∷ []) (fields_of xs))) l)),
)

-- ---- what later blocks leave

-- blocks below b have the same cells
pub record IsSameBelow (b : ℕ) (f g : FrameCodes) : Type 0 where
  pub exps : (c e k : ℕ) → e < b → cell g.exps c e k ≡ cell f.exps c e k
  pub baps : (c e k : ℕ) → e < b → cell g.baps c e k ≡ cell f.baps c e k
  pub codes : (c e k : ℕ) → e < b → cell g.codes c e k ≡ cell f.codes c e k

reading_kept : (h : Head) (e : List Block) (b n : ℕ) (x : BlockRecord) (f g : FrameCodes) → b < n → IsSameBelow n f g → IsBlockReading h e b x f → IsBlockReading h e b x g
reading_kept h e b n x f g lt same r = record {
  exps = λ c k hc hk. same.exps c b k lt ∙ r.exps c k hc hk;
  baps = λ c k hc hk. same.baps c b k lt ∙ r.baps c k hc hk;
  codes = r.codes
      ∙ channels_same (span_in h (filled_of h e x.fields)) (span_in h (filled_of h e x.fields)) _ (λ c k. coded (cell f.baps c b k) (cell f.codes c b k)) (λ c k. coded (cell g.baps c b k) (cell g.codes c b k))
      (λ j l. refl) (λ j k l i. ap₂ coded (sym (same.baps _ b k lt)) (sym (same.codes _ b k lt)));
  elsewhere = λ c k hc hk out. same.codes c b k lt ∙ r.elsewhere c k hc hk out;
}

pub readings_kept : (h : Head) (e : List Block) (b n : ℕ) (xs : List BlockRecord) (f g : FrameCodes) → b + length xs ≤ n → IsSameBelow n f g → AreBlockReadings h e b xs f → AreBlockReadings h e b xs g
unfolding AreBlockReadings
readings_kept h e b n [] f g le same r = tt
readings_kept h e b n (x ∷ xs) f g le same r = (reading_kept h e b n x f g (omega arith) same r.0, readings_kept h (e ++ x.fields ∷ []) (suc b) n xs f g (omega arith) same r.1)

same_below : (b : ℕ) (f g : FrameCodes) → Keeps b f g → IsSameBelow b f g
same_below b f g k = record {
  exps = λ c e n lt. k.exps c e n (λ eq. absurd (omega arith));
  baps = λ c e n lt. k.baps c e n (λ eq. absurd (omega arith));
  codes = λ c e n lt. k.codes c e n (λ eq. absurd (omega arith));
}

open_kept : (b e : ℕ) (f g : FrameCodes) → b < e → Keeps b f g → IsOpen e f → IsOpen e g
open_kept b e f g lt k o = record {
  exps = λ c n. k.exps c e n (λ eq. absurd (omega arith)) ∙ o.exps c n;
  baps = λ c n. k.baps c e n (λ eq. absurd (omega arith)) ∙ o.baps c n;
  codes = λ c n. k.codes c e n (λ eq. absurd (omega arith)) ∙ o.codes c n;
}

-- ---- one block more

pub begun_more : (h : Head) (b : ℕ) (f g : FrameCodes) (room rest after : List Bool) → IsBegun h b f room rest → IsRead h b f g rest after → Keeps b f g → IsBegun h (b + 1) g room after
begun_more h b f g room rest after s r kept =
    let P : List Block → Type 0 = λ l. IsBlock h l r.block in
    let Q : List Block → Type 0 = λ l. IsBlockReading h l b r.block g in
    let law = subst P s.fields r.lawful in
    let read = subst Q s.fields r.reading in
    record {
      blocks = s.blocks ++ r.block ∷ [];
      many = length-append s.blocks (r.block ∷ []) ∙ ap (λ (n : ℕ). n + 1) s.many;
      lawful = blocks_more h [] s.blocks r.block s.lawful law;
      whole = s.whole
          ∙ (ap (λ (l : List Bool). blocks_spelled h [] s.blocks ++ l) (r.whole ∙ ap (λ (l : List Block). block_spelled h l r.block ++ after) s.fields)
          ∙ (sym (append_assoc (blocks_spelled h [] s.blocks) (block_spelled h (fields_of s.blocks) r.block) after)
          ∙ ap (λ (l : List Bool). l ++ after) (sym (spelled_more h [] s.blocks r.block))));
      long = r.long ∙ s.long;
      fields = r.fields ∙ (ap (λ (l : List Block). l ++ r.block.fields ∷ []) s.fields ∙ sym (fields_more s.blocks r.block));
      reading = readings_more h [] 0 s.blocks r.block g (readings_kept h [] 0 b s.blocks f g (omega (arith, s.many)) (same_below b f g kept) s.reading)
          (let at : b ≡ 0 + length s.blocks = omega (arith, s.many) in subst (λ (n : ℕ). IsBlockReading h (fields_of s.blocks) n r.block g) at read);
      blank = λ e le. open_kept b e f g (omega arith) kept (s.blank e (omega arith));
    }

-- ---- lawful fields

fields_lawful : (h : Head) (e : List Block) (b : Block) (skipped : List Bool) → (whole_block h e).Lawful (b, skipped) → (block_fields h e).Lawful b
unfolding whole_block pair
fields_lawful h e b skipped l = l.0

are_lawful : (h : Head) (e : List Block) (xs : List BlockRecord) → AreBlocks h e xs → AreLawfulAfter h e (fields_of xs)
unfolding AreBlocks
are_lawful h e [] k = tt
are_lawful h e (x ∷ xs) k = (fields_lawful h e x.fields x.skipped k.0.fields, are_lawful h (e ++ x.fields ∷ []) xs k.1)

pub begun_lawful : (h : Head) (b : ℕ) (f : FrameCodes) (room rest : List Bool) → IsBegun h b f room rest → AreLawful h (take b f.block)
begun_lawful h b f room rest s = subst (AreLawful h) (sym s.fields) (are_lawful h [] s.blocks s.lawful)

-- ---- refusals

blocks_refuse : (h : Head) (e : List Block) (xs : List BlockRecord) (n : ℕ) (rest : List Bool) (fault : Refused) → AreBlocks h e xs → BlocksRefuse h (e ++ fields_of xs) n rest fault → BlocksRefuse h e (length xs + n) (blocks_spelled h e xs ++ rest) fault
unfolding BlocksRefuse AreBlocks blocks_spelled
blocks_refuse h e [] n rest fault k r =
    let z : n ≡ 0 + n = omega arith in
    subst (λ (m : ℕ). BlocksRefuse h e m rest fault) z (subst (λ (l : List Block). BlocksRefuse h l n rest fault) (append-nil e) r)
blocks_refuse h e (x ∷ xs) n rest fault k r =
    let s : suc (length xs + n) ≡ suc (length xs) + n = omega arith in
    subst (λ (m : ℕ). BlocksRefuse h e m (blocks_spelled h e (x ∷ xs) ++ rest) fault) s
    (inr (
      x,
      blocks_spelled h (e ++ x.fields ∷ []) xs ++ rest,
      k.0,
      append_assoc (block_spelled h e x) (blocks_spelled h (e ++ x.fields ∷ []) xs) rest,
      blocks_refuse h (e ++ x.fields ∷ []) xs n rest fault k.1 (subst (λ (l : List Block). BlocksRefuse h l n rest fault) (sym (append_assoc e (x.fields ∷ []) (fields_of xs))) r),
    ))

first_refuses : (h : Head) (e : List Block) (n : ℕ) (l : List Bool) (fault : Refused) → BlockRefuses h e l fault → BlocksRefuse h e (suc n) l fault
unfolding BlocksRefuse
first_refuses h e n l fault r = inl r

pub begun_refuses : (h : Head) (b : ℕ) (f : FrameCodes) (room rest : List Bool) (fault : Refused) → b < 6 → IsBegun h b f room rest → BlockRefuses h (take b f.block) rest fault → BlocksRefuse h [] 6 room fault
begun_refuses h b f room rest fault lt s r =
    let here : BlockRefuses h (fields_of s.blocks) rest fault = subst (λ (l : List Block). BlockRefuses h l rest fault) s.fields r in
    let all = blocks_refuse h [] s.blocks (suc (5 - b)) rest fault s.lawful (first_refuses h (fields_of s.blocks) (5 - b) rest fault here) in
    let n : length s.blocks + suc (5 - b) ≡ 6 = omega (arith, s.many) in
    subst (λ (l : List Bool). BlocksRefuse h [] 6 l fault) (sym s.whole) (subst (λ (m : ℕ). BlocksRefuse h [] m (blocks_spelled h [] s.blocks ++ rest) fault) n all)

-- ---- the first block

pub whole_lawful : (h : Head) (e : List Block) (b : Block) (skipped : List Bool) → (whole_block h e).Lawful (b, skipped) → (block_fields h e).Lawful b
whole_lawful h e b skipped l = fields_lawful h e b skipped l

past_row : (xs : List (List ℕ)) (b : ℕ) → length xs ≤ b → (k : ℕ) → slice_index (slice_index_or xs b []) k ≡ 0
past_row xs b le k = ap (λ (r : List ℕ). slice_index r k) (get_or_past xs b [] le)

zero_block : (b k : ℕ) → slice_index (slice_index_or (replicate {A = List ℕ} 6 (replicate {A = ℕ} 256 0)) b []) k ≡ 0
zero_block b k = elim (cases_lt b 6) [
  | inl lt ↦ ap (λ (r : List ℕ). slice_index r k) (get_or-replicate 6 b (replicate {A = ℕ} 256 0) [] lt) ∙ zero_at 256 k
  | inr le ↦ past_row (replicate {A = List ℕ} 6 (replicate {A = ℕ} 256 0)) b (omega (arith, length-replicate {A = List ℕ} 6 (replicate {A = ℕ} 256 0))) k
]

pub zero_cell : (c b k : ℕ) → cell (replicate 7 (replicate 6 (replicate 256 0))) c b k ≡ 0
zero_cell c b k = elim (cases_lt c 7) [
  | inl lt ↦ ap (λ (r : List (List ℕ)). slice_index (slice_index_or r b []) k) (get_or-replicate 7 c (replicate {A = List ℕ} 6 (replicate {A = ℕ} 256 0)) [] lt) ∙ zero_block b k
  | inr le ↦ ap (λ (r : List (List ℕ)). slice_index (slice_index_or r b []) k) (get_or_past (replicate {A = List (List ℕ)} 7 (replicate {A = List ℕ} 6 (replicate {A = ℕ} 256 0))) c [] (omega (arith, length-replicate {A = List (List ℕ)} 7 (replicate {A = List ℕ} 6 (replicate {A = ℕ} 256 0)))))
]

pub begun_none : (h : Head) (f : FrameCodes) (room : List Bool) → f ≡ empty_codes → IsBegun h 0 f room room
unfolding AreBlocks blocks_spelled AreBlockReadings
begun_none h f room e = record {
  blocks = [];
  many = refl;
  lawful = tt;
  whole = refl;
  fields = refl;
  long = ap (λ (x : FrameCodes). length x.block) e;
  reading = tt;
  blank = λ b le. subst (IsOpen b) (sym e) (record { exps = λ c k. zero_cell c b k; baps = λ c k. zero_cell c b k; codes = λ c k. zero_cell c b k });
}

-- the head is put in at last
pub begun_head : (h : Head) (b : ℕ) (f g : FrameCodes) (room rest : List Bool) → g.block ≡ f.block → g.exps ≡ f.exps → g.baps ≡ f.baps → g.codes ≡ f.codes → IsBegun h b f room rest → IsBegun h b g room rest
begun_head h b f g room rest eb ee ep ec s =
    record {
      blocks = s.blocks;
      many = s.many;
      lawful = s.lawful;
      whole = s.whole;
      fields = ap (take b) eb ∙ s.fields;
      long = ap length eb ∙ s.long;
      reading = readings_kept h [] 0 b s.blocks f g (omega (arith, s.many)) (record {
        exps = λ c e k lt. ap (λ (a : List (List (List ℕ))). cell a c e k) ee;
        baps = λ c e k lt. ap (λ (a : List (List (List ℕ))). cell a c e k) ep;
        codes = λ c e k lt. ap (λ (a : List (List (List ℕ))). cell a c e k) ec;
      }) s.reading;
      blank = λ e le. let o = s.blank e le in record {
        exps = λ c k. ap (λ (a : List (List (List ℕ))). cell a c e k) ee ∙ o.exps c k;
        baps = λ c k. ap (λ (a : List (List (List ℕ))). cell a c e k) ep ∙ o.baps c k;
        codes = λ c k. ap (λ (a : List (List (List ℕ))). cell a c e k) ec ∙ o.codes c k;
      };
    }

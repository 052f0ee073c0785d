-- What is known of each block of a reading: its values, and the bins of its channels.
use Rattle.std.proofs.Common.{◌≡◌, ℕ, zero, suc, ◌+◌, ◌<◌, ◌≤◌, List, [], ◌∷◌, ◌++◌, append_assoc, length, take, refl, ap, sym, subst, ◌∙◌, arith}
use Rattle.std.specs.Prelude.{slice_index_or}
use Rattle.std.proofs.lemmas.List.{append-nil}
use Rattle.ac_base.specs.Shape.{full_of}
use Rattle.ac_reading.proofs.Blocks.{whole_lawful}
use Rattle.ac_reading.proofs.Whole.{head_lawful}
use Rattle.ac_record.specs.Empty.{empty_block}
use Rattle.ac_record.specs.Frames.{FrameCodes}
use Rattle.ac_record.specs.Readings.{IsBlockReading, AreBlockReadings, IsReading}
use Rattle.ac_record.specs.Records.{BlockRecord, fields_of, IsBlock, AreBlocks}
use Rattle.ac_rows.specs.Blocks.{Block}
use Rattle.ac_rows.specs.BlockRows.{AreLawfulAfter, AreLawful}
use Rattle.ac_rows.specs.declared.head.Head.{Head}
use Rattle.ac_rows.specs.Filled.{filled_of, HasSpans}
use Rattle.ac_rows.specs.HeadRows.{head_fields}
use Rattle.ac_rows.proofs.FilledSpans.{filled_has_spans}
use Rattle.ac_rows.proofs.HeadSound.{head_channels}
use Rattle.ac_dec.specs.Heard.{block_at}
use Rattle.ac_dec.specs.Values.{AreReadable}
use Rattle.ac_dec.proofs.Readable.{block_readable}

-- block b of those behind these
record Found (h : Head) (e : List Block) (n : ℕ) (xs : List BlockRecord) (g : FrameCodes) (b : ℕ) : Type 0 where
  x : BlockRecord
  lawful : IsBlock h (e ++ take b (fields_of xs)) x
  reading : IsBlockReading h (e ++ take b (fields_of xs)) (n + b) x g
  here : slice_index_or (fields_of xs) b empty_block ≡ x.fields

found : (h : Head) (e : List Block) (n : ℕ) (xs : List BlockRecord) (g : FrameCodes) (b : ℕ) → AreBlocks h e xs → AreBlockReadings h e n xs g → b < length xs → Found h e n xs g b
unfolding AreBlocks AreBlockReadings
found h e n [] g b k r lt = absurd (omega arith)
found h e n (x ∷ xs) g zero k r lt =
    let at : n ≡ n + 0 = omega arith in
    record {
      x = x;
      lawful = subst (λ (l : List Block). IsBlock h l x) (sym (append-nil e)) k.0;
      reading = subst (λ (m : ℕ). IsBlockReading h (e ++ []) m x g) at (subst (λ (l : List Block). IsBlockReading h l n x g) (sym (append-nil e)) r.0);
      here = refl;
    }
found h e n (x ∷ xs) g (suc b) k r lt =
    let f = found h (e ++ x.fields ∷ []) (suc n) xs g b k.1 r.1 (omega arith) in
    let at : suc n + b ≡ n + suc b = omega arith in
    let same = append_assoc e (x.fields ∷ []) (take b (fields_of xs)) in
    record {
      x = f.x;
      lawful = subst (λ (l : List Block). IsBlock h l f.x) same f.lawful;
      reading = subst (λ (m : ℕ). IsBlockReading h (e ++ x.fields ∷ take b (fields_of xs)) m f.x g) at (subst (λ (l : List Block). IsBlockReading h l (suc n + b) f.x g) same f.reading);
      here = f.here;
    }

are_lawful : (h : Head) (e : List Block) (xs : List BlockRecord) (b : ℕ) → AreBlocks h e xs → AreLawfulAfter h e (take b (fields_of xs))
unfolding AreBlocks
are_lawful h e [] zero k = tt
are_lawful h e [] (suc b) k = tt
are_lawful h e (x ∷ xs) zero k = tt
are_lawful h e (x ∷ xs) (suc b) k = (whole_lawful h e x.fields x.skipped k.0.fields, are_lawful h (e ++ x.fields ∷ []) xs b k.1)

-- ---- of a reading

pub record Standing (g : FrameCodes) (b : ℕ) : Type 0 where
  pub x : BlockRecord
  pub head : head_fields.Lawful g.head
  pub earlier : AreLawful g.head (take b g.block)
  pub lawful : IsBlock g.head (take b g.block) x
  pub reading : IsBlockReading g.head (take b g.block) b x g
  pub here : slice_index_or g.block b empty_block ≡ x.fields

standing : (bytes : List ℕ) (g : FrameCodes) (b : ℕ) → IsReading bytes g → b < 6 → Standing g b
standing bytes g b r lt =
    let of = r.of in
    let k = r.stands.is_record in
    let six = k.six in
    let f = found of.head [] 0 of.blocks g b k.blocks r.reading.blocks (omega (arith, six, lt)) in
    let h = sym r.reading.head in
    let fields = sym r.reading.fields in
    let at : 0 + b ≡ b = omega arith in
    let reading : IsBlockReading of.head (take b (fields_of of.blocks)) b f.x g = subst (λ (n : ℕ). IsBlockReading of.head (take b (fields_of of.blocks)) n f.x g) at f.reading in
    record {
      x = f.x;
      head = subst (λ (a : Head). head_fields.Lawful a) h (head_lawful of.head of.addbsi k.head);
      earlier = subst (λ (a : Head). AreLawful a (take b g.block)) h (subst (λ (l : List Block). AreLawful of.head (take b l)) fields (are_lawful of.head [] of.blocks b k.blocks));
      lawful = subst (λ (a : Head). IsBlock a (take b g.block) f.x) h (subst (λ (l : List Block). IsBlock of.head (take b l) f.x) fields f.lawful);
      reading = subst (λ (a : Head). IsBlockReading a (take b g.block) b f.x g) h (subst (λ (l : List Block). IsBlockReading of.head (take b l) b f.x g) fields reading);
      here = ap (λ (l : List Block). slice_index_or l b empty_block) r.reading.fields ∙ f.here;
    }

full_some : (acmod : ℕ) → acmod ≤ 7 → 0 < full_of acmod
full_some zero l = omega arith
full_some (suc zero) l = omega arith
full_some (suc (suc zero)) l = omega arith
full_some (suc (suc (suc zero))) l = omega arith
full_some (suc (suc (suc (suc zero)))) l = omega arith
full_some (suc (suc (suc (suc (suc zero))))) l = omega arith
full_some (suc (suc (suc (suc (suc (suc zero)))))) l = omega arith
full_some (suc (suc (suc (suc (suc (suc (suc zero))))))) l = omega arith
full_some (suc (suc (suc (suc (suc (suc (suc (suc n)))))))) l = absurd (omega arith)

pub modes : (bytes : List ℕ) (g : FrameCodes) → IsReading bytes g → g.head.acmod ≤ 7
modes bytes g r = head_channels g.head (standing bytes g 0 r (omega arith)).head

pub readable : (bytes : List ℕ) (g : FrameCodes) → IsReading bytes g → AreReadable g
readable bytes g r c small b lt k below =
    let s = standing bytes g b r lt in
    block_readable g.head (take b g.block) b s.x g (full_some g.head.acmod (modes bytes g r)) s.head s.earlier s.lawful s.reading c k small below

pub has_spans : (bytes : List ℕ) (g : FrameCodes) (b : ℕ) → IsReading bytes g → b < 6 → HasSpans g.head (block_at g b)
has_spans bytes g b r lt =
    let s = standing bytes g b r lt in
    subst (λ (x : Block). HasSpans g.head (filled_of g.head (take b g.block) x)) (sym s.here)
    (filled_has_spans g.head (take b g.block) s.x.fields s.head s.earlier (whole_lawful g.head (take b g.block) s.x.fields s.x.skipped s.lawful.fields))

-- What the frames of a generated sound leave.
use Rattle.std.proofs.Common.{◌≡◌, ℕ, ◌+◌, ◌<◌, List, [], ◌∷◌, ◌++◌, take, Option, Some, None, ap, sym, subst, ◌∙◌, append-nil}
use Rattle.ac_dec.specs.Decoding.{Decoding}
use Rattle.ac_enc.specs.Frame.{IsFrame}
use Rattle.ac_encode.specs.Stream.{places}
use Rattle.ac_io.specs.Outside.{Adds, AddsFront}
use Rattle.ac_io.proofs.Written.{adds_both}
use Rattle.ac_noise.specs.Noise.{Noising}
use Rattle.ac_plan.specs.declared.answer.Mark.{Mark}
use Rattle.ac_plan.specs.declared.answer.Plan.{Plan}
use Rattle.ac_record.specs.Frames.{FrameCodes}
use Rattle.ac_world.specs.World.{Sinks}
use Rattle.ac_synth.specs.Loop.{AreBehind, IsPassed, IsCut, AreDone, AllDone, FewerDone}
use Rattle.ac_synth.specs.Synth.{synth_options, synth_layout, generated, best_count, bounded_count, IsMadeFrame, IsMade, sum_of, synth_line, IsGenerated, StopsInFrames, StopsInLine}
use Rattle.ac_synth.specs.declared.frame.Passed.{Passed}
use Rattle.ac_synth.specs.declared.tally.Tally.{Tally}
use Rattle.ac_synth.proofs.Made.{none, one_more, each}
use Rattle.ac_synth.proofs.Sums.{sum_of_none}

-- ---- writes

adds_nothing : (a : Option (List ℕ)) → Adds a a []
adds_nothing None = tt
adds_nothing (Some before) = ap (λ l. Some l) (sym (append-nil before))

-- a piece, and a front of another behind it
adds_cut : (a b c : Option (List ℕ)) (xs ys : List ℕ) → Adds a b xs → AddsFront b c ys → (n : ℕ) × Adds a c (xs ++ take n ys)
adds_cut None b c xs ys p q = (0, tt)
adds_cut (Some held) None c xs ys p q = absurd cc
adds_cut (Some held) (Some bs) c xs ys p q = (q.0, adds_both (Some held) (Some bs) c xs (take q.0 ys) p q.1)

-- a front of a piece
adds_part : (a b : Option (List ℕ)) (xs : List ℕ) → AddsFront a b xs → (n : ℕ) × Adds a b (take n xs)
adds_part None b xs p = (0, tt)
adds_part (Some held) b xs p = p

-- ---- the frames

pub none_done : (seed frames : ℕ) (tally : Tally) (d : Decoding) (before : Option (List ℕ)) → tally.best ≡ 0 → tally.bounded ≡ 0 → tally.sum ≡ 0 → AreBehind [] d → AreDone seed frames 0 tally d before before
none_done seed frames tally d before best bounded sum behind = record {
  stream = [];
  gs = [];
  made = subst (λ (n : ℕ). IsMade seed frames 0 [] [] n tally.bounded) (sym best) (subst (λ (n : ℕ). IsMade seed frames 0 [] [] 0 n) (sym bounded) (none seed frames));
  sum = sum ∙ sym sum_of_none;
  behind = behind;
  adds = adds_nothing before;
}

frame_by : (a b c seed frames k : ℕ) (plan : Plan) (frame : List ℕ) (g : FrameCodes) → a ≡ seed → b ≡ frames → c ≡ k → IsMadeFrame a b c plan frame g → IsMadeFrame seed frames k plan frame g
frame_by a b c seed frames k plan frame g e f h m =
    subst (λ (n : ℕ). IsMadeFrame seed frames n plan frame g) h (subst (λ (n : ℕ). IsMadeFrame seed n c plan frame g) f (subst (λ (n : ℕ). IsMadeFrame n b c plan frame g) e m))

-- the tally counted a frame
pub record Counts (old new : Tally) (passed : Passed) : Type 0 where
  pub best : new.best ≡ old.best + best_count passed.mark
  pub bounded : new.bounded ≡ old.bounded + bounded_count passed.mark
  pub sum : new.sum ≡ old.sum + passed.sum

made_by : (seed frames k : ℕ) (s : List ℕ) (gs : List FrameCodes) (a b c d : ℕ) → a ≡ c → b ≡ d → IsMade seed frames k s gs a b → IsMade seed frames k s gs c d
made_by seed frames k s gs a b c d e f m = subst (λ (n : ℕ). IsMade seed frames k s gs c n) f (subst (λ (n : ℕ). IsMade seed frames k s gs n b) e m)

pub one_done : (seed frames k : ℕ) (n : Noising) (old new : Tally) (passed : Passed) (d e : Decoding) (before mid after : Option (List ℕ)) → n.seed ≡ seed → n.frames ≡ frames → n.given ≡ k → Counts old new passed
    → AreDone seed frames k old d before mid → IsPassed n passed mid after d e → AreDone seed frames (k + 1) new e before after
one_done seed frames k n old new passed d e before mid after a b c counts done p =
    let made = one_more seed frames k done.stream p.frame done.gs p.g p.plan old.best old.bounded done.made (frame_by n.seed n.frames n.given seed frames k p.plan p.frame p.g a b c p.made) in
    let best = counts.best ∙ ap (λ (m : Mark). old.best + best_count m) p.mark in
    let bounded = counts.bounded ∙ ap (λ (m : Mark). old.bounded + bounded_count m) p.mark in
    record {
      stream = done.stream ++ p.frame;
      gs = done.gs ++ p.g ∷ [];
      made = made_by seed frames (k + 1) (done.stream ++ p.frame) (done.gs ++ p.g ∷ []) (old.best + best_count p.plan.mark) (old.bounded + bounded_count p.plan.mark) new.best new.bounded (sym best) (sym bounded) made;
      sum = counts.sum ∙ (ap (λ (m : ℕ). m + passed.sum) done.sum ∙ sym (p.heard.adds done.gs done.behind));
      behind = p.heard.behind done.gs done.behind;
      adds = adds_both before mid after done.stream p.frame done.adds p.adds;
    }

pub marks_most : (seed frames k : ℕ) (tally : Tally) (d : Decoding) (before after : Option (List ℕ)) → AreDone seed frames k tally d before after → tally.best + tally.bounded ≡ k
marks_most seed frames k tally d before after done = (each seed frames k done.stream done.gs tally.best tally.bounded done.made).1

pub all_done : (seed frames k : ℕ) (tally : Tally) (d : Decoding) (before after : Option (List ℕ)) → k ≡ frames → AreDone seed frames k tally d before after → AllDone seed frames tally before after
all_done seed frames k tally d before after e done = record {
  stream = done.stream;
  gs = done.gs;
  made = subst (λ (n : ℕ). IsMade seed frames n done.stream done.gs tally.best tally.bounded) e done.made;
  sum = done.sum;
  adds = done.adds;
}

cut_by : (a b c seed frames k : ℕ) (plan : Plan) (frame : List ℕ) → a ≡ seed → b ≡ frames → c ≡ k → IsFrame synth_options synth_layout c (places (generated a b) c) plan frame → IsFrame synth_options synth_layout k (places (generated seed frames) k) plan frame
cut_by a b c seed frames k plan frame e f h m =
    subst (λ (n : ℕ). IsFrame synth_options synth_layout n (places (generated seed frames) n) plan frame) h
    (subst (λ (n : ℕ). IsFrame synth_options synth_layout c (places (generated seed n) c) plan frame) f
    (subst (λ (n : ℕ). IsFrame synth_options synth_layout c (places (generated n b) c) plan frame) e m))

pub fewer_done : (seed frames k : ℕ) (n : Noising) (tally : Tally) (d : Decoding) (before mid after : Option (List ℕ)) → n.seed ≡ seed → n.frames ≡ frames → n.given ≡ k → k < frames
    → AreDone seed frames k tally d before mid → IsCut n mid after → FewerDone seed frames before after
fewer_done seed frames k n tally d before mid after a b c less done cut =
    let t = adds_cut before mid after done.stream cut.frame done.adds cut.adds in
    record {
      count = k;
      fewer = less;
      stream = done.stream;
      gs = done.gs;
      best = tally.best;
      bounded = tally.bounded;
      made = done.made;
      plan = cut.plan;
      frame = cut.frame;
      is_frame = cut_by n.seed n.frames n.given seed frames k cut.plan cut.frame a b c cut.is_frame;
      part = t.0;
      adds = t.1;
    }

pub fewer_by : (a b m n : ℕ) (before after : Option (List ℕ)) → a ≡ b → m ≡ n → FewerDone a m before after → FewerDone b n before after
fewer_by a b m n before after e f x = subst (λ (k : ℕ). FewerDone b k before after) f (subst (λ (k : ℕ). FewerDone k m before after) e x)

pub all_by : (a b m n : ℕ) (tally : Tally) (before after : Option (List ℕ)) → a ≡ b → m ≡ n → AllDone a m tally before after → AllDone b n tally before after
all_by a b m n tally before after e f x = subst (λ (k : ℕ). AllDone b k tally before after) f (subst (λ (k : ℕ). AllDone k m tally before after) e x)

-- ---- the end

line_by : (seed frames : ℕ) (tally : Tally) (before after : Option (List ℕ)) → (all : AllDone seed frames tally before after) → synth_line frames tally.best tally.bounded tally.sum ≡ synth_line frames tally.best tally.bounded (sum_of all.gs)
line_by seed frames tally before after all = ap (λ (n : ℕ). synth_line frames tally.best tally.bounded n) all.sum

pub generated_all : (seed frames : ℕ) (tally : Tally) (old new : Sinks) → AllDone seed frames tally old.output.bytes new.output.bytes
    → Adds old.report.bytes new.report.bytes (synth_line frames tally.best tally.bounded tally.sum) → IsGenerated seed frames old new
generated_all seed frames tally old new all adds = record {
  stream = all.stream;
  gs = all.gs;
  best = tally.best;
  bounded = tally.bounded;
  made = all.made;
  all = (each seed frames frames all.stream all.gs tally.best tally.bounded all.made).1;
  output = all.adds;
  report = subst (λ (l : List ℕ). Adds old.report.bytes new.report.bytes l) (line_by seed frames tally old.output.bytes new.output.bytes all) adds;
}

pub stops_in_frames : (seed frames : ℕ) (old new : Sinks) → new.report ≡ old.report → FewerDone seed frames old.output.bytes new.output.bytes → StopsInFrames seed frames old new
stops_in_frames seed frames old new same f = record {
  count = f.count;
  fewer = f.fewer;
  stream = f.stream;
  gs = f.gs;
  best = f.best;
  bounded = f.bounded;
  made = f.made;
  plan = f.plan;
  frame = f.frame;
  is_frame = f.is_frame;
  part = f.part;
  output = f.adds;
  report = same;
}

pub stops_in_line : (seed frames : ℕ) (tally : Tally) (old new : Sinks) → AllDone seed frames tally old.output.bytes new.output.bytes
    → AddsFront old.report.bytes new.report.bytes (synth_line frames tally.best tally.bounded tally.sum) → StopsInLine seed frames old new
stops_in_line seed frames tally old new all front =
    let t = adds_part old.report.bytes new.report.bytes (synth_line frames tally.best tally.bounded tally.sum) front in
    record {
      stream = all.stream;
      gs = all.gs;
      best = tally.best;
      bounded = tally.bounded;
      made = all.made;
      all = (each seed frames frames all.stream all.gs tally.best tally.bounded all.made).1;
      output = all.adds;
      part = t.0;
      report = subst (λ (l : List ℕ). Adds old.report.bytes new.report.bytes (take t.0 l)) (line_by seed frames tally old.output.bytes new.output.bytes all) t.1;
    }

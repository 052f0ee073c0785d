-- The frames of a generated sound by their definition alone.
use Rattle.std.proofs.Common.{◌≡◌, ℕ, zero, suc, ◌+◌, List, [], ◌∷◌, ◌++◌, length, refl, ap, subst, ◌∙◌, arith, length-append}
use Rattle.ac_plan.specs.declared.answer.Mark.{Mark}
use Rattle.ac_plan.specs.declared.answer.Mark.TheVariants.{Best, Bounded}
use Rattle.ac_plan.specs.declared.answer.Plan.{Plan}
use Rattle.ac_record.specs.Frames.{FrameCodes}
use Rattle.ac_encode.specs.Lines.{frame_line}
use Rattle.ac_encode.specs.Stream.{IsStream}
use Rattle.ac_synth.specs.Synth.{synth_options, generated, best_count, bounded_count, IsMadeFrame, IsMade}

-- its frames are those of its stream
pub stream : (seed frames k : ℕ) (s : List ℕ) (gs : List FrameCodes) (best bounded : ℕ) → IsMade seed frames k s gs best bounded → (lines : List ℕ) × IsStream synth_options (generated seed frames) k s lines
unfolding IsMade IsStream
stream seed frames zero s gs best bounded m = ([], (m.0, refl))
stream seed frames (suc k) s gs best bounded (front, frame, before, g, plan, b, u, m, f, e, h, i, j) =
    let t = stream seed frames k front before b u m in
    let line = frame_line k (length frame) plan in
    (t.0 ++ line, (front, frame, t.0, line, t.1, record { plan = plan; is_frame = f.is_frame; is_line = refl }, e, refl))

mark_one : (m : Mark) → best_count m + bounded_count m ≡ 1
mark_one Best = refl
mark_one (Bounded upper) = refl

-- each is read, and has one of the two marks
pub each : (seed frames k : ℕ) (s : List ℕ) (gs : List FrameCodes) (best bounded : ℕ) → IsMade seed frames k s gs best bounded → (length gs ≡ k) × (best + bounded ≡ k)
unfolding IsMade
each seed frames zero s gs best bounded m = let a = m.2 in let b = m.3 in (ap length m.1, omega (arith, a, b))
each seed frames (suc k) s gs best bounded (front, frame, before, g, plan, b, u, m, f, e, h, i, j) =
    let t = each seed frames k front before b u m in
    let long = length-append before (g ∷ []) in
    let read = t.0 in
    let marks = t.1 in
    let one = mark_one plan.mark in
    (ap length h ∙ omega (arith, long, read), omega (arith, marks, one, i, j))

-- ---- one frame more

pub none : (seed frames : ℕ) → IsMade seed frames 0 [] [] 0 0
unfolding IsMade
none seed frames = (refl, refl, refl, refl)

pub one_more : (seed frames k : ℕ) (s frame : List ℕ) (gs : List FrameCodes) (g : FrameCodes) (plan : Plan) (b u : ℕ) → IsMade seed frames k s gs b u → IsMadeFrame seed frames k plan frame g
    → IsMade seed frames (k + 1) (s ++ frame) (gs ++ g ∷ []) (b + best_count plan.mark) (u + bounded_count plan.mark)
unfolding IsMade
one_more seed frames k s frame gs g plan b u m f =
    let more : suc k ≡ k + 1 = omega arith in
    subst (λ (n : ℕ). IsMade seed frames n (s ++ frame) (gs ++ g ∷ []) (b + best_count plan.mark) (u + bounded_count plan.mark)) more
    (s, frame, gs, g, plan, b, u, m, f, refl, refl, refl, refl)

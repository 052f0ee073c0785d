-- Whole assignments: the runs of their words are their runs, and each assignment is one.
use Rattle.std.proofs.Common.{◌≡◌, ℕ, zero, suc, ◌+◌, ◌<◌, ◌≤◌, Bool, true, false, List, [], ◌∷◌, slice_index, eqb, refl, sym, ap, ◌∙◌, inl, inr, subst, arith}
use Rattle.std.specs.Prelude.{◌==◌, if◌then◌else◌}
use Rattle.std.proofs.lemmas.Bool.{cases_eq, eq-eqb, ne_eqb}
use Rattle.ac_base.specs.declared.runs.Run.{Run}
use Rattle.ac_base.specs.Sigma.{sum_below}
use Rattle.ac_base.specs.Words.{runs_of, IsWord, word_of}
use Rattle.ac_base.proofs.ByRuns.{sum_more, sum_zero}
use Rattle.ac_expo.specs.Raw.{channels}
use Rattle.ac_cost.specs.Records.{AtOffset}
use Rattle.ac_cost.specs.Runs.{IsRunOf, IsAssignmentOf}
use Rattle.ac_cost.specs.Sixths.{run_sixths, runs_sixths}
use Rattle.ac_cost.proofs.Assigning.{coded-few}
use Rattle.ac_cost.proofs.Bounding.{within}
use Rattle.ac_cost.proofs.Covering.{sum_same-below}
use Rattle.ac_bound.specs.Ways.{IsWordOf}
use Rattle.ac_bound.specs.Ways as ways
use Rattle.ac_bound.proofs.Offsets.{fit-part}
use Rattle.ac_bound.proofs.Spelling.{ways_words}
use Rattle.ac_seek.specs.declared.step.Step.{Step}
use Rattle.ac_seek.specs.Games.{Game, IsPath, IsWay, channel_of, boundary_of, channel_after, boundary_after, onto, spent}
use Rattle.ac_seek.proofs.Premises.{IsStrict}
use Rattle.ac_seek.specs.Words.{game_of, words_of, FitsHere}
use Rattle.ac_seek.proofs.Below.{spent-onto}
use Rattle.ac_seek.proofs.Codes.{runs_in, word-is, word-of}
use Rattle.ac_seek.proofs.Paths.{next-run}

-- ---- a whole path, earliest first
pub record IsFrom (g : Game) (path : List Step) : Type 0 where
  pub steps : List Step
  pub way : IsWay g 0 0 steps
  pub same : onto [] steps ≡ path

from-path : (g : Game) (path later : List Step) → IsPath g path → IsWay g (channel_of path) (boundary_of path) later → IsFrom g (onto path later)
from-path g [] later is w = record { steps = later; way = w; same = refl }
from-path g (s ∷ path) later is w = from-path g path (s ∷ later) is.1 (is.0, w)

pub whole-from : (g : Game) (path : List Step) → IsPath g path → g.channels ≤ channel_of path → IsFrom g path
whole-from g path is past = from-path g path [] is past

after-whole : (g : Game) (s : Step) (steps : List Step) → eqb s.run.to 6 ≡ true → IsWay g (channel_after s) (boundary_after s) steps → IsWay g (s.channel + 1) 0 steps
after-whole g s steps t w =
    subst (λ (b : Bool). IsWay g (if b then s.channel + 1 else s.channel) (if b then 0 else s.run.to) steps) t w

after-part : (g : Game) (s : Step) (steps : List Step) → eqb s.run.to 6 ≡ false → IsWay g (channel_after s) (boundary_after s) steps → IsWay g s.channel s.run.to steps
after-part g s steps t w =
    subst (λ (b : Bool). IsWay g (if b then s.channel + 1 else s.channel) (if b then 0 else s.run.to) steps) t w

-- ---- the runs of each channel are a way
module _ (v : AtOffset) where
  -- those of earlier channels are decided
  pub none-in : (c channel at : ℕ) (steps : List Step) → c < channel → IsWay (game_of v) channel at steps → runs_in c steps ≡ []
  none-in c channel at [] l w = refl
  none-in c channel at (s ∷ steps) l w =
      let e : (s.channel == c) ≡ false = ne_eqb s.channel c (omega (arith, w.0.same)) in
      let later : c < channel_after s = elim (cases_eq s.run.to 6) [
        | inl six ↦ let t : eqb s.run.to 6 ≡ true = eq-eqb s.run.to 6 six in rw t (omega (arith, w.0.same))
        | inr other ↦ let t : eqb s.run.to 6 ≡ false = ne_eqb s.run.to 6 other in rw t (omega (arith, w.0.same))
      ] in
      rw e (none-in c (channel_after s) (boundary_after s) steps later w.1)

  -- those of the channel in hand
  here-in : (channel at : ℕ) (steps : List Step) → channel < channels v.shape → IsWay (game_of v) channel at steps → ways.IsWay v.shape channel at (runs_in channel steps)
  here-in channel at [] l w = absurd (omega arith)
  here-in channel at (s ∷ steps) l w =
      let e : (s.channel == channel) ≡ true = eq-eqb s.channel channel w.0.same in
      let run = subst (λ c. IsRunOf v.shape c s.run) w.0.same (next-run v channel at s w.0) in
      let rest : ways.IsWay v.shape channel s.run.to (runs_in channel steps) = elim (cases_eq s.run.to 6) [
        | inl six ↦
            let t : eqb s.run.to 6 ≡ true = eq-eqb s.run.to 6 six in
            let w2 : IsWay (game_of v) (s.channel + 1) 0 steps = after-whole (game_of v) s steps t w.1 in
            let none = none-in channel (s.channel + 1) 0 steps (omega (arith, w.0.same)) w2 in
            subst (λ (runs : List Run). ways.IsWay v.shape channel s.run.to runs) (sym none) (record { tiles = six; each = tt })
        | inr other ↦
            let t : eqb s.run.to 6 ≡ false = ne_eqb s.run.to 6 other in
            let w2 : IsWay (game_of v) s.channel s.run.to steps = after-part (game_of v) s steps t w.1 in
            here-in channel s.run.to steps l (subst (λ c. IsWay (game_of v) c s.run.to steps) w.0.same w2)
      ] in
      rw e (record { tiles = (w.0.starts, w.0.later, rest.tiles); each = (run, rest.each) })

  -- those of the later channels
  later-in : (c channel at : ℕ) (steps : List Step) → channel < c → c < channels v.shape → IsWay (game_of v) channel at steps → ways.IsWay v.shape c 0 (runs_in c steps)
  later-in c channel at [] l m w = absurd (omega arith)
  later-in c channel at (s ∷ steps) l m w =
      let e : (s.channel == c) ≡ false = ne_eqb s.channel c (omega (arith, w.0.same)) in
      rw e (elim (cases_eq s.run.to 6) [
        | inl six ↦
            let t : eqb s.run.to 6 ≡ true = eq-eqb s.run.to 6 six in
            let w2 : IsWay (game_of v) (s.channel + 1) 0 steps = after-whole (game_of v) s steps t w.1 in
            elim (cases_eq (s.channel + 1) c) [
              | inl next ↦ here-in c 0 steps m (subst (λ k. IsWay (game_of v) k 0 steps) next w2)
              | inr past ↦ later-in c (s.channel + 1) 0 steps (omega (arith, w.0.same)) m w2
            ]
        | inr other ↦
            let t : eqb s.run.to 6 ≡ false = ne_eqb s.run.to 6 other in
            let w2 : IsWay (game_of v) s.channel s.run.to steps = after-part (game_of v) s steps t w.1 in
            later-in c s.channel s.run.to steps (omega (arith, w.0.same)) m w2
      ])

  pub each-in : (c : ℕ) (steps : List Step) → c < channels v.shape → IsWay (game_of v) 0 0 steps → ways.IsWay v.shape c 0 (runs_in c steps)
  each-in zero steps l w = here-in 0 0 steps l w
  each-in (suc c) steps l w = later-in (suc c) 0 0 steps (omega arith) l w

  -- ---- their words
  pub record HasWord (steps : List Step) (c : ℕ) : Type 0 where
    pub word : List ℕ
    pub is : IsWordOf v.shape c word
    pub runs : runs_of word ≡ runs_in c steps
    pub same : word_of (words_of (onto [] steps)) c ≡ word

  pub has-word : (steps : List Step) (c : ℕ) → c < channels v.shape → IsWay (game_of v) 0 0 steps → HasWord steps c
  has-word steps c l w =
      let found = (ways_words v.shape c (runs_in c steps) l).0 (each-in c steps l w) in
      record {
        word = found.0;
        is = found.1;
        runs = found.2;
        same = word-of (onto [] steps) c (omega (arith, coded-few v.shape)) ∙ word-is steps c found.0 found.1.is_word (sym found.2);
      }

  pub words-are : (steps : List Step) → IsWay (game_of v) 0 0 steps → IsAssignmentOf v.shape (words_of (onto [] steps))
  words-are steps w = record {
    words = λ c l. let h = has-word steps c l w in subst IsWord (sym h.same) h.is.is_word;
    kinds = λ c block l b.
        let h = has-word steps c l w in
        let e = ap (λ (word : List ℕ). slice_index word block) h.same in
        let k = h.is.kinds block b in
        omega (arith, e, k);
  }

  pub path-words : (path : List Step) → IsPath (game_of v) path → channels v.shape ≤ channel_of path → IsAssignmentOf v.shape (words_of path)
  path-words path is past =
      let from = whole-from (game_of v) path is past in
      subst (λ (q : List Step). IsAssignmentOf v.shape (words_of q)) from.same (words-are from.steps from.way)

  -- ---- what they cost
  one-added : (n k : ℕ) (f x h : ℕ → ℕ) → k < n → ((c : ℕ) → c ≡ k → h c ≡ x c + f c) → ((c : ℕ) → (c ≡ k → ⊥) → h c ≡ f c) → sum_below n h ≡ x k + sum_below n f
  one-added zero k f x h l same other = absurd (omega arith)
  one-added (suc n) k f x h l same other = elim (cases_eq n k) [
    | inl e ↦
        let before = sum_same-below n h f (λ c m. other c (λ ck. omega arith)) in
        let here = same n e in
        let at = ap x e in
        omega (arith, sum_more n h, sum_more n f, before, here, at)
    | inr ne ↦
        let before = one-added n k f x h (omega arith) same other in
        let here = other n ne in
        omega (arith, sum_more n h, sum_more n f, before, here)
  ]

  pub spent-in : (part channel at : ℕ) (steps : List Step) → IsWay (game_of v) channel at steps → spent (game_of v) part steps ≡ sum_below (channels v.shape) (λ c. runs_sixths v.shape v.raw v.t part c (runs_in c steps))
  spent-in part channel at [] w = sym (sum_zero (channels v.shape))
  spent-in part channel at (s ∷ steps) w =
      let rest = spent-in part (channel_after s) (boundary_after s) steps w.1 in
      let all = one-added (channels v.shape) s.channel (λ c. runs_sixths v.shape v.raw v.t part c (runs_in c steps)) (λ c. run_sixths v.shape v.raw v.t part c s.run) (λ c. runs_sixths v.shape v.raw v.t part c (runs_in c (s ∷ steps))) (omega (arith, w.0.inside, w.0.same))
      (λ c e. let t : (s.channel == c) ≡ true = eq-eqb s.channel c (sym e) in rw t refl)
      (λ c ne. let t : (s.channel == c) ≡ false = ne_eqb s.channel c (λ e. ne (sym e)) in rw t refl) in
      omega (arith, rest, all)

  pub game-strict : IsStrict (game_of v) (FitsHere v)
  game-strict part path p is past fits =
      let from = whole-from (game_of v) path is past in
      let assign = words_of path in
      let are : IsAssignmentOf v.shape assign = subst (λ (q : List Step). IsAssignmentOf v.shape (words_of q)) from.same (words-are from.steps from.way) in
      let sum = spent-in part 0 0 from.steps from.way in
      let onto_sum = spent-onto (game_of v) part [] from.steps in
      let path_sum = ap (λ (q : List Step). spent (game_of v) part q) from.same in
      let by_words = sum_same-below (channels v.shape) (λ c. runs_sixths v.shape v.raw v.t part c (runs_of (word_of assign c))) (λ c. runs_sixths v.shape v.raw v.t part c (runs_in c from.steps))
      (λ c l.
      let h = has-word from.steps c l from.way in
      let e : word_of assign c ≡ h.word = ap (λ (q : List Step). word_of (words_of q) c) (sym from.same) ∙ h.same in
      ap (λ (word : List ℕ). runs_sixths v.shape v.raw v.t part c (runs_of word)) e ∙ ap (runs_sixths v.shape v.raw v.t part c) h.runs) in
      let bits = within v.shape v.raw v.t part assign are in
      let room = fit-part v.shape v.raw v.t assign fits part p in
      omega (arith, sum, onto_sum, path_sum, by_words, bits, room)

-- The items of a tree, one step after the other.
use Rattle.std.proofs.Common.{◌≡◌, ℕ, ◌==◌, Bool, true, false, List, [], ◌∷◌, Option, Some, None, Result, Ok, Err, refl, ap, sym, ◌∙◌}
use Rattle.std.proofs.lemmas.Bool.{eqb-true}
use Rattle.ac_claim.specs.declared.tree.Tree.{Tree}
use Rattle.ac_cert_text.specs.declared.fault.Fault.{Fault}
use Rattle.ac_cert_text.specs.declared.fault.Fault.TheVariants.{Bad, Deep, NoMemory}
use Rattle.ac_cert_text.specs.Codec.{Outcome, Fails}
use Rattle.ac_cert_text.specs.TreeText.{Grown, FailsStep, item, grow}

pub no-item : (open_ : List (List Tree)) (l : List ℕ) → ((b : ℕ) (r : List ℕ) → l ≡ 32 ∷ b ∷ r → ⊥) → grow open_ l ≡ Err (Bad, l)
unfolding grow
no-item open_ [] h = refl
no-item open_ (s ∷ []) h = refl
no-item open_ (s ∷ b ∷ l) h = go (s == 32) refl
  where
    go : (t : Bool) → (s == 32) ≡ t → grow open_ (s ∷ b ∷ l) ≡ Err (Bad, s ∷ b ∷ l)
    go true e = absurd (h b l (ap (λ (c : ℕ). c ∷ b ∷ l) (eqb-true s 32 e)))
    go false e = rw e refl

pub step-err : (open_ : List (List Tree)) (b : ℕ) (r : List ℕ) (e : Fault) → item b open_ ≡ Err e → grow open_ (32 ∷ b ∷ r) ≡ Err (e, 32 ∷ b ∷ r)
unfolding grow
step-err open_ b r e h = rw h refl

pub step-done : (open_ up : List (List Tree)) (b : ℕ) (r : List ℕ) (t : Tree) → item b open_ ≡ Ok (Some t, up) → grow open_ (32 ∷ b ∷ r) ≡ Ok (t, r)
unfolding grow
step-done open_ up b r t h = rw h refl

pub step-on : (open_ up : List (List Tree)) (b : ℕ) (r : List ℕ) → item b open_ ≡ Ok (None, up) → grow open_ (32 ∷ b ∷ r) ≡ grow up r
unfolding grow
step-on open_ up b r h = rw h refl

err-total : (open_ : List (List Tree)) (b : ℕ) (l r : List ℕ) (e : Fault) (total : Outcome Tree) → item b open_ ≡ Err e → l ≡ 32 ∷ b ∷ r → grow open_ l ≡ total → total ≡ Err (e, l)
err-total open_ b l r e total h is so_far =
    sym so_far ∙ (ap (grow open_) is ∙ (step-err open_ b r e h ∙ ap (λ (x : List ℕ). Err (e, x)) (sym is)))

pub item-fails : (open_ : List (List Tree)) (b : ℕ) (l r : List ℕ) (e : Fault) (total : Outcome Tree) → FailsStep e (item b open_) → l ≡ 32 ∷ b ∷ r → grow open_ l ≡ total
    → Fails e l total
item-fails open_ b l r Bad total h is so_far = err-total open_ b l r Bad total h is so_far
item-fails open_ b l r Deep total h is so_far = err-total open_ b l r Deep total h is so_far
item-fails open_ b l r NoMemory total h is so_far = tt

pub item-ends : (open_ up : List (List Tree)) (b : ℕ) (l r : List ℕ) (t : Tree) (total : Outcome Tree) → item b open_ ≡ Ok (Some t, up) → l ≡ 32 ∷ b ∷ r → grow open_ l ≡ total
    → total ≡ Ok (t, r)
item-ends open_ up b l r t total h is so_far = sym so_far ∙ (ap (grow open_) is ∙ step-done open_ up b r t h)

pub item-goes_on : (open_ up : List (List Tree)) (b : ℕ) (l r : List ℕ) (total : Outcome Tree) → item b open_ ≡ Ok (None, up) → l ≡ 32 ∷ b ∷ r → grow open_ l ≡ total
    → grow up r ≡ total
item-goes_on open_ up b l r total h is so_far = sym (step-on open_ up b r h) ∙ (sym (ap (grow open_) is) ∙ so_far)

abbrev pub step_of : Option Tree → List (List Tree) → Result Grown Fault
step_of done open_ = Ok (done, open_)

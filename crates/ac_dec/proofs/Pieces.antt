-- One block more of a channel's samples.
use Rattle.std.proofs.Common.{◌≡◌, ◌⊎◌, ℕ, ◌+◌, ◌-◌, ◌*◌, ◌<◌, ◌≤◌, List, take, drop, ℤ, pos, slice_index_or, ap, ap₂, sym, ◌∙◌, arith, inl, inr}
use Rattle.std.proofs.lemmas.Bool.{cases_lt}
use Rattle.std.proofs.lemmas.List.{get_or-take, get_or-drop}
use Rattle.ac_mdct.specs.Inverse.{part, sample_of, IsDelay}
use Rattle.ac_dec.specs.Sound.{sample_at}
use Rattle.ac_dec.specs.Sounding.{IsBlockSound, AreSounds, AreRest}
use Rattle.ac_dec.proofs.Lists.{delay_next}

-- outside of a piece that was written
pub outside_same : (old new : List ℤ) (a n : ℕ) → take a new ≡ take a old → drop n new ≡ drop n old → (j : ℕ) → (j < a) ⊎ (n ≤ j) → slice_index_or new j (pos 0) ≡ slice_index_or old j (pos 0)
outside_same old new a n front back j (inl lt) =
    sym (get_or-take a new j (pos 0) lt) ∙ (ap (λ (l : List ℤ). slice_index_or l j (pos 0)) front ∙ get_or-take a old j (pos 0) lt)
outside_same old new a n front back j (inr le) =
    let at : n + (j - n) ≡ j = omega (arith, le) in
    ap (λ (i : ℕ). slice_index_or new i (pos 0)) (sym at)
    ∙ (sym (get_or-drop n new (j - n) (pos 0))
    ∙ (ap (λ (l : List ℤ). slice_index_or l (j - n) (pos 0)) back
    ∙ (get_or-drop n old (j - n) (pos 0) ∙ ap (λ (i : ℕ). slice_index_or old i (pos 0)) at)))

pub sounds_more : (blocks : ℕ → List ℤ) (first delay coefs : List ℤ) (n : ℕ) (old new : List ℤ) → coefs ≡ blocks n → AreSounds blocks first n old → AreRest blocks first n delay
    → IsBlockSound coefs delay n new → ((j : ℕ) → (j < 256 * n) ⊎ (256 * n + 256 ≤ j) → slice_index_or new j (pos 0) ≡ slice_index_or old j (pos 0)) → AreSounds blocks first (n + 1) new
sounds_more blocks first delay coefs n old new e before left here rest b t lt below =
    elim (cases_lt b n) [
      | inl earlier ↦ rest (256 * b + t) (inl (omega (arith, earlier, below))) ∙ before b t earlier below
      | inr last ↦
          let same : b ≡ n = omega (arith, lt, last) in
          ap (λ (m : ℕ). slice_index_or new (256 * m + t) (pos 0)) same
          ∙ (here t below
          ∙ (ap₂ sample_of (ap (λ (l : List ℤ). part l t) e) (left t below)
          ∙ ap (λ (m : ℕ). sample_at first blocks m t) (sym same)))
    ]

pub rest_more : (blocks : ℕ → List ℤ) (first delay coefs : List ℤ) (n : ℕ) → coefs ≡ blocks n → IsDelay coefs delay → AreRest blocks first (n + 1) delay
rest_more blocks first delay coefs n e is t lt = is t lt ∙ (ap (λ (l : List ℤ). part l (t + 256)) e ∙ sym (delay_next first blocks n t))

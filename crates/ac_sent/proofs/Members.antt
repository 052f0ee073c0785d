-- What stands at a bin of a list over the bins of channels.
use Rattle.std.proofs.Common.{◌≡◌, ◌⊎◌, ℕ, zero, suc, ◌+◌, ◌-◌, ◌<◌, ◌≤◌, ◌&&◌, Bool, true, false, List, [], ◌∷◌, ◌++◌, length, get_or, refl, ap, ap₂, sym, subst, ◌∙◌, inl, inr, arith}
use Rattle.std.specs.Prelude.{not, if◌then◌else◌}
use Rattle.std.proofs.lemmas.Bool.{cases_eq}
use Rattle.std.proofs.lemmas.List.FromFn.{get_or-map-range_with_len, length-map-range_with_len}
use Rattle.ac_base.specs.declared.spans.Span.{Span}
use Rattle.ac_base.specs.Shape.{count_of}
use Rattle.ac_base.specs.Spans.{IsIn}
use Rattle.ac_record.specs.Order.{with_coupling, order_of, over_bins, over_channels}

-- ---- lists
pub heads_same : {A : Type 0} (x y : A) (xs ys : List A) → x ∷ xs ≡ y ∷ ys → (x ≡ y) × (xs ≡ ys)
heads_same x y xs ys e = (cc, cc)

pub fronts_same : {A : Type 0} (xs ys zs ws : List A) → length xs ≡ length zs → xs ++ ys ≡ zs ++ ws → (xs ≡ zs) × (ys ≡ ws)
fronts_same [] ys [] ws long e = (refl, e)
fronts_same [] ys (z ∷ zs) ws long e = absurd (omega (arith, long))
fronts_same (x ∷ xs) ys [] ws long e = absurd (omega (arith, long))
fronts_same (x ∷ xs) ys (z ∷ zs) ws long e =
    let h = heads_same x z (xs ++ ys) (zs ++ ws) e in
    let r = fronts_same xs ys zs ws (omega (arith, long)) h.1 in
    (ap₂ (λ a b. a ∷ b) h.0 r.0, r.1)

-- c is one of the list
abbrev pub IsOneOf : ℕ → List ℕ → Type 0
IsOneOf c [] = ⊥
IsOneOf c (x ∷ xs) = (x ≡ c) ⊎ IsOneOf c xs

one_left : (c : ℕ) (xs ys : List ℕ) → IsOneOf c xs → IsOneOf c (xs ++ ys)
one_left c [] ys h = absurd h
one_left c (x ∷ xs) ys (inl e) = inl e
one_left c (x ∷ xs) ys (inr h) = inr (one_left c xs ys h)

one_right : (c : ℕ) (xs ys : List ℕ) → IsOneOf c ys → IsOneOf c (xs ++ ys)
one_right c [] ys h = h
one_right c (x ∷ xs) ys h = inr (one_right c xs ys h)

-- ---- two lists over the bins of channels
bins_back : {A : Type 0} (f g : ℕ → A) (span : Span) → over_bins f span ≡ over_bins g span → (k : ℕ) → IsIn span k → f k ≡ g k
bins_back f g span e k inside =
    let n = span.end - span.start in
    let i = k - span.start in
    let at : span.start + i ≡ k = omega (arith, inside.0) in
    let low : i < n = omega (arith, inside.0, inside.1) in
    let d = f k in
    sym (get_or-map-range_with_len f span.start n i k d low at)
    ∙ (ap (λ l. get_or l i d) e ∙ get_or-map-range_with_len g span.start n i k d low at)

pub channels_back : {A : Type 0} (span : ℕ → Span) (cs : List ℕ) (f g : ℕ → ℕ → A) → over_channels span cs f ≡ over_channels span cs g → (c k : ℕ) → IsOneOf c cs → IsIn (span c) k → f c k ≡ g c k
unfolding over_channels
channels_back span [] f g e c k one inside = absurd one
channels_back {A} span (x ∷ xs) f g e c k one inside =
    let n = (span x).end - (span x).start in
    let long = length-map-range_with_len (f x) (span x).start n ∙ sym (length-map-range_with_len (g x) (span x).start n) in
    let r = fronts_same (over_bins (f x) (span x)) (over_channels span xs f) (over_bins (g x) (span x)) (over_channels span xs g) long e in
    elim one [
      | inl same ↦
          let P : ℕ → Type 0 = λ j. IsIn (span j) k → f j k ≡ g j k in
          subst P same (λ there. bins_back (f x) (g x) (span x) r.0 k there) inside
      | inr later ↦ channels_back span xs f g r.1 c k later inside
    ]

-- ---- the channels of an order
one_chosen : (c : ℕ) (b : Bool) (xs ys : List ℕ) → (b ≡ true → IsOneOf c xs) → (b ≡ false → IsOneOf c ys) → IsOneOf c (if b then xs else ys)
one_chosen c true xs ys h k = h refl
one_chosen c false xs ys h k = k refl

full_one : (p : ℕ → Bool) (shared : ℕ) (came : Bool) (i n c : ℕ) → i ≤ c → c < i + n → IsOneOf c (with_coupling p shared came i n)
unfolding with_coupling
full_one p shared came i zero c le lt = absurd (omega arith)
full_one p shared came i (suc n) c le lt =
    elim (cases_eq i c) [
      | inl e ↦ one_chosen c (p i && not came) (i ∷ shared ∷ with_coupling p shared true (suc i) n) (i ∷ with_coupling p shared came (suc i) n) (λ b. inl e) (λ b. inl e)
      | inr ne ↦
          one_chosen c (p i && not came) (i ∷ shared ∷ with_coupling p shared true (suc i) n) (i ∷ with_coupling p shared came (suc i) n)
          (λ b. inr (inr (full_one p shared true (suc i) n c (omega (arith, le, ne)) (omega (arith, lt)))))
          (λ b. inr (full_one p shared came (suc i) n c (omega (arith, le, ne)) (omega (arith, lt))))
    ]

-- the coupling channel stands behind the first channel, where that is coupled
shared_one : (p : ℕ → Bool) (shared n : ℕ) → p 0 ≡ true → 0 < n → IsOneOf shared (with_coupling p shared false 0 n)
unfolding with_coupling
shared_one p shared zero e some = absurd (omega arith)
shared_one p shared (suc n) e some =
    let there : (p 0 && true) ≡ true = rw e refl in
    one_chosen shared (p 0 && true) (0 ∷ shared ∷ with_coupling p shared true 1 n) (0 ∷ with_coupling p shared false 1 n) (λ b. inr (inl refl)) (λ b. let g : true ≡ false = sym there ∙ b in absurd cc)

not_true : (b : Bool) → b ≡ true → not b ≡ false
not_true b e = rw e refl

pub one_of_order : (p : ℕ → Bool) (full : ℕ) (used low : Bool) (c : ℕ) → (used ≡ true → p 0 ≡ true) → 0 < full
    → (c < full) ⊎ (((used ≡ true) × (c ≡ full)) ⊎ ((low ≡ true) × (c ≡ full + count_of used))) → IsOneOf c (order_of p full used low)
unfolding order_of
one_of_order p full used low c first some (inl lt) =
    one_left c (with_coupling p full (not used) 0 full) (if low then (full + count_of used) ∷ [] else []) (full_one p full (not used) 0 full c (omega arith) (omega arith))
one_of_order p full used low c first some (inr (inl e)) =
    one_left c (with_coupling p full (not used) 0 full) (if low then (full + count_of used) ∷ [] else [])
    (subst (λ (b : Bool). IsOneOf c (with_coupling p full b 0 full)) (sym (not_true used e.0)) (subst (λ (x : ℕ). IsOneOf x (with_coupling p full false 0 full)) (sym e.1) (shared_one p full full (first e.0) some)))
one_of_order p full used low c first some (inr (inr e)) =
    one_right c (with_coupling p full (not used) 0 full) (if low then (full + count_of used) ∷ [] else [])
    (one_chosen c low ((full + count_of used) ∷ []) [] (λ b. inl (sym e.1)) (λ b. let g : true ≡ false = sym e.0 ∙ b in absurd cc))

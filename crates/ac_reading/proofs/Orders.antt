-- The order of mantissas: each coded channel once.
use Rattle.std.proofs.Common.{◌≡◌, ◌⊎◌, ℕ, zero, suc, ◌+◌, ◌<◌, ◌≤◌, Bool, true, false, ◌&&◌, ◌||◌, List, [], ◌∷◌, ◌++◌, length, slice_index, refl, sym, subst, arith, inl, inr}
use Rattle.std.specs.Prelude.{not, if◌then◌else◌}
use Rattle.ac_base.specs.Shape.{count_of}
use Rattle.ac_record.specs.Order.{with_coupling, order_of}

one_more : (i shared : ℕ) (b came : Bool) (rest : Bool → List ℕ) → (if b && not came then i ∷ shared ∷ rest true else i ∷ rest came) ≡ i ∷ ((if b && not came then shared ∷ [] else []) ++ rest (came || b))
one_more i shared true true rest = refl
one_more i shared true false rest = refl
one_more i shared false true rest = refl
one_more i shared false false rest = refl

-- a full channel more, and the coupling channel where it is the first coupled one
pub order_step : (coupled : ℕ → Bool) (shared : ℕ) (came : Bool) (i n : ℕ) → with_coupling coupled shared came i (suc n) ≡ i ∷ ((if coupled i && not came then shared ∷ [] else []) ++ with_coupling coupled shared (came || coupled i) (suc i) n)
unfolding with_coupling
order_step coupled shared came i n = one_more i shared (coupled i) came (λ x. with_coupling coupled shared x (suc i) n)

-- ---- each is small, and stands there once

-- channels are below a bound, and none of them is c
abbrev pub Each : (ℕ → Type 0) → List ℕ → Type 0
Each P [] = Unit {0}
Each P (c ∷ cs) = P c × Each P cs

abbrev pub Distinct : List ℕ → Type 0
Distinct [] = Unit {0}
Distinct (c ∷ cs) = Each (λ d. c ≡ d → ⊥) cs × Distinct cs

each_append : (P : ℕ → Type 0) (xs ys : List ℕ) → Each P xs → Each P ys → Each P (xs ++ ys)
each_append P [] ys h k = k
each_append P (x ∷ xs) ys h k = (h.0, each_append P xs ys h.1 k)

each_weaker : (P Q : ℕ → Type 0) (xs : List ℕ) → ((c : ℕ) → P c → Q c) → Each P xs → Each Q xs
each_weaker P Q [] w h = tt
each_weaker P Q (x ∷ xs) w h = (w x h.0, each_weaker P Q xs w h.1)

pub each_at : (P : ℕ → Type 0) (xs : List ℕ) (j : ℕ) → Each P xs → j < length xs → P (slice_index xs j)
each_at P [] j h lt = absurd (omega arith)
each_at P (x ∷ xs) zero h lt = h.0
each_at P (x ∷ xs) (suc j) h lt = each_at P xs j h.1 (omega arith)

-- which channels there are from full channel i on
InRest : ℕ → Bool → ℕ → ℕ → ℕ → Type 0
InRest shared came i n c = ((i ≤ c) × (c < i + n)) ⊎ ((c ≡ shared) × (came ≡ false))

if_each : (P : ℕ → Type 0) (t : Bool) (c : ℕ) → (t ≡ true → P c) → Each P (if t then c ∷ [] else [])
if_each P true c h = (h refl, tt)
if_each P false c h = tt

not_came : (b came : Bool) → (b && not came) ≡ true → came ≡ false
not_came true true e = absurd cc
not_came true false e = refl
not_came false came e = absurd cc

or_came : (b came : Bool) → (came || b) ≡ false → came ≡ false
or_came b true e = absurd cc
or_came b false e = refl

each_rest : (coupled : ℕ → Bool) (shared : ℕ) (came : Bool) (i n : ℕ) → Each (InRest shared came i n) (with_coupling coupled shared came i n)
unfolding with_coupling InRest
each_rest coupled shared came i zero = tt
each_rest coupled shared came i (suc n) =
    let P = InRest shared came i (suc n) in
    let now : Each P (if coupled i && not came then shared ∷ [] else []) = if_each P (coupled i && not came) shared (λ e. inr (refl, not_came (coupled i) came e)) in
    let later : Each P (with_coupling coupled shared (came || coupled i) (suc i) n) =
    each_weaker (InRest shared (came || coupled i) (suc i) n) P (with_coupling coupled shared (came || coupled i) (suc i) n)
    (λ c r. elim r [ inl a ↦ inl (let p = a.0 in let q = a.1 in (omega arith, omega arith)) | inr a ↦ inr (a.0, or_came (coupled i) came a.1) ])
    (each_rest coupled shared (came || coupled i) (suc i) n) in
    subst (Each P) (sym (order_step coupled shared came i n)) (inl (omega arith, omega arith), each_append P _ _ now later)

distinct_append : (xs ys : List ℕ) → Distinct xs → Distinct ys → Each (λ c. Each (λ d. c ≡ d → ⊥) ys) xs → Distinct (xs ++ ys)
distinct_append [] ys h k apart = k
distinct_append (x ∷ xs) ys h k apart = (each_append (λ d. x ≡ d → ⊥) xs ys h.0 apart.0, distinct_append xs ys h.1 k apart.1)

if_distinct : (t : Bool) (c : ℕ) → Distinct (if t then c ∷ [] else [])
if_distinct true c = (tt, tt)
if_distinct false c = tt

came_now : (b came : Bool) → (b && not came) ≡ true → (came || b) ≡ false → ⊥
came_now true true e f = absurd cc
came_now true false e f = absurd cc
came_now false came e f = absurd cc

distinct_rest : (coupled : ℕ → Bool) (shared : ℕ) (came : Bool) (i n : ℕ) → i + n ≤ shared → Distinct (with_coupling coupled shared came i n)
unfolding with_coupling InRest
distinct_rest coupled shared came i zero le = tt
distinct_rest coupled shared came i (suc n) le =
    let t = coupled i && not came in
    let rest = with_coupling coupled shared (came || coupled i) (suc i) n in
    let there = each_rest coupled shared (came || coupled i) (suc i) n in
    let now = if t then shared ∷ [] else [] in
    let own : Each (λ d. i ≡ d → ⊥) now = if_each (λ d. i ≡ d → ⊥) t shared (λ e same. absurd (omega arith)) in
    let later : Each (λ d. i ≡ d → ⊥) rest =
    each_weaker (InRest shared (came || coupled i) (suc i) n) (λ d. i ≡ d → ⊥) rest (λ c r same. elim r [ inl a ↦ (let p = a.0 in absurd (omega arith)) | inr a ↦ (let p = a.0 in absurd (omega arith)) ]) there in
    let apart : Each (λ c. Each (λ d. c ≡ d → ⊥) rest) now =
    if_each (λ c. Each (λ d. c ≡ d → ⊥) rest) t shared (λ e.
    each_weaker (InRest shared (came || coupled i) (suc i) n) (λ d. shared ≡ d → ⊥) rest (λ c r same. elim r [ inl a ↦ (let p = a.1 in absurd (omega arith)) | inr a ↦ absurd (came_now (coupled i) came e a.1) ]) there) in
    subst Distinct (sym (order_step coupled shared came i n))
    (each_append (λ d. i ≡ d → ⊥) now rest own later, distinct_append now rest (if_distinct t shared) (distinct_rest coupled shared (came || coupled i) (suc i) n (omega arith)) apart)

-- ---- the whole order

low_list : ℕ → Bool → Bool → List ℕ
low_list full used low = if low then (full + count_of used) ∷ [] else []

used_count : (used : Bool) → count_of used ≤ 1
used_count true = omega arith
used_count false = omega arith

-- each is one of seven
pub order_small : (coupled : ℕ → Bool) (full : ℕ) (used low : Bool) → full ≤ 5 → Each (λ c. c < 7) (order_of coupled full used low)
unfolding order_of InRest
order_small coupled full used low le =
    let u = used_count used in
    each_append (λ c. c < 7) (with_coupling coupled full (not used) 0 full) (if low then (full + count_of used) ∷ [] else [])
    (each_weaker (InRest full (not used) 0 full) (λ c. c < 7) (with_coupling coupled full (not used) 0 full) (λ c r. elim r [ inl a ↦ (let p = a.1 in omega arith) | inr a ↦ (let p = a.0 in omega arith) ]) (each_rest coupled full (not used) 0 full))
    (if_each (λ c. c < 7) low (full + count_of used) (λ e. omega arith))

used_from : (used : Bool) → not used ≡ false → count_of used ≡ 1
used_from true e = refl
used_from false e = absurd cc

pub order_distinct : (coupled : ℕ → Bool) (full : ℕ) (used low : Bool) → Distinct (order_of coupled full used low)
unfolding order_of InRest
order_distinct coupled full used low =
    let front = with_coupling coupled full (not used) 0 full in
    distinct_append front (if low then (full + count_of used) ∷ [] else []) (distinct_rest coupled full (not used) 0 full (omega arith)) (if_distinct low (full + count_of used))
    (each_weaker (InRest full (not used) 0 full) (λ c. Each (λ d. c ≡ d → ⊥) (if low then (full + count_of used) ∷ [] else [])) front
    (λ c r. if_each (λ d. c ≡ d → ⊥) low (full + count_of used) (λ e same. elim r [ inl a ↦ (let p = a.1 in absurd (omega arith)) | inr a ↦ (let p = a.0 in let q = used_from used a.1 in absurd (omega arith)) ]))
    (each_rest coupled full (not used) 0 full))

-- one that stands later isn't one of those before
distinct_at : (xs : List ℕ) (i j : ℕ) → Distinct xs → i < j → j < length xs → slice_index xs i ≡ slice_index xs j → ⊥
distinct_at [] i j h lt in_ e = absurd (omega arith)
distinct_at (x ∷ xs) zero zero h lt in_ e = absurd (omega arith)
distinct_at (x ∷ xs) (suc i) zero h lt in_ e = absurd (omega arith)
distinct_at (x ∷ xs) zero (suc j) h lt in_ e = each_at (λ d. x ≡ d → ⊥) xs j h.0 (omega arith) e
distinct_at (x ∷ xs) (suc i) (suc j) h lt in_ e = distinct_at xs i j h.1 (omega arith) (omega arith) e

pub order_apart : (coupled : ℕ → Bool) (full : ℕ) (used low : Bool) (i j : ℕ) → i < j → j < length (order_of coupled full used low) → slice_index (order_of coupled full used low) i ≡ slice_index (order_of coupled full used low) j → ⊥
order_apart coupled full used low i j lt in_ e = distinct_at (order_of coupled full used low) i j (order_distinct coupled full used low) lt in_ e

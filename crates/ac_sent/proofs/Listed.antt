-- Lists made of their entries, and rows of such lists.
use Rattle.std.proofs.Common.{◌≡◌, ℕ, zero, suc, ◌+◌, ◌<◌, ◌≤◌, Bool, true, false, List, [], ◌∷◌, ◌++◌, length, get_or, Option, None, refl, ap, ap₂, sym, subst, ◌∙◌, arith}
use Rattle.ac_codec.specs.Codec.{Codec, each, cons, absent, given}
use Rattle.ac_rows.specs.declared.groups.ChannelShared.{ChannelShared}
use Rattle.ac_rows.specs.BlockRows.{zipped, joined_channels}
use Rattle.ac_rows.specs.Filled.{listed}
use Rattle.ac_sent.specs.Fields.{when}

-- ---- entries
entry_from : {A : Type 0} (n j : ℕ) (f : ℕ → A) (k : ℕ) (d : A) → k < n → get_or (listed n j f) k d ≡ f (j + k)
unfolding listed
entry_from zero j f k d lt = absurd (omega arith)
entry_from (suc n) j f zero d lt = ap f (omega arith)
entry_from (suc n) j f (suc k) d lt = entry_from n (suc j) f k d (omega arith) ∙ ap f (omega arith)

pub entry_at : {A : Type 0} (n : ℕ) (f : ℕ → A) (k : ℕ) (d : A) → k < n → get_or (listed n 0 f) k d ≡ f k
entry_at n f k d lt = entry_from n 0 f k d lt ∙ ap f (omega arith)

pub length-listed : {A : Type 0} (n j : ℕ) (f : ℕ → A) → length (listed n j f) ≡ n
unfolding listed
length-listed zero j f = refl
length-listed (suc n) j f = ap suc (length-listed n (suc j) f)

same_from : {A : Type 0} (n j : ℕ) (f g : ℕ → A) → ((k : ℕ) → j ≤ k → k < j + n → f k ≡ g k) → listed n j f ≡ listed n j g
unfolding listed
same_from zero j f g h = refl
same_from (suc n) j f g h = ap₂ (λ x xs. x ∷ xs) (h j (omega arith) (omega arith)) (same_from n (suc j) f g (λ k l m. h k (omega arith) (omega arith)))

pub listed_same : {A : Type 0} (n : ℕ) (f g : ℕ → A) → ((k : ℕ) → k < n → f k ≡ g k) → listed n 0 f ≡ listed n 0 g
listed_same n f g h = same_from n 0 f g (λ k l m. h k (omega arith))

more_from : {A : Type 0} (n j : ℕ) (f : ℕ → A) → listed (suc n) j f ≡ listed n j f ++ f (j + n) ∷ []
unfolding listed
more_from zero j f = ap (λ x. x ∷ []) (ap f (omega arith))
more_from (suc n) j f = ap (λ xs. f j ∷ xs) (more_from n (suc j) f ∙ ap (λ x. listed n (suc j) f ++ x ∷ []) (ap f (omega arith)))

pub listed_more : {A : Type 0} (n : ℕ) (f : ℕ → A) → listed (suc n) 0 f ≡ listed n 0 f ++ f n ∷ []
listed_more n f = more_from n 0 f ∙ ap (λ x. listed n 0 f ++ x ∷ []) (ap f (omega arith))

-- ---- rows
pub each_lawful : {A : Type 0} (n i : ℕ) (c : ℕ → Codec A) (f : ℕ → A) → ((k : ℕ) → i ≤ k → k < i + n → (c k).Lawful (f k)) → (each n i c).Lawful (listed n i f)
unfolding each cons absent listed
each_lawful zero i c f h = refl
each_lawful (suc n) i c f h = (h i (omega arith) (omega arith), each_lawful n (suc i) c f (λ k l m. h k (omega arith) (omega arith)))

pub zipped_listed : {A B : Type 0} (n i : ℕ) (f : ℕ → A) (g : ℕ → B) → zipped (listed n i f) (listed n i g) ≡ listed n i (λ k. (f k, g k))
unfolding listed
zipped_listed zero i f g = refl
zipped_listed (suc n) i f g = ap (λ xs. (f i, g i) ∷ xs) (zipped_listed n (suc i) f g)

abbrev pub channel_with : Option Bool → Option ℕ → List (Option ℕ) → List (Option ℕ) → ChannelShared
channel_with a b c d = record { cplcoe = a; mstrcplco = b; cplcoexp = c; cplcomant = d }

pub joined_listed : (n i : ℕ) (a : ℕ → Option Bool) (b : ℕ → Option ℕ) (c d : ℕ → List (Option ℕ)) → joined_channels (listed n i a) (listed n i b) (listed n i c) (listed n i d) ≡ listed n i (λ k. channel_with (a k) (b k) (c k) (d k))
unfolding listed
joined_listed zero i a b c d = refl
joined_listed (suc n) i a b c d = ap (λ xs. channel_with (a i) (b i) (c i) (d i) ∷ xs) (joined_listed n (suc i) a b c d)

-- ---- a row that is there where a test holds
pub given_when : {A : Type 0} (there : Bool) (c : Codec A) (x : A) → (there ≡ true → c.Lawful x) → (given there c).Lawful (when there x)
unfolding given
given_when true c x h = (refl, λ y e. let same : x ≡ y = cc in subst c.Lawful same (h refl))
given_when false c x h = (refl, λ y e. absurd cc)

pub given_not : {A : Type 0} (there : Bool) (c : Codec A) → there ≡ false → (given there c).Lawful None
unfolding given
given_not there c e = (sym e, λ y e. absurd cc)

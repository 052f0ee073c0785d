-- The coordinates of channels by four lists.
use Rattle.std.proofs.Common.{◌≡◌, ℕ, zero, suc, ◌+◌, ◌<◌, ◌≤◌, ◌^◌, Bool, Option, None, List, [], ◌∷◌, ◌++◌, length, take, get_or, refl}
use Rattle.std.proofs.Common.{ap, sym, subst, ◌∙◌, arith}
use Rattle.std.specs.Option.{ForSome}
use Rattle.ac_codec.specs.Codec.{Codec, each, pair, shaped, given, field, tested_bit, fitted, cons, absent}
use Rattle.ac_codec.specs.Lists.{spelled_each}
use Rattle.ac_codec.proofs.Spelling.{spelled_each-more, next_fits}
use Rattle.ac_rows.specs.declared.groups.ChannelShared.{ChannelShared}
use Rattle.ac_rows.specs.declared.groups.Shared.{Shared}
use Rattle.ac_rows.specs.declared.groups.Coupling.{Coupling}
use Rattle.ac_rows.specs.declared.groups.Known.{Known}
use Rattle.ac_rows.specs.Filled.{entry, channel_coupled}
use Rattle.ac_rows.specs.Known.{may_keep_coordinates}
use Rattle.ac_rows.specs.BlockRows.{joined_channels, channel_shared, shared_each, shared, coordinate_each, alternating, phase_each}
use Rattle.ac_rows.specs.BlockRows.{SharedFits}
use Rattle.ac_rows.specs.Bits.{channel_bits, shared_bits, nothing, uncoupled}
use Rattle.ac_rows.proofs.Bounds.{each_here}
use Rattle.ac_rows.proofs.EachBits.{each_bits}
use Rattle.ac_rows.proofs.ZippedLawful.{coordinates_fit, each_length}

Bands : Type 0
Bands = List (Option ℕ)

-- how long the four are
pub record AreLong (n : ℕ) (w : List (Option Bool)) (x : List (Option ℕ)) (y z : List (List (Option ℕ))) : Type 0 where
  pub coes : length w ≡ n
  pub masters : length x ≡ n
  pub exps : length y ≡ n
  pub mants : length z ≡ n

length-joined : (n : ℕ) (w : List (Option Bool)) (x : List (Option ℕ)) (y z : List (List (Option ℕ))) → AreLong n w x y z
    → length (joined_channels w x y z) ≡ n
length-joined zero [] x y z h = refl
length-joined zero (a ∷ w) x y z h = absurd (omega (arith, h.coes))
length-joined (suc n) [] x y z h = absurd (omega (arith, h.coes))
length-joined (suc n) (a ∷ w) [] y z h = absurd (omega (arith, h.masters))
length-joined (suc n) (a ∷ w) (b ∷ x) [] z h = absurd (omega (arith, h.exps))
length-joined (suc n) (a ∷ w) (b ∷ x) (c ∷ y) [] h = absurd (omega (arith, h.mants))
length-joined (suc n) (a ∷ w) (b ∷ x) (c ∷ y) (d ∷ z) h =
    ap suc (length-joined n w x y z (record {
      coes = omega (arith, h.coes);
      masters = omega (arith, h.masters);
      exps =
          omega (arith, h.exps);
      mants = omega (arith, h.mants);
    }))

abbrev pub channel_at : List (Option Bool) → List (Option ℕ) → List (List (Option ℕ)) → List (List (Option ℕ)) → ℕ → ChannelShared
channel_at w x y z i = record { cplcoe = get_or w i None; mstrcplco = get_or x i None; cplcoexp = get_or y i []; cplcomant = get_or z i [] }

get-joined : (n : ℕ) (w : List (Option Bool)) (x : List (Option ℕ)) (y z : List (List (Option ℕ))) → AreLong n w x y z
    → (i : ℕ) (d : ChannelShared) → i < n → get_or (joined_channels w x y z) i d ≡ channel_at w x y z i
get-joined zero w x y z h i d lt = absurd (omega arith)
get-joined (suc n) [] x y z h i d lt = absurd (omega (arith, h.coes))
get-joined (suc n) (a ∷ w) [] y z h i d lt = absurd (omega (arith, h.masters))
get-joined (suc n) (a ∷ w) (b ∷ x) [] z h i d lt = absurd (omega (arith, h.exps))
get-joined (suc n) (a ∷ w) (b ∷ x) (c ∷ y) [] h i d lt = absurd (omega (arith, h.mants))
get-joined (suc n) (a ∷ w) (b ∷ x) (c ∷ y) (e ∷ z) h zero d lt = refl
get-joined (suc n) (a ∷ w) (b ∷ x) (c ∷ y) (e ∷ z) h (suc i) d lt =
    get-joined n w x y z (record {
      coes = omega (arith, h.coes);
      masters = omega (arith, h.masters);
      exps = omega (arith, h.exps);
      mants =
          omega (arith, h.mants);
    }) i d (omega arith)

-- one channel more
pub joined-more : (w : List (Option Bool)) (x : List (Option ℕ)) (y z : List (List (Option ℕ))) → AreLong 5 w x y z → (i : ℕ) → i < 5
    → spelled_each channel_bits (take (i + 1) (joined_channels w x y z)) ≡ spelled_each channel_bits (take i (joined_channels w x y z))
    ++ channel_bits (channel_at w x y z i)
joined-more w x y z h i lt =
    let n = length-joined 5 w x y z h in
    spelled_each-more channel_bits (joined_channels w x y z) i (channel_at w x y z i) (omega (arith, n))
    ∙ ap (λ p. spelled_each channel_bits (take i (joined_channels w x y z)) ++ channel_bits p)
    (get-joined 5 w x y z h i (channel_at w x y z i) lt)

pub joined_fits : (w : List (Option Bool)) (x : List (Option ℕ)) (y z : List (List (Option ℕ))) → AreLong 5 w x y z → (i : ℕ) → i < 5
    → length (spelled_each channel_bits (take i (joined_channels w x y z)))
    + length (channel_bits (channel_at w x y z i)) ≤ length (spelled_each channel_bits (joined_channels w x y z))
joined_fits w x y z h i lt =
    let n = length-joined 5 w x y z h in
    let r = next_fits channel_bits (joined_channels w x y z) i (channel_at w x y z i) (omega (arith, n)) in
    let s : length (channel_bits (get_or (joined_channels w x y z) i (channel_at w x y z i)))
    ≡ length (channel_bits (channel_at w x y z i)) =
    ap (λ p. length (channel_bits p)) (get-joined 5 w x y z h i (channel_at w x y z i) lt) in
    omega (arith, r, s)

take_past : {X : Type 0} (n : ℕ) (xs : List X) → length xs ≤ n → take n xs ≡ xs
take_past zero [] h = refl
take_past zero (x ∷ xs) h = absurd (omega arith)
take_past (suc n) [] h = refl
take_past (suc n) (x ∷ xs) h = ap (λ l. x ∷ l) (take_past n xs (omega arith))

pub joined_all : (w : List (Option Bool)) (x : List (Option ℕ)) (y z : List (List (Option ℕ))) → AreLong 5 w x y z → (i : ℕ) → 5 ≤ i
    → spelled_each channel_bits (take i (joined_channels w x y z)) ≡ spelled_each channel_bits (joined_channels w x y z)
joined_all w x y z h i le =
    let n = length-joined 5 w x y z h in ap (spelled_each channel_bits) (take_past i (joined_channels w x y z) (omega (arith, n)))

-- the bits of a channel don't depend on what is known
same_bits : (coupled may : Bool) (bands : ℕ) (x : ChannelShared) → (channel_shared coupled may bands).spell x ≡ channel_bits x
unfolding channel_shared coordinate_each alternating fitted pair shaped given field tested_bit each cons absent
same_bits coupled may bands x = refl

each_bits_of : (known : Known) (c : Coupling) (js : List ChannelShared) → length js ≤ 5
    → (shared_each known c).spell js ≡ spelled_each channel_bits js
unfolding shared_each
each_bits_of known c js h =
    each_bits 5 0 (λ i. channel_shared (channel_coupled c i) (may_keep_coordinates known c i) c.bands) channel_bits js
    (λ k x. same_bits _ _ _ x) h

phases_same : (n : ℕ) (xs : List (Option Bool)) → (phase_each n).spell xs ≡ (phase_each 0).spell xs
unfolding phase_each given tested_bit each cons absent
phases_same n xs = refl

pub shared_spelled : (known : Known) (c : Coupling) (x : Shared) → length (joined_channels x.cplcoe x.mstrcplco x.cplcoexp x.cplcomant) ≤ 5
    → (shared known c).spell x ≡ spelled_each channel_bits (joined_channels x.cplcoe x.mstrcplco x.cplcoexp x.cplcomant)
    ++ (phase_each 0).spell x.phsflg
unfolding shared fitted pair
shared_spelled known c x h =
    rw (each_bits_of known c (joined_channels x.cplcoe x.mstrcplco x.cplcoexp x.cplcomant) h, phases_same _ x.phsflg) refl

-- what lawful values are, entry by entry
pub record SharedParts (x : Shared) : Type 0 where
  pub long : AreLong 5 x.cplcoe x.mstrcplco x.cplcoexp x.cplcomant
  pub joined : length (joined_channels x.cplcoe x.mstrcplco x.cplcoexp x.cplcomant) ≡ 5
  pub masters : (i : ℕ) → i < 5 → ForSome (entry x.mstrcplco i) (λ v. v < 2 ^ 2)
  pub exps : (i : ℕ) → i < 5 → (k : ℕ) → k < 18 → ForSome (entry (get_or x.cplcoexp i []) k) (λ v. v < 2 ^ 4)
  pub mants : (i : ℕ) → i < 5 → (k : ℕ) → k < 18 → ForSome (entry (get_or x.cplcomant i []) k) (λ v. v < 2 ^ 4)

fits_of : (known : Known) (c : Coupling) (x : Shared) → (shared known c).Lawful x
    → SharedFits x × (each 5 0 (λ i. channel_shared (channel_coupled c i) (may_keep_coordinates known c i) c.bands)).Lawful
    (joined_channels x.cplcoe x.mstrcplco x.cplcoexp x.cplcomant)
unfolding shared shared_each fitted pair
fits_of known c x h = (h.0, h.1.0)

channel_fits : (coupled may : Bool) (bands : ℕ) (y : ChannelShared) → (channel_shared coupled may bands).Lawful y
    → ForSome y.mstrcplco (λ v. v < 2 ^ 2) × ((k : ℕ) → k < 18
    → ForSome (entry y.cplcoexp k) (λ v. v < 2 ^ 4) × ForSome (entry y.cplcomant k) (λ v. v < 2 ^ 4))
unfolding channel_shared shaped pair given field
channel_fits coupled may bands y h = ((λ v e. (h.1.0.1 v e).0), coordinates_fit _ y.cplcoexp y.cplcomant h.1.1)

pub shared_parts : (known : Known) (c : Coupling) (x : Shared) → (shared known c).Lawful x → SharedParts x
shared_parts known c x h =
    let f = fits_of known c x h in
    let row : ℕ → Codec ChannelShared = λ i. channel_shared (channel_coupled c i) (may_keep_coordinates known c i) c.bands in
    let js = joined_channels x.cplcoe x.mstrcplco x.cplcoexp x.cplcomant in
    let n = length x.cplcoe in
    let any : AreLong n x.cplcoe x.mstrcplco x.cplcoexp x.cplcomant =
    record { coes = refl; masters = f.0.0; exps = f.0.1; mants = f.0.2 } in
    let five : n ≡ 5 = sym (length-joined n x.cplcoe x.mstrcplco x.cplcoexp x.cplcomant any) ∙ each_length 5 0 row js f.1 in
    let long : AreLong 5 x.cplcoe x.mstrcplco x.cplcoexp x.cplcomant =
    subst (λ (m : ℕ). AreLong m x.cplcoe x.mstrcplco x.cplcoexp x.cplcomant) five any in
    let at : (i : ℕ) → i < 5 → (row i).Lawful (channel_at x.cplcoe x.mstrcplco x.cplcoexp x.cplcomant i) =
    λ i lt. subst (row i).Lawful (get-joined 5 x.cplcoe x.mstrcplco x.cplcoexp x.cplcomant long i
    (channel_at x.cplcoe x.mstrcplco x.cplcoexp x.cplcomant i) lt)
    (each_here 5 row js f.1 i (channel_at x.cplcoe x.mstrcplco x.cplcoexp x.cplcomant i) lt) in
    record {
      long = long;
      joined = each_length 5 0 row js f.1;
      masters = λ i lt. (channel_fits _ _ _ (channel_at x.cplcoe x.mstrcplco x.cplcoexp x.cplcomant i) (at i lt)).0;
      exps = λ i lt k less. ((channel_fits _ _ _ (channel_at x.cplcoe x.mstrcplco x.cplcoexp x.cplcomant i) (at i lt)).1 k less).0;
      mants = λ i lt k less. ((channel_fits _ _ _ (channel_at x.cplcoe x.mstrcplco x.cplcoexp x.cplcomant i) (at i lt)).1 k less).1;
    }

-- the bits of lawful values don't depend on what is known
pub shared_same : (known : Known) (c : Coupling) (x : Shared) → (shared known c).Lawful x → (shared known c).spell x ≡ shared_bits x
shared_same known c x h =
    let j = (shared_parts known c x h).joined in
    shared_spelled known c x (omega (arith, j)) ∙ sym (shared_spelled nothing uncoupled x (omega (arith, j)))

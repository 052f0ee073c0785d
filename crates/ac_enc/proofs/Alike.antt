-- What is told of coefficients by those of a sound's channels alone.
use Rattle.std.proofs.Common.{◌≡◌, ℕ, zero, suc, ◌+◌, ◌-◌, ◌*◌, ◌<◌, ◌≤◌, min, Bool, true, false, List, [], ◌∷◌, ℤ, ◌+ℤ◌, neg_ℤ, Option, Some, None, slice_index_or, if◌then◌else◌, ◌&&◌, nat_lt, nat_le, nat_eq, is_some, refl, ap, ap₂, sym, ◌∙◌, inl, inr, arith}
use Rattle.std.proofs.lemmas.Bool.{ltb-true, ltb-false, eqb-true, eqb-false, cases_Bool, and_parts, and_left, true≢false}
use Rattle.ac_base.specs.declared.shapes.Shape.{Shape}
use Rattle.ac_base.specs.Floor.{floor_div}
use Rattle.ac_base.specs.Shape.{IsCoupling, full_of, count_of, is_stereo, subbands, rematrix_bands}
use Rattle.ac_base.specs.Sigma.{sum_below}
use Rattle.ac_base.proofs.Rearranged.{sigma_same}
use Rattle.ac_base.proofs.SpanBounds.{span_end}
use Rattle.ac_expo.specs.Raw.{channels, channel_span}
use Rattle.ac_cost.proofs.Covering.{sum_same-below}
use Rattle.ac_cost.proofs.Exponents.{span_of_shape}
use Rattle.ac_coordinates.specs.declared.Coordinate.{Coordinate}
use Rattle.ac_energy.specs.Coefficients.{Coefficients, Channel}
use Rattle.ac_energy.specs.Energy.{energy_of, square}
use Rattle.ac_coupling.specs.Coordinate.{coordinate_of}
use Rattle.ac_coupling.specs.Coupling.{start_of, end_by, mean_of, coupled_of, band_energy, sent_coordinate, is_worth}
use Rattle.ac_rematrix.specs.Rematrix.{band_start, band_end, cut_of, plus, less, is_weaker, flag_of, band_at, is_rematrixed, half_of, rematrixed_of}
use Rattle.ac_joint.specs.Joint.{shared_of, joint_flags, joint_of}

-- the same at the first n channels
abbrev pub Alike : ℕ → Coefficients → Coefficients → Type 0
Alike n x y = (c b k : ℕ) → c < n → b < 6 → k < 256 → x c b k ≡ y c b k

pub turned : (n : ℕ) (x y : Coefficients) → Alike n x y → Alike n y x
turned n x y same = λ c b k l i j. sym (same c b k l i j)

pub fewer : (n m : ℕ) (x y : Coefficients) → m ≤ n → Alike n x y → Alike m x y
fewer n m x y few same = λ c b k l i j. same c b k (omega (arith, few, l)) i j

-- the same at the first bins of one channel
abbrev To : ℕ → Channel → Channel → Type 0
To end x y = (b k : ℕ) → b < 6 → k < end → x b k ≡ y b k

energy_same : (x y : Channel) (start end : ℕ) → To end x y → energy_of x start end ≡ energy_of y start end
unfolding energy_of
energy_same x y start end same =
    sum_same-below 6 (λ b. sum_below (end - start) (λ i. square (x b (start + i)))) (λ b. sum_below (end - start) (λ i. square (y b (start + i))))
    (λ b block. sum_same-below (end - start) (λ i. square (x b (start + i))) (λ i. square (y b (start + i))) (λ i below. ap square (same b (start + i) block (omega (arith, below)))))

-- ---- choices
if_same : {A : Type 0} (b : Bool) (u v w z : A) → (b ≡ true → u ≡ v) → (b ≡ false → w ≡ z) → (if b then u else w) ≡ (if b then v else z)
if_same true u v w z p q = p refl
if_same false u v w z p q = q refl

and_same : (a b c : Bool) → (a ≡ true → b ≡ c) → (a && b) ≡ (a && c)
and_same true b c p = p refl
and_same false b c p = refl

not_third : (a b c : Bool) → c ≡ false → (a && b && c) ≡ false
not_third true true c e = e
not_third true false c e = refl
not_third false b c e = refl

-- ---- ranges
end_bound : (acmod : ℕ) (couple : Option (ℕ × ℕ)) → IsCoupling acmod couple → end_by couple ≤ 253
end_bound acmod None is = omega arith
end_bound acmod (Some p) is = let h = is p refl in let e = h.2 in omega (arith, e)

pub end_within : (shape : Shape) → end_by shape.couple ≤ 253
end_within shape = end_bound shape.acmod shape.couple shape.coupling

band_bound : (acmod : ℕ) (couple : Option (ℕ × ℕ)) (band : ℕ) → IsCoupling acmod couple → band < subbands couple → start_of couple + 12 * band + 12 ≤ 253
band_bound acmod None band is below = absurd (omega (arith, below))
band_bound acmod (Some p) band is below = let h = is p refl in let e = h.2 in omega (arith, e, below)

-- ---- coupling
mean_same : (n full : ℕ) (x y : Coefficients) → full ≤ n → Alike n x y → To 256 (mean_of full x) (mean_of full y)
mean_same n full x y few same b k block bin =
    ap (λ z. floor_div z full) (sigma_same full (λ c. x c b k) (λ c. y c b k) (λ c below. same c b k (omega (arith, few, below)) block bin))

to_bin : (end : ℕ) (x y : Channel) → end ≤ 253 → To 256 x y → To end x y
to_bin end x y few same b k block bin = same b k block (omega (arith, few, bin))

pub worth_same : (shape : Shape) (x y : Coefficients) → Alike (full_of shape.acmod) x y → is_worth shape x ≡ is_worth shape y
worth_same shape x y same =
    let full = full_of shape.acmod in
    let start = start_of shape.couple in
    let end = end_by shape.couple in
    let of_each = sum_same-below full (λ c. energy_of (x c) start end) (λ c. energy_of (y c) start end)
    (λ c below. energy_same (x c) (y c) start end (to_bin end (x c) (y c) (end_within shape) (λ b k block bin. same c b k below block bin))) in
    let shared = energy_same (mean_of full x) (mean_of full y) start end (to_bin end (mean_of full x) (mean_of full y) (end_within shape) (mean_same full full x y (omega arith) same)) in
    ap₂ nat_le of_each (ap (λ (e : ℕ). 4 * full * e) shared)

band_same : (shape : Shape) (x y : Channel) (band : ℕ) → band < subbands shape.couple → To 256 x y → band_energy shape.couple x band ≡ band_energy shape.couple y band
band_same shape x y band below same =
    let start = start_of shape.couple + 12 * band in
    energy_same x y start (start + 12) (to_bin (start + 12) x y (band_bound shape.acmod shape.couple band shape.coupling below) same)

pub sent_same : (shape : Shape) (x y : Coefficients) → Alike (full_of shape.acmod) x y → (c band : ℕ) → sent_coordinate shape x c band ≡ sent_coordinate shape y c band
sent_same shape x y same c band =
    let full = full_of shape.acmod in
    let nothing : Coordinate = record { exp = 0; mant = 0 } in
    let own = λ (z : Coefficients). coordinate_of (band_energy shape.couple (z c) band) (band_energy shape.couple (mean_of full z) band) in
    let in_range = λ (z : Coefficients). if nat_lt band (subbands shape.couple) then own z else nothing in
    if_same (nat_lt c full) (in_range x) (in_range y) nothing nothing
    (λ first. if_same (nat_lt band (subbands shape.couple)) (own x) (own y) nothing nothing
    (λ second.
    let below = ltb-true band (subbands shape.couple) second in
    ap₂ coordinate_of (band_same shape (x c) (y c) band below (λ b k block bin. same c b k (ltb-true c full first) block bin))
    (band_same shape (mean_of full x) (mean_of full y) band below (mean_same full full x y (omega arith) same)))
    (λ _. refl))
    (λ _. refl)

coupled_same : (full low : ℕ) (x y : Coefficients) → Alike (full + low) x y → (c b k : ℕ) → c < full + 1 + low → b < 6 → k < 256 → coupled_of full x c b k ≡ coupled_of full y c b k
coupled_same full low x y same c b k below block bin =
    let behind = λ (z : Coefficients). if nat_eq c full then mean_of full z b k else z (c - 1) b k in
    if_same (nat_lt c full) (x c b k) (y c b k) (behind x) (behind y) (λ e. let l = ltb-true c full e in same c b k (omega (arith, l)) block bin)
    (λ e. if_same (nat_eq c full) (mean_of full x b k) (mean_of full y b k) (x (c - 1) b k) (y (c - 1) b k)
    (λ _. mean_same (full + low) full x y (omega arith) same b k block bin)
    (λ f. let past = ltb-false c full e in let other = eqb-false c full f in same (c - 1) b k (omega (arith, past, other, below)) block bin))

shared_by : (s : Bool) (full low : ℕ) (x y : Coefficients) → Alike (full + low) x y → (c b k : ℕ) → c < full + count_of s + low → b < 6 → k < 256
    → (if s then coupled_of full x else x) c b k ≡ (if s then coupled_of full y else y) c b k
shared_by true full low x y same c b k below block bin = coupled_same full low x y same c b k below block bin
shared_by false full low x y same c b k below block bin = same c b k (omega (arith, below)) block bin

shared_same : (shape : Shape) (x y : Coefficients) → Alike (full_of shape.acmod + count_of shape.lfe) x y → (c b k : ℕ) → c < channels shape → b < 6 → k < 256 → shared_of shape x c b k ≡ shared_of shape y c b k
shared_same shape x y same c b k below block bin = shared_by (is_some shape.couple) (full_of shape.acmod) (count_of shape.lfe) x y same c b k below block bin

-- ---- rematrixing
weaker_same : (l r m s : Channel) (start end : ℕ) → To end l m → To end r s → is_weaker l r start end ≡ is_weaker m s start end
weaker_same l r m s start end one other =
    let sum = energy_same (plus l r) (plus m s) start end (λ b k i j. ap₂ (λ (u v : ℤ). u +ℤ v) (one b k i j) (other b k i j)) in
    let difference = energy_same (less l r) (less m s) start end (λ b k i j. ap₂ (λ (u v : ℤ). u +ℤ neg_ℤ v) (one b k i j) (other b k i j)) in
    ap₂ nat_lt (ap₂ min sum difference) (ap (λ (e : ℕ). 4 * e) (ap₂ min (energy_same l m start end one) (energy_same r s start end other)))

cut_bound : (shape : Shape) → cut_of shape ≤ 253
cut_bound shape = span_end (channel_span shape 0) (span_of_shape shape 0)

two : (shape : Shape) → is_stereo shape.acmod ≡ true → full_of shape.acmod ≡ 2
two shape stereo = ap full_of (eqb-true shape.acmod 2 stereo)

flag_same : (shape : Shape) (x y : Coefficients) → Alike (full_of shape.acmod) x y → (band : ℕ) → flag_of shape x band ≡ flag_of shape y band
flag_same shape x y same band =
    let there = nat_lt band (rematrix_bands shape.couple) in
    let weaker = λ (z : Coefficients). is_weaker (z 0) (z 1) (band_start band) (band_end shape band) in
    let cut = cut_bound shape in
    and_same (is_stereo shape.acmod && there) (weaker x) (weaker y)
    (λ both. let full = two shape (and_parts (is_stereo shape.acmod) there both).0 in
    (weaker_same (x 0) (x 1) (y 0) (y 1) (band_start band) (band_end shape band)
    (λ b k block bin. same 0 b k (omega (arith, full)) block (omega (arith, bin, cut)))
    (λ b k block bin. same 1 b k (omega (arith, full)) block (omega (arith, bin, cut)))))

pub flags_same : (shape : Shape) (x y : Coefficients) → Alike (full_of shape.acmod) x y → joint_flags shape x ≡ joint_flags shape y
flags_same shape x y same = let f = flag_same shape x y same in λ i. f 0 i ∷ f 1 i ∷ f 2 i ∷ f 3 i ∷ []

none_set : (j : ℕ) → slice_index_or (false ∷ false ∷ false ∷ false ∷ []) j false ≡ false
none_set zero = refl
none_set (suc zero) = refl
none_set (suc (suc zero)) = refl
none_set (suc (suc (suc zero))) = refl
none_set (suc (suc (suc (suc j)))) = refl

-- two channels alone are rematrixed
rematrixed_stereo : (shape : Shape) (x : Coefficients) (k : ℕ) → is_rematrixed shape (joint_flags shape x) k ≡ true → is_stereo shape.acmod ≡ true
rematrixed_stereo shape x k set =
    elim (cases_Bool (is_stereo shape.acmod)) [
      | inl is ↦ is
      | inr isnt ↦
          let flag : (band : ℕ) → flag_of shape x band ≡ false = λ band. and_left (is_stereo shape.acmod && nat_lt band (rematrix_bands shape.couple)) (is_weaker (x 0) (x 1) (band_start band) (band_end shape band)) (and_left (is_stereo shape.acmod) (nat_lt band (rematrix_bands shape.couple)) isnt) in
          let flags : joint_flags shape x ≡ false ∷ false ∷ false ∷ false ∷ [] = λ i. flag 0 i ∷ flag 1 i ∷ flag 2 i ∷ flag 3 i ∷ [] in
          let none : slice_index_or (joint_flags shape x) (band_at k) false ≡ false = ap (λ (f : List Bool). slice_index_or f (band_at k) false) flags ∙ none_set (band_at k) in
          absurd (true≢false (sym set ∙ not_third (nat_le 13 k) (nat_lt k (cut_of shape)) (slice_index_or (joint_flags shape x) (band_at k) false) none))
    ]

pub joint_same : (shape : Shape) (x y : Coefficients) → Alike (full_of shape.acmod + count_of shape.lfe) x y → (c b k : ℕ) → c < channels shape → b < 6 → k < 256 → joint_of shape x c b k ≡ joint_of shape y c b k
unfolding joint_of
joint_same shape x y same c b k below block bin =
    let full = full_of shape.acmod in
    let s = shared_of shape x in
    let t = shared_of shape y in
    let shared : (c : ℕ) → c < channels shape → s c b k ≡ t c b k = λ c l. shared_same shape x y same c b k l block bin in
    let flags = flags_same shape x y (fewer (full + count_of shape.lfe) full x y (omega arith) same) in
    let set = is_rematrixed shape (joint_flags shape y) k in
    let pair : set ≡ true → (s 0 b k ≡ t 0 b k) × (s 1 b k ≡ t 1 b k) = λ is. let e = two shape (rematrixed_stereo shape y k is) in (shared 0 (omega (arith, e)), shared 1 (omega (arith, e))) in
    let first = λ (z : Coefficients). half_of (plus (z 0) (z 1) b k) in
    let second = λ (z : Coefficients). half_of (less (z 0) (z 1) b k) in
    let later = λ (z : Coefficients). if nat_eq c 1 then second z else z c b k in
    ap (λ (f : List Bool). rematrixed_of shape f s c b k) flags
    ∙ if_same set (if nat_eq c 0 then first s else later s) (if nat_eq c 0 then first t else later t) (s c b k) (t c b k)
    (λ is. let p = pair is in if_same (nat_eq c 0) (first s) (first t) (later s) (later t) (λ _. ap₂ (λ (u v : ℤ). half_of (u +ℤ v)) p.0 p.1)
    (λ _. if_same (nat_eq c 1) (second s) (second t) (s c b k) (t c b k) (λ _. ap₂ (λ (u v : ℤ). half_of (u +ℤ neg_ℤ v)) p.0 p.1) (λ _. shared c below)))
    (λ _. shared c below)

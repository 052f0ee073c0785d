-- The coupling of a filled block is the one that holds in the block.
use Rattle.std.proofs.Common.{◌≡◌, ℕ, ◌<◌, Bool, true, false, ◌&&◌, List, nat_lt, Option, Some, None, refl, ap, ap₂, sym, ◌∙◌}
use Rattle.std.specs.Prelude.{is_some, if◌then◌else◌}
use Rattle.std.specs.Option.{option_or}
use Rattle.std.proofs.lemmas.Bool.{lt-ltb}
use Rattle.ac_base.specs.Shape.{full_of}
use Rattle.ac_rows.specs.Blocks.{Block}
use Rattle.ac_rows.specs.declared.head.Head.{Head}
use Rattle.ac_rows.specs.declared.groups.Strategy.{Strategy}
use Rattle.ac_rows.specs.Groups.{strategy_of}
use Rattle.ac_rows.specs.Filled.{holds, number, entry, latest, held, needed, range_of, is_coupled, channel_coupled, coupling_in, over, latest_strategy, filled_of}
use Rattle.ac_reading.proofs.Latest.{at_first_listed}

-- the strategy that holds
abbrev pub now : List Block → Block → Strategy
now earlier b = over (strategy_of b) (latest_strategy earlier)

abbrev range_if : Bool → Option ℕ → Option ℕ → Option (ℕ × ℕ)
range_if t a b = if t then Some (number a, number b) else None

range_same : (t : Bool) (a b p q : Option ℕ) → range_if t (if is_some (range_if t a b) then a else p) (if is_some (range_if t a b) then b else q) ≡ range_if t a b
range_same true a b p q = refl
range_same false a b p q = refl

pub filled_range : (h : Head) (earlier : List Block) (b : Block) → range_of (strategy_of (filled_of h earlier b)) ≡ (coupling_in earlier b).range
unfolding filled_of
filled_range h earlier b = range_same (holds (now earlier b).cplinu) (now earlier b).cplbegf (now earlier b).cplendf b.cplbegf b.cplendf

pub filled_used : (h : Head) (earlier : List Block) (b : Block) → holds (filled_of h earlier b).cplinu ≡ holds (now earlier b).cplinu
unfolding filled_of
filled_used h earlier b = refl

used_range : (t : Bool) (p : ℕ × ℕ) → is_some (if t then Some p else None) ≡ t
used_range true p = refl
used_range false p = refl

pub range_used : (earlier : List Block) (b : Block) → is_some (coupling_in earlier b).range ≡ holds (now earlier b).cplinu
range_used earlier b = used_range (holds (now earlier b).cplinu) (number (now earlier b).cplbegf, number (now earlier b).cplendf)

pub coupled_now : (earlier : List Block) (b : Block) (i : ℕ) → i < 5 → channel_coupled (coupling_in earlier b) i ≡ is_coupled (now earlier b) i
coupled_now earlier b i lt = at_first_listed 5 (is_coupled (now earlier b)) i false lt

both_used : (t there : Bool) (own kept : Option Bool) → there ≡ true → (t && holds (if t && there then option_or own kept else own)) ≡ (t && holds (option_or own kept))
both_used true there own kept e = rw e refl
both_used false there own kept e = refl

flag_at : (h : Head) (earlier : List Block) (b : Block) (i : ℕ) → i < 5
    → entry (filled_of h earlier b).chincpl i ≡ needed (is_some (coupling_in earlier b).range && nat_lt i (full_of h.acmod)) (λ d. entry d.chincpl i) earlier b
unfolding filled_of
flag_at h earlier b i lt = at_first_listed 5 (λ j. needed (is_some (coupling_in earlier b).range && nat_lt j (full_of h.acmod)) (λ d. entry d.chincpl j) earlier b) i None lt

flag_now : (earlier : List Block) (b : Block) (i : ℕ) → i < 5 → entry (now earlier b).chincpl i ≡ option_or (entry b.chincpl i) (latest (λ d. entry d.chincpl i) earlier)
flag_now earlier b i lt =
    at_first_listed 5 (λ j. option_or (entry b.chincpl j) (entry (latest_strategy earlier).chincpl j)) i None lt
    ∙ ap (λ (o : Option Bool). option_or (entry b.chincpl i) o) (at_first_listed 5 (λ j. latest (λ d. entry d.chincpl j) earlier) i None lt)

pub filled_coupled : (h : Head) (earlier : List Block) (b : Block) (i : ℕ) → i < 5 → i < full_of h.acmod → is_coupled (strategy_of (filled_of h earlier b)) i ≡ channel_coupled (coupling_in earlier b) i
filled_coupled h earlier b i small lt =
    let t = holds (now earlier b).cplinu in
    let own = entry b.chincpl i in
    let kept = latest (λ d. entry d.chincpl i) earlier in
    let there : nat_lt i (full_of h.acmod) ≡ true = lt-ltb i (full_of h.acmod) lt in
    ap₂ (λ (x : Bool) (o : Option Bool). x && holds o) (filled_used h earlier b) (flag_at h earlier b i small)
    ∙ (ap (λ (u : Bool). t && holds (if u && nat_lt i (full_of h.acmod) then option_or own kept else own)) (range_used earlier b)
    ∙ (both_used t (nat_lt i (full_of h.acmod)) own kept there
    ∙ (ap (λ (o : Option Bool). t && holds o) (sym (flag_now earlier b i small)) ∙ sym (coupled_now earlier b i small))))

-- a coupled channel has a range
and_left : (a b : Bool) → (a && b) ≡ true → a ≡ true
and_left true b e = refl
and_left false b e = e

pub coupled_range : (earlier : List Block) (b : Block) (i : ℕ) → i < 5 → channel_coupled (coupling_in earlier b) i ≡ true → is_some (coupling_in earlier b).range ≡ true
coupled_range earlier b i lt e =
    range_used earlier b ∙ and_left (holds (now earlier b).cplinu) (holds (entry (now earlier b).chincpl i)) (sym (coupled_now earlier b i lt) ∙ e)

-- ---- bandwidths

pub width_at : (h : Head) (earlier : List Block) (b : Block) (i : ℕ) → i < 5 → i < full_of h.acmod
    → entry (filled_of h earlier b).chbwcod i ≡ (if channel_coupled (coupling_in earlier b) i then None else option_or (entry b.chbwcod i) (latest (λ d. entry d.chbwcod i) earlier))
unfolding filled_of
width_at h earlier b i small lt =
    let c = coupling_in earlier b in
    let there : nat_lt i (full_of h.acmod) ≡ true = lt-ltb i (full_of h.acmod) lt in
    at_first_listed 5 (λ j. if channel_coupled c j then None else needed (nat_lt j (full_of h.acmod)) (λ d. entry d.chbwcod j) earlier b) i None small
    ∙ ap (λ (t : Bool). if channel_coupled c i then None else if t then held (λ d. entry d.chbwcod i) earlier b else entry b.chbwcod i) there

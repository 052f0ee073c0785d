-- The rows of a block that are sent up to its coordinates are lawful.
use Rattle.std.proofs.Common.{◌≡◌, ℕ, zero, suc, ◌+◌, ◌≤◌, ◌&&◌, ◌||◌, Bool, true, false, replicate, Option, Some, None, nat_lt, nat_le, refl, arith}
use Rattle.std.specs.Prelude.{is_some}
use Rattle.std.specs.Option.{ForSome}
use Rattle.std.proofs.lemmas.Bool.{le-ltb, lt-ltb}
use Rattle.ac_base.specs.Shape.{subbands}
use Rattle.ac_codec.specs.declared.refused.Refused.{Refused}
use Rattle.ac_codec.specs.declared.refused.Refused.TheVariants.{Reserved, ShortBlock, Dither, NoReuse}
use Rattle.ac_codec.specs.declared.refused.Row.TheVariants.{Chincpl, Cplstre, Cplinu}
use Rattle.ac_codec.specs.Codec.{each, cons, cons_then, absent, given, slot, SlotLawful, pair, shaped, field, tested_bit, flag, any, zero_where, one_where}
use Rattle.ac_rows.specs.declared.groups.Start.{Start}
use Rattle.ac_rows.specs.declared.groups.Strategy.{Strategy}
use Rattle.ac_rows.specs.declared.groups.Rest.{Rest}
use Rattle.ac_rows.specs.Filled.{holds, listed}
use Rattle.ac_rows.specs.BlockRows.{clear_each, start, coupled_each, joined_each, strategy, no_less, rest}
use Rattle.ac_sent.specs.Fields.{when, begin_code, end_code}
use Rattle.ac_sent.proofs.Listed.{each_lawful, given_when, given_not}
use Rattle.ac_sent.proofs.Tests.{zero_true, zero_may, one_false, one_may, none_below, and_not}

-- ---- the start
abbrev pub sent_start : Start
sent_start = record { blksw = replicate 5 false; dithflag = replicate 5 false; dynrnge = false; dynrng = None }

clear_one : (there : Bool) (r : Refused) → SlotLawful there false (λ b. one_where false r b ≡ None) false
clear_one true r = refl
clear_one false r = refl

clear_lawful : (full : ℕ) (r : Refused) → (clear_each full r).Lawful (replicate 5 false)
unfolding clear_each slot tested_bit each cons absent
clear_lawful full r = (clear_one (nat_lt 0 full) r, (clear_one (nat_lt 1 full) r, (clear_one (nat_lt 2 full) r, (clear_one (nat_lt 3 full) r, (clear_one (nat_lt 4 full) r, refl)))))

pub start_lawful : (full : ℕ) → (start full).Lawful sent_start
unfolding start shaped pair tested_bit given
start_lawful full = (clear_lawful full ShortBlock, (clear_lawful full Dither, (refl, (refl, λ v e. absurd cc))))

-- ---- the coupling strategy
abbrev pub sent_strategy : ℕ → Bool → Option (ℕ × ℕ) → Bool → Strategy
sent_strategy full stereo couple first = record {
  cplstre = first;
  cplinu = when first (is_some couple);
  chincpl = listed 5 0 (λ i. when (first && is_some couple && nat_lt i full) true);
  phsflginu = when (first && is_some couple && stereo) false;
  cplbegf = when (first && is_some couple) (begin_code couple);
  cplendf = when (first && is_some couple) (end_code couple);
  cplbndstrc = listed 18 0 (λ k. when (first && nat_le 1 k && nat_lt k (subbands couple)) false);
}

coupled_lawful : (n i : ℕ) (sent : Bool) (full : ℕ) (seen : Bool) → (coupled_each n i sent full seen).Lawful (listed n i (λ k. when (sent && nat_lt k full) true))
unfolding coupled_each cons_then absent tested_bit listed
coupled_lawful zero i sent full seen = refl
coupled_lawful (suc n) i sent full seen = (
  given_when (sent && nat_lt i full) (tested_bit (zero_where (nat_lt (suc i) full || seen) (Reserved Chincpl))) true (λ e. zero_true (nat_lt (suc i) full || seen) (Reserved Chincpl)),
  coupled_lawful n (suc i) sent full (seen || holds (when (sent && nat_lt i full) true)),
)

joined_lawful : (n : ℕ) → (joined_each n).Lawful (listed 18 0 (λ k. when (nat_le 1 k && nat_lt k n) false))
unfolding joined_each tested_bit
joined_lawful n = each_lawful 18 0 (λ k. given (nat_le 1 k && nat_lt k n) flag) (λ k. when (nat_le 1 k && nat_lt k n) false) (λ k l m. given_when (nat_le 1 k && nat_lt k n) flag false (λ e. refl))

joined_none : (joined_each 0).Lawful (listed 18 0 (λ k. None))
unfolding joined_each
joined_none = each_lawful 18 0 (λ k. given (nat_le 1 k && nat_lt k 0) flag) (λ k. None) (λ k l m. given_not (nat_le 1 k && nat_lt k 0) flag (and_not (nat_le 1 k) (nat_lt k 0) (none_below k)))

some_less : (a b : ℕ) → a ≤ b + 2 → no_less a b ≡ None
some_less a b h = rw (le-ltb (b + 2) a h) refl

pub strategy_lawful : (full : ℕ) (stereo begun : Bool) (couple : Option (ℕ × ℕ)) (first : Bool) → ForSome couple (λ p. (2 ≤ full) × (p.0 ≤ 15) × (p.1 ≤ 15) × (p.0 ≤ p.1 + 2)) → (first ≡ false → begun ≡ true)
    → (strategy full stereo begun).Lawful (sent_strategy full stereo couple first)
unfolding strategy shaped pair tested_bit field
strategy_lawful full stereo begun None true bounds was = (
  zero_true begun (NoReuse Cplstre),
  (
    given_when true (tested_bit (one_where (nat_lt 1 full) (Reserved Cplinu))) false (λ e. one_false (nat_lt 1 full) (Reserved Cplinu)),
    (
      coupled_lawful 5 0 false full false,
      (given_when false flag false (λ e. refl), (given_not false (field 4 any) refl, (given_not false (field 4 (no_less 0)) refl, joined_lawful 0))),
    ),
  ),
)
strategy_lawful full stereo begun (Some p) true bounds was =
    let b = bounds p refl in (
      zero_true begun (NoReuse Cplstre),
      (
        given_when true (tested_bit (one_where (nat_lt 1 full) (Reserved Cplinu))) true (λ e. one_may (nat_lt 1 full) (Reserved Cplinu) true (lt-ltb 1 full (omega (arith, b.0)))),
        (
          coupled_lawful 5 0 true full false,
          (
            given_when stereo flag false (λ e. refl),
            (
              given_when true (field 4 any) p.0 (λ e. (omega (arith, b.1), refl)),
              (given_when true (field 4 (no_less p.0)) p.1 (λ e. (omega (arith, b.2), some_less p.0 p.1 b.3)), joined_lawful (subbands (Some p))),
            ),
          ),
        ),
      ),
    )
strategy_lawful full stereo begun couple false bounds was = (
  zero_may begun (NoReuse Cplstre) false (was refl),
  (
    given_not false (tested_bit (one_where (nat_lt 1 full) (Reserved Cplinu))) refl,
    (
      coupled_lawful 5 0 false full false,
      (given_not false flag refl, (given_not false (field 4 any) refl, (given_not false (field 4 (no_less 0)) refl, joined_none))),
    ),
  ),
)

-- ---- the rest
abbrev pub sent_rest : Option ℕ → Rest
sent_rest skipl = record { deltbaie = false; skiple = is_some skipl; skipl = skipl }

pub rest_lawful : (skipl : Option ℕ) → ForSome skipl (λ n. n ≤ 511) → rest.Lawful (sent_rest skipl)
unfolding rest shaped pair tested_bit given field
rest_lawful skipl small = (refl, (refl, (refl, λ n e. let h = small n e in (omega (arith, h), refl))))

-- Channel after channel: those before have their coefficients, the others are as they were.
use Rattle.std.proofs.Common.{◌≡◌, ◌≢◌, ℕ, None, ◌+◌, ◌-◌, ◌/◌, ◌<◌, ◌≤◌, ℤ, Bool, true, false, List, slice_index_or, nat_lt, arith, refl, ap, ap₂, sym, subst, ◌∙◌, inl, inr}
use Rattle.std.specs.Prelude.{◌⊎◌, ◌&&◌, nat_le, if◌then◌else◌}
use Rattle.std.proofs.lemmas.Bool.{cases_lt, cases_eq, lt-ltb, le-ltb, le-leb, lt-leb}
use Rattle.ac_base.specs.declared.spans.Span.{Span}
use Rattle.ac_base.specs.Shape.{full_of}
use Rattle.ac_base.specs.Spans.{is_coupling}
use Rattle.ac_energy.specs.Coefficients.{entry}
use Rattle.ac_rows.specs.Blocks.{Block}
use Rattle.ac_rows.specs.declared.head.Head.{Head}
use Rattle.ac_rows.specs.Groups.{strategy_of}
use Rattle.ac_rows.specs.Filled.{holds, is_coupled, blank_span, span_in, spans_of, HasSpans}
use Rattle.ac_separation.specs.declared.rows.Shared.{Shared}
use Rattle.ac_separation.specs.Separation.{is_in, band_of, separated, uncoupled_of}
use Rattle.ac_separation.specs.Written.{at, lead_at, is_coupled_lead, separated_at, IsWritten}
use Rattle.ac_separation.proofs.Spans.{full_bound, span_at, coupled_is, full_is}

-- what a channel has, by whether it is coupled, the bins of the coupling channel and the value there
abbrev value_by : Block → ℕ → ℕ → Bool → Span → ℤ → ℤ → ℤ
value_by f c k there span shared own = if there && is_in span k then separated f c (band_of f ((k - span.start) / 12)) shared else own

is_value : (h : Head) (f : Block) (x : ℕ → ℕ → ℤ) (c k : ℕ) → uncoupled_of h f x c k
    ≡ value_by f c k (nat_lt c (full_of h.acmod) && is_coupled (strategy_of f) c) (span_in h f (full_of h.acmod)) (x (full_of h.acmod) k) (x c k)
unfolding uncoupled_of
is_value h f x c k = refl

-- without coupling all is as before
none_coupled : (a b : Bool) → (a && (false && b)) ≡ false
none_coupled true b = refl
none_coupled false b = refl

pub uncoupled_none : (h : Head) (f : Block) (x : ℕ → ℕ → ℤ) (c k : ℕ) → holds f.cplinu ≡ false → uncoupled_of h f x c k ≡ x c k
uncoupled_none h f x c k unused =
    let full = full_of h.acmod in
    let coupled = holds (slice_index_or f.chincpl c None) in
    let off : (nat_lt c full && (holds f.cplinu && coupled)) ≡ false =
    ap (λ (t : Bool). nat_lt c full && (t && coupled)) unused ∙ none_coupled (nat_lt c full) coupled in
    is_value h f x c k ∙ ap (λ (t : Bool). value_by f c k t (span_in h f full) (x full k) (x c k)) off

-- ---- channel after channel

abbrev new_at : Block → List Span → Shared → (ℕ → ℕ → ℤ) → ℕ → ℕ → ℤ
new_at f spans s x c k = value_by f c k (is_coupled_lead (lead_at spans c)) s.span (at s.row k) (x c k)

pub record AreSoFar (c b : ℕ) (f : Block) (spans : List Span) (s : Shared) (old new : List (List (List ℤ))) : Type 0 where
  pub done : (d k : ℕ) → d < c → entry new d b k ≡ new_at f spans s (λ e j. entry old e b j) d k
  pub rest : (d k : ℕ) → c ≤ d → entry new d b k ≡ entry old d b k
  pub others : (d j k : ℕ) → j ≢ b → entry new d j k ≡ entry old d j k

pub start : (b : ℕ) (f : Block) (spans : List Span) (s : Shared) (old : List (List (List ℤ))) → AreSoFar 0 b f spans s old old
start b f spans s old = record { done = λ d k below. absurd (omega arith); rest = λ d k above. refl; others = λ d j k other. refl }

module _ (c b : ℕ) (f : Block) (spans : List Span) (s : Shared) (old new : List (List (List ℤ))) (before : AreSoFar c b f spans s old new) where
  -- a channel that isn't coupled
  pub more_free : is_coupled_lead (lead_at spans c) ≡ false → AreSoFar (c + 1) b f spans s old new
  more_free free = record {
    done = λ d k below. elim (cases_eq d c) [
      | inl same ↦
          let Q : ℕ → Type 0 = λ e. entry new e b k ≡ new_at f spans s (λ i j. entry old i b j) e k in
          subst Q (sym same) (before.rest c k (omega arith) ∙ sym (ap (λ (t : Bool). value_by f c k t s.span (at s.row k) (entry old c b k)) free))
      | inr other ↦ before.done d k (omega arith)
    ];
    rest = λ d k above. before.rest d k (omega arith);
    others = before.others;
  }

  inside : (k : ℕ) (span : Span) → span.start ≤ k → k < span.end → is_in span k ≡ true
  inside k span p q = ap₂ (λ (s t : Bool). s && t) (le-leb span.start k p) (lt-ltb k span.end q)

  under : (k : ℕ) (span : Span) → k < span.start → is_in span k ≡ false
  under k span p = ap (λ (t : Bool). t && nat_lt k span.end) (lt-leb span.start k p)

  beyond_by : (t : Bool) → (t && false) ≡ false
  beyond_by true = refl
  beyond_by false = refl

  beyond : (k : ℕ) (span : Span) → span.end ≤ k → is_in span k ≡ false
  beyond k span p = ap (λ (t : Bool). nat_le span.start k && t) (le-ltb k span.end p) ∙ beyond_by (nat_le span.start k)

  module _ (after : List (List (List ℤ))) (own : IsWritten s.span.start s.span.end (separated_at f c s.span.start (at s.row)) (entry new c b) (entry after c b)) (others : (d j k : ℕ) → (d ≢ c) ⊎ (j ≢ b) → entry after d j k ≡ entry new d j k) (coupled : is_coupled_lead (lead_at spans c) ≡ true) where
    by_test : (k : ℕ) (t : Bool) → is_in s.span k ≡ t → new_at f spans s (λ e j. entry old e b j) c k ≡ (if t then separated_at f c s.span.start (at s.row) k else entry old c b k)
    by_test k t e = ap₂ (λ (u v : Bool). if u && v then separated_at f c s.span.start (at s.row) k else entry old c b k) coupled e

    here : (k : ℕ) → entry after c b k ≡ new_at f spans s (λ e j. entry old e b j) c k
    here k = elim (cases_lt k s.span.start) [
      | inl low ↦ own.rest k (inl low) ∙ before.rest c k (omega arith) ∙ sym (by_test k false (under k s.span low))
      | inr above ↦ elim (cases_lt k s.span.end) [
        | inl below ↦ own.done k above below ∙ sym (by_test k true (inside k s.span above below))
        | inr high ↦ own.rest k (inr high) ∙ before.rest c k (omega arith) ∙ sym (by_test k false (beyond k s.span high))
      ]
    ]

    -- a coupled one
    pub more_coupled : AreSoFar (c + 1) b f spans s old after
    more_coupled = record {
      done = λ d k below. elim (cases_eq d c) [
        | inl same ↦ let Q : ℕ → Type 0 = λ e. entry after e b k ≡ new_at f spans s (λ i j. entry old i b j) e k in subst Q (sym same) (here k)
        | inr other ↦ others d b k (inl other) ∙ before.done d k (omega arith)
      ];
      rest = λ d k above. others d b k (inl (λ (e : d ≡ c). omega arith)) ∙ before.rest d k (omega arith);
      others = λ d j k other. others d j k (inr other) ∙ before.others d j k other;
    }

-- ---- all channels
pub all_channels : (full b : ℕ) (h : Head) (f : Block) (spans : List Span) (s : Shared) (old new : List (List (List ℤ))) → spans ≡ spans_of h f → HasSpans h f
    → full < 7 → is_coupling (lead_at spans full) ≡ true → s.span ≡ slice_index_or spans full blank_span → ((k : ℕ) → at s.row k ≡ entry old full b k)
    → AreSoFar 5 b f spans s old new → (c k : ℕ) → c < 7 → entry new c b k ≡ uncoupled_of h f (λ e j. entry old e b j) c k
all_channels full b h f spans s old new is has few found span row so_far c k seven =
    let at_full = (full_is h f spans is has full few found).0 in
    let bins : s.span ≡ span_in h f (full_of h.acmod) = span ∙ span_at h f spans full is few ∙ ap (span_in h f) at_full in
    let shared : at s.row k ≡ entry old (full_of h.acmod) b k = row k ∙ ap (λ (e : ℕ). entry old e b k) at_full in
    let own = entry old c b k in
    elim (cases_lt c 5) [
      | inl low ↦
          so_far.done c k low
          ∙ ap (λ (t : Bool). value_by f c k t s.span (at s.row k) own) (coupled_is h f spans is has c seven)
          ∙ ap (λ (z : Span). value_by f c k (nat_lt c (full_of h.acmod) && is_coupled (strategy_of f) c) z (at s.row k) own) bins
          ∙ ap (λ (v : ℤ). value_by f c k (nat_lt c (full_of h.acmod) && is_coupled (strategy_of f) c) (span_in h f (full_of h.acmod)) v own) shared
          ∙ sym (is_value h f (λ e j. entry old e b j) c k)
      | inr high ↦
          let out : nat_lt c (full_of h.acmod) ≡ false = le-ltb c (full_of h.acmod) (omega (arith, full_bound h.acmod has.channels)) in
          so_far.rest c k high
          ∙ sym (is_value h f (λ e j. entry old e b j) c k
          ∙ ap (λ (t : Bool). value_by f c k (t && is_coupled (strategy_of f) c) (span_in h f (full_of h.acmod)) (entry old (full_of h.acmod) b k) own) out)
    ]

-- The rate of a generated sound is enough for its channels.
use Rattle.std.proofs.Common.{◌≡◌, ℕ, [], false, Some, None, inl, refl, subst, lit≤}
use Rattle.ac_base.specs.declared.shapes.Shape.{Shape}
use Rattle.ac_base.specs.Fit.{FitIn, side_of, exponents_in}
use Rattle.ac_base.specs.Rates.{IsRate, is_rate}
use Rattle.ac_base.specs.SideBits.{side_front, side_total}
use Rattle.ac_base.specs.Sigma.{sum_below}
use Rattle.ac_base.specs.Spans.{groups_of}
use Rattle.ac_expo.specs.Raw.{channels, channel_span}
use Rattle.ac_cost.specs.Parts.{FitsAt, cheapest_assign}
use Rattle.ac_cost.proofs.Fewest.{cheapest-is}
use Rattle.ac_base.specs.declared.sizes.Part.{Part}
use Rattle.ac_enc.specs.declared.fault.NewFault.{NewFault}
use Rattle.ac_enc.specs.declared.fault.NewFault.TheVariants.{RateTooLow}
use Rattle.ac_enc.specs.Layout.{IsEnough, IsShapeWith, IsNewFault}
use Rattle.ac_enc.proofs.Cheapest.{to_layout}
use Rattle.ac_words.specs.Lawful.{AreOptions}
use Rattle.ac_synth.specs.Synth.{synth_options, synth_layout}

none_some : {A : Type 0} (x : A) → None ≡ Some x → ⊥
none_some x e = absurd cc

-- the shape of its frames
abbrev plain : Shape
plain = record {
  fscod = 0;
  acmod = 2;
  lfe = false;
  bw = 60;
  couple = None;
  words = 384;
  sampling = lit≤ tt;
  some_channel = lit≤ tt;
  channels = lit≤ tt;
  bandwidth = lit≤ tt;
  coupling = λ p e. absurd (none_some p e);
  least_size = lit≤ tt;
  most_size = lit≤ tt;
}

shaped : IsShapeWith synth_options synth_layout 384 None plain
shaped = record { sampling_rate = refl; layout = refl; low = refl; width = refl; coupled = refl; size = refl }

fits : FitsAt plain [] 0 (cheapest_assign plain)
unfolding sum_below side_front side_total groups_of
fits =
    subst (FitIn 384) (cheapest-is plain [] (side_of 2 false None) (exponents_in (channel_span plain) (channels plain) (cheapest_assign plain) 0) refl refl)
    (record { in_front = lit≤ tt; whole = lit≤ tt; at_end = lit≤ tt })

pub enough : IsEnough synth_options synth_layout
enough = inl (to_layout synth_options synth_layout 384 None plain [] shaped fits)

rate_is : IsRate 192
unfolding is_rate
rate_is = refl

pub are_options : AreOptions synth_options
are_options = record { rate = rate_is; nodes = lit≤ tt; bandwidth = λ bw e. absurd (none_some bw e); coupling = tt }

-- so that there is an encoder, where there is memory
pub never_low : (fault : NewFault) (part : Part) (needed room : ℕ) → fault ≡ RateTooLow part needed room → IsNewFault synth_options synth_layout fault → ⊥
never_low fault part needed room e is = let low = subst (IsNewFault synth_options synth_layout) e is in low.short enough

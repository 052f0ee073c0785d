use Rattle.std.proofs.Common.{◌≡◌, ◌<◌, ◌+◌, ◌^◌, ◌*ℤ◌, ℕ, ℤ, arith, ap, ◌∙◌}
use Rattle.ac_base.specs.Cosine.{cosine_at}
use Rattle.ac_base.proofs.Rearranged.{sigma_same}
use Rattle.ac_base.specs.Sigma.{sigma}
use Rattle.ac_convolution.specs.Negacyclic.{items, wave, negacyclic}
use Rattle.ac_cosine_sums.specs.declared.TheConstants.{POWERS}
use Rattle.ac_cosine_sums.proofs.Tested.{powers, powers_bound, table, wave_powers}
use Rattle.ac_cosine_sums.proofs.cosine_sums.Goals as goal

pub negacyclic_correlation-requires : goal.negacyclic_correlation-requires
negacyclic_correlation-requires c = record { g = c.requires; h = powers_bound; table = table }

powers_sums : (g : ℕ → ℤ) (k : ℕ) → k < 256 → negacyclic g (items POWERS) k ≡ sigma 256 (λ i. g i *ℤ cosine_at (5 ^ (i + k)))
powers_sums g k below =
    sigma_same 256 (λ i. g i *ℤ wave 256 (items POWERS) (i + k)) (λ i. g i *ℤ cosine_at (5 ^ (i + k)))
    (λ i within. ap (λ z. g i *ℤ z) (wave_powers POWERS powers (i + k) (omega arith)))

pub sparse_correlation-requires : goal.sparse_correlation-requires
sparse_correlation-requires c = record { g = c.requires; h = powers_bound }

pub returns-then-has_few : goal.returns-then-has_few
returns-then-has_few c = λ k below. c.sparse_correlation.ensures k below ∙ powers_sums (items c.args.g.now) k below

pub returns-else-has_few : goal.returns-else-has_few
returns-else-has_few c = λ k below. c.negacyclic_correlation.ensures k below ∙ powers_sums (items c.args.g.now) k below

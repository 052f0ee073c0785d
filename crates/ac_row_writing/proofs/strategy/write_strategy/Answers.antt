use Rattle.ac_codec.specs.Codec.{pair, shaped, field, given}
use Rattle.ac_rows.specs.BlockRows.{strategy}
use Rattle.ac_row_writing.proofs.strategy.write_strategy.Goals as goal

pub put_optional-requires-2-clause-fits : goal.put_optional-requires-2-clause-fits
unfolding strategy pair shaped field given
put_optional-requires-2-clause-fits c = λ x e. (c.requires.fits.3.1.1.1.1.1.0.1 x e).0

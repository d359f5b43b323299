-- `fir::default_bytes` meets its contract: the bytes of the default coefficients.
-- Assumes nothing.
use mathlib.Core.Path.{ap, ◌∙◌}
use Rattle.fir.specs.Packing.{pack_of}
use Rattle.fir.proofs.default_bytes.Goals as goal

pub returns : goal.returns
returns c = c.bytes_of.ensures ∙ ap pack_of c.fir_default.ensures

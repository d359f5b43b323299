-- `packets::setup_of` meets its contract: the four fields, each at its place.
-- Assumes nothing.
use mathlib.Core.Path.{refl}
use native.Mathlib.Omega.{arith}
use Rattle.packets.proofs.Written.{setup_made}
use Rattle.packets.proofs.setup_of.Goals as goal

pub returns : goal.returns
returns c =
    let index_of = c.index_of in
    setup_made c.args.e _ _ _ _ c.type_of.ensures.0 c.value_of.ensures.0 index_of.ensures.0 index_of.ensures.1
    refl (omega arith)

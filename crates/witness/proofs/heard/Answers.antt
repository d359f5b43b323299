-- `witness::heard` meets its contract.
-- Assumes nothing.
use Rattle.witness.specs.Walk.{seen}
use Rattle.witness.proofs.Gathered.{heard_one}
use Rattle.witness.proofs.heard.Goals as goal

pub returns : goal.returns
returns c =
    let a = c.args in
    heard_one a.address a.e (seen a.chip.now a.demod.now a.w) _ _ _ c.noted.ensures c.noted_demod.ensures c.waited.ensures

-- `settings::move_1_to_2` meets its contract: what was read of edition 1 is lent as edition 2.
-- Assumes nothing.
use Rattle.settings.proofs.Editions.{moved_2}
use Rattle.settings.proofs.move_1_to_2.Goals as goal

pub returns : goal.returns
returns c =
    let read_1 = c.read_1-read in
    let a = c.args in
    moved_2 a.s.now a.out.now _ read_1.result _ c.lend.ensures c.image_2-image.ensures read_1.ensures

-- `settings::move_2_to_1` meets its contract: what was read of edition 2 is lent as edition 1, unless its IF is another.
-- Assumes nothing.
use Rattle.settings.proofs.Editions.{moved_1}
use Rattle.settings.proofs.move_2_to_1.Goals as goal

pub returns : goal.returns
returns c =
    let read-only-2 = c.read_only_2-read in
    let a = c.args in
    moved_1 a.s.now a.out.now _ read-only-2.result _ _ c.lend.ensures c.narrow_refusal.ensures
    c.image_1-image.ensures read-only-2.ensures

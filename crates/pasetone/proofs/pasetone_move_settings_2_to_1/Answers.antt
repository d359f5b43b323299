-- `pasetone::pasetone_move_settings_2_to_1` meets its contract: it tells what the call below answers. Assumes nothing.
use Rattle.pasetone.proofs.Telling.{lent_told}
use Rattle.pasetone.proofs.pasetone_move_settings_2_to_1.Goals as goal

pub returns : goal.returns
returns c = lent_told _ _ _ _ c.numbers.ensures c.move_2_to_1-answer.ensures

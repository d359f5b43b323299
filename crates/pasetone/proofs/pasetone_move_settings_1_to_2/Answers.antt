-- `pasetone::pasetone_move_settings_1_to_2` meets its contract: it tells what the call below answers. Assumes nothing.
use Rattle.pasetone.proofs.Telling.{lent_told}
use Rattle.pasetone.proofs.pasetone_move_settings_1_to_2.Goals as goal

pub returns : goal.returns
returns c = lent_told _ _ _ _ c.numbers.ensures c.move_1_to_2-answer.ensures

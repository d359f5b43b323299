-- `pasetone::pasetone_get_gain_table` meets its contract: it tells what the call below answers. Assumes nothing.
use Rattle.pasetone.proofs.Telling.{lent_told}
use Rattle.pasetone.proofs.pasetone_get_gain_table.Goals as goal

pub returns : goal.returns
returns c = lent_told _ _ _ _ c.numbers.ensures c.get_gain_table-answer.ensures

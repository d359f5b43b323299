-- `pasetone::pasetone_get_if_freq` meets its contract: it tells what the call below answers. Assumes nothing.
use Rattle.pasetone.proofs.Telling.{answer_told}
use Rattle.pasetone.proofs.pasetone_get_if_freq.Goals as goal

pub returns : goal.returns
returns c = answer_told _ _ _ c.numbers.ensures c.get_if_freq-answer.ensures

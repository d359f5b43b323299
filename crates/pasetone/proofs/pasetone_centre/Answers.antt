-- `pasetone::pasetone_centre` meets its contract: it tells what the call below answers. Assumes nothing.
use Rattle.pasetone.proofs.Telling.{answer_told}
use Rattle.pasetone.proofs.pasetone_centre.Goals as goal

pub returns : goal.returns
returns c = answer_told _ _ _ c.numbers.ensures c.centre-answer.ensures

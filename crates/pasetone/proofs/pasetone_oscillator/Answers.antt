-- `pasetone::pasetone_oscillator` meets its contract: it tells what the call below answers. Assumes nothing.
use Rattle.pasetone.proofs.Telling.{answer_told}
use Rattle.pasetone.proofs.pasetone_oscillator.Goals as goal

pub returns : goal.returns
returns c = answer_told _ _ _ c.numbers.ensures c.oscillator-answer.ensures

-- `pasetone::pasetone_corrected_xtal_hz` meets its contract: it tells what the call below answers. Assumes nothing.
use Rattle.pasetone.proofs.Telling.{answer_told}
use Rattle.pasetone.proofs.pasetone_corrected_xtal_hz.Goals as goal

pub returns : goal.returns
returns c = answer_told _ _ _ c.numbers.ensures c.corrected_xtal_hz-answer.ensures

-- `pasetone::pasetone_resample_regs` meets its contract: it tells what the call below answers. Assumes nothing.
use Rattle.pasetone.proofs.Telling.{lent_told}
use Rattle.pasetone.proofs.pasetone_resample_regs.Goals as goal

pub returns : goal.returns
returns c = lent_told _ _ _ _ c.numbers.ensures c.resample_regs-answer.ensures

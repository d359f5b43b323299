-- `pasetone::pasetone_pack_fir` meets its contract: it tells what the call below answers. Assumes nothing.
use Rattle.pasetone.proofs.Telling.{lent_told}
use Rattle.pasetone.proofs.pasetone_pack_fir.Goals as goal

pub returns : goal.returns
returns c = lent_told _ _ _ _ c.numbers.ensures c.pack_fir-answer.ensures

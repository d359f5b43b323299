-- `pasetone::pasetone_set_if_freq_xtal` meets its contract: it tells what the call below answers. Assumes nothing.
use Rattle.pasetone.proofs.Telling.{shown_told}
use Rattle.pasetone.proofs.pasetone_set_if_freq_xtal.Goals as goal

pub returns : goal.returns
returns c = shown_told _ _ _ _ _ c.numbers.ensures c.set_if_freq_xtal-handed.ensures

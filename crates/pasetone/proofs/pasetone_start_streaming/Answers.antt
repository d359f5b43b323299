-- `pasetone::pasetone_start_streaming` meets its contract: it tells what the call below answers. Assumes nothing.
use Rattle.pasetone.proofs.Telling.{shown_told}
use Rattle.pasetone.proofs.pasetone_start_streaming.Goals as goal

pub returns : goal.returns
returns c = shown_told _ _ _ _ _ c.numbers.ensures c.start_streaming-handed.ensures

-- `pasetone::pasetone_stream_pending` meets its contract: it tells what the call below answers. Assumes nothing.
use Rattle.pasetone.proofs.Telling.{answer_told}
use Rattle.pasetone.proofs.pasetone_stream_pending.Goals as goal

pub returns : goal.returns
returns c = answer_told _ _ _ c.numbers.ensures c.pending-answer.ensures

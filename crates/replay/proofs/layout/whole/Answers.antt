-- `layout::whole` says true only where the parts end where the case does. Assumes nothing.
use Rattle.replay.proofs.Truth.{never}
use Rattle.replay.proofs.layout.whole.Goals as goal

pub returns : goal.returns
returns c = never

-- `transcript::seal` meets its contract: the two numbers, stored one behind the other, are the trailer.
-- Assumes nothing.
use Prim.Native.Nat.{◌+◌, ◌*◌}
use mathlib.Core.Path.{ap, ◌∙◌}
use lib.Seq.{sets}
use Rattle.wire.specs.Bytes.{le_bytes}
use Rattle.transcript.proofs.Laid.{trailer_laid}
use Rattle.transcript.proofs.seal.Goals as goal

pub returns : goal.returns
returns c =
    let a = c.args in
    c.put-2.ensures
    ∙ ap (λ l. sets l (16 * a.count + 4) (le_bytes 4 (16 * a.count))) c.put.ensures
    ∙ trailer_laid a.room.now a.count

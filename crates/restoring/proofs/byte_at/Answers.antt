-- `restoring::byte_at` meets its contract.
-- Assumes nothing.
use mathlib.Core.Path.{◌∙◌}
use native.Mathlib.Omega.{arith}
use Rattle.restoring.specs.Standing.{held_of}
use Rattle.restoring.proofs.Laying.{slot_in, slot_past}
use Rattle.restoring.proofs.byte_at.Goals as goal

pub returns-then-m-j : goal.returns-then-m-j
returns-then-m-j c =
    let a = c.args in
    slot_past (held_of a.known.now) a.i a.m a.j (omega arith)

pub returns : goal.returns
returns c =
    let a = c.args in
    c.byte_held.ensures ∙ slot_in (held_of a.known.now) a.i a.m a.j (omega arith)

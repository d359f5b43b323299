-- `restoring::write_of` meets its contract: the entry is the definition's, byte by byte.
-- Assumes nothing.
use Rattle.restoring.specs.Standing.{held_of}
use Rattle.restoring.proofs.Laying.{write_told}
use Rattle.restoring.proofs.write_of.Goals as goal

pub returns : goal.returns
returns c =
    let a = c.args in
    write_told a.address (held_of a.known.now) a.i a.m c.byte_at.ensures c.byte_at-2.ensures
    c.byte_at-3.ensures c.byte_at-4.ensures c.byte_at-5.ensures c.byte_at-6.ensures c.byte_at-7.ensures

-- `packets::put_transfer` meets its contract: setup packet, data and the read after them, stored one after the other.
-- Assumes nothing.
use Prim.Native.Nat.{◌≤◌}
use mathlib.Core.Path.{◌≡◌}
use native.Mathlib.Omega.{arith}
use lib.ListN.{length}
use Rattle.packets.proofs.Written.{transfer_stored}
use borrow.Author.Rules.{rules}
use Rattle.packets.proofs.put_transfer.Goals as goal

pub returns : goal.returns
returns c =
    let a =
    c.args in
    transfer_stored a.e (search rules) (search rules) a.out.now
    c.put.new.s
    c.copy.new.dst c.put-2.new.s a.at
    c.sent_by-sent.result
    c.followed_by.result
    c.setup_of.result
    c.sent_by-sent.ensures.0 c.followed_by.ensures.0
    c.setup_of.ensures
    c.put.ensures
    c.copy.ensures c.put-2.ensures

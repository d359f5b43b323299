-- `records::driver_in` meets its contract: each field is read from its part.
-- Assumes nothing.
use Rattle.records.proofs.Driven.{driver_made}
use borrow.Author.Rules.{rules}
use Rattle.records.proofs.driver_in.Goals as goal

pub returns : goal.returns
returns c =
    let four2 = c.four-2 in
    driver_made c.args.b.now _ _ _ _ _ _ _ _ c.get.ensures.0 c.board_from.ensures c.four.ensures
    four2.ensures (search rules) c.to_signed.ensures c.eight.ensures c.four-3.ensures c.eight-2.ensures

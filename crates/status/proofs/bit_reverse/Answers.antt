-- `status::bit_reverse` meets its contract: the table in the code is the sheet, whose rule holds at each of its entries. Assumes nothing.
use borrow.Author.Rules.{rules}
use Rattle.status.specs.Reversal.{reversed}
use Rattle.status.proofs.Sheet.{from, rule}
use Rattle.status.proofs.bit_reverse.Goals as goal

-- the code's own 256 bytes are compared with the sheet here
pub returns : goal.returns
unfolding reversed from
returns c = rule c.args.b (search rules)

-- `transcript::padded` meets its contract: what is left of the number is that of the bytes that are not kept.
-- Assumes nothing.
use borrow.Author.Rules.{rules}
use Rattle.transcript.proofs.Words.{all_kept, some_kept}
use Rattle.transcript.proofs.padded.Goals as goal

pub returns-then-kept-gt7 : goal.returns-then-kept-gt7
returns-then-kept-gt7 c = all_kept c.args.d c.args.kept (search rules)

pub returns : goal.returns
returns c = some_kept c.args.d c.args.kept (search rules) (search rules)

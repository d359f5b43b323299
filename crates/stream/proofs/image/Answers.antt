-- `stream::image` meets its contract: nothing is kept of a whole command, else the count and the first eight bytes. Assumes nothing.
use mathlib.Core.Path.{◌≡◌}
use native.Mathlib.Omega.{arith}
use lib.ListN.{length}
use Rattle.stream.proofs.Laws.{nothing_kept, some_kept}
use borrow.Author.Rules.{rules}
use Rattle.stream.proofs.image.Goals as goal

pub returns-then-count-ge-COMMAND : goal.returns-then-count-ge-COMMAND
returns-then-count-ge-COMMAND c = nothing_kept c.args.got c.if-count-ge-COMMAND.true

pub slice_bounds-copy-end : goal.slice_bounds-copy-end
slice_bounds-copy-end c =
    let n : length c.args.got.bytes ≡ 9 = search rules in omega arith

pub returns : goal.returns
returns c =
    let args = c.args in
    let n : length args.got.bytes ≡ 9 = search rules in
    some_kept args.got c.if-count-ge-COMMAND.false n _ c.copy.ensures

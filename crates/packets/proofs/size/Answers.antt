-- `packets::size` meets its contract: a wait has no packets, and any other entry those of its transfer.
-- Assumes nothing.
use mathlib.Core.Path.{ap, ap₂, ◌∙◌}
use Prim.Native.Nat.{ℕ, ◌+◌}
use lib.ListN.{length}
use Rattle.packets.proofs.Written.{waits, transfer_long}
use borrow.Author.Rules.{rules}
use Rattle.packets.proofs.size.Goals as goal

pub returns-then-e-eq-WAIT : goal.returns-then-e-eq-WAIT
returns-then-e-eq-WAIT c = ap length (waits c.args.e c.if-e-eq-WAIT.true)

pub returns : goal.returns
returns c =
    let became = c.became-t in
    let if1 = c.if-e-eq-WAIT in
    let args = c.args in
    ap₂ (λ (i j : ℕ). 8 + i + j) c.sent_by.ensures.0 c.followed_by.ensures.0
    ∙ (transfer_long args.e (search rules) (search rules) became.result became.ensures if1.false).1

-- `packets::put` meets its contract: a wait stores nothing, and any other entry its transfer.
-- Assumes nothing.
use mathlib.Core.Path.{ap, ◌∙◌}
use mathlib.Core.List.{List}
use Prim.Native.Nat.{ℕ}
use native.Mathlib.Omega.{arith}
use lib.Seq.{sets}
use Rattle.transcript.specs.declared.Entry.{Entry}
use Rattle.packets.specs.Packets.{packets}
use Rattle.packets.proofs.Written.{waits, moves, transfer_long}
use borrow.Author.Rules.{rules}
use Rattle.packets.proofs.put.Goals as goal

pub returns-then-e-eq-WAIT : goal.returns-then-e-eq-WAIT
returns-then-e-eq-WAIT c =
    let args = c.args in
    ap (λ (l : List ℕ). sets args.out.now args.at l) (waits args.e c.if-e-eq-WAIT.true)

pub put_transfer-requires : goal.put_transfer-requires
put_transfer-requires c =
    let became = c.became in
    let args = c.args in
    let f = transfer_long args.e (search rules) (search rules) became.result became.ensures c.if-e-eq-WAIT.false in
    (f.0, omega (arith, f.1))

pub returns : goal.returns
returns c =
    let a = c.args in
    c.put_transfer.ensures
    ∙ ap (λ (t : Entry). sets a.out.now a.at (packets t)) c.became.ensures
    ∙ ap (λ (l : List ℕ). sets a.out.now a.at l) (moves a.e c.if-e-eq-WAIT.false)

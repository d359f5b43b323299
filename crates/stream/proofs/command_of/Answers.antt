-- `stream::command_of` meets its contract: unknown, the first operation, or one of four bytes. Assumes nothing.
use mathlib.Core.Path.{sym, ap, ◌∙◌}
use native.Mathlib.Omega.{arith}
use Prim.Native.Nat.{ℕ}
use lib.ListN.{get_or}
use Rattle.stream.specs.Commands.{named}
use Rattle.stream.proofs.Laws.{at_least_one, known, low_fits, unknown}
use Rattle.stream.proofs.command_of.Goals as goal

pub returns-then-not-is_known : goal.returns-then-not-is_known
returns-then-not-is_known c =
    unknown c.args.bytes.now _ c.eight-argument.ensures (sym c.is_known.ensures ∙ c.if-not-is_known.true)

pub returns-then-operation-eq1 : goal.returns-then-operation-eq1
returns-then-operation-eq1 c =
    let eight = c.eight-argument in
    let bytes = c.args.bytes.now in
    let n = eight.result in
    known bytes n eight.ensures _ (sym c.is_known.ensures ∙ c.if-not-is_known.false) (sym (ap (λ (o : ℕ). named o n) c.if-operation-eq1.true))

pub overflow_cast-argument : goal.overflow_cast-argument
overflow_cast-argument c =
    omega (
      arith,
      low_fits (get_or c.args.bytes.now 0 0) c.eight-argument.result (sym c.is_known.ensures ∙ c.if-not-is_known.false)
          c.if-operation-eq1.false,
    )

pub named_low-requires : goal.named_low-requires
named_low-requires c =
    let k = sym c.is_known.ensures ∙ c.if-not-is_known.false in
    (omega (arith, at_least_one (get_or c.args.bytes.now 0 0) c.eight-argument.result k), k)

pub returns : goal.returns
returns c =
    known c.args.bytes.now _ c.eight-argument.ensures _ (sym c.is_known.ensures ∙ c.if-not-is_known.false)
    c.named_low.ensures

-- `answers::coefficients` meets its contract. The loop's invariant: the numbers read, with those that are left to read, are all sixteen.
-- Assumes nothing.
use Prim.Native.Nat.{◌+◌, ◌-◌, ◌*◌}
use mathlib.Core.Path.{◌≡◌, refl, ap, ◌∙◌}
use mathlib.Core.List.{◌++◌}
use native.Mathlib.Omega.{arith}
use borrow.Author.Rules.{rules}
use lib.IntN.{ℤ}
use lib.ListN.{set, take, drop}
use mir.Facts.{of_z-to_z}
use mir.Syntax.{w32}
use mir.Val.{of_z, to_z}
use Rattle.wire.specs.Bytes.{le_value}
use Rattle.answers.specs.Lent.{words_in}
use Rattle.answers.proofs.Words.{read_end, read_turn}
use Rattle.answers.proofs.coefficients.Goals as goal

pub loop-i-preserved : goal.loop-i-preserved
loop-i-preserved c =
    let word = c.word in
    let l = c.loop-i in
    let a = c.args in
    let x = le_value (take 4 (drop (4 * l.i) a.s.now)) in
    let read : to_z w32 (of_z w32 c.to_signed.result) ≡ to_z w32 x =
    ap (λ (z : ℤ). to_z w32 (of_z w32 z)) c.to_signed.ensures
    ∙ ap (to_z w32) (of_z-to_z {w = w32} {n = word.result} (record { fits = word.ensures.1 }) ∙ word.ensures.0) in (
      omega arith,
      (
        search rules,
        ap (λ (z : ℤ). take (l.i + 1) (set l.v l.i z) ++ words_in (16 - (l.i + 1)) (drop (4 * (l.i + 1)) a.s.now)) read
            ∙ read_turn a.s.now l.v l.i (omega arith) (omega arith)
            ∙ l.invariant.1.1,
      ),
    )

pub returns : goal.returns
returns c =
    let l = c.loop-i in
    read_end c.args.s.now l.v l.i l.invariant.1.0 (omega arith) (omega arith) ∙ l.invariant.1.1

-- `answers::put_words` meets its contract. The loop's invariant: storing the numbers that are left gives what storing all of them gave.
-- Assumes nothing.
use Prim.Native.Nat.{ℕ, ◌+◌, ◌*◌}
use mathlib.Core.List.{List}
use mathlib.Core.Path.{◌≡◌, refl, ap, ◌∙◌}
use native.Mathlib.Omega.{arith}
use borrow.Author.Rules.{rules}
use lib.IntN.{pos}
use lib.ListN.{get_or, drop}
use lib.Seq.{sets}
use mir.Facts.{to_z-of_z}
use mir.Syntax.{w32}
use mir.Val.{of_z}
use Rattle.wire.specs.Bytes.{le_bytes}
use Rattle.answers.specs.Lent.{word_bytes}
use Rattle.answers.proofs.Words.{put_end, put_turn}
use Rattle.answers.proofs.put_words.Goals as goal

pub loop-i-preserved : goal.loop-i-preserved
loop-i-preserved c =
    let put = c.put in
    let l = c.loop-i in
    let a = c.args in
    let stored : put.new.s ≡ sets l.out (4 * l.i) (le_bytes 4 (of_z w32 (get_or a.v.now l.i (pos 0)))) =
    put.ensures
    ∙ ap (λ (n : ℕ). sets l.out (4 * l.i) (le_bytes 4 n))
    (c.to_bits.ensures
    ∙ ap (of_z w32) (to_z-of_z {w = w32} {z = get_or a.v.now l.i (pos 0)} (record { sfits = c.to_bits-arg-1.given }))) in (
      omega arith,
      (
        search rules,
        ap (λ (u : List ℕ). sets u (4 * (l.i + 1)) (word_bytes (drop (l.i + 1) a.v.now))) stored
            ∙ put_turn l.out a.v.now l.i (omega arith)
            ∙ l.invariant.1.1,
      ),
    )

pub returns : goal.returns
returns c =
    let loop = c.loop-i in
    put_end loop.out c.args.v.now loop.i (omega arith) ∙ loop.invariant.1.1

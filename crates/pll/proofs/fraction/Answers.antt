-- `pll::fraction` meets its contract: a turn of the loop is a turn of the definition, and no turn is left at the end. Assumes nothing.
use Rattle.std.proofs.Common.{ℕ, ◌-◌, ◌+◌, ◌*◌, sym, ap, ◌∙◌, arith}
use Rattle.pll.specs.declared.Sum.{Sum}
use Rattle.pll.specs.Fraction.{turns_of}
use Rattle.pll.proofs.Fractions.{turns_on, turns_done, doubled, turn_most}
use Rattle.pll.proofs.fraction.Goals as goal

pub loop-preserved : goal.loop-preserved
loop-preserved c =
    let l = c.loop in
    let k : ℕ = c.args.k in record {
      same = ap (turns_of (16 - (l.counter + 1)) k (l.n * 2)) c.turn-s.ensures ∙ turns_on l.counter k l.n l.s c.loop-test.true ∙ l.invariant.same;
      least = omega arith;
      doubled = doubled l.counter l.n 131_072 c.loop-test.true l.invariant.doubled;
      small = omega (arith, ap (λ (s : Sum). s.sum) c.turn-s.ensures, turn_most k l.n l.s);
    }

pub returns : goal.returns
returns c = sym (turns_done c.loop.counter c.args.k c.loop.n c.loop.s c.loop-test.false) ∙ c.loop.invariant.same

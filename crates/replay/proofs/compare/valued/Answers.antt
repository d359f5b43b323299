-- `compare::valued` says Same only where the case's numbers and bytes are the answer's. Assumes nothing.
use Rattle.std.proofs.Common.{◌≡◌, ℕ, sym, ◌∙◌, arith, eqb-true}
use Rattle.replay.proofs.Truth.{both}
use Rattle.replay.proofs.compare.valued.Goals as goal

pub returns-then-one : goal.returns-then-one
returns-then-one c = λ e. let z : ◌≡◌ {A = ℕ} 0 1 = cc in absurd (omega arith)

pub returns : goal.returns
returns c =
    λ e.
    let h = both _ _ (c.decided.ensures e) in
    let g = both _ _ h.0 in
    record {
      told = c.numbers.ensures g.0;
      bytes_are = sym c.part-wanted.ensures ∙ c.same.ensures.0 h.1 ∙ c.unless_refused.ensures;
      nothing_else = sym c.start.ensures ∙ eqb-true _ _ g.1 ∙ c.start-2.ensures;
    }

-- `chip::with_try` meets its contract. Each return is one law of the definition, with what the calls before it ensure. Assumes nothing.
use Rattle.chip.specs.InCode.{with_try}
use Rattle.chip.proofs.with_try.Goals as goal

pub returns-then-e : goal.returns-then-e
unfolding with_try
returns-then-e c =
    simp (c.wrapping_add_u16.ensures.value, c.locks.ensures, c.if-e.true)

pub returns : goal.returns
unfolding with_try
returns c = simp c.if-e.false

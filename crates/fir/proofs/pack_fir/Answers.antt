-- `fir::pack_fir` meets its contract: in range the bytes, else 7.
-- Assumes nothing.
use mathlib.Core.Path.{sym, ◌∙◌}
use Rattle.fir.specs.Packing.{packed}
use Rattle.fir.proofs.pack_fir.Goals as goal

pub returns-then-in_range : goal.returns-then-in_range
unfolding packed
returns-then-in_range c = (λ i. record { refusal = 0; bytes = c.bytes_of.ensures i }) ∙ simp (sym c.in_range.ensures ∙ c.if-in_range.true)

pub returns : goal.returns
unfolding packed
returns c = simp (sym c.in_range.ensures ∙ c.if-in_range.false)

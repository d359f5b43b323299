-- `witness::waited` meets its contract.
-- Assumes nothing.
use mathlib.Core.Path.{◌≡◌, refl}
use mathlib.Core.Bool.{false}
use Rattle.witness.specs.declared.Stage.{Stage}
use Rattle.witness.specs.declared.Stage.TheVariants.{Counted, Ended, Open}
use Rattle.witness.specs.Walk.{is_counted, waited_by}
use Rattle.witness.proofs.waited.Goals as goal

not_counted : (s : Stage) → (s ≡ Counted → ⊥) → is_counted s ≡ false
not_counted Open h = refl
not_counted Ended h = refl
not_counted Counted h = absurd (h refl)

pub returns-in-Counted : goal.returns-in-Counted
unfolding waited_by
returns-in-Counted c = rw c.in-Counted.is

pub returns : goal.returns
unfolding waited_by
returns c =
    rw (
      c.tries_after.ensures,
      c.lock_after.ensures,
      c.stage_after.ensures,
      c.tried-read.ensures,
      c.names.ensures,
      c.plans-plan.ensures,
      not_counted c.args.w.stage c.in_default.not-Counted,
    )

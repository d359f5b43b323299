-- `writes::gain_writes` meets its contract: two programs, one after the other. Assumes nothing.
use mathlib.Core.Path.{refl, ap}
use native.Mathlib.Omega.{arith}
use Rattle.chip.specs.InCode.{in_room}
use Rattle.chip.specs.Steps.{every, updates}
use Rattle.chip.proofs.Laws.{parts, swap}
use Rattle.gain.specs.declared.GainEntry.{GainEntry}
use Rattle.gain.specs.Table.{entry_at}
use Rattle.writes.specs.Lists.{by_hand, step_values}
use Rattle.writes.proofs.gain_writes.Goals as goal

pub returns : goal.returns
unfolding every
returns c =
    let gain-values = c.gain_values in
    let gain-by-hand = c.gain_by_hand-manual in
    record {
      room_after = parts in_room _ (updates by_hand) (updates (step_values (entry_at c.args.k))) _ _ _ refl gain-by-hand.ensures.room_after
          (swap in_room _ _ _ _ _ (ap (λ (g : GainEntry). updates (step_values g)) c.entry_at-cfg.ensures) gain-values.ensures.room_after);
      bounds = omega (arith, gain-by-hand.ensures.bounds, gain-values.ensures.bounds);
    }

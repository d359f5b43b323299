-- `writes::set_if_bandwidth` meets its contract: an opening, two updates and a closing. Assumes nothing.
use Prim.Native.Nat.{ℕ}
use mathlib.Core.Path.{ap, ◌∙◌}
use mathlib.Core.List.{[], ◌∷◌}
use Rattle.chip.specs.InCode.{in_room}
use Rattle.chip.specs.Steps.{goes, masked, updates}
use Rattle.chip.proofs.Laws.{bracketed, swap, unopened}
use Rattle.writes.specs.Lists.{if_updates}
use Rattle.writes.proofs.set_if_bandwidth.Goals as goal

pub returns-in_default-clause-room_after : goal.returns-in_default-clause-room_after
returns-in_default-clause-room_after c =
    unopened in_room _ (updates (if_updates c.args.hz)) _ _ _ (c.log_open-opened.ensures.room_after _) (ap goes c.in_default.is) (c.log_close.ensures.room_after _)

pub returns-clause-room_after : goal.returns-clause-room_after
returns-clause-room_after c =
    let low = c.masked-low.ensures ∙ ap (λ (x : ℕ). masked 0x0a x 0x70) c.narrow_or_wide.ensures in
    let high = c.masked-high.ensures ∙ ap (λ (x : ℕ). masked 0x0b x 0xef) c.narrow_or_wide-2.ensures in
    c.log_close-2.ensures.room_after _
    ∙ bracketed in_room _ (updates (if_updates c.args.hz)) _ _ _ (c.log_open-opened.ensures.room_after _)
    (swap in_room _ _ _ _ _ (λ i. updates (low i ∷ high i ∷ [])) c.write_two-written.ensures.room_after)

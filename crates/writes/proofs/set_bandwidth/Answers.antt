-- `writes::set_bandwidth` meets its contract: an opening, one update and a closing. Assumes nothing.
use Prim.Native.Nat.{ℕ}
use mathlib.Core.Path.{ap, ◌∙◌}
use mathlib.Core.List.{[], ◌∷◌}
use Rattle.chip.specs.InCode.{in_room}
use Rattle.chip.specs.Steps.{goes, masked, updates}
use Rattle.chip.proofs.Laws.{bracketed, swap, unopened}
use Rattle.writes.specs.Lists.{bandwidth_updates}
use Rattle.writes.proofs.set_bandwidth.Goals as goal

pub returns-in_default-clause-room_after : goal.returns-in_default-clause-room_after
returns-in_default-clause-room_after c =
    unopened in_room _ (updates (bandwidth_updates c.args.hz)) _ _ _ (c.log_open-opened.ensures.room_after _) (ap goes c.in_default.is) (c.log_close.ensures.room_after _)

pub returns-clause-room_after : goal.returns-clause-room_after
returns-clause-room_after c =
    let wide = c.masked-u.ensures ∙ ap (λ (x : ℕ). masked 0x0a x 0x0f) c.width.ensures in
    c.log_close-2.ensures.room_after _
    ∙ bracketed in_room _ (updates (bandwidth_updates c.args.hz)) _ _ _ (c.log_open-opened.ensures.room_after _)
    (swap in_room _ _ _ _ _ (λ i. updates (wide i ∷ [])) c.write_one-written.ensures.room_after)

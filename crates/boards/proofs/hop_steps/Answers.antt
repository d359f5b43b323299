-- `boards::hop_steps` meets its contract. Assumes nothing.
use mathlib.Core.Path.{◌≡◌, ap, ◌∙◌}
use mathlib.Core.List.{◌++◌}
use Prim.Native.Nat.{ℕ}
use lib.ListN.{drop}
use native.Mathlib.Omega.{arith}
use Rattle.chip.specs.InCode.{Logged, in_room}
use Rattle.chip.specs.Steps.{Line}
use Rattle.chip.proofs.Laws.{by_program, run_address, then}
use Rattle.tuning.specs.Program.{tune_steps}
use Rattle.boards.specs.Hops.{ddc_part, path_part, path_replies}
use Rattle.boards.proofs.Hops.{rest}
use Rattle.boards.proofs.hop_steps.Goals as goal

pub returns : goal.returns
returns c =
    let d = c.ddc_part in
    let t = c.tune-tuned in
    let p = c.path_part-pathed in
    let k = c.path_replies-at in
    let a = c.args in
    let address = a.f.chip.address in
    let rs = a.replies.now in
    let at : ℕ = path_replies a.kind a.plan.path in
    let here : p.result.chip.address ≡ address =
    ap (λ (w : Line Logged). w.chip.address) p.ensures.room_after ∙ run_address in_room _ (path_part a.kind a.plan.path rs) _ in record {
      room_after = then in_room _ (path_part a.kind a.plan.path rs)
          (tune_steps address a.kind a.plan.notch a.by a.plan.hz (drop at rs) ++ ddc_part a.by a.plan.inverted) _ _ _ p.ensures.room_after
          (then in_room _ (tune_steps address a.kind a.plan.notch a.by a.plan.hz (drop at rs)) (ddc_part a.by a.plan.inverted) _ _ _
          (by_program in_room _ _ _ _ _
          (λ i. tune_steps (here i) a.kind a.plan.notch a.by a.plan.hz ((rest rs k.result ∙ ap (λ (n : ℕ). drop n rs) k.ensures.0) i))
          t.ensures.room_after) d.ensures.room_after);
      bounds = omega (arith, p.ensures.bounds, t.ensures.bounds, d.ensures.bounds);
    }

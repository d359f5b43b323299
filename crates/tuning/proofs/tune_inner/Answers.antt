-- `tuning::tune_inner` meets its contract: its parts one after the other. Assumes nothing.
use mathlib.Core.Path.{subst, ap}
use native.Mathlib.Omega.{arith}
use Prim.Native.Nat.{◌≤◌}
use lib.ListN.{length}
use mathlib.Core.List.{List, ◌++◌}
use Rattle.chip.specs.declared.Update.{Update}
use Rattle.std.specs.Prelude.{Option}
use Rattle.pll.specs.declared.Plan.{Plan}
use Rattle.chip.specs.InCode.{in_room}
use Rattle.chip.specs.Steps.{all_in, every, inner, updates}
use Rattle.chip.proofs.Laws.{parts, swap}
use Rattle.tuning.specs.Program.{pll_steps, divider_number}
use Rattle.tuning.specs.Tries.{status_steps, tries_from}
use Rattle.tuning.proofs.Programs.{every_app, inner_pll, inner_updates}
use Rattle.tuning.proofs.Turns.{mux_made, plan_made}
use Rattle.tuning.proofs.tune_inner.Goals as goal

pub write_list-mapped-requires : goal.write_list-mapped-requires
unfolding every
write_list-mapped-requires c =
    let us = c.mux_updates-mux.ensures in
    (omega (arith, ap length us), ap all_in us, omega (arith, ap length us), omega (arith, ap length us))

pub returns-in_default-clause-room_after : goal.returns-in_default-clause-room_after
returns-in_default-clause-room_after c =
    let args = c.args in
    let t = args.t in
    swap in_room _ _ _ _ _
    (mux_made args.address t.kind t.notch t.plan t.hz args.replies.now _ _ c.freq_range.ensures c.mux_updates-mux.ensures c.in_default.is)
    c.write_list-mapped.ensures.room_after

pub pll_updates-pll-requires : goal.pll_updates-pll-requires
pll_updates-pll-requires c = subst (λ (q : Option Plan). divider_number q ≤ 5) c.in-Some.is c.requires.0

pub write_list-written-requires : goal.write_list-written-requires
unfolding every
write_list-written-requires c =
    let us = c.mux_updates-mux.ensures in
    let vs = c.pll_updates-pll.ensures in
    (omega (arith, ap length vs), ap all_in vs, omega (arith, ap length us, ap length vs), omega (arith, ap length us, ap length vs))

pub repair-fix-requires : goal.repair-fix-requires
repair-fix-requires c = subst (λ (q : Option Plan). divider_number q ≤ 5) c.in-Some.is c.requires.0

pub set_pll_raw-requires : goal.set_pll_raw-requires
set_pll_raw-requires c =
    let us = c.mux_updates-mux.ensures in
    let vs = c.pll_updates-pll.ensures in
    omega (arith, ap length us, ap length vs)

pub returns : goal.returns
returns c =
    let us = c.mux_updates-mux.result in
    let vs = c.pll_updates-pll.result in
    let args = c.args in
    let t = args.t in
    let rs = args.replies.now in
    let rest = pll_steps args.address t.kind c.in-Some.p.number rs in
    let no-closing = inner_pll args.address t.kind c.in-Some.p.number rs in record {
      room_after = swap in_room _ _ _ _ _
          (plan_made args.address t.kind t.notch t.plan t.hz rs _ _ _ _ c.freq_range.ensures c.mux_updates-mux.ensures c.pll_updates-pll.ensures c.in-Some.is)
          (parts in_room _ (updates us) (updates vs ++ rest) _ _ _ (every_app inner (updates vs) rest (inner_updates vs) no-closing)
          c.write_list-mapped.ensures.room_after
          (parts in_room _ (updates vs) rest _ _ _ no-closing c.write_list-written.ensures.room_after
          (swap in_room _ _ _ _ _
          (ap (λ (ws : List Update). status_steps args.address rs ++ (updates ws ++ tries_from args.address rs 10 0)) c.repair-fix.ensures)
          c.set_pll_raw.ensures.room_after)));
      bounds = omega (arith, ap length c.mux_updates-mux.ensures, ap length c.pll_updates-pll.ensures);
    }

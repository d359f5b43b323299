-- `Driver::rate_planned` meets its contract: refused before any step, or performed. Assumes nothing.
use native.Mathlib.Omega.{arith}
use mathlib.Core.Path.{sym, ap, ◌∙◌}
use mathlib.Core.Bool.{◌&&◌}
use lib.Dec.{leb}
use lib.ListN.{length}
use mir.Facts.{to_z-of_z}
use mir.Syntax.{w32}
use Rattle.driver.specs.Record.{xtal_by}
use Rattle.driver.proofs.Refusals.{xtal_taken}
use Rattle.registers.proofs.Ratios.{taken}
use Rattle.chip.proofs.Refusals.{taken_by}
use Rattle.driver.proofs.Rates.{rate_performed, rate_refused, under}
use Rattle.driver.proofs.Driver.rate_planned.Goals as goal

pub returns-then-number-ne0 : goal.returns-then-number-ne0
returns-then-number-ne0 c =
    let args = c.args in
    rate_refused args.outcomes.now args.room.now args.rate args.tuner args.self args.planned _ _ _ _ _ c.sound.ensures
    (c.xtal_by-xtal.ensures
    ∙ ap (xtal_by args.self.nominal) (to_z-of_z {w = w32} {z = args.self.ppm} (record { sfits = c.struct_told-1.given.1.1.0.1 })))
    c.rate_number-ratio.ensures c.rate_argument-argument.ensures c.refusal-number.ensures c.if-number-ne0.true

pub sample_rate_steps-f-requires : goal.sample_rate_steps-f-requires
sample_rate_steps-f-requires c =
    let rate-argument = c.rate_argument-argument in
    let sound = c.sound in
    let xtal-by = c.xtal_by-xtal in
    let args = c.args in
    let z =
    taken_by (sound.result && leb 1 xtal-by.result) rate-argument.result 17 0 (length args.room.now) (length args.outcomes.now) 0
    (sym c.refusal-number.ensures ∙ c.if-number-ne0.false) in
    let one = z.lent.rooms in
    let two = z.lent.outs in (
      (taken _ _ (sym c.rate_number-ratio.ensures ∙ under args.planned.refusal _ (sym rate-argument.ensures ∙ z.taken))).some,
      xtal_taken sound.result xtal-by.result z.sure,
      omega arith,
      omega arith,
    )

pub finish-requires : goal.finish-requires
finish-requires c =
    let sample-rate-steps = c.sample_rate_steps-f in
    let args = c.args in
    let z =
    taken_by (c.sound.result && leb 1 c.xtal_by-xtal.result) c.rate_argument-argument.result 17 0 (length args.room.now)
    (length args.outcomes.now) 0 (sym c.refusal-number.ensures ∙ c.if-number-ne0.false) in
    let one = z.lent.rooms in (omega (arith, sample-rate-steps.ensures.bounds), omega (arith, sample-rate-steps.ensures.bounds, sample-rate-steps.auto))

pub returns : goal.returns
returns c =
    let finish = c.finish in
    let sample-rate-steps = c.sample_rate_steps-f in
    let if-for = c.if_for-hz in
    let args = c.args in
    rate_performed args.outcomes.now args.room.now args.rate args.tuner args.self args.planned _ _ _ _ _ c.sound.ensures
    (c.xtal_by-xtal.ensures
    ∙ ap (xtal_by args.self.nominal) (to_z-of_z {w = w32} {z = args.self.ppm} (record { sfits = c.struct_told-1.given.1.1.0.1 })))
    c.rate_number-ratio.ensures c.rate_argument-argument.ensures c.refusal-number.ensures if-for.result
    sample-rate-steps.result _ _ _ _ _ c.if-number-ne0.false if-for.ensures sample-rate-steps.ensures.room_after finish.ensures.1 finish.ensures.0
    c.retune.ensures c.with_rate.ensures

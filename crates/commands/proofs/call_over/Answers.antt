-- `commands::call_over` meets its contract: each arm is its exported call over both records' bytes. Assumes nothing.
use mathlib.Core.Path.{refl, ap, ◌∙◌}
use native.Mathlib.Omega.{arith}
use lib.IntN.{ℤ}
use mir.Facts.{to_z-of_z}
use mir.Syntax.{w32}
use mir.Val.{SFits}
use Rattle.drivers.specs.Drivers.{correct_over}
use Rattle.r82xx.specs.Orders as order
use Rattle.records.specs.Tuners.{tuner_of}
use Rattle.std.specs.Prelude.{Some}
use Rattle.stream.specs.declared.Command.TheVariants.{Bandwidth, GainDb, GainIndex, Reload}
use Rattle.wire.specs.Bytes.{Bytes}
use Rattle.chip.proofs.Laws.{and_right}
use Rattle.records.specs.Drivers.{driver_of}
use Rattle.commands.proofs.Runs.{bandwidth_taken, by_correction, by_rate, by_tuner, by_tuning_lem, gain_taken, index_taken, reload_taken, tuner_sound}
use borrow.Author.Rules.{rules}
use Rattle.commands.proofs.call_over.Goals as goal

pub returns-in-Frequency : goal.returns-in-Frequency
returns-in-Frequency c =
    let a = c.args in
    let pre = c.requires in
    let driver = a.driver.now in
    let tuner = a.tuner.now in
    let drivers : Bytes driver = λ i. omega (arith, c.slice_known-1.given i) in
    let tuners : Bytes tuner = λ i. omega (arith, c.slice_known-2-1.given i) in
    by_tuning_lem a.table.now a.replies.now a.outcomes.now driver tuner a.room.now drivers
    (tuner_sound tuner tuners (and_right (driver_of driver).ok (tuner_of tuner).ok pre.2)) pre.2 c.in-Frequency.hz (Some a.command) (ap Some c.in-Frequency.is) a.given.now pre.1 _
    _ _ c.set_frequency.ensures

pub returns-in-Rate : goal.returns-in-Rate
returns-in-Rate c =
    let a = c.args in
    let pre = c.requires in
    let driver = a.driver.now in
    let tuner = a.tuner.now in
    let drivers : Bytes driver = λ i. omega (arith, c.slice_known-1.given i) in
    let tuners : Bytes tuner = λ i. omega (arith, c.slice_known-2-1.given i) in
    by_rate a.table.now a.replies.now a.outcomes.now driver tuner a.room.now drivers
    (tuner_sound tuner tuners (and_right (driver_of driver).ok (tuner_of tuner).ok pre.2)) pre.2 c.in-Rate.hz (Some a.command) (ap Some c.in-Rate.is) a.before.now
    a.given.now pre.0 pre.1 _ _ _ _ c.set_sample_rate.ensures _ c.still.ensures

pub returns-in-GainDb : goal.returns-in-GainDb
returns-in-GainDb c =
    let a = c.args in
    let pre = c.requires in
    let driver = a.driver.now in
    let tuner = a.tuner.now in
    let drivers : Bytes driver = λ i. omega (arith, c.slice_known-1.given i) in
    let tuners : Bytes tuner = λ i. omega (arith, c.slice_known-2-1.given i) in
    by_tuner a.table.now a.replies.now a.outcomes.now driver tuner a.room.now drivers
    (tuner_sound tuner tuners (and_right (driver_of driver).ok (tuner_of tuner).ok pre.2)) pre.2 (Some (GainDb c.in-GainDb.db)) (order.Order.Gain c.in-GainDb.db) refl refl
    (gain_taken c.in-GainDb.db (tuner_of tuner).tuner) refl (Some a.command) (ap Some c.in-GainDb.is) a.given.now pre.1 _ _ _ c.set_gain.ensures _
    c.still-in-GainDb.ensures

pub returns-in-GainIndex : goal.returns-in-GainIndex
returns-in-GainIndex c =
    let a = c.args in
    let pre = c.requires in
    let driver = a.driver.now in
    let tuner = a.tuner.now in
    let drivers : Bytes driver = λ i. omega (arith, c.slice_known-1.given i) in
    let tuners : Bytes tuner = λ i. omega (arith, c.slice_known-2-1.given i) in
    by_tuner a.table.now a.replies.now a.outcomes.now driver tuner a.room.now drivers
    (tuner_sound tuner tuners (and_right (driver_of driver).ok (tuner_of tuner).ok pre.2)) pre.2 (Some (GainIndex c.in-GainIndex.k)) (order.Order.GainIndex c.in-GainIndex.k)
    refl refl (index_taken c.in-GainIndex.k (tuner_of tuner).tuner) refl (Some a.command) (ap Some c.in-GainIndex.is) a.given.now pre.1 _ _ _
    c.set_gain_by_index.ensures _ c.still-in-GainIndex.ensures

pub returns-in-Bandwidth : goal.returns-in-Bandwidth
returns-in-Bandwidth c =
    let a = c.args in
    let pre = c.requires in
    let driver = a.driver.now in
    let tuner = a.tuner.now in
    let drivers : Bytes driver = λ i. omega (arith, c.slice_known-1.given i) in
    let tuners : Bytes tuner = λ i. omega (arith, c.slice_known-2-1.given i) in
    by_tuner a.table.now a.replies.now a.outcomes.now driver tuner a.room.now drivers
    (tuner_sound tuner tuners (and_right (driver_of driver).ok (tuner_of tuner).ok pre.2)) pre.2 (Some (Bandwidth c.in-Bandwidth.hz)) (order.Order.Bandwidth c.in-Bandwidth.hz)
    refl refl (bandwidth_taken c.in-Bandwidth.hz (tuner_of tuner).tuner) refl (Some a.command) (ap Some c.in-Bandwidth.is) a.given.now pre.1 _ _ _
    c.set_bandwidth.ensures _ c.still-in-Bandwidth.ensures

pub returns-in-Correction : goal.returns-in-Correction
returns-in-Correction c =
    let a = c.args in
    let pre = c.requires in
    let driver = a.driver.now in
    let tuner = a.tuner.now in
    let drivers : Bytes driver = λ i. omega (arith, c.slice_known-1.given i) in
    let tuners : Bytes tuner = λ i. omega (arith, c.slice_known-2-1.given i) in
    let f : SFits w32 c.in-Correction.ppm = search rules in
    by_correction a.table.now a.replies.now a.outcomes.now driver tuner a.room.now drivers
    (tuner_sound tuner tuners (and_right (driver_of driver).ok (tuner_of tuner).ok pre.2)) pre.2 c.in-Correction.ppm (Some a.command) (ap Some c.in-Correction.is) _ _ _
    (c.set_ppm.ensures ∙ ap (λ (z : ℤ). correct_over z tuner driver) (to_z-of_z {w = w32} {z = c.in-Correction.ppm} f)) _ c.still-in-Correction.ensures

pub returns-in-Reload : goal.returns-in-Reload
returns-in-Reload c =
    let a = c.args in
    let pre = c.requires in
    let driver = a.driver.now in
    let tuner = a.tuner.now in
    let drivers : Bytes driver = λ i. omega (arith, c.slice_known-1.given i) in
    let tuners : Bytes tuner = λ i. omega (arith, c.slice_known-2-1.given i) in
    by_tuner a.table.now a.replies.now a.outcomes.now driver tuner a.room.now drivers
    (tuner_sound tuner tuners (and_right (driver_of driver).ok (tuner_of tuner).ok pre.2)) pre.2 (Some Reload) order.Order.Reload refl refl
    (reload_taken (tuner_of tuner).tuner) refl (Some a.command) (ap Some c.in-Reload.is) a.given.now pre.1 _ _ _ c.reload.ensures _
    c.still-in-Reload.ensures

-- `transcript::all_fit` meets its contract. The loop's invariant: whether the entries from i on fit says it for all.
-- Assumes nothing.
use mathlib.Core.Path.{◌∙◌}
use native.Mathlib.Omega.{arith}
use Rattle.transcript.proofs.Reading.{fit_on, fit_stop, fit_end}
use Rattle.transcript.proofs.all_fit.Goals as goal

pub returns-then-not-entry_fits : goal.returns-then-not-entry_fits
returns-then-not-entry_fits c =
    let entry_fits_lem = c.entry_fits in
    let l = c.loop-i in
    let a = c.args in
    fit_stop a.s.now a.at l.i a.count entry_fits_lem.result (omega arith) entry_fits_lem.ensures c.if-not-entry_fits.true
    ∙ l.invariant

pub loop-i-preserved : goal.loop-i-preserved
loop-i-preserved c =
    let entry_fits_lem = c.entry_fits in
    let l = c.loop-i in
    let a = c.args in
    fit_on a.s.now a.at l.i a.count entry_fits_lem.result (omega arith) entry_fits_lem.ensures c.if-not-entry_fits.false
    ∙ l.invariant

pub returns : goal.returns
returns c =
    let l = c.loop-i in
    let a = c.args in
    fit_end a.s.now a.at l.i a.count (omega arith) ∙ l.invariant

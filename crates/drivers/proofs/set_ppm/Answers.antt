-- `drivers::set_ppm` meets its contract: bytes of which either are no record, or the call on those that they are. Assumes nothing.
use Rattle.std.proofs.Common.{ap, ◌∙◌, ℤ, to_z-of_z}
use Rattle.driver.specs.Calls.{correction_call}
use Rattle.drivers.proofs.Passed.{corrected_back, lengths, no_records}
use Rattle.drivers.proofs.set_ppm.Goals as goal

pub returns-in_default : goal.returns-in_default
returns-in_default c =
    let a = c.args in
    no_records a.ppm a.tuner.now a.driver.now c.in_default.ensures _ c.refuse.ensures

pub hand-requires : goal.hand-requires
hand-requires c =
    let a = c.args in
    lengths a.ppm a.tuner.now a.driver.now _ _ c.in-Some.ensures.1 c.in-Some.ensures.0

pub returns : goal.returns
returns c =
    let a = c.args in
    corrected_back a.ppm a.tuner.now a.driver.now _ _ c.in-Some.ensures.1 c.in-Some.ensures.0 _ _ _
    (c.corrected-told.ensures ∙ ap (λ (z : ℤ). correction_call z c.in-Some.t c.in-Some.d) (to_z-of_z c.ranges.ppm)) _ _ _
    c.hand.ensures.0 c.hand.ensures.2 c.hand.ensures.1

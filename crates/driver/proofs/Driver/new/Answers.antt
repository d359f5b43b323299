-- `Driver::new` meets its contract: 1 for the board, 1 for the nominal, 4, or made. Assumes nothing.
use mathlib.Core.Path.{ap, ◌∙◌}
use mir.Facts.{to_z-of_z}
use Rattle.refusals.specs.declared.Answer.TheVariants.{Done}
use Rattle.driver.specs.Record.{driver, made, xtal_by}
use Rattle.driver.proofs.Making.{new_bad, new_good, new_high, new_low, new_no_board}
use Rattle.driver.proofs.Driver.new.Goals as goal

pub returns-in_default : goal.returns-in_default
returns-in_default c =
    let args = c.args in
    c.nothing.ensures
    ∙ new_no_board args.board args.nominal args.ppm args.frequency args.rate _ c.board_of.ensures
    c.in_default.is

pub returns-then-nominal-lt1 : goal.returns-then-nominal-lt1
returns-then-nominal-lt1 c =
    let args = c.args in
    c.nothing-then-nominal-lt1.ensures
    ∙ new_low args.board args.nominal args.ppm args.frequency args.rate _ c.board_of.ensures _ c.in-Some.is
    c.if-nominal-lt1.true

pub returns-then-nominal-gt4294967295 : goal.returns-then-nominal-gt4294967295
returns-then-nominal-gt4294967295 c =
    let args = c.args in
    c.nothing-then-nominal-gt4294967295.ensures
    ∙ new_high args.board args.nominal args.ppm args.frequency args.rate _ c.board_of.ensures _ c.in-Some.is
    c.if-nominal-lt1.false c.if-nominal-gt4294967295.true

pub returns-then-xtal_by-lt1 : goal.returns-then-xtal_by-lt1
returns-then-xtal_by-lt1 c =
    let args = c.args in
    c.nothing-then-xtal_by-lt1.ensures
    ∙ new_bad args.board args.nominal args.ppm args.frequency args.rate _ c.board_of.ensures _ c.in-Some.is
    c.if-nominal-lt1.false c.if-nominal-gt4294967295.false _ (c.xtal_by.ensures ∙ ap (xtal_by args.nominal) (to_z-of_z c.ranges.ppm)) c.if-xtal_by-lt1.true

pub returns : goal.returns
returns c =
    let args = c.args in
    let fits = c.ranges in
    (λ i. made (Done 0) (driver c.in-Some.named args.nominal (to_z-of_z fits.ppm i) args.frequency args.rate 0))
    ∙ new_good args.board args.nominal args.ppm args.frequency args.rate _ c.board_of.ensures _ c.in-Some.is
    c.if-nominal-lt1.false c.if-nominal-gt4294967295.false _ (c.xtal_by.ensures ∙ ap (xtal_by args.nominal) (to_z-of_z fits.ppm)) c.if-xtal_by-lt1.false

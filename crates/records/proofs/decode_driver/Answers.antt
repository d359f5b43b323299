-- `records::decode_driver` meets its contract: it ends in one of three ways.
-- Assumes nothing.
use Rattle.records.proofs.Driven.{driver_tested, driver_short, driver_bad, driver_good}
use borrow.Author.Rules.{rules}
use Rattle.records.proofs.decode_driver.Goals as goal

pub returns-then-b-ne-DRIVER : goal.returns-then-b-ne-DRIVER
returns-then-b-ne-DRIVER c =
    driver_short c.args.b.now c.if-b-ne-DRIVER.true

pub returns-then-not-get-xtal_by : goal.returns-then-not-get-xtal_by
returns-then-not-get-xtal_by c =
    let get = c.get in
    let driver-in = c.driver_in-d in
    let if1 = c.if-b-ne-DRIVER in
    let args = c.args in
    driver_bad args.b.now _ if1.false
    (driver_tested args.b.now _ _ _ get.ensures.0 driver-in.ensures (search rules) c.xtal_by.ensures) (c.if-not-get-xtal_by.true)

pub returns : goal.returns
returns c =
    let get = c.get in
    let driver-in = c.driver_in-d in
    let if1 = c.if-b-ne-DRIVER in
    let args = c.args in
    driver_good args.b.now _ _ if1.false
    (driver_tested args.b.now _ _ _ get.ensures.0 driver-in.ensures (search rules) c.xtal_by.ensures) (c.if-not-get-xtal_by.false)
    driver-in.ensures

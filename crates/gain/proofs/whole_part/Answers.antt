-- `gain::whole_part` meets its contract: one law for each range of the exponent's field.
-- Assumes nothing.
use borrow.Author.Rules.{rules}
use Rattle.gain.proofs.Truncation.{is_none, is_fewer, is_more, is_past}
use Rattle.gain.proofs.whole_part.Goals as goal

pub returns-then-field-lt127 : goal.returns-then-field-lt127
returns-then-field-lt127 c = is_none c.args.field c.args.digits (search rules) (search rules)

pub returns-then-field-lt151 : goal.returns-then-field-lt151
returns-then-field-lt151 c =
    let args = c.args in
    is_fewer args.field args.digits (search rules) (search rules) (search rules)

pub returns-then-field-lt158 : goal.returns-then-field-lt158
returns-then-field-lt158 c =
    let args = c.args in
    is_more args.field args.digits (search rules) (search rules) (search rules)

pub returns : goal.returns
returns c =
    let args = c.args in
    is_past args.field args.digits (search rules)

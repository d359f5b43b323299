-- `answers::gain_table` meets its contract: what is lent is the definition's table, behind its answer's number.
-- Assumes nothing.
use Prim.Native.Nat.{ℕ}
use mathlib.Core.Path.{ap, ◌∙◌}
use Rattle.refusals.specs.Answers.{number_of}
use Rattle.r82xx.specs.declared.Table.{Table}
use Rattle.answers.specs.Lent.{word_bytes}
use Rattle.refusals.specs.Lent.{lent_to}
use Rattle.answers.proofs.Giving.{table_given}
use Rattle.answers.proofs.gain_table.Goals as goal

pub returns : goal.returns
returns c =
    let get-gain-table = c.get_gain_table-table in
    let r = get-gain-table.result in
    let a = c.args in
    c.lend_words.ensures
    ∙ ap (λ (n : ℕ). lent_to n 0 (word_bytes r.steps) a.out.now) c.number_of.ensures
    ∙ ap (λ (t : Table). lent_to (number_of t.answer) 0 (word_bytes t.steps) a.out.now) get-gain-table.ensures
    ∙ table_given a.tuner a.out.now

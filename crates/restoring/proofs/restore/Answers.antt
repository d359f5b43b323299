-- `restoring::restore` meets its contract: refused by the walk, or the list that is laid out is lent.
-- Assumes nothing.
use mathlib.Core.Path.{◌≡◌, ◌∙◌}
use native.Mathlib.Omega.{arith}
use borrow.Author.Rules.{rules}
use lib.ListN.{length}
use Rattle.sections.specs.Chain.{chain_entries}
use Rattle.restoring.proofs.Settled.{all_good, fourteen, lends, refuses}
use Rattle.restoring.proofs.restore.Goals as goal

pub returns-then-refusal-ne0 : goal.returns-then-refusal-ne0
returns-then-refusal-ne0 c =
    let walked = c.walked-refusal in
    let a = c.args in
    refuses a.sections.now a.address a.out.now walked.result walked.ensures.0 c.if-refusal-ne0.true

pub write_list-size-requires : goal.write_list-size-requires
write_list-size-requires c =
    let w = c.walked-refusal in
    let a = c.args in
    let sections = a.sections.now in
    let good = all_good sections w.result w.ensures.0 c.if-refusal-ne0.false in
    let few = fourteen a.address (chain_entries sections) w.new.known (omega arith) (w.ensures.1 good) in
    omega (arith, few)

pub slice_bounds-lend-end : goal.slice_bounds-lend-end
slice_bounds-lend-end c =
    let write-list = c.write_list-size in
    let w = c.walked-refusal in
    let a = c.args in
    let sections = a.sections.now in
    let good = all_good sections w.result w.ensures.0 c.if-refusal-ne0.false in
    let few = fourteen a.address (chain_entries sections) w.new.known (omega arith) (w.ensures.1 good) in
    let long : length write-list.new.room ≡ 232 = search rules in
    omega (arith, few, long, write-list.ensures.0)

pub returns : goal.returns
returns c =
    let write-list = c.write_list-size in
    let w = c.walked-refusal in
    let a = c.args in
    let sections = a.sections.now in
    let good = all_good sections w.result w.ensures.0 c.if-refusal-ne0.false in
    c.lend.ensures
    ∙ lends sections a.address good w.new.known (omega arith) (w.ensures.1 good) _ _ a.out.now
    write-list.result (search rules) write-list.ensures.0 write-list.ensures.1

-- `drivers::apply_input_path` meets its contract: it leaves what its row leaves.
-- Assumes nothing.
use Rattle.std.proofs.Common.{rules, ◌∙◌}
use Rattle.board.specs.Numbers.{path_of}
use Rattle.driver.specs.Calls.{board_result, board_row}
use Rattle.drivers.proofs.Passed.{board_path_argued}
use Rattle.drivers.proofs.apply_input_path.Goals as goal

pub returns : goal.returns
unfolding board_result
returns c =
    let a = c.args in
    c.stepped.ensures (board_row (path_of a.path) a.replies.now) a.outcomes.now (λ t. c.path_refusal.ensures ∙ board_path_argued _ t a.path)
    (λ z t lent r left post. search rules)

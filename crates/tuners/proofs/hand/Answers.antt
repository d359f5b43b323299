-- `tuners::hand` meets its contract: what is stored is the record's bytes.
-- Assumes nothing.
use Rattle.std.proofs.Common.{ℕ, List, ◌∙◌, ap, cond}
use Rattle.std.proofs.lemmas.List.Edits.{sets}
use Rattle.tuners.specs.Over.{is_written, next_of}
use Rattle.tuners.proofs.hand.Goals as goal

pub returns : goal.returns
unfolding next_of
returns c =
    let a = c.args in
    let kept = λ (l : List ℕ). cond (is_written a.told.answer a.told.count) (sets a.next.now 0 l) a.next.now in
    (c.numbers.ensures, c.store.ensures ∙ ap kept c.tuner_image.ensures)

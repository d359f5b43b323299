-- `drivers::hand` meets its contract: what is stored are the records' bytes.
-- Assumes nothing.
use Rattle.std.proofs.Common.{ℕ, List, ◌∙◌, ap, cond}
use Rattle.std.proofs.lemmas.List.Edits.{sets}
use Rattle.tuners.specs.Over.{is_written, next_of}
use Rattle.drivers.proofs.hand.Goals as goal

pub returns : goal.returns
unfolding next_of
returns c =
    let a = c.args in
    let kept = λ (l k : List ℕ). cond (is_written a.answer a.count) (sets k 0 l) k in (
      c.numbers.ensures,
      c.store.ensures ∙ ap (λ (l : List ℕ). kept l a.driver.now) c.driver_image.ensures,
      c.store-2.ensures ∙ ap (λ (l : List ℕ). kept l a.tuner.now) c.tuner_image.ensures,
    )

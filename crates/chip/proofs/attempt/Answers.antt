-- `chip::attempt` meets its contract: a copy and a fill, each over a part of a list. Assumes nothing.
use Rattle.std.proofs.Common.{◌≡◌, ℕ, ◌+◌, ◌-◌, ◌≤◌, not, ap, ◌∙◌, replicate, drop, get_or, length, arith, length-take-le, length-drop}
use Rattle.std.proofs.lemmas.List.{length-replicate}
use Rattle.chip.proofs.Attempted.{laid}
use Rattle.chip.proofs.attempt.Goals as goal

pub returns : goal.returns
returns c =
    let n = c.args.n in
    let ok = c.args.ok in
    let first = get_or c.args.bytes 0 0 - 5 in
    let k : ℕ = first + n - 1 - first in
    let many : n - 1 ≡ k = omega arith in
    let part = drop first c.args.doubtful.now in
    let fits : k ≤ length part = omega (arith, length-drop first c.args.doubtful.now) in
    let there : n - 1 ≤ length (drop 1 c.args.bytes) = omega (arith, length-drop 1 c.args.bytes) in (
      laid _ _ _ _ _ c.copy_from_slice.ensures.after (length-take-le (n - 1) (drop 1 c.args.bytes) there ∙ many) (omega arith),
      laid _ _ (replicate (n - 1) (not ok)) _ _ (c.fill.ensures.after (λ y e. e) ∙ ap (λ (m : ℕ). replicate m (not ok)) (length-take-le k part fits ∙ omega arith)) (length-replicate (n - 1) (not ok) ∙ many) (omega arith),
    )

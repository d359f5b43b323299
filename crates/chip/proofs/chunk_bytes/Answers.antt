-- `chip::chunk_bytes` meets its contract. Each return is one law of the definition, with what the calls before it ensure. Assumes nothing.
use Rattle.std.proofs.Common.{◌≡◌, ◌+◌, ◌-◌, ◌∙◌, arith}
use Rattle.chip.specs.Steps.{chunk_bytes}
use Rattle.chip.proofs.chunk_bytes.Goals as goal

pub returns : goal.returns
unfolding chunk_bytes
returns c =
    let args = c.args in
    let e : args.at + args.size - args.at ≡ args.size = omega arith in c.copy.ensures ∙ rw e

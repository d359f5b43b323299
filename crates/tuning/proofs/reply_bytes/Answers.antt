-- `tuning::reply_bytes` meets its contract. Each return is one law of the definition, with what the calls before it ensure. Assumes nothing.
use mathlib.Core.Path.{◌≡◌, ◌∙◌}
use native.Mathlib.Omega.{arith}
use Prim.Native.Nat.{◌+◌, ◌-◌}
use Rattle.tuning.specs.Tries.{reply_bytes}
use Rattle.tuning.proofs.reply_bytes.Goals as goal

pub returns : goal.returns
unfolding reply_bytes
returns c =
    let args = c.args in
    let e : args.at + args.n - args.at ≡ args.n = omega arith in c.copy.ensures ∙ rw e

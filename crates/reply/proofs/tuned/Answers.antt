-- `replies::tuned` meets its contract: a flag is told as 1 or 0. Assumes nothing.
use Prim.Native.Nat.{ℕ}
use mathlib.Core.Path.{◌≡◌, refl, ap}
use mathlib.Core.Bool.{Bool, true, false, cond}
use mir.Val.{bool_byte}
use Rattle.reply.specs.declared.Reply.{Reply}
use Rattle.reply.specs.declared.TuneReply.{TuneReply}
use Rattle.reply.proofs.tuned.Goals as goal

told : (b : Bool) → bool_byte b ≡ cond b 1 0
told true = refl
told false = refl

abbrev flagged : (r : Reply) (tries : ℕ) → ℕ → TuneReply
flagged r tries locked =
    record { value = r.value; index = r.index; refusal = r.refusal; count = r.count; tries = tries; locked = locked }

pub returns : goal.returns
returns c = ap (flagged c.args.r c.args.tries) (told c.args.locked)

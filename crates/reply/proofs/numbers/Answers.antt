-- `replies::numbers` meets its contract: each case of the answer is its definition's. Assumes nothing.
use Prim.Native.Nat.{ℕ, ◌%◌}
use mathlib.Core.Path.{◌≡◌, sym, ap, ◌∙◌}
use Rattle.refusals.specs.declared.Answer.{Answer}
use Rattle.refusals.specs.Answers.{index_of, number_of, value_of}
use Rattle.reply.specs.declared.Reply.{Reply}
use Rattle.reply.specs.Replies.{reply_of}
use Rattle.reply.proofs.numbers.Goals as goal

abbrev counted : Answer → ℕ → Reply
counted a low = record { value = value_of a; index = index_of a; refusal = number_of a; count = low }

-- the numbers of an answer as it was found to be, and the count as it was cut
told : (a b : Answer) (n low : ℕ) → a ≡ b → low ≡ n % 4294967296 → counted b low ≡ reply_of a n
told a b n low e l = ap (counted b) l ∙ sym (ap (λ (x : Answer). reply_of x n) e)

pub returns-in-Done : goal.returns-in-Done
returns-in-Done c =
    let args = c.args in
    told args.answer _ args.count _ c.in-Done.is c.low_bits-low.ensures

pub returns-in-Refused : goal.returns-in-Refused
returns-in-Refused c =
    let args = c.args in
    told args.answer _ args.count _ c.in-Refused.is c.low_bits-low.ensures

pub returns-in-Stopped : goal.returns-in-Stopped
returns-in-Stopped c =
    let args = c.args in
    told args.answer _ args.count _ c.in-Stopped.is c.low_bits-low.ensures

-- What is told of an answer is told of the definition that it equals. One law for each shape of what is lent.
-- Assumes nothing.
use Prim.Native.Nat.{ℕ}
use mathlib.Core.Path.{◌≡◌, ap, ◌∙◌}
use mathlib.Core.List.{List}
use Rattle.refusals.specs.Lent.{Given, given}
use Rattle.refusals.specs.declared.Answer.{Answer}
use Rattle.chip.specs.Calls.{Called, called}
use Rattle.reply.specs.declared.Reply.{Reply}
use Rattle.reply.specs.Replies.{reply_of}
use Rattle.pasetone.specs.Results.{out_result, out_result_of, room_result, room_result_of}

pub answer_told : (r : Reply) (a b : Answer) → r ≡ reply_of a 0 → a ≡ b → r ≡ reply_of b 0
answer_told r a b h e = h ∙ ap (λ (x : Answer). reply_of x 0) e

pub lent_told : (r : Reply) (a : Answer) (out : List ℕ) (g : Given) → r ≡ reply_of a 0 → given a out ≡ g → out_result r out ≡ out_result_of g
lent_told r a out g h e = ap (λ (x : Reply). out_result x out) h ∙ ap out_result_of e

pub shown_told : (r : Reply) (a : Answer) (n : ℕ) (room : List ℕ) (c : Called (Unit {0})) → r ≡ reply_of a n → called tt room n a ≡ c → room_result r room ≡ room_result_of c
shown_told r a n room c h e = ap (λ (x : Reply). room_result x room) h ∙ ap room_result_of e

-- What a host gets of an exported call: its answer as numbers, beside the lent bytes that the call leaves. Document 01, "What each statement has to
-- decide": "Every public function states its result, the record and all lent bytes afterwards for every input".
-- Assumes nothing.
use Rattle.std.specs.Prelude.{ℕ, Bool, not, List, eqb}
use Rattle.refusals.specs.Lent.{Given}
use Rattle.chip.specs.Calls.{Called}
use Rattle.reply.specs.declared.Reply.{Reply}
use Rattle.reply.specs.Replies.{call_reply, reply_of}

-- an answer without steps, and the slice that was lent for its bytes
pub record OutResult : Type 0 where
  pub answer : Reply
  pub out : List ℕ

abbrev pub out_result : Reply → List ℕ → OutResult
out_result answer out = record { answer = answer; out = out }

abbrev pub out_result_of : Given → OutResult
out_result_of g = out_result (reply_of g.answer 0) g.out

-- steps that touch no record, and the room
pub record RoomResult : Type 0 where
  pub answer : Reply
  pub room : List ℕ

abbrev pub room_result : Reply → List ℕ → RoomResult
room_result answer room = record { answer = answer; room = room }

abbrev pub room_result_of : Called (Unit {0}) → RoomResult
room_result_of c = room_result (call_reply c) c.room

-- "A number that stands for yes or no is a u8, 0 or anything else": docs/DECISIONS.md
abbrev pub yes : ℕ → Bool
yes n = not (eqb n 0)

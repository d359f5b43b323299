-- A command over both records' bytes, where they lie, and a call that feeds a chunk. Document 02, #105; docs/DECISIONS.md, "#105".
-- Assumes nothing.
use Rattle.std.specs.Prelude.{ℕ, ◌&&◌, cond, List, [], eqb, length, Option}
use Rattle.std.specs.Option.{is_none}
use Rattle.refusals.specs.declared.Answer.TheVariants.{Done, Refused}
use Rattle.refusals.specs.declared.Answer.{Answer}
use Rattle.refusals.specs.Table.{SETUP, COMMAND}
use Rattle.chip.specs.Entries.{no_tries}
use Rattle.drivers.specs.Drivers.{Hops, hops_by, rates_made, rates_refused}
use Rattle.records.specs.Drivers.{driver_of}
use Rattle.records.specs.Tuners.{tuner_of}
use Rattle.reply.specs.declared.TuneReply.{TuneReply}
use Rattle.reply.specs.Replies.{reply_of, tuned_of}
use Rattle.stream.specs.declared.Command.{Command}
use Rattle.stream.specs.Commands.{command_of}
use Rattle.stream.specs.Pending.{gathered, is_stream, pending_of, stream_bytes, used_by}
use Rattle.commands.specs.declared.FeedReply.{FeedReply}
use Rattle.commands.specs.Rows.{command_result, command_lock_tries}

-- refused before any step: both records' bytes and the room stay
abbrev pub not_run : ℕ → List ℕ → List ℕ → List ℕ → Hops
not_run number d t room = hops_by (rates_refused number room d t) no_tries

-- "new 14 command ..; it stands first", then 1 where either record's bytes are not valid, then the call's own
unfoldable pub run_over : Option Command → List ℕ → List ℕ → List ℕ → List ℕ → List ℕ → List ℕ → Hops
run_over c table rs os d t room =
    cond (is_none c) (not_run COMMAND d t room)
    (cond ((driver_of d).ok && (tuner_of t).ok)
    (hops_by (rates_made (command_result c table rs os (tuner_of t).tuner (driver_of d).driver room) d t)
    (command_lock_tries c rs os (tuner_of t).tuner (driver_of d).driver room))
    (not_run SETUP d t room))

-- ---- a call

-- what it leaves: its answer, and the bytes of the stream, of both records and of the room, where they lie
pub record Feeds : Type 0 where
  pub answer : FeedReply
  pub stream : List ℕ
  pub driver : List ℕ
  pub tuner : List ℕ
  pub room : List ℕ

abbrev pub feeds : FeedReply → List ℕ → List ℕ → List ℕ → List ℕ → Feeds
feeds answer stream driver tuner room = record { answer = answer; stream = stream; driver = driver; tuner = tuner; room = room }

-- the command's own reply, beside how many bytes of the chunk were used, how many commands were completed, how many bytes wait
abbrev pub fed_of : TuneReply → ℕ → ℕ → ℕ → FeedReply
fed_of r used completed pending =
    record { value = r.value; index = r.index; used = used; refusal = r.refusal; count = r.count; tries = r.tries; locked = r.locked; completed = completed; pending = pending }

-- without a command there is nothing to tell but a refusal's number, 0 for none
abbrev pub no_command : Answer → TuneReply
no_command a = tuned_of (reply_of a 0) no_tries

-- a command that ran: nothing waits
abbrev pub completed_by : ℕ → Hops → Feeds
completed_by used h = feeds (fed_of h.answer used 1 0) (stream_bytes []) h.driver h.tuner h.room

-- bytes that wait for the rest of their command: nothing else is looked at
abbrev pub waiting_by : ℕ → List ℕ → List ℕ → List ℕ → List ℕ → Feeds
waiting_by used bytes d t room = feeds (fed_of (no_command (Done 0)) used 0 (length bytes)) (stream_bytes bytes) d t room

-- with the bytes that there are now of the command that is waited for: nine are one, which runs
abbrev pub gotten_over : ℕ → List ℕ → List ℕ → List ℕ → List ℕ → List ℕ → List ℕ → List ℕ → Feeds
gotten_over used bytes table rs os d t room =
    cond (eqb (length bytes) 9) (completed_by used (run_over (command_of bytes) table rs os d t room)) (waiting_by used bytes d t room)

-- bytes that are not those of a stream are refused 1, and nothing is used
unfoldable pub feed_over : List ℕ → List ℕ → List ℕ → List ℕ → List ℕ → List ℕ → List ℕ → List ℕ → Feeds
feed_over table chunk rs os stream d t room =
    cond (is_stream stream)
    (gotten_over (used_by (pending_of stream) chunk) (gathered (pending_of stream) chunk) table rs os d t room)
    (feeds (fed_of (no_command (Refused SETUP)) 0 0 0) stream d t room)

-- "An incomplete command at the end is reported with its length, 1 to 8": 0 where nothing waits
unfoldable pub pending_answer : List ℕ → Answer
pending_answer stream = cond (is_stream stream) (Done (length (pending_of stream))) (Refused SETUP)

-- A host's serial line: the records that its commands are run on, and its loop over single calls. Document 02, #105: "Feeding the stream in any cuts gives the
-- same transcripts, answers and end record as feeding it whole, given the same script and room per command."
-- Assumes nothing.
use Rattle.std.specs.Prelude.{ℕ, zero, suc, ◌+◌, cond, List, [], ◌∷◌, ◌++◌, eqb, drop, length}
use Rattle.drivers.specs.Drivers.{Hops}
use Rattle.reply.specs.declared.TuneReply.{TuneReply}
use Rattle.stream.specs.Commands.{command_of}
use Rattle.stream.specs.Feeding.{Fed, Ran}
use Rattle.stream.specs.Pending.{stream_bytes}
use Rattle.commands.specs.declared.FeedReply.{FeedReply}
use Rattle.commands.specs.Over.{Feeds, feed_over, run_over}

-- script and room of a command: "given the same script and room per command"
pub record Lends : Type 0 where
  pub outcomes : List ℕ
  pub replies : List ℕ
  pub room : List ℕ

-- both records' bytes
pub record Records : Type 0 where
  pub driver : List ℕ
  pub tuner : List ℕ

-- what a command tells: its answer, and the room, in which its transcript stands
pub record CommandResult : Type 0 where
  pub answer : TuneReply
  pub room : List ℕ

abbrev pub ran_by : Hops → Ran Records CommandResult
ran_by h = record { state = record { driver = h.driver; tuner = h.tuner }; told = record { answer = h.answer; room = h.room } }

-- one command, by its number
unfoldable pub exec_by : List ℕ → (ℕ → Lends) → ℕ → List ℕ → Records → Ran Records CommandResult
exec_by table lends n nine s =
    ran_by (run_over (command_of nine) table (lends n).replies (lends n).outcomes s.driver s.tuner (lends n).room)

-- ---- what a host holds, and its loop

pub record Line : Type 0 where
  pub stream : List ℕ
  pub records : Records
  pub number : ℕ
  pub told : List CommandResult

abbrev pub line_of : Fed Records CommandResult → Line
line_of w = record { stream = stream_bytes w.pending; records = w.state; number = w.number; told = w.told }

-- of a call's reply what the command told, where one was completed
abbrev pub own_reply : FeedReply → TuneReply
own_reply r = record { value = r.value; index = r.index; refusal = r.refusal; count = r.count; tries = r.tries; locked = r.locked }

abbrev pub after_call : Feeds → Line → Line
after_call f l =
    record {
      stream = f.stream;
      records = record { driver = f.driver; tuner = f.tuner };
      number = l.number + f.answer.completed;
      told = cond (eqb f.answer.completed 0) l.told (l.told ++ (record { answer = own_reply f.answer; room = f.room } ∷ []));
    }

module _ (table : List ℕ) (lends : ℕ → Lends) where
  -- the exported call, with the script and the room of the command that is waited for
  abbrev pub feeds_of : List ℕ → Line → Feeds
  feeds_of chunk l =
      feed_over table chunk (lends l.number).replies (lends l.number).outcomes l.stream l.records.driver l.records.tuner (lends l.number).room

  -- called again with what is left of the chunk, as long as something is
  unfoldable pub host_calls : ℕ → List ℕ → Line → Line
  host_calls zero chunk l = l
  host_calls (suc turns) chunk l =
      cond (eqb (length chunk) 0) l (host_calls turns (drop (feeds_of chunk l).answer.used chunk) (after_call (feeds_of chunk l) l))

  -- "chopped anywhere": chunk by chunk
  unfoldable pub host_feeds : List (List ℕ) → Line → Line
  host_feeds [] l = l
  host_feeds (c ∷ cs) l = host_feeds cs (host_calls (length c) c l)

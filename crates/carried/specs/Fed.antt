-- A call of `pasetone_feed` (document 02, #105) on the bytes that a host holds. It changes the tuner's bytes where they lie, so what the host goes on with is
-- what they hold then; what it reads is the section of the command that the call completed, none where it completed none.
-- Assumes nothing.
use Rattle.std.specs.Prelude.{ℕ, ◌≡◌, true, List, eqb, Float, ℤ, length, Option, Some}
use Rattle.transcript.specs.declared.Entry.{Entry}
use Rattle.reply.specs.declared.Reply.{Reply}
use Rattle.commands.specs.declared.FeedReply.{FeedReply}
use Rattle.commands.specs.Over.{Feeds}
use Rattle.r82xx.specs.Orders.Order.{Bandwidth, Gain, GainIndex, Reload, Tune}
use Rattle.stream.specs.declared.Command.{Command}
use Rattle.stream.specs.declared.Command.TheVariants as command
use Rattle.stream.specs.Pending.{gathered, is_stream, pending_of}
use Rattle.carried.specs.Exported.{Exported, read_by}
use Rattle.carried.specs.Exported.Exported.{Own, Rate, Correct}

-- the command's own reply, without the tries, and without what is told of the stream
abbrev pub plain_fed : FeedReply → Reply
plain_fed r = record { value = r.value; index = r.index; refusal = r.refusal; count = r.count }

abbrev pub fed_entries : Feeds → List Entry
fed_entries f = read_by (plain_fed f.answer) f.room

-- a feeding that completes a command: the stream's bytes are valid, and with the chunk's there are nine
pub record Completes (stream chunk : List ℕ) : Type 0 where
  pub valid : is_stream stream ≡ true
  pub whole : eqb (length (gathered (pending_of stream) chunk)) 9 ≡ true

-- the exported call that a command makes, with the board's table, the replies and the driver's bytes d of the feeding; one that is unknown makes none
pub data Makes (table rs d : List ℕ) : Option Command → Exported → Type 0 where
  tunes : (hz : ℕ) → Makes table rs d (Some (command.Frequency hz)) (Own (Tune hz rs))
  rates : (rate : ℕ) → Makes table rs d (Some (command.Rate rate)) (Rate rate table d d)
  gains : (db : Float) → Makes table rs d (Some (command.GainDb db)) (Own (Gain db))
  steps : (k : ℕ) → Makes table rs d (Some (command.GainIndex k)) (Own (GainIndex k))
  narrows : (hz : ℕ) → Makes table rs d (Some (command.Bandwidth hz)) (Own (Bandwidth hz))
  corrects : (ppm : ℤ) → Makes table rs d (Some (command.Correction ppm)) (Correct ppm d)
  reloads : Makes table rs d (Some command.Reload) (Own Reload)

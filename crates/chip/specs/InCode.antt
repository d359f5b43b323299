-- How the code's values stand for a run: the log beside the lent room in place of the list of entries. A reader of the
-- contracts needs this file only to see how `Log`, `Flow` and a room stand for what specs/Steps.antt and specs/Calls.antt say.
-- Assumes nothing.
use Rattle.std.specs.Prelude.{ℕ, ◌+◌, ◌-◌, ◌*◌, ◌%◌, ◌^◌, cond, ◌||◌, List, [], ◌∷◌, ◌++◌, length, replicate}
use Rattle.std.proofs.lemmas.List.Edits.{sets}
use Rattle.transcript.specs.declared.Entry.{Entry}
use Rattle.transcript.specs.Entries.{entry_bytes}
use Rattle.transcript.specs.Sections.{entries_bytes, trailer_bytes}
use Rattle.chip.specs.declared.Chip.{Chip}
use Rattle.chip.specs.declared.Flow.{Flow}
use Rattle.chip.specs.declared.LockTries.{LockTries}
use Rattle.chip.specs.declared.Log.{Log}
use Rattle.chip.specs.Entries.{is_try, lock_bit, no_tries}
use Rattle.chip.specs.Steps.{Line, Trace, goes, line, step}
use Rattle.chip.specs.Steps.Step.{Close}

-- ---- a run's log

-- what the tries have said, one entry later. The code counts in 16 bits, which the 4,096 entries of a room never fill
unfoldable pub with_try : LockTries → Entry → LockTries
with_try s e = cond (is_try e) (record { tries = (s.tries + 1) % 2 ^ 16; locked = s.locked || lock_bit e }) s

-- the same over all entries; proofs/Taken.antt: it is `lock_tries_in` of specs/Calls.antt
unfoldable pub lock_tries_from : LockTries → List Entry → LockTries
lock_tries_from s [] = s
lock_tries_from s (e ∷ es) = lock_tries_from (with_try s e) es

-- the entries' bytes in the lent room, and what the tries have said
pub record Logged : Type 0 where
  pub room : List ℕ
  pub lock : LockTries

abbrev pub logged : List ℕ → LockTries → Logged
logged room lock = record { room = room; lock = lock }

-- one entry more: the `put` of `run` for a room
unfoldable pub in_room : Logged → ℕ → Entry → Logged
in_room l k e = logged (sets l.room (16 * k) (entry_bytes e)) (with_try l.lock e)

-- where a run stands by the code's values; the chip stands beside the log, since a step that leaves it alone is not handed it
abbrev pub on_log : Chip → Log → List ℕ → Line Logged
on_log chip l room = line chip (logged room l.lock) l.count l.progress l.opened

abbrev pub on_room : Flow → List ℕ → Line Logged
on_room f room = on_log f.chip f.log room

-- a trace as the code leaves it: its entries laid out in the room
abbrev pub laid_out : List ℕ → Trace → Line Logged
laid_out room t =
    line t.chip (logged (sets room 0 (entries_bytes t.log)) (lock_tries_from no_tries t.log)) (length t.log) t.progress t.opened

-- the room once the trailer stands after its entries
abbrev pub sealed : List ℕ → ℕ → List ℕ
sealed room count = sets room (16 * count) (trailer_bytes count)

-- the end of a part of a program, which the code runs in a function of its own: where a step has failed, the repeater is closed there already
unfoldable pub closing : {L : Type 0} → (L → ℕ → Entry → L) → List ℕ → Line L → Line L
closing put os w = cond (goes w.progress) w (step put os Close w)

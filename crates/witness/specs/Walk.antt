-- What the walk from the end of sections gathers, newest first: of the chip's registers as crate restoring's walk, of the demodulator's beside it, and how
-- the waiting for the lock ended. What the entries tell stands in crate evidence.
-- Assumes nothing.
use Rattle.std.specs.Prelude.{ℕ, ◌+◌, Bool, true, false, cond, ◌&&◌, ◌||◌, List, [], ◌∷◌, leb, ltb, get_or, None}
use Rattle.transcript.specs.declared.Entry.{Entry}
use Rattle.attempts.specs.Attempts.{names}
use Rattle.chip.specs.Entries.{lock_bit}
use Rattle.restoring.specs.Standing.{Known, known_in, known_of, over}
use Rattle.evidence.specs.Demodulator.{last_at}
use Rattle.evidence.specs.Evidence.{planned, touches, try_of}
use Rattle.witness.specs.declared.Seen.{Seen}
use Rattle.witness.specs.declared.Stage.{Stage}
use Rattle.witness.specs.declared.Stage.TheVariants.{Open, Ended, Counted}
use Rattle.witness.specs.declared.Waiting.{Waiting}

-- ---- the demodulator's registers, in slots 8 to 15

abbrev pub places : List ℕ
places = 0 ∷ 0 ∷ 0 ∷ 0 ∷ 0 ∷ 0 ∷ 0 ∷ 0 ∷ 0x15 ∷ 0x19 ∷ 0x1a ∷ 0x1b ∷ 0x9f ∷ 0xa0 ∷ 0xa1 ∷ 0xa2 ∷ []

abbrev pub place_of : ℕ → ℕ
place_of k = get_or places k 0

unfoldable pub demod_in : List Entry → ℕ → Known
demod_in es k = cond (leb 8 k && ltb k 16) (known_of (last_at es (place_of k))) None

-- ---- the waiting

-- nothing is told yet: Open; how it ended: Ended; how many tries it took too, so that nothing older counts: Counted
abbrev pub is_open : Stage → Bool
is_open Open = true
is_open Ended = false
is_open Counted = false

abbrev pub is_counted : Stage → Bool
is_counted Open = false
is_counted Ended = false
is_counted Counted = true

abbrev pub waiting : Stage → ℕ → ℕ → Waiting
waiting stage lock tries = record { stage = stage; lock = lock; tries = tries }

-- "a count past u32 saturates"
abbrev pub most : ℕ → ℕ
most n = cond (ltb n 4_294_967_295) n 4_294_967_295

unfoldable pub waited_by : ℕ → Entry → Waiting → Waiting
waited_by address e w =
    let plans = touches address planned e in
    let writes = plans || names address e 0x12 in
    let tries = try_of address e in
    cond (is_counted w.stage) w
    (waiting (cond plans Counted (cond (writes || tries) Ended w.stage))
    (cond (is_open w.stage) (cond writes 0 (cond tries (cond (lock_bit e) 2 1) 0)) w.lock)
    (cond plans w.tries (cond tries (most (w.tries + 1)) w.tries)))

-- the last entry first
unfoldable pub waited_all : ℕ → List Entry → Waiting → Waiting
waited_all address [] w = w
waited_all address (e ∷ es) w = waited_by address e (waited_all address es w)

-- ---- all of it

abbrev pub seen : List Known → List Known → Waiting → Seen
seen chip demod w = record { chip = chip; demod = demod; waiting = w }

unfoldable pub seen_all : ℕ → List Entry → Seen → Seen
seen_all address es s = seen (over (known_in address es) 0 s.chip) (over (demod_in es) 0 s.demod) (waited_all address es s.waiting)

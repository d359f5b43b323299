-- Every call with its script, and what it is to say that a step depends on what came before it alone. include/pasetone.h: "What step i is depends on the
-- outcomes and replies before it alone." Document 01, "Transcript and script": "The caller lends one outcome byte per entry .. and reply bytes in order of
-- reading."
-- Assumes nothing.
use Rattle.std.specs.Prelude.{ℕ, ◌+◌, ◌≡◌, ◌&&◌, ◌||◌, cond, true, List, [], ◌∷◌, map, eqb, drop, length, take}
use Rattle.std.proofs.lemmas.List.Edits.{sets}
use Rattle.transcript.specs.declared.Entry.{Entry}
use Rattle.transcript.specs.Entries.{bare, zeros8}
use Rattle.transcript.specs.Table.{is_read}
use Rattle.attempts.specs.Attempts.{done}
use Rattle.chip.specs.Entries.{flag_of}
use Rattle.chip.specs.Steps.{every}
use Rattle.device.specs.Gpio as gpio
use Rattle.device.specs.Gpio.Order.{Output, Bit}
use Rattle.r82xx.specs.declared.Tuner.{Tuner}
use Rattle.r82xx.specs.Orders as tuner
use Rattle.r82xx.specs.Orders.Order.{Initialize, Reload, Bandwidth, IfFreq, Gain, GainIndex, InputPath, Tune, Notch, GainTold, IfTold, TableTold}
use Rattle.sequences.specs.Asides.{Other, aside, aside_asked, aside_entries}
use Rattle.sequences.specs.Asides.Other.{Pin, Demod}
use Rattle.sequences.specs.Calls.{Order, asked, call, entries, is_byte}
use Rattle.sequences.specs.Calls.Order.{Tuned, SampleRate, Correction, BoardPath, BoardTune}

-- what is lent to a call: "a script: how each step is to end (outcomes) and what each read is to give (replies)", and room
pub record Script : Type 0 where
  pub outcomes : List ℕ
  pub replies : List ℕ
  pub room : List ℕ

-- ---- every call, with these replies in place of its own

abbrev pub tuner_with : List ℕ → tuner.Order → tuner.Order
tuner_with rs Initialize = Initialize
tuner_with rs Reload = Reload
tuner_with rs (Bandwidth hz) = Bandwidth hz
tuner_with rs (IfFreq hz) = IfFreq hz
tuner_with rs (Gain db) = Gain db
tuner_with rs (GainIndex k) = GainIndex k
tuner_with rs (InputPath path) = InputPath path
tuner_with rs (Tune hz own) = Tune hz rs
tuner_with rs (Notch on) = Notch on
tuner_with rs GainTold = GainTold
tuner_with rs IfTold = IfTold
tuner_with rs TableTold = TableTold

abbrev pub order_with : List ℕ → Order → Order
order_with rs (Tuned o) = Tuned (tuner_with rs o)
order_with rs (SampleRate rate table d) = SampleRate rate table d
order_with rs (Correction ppm d) = Correction ppm d
order_with rs (BoardPath path own) = BoardPath path rs
order_with rs (BoardTune hz table own d) = BoardTune hz table rs d

abbrev pub gpio_with : List ℕ → gpio.Order → gpio.Order
gpio_with rs (Output pin own) = Output pin rs
gpio_with rs (Bit pin value own) = Bit pin value rs

abbrev pub other_with : List ℕ → Other → Other
other_with rs (Pin o) = Pin (gpio_with rs o)
other_with rs (Demod o) = Demod o

-- a call on a tuner's record, or one that touches none
pub data Ask : Type 0 where
  On : (o : Order) (t : Tuner) → Ask
  Beside : (o : Other) → Ask

-- the entries that it makes under a script: those of crate `sequences`, which the reader finds in the room
abbrev pub made : Ask → Script → List Entry
made (On o t) s = entries (call (order_with s.replies o) s.outcomes s.room) t
made (Beside o) s = aside_entries (aside (other_with s.replies o) s.outcomes s.room)

-- the number that refuses it before any step, 0 for none: of its record or its argument, or of what is lent and too short (8, 9, 10)
abbrev pub refusal : Ask → Script → ℕ
refusal (On o t) s = (asked (call (order_with s.replies o) s.outcomes s.room) t).number
refusal (Beside o) s = (aside_asked (aside (other_with s.replies o) s.outcomes s.room)).number

-- ---- an entry and the script

-- "one outcome byte per entry (0 done, any other failed; a wait's is ignored)": an entry that ended so
abbrev pub By : ℕ → Entry → Type 0
By o e = e.outcome ≡ flag_of (eqb o 0 || eqb e.kind 9)

-- the replies that an entry takes: n for a read that was done. A failed one takes none, its data are "zeros if failed"
abbrev pub takes : Entry → ℕ
takes e = cond (is_read e.kind && done e) e.n 0

unfoldable pub took : List Entry → ℕ
took [] = 0
took (e ∷ es) = takes e + took es

-- data that are n replies from `at` on, "padded with zeros". Replies are bytes
abbrev pub Fills : List ℕ → ℕ → ℕ → List ℕ → Type 0
Fills rs at n bytes = every is_byte (take n (drop at rs)) ≡ true → bytes ≡ sets zeros8 0 (take n (drop at rs))

-- "reply bytes in order of reading": the data of each read among entries are the replies that it takes, after those taken before
abbrev pub InOrder : List ℕ → ℕ → List Entry → Type 0
InOrder rs at [] = Unit {0}
InOrder rs at (e ∷ es) = (is_read e.kind ≡ true → Fills rs at (takes e) e.bytes) × InOrder rs (at + takes e) es

-- ---- what is known below an entry

-- two scripts that say the same as far as i outcomes and k replies, and with which the call is refused alike before any step. Their rest, and their lengths where
-- they suffice, may be any
pub record Agree (a : Ask) (i k : ℕ) (s u : Script) : Type 0 where
  pub outcomes : take i s.outcomes ≡ take i u.outcomes
  pub replies : take k s.replies ≡ take k u.replies
  pub refused : refusal a s ≡ refusal a u

-- scripts that are equally long are refused alike
pub record Sized (s u : Script) : Type 0 where
  pub outcomes : length s.outcomes ≡ length u.outcomes
  pub replies : length s.replies ≡ length u.replies
  pub room : length s.room ≡ length u.room

-- "which step is entry i, and whether there is one": kind, target, n, address and a write's data; no entry where there is none
abbrev pub step_at : ℕ → List Entry → List Entry
step_at i es = map bare (take 1 (drop i es))

-- two lists of entries with the same ones below i and the same step as entry i
pub record Same (i : ℕ) (xs ys : List Entry) : Type 0 where
  pub below : take i xs ≡ take i ys
  pub here : step_at i xs ≡ step_at i ys

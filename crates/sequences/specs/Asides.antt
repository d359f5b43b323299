-- The calls that touch no tuner record: GPIO and src/demod.rs. They may stand between the others. Each is a row of crate `device` or `demod`, over a chip
-- of zeros that nobody is handed. Assumes nothing.
use Rattle.std.specs.Prelude.{ℕ, Bool, true, ◌&&◌, List, leb, length, set}
use Rattle.transcript.specs.declared.Entry.{Entry}
use Rattle.chip.specs.Calls.{Called}
use Rattle.chip.specs.Courses.{Asked, Course, asked_by, entries_by, most_of}
use Rattle.device.specs.Calls.{free_result, no_chip}
use Rattle.device.specs.Gpio as gpio
use Rattle.demod.specs.Calls as demod
use Rattle.demod.specs.Calls.Order.{Baseband, LowIf, ZeroIf, Reset, Direct, Start, Stop, IfXtal, RateXtal}

pub data Other : Type 0 where
  Pin : (o : gpio.Order) → Other
  Demod : (o : demod.Order) → Other

pub record Aside : Type 0 where
  pub other : Other
  pub outcomes : List ℕ
  pub room : List ℕ

abbrev pub aside : Other → List ℕ → List ℕ → Aside
aside other outcomes room = record { other = other; outcomes = outcomes; room = room }

-- the row that its contract cites
abbrev pub aside_row : Other → Course (Unit {0})
aside_row (Pin o) = gpio.gpio_course o
aside_row (Demod o) = demod.demod_course o

-- what it leaves, by its contract
abbrev pub aside_result : Aside → Called (Unit {0})
aside_result a = free_result (aside_row a.other) a.outcomes a.room

-- the number that refuses it before any step, and its program
abbrev pub aside_asked : Aside → Asked
aside_asked a = asked_by true (aside_row a.other) (length a.outcomes) (length a.room)

abbrev pub aside_entries : Aside → List Entry
aside_entries a = entries_by (aside_asked a) a.outcomes no_chip

-- "the uncut call is the one with the failing step done and all other outcomes and replies equal"
abbrev pub aside_uncut : ℕ → Aside → Aside
aside_uncut i a = aside a.other (set a.outcomes i 0) a.room

-- "baseband 45, 0", "GPIO direction 4, 2; GPIO bit 2, 1"; "Other `src/demod.rs` calls need as many entries as they make interface calls"
abbrev pub aside_most : Other → ℕ
aside_most o = most_of (aside_row o)

-- what is asked of their numbers: a page is a byte and a register a u16
abbrev pub demod_given : demod.Order → Bool
demod_given Baseband = true
demod_given LowIf = true
demod_given ZeroIf = true
demod_given Reset = true
demod_given (Direct page register value) = leb page 255 && leb register 65535
demod_given Start = true
demod_given Stop = true
demod_given (IfXtal hz xtal) = true
demod_given (RateXtal rate xtal) = true

abbrev pub aside_given : Other → Bool
aside_given (Pin o) = true
aside_given (Demod o) = demod_given o

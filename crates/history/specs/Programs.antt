-- What a program's steps have to be, as one computed test: then each entry fits the table, and the record follows the chip.
-- Assumes nothing.
use Rattle.std.specs.Prelude.{ℕ, ◌+◌, Bool, true, false, not, ◌&&◌, ◌||◌, List, ◌++◌, eqb, leb, length, get_or, drop}
use Rattle.transcript.specs.declared.Entry.{Entry}
use Rattle.transcript.specs.Entries.{entry_fits, zeros}
use Rattle.chip.specs.Entries.{with_outcome}
use Rattle.chip.specs.Steps.{Step, tuner_write}
use Rattle.chip.specs.Steps.Step.{Open, Close, Send, Mask, Plain}

-- an I2C write that attempts registers of 0x05..0x1f alone, with its eight bytes "padded with zeros"
unfoldable pub fine_send : ℕ → List ℕ → Bool
fine_send n bytes =
    leb 2 n
    && leb n 8
    && leb 5 (get_or bytes 0 0)
    && leb (get_or bytes 0 0 + n) 33
    && eqb (length bytes) 8
    && zeros (drop n bytes)

-- an entry that names no register and is no repeater's: `Open` and `Close` alone speak of the repeater, `Send` and `Mask` alone of registers.
-- It fits the table as it is when the step is done; so it does when it failed
unfoldable pub fine_plain : Entry → Bool
fine_plain e = entry_fits (with_outcome e true) && not (eqb e.kind 1) && (not (eqb e.kind 2) || eqb e.n 1)

abbrev pub fine : Step → Bool
fine Open = true
fine Close = true
fine (Send n bytes) = fine_send n bytes
fine (Mask register value mask) = leb 5 register && leb register 31
fine (Plain e) = fine_plain e

-- a step that attempts no register: those of the calls that touch no tuner record
abbrev pub beside : Step → Bool
beside Open = true
beside Close = true
beside (Send n bytes) = false
beside (Mask register value mask) = false
beside (Plain e) = fine_plain e

-- "Reload sends the attempted bytes in `initialize`'s chunks (7, 7, 2, then 7, 4)"; since #106 they are the shadow
abbrev pub reload_steps : List ℕ → List Step
reload_steps bs = tuner_write bs 0 3 ++ tuner_write bs 3 5

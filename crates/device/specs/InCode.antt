-- How the code's values stand for what a call leaves: an answer and a count beside the room. A reader of the contracts needs this file only to see that.
-- Assumes nothing.
use Rattle.std.specs.Prelude.{ℕ, List}
use Rattle.chip.specs.Calls.{Called, called}
use Rattle.device.specs.declared.Handed.{Handed}

-- what the code hands back, with the room
abbrev pub back : Handed → List ℕ → Called (Unit {0})
back r room = called tt room r.count r.answer

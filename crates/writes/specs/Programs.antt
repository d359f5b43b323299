-- The programs of several brackets. Document 01, "The record": "Reload sends the attempted bytes in `initialize`'s chunks (7, 7, 2, then 7, 4)"; document
-- 02, #106: "`initialize` puts each chunk's bytes into the shadow as it is tried", as every write does.
-- Assumes nothing.
use Rattle.std.specs.Prelude.{ℕ, List, ◌++◌}
use Rattle.chip.specs.Steps.{Step, while_open, tuner_write, updates}
use Rattle.writes.specs.Lists.{if_updates, init_array, init_updates}

-- all 27 registers, in two brackets
abbrev pub send_all : List ℕ → List Step
send_all bs = tuner_write bs 0 3 ++ tuner_write bs 3 5

-- the array, four masked writes, and the filter for an IF of 2.3 MHz
abbrev pub init_steps : List Step
init_steps = send_all init_array ++ (while_open (updates init_updates) ++ while_open (updates (if_updates 2_300_000)))

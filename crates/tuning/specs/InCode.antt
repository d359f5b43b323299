-- How the code holds the divider's repair between the status and the tries: the bits that it writes, where there is one.
-- Assumes nothing.
use Rattle.std.specs.Prelude.{ℕ, List, [], ◌∷◌, Option, None, Some}
use Rattle.chip.specs.declared.Update.{Update}
use Rattle.chip.specs.Steps.{masked}

-- the updates that it stands for: the divider's three bits alone
abbrev pub fix_updates : Option ℕ → List Update
fix_updates None = []
fix_updates (Some bits) = masked 0x10 bits 0xe0 ∷ []

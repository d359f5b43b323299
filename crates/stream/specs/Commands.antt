-- What nine bytes ask for. Document 02, #105: "A command is one operation byte and eight argument bytes, low byte first: 1 frequency (u64), 2 rate (u32), 3
-- gain in dB (binary32 bits), 4 gain index (u8), 5 bandwidth (u32), 6 the tuner's correction (i32), 7 reload (0); unused high bytes are zero."
-- Assumes nothing.
use Rattle.std.specs.Prelude.{ℕ, Bool, ◌&&◌, cond, List, eqb, leb, drop, get_or, take, Option, Some, None}
use Rattle.std.specs.Float.{binary32}
use Rattle.std.specs.Float.Ieee.{of_bits}
use Rattle.std.specs.Int.{w32}
use Rattle.std.proofs.Common.{to_z}
use Rattle.wire.specs.Bytes.{le_value}
use Rattle.stream.specs.declared.Command.{Command}
use Rattle.stream.specs.declared.Command.TheVariants.{Frequency, Rate, GainDb, GainIndex, Bandwidth, Correction, Reload}

abbrev pub operation_of : List ℕ → ℕ
operation_of nine = get_or nine 0 0

-- the eight argument bytes as one number: the unused ones are zero exactly where it is no more than `most_for`
abbrev pub argument_of : List ℕ → ℕ
argument_of nine = le_value (take 8 (drop 1 nine))

abbrev pub most_for : ℕ → ℕ
most_for operation =
    cond (eqb operation 1) 18446744073709551615 (cond (eqb operation 4) 255 (cond (eqb operation 7) 0 4294967295))

-- how many of the eight an operation uses; above them stand "unused high bytes", which are zero exactly where the argument is no more than `most_for`
-- (proofs/Unused.antt)
abbrev pub width_for : ℕ → ℕ
width_for operation = cond (eqb operation 1) 8 (cond (eqb operation 4) 1 (cond (eqb operation 7) 0 4))

-- "new 14 command, for an unknown operation or nonzero unused bytes"
abbrev pub is_known : ℕ → ℕ → Bool
is_known operation argument = (leb 1 operation && leb operation 7) && leb argument (most_for operation)

-- "A command carries either a gain in dB or a whole number."
abbrev pub named : ℕ → ℕ → Command
named operation argument =
    cond (eqb operation 1) (Frequency argument)
    (cond (eqb operation 2) (Rate argument)
    (cond (eqb operation 3) (GainDb (of_bits binary32 argument))
    (cond (eqb operation 4) (GainIndex argument)
    (cond (eqb operation 5) (Bandwidth argument)
    (cond (eqb operation 6) (Correction (to_z w32 argument)) Reload)))))

unfoldable pub command_of : List ℕ → Option Command
command_of nine = cond (is_known (operation_of nine) (argument_of nine)) (Some (named (operation_of nine) (argument_of nine))) None

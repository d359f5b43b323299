-- Which registers the calls of src/tuners/r82xx.rs write, other than a tuning: value and mask of each, in the Rust's order.
-- Assumes nothing.
use Rattle.std.specs.Prelude.{ℕ, cond, List, [], ◌∷◌, ◌++◌, leb}
use Rattle.board.specs.declared.Path.{Path}
use Rattle.board.specs.declared.Path.TheVariants.{Hf, Vhf, Uhf}
use Rattle.chip.specs.declared.Update.{Update}
use Rattle.chip.specs.Steps.{masked}
use Rattle.gain.specs.declared.GainEntry.{GainEntry}
use Rattle.gain.specs.Table.{entry_at}

-- the Rust's `INIT_ARRAY`: registers 0x05 to 0x1f
abbrev pub init_array : List ℕ
init_array =
    0x83 ∷ 0x30 ∷ 0x75 ∷ 0xc0 ∷ 0x40 ∷ 0xd6 ∷ 0x6c ∷ 0xf5 ∷ 0x63 ∷ 0x75 ∷ 0x68 ∷ 0x6c ∷ 0x83 ∷ 0x80 ∷ 0x00 ∷ 0x0f
    ∷ 0x00 ∷ 0xc0 ∷ 0x30 ∷ 0x48 ∷ 0xcc ∷ 0x60 ∷ 0x00 ∷ 0x54 ∷ 0xae ∷ 0x4a ∷ 0xc0 ∷ []

-- `initialize`, after the array
abbrev pub init_updates : List Update
init_updates = masked 0x1a 0x00 0x0c ∷ masked 0x12 0x06 0xff ∷ masked 0x0c 0x00 0x0f ∷ masked 0x13 0x01 0x3f ∷ []

-- `set_if_bandwidth`: from 3.5 MHz on the wide filter
abbrev pub if_updates : ℕ → List Update
if_updates hz =
    masked 0x0a (cond (leb 3_500_000 hz) 0x10 0x00) 0x70 ∷ masked 0x0b (cond (leb 3_500_000 hz) 0x6b 0x80) 0xef ∷ []

-- `set_bandwidth`: up to 6 MHz, up to 7 MHz, above
abbrev pub bandwidth_updates : ℕ → List Update
bandwidth_updates hz = masked 0x0a (cond (leb hz 6_000_000) 0x08 (cond (leb hz 7_000_000) 0x06 0x00)) 0x0f ∷ []

-- `set_gain`, for the step of index k: the loops off, then the step's three values
abbrev pub by_hand : List Update
by_hand = masked 0x05 0x10 0x10 ∷ masked 0x07 0x00 0x10 ∷ []

abbrev pub step_values : GainEntry → List Update
step_values g = masked 0x05 g.lna 0x0f ∷ masked 0x07 g.mix 0x0f ∷ masked 0x0c g.vga 0x0f ∷ []

abbrev pub gain_updates : ℕ → List Update
gain_updates k = by_hand ++ step_values (entry_at k)

-- `set_input_path`: cable 2; cable 1; air in
abbrev pub path_updates : Path → List Update
path_updates Hf = masked 0x06 0x08 0x08 ∷ masked 0x05 0x00 0x60 ∷ []
path_updates Vhf = masked 0x05 0x40 0x60 ∷ masked 0x06 0x00 0x08 ∷ []
path_updates Uhf = masked 0x05 0x20 0x60 ∷ masked 0x06 0x00 0x08 ∷ []

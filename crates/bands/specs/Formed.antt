-- What a well-formed table is, without a test: what is accepted is the bytes of at most sixteen good bands, each past all before it.
-- Assumes nothing.
use Rattle.std.specs.Prelude.{ℕ, ◌^◌, ◌≤◌, ◌<◌, ◌≡◌, List, length, get_or}
use Rattle.bands.specs.declared.Band.{Band}
use Rattle.bands.specs.Tables.{band, table_bytes}

-- every number within its bytes, and within its range
pub record Good (b : Band) : Type 0 where
  pub order : b.first ≤ b.last
  pub last : b.last < 256 ^ 8
  pub shift : b.shift < 256 ^ 8
  pub inverted : b.inverted ≤ 1
  pub path : b.path ≤ 3
  pub notch : b.notch ≤ 1

-- the i-th band; past the end any
abbrev pub nth : List Band → ℕ → Band
nth bs i = get_or bs i (band 0 0 0 0 0 0)

-- "A board is up to 16 bands"; "Bands ascend and don't overlap"
pub record Formed (s : List ℕ) (bs : List Band) : Type 0 where
  pub whole : s ≡ table_bytes bs
  pub most : length bs ≤ 16
  pub each : (i : ℕ) → i < length bs → Good (nth bs i)
  pub apart : (i j : ℕ) → i < j → j < length bs → (nth bs i).last < (nth bs j).first

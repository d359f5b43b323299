-- How the code holds what has come in: a count beside an array of nine bytes in place of a list. A reader of the contracts needs this file only to see how
-- `Gathered` stands for what specs/Pending.antt says.
-- Assumes nothing.
use Rattle.std.specs.Prelude.{ℕ, cond, List, ◌∷◌, leb, get_or, length, replicate, take, Option, Some, None}
use Rattle.stream.specs.declared.Gathered.{Gathered}
use Rattle.stream.specs.Pending.{gathered, is_stream, pending_of, used_by, zero_padded}

-- how many bytes are pending; none where the bytes are not those of a stream
unfoldable pub pending_count : List ℕ → Option ℕ
pending_count b = cond (is_stream b) (Some (get_or b 0 0)) None

-- the pending bytes with those of a chunk, as an array and its count
abbrev pub gathered_by : List ℕ → List ℕ → Gathered
gathered_by pending chunk =
    record { used = used_by pending chunk; count = length (gathered pending chunk); bytes = zero_padded 9 (gathered pending chunk) }

unfoldable pub gathered_of : List ℕ → List ℕ → Option Gathered
gathered_of b chunk = cond (is_stream b) (Some (gathered_by (pending_of b) chunk)) None

-- what a host keeps after that: nothing of a command that is whole
unfoldable pub stream_after : Gathered → List ℕ
stream_after got = cond (leb 9 got.count) (replicate 9 0) (got.count ∷ take 8 got.bytes)

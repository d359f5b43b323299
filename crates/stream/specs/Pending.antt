-- The stream as a host keeps it between two calls: nine bytes, how many wait for the rest of their command, and these, zeros after them. Document 02, #105:
-- "we get them chopped anywhere".
-- Assumes nothing.
use Rattle.std.specs.Prelude.{ℕ, ◌+◌, ◌-◌, Bool, ◌&&◌, cond, List, ◌∷◌, ◌++◌, eqb, leb, drop, get_or, length, replicate, take}
use Rattle.wire.specs.Bytes.{le_value}

-- zeros after the bytes, n in all
abbrev pub zero_padded : ℕ → List ℕ → List ℕ
zero_padded n bs = bs ++ replicate (n - length bs) 0

abbrev pub stream_bytes : List ℕ → List ℕ
stream_bytes pending = length pending ∷ zero_padded 8 pending

abbrev pub pending_of : List ℕ → List ℕ
pending_of b = take (get_or b 0 0) (drop 1 b)

-- proofs/Images.antt: exactly the bytes that some pending part is kept as
unfoldable pub is_stream : List ℕ → Bool
is_stream b = eqb (length b) 9 && (leb (get_or b 0 0) 8 && eqb (le_value (drop (1 + get_or b 0 0) b)) 0)

-- how much of a chunk goes to the command that is waited for: up to its ninth byte
abbrev pub used_by : List ℕ → List ℕ → ℕ
used_by pending chunk = cond (leb (9 - length pending) (length chunk)) (9 - length pending) (length chunk)

-- the pending bytes with those of a chunk
abbrev pub gathered : List ℕ → List ℕ → List ℕ
gathered pending chunk = pending ++ take (used_by pending chunk) chunk

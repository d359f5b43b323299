-- Commands worked out by hand, one of each operation and of each way to be unknown; and one that comes in three parts. Document 02, #105.
-- Assumes nothing.
use mathlib.Core.Path.{◌≡◌, refl}
use mathlib.Core.Bool.{false}
use mathlib.Core.List.{List, [], ◌∷◌, ◌++◌}
use Prim.Native.Nat.{ℕ}
use lib.Ieee.{binary32, of_bits}
use lib.IntN.{negsuc}
use lib.ListN.{replicate}
use Rattle.wire.specs.Bytes.{le_value}
use Rattle.std.specs.Prelude.{Some, None}
use Rattle.stream.specs.declared.Command.TheVariants.{Frequency, Rate, GainDb, GainIndex, Bandwidth, Correction, Reload}
use Rattle.stream.specs.Commands.{command_of}
use Rattle.stream.specs.Pending.{gathered, is_stream, pending_of, stream_bytes, used_by}

-- the operation, its argument's bytes, and zeros up to nine
abbrev nine : ℕ → List ℕ → ℕ → List ℕ
nine operation bytes rest = operation ∷ (bytes ++ replicate rest 0)

-- 102,300,000 Hz is 0x0618f960
pub frequency : command_of (nine 1 (0x60 ∷ 0xf9 ∷ 0x18 ∷ 0x06 ∷ []) 4) ≡ Some (Frequency 102_300_000)
unfolding command_of le_value
frequency = refl

-- "1 frequency (u64)": all eight bytes count
pub high_frequency : command_of (nine 1 (0 ∷ 0 ∷ 0 ∷ 0 ∷ 1 ∷ []) 3) ≡ Some (Frequency 4_294_967_296)
unfolding command_of le_value
high_frequency = refl

-- 2,048,000 is 0x001f4000
pub rate : command_of (nine 2 (0x00 ∷ 0x40 ∷ 0x1f ∷ 0x00 ∷ []) 4) ≡ Some (Rate 2_048_000)
unfolding command_of le_value
rate = refl

-- 14.4 dB is 0x41666666
pub gain : command_of (nine 3 (0x66 ∷ 0x66 ∷ 0x66 ∷ 0x41 ∷ []) 4) ≡ Some (GainDb (of_bits binary32 0x4166_6666))
unfolding command_of le_value
gain = refl

pub index : command_of (nine 4 (14 ∷ []) 7) ≡ Some (GainIndex 14)
unfolding command_of le_value
index = refl

pub bandwidth : command_of (nine 5 (0x80 ∷ 0x8d ∷ 0x5b ∷ 0x00 ∷ []) 4) ≡ Some (Bandwidth 6_000_000)
unfolding command_of le_value
bandwidth = refl

-- -25 ppm is 0xffffffe7
pub correction : command_of (nine 6 (0xe7 ∷ 0xff ∷ 0xff ∷ 0xff ∷ []) 4) ≡ Some (Correction (negsuc 24))
unfolding command_of le_value
correction = refl

pub reload : command_of (nine 7 [] 8) ≡ Some Reload
unfolding command_of le_value
reload = refl

-- "new 14 command, for an unknown operation or nonzero unused bytes"
pub no_operation : command_of (nine 0 [] 8) ≡ None
unfolding command_of le_value
no_operation = refl

pub eighth_operation : command_of (nine 8 [] 8) ≡ None
unfolding command_of le_value
eighth_operation = refl

pub rate_too_wide : command_of (nine 2 (0 ∷ 0 ∷ 0 ∷ 0 ∷ 1 ∷ []) 3) ≡ None
unfolding command_of le_value
rate_too_wide = refl

pub index_too_wide : command_of (nine 4 (14 ∷ 1 ∷ []) 6) ≡ None
unfolding command_of le_value
index_too_wide = refl

pub reload_with_one : command_of (nine 7 (1 ∷ []) 7) ≡ None
unfolding command_of le_value
reload_with_one = refl

-- nine bytes as three, two and ten: of the ten the first four are used, and the command is whole
pub first_part : gathered (pending_of (stream_bytes [])) (1 ∷ 0x60 ∷ 0xf9 ∷ []) ≡ 1 ∷ 0x60 ∷ 0xf9 ∷ []
first_part = refl

pub second_part : gathered (pending_of (stream_bytes (1 ∷ 0x60 ∷ 0xf9 ∷ []))) (0x18 ∷ 0x06 ∷ []) ≡ 1 ∷ 0x60 ∷ 0xf9 ∷ 0x18 ∷ 0x06 ∷ []
second_part = refl

pub last_part : gathered (pending_of (stream_bytes (1 ∷ 0x60 ∷ 0xf9 ∷ 0x18 ∷ 0x06 ∷ []))) (replicate 4 0 ++ (7 ∷ replicate 5 0)) ≡ nine 1 (0x60 ∷ 0xf9 ∷ 0x18 ∷ 0x06 ∷ []) 4
last_part = refl

pub last_used : used_by (pending_of (stream_bytes (1 ∷ 0x60 ∷ 0xf9 ∷ 0x18 ∷ 0x06 ∷ []))) (replicate 4 0 ++ (7 ∷ replicate 5 0)) ≡ 4
last_used = refl

-- a stream's nine bytes: how many wait, then those, then zeros
pub waiting_bytes : stream_bytes (1 ∷ 0x60 ∷ []) ≡ 2 ∷ 1 ∷ 0x60 ∷ replicate 6 0
waiting_bytes = refl

pub not_a_stream : is_stream (9 ∷ replicate 8 1) ≡ false
unfolding is_stream
not_a_stream = refl

-- The driver's bytes as a host holds them, from their making on. Document 01, "The record": "The driver's record holds board, nominal .., ppm, frequency and rate, all
-- given at its making"; "`set_sample_rate` takes both records".
-- Assumes nothing.
use Rattle.std.specs.Prelude.{ℕ, ◌^◌, ◌<◌, ◌≡◌, cond, List, ℤ, take}
use Rattle.std.specs.Int.{w32}
use Rattle.std.proofs.Common.{SFits}
use Rattle.refusals.specs.declared.Answer.TheVariants.{Done}
use Rattle.reply.specs.declared.Reply.{Reply}
use Rattle.drivers.specs.Drivers.{correct_over, fresh_into, hop_over, rate_over}
use Rattle.carried.specs.Exported.{plainly, stands}

-- the driver's record is 29 bytes: the next one where the reply stands, else the one that it had
abbrev pub taking29 : Reply → List ℕ → List ℕ → List ℕ
taking29 reply next d = cond (stands reply) (take 29 next) d

-- From the making on and through the three calls that hand them on, beside any tuner's bytes and any lent memory. Its numbers are
-- of their types: rate and ppm of 32 bits, frequencies of 64
pub data Driven : List ℕ → Type 0 where
  fresh : (board nominal : ℕ) (ppm : ℤ) (frequency rate : ℕ) (out : List ℕ) → SFits w32 ppm → frequency < 2 ^ 64 → rate < 2 ^ 32
      → (fresh_into board nominal ppm frequency rate out).answer ≡ Done 0 → Driven (take 29 (fresh_into board nominal ppm frequency rate out).out)
  rated : (d : List ℕ) → Driven d → (rate : ℕ) (table tuner os room slot next : List ℕ) → rate < 2 ^ 32
      → Driven (taking29 (rate_over os rate table d tuner room slot next).answer (rate_over os rate table d tuner room slot next).driver d)
  corrected : (d : List ℕ) → Driven d → (ppm : ℤ) (tuner : List ℕ) → SFits w32 ppm → Driven (correct_over ppm tuner d).driver
  hopped : (d : List ℕ) → Driven d → (hz : ℕ) (table rs tuner os room slot next : List ℕ) → hz < 2 ^ 64
      → Driven (taking29 (plainly (hop_over table hz rs os d tuner room slot next).answer) (hop_over table hz rs os d tuner room slot next).driver d)

-- What follows the PLL's registers: the status, the divider's repair, and the tries for a lock. Document 01, "PLL": "Status bytes have their bits
-- reversed. No lock isn't a refusal." "Transcript and script": "Tune takes replies 0..4 as status, then three per try."
-- Assumes nothing.
use Rattle.std.specs.Prelude.{ℕ, zero, suc, ◌+◌, ◌-◌, ◌*◌, ◌/◌, Bool, true, false, cond, List, [], ◌∷◌, ◌++◌, eqb, ltb, get_or, take, drop}
use Rattle.std.specs.Int.Bits.{bit_and}
use Rattle.std.proofs.lemmas.List.Edits.{sets}
use Rattle.status.specs.Reversal.{locked_by, reversed}
use Rattle.chip.specs.declared.LockTries.{LockTries}
use Rattle.chip.specs.declared.Update.{Update}
use Rattle.transcript.specs.Entries.{zeros8}
use Rattle.chip.specs.Entries.{pointer, read_entry, wait}
use Rattle.chip.specs.Steps.{Step, masked, updates}
use Rattle.chip.specs.Steps.Step.{Plain}
use Rattle.pll.specs.declared.Kind.{Kind}
use Rattle.pll.specs.declared.Kind.TheVariants.{R820T, R828D}

-- n replies from `at`, with the zeros after them
unfoldable pub reply_bytes : List ℕ → ℕ → ℕ → List ℕ
reply_bytes rs at n = sets zeros8 0 (take n (drop at rs))

-- "wait 2, status": replies 0..4
abbrev pub status_steps : ℕ → List ℕ → List Step
status_steps address rs = Plain (wait 2) ∷ Plain (pointer address) ∷ Plain (read_entry address 5 (reply_bytes rs 0 5)) ∷ []

-- the Rust's `vco_power_ref`
abbrev pub power_of : Kind → ℕ
power_of R820T = 2
power_of R828D = 1

-- bits 4 and 5 of the fifth status byte
abbrev pub fine_of : ℕ → ℕ
fine_of byte = bit_and (reversed byte) 0x30 / 16

-- the divider is repaired by one where the VCO's band is off; below 0 it stays 0
unfoldable pub repair_updates : Kind → ℕ → ℕ → List Update
repair_updates kind number byte =
    cond (ltb (power_of kind) (fine_of byte)) (masked 0x10 ((number - 1) * 32) 0xe0 ∷ [])
    (cond (ltb (fine_of byte) (power_of kind)) (masked 0x10 ((number + 1) * 32) 0xe0 ∷ []) [])

-- the lock bit of try i's third reply
abbrev pub locks_at : List ℕ → ℕ → Bool
locks_at rs i = locked_by (get_or rs (7 + 3 * i) 0)

-- a try's read
abbrev pub try_read : ℕ → List ℕ → ℕ → List Step
try_read address rs i = Plain (pointer address) ∷ Plain (read_entry address 3 (reply_bytes rs (5 + 3 * i) 3)) ∷ []

-- what follows a try without the lock: 0x12 is written once, after the first, and each waits 1
abbrev pub again : ℕ → List Update
again i = cond (eqb i 0) (masked 0x12 0x06 0xff ∷ []) []

abbrev pub after_try : ℕ → List Step
after_try i = updates (again i) ++ (Plain (wait 1) ∷ [])

-- what follows a lock
abbrev pub locked : List Update
locked = masked 0x1a 0x08 0x08 ∷ []

-- tries from number i on, as many as are left
unfoldable pub tries_from : ℕ → List ℕ → ℕ → ℕ → List Step
tries_from address rs zero i = []
tries_from address rs (suc left) i =
    try_read address rs i ++ cond (locks_at rs i) (updates locked) (after_try i ++ tries_from address rs left (i + 1))

-- "lock only when the waiting has ended": true where a done three-byte read has the bit, false where all ten tries ended without it, else as before
abbrev pub lock_by : LockTries → Bool → Bool
lock_by lock old = cond lock.locked true (cond (eqb lock.tries 10) false old)

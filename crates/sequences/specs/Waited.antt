-- How the waiting for a lock ends where no step fails, by the replies alone. Document 01, "Transcript and script": "Tune takes replies 0..4 as status, then
-- three per try"; "PLL": up to ten tries. Document 02, #101: "locked or not with the number of tries".
-- Assumes nothing.
use Rattle.std.specs.Prelude.{ℕ, zero, suc, ◌+◌, ◌≤◌, ◌≡◌, Bool, true, false, cond, not, ◌&&◌, ◌||◌, List, [], ◌∷◌}
use Rattle.transcript.specs.declared.Entry.{Entry}
use Rattle.chip.specs.declared.LockTries.{LockTries}
use Rattle.chip.specs.Calls.{tries_in}
use Rattle.chip.specs.Entries.{is_try, lock_bit, lock_tries}
use Rattle.tuning.specs.Tries.{locks_at}

-- from try i on, as many as are left: the first whose third reply has the lock bit is the last one
unfoldable pub waited_from : List ℕ → ℕ → ℕ → LockTries
waited_from rs zero i = lock_tries i false
waited_from rs (suc left) i = cond (locks_at rs i) (lock_tries (i + 1) true) (waited_from rs left (i + 1))

-- and how it ends whatever fails, by the entries alone: no try stands after one with the lock bit; `seen` is whether there was one before
unfoldable pub bit_last : Bool → List Entry → Bool
bit_last seen [] = true
bit_last seen (e ∷ es) = not (is_try e && seen) && bit_last (seen || (is_try e && lock_bit e)) es

-- at most so many tries, and the one with the bit is the last
pub record Waited (most : ℕ) (es : List Entry) : Type 0 where
  pub few : tries_in es ≤ most
  pub last : bit_last false es ≡ true

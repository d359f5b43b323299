-- Lock and tries of entries against #101's: "locked or not with the number of tries". Assumes nothing.
use Rattle.std.specs.Prelude.{ℕ, ◌≡◌, cond, List}
use Rattle.transcript.specs.declared.Entry.{Entry}
use Rattle.chip.specs.declared.LockTries.{LockTries}
use Rattle.evidence.specs.Evidence.{lock_mark, tries_of}

-- entries say of the lock what a tuning told: 2 with the bit, 1 without it, and as many tries
pub record LockTold (address : ℕ) (told : LockTries) (es : List Entry) : Type 0 where
  pub mark : lock_mark address es ≡ cond told.locked 2 1
  pub tries : tries_of address es ≡ told.tries

-- What `bare` leaves out, and that it leaves nothing else out twice. Assumes nothing.
use Prim.Native.Nat.{ℕ}
use mathlib.Core.Path.{◌≡◌, refl}
use mathlib.Core.Bool.{Bool, true, false, cond}
use mathlib.Core.List.{List}
use Rattle.transcript.specs.declared.Entry.{Entry}
use Rattle.transcript.specs.Entries.{bare, zeros8}
use Rattle.transcript.specs.Table.{is_read}

abbrev entry : ℕ → ℕ → ℕ → ℕ → ℕ → List ℕ → Entry
entry kind outcome target n address bytes =
    record { kind = kind; outcome = outcome; target = target; n = n; address = address; bytes = bytes }

-- the outcome
pub bare_outcome : (kind o p target n address : ℕ) (bytes : List ℕ) → bare (entry kind o target n address bytes) ≡ bare (entry kind p target n address bytes)
bare_outcome kind o p target n address bytes = refl

-- what a read gave
pub bare_data : (kind outcome target n address : ℕ) (bytes other : List ℕ) → is_read kind ≡ true
    → bare (entry kind outcome target n address bytes) ≡ bare (entry kind outcome target n address other)
bare_data kind outcome target n address bytes other e = rw e

-- a write's data stay
pub bare_write : (kind outcome target n address : ℕ) (bytes : List ℕ) → is_read kind ≡ false
    → bare (entry kind outcome target n address bytes) ≡ entry kind 0 target n address bytes
bare_write kind outcome target n address bytes e = rw e

twice : (b : Bool) (bytes : List ℕ) → cond b zeros8 (cond b zeros8 bytes) ≡ cond b zeros8 bytes
twice true bytes = refl
twice false bytes = refl

pub bare_bare : (e : Entry) → bare (bare e) ≡ bare e
bare_bare e = rw (twice (is_read e.kind) e.bytes)

-- Where sections left a chip's registers, as the walk from their end gathers it, and the call. Document 02, #110: "all we keep is where the chip ended".
-- What the list is stands in crates/restore/specs/Restore.antt.
-- Assumes nothing.
use Rattle.std.specs.Prelude.{ℕ, zero, suc, Bool, false, cond, ◌&&◌, List, [], ◌∷◌, eqb, leb, ltb, length, get_or, Option, None, Some}
use Rattle.transcript.specs.declared.Entry.{Entry}
use Rattle.attempts.specs.Attempts.{Last, last_in}
use Rattle.attempts.specs.Namings.Last.{Never, Tried}
use Rattle.refusals.specs.Lent.{Given, lent_to}
use Rattle.restoring.specs.declared.Sent.{Sent}
use Rattle.restore.specs.Restore.{list_bytes, refused_by}

-- what is told of a register: the byte that was sent last and how that ended, in vain (1) or done (2); nothing of one that was never attempted
abbrev pub Known : Type 0
Known = Option Sent

abbrev pub known_as : ℕ → ℕ → Known
known_as mark byte = Some (record { byte = byte; mark = mark })

abbrev pub mark_of : Bool → ℕ
mark_of ok = cond ok 2 1

abbrev pub told : ℕ → Bool → Known
told byte ok = known_as (mark_of ok) byte

abbrev pub known_of : Last → Known
known_of Never = None
known_of (Tried byte ok) = told byte ok

-- "bytes for registers outside 0x05..0x1f count for nothing"
unfoldable pub counts : ℕ → Bool
counts r = leb 5 r && ltb r 32

-- what entries tell of a register
unfoldable pub known_in : ℕ → List Entry → ℕ → Known
known_in address es r = cond (counts r) (known_of (last_in address es r)) None

-- what was told first stands: the walk goes from the newest to the oldest
unfoldable pub newer : Known → Known → Known
newer None u = u
newer (Some s) u = Some s

-- one register alone is told of
unfoldable pub only : ℕ → Known → ℕ → Known
only r t q = cond (counts q && eqb q r) t None

-- what is told of registers from i on, where some is told already
unfoldable pub over : (ℕ → Known) → ℕ → List Known → List Known
over f i [] = []
over f i (t ∷ ts) = newer t (f i) ∷ over f (suc i) ts

-- a register that is sure, and its byte
abbrev pub is_done : Known → Bool
is_done None = false
is_done (Some s) = eqb s.mark 2

abbrev pub byte_of : Known → ℕ
byte_of None = 0
byte_of (Some s) = s.byte

unfoldable pub sure_of : List Known → ℕ → Bool
sure_of known r = is_done (get_or known r None)

unfoldable pub held_of : List Known → ℕ → ℕ
held_of known r = cond (sure_of known r) (byte_of (get_or known r None)) 0

-- the first sure register from i on, in at most n steps
unfoldable pub next_sure : (ℕ → Bool) → ℕ → ℕ → Option ℕ
next_sure sure zero i = None
next_sure sure (suc n) i = cond (sure i) (Some i) (next_sure sure n (suc i))

-- "Refusals: 12 for any section, then 8 for the list itself, output unchanged." The value is how many bytes were written.
unfoldable pub restore_into : List ℕ → ℕ → List ℕ → Given
restore_into s address out = lent_to (refused_by s) (length (list_bytes address s)) (list_bytes address s) out

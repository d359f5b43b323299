-- Restore lists. Document 02, #110: "a list of I2C writes that names each register not doubtful at the end once, with its byte, in ascending runs of
-- at most seven registers, and names no doubtful one".
-- Assumes nothing.
use Rattle.std.specs.Prelude.{ℕ, zero, suc, ◌+◌, ◌≤◌, ◌<◌, ◌≡◌, Bool, true, false, cond, not, ◌&&◌, List, [], ◌∷◌, map, leb, ltb}
use Rattle.refusals.specs.Table.{SECTION}
use Rattle.transcript.specs.declared.Entry.{Entry}
use Rattle.transcript.specs.Sections.{section_bytes}
use Rattle.attempts.specs.Attempts.{byte_in, doubt_in, last_in, names}
use Rattle.sections.specs.Chain.{chain, chain_entries}

-- "Writes to other chips and bytes for registers outside 0x05..0x1f count for nothing": a register of these, not doubtful after the entries
unfoldable pub sure_in : ℕ → List Entry → ℕ → Bool
sure_in address es r = leb 5 r && ltb r 32 && not (doubt_in (last_in address es r))

-- the byte that it was left with; 0 stands for one that is not told
abbrev pub held_in : ℕ → List Entry → ℕ → ℕ
held_in address es r = cond (sure_in address es r) (byte_in 0 (last_in address es r)) 0

-- a run: its first register, and how many it has
pub record Run : Type 0 where
  pub first : ℕ
  pub size : ℕ

abbrev pub run_of : ℕ → ℕ → Run
run_of first size = record { first = first; size = size }

-- how many sure registers follow one another from i on, up to k
unfoldable pub run_len : (ℕ → Bool) → ℕ → ℕ → ℕ
run_len sure zero i = 0
run_len sure (suc k) i = cond (sure i) (suc (run_len sure k (suc i))) 0

-- "in ascending runs of at most seven registers": long runs are filled from the left. In at most n steps from i on
unfoldable pub runs : (ℕ → Bool) → ℕ → ℕ → List Run
runs sure zero i = []
runs sure (suc n) i = cond (sure i) (run_of i (run_len sure 7 i) ∷ runs sure n (i + run_len sure 7 i)) (runs sure n (suc i))

-- the byte at a place of a run, and zeros after it
unfoldable pub slot : (ℕ → ℕ) → ℕ → ℕ → ℕ → ℕ
slot held i m j = cond (leb m j) 0 (held (i + j))

-- "of I2C writes with outcome 0": the first register's number, then the bytes of the run
unfoldable pub write_of : ℕ → (ℕ → ℕ) → Run → Entry
write_of address held w =
    record {
      kind = 2;
      outcome = 0;
      target = address;
      n = suc w.size;
      address = 0;
      bytes = w.first ∷ slot held w.first w.size 0 ∷ slot held w.first w.size 1 ∷ slot held w.first w.size 2 ∷ slot held w.first w.size 3 ∷ slot held w.first w.size 4 ∷ slot held w.first w.size 5 ∷ slot held w.first w.size 6 ∷ [];
    }

abbrev pub list_by : ℕ → (ℕ → Bool) → (ℕ → ℕ) → List Entry
list_by address sure held = map (write_of address held) (runs sure 32 0)

unfoldable pub list_of : ℕ → List Entry → List Entry
list_of address es = list_by address (sure_in address es) (held_in address es)

-- "The list is itself a section"
abbrev pub list_bytes : ℕ → List ℕ → List ℕ
list_bytes address s = section_bytes (list_of address (chain_entries s))

-- "Refusals: 12 for any section"
abbrev pub refused_by : List ℕ → ℕ
refused_by s = cond (chain s) 0 SECTION

-- ---- what the list is for

-- how many of the entries name a register
abbrev pub times : ℕ → List Entry → ℕ → ℕ
times address [] r = 0
times address (e ∷ es) r = cond (names address e r) (suc (times address es r)) (times address es r)

-- a list of runs that names exactly these registers: each by one of them at least, and no other
abbrev pub in_run : ℕ → Run → Bool
in_run r w = leb w.first r && ltb r (w.first + w.size)

abbrev pub any_run : ℕ → List Run → Bool
any_run r [] = false
any_run r (w ∷ ws) = cond (in_run r w) true (any_run r ws)

-- those of them that name a register
abbrev pub runs_with : ℕ → List Run → List Run
runs_with r [] = []
runs_with r (w ∷ ws) = cond (in_run r w) (w ∷ runs_with r ws) (runs_with r ws)

abbrev pub Short : List Run → Type 0
Short [] = Unit {0}
Short (w ∷ ws) = (w.size ≤ 7) × Short ws

-- "in ascending runs of at most seven registers": each begins where the one before it has ended, or later
abbrev pub Ascending : ℕ → List Run → Type 0
Ascending i [] = Unit {0}
Ascending i (w ∷ ws) = (i ≤ w.first) × (0 < w.size) × (w.size ≤ 7) × Ascending (w.first + w.size) ws

pub record Exactly (sure : ℕ → Bool) (ws : List Run) : Type 0 where
  pub short : Short ws
  pub named : (r : ℕ) → any_run r ws ≡ sure r

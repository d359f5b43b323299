-- A program of steps, and the one rule by which it is run. Document 01, "Refusal numbers": "Where a step fails the rest of the
-- call is not taken, but an open repeater (its opening done) is closed (one entry). A failed closing is recorded and otherwise
-- ignored." Two tables give a step its meaning: the entry that it makes, and the chip's record after it.
-- Assumes nothing.
use Rattle.std.specs.Prelude.{ℕ, ◌+◌, Bool, true, false, cond, ◌&&◌, ◌||◌, List, [], ◌∷◌, ◌++◌, map, length, take, drop, ◌==◌, nat_le, slice_index}
use Rattle.std.proofs.lemmas.List.Edits.{sets}
use Rattle.transcript.specs.declared.Entry.{Entry}
use Rattle.chip.specs.declared.Chip.{Chip}
use Rattle.chip.specs.declared.Chunk.{Chunk}
use Rattle.chip.specs.declared.Update.{Update}
use Rattle.chip.specs.declared.Progress.{Progress}
use Rattle.chip.specs.declared.Progress.TheVariants.{Going, Refused11}
use Rattle.chip.specs.Chips.{attempted_by, masked_byte, pair}
use Rattle.chip.specs.Entries.{repeater, with_outcome, written}

-- a masked write of a register; a write of n bytes, its first the register; any step that leaves the chip's record alone, with
-- its entry as it is when the step is done
pub data Step : Type 0 where
  Open : Step
  Close : Step
  Send : ℕ → List ℕ → Step
  Mask : ℕ → ℕ → ℕ → Step
  Plain : Entry → Step

-- the entry that a step makes
abbrev pub emit : Step → Chip → Bool → Entry
emit Open c ok = repeater 1 ok
emit Close c ok = repeater 0 ok
emit (Send n bytes) c ok = written c.address n bytes ok
emit (Mask register value mask) c ok = written c.address 2 (pair register (masked_byte c register value mask)) ok
emit (Plain e) c ok = with_outcome e ok

-- the chip's record after it
abbrev pub chip_after : Step → Chip → Bool → Chip
chip_after Open c ok = c
chip_after Close c ok = c
chip_after (Send n bytes) c ok = attempted_by c n bytes ok
chip_after (Mask register value mask) c ok = attempted_by c 2 (pair register (masked_byte c register value mask)) ok
chip_after (Plain e) c ok = c

abbrev pub goes : Progress → Bool
goes Going = true
goes (Refused11 k) = false

-- which step is taken: a closing where the repeater is open, any other as long as none has failed
abbrev pub acts : Step → Progress → Bool → Bool
acts Open progress opened = goes progress
acts Close progress opened = opened
acts (Send n bytes) progress opened = goes progress
acts (Mask register value mask) progress opened = goes progress
acts (Plain e) progress opened = goes progress

-- "one outcome byte per entry (0 done, any other failed; a wait's is ignored)"
abbrev pub ok_for : List ℕ → ℕ → Step → Bool
ok_for os k Open = slice_index os k == 0
ok_for os k Close = slice_index os k == 0
ok_for os k (Send n bytes) = slice_index os k == 0
ok_for os k (Mask register value mask) = slice_index os k == 0
ok_for os k (Plain e) = slice_index os k == 0 || e.kind == 9

abbrev pub progress_of : Bool → ℕ → Progress
progress_of true k = Going
progress_of false k = Refused11 k

-- how far the call has come after a step that was taken: a failed closing changes nothing
abbrev pub progress_for : Step → Bool → ℕ → Progress → Progress
progress_for Open ok k progress = progress_of ok k
progress_for Close ok k progress = progress
progress_for (Send n bytes) ok k progress = progress_of ok k
progress_for (Mask register value mask) ok k progress = progress_of ok k
progress_for (Plain e) ok k progress = progress_of ok k

-- whether the repeater is open after it: once "its opening done", until a closing was tried
abbrev pub opened_for : Step → Bool → Bool → Bool
opened_for Open ok opened = ok
opened_for Close ok opened = false
opened_for (Send n bytes) ok opened = opened
opened_for (Mask register value mask) ok opened = opened
opened_for (Plain e) ok opened = opened

-- how many entries an open repeater still costs: its closing
abbrev pub closing_owed : Bool → ℕ
closing_owed true = 1
closing_owed false = 0

-- where a run stands: the log is the list of entries, or the room that they are laid out in
pub record Line (L : Type 0) : Type 0 where
  pub chip : Chip
  pub log : L
  pub count : ℕ
  pub progress : Progress
  pub opened : Bool

abbrev pub line : {L : Type 0} → Chip → L → ℕ → Progress → Bool → Line L
line chip log count progress opened = record { chip = chip; log = log; count = count; progress = progress; opened = opened }

module _ {L : Type 0} (put : L → ℕ → Entry → L) (os : List ℕ) where
  -- a step that is taken
  abbrev pub taken : Bool → Step → Line L → Line L
  taken ok s w =
      line (chip_after s w.chip ok) (put w.log w.count (emit s w.chip ok)) (w.count + 1)
      (progress_for s ok w.count w.progress) (opened_for s ok w.opened)

  unfoldable pub step : Step → Line L → Line L
  step s w = cond (acts s w.progress w.opened) (taken (ok_for os w.count s) s w) w

  unfoldable pub run : List Step → Line L → Line L
  run [] w = w
  run (s ∷ ss) w = run ss (step s w)

-- a run's log as a list: its entries, in order
abbrev pub in_list : List Entry → ℕ → Entry → List Entry
in_list es k e = es ++ (e ∷ [])

abbrev pub Trace : Type 0
Trace = Line (List Entry)

-- the trace of a program: its run from the start, with the list
unfoldable pub trace : List ℕ → List Step → Chip → Trace
trace os ss c = run in_list os ss (line c [] 0 Going false)

-- steps between an opening of the repeater and its closing
abbrev pub while_open : List Step → List Step
while_open ss = Open ∷ (ss ++ (Close ∷ []))

-- a masked write; under the mask 0xff it is the whole register's. #106: "writes to 0x14, 0x15 and 0x16 go through the shadow"
abbrev pub masked : ℕ → ℕ → ℕ → Update
masked register value mask = record { register = register; value = value; mask = mask }

abbrev pub update_step : Update → Step
update_step u = Mask u.register u.value u.mask

abbrev pub updates : List Update → List Step
updates us = map update_step us

-- all of a list pass a test
unfoldable pub every : {A : Type 0} → (A → Bool) → List A → Bool
every p [] = true
every p (a ∷ rest) = p a && every p rest

-- an update of a register that the record has
abbrev pub in_range : Update → Bool
in_range u = nat_le 5 u.register && nat_le u.register 31

abbrev pub all_in : List Update → Bool
all_in us = every in_range us

-- one write of a chunk: its first register, its bytes, and zeros
unfoldable pub chunk_bytes : List ℕ → ℕ → ℕ → List ℕ
chunk_bytes bs at size = sets ((5 + at) ∷ 0 ∷ 0 ∷ 0 ∷ 0 ∷ 0 ∷ 0 ∷ 0 ∷ []) 1 (take size (drop at bs))

abbrev pub chunk_step : List ℕ → Chunk → Step
chunk_step bs k = Send (k.size + 1) (chunk_bytes bs k.at k.size)

-- "chunks (7, 7, 2, then 7, 4)"
abbrev pub chunk_table : List Chunk
chunk_table =
    record { at = 0; size = 7 }
    ∷ record { at = 7; size = 7 }
    ∷ record { at = 14; size = 2 }
    ∷ record { at = 16; size = 7 }
    ∷ record { at = 23; size = 4 }
    ∷ []

abbrev pub within : Chunk → Bool
within k = nat_le 1 k.size && nat_le k.size 7 && nat_le (k.at + k.size) 27

-- the chunks from one index of the table to another, in one opening of the repeater
abbrev pub tuner_write : List ℕ → ℕ → ℕ → List Step
tuner_write bs from to = while_open (map (chunk_step bs) (drop from (take to chunk_table)))

-- a step that can stand between an opening and its closing: any but a closing
abbrev pub inner : Step → Bool
inner Open = true
inner Close = false
inner (Send n bytes) = true
inner (Mask register value mask) = true
inner (Plain e) = true

-- a step whose entry has its eight data bytes
abbrev pub eight : Step → Bool
eight Open = true
eight Close = true
eight (Send n bytes) = length bytes == 8
eight (Mask register value mask) = true
eight (Plain e) = length e.bytes == 8

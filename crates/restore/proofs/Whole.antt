-- The list is the fewest writes, and itself a section. Assumes nothing.
use Prim.Native.Nat.{ℕ, zero, suc, ◌+◌, ◌≤◌, ◌<◌}
use mathlib.Core.Path.{◌≡◌, refl}
use mathlib.Core.Bool.{Bool, true, false}
use mathlib.Core.List.{List, ◌++◌, map}
use native.Mathlib.Omega.{arith}
use borrow.Author.Tests.{le-leb}
use lib.ListN.{length, length-map}
use Rattle.transcript.specs.declared.Entry.{Entry}
use Rattle.transcript.specs.Table.{address_most, first_most, n_high, n_low, outcome_most, row_fits, target_most}
use Rattle.transcript.specs.Entries.{entry_fits, zeros}
use Rattle.transcript.specs.Sections.{AllFit, Parted, section_bytes}
use Rattle.transcript.proofs.Exact.{written_then_read}
use Rattle.restore.specs.Restore.{Exactly, Run, held_in, list_of, run_of, run_len, runs, slot, sure_in, write_of}
use Rattle.restore.proofs.Runs.{minimal, run_most, run_some}
use Rattle.restore.proofs.Listed.{most, sure_range}

-- "No list of writes of at most seven consecutive registers that names exactly these registers has fewer writes"
pub fewest : (address : ℕ) (es : List Entry) (ws : List Run) → Exactly (sure_in address es) ws → length (list_of address es) ≤ length ws
unfolding list_of
fewest address es ws x =
    let same = length-map (runs (sure_in address es) 32 0) (write_of address (held_in address es)) in
    let least = minimal (sure_in address es) 32 0 ws x in
    omega arith

-- a write of a run of one to seven registers fits the table of kinds
module _ (address : ℕ) (held : ℕ → ℕ) (chip : address ≤ 255) where
  fits_size : (i k : ℕ) → i ≤ 255 → k < 7 → entry_fits (write_of address held (run_of i (suc k))) ≡ true
  unfolding entry_fits row_fits write_of zeros slot outcome_most target_most n_low n_high address_most first_most
  fits_size i zero h l = rw (le-leb address 255 chip, le-leb i 255 h)
  fits_size i (suc zero) h l = rw (le-leb address 255 chip, le-leb i 255 h)
  fits_size i (suc (suc zero)) h l = rw (le-leb address 255 chip, le-leb i 255 h)
  fits_size i (suc (suc (suc zero))) h l = rw (le-leb address 255 chip, le-leb i 255 h)
  fits_size i (suc (suc (suc (suc zero)))) h l = rw (le-leb address 255 chip, le-leb i 255 h)
  fits_size i (suc (suc (suc (suc (suc zero))))) h l = rw (le-leb address 255 chip, le-leb i 255 h)
  fits_size i (suc (suc (suc (suc (suc (suc zero)))))) h l = rw (le-leb address 255 chip, le-leb i 255 h)
  fits_size i (suc (suc (suc (suc (suc (suc (suc k))))))) h l = absurd (omega arith)

  fits_run : (i m : ℕ) → i ≤ 255 → 0 < m → m ≤ 7 → entry_fits (write_of address held (run_of i m)) ≡ true
  fits_run i zero h a b = absurd (omega arith)
  fits_run i (suc k) h a b = fits_size i k h (omega arith)

  all_fit_lem : (sure : ℕ → Bool) → ((r : ℕ) → sure r ≡ true → r < 32) → (n i : ℕ) → AllFit (map (write_of address held) (runs sure n i))
  unfolding runs
  all_fit_lem sure bound zero i = tt
  all_fit_lem sure bound (suc n) i = go (sure i) refl (all_fit_lem sure bound n (i + run_len sure 7 i)) (all_fit_lem sure bound n (suc i))
    where
      go : (b : Bool) → sure i ≡ b → AllFit (map (write_of address held) (runs sure n (i + run_len sure 7 i)))
          → AllFit (map (write_of address held) (runs sure n (suc i))) → AllFit (map (write_of address held) (runs sure (suc n) i))
      go true t first second =
          let low = bound i t in
          rw t (fits_run i (run_len sure 7 i) (omega arith) (run_some sure 6 i t) (run_most sure 7 i), first)
      go false t first second = rw t second

-- "The list is itself a section, of I2C writes with outcome 0": the reader hands back its entries, whatever stands before it
pub list_section : (p : List ℕ) (address : ℕ) (es : List Entry) → address ≤ 255 → Parted (p ++ section_bytes (list_of address es)) p (list_of address es)
unfolding list_of
list_section p address es chip =
    let few = most address es in
    written_then_read p (list_of address es) (all_fit_lem address (held_in address es) chip (sure_in address es) (λ r t. (sure_range address es r t).1) 32 0) (omega arith)

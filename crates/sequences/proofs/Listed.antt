-- The restore list of a sequence's sections, and the record at its end (#110 over the calls): the list names exactly the registers that the record has not
-- marked doubtful, each once, with the shadow's byte. So a chip that is restored by it holds what the record says. Assumes nothing.
use Prim.Native.Nat.{ℕ, ◌+◌, ◌<◌}
use mathlib.Core.Path.{◌≡◌, refl, sym, ap, ◌∙◌}
use mathlib.Core.Bool.{true, false, not, false≢true}
use mathlib.Core.List.{List}
use native.Mathlib.Omega.{arith}
use borrow.Author.Tests.{le-leb, lt-ltb}
use lib.Dec.{leb, ltb}
use lib.ListN.{get_or}
use Rattle.transcript.specs.declared.Entry.{Entry}
use Rattle.transcript.specs.Sections.{section_bytes}
use Rattle.attempts.specs.Attempts.{Last, byte_in, doubt_in, last_in}
use Rattle.attempts.specs.Namings.Last.{Never, Tried}
use Rattle.sections.specs.Chain.{Good, end_to_end, together}
use Rattle.sections.proofs.Exact.{accepted}
use Rattle.restore.specs.Restore.{list_bytes, list_of, sure_in, times}
use Rattle.restore.proofs.Listed.{never, once, sent}
use Rattle.writes.specs.Lists.{init_array}
use Rattle.r82xx.specs.declared.Tuner.{Tuner}
use Rattle.sequences.specs.Sequences.{Sequence}
use Rattle.sequences.proofs.Demand.{doubtful_exactly, shadow_last}

-- of a register that was attempted the byte does not hang on what it was at first
byte_any : (l : Last) (a b : ℕ) → doubt_in l ≡ false → byte_in a l ≡ byte_in b l
byte_any Never a b h = absurd (false≢true (sym h))
byte_any (Tried byte ok) a b h = refl

module _ (t : Tuner) (es : List Entry) (s : Sequence t es) where
  abbrev address : ℕ
  address = t.chip.address

  -- the registers not doubtful after the entries are those that the record has not marked
  pub sure_marked : (i : ℕ) → i < 27 → sure_in address es (5 + i) ≡ not (get_or t.chip.doubtful i true)
  unfolding sure_in
  sure_marked i h =
      let low : leb 5 (5 + i) ≡ true = le-leb 5 (5 + i) (omega arith) in
      let high : ltb (5 + i) 32 ≡ true = lt-ltb (5 + i) 32 (omega arith) in
      rw (low, high) (ap not (sym (doubtful_exactly t es s i h)))

  -- such a register is named once, with the shadow's byte
  pub listed_once : (i : ℕ) → i < 27 → get_or t.chip.doubtful i true ≡ false → times address (list_of address es) (5 + i) ≡ 1
  listed_once i h d = once address es (5 + i) (sure_marked i h ∙ ap not d)

  pub listed_byte : (i : ℕ) → i < 27 → get_or t.chip.doubtful i true ≡ false → last_in address (list_of address es) (5 + i) ≡ Tried (get_or t.chip.shadow i 0) true
  listed_byte i h d =
      sent address es (5 + i) (sure_marked i h ∙ ap not d)
      ∙ ap (λ (b : ℕ). Tried b true)
      (byte_any (last_in address es (5 + i)) 0 (get_or init_array i 0) (sym (doubtful_exactly t es s i h) ∙ d) ∙ sym (shadow_last t es s i h))

  -- and a marked one by none
  pub doubtful_unlisted : (i : ℕ) → i < 27 → get_or t.chip.doubtful i true ≡ true → times address (list_of address es) (5 + i) ≡ 0
  doubtful_unlisted i h d = never address es (5 + i) (sure_marked i h ∙ ap not d)

  -- "From sections end to end in one slice, oldest first": the sequence's entries in any sections, as its calls leave them in their rooms
  pub list_of_sections : (ess : List (List Entry)) → Good ess → together ess ≡ es → list_bytes address (end_to_end ess) ≡ section_bytes (list_of address es)
  list_of_sections ess good all = ap (λ (xs : List Entry). section_bytes (list_of address xs)) ((accepted ess good).1 ∙ all)

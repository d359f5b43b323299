-- The list and a chip: each register that is not doubtful at the end is named by one write, with its byte, and no other by any; played on a chip that
-- holds anything it leaves the first as the sections did, and the others as they were. The premises stand at the head of crates/attempts/specs/Attempts.antt.
-- Assumes nothing.
use Prim.Native.Nat.{ℕ, zero, suc, ◌+◌, ◌-◌, ◌≤◌, ◌<◌}
use mathlib.Core.Path.{◌≡◌, refl, sym, ap, ap₂, ◌∙◌}
use mathlib.Core.Bool.{Bool, true, false, false≢true}
use mathlib.Core.List.{List, [], ◌∷◌, map}
use native.Mathlib.Omega.{arith}
use borrow.Author.Tests.{leb-true, ltb-true, eq-eqb, lt-leb}
use lib.Dec.{leb, ltb}
use lib.ListN.{length, get_or, length-map}
use Rattle.transcript.specs.declared.Entry.{Entry}
use Rattle.attempts.specs.Attempts.{Last, Played, Regs, byte_in, done, doubt_in, last_from, last_in, names, sent_to, tuner_at}
use Rattle.attempts.specs.Namings as any
use Rattle.attempts.specs.Namings.Last.{Never, Tried}
use Rattle.attempts.proofs.Played.{last_done, last_never}
use Rattle.attempts.proofs.Doubt.{sure_byte}
use Rattle.restore.specs.Restore.{Run, held_in, in_run, list_of, runs, slot, sure_in, times, runs_with, write_of}
use Rattle.restore.proofs.Runs.{doubt_none, few, at_doubt, of_run, sure_one}

module _ (address : ℕ) (held : ℕ → ℕ) where
  -- a write names its run
  names_write : (w : Run) (r : ℕ) → names address (write_of address held w) r ≡ in_run r w
  unfolding names write_of
  names_write w r =
      let size : suc w.size - 1 ≡ w.size = omega arith in
      rw (eq-eqb address address refl, size)

  eighth : (w : Run) (j : ℕ) → j < 7 → get_or (write_of address held w).bytes (j + 1) 0 ≡ slot held w.first w.size j
  unfolding write_of
  eighth w zero h = refl
  eighth w (suc zero) h = refl
  eighth w (suc (suc zero)) h = refl
  eighth w (suc (suc (suc zero))) h = refl
  eighth w (suc (suc (suc (suc zero)))) h = refl
  eighth w (suc (suc (suc (suc (suc zero))))) h = refl
  eighth w (suc (suc (suc (suc (suc (suc zero)))))) h = refl
  eighth w (suc (suc (suc (suc (suc (suc (suc j))))))) h = absurd (omega arith)

  in_slot_lem : (i m j : ℕ) → j < m → slot held i m j ≡ held (i + j)
  unfolding slot
  in_slot_lem i m j h = rw (lt-leb m j h)

  -- and sends its bytes
  sent_write : (w : Run) (r : ℕ) → in_run r w ≡ true → w.size ≤ 7 → sent_to (write_of address held w) r ≡ held r
  unfolding write_of
  sent_write w r t h =
      let at = of_run r w t in
      let j = r - w.first in
      let back : w.first + (r - w.first) ≡ r = omega arith in
      eighth w (r - w.first) (omega arith) ∙ in_slot_lem w.first w.size (r - w.first) (omega arith) ∙ ap held back

  done_write : (w : Run) → done (write_of address held w) ≡ true
  unfolding write_of
  done_write w = refl

  -- the writes that do not name a register count for nothing
  times_within : (ws : List Run) (r : ℕ) → times address (map (write_of address held) ws) r ≡ length (runs_with r ws)
  times_within [] r = refl
  times_within (w ∷ ws) r = go (in_run r w) refl (times_within ws r)
    where
      go : (b : Bool) → in_run r w ≡ b → times address (map (write_of address held) ws) r ≡ length (runs_with r ws)
          → times address (map (write_of address held) (w ∷ ws)) r ≡ length (runs_with r (w ∷ ws))
      go true t h = rw (names_write w r, t, h)
      go false t h = rw (names_write w r, t) h

  one_named : (e : Entry) (fs : List Entry) (r : ℕ) (l : Last) → names address e r ≡ true
      → last_from address l (e ∷ fs) r ≡ last_from address (Tried (sent_to e r) (done e)) fs r
  unfolding any.last_from
  one_named e fs r l h = rw h

  one_other : (e : Entry) (fs : List Entry) (r : ℕ) (l : Last) → names address e r ≡ false → last_from address l (e ∷ fs) r ≡ last_from address l fs r
  unfolding any.last_from
  one_other e fs r l h = rw h

  abbrev after : ℕ → Last → List Run → Last
  after r l ws = last_from address l (map (write_of address held) ws) r

  last_within : (ws : List Run) (r : ℕ) (l : Last) → after r l ws ≡ after r l (runs_with r ws)
  last_within [] r l = refl
  last_within (w ∷ ws) r l =
      go (in_run r w) refl (last_within ws r (Tried (sent_to (write_of address held w) r) (done (write_of address held w)))) (last_within ws r l)
    where
      go : (b : Bool) → in_run r w ≡ b
          → after r (Tried (sent_to (write_of address held w) r) (done (write_of address held w))) ws ≡ after r (Tried (sent_to (write_of address held w) r) (done (write_of address held w))) (runs_with r ws)
          → after r l ws ≡ after r l (runs_with r ws) → after r l (w ∷ ws) ≡ after r l (runs_with r (w ∷ ws))
      go true t first second =
          let kept : runs_with r (w ∷ ws) ≡ w ∷ runs_with r ws = rw t in
          let named = names_write w r ∙ t in
          one_named (write_of address held w) (map (write_of address held) ws) r l named
          ∙ first
          ∙ sym (one_named (write_of address held w) (map (write_of address held) (runs_with r ws)) r l named)
          ∙ ap (after r l) (sym kept)
      go false t first second =
          let left : runs_with r (w ∷ ws) ≡ runs_with r ws = rw t in
          one_other (write_of address held w) (map (write_of address held) ws) r l (names_write w r ∙ t) ∙ second ∙ ap (after r l) (sym left)

-- a sure register is one of 0x05..0x1f without doubt
pub sure_range : (address : ℕ) (es : List Entry) (r : ℕ) → sure_in address es r ≡ true → (5 ≤ r) × (r < 32) × (doubt_in (last_in address es r) ≡ false)
unfolding sure_in
sure_range address es r h = go (leb 5 r) (ltb r 32) (doubt_in (last_in address es r)) refl refl refl
  where
    go : (a b d : Bool) → leb 5 r ≡ a → ltb r 32 ≡ b → doubt_in (last_in address es r) ≡ d → (5 ≤ r) × (r < 32) × (doubt_in (last_in address es r) ≡ false)
    go true true false s t u = (leb-true 5 r s, ltb-true r 32 t, u)
    go true true true s t u = absurd (false≢true (rw (s, t, u) at h))
    go true false d s t u = absurd (false≢true (rw (s, t) at h))
    go false b d s t u = absurd (false≢true (rw s at h))

module _ (address : ℕ) (es : List Entry) where
  -- "names each register not doubtful at the end once .. and names no doubtful one"
  pub once : (r : ℕ) → sure_in address es r ≡ true → times address (list_of address es) r ≡ 1
  unfolding list_of
  once r t =
      let at = sure_range address es r t in
      let one = sure_one (sure_in address es) 32 0 r (omega arith) (omega arith) t in
      times_within address (held_in address es) (runs (sure_in address es) 32 0) r ∙ ap length one.1

  pub never : (r : ℕ) → sure_in address es r ≡ false → times address (list_of address es) r ≡ 0
  unfolding list_of
  never r d = times_within address (held_in address es) (runs (sure_in address es) 32 0) r ∙ ap length (doubt_none (sure_in address es) 32 0 r d)

  -- "with its byte"
  pub sent : (r : ℕ) → sure_in address es r ≡ true → last_in address (list_of address es) r ≡ Tried (byte_in 0 (last_in address es r)) true
  unfolding list_of any.last_from
  sent r t =
      let at = sure_range address es r t in
      let one = sure_one (sure_in address es) 32 0 r (omega arith) (omega arith) t in
      let w = one.0 in
      let held = held_in address es in
      let told : held_in address es r ≡ byte_in 0 (last_in address es r) = rw t in
      let named : names address (write_of address held w) r ≡ true = names_write address held w r ∙ one.2 in
      last_within address held (runs (sure_in address es) 32 0) r Never
      ∙ ap (λ (ws : List Run). last_from address Never (map (write_of address held) ws) r) one.1
      ∙ one_named address held (write_of address held w) [] r Never named
      ∙ ap₂ Tried (sent_write address held w r one.2 one.3 ∙ told) (done_write address held w)

  pub unsaid : (r : ℕ) → sure_in address es r ≡ false → last_in address (list_of address es) r ≡ Never
  unfolding list_of any.last_from
  unsaid r d =
      last_within address (held_in address es) (runs (sure_in address es) 32 0) r Never
      ∙ ap (λ (ws : List Run). last_from address Never (map (write_of address (held_in address es)) ws) r) (doubt_none (sure_in address es) 32 0 r d)

  -- "Played .. on a chip holding anything, it leaves those registers as the sections did, under demand 3's premises"
  module _ (was left before after : Regs) (first : Played address es was left) (then : Played address (list_of address es) before after) where
    pub restored : (r : ℕ) → sure_in address es r ≡ true → after r ≡ left r
    restored r t =
        let at = sure_range address es r t in
        last_done (tuner_at address) (list_of address es) before after then r (byte_in 0 (last_in address es r)) (sent r t)
        ∙ sym (sure_byte (tuner_at address) es was left r 0 first at.2)

    -- "and the others as they were"
    pub untouched : (r : ℕ) → sure_in address es r ≡ false → after r ≡ before r
    untouched r d = last_never (tuner_at address) (list_of address es) before after then r (unsaid r d)

  -- "it never needs more than 14 writes": 27 registers, and between two runs a register that is not sure or a run of seven
  pub most : length (list_of address es) ≤ 14
  unfolding list_of sure_in
  most =
      let sure = sure_in address es in
      let from-five : runs sure 32 0 ≡ runs sure 27 5 =
      at_doubt sure 31 0 refl ∙ at_doubt sure 30 1 refl ∙ at_doubt sure 29 2 refl ∙ at_doubt sure 28 3 refl ∙ at_doubt sure 27 4 refl in
      let half = few sure 32 (λ r t. (sure_range address es r t).1) 27 5 in
      let same : length (map (write_of address (held_in address es)) (runs sure 32 0)) ≡ length (runs sure 27 5) =
      length-map (runs sure 32 0) (write_of address (held_in address es)) ∙ ap length from-five in
      omega arith

-- The list from what is told of registers: that it is the one that the entries' own words give, its runs one after the other, and its bytes in a room.
-- Assumes nothing.
use Prim.Native.Nat.{ℕ, zero, suc, ◌+◌, ◌-◌, ◌*◌, ◌≤◌, ◌<◌}
use mathlib.Core.Path.{◌≡◌, refl, sym, ap, ap₂, ◌∙◌}
use mathlib.Core.Bool.{Bool, true, false}
use mathlib.Core.List.{List, [], ◌∷◌, map}
use Rattle.std.specs.Prelude.{None, Some}
use native.Mathlib.Omega.{arith}
use borrow.Author.Tests.{le-leb, lt-leb}
use lib.ListN.{length, length-map, get_or-eq_default}
use lib.Seq.{sets}
use Rattle.wire.proofs.Stores.{sets_append}
use Rattle.transcript.specs.declared.Entry.{Entry}
use Rattle.transcript.specs.Entries.{Eight, Eights, entry_bytes}
use Rattle.transcript.specs.Sections.{entries_bytes, section_bytes, trailer_bytes}
use Rattle.transcript.proofs.Laid.{length-entry_bytes, section_laid}
use Rattle.restore.specs.Restore.{Run, run_of, run_len, runs, slot, write_of}
use Rattle.restore.proofs.Runs.{at_doubt, at_sure, run_most, run_some}
use Rattle.restoring.specs.Standing.{Known, next_sure, sure_of}

-- past the last register nothing is told
pub none_past : (known : List Known) (r : ℕ) → length known ≤ r → false ≡ sure_of known r
unfolding sure_of
none_past known r h = rw (get_or-eq_default known None h)

-- ---- the next sure register, and a run, by a loop

module _ (sure : ℕ → Bool) where
  pub sure_found : (n i : ℕ) → 0 < n → sure i ≡ true → Some i ≡ next_sure sure n i
  unfolding next_sure
  sure_found zero i h t = absurd (omega arith)
  sure_found (suc n) i h t = rw t

  pub sure_on : (n i : ℕ) → i < n → sure i ≡ false → next_sure sure (n - (i + 1)) (i + 1) ≡ next_sure sure (n - i) i
  unfolding next_sure
  sure_on n i h t =
      let more : n - i ≡ suc (n - (i + 1)) = omega arith in
      let next : i + 1 ≡ suc i = omega arith in
      rw (more, t, next)

  pub sure_none : (n i : ℕ) → n ≤ i → None ≡ next_sure sure (n - i) i
  unfolding next_sure
  sure_none n i h =
      let none_left : n - i ≡ 0 = omega arith in
      rw none_left

  pub run_stops : (i k : ℕ) → k < 7 → sure (i + k) ≡ false → k ≡ k + run_len sure (7 - k) (i + k)
  unfolding run_len
  run_stops i k h t =
      let more : 7 - k ≡ suc (7 - (k + 1)) = omega arith in
      rw (more, t) (omega arith)

  pub run_on : (i k : ℕ) → k < 7 → sure (i + k) ≡ true → k + 1 + run_len sure (7 - (k + 1)) (i + (k + 1)) ≡ k + run_len sure (7 - k) (i + k)
  unfolding run_len
  run_on i k h t =
      let more : 7 - k ≡ suc (7 - (k + 1)) = omega arith in
      let next : i + (k + 1) ≡ suc (i + k) = omega arith in
      rw (more, t, next) (omega arith)

  pub run_full : (i k : ℕ) → 7 ≤ k → k ≡ k + run_len sure (7 - k) (i + k)
  unfolding run_len
  run_full i k h =
      let none_left : 7 - k ≡ 0 = omega arith in
      rw none_left (omega arith)

-- ---- one write

module _ (held : ℕ → ℕ) (i m j : ℕ) where
  pub slot_past : m ≤ j → 0 ≡ slot held i m j
  unfolding slot
  slot_past h = rw (le-leb m j h)

  pub slot_in : j < m → held (i + j) ≡ slot held i m j
  unfolding slot
  slot_in h = rw (lt-leb m j h)

pub write_told : (address : ℕ) (held : ℕ → ℕ) (i m : ℕ) {a b d e f g h : ℕ} → a ≡ slot held i m 0 → b ≡ slot held i m 1 → d ≡ slot held i m 2 → e ≡ slot held i m 3
    → f ≡ slot held i m 4 → g ≡ slot held i m 5 → h ≡ slot held i m 6
    → record { kind = 2; outcome = 0; target = address; n = m + 1; address = 0; bytes = i ∷ a ∷ b ∷ d ∷ e ∷ f ∷ g ∷ h ∷ [] } ≡ write_of address held (run_of i m)
unfolding write_of
write_told address held i m p q r s t u v =
    let size : m + 1 ≡ suc m = omega arith in
    rw (size, p, q, r, s, t, u, v)

-- ---- the runs, one after the other

-- the runs from i on
abbrev pub left : (ℕ → Bool) → ℕ → List Run
left sure i = runs sure (32 - i) i

module _ (sure : ℕ → Bool) where
  pub few_runs : (n i : ℕ) → length (runs sure n i) ≤ n
  unfolding runs
  few_runs zero i = omega arith
  few_runs (suc n) i = go (sure i) refl (few_runs n (i + run_len sure 7 i)) (few_runs n (suc i))
    where
      go : (b : Bool) → sure i ≡ b → length (runs sure n (i + run_len sure 7 i)) ≤ n → length (runs sure n (suc i)) ≤ n → length (runs sure (suc n) i) ≤ suc n
      go true t h k = rw t (omega arith)
      go false t h k = rw t (omega arith)

  -- a register that is not sure begins no run
  past : (i : ℕ) → i < 32 → sure i ≡ false → left sure i ≡ left sure (suc i)
  past i h t =
      let more : 32 - i ≡ suc (32 - suc i) = omega arith in
      ap (λ (k : ℕ). runs sure k i) more ∙ at_doubt sure (32 - suc i) i t

  -- what the search from i on finds
  pub record Found (i j : ℕ) : Type 0 where
    pub from : i ≤ j
    pub below : j < 32
    pub sure_there : sure j ≡ true
    pub same : left sure j ≡ left sure i

  found_in : (n i j : ℕ) → n ≡ 32 - i → Some j ≡ next_sure sure n i → Found i j
  unfolding next_sure
  found_in zero i j h l = absurd (cc)
  found_in (suc n) i j h l = go (sure i) refl (λ on. found_in n (suc i) j (omega arith) on)
    where
      go : (b : Bool) → sure i ≡ b → (Some j ≡ next_sure sure n (suc i) → Found (suc i) j) → Found i j
      go true t rest =
          let here : Some j ≡ Some i = l ∙ rw t in
          let at : j ≡ i = cc in
          record { from = omega arith; below = omega arith; sure_there = ap sure at ∙ t; same = ap (left sure) at }
      go false t rest =
          let on : Some j ≡ next_sure sure n (suc i) = l ∙ rw t in
          let further = rest on in
          record { from = omega (arith, further.from); below = further.below; sure_there = further.sure_there; same = further.same ∙ sym (past i (omega arith) t) }

  pub found : (i j : ℕ) → Some j ≡ next_sure sure (32 - i) i → Found i j
  found i j h = found_in (32 - i) i j refl h

  none_in : (n i : ℕ) → n ≡ 32 - i → None ≡ next_sure sure n i → left sure i ≡ []
  unfolding next_sure runs
  none_in zero i h l = ap (λ (k : ℕ). runs sure k i) (sym h)
  none_in (suc n) i h l = go (sure i) refl (λ on. none_in n (suc i) (omega arith) on)
    where
      go : (b : Bool) → sure i ≡ b → (None ≡ next_sure sure n (suc i) → left sure (suc i) ≡ []) → left sure i ≡ []
      go true t rest =
          let here : Some i ≡ None = sym (l ∙ rw t) in
          absurd (cc)
      go false t rest = past i (omega arith) t ∙ rest (l ∙ rw t)

  pub no_more : (i : ℕ) → None ≡ next_sure sure (32 - i) i → left sure i ≡ []
  no_more i h = none_in (32 - i) i refl h

  module _ (none_above : (r : ℕ) → 32 ≤ r → sure r ≡ false) where
    enough : (n m i : ℕ) → 32 ≤ i + n → 32 ≤ i + m → runs sure n i ≡ runs sure m i
    unfolding runs
    enough zero zero i h k = refl
    enough zero (suc m) i h k = enough zero m (suc i) (omega arith) (omega arith) ∙ sym (at_doubt sure m i (none_above i (omega arith)))
    enough (suc n) zero i h k = at_doubt sure n i (none_above i (omega arith)) ∙ enough n zero (suc i) (omega arith) (omega arith)
    enough (suc n) (suc m) i h k =
        go (sure i) refl (λ some. enough n m (i + run_len sure 7 i) (omega arith) (omega arith)) (enough n m (suc i) (omega arith) (omega arith))
      where
        go : (b : Bool) → sure i ≡ b → (0 < run_len sure 7 i → runs sure n (i + run_len sure 7 i) ≡ runs sure m (i + run_len sure 7 i)) → runs sure n (suc i) ≡ runs sure m (suc i)
            → runs sure (suc n) i ≡ runs sure (suc m) i
        go true t first second =
            at_sure sure n i t ∙ ap (λ (ws : List Run). run_of i (run_len sure 7 i) ∷ ws) (first (run_some sure 6 i t)) ∙ sym (at_sure sure m i t)
        go false t first second = at_doubt sure n i t ∙ second ∙ sym (at_doubt sure m i t)

    -- the first of the runs that are left
    pub one_run : (i m : ℕ) → i < 32 → sure i ≡ true → m ≡ run_len sure 7 i → left sure i ≡ run_of i m ∷ left sure (i + m)
    one_run i m h t size =
        let more : 32 - i ≡ suc (31 - i) = omega arith in
        let some = run_some sure 6 i t in
        ap (λ (k : ℕ). runs sure k i) more
        ∙ at_sure sure (31 - i) i t
        ∙ ap (λ (k : ℕ). run_of i k ∷ runs sure (31 - i) (i + k)) (sym size)
        ∙ ap (λ (ws : List Run). run_of i m ∷ ws) (enough (31 - i) (32 - (i + m)) (i + m) (omega arith) (omega arith))

    pub run_size : (i m : ℕ) → sure i ≡ true → m ≡ run_len sure 7 i → (0 < m) × (m ≤ 7)
    run_size i m t size = (omega (arith, run_some sure 6 i t), omega (arith, run_most sure 7 i))

-- ---- their writes in a room

module _ (address : ℕ) (held : ℕ → ℕ) where
  eight : (w : Run) → Eight (write_of address held w)
  unfolding write_of
  eight w = refl

  pub eights : (ws : List Run) → Eights (map (write_of address held) ws)
  eights [] = tt
  eights (w ∷ ws) = (eight w, eights ws)

  -- one write more
  pub laid_on : (room next : List ℕ) (k : ℕ) (w : Run) (ws vs : List Run) (e : Entry) → vs ≡ w ∷ ws → e ≡ write_of address held w → next ≡ sets room (16 * k) (entry_bytes e)
      → sets next (16 * (k + 1)) (entries_bytes (map (write_of address held) ws)) ≡ sets room (16 * k) (entries_bytes (map (write_of address held) vs))
  unfolding entries_bytes
  laid_on room next k w ws vs e split is was =
      let after : 16 * k + length (entry_bytes (write_of address held w)) ≡ 16 * (k + 1) = omega (arith, length-entry_bytes (write_of address held w) (eight w)) in
      rw (was, is, split, sets_append, after)

  -- and the trailer
  pub laid_all : (room₀ room next : List ℕ) (k : ℕ) (ws : List Run) → room ≡ sets room₀ 0 (entries_bytes (map (write_of address held) ws)) → k ≡ length ws
      → next ≡ sets room (16 * k) (trailer_bytes k) → next ≡ sets room₀ 0 (section_bytes (map (write_of address held) ws))
  laid_all room₀ room next k ws was count sealed =
      let size : k ≡ length (map (write_of address held) ws) = count ∙ sym (length-map ws (write_of address held)) in
      sealed
      ∙ ap₂ (λ (l : List ℕ) (m : ℕ). sets l (16 * m) (trailer_bytes m)) was size
      ∙ section_laid room₀ (map (write_of address held) ws) (eights ws)

pub none_above : (known : List Known) → length known ≡ 32 → (r : ℕ) → 32 ≤ r → sure_of known r ≡ false
none_above known h r k = sym (none_past known r (omega arith))

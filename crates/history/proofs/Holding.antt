-- A record that holds of a chip goes on holding of it. It follows entries that would have led to it: one done write for each register that it is sure of, which on a chip
-- that it holds of change nothing. So what is proved of a record that follows entries needs no fresh one to begin with. Assumes nothing.
use Prim.Native.Nat.{ℕ, zero, suc, ◌+◌, ◌-◌, ◌≤◌, ◌<◌}
use mathlib.Core.Path.{◌≡◌, refl, sym, ap, subst, ◌∙◌}
use mathlib.Core.Bool.{Bool, true, false, cond, true≢false}
use mathlib.Core.List.{List, [], ◌∷◌, ◌++◌, append-nil}
use native.Mathlib.Omega.{arith}
use borrow.Author.Tests.{eqb-false, eqb-true, ltb-false, ltb-true, ne_eqb}
use lib.Dec.{eqb, ltb}
use lib.ListN.{get_or, length}
use Rattle.transcript.specs.declared.Entry.{Entry}
use Rattle.attempts.specs.Attempts.{Lands, Last, Played, Regs, byte_in, doubt_in, last_in, names, sent_to, tuner_at}
use Rattle.attempts.specs.Namings as any
use Rattle.attempts.specs.Namings.Last.{Never, Tried}
use Rattle.attempts.proofs.Doubt.{sure_byte}
use Rattle.attempts.proofs.Lasts.{last_same, last_snoc}
use Rattle.attempts.proofs.Named.{below_first, named, past_last}
use Rattle.attempts.proofs.Played.{played_append}
use Rattle.chip.specs.declared.Chip.{Chip}
use Rattle.chip.specs.declared.Progress.TheVariants.{Going}
use Rattle.chip.specs.Chips.{pair}
use Rattle.chip.specs.Entries.{written}
use Rattle.chip.specs.Steps.{Step, every, in_list, line, trace}
use Rattle.chip.proofs.Laws.{run_address}
use Rattle.history.specs.Histories.{Tracks}
use Rattle.history.specs.Holding.{Holds}
use Rattle.history.specs.Programs.{beside, fine}
use Rattle.history.proofs.Demand.{tracks_aside}
use Rattle.history.proofs.Tracked.{tracks_trace}

-- a record that follows entries holds of every chip that they were played on
pub tracked_holds : (init : List ℕ) (c : Chip) (es : List Entry) → Tracks init c es → (before now : Regs) → Played c.address es before now → Holds c now
tracked_holds init c es t before now p i h d =
    sure_byte (tuner_at c.address) es before now (5 + i) (get_or init i 0) p (sym (t.doubtful i h) ∙ d) ∙ sym (t.shadow i h)

-- a program leaves the chip's address
pub trace_address : (os : List ℕ) (ss : List Step) (c : Chip) → (trace os ss c).chip.address ≡ c.address
unfolding trace
trace_address os ss c = run_address in_list os ss (line c [] 0 Going false)

module _ (c : Chip) where
  abbrev mark : ℕ → Bool
  mark n = get_or c.doubtful n true

  -- the write of register 5 + n
  abbrev wrote : ℕ → Entry
  wrote n = written c.address 2 (pair (5 + n) (get_or c.shadow n 0)) true

  abbrev one : ℕ → List Entry
  one n = cond (mark n) [] (wrote n ∷ [])

  -- one for each of the first n registers that it is sure of
  unfoldable pub recall : ℕ → List Entry
  recall zero = []
  recall (suc n) = recall n ++ one n

  apart : (n r : ℕ) → eqb r (5 + n) ≡ false → names c.address (wrote n) r ≡ false
  apart n r e = go (ltb r (5 + n)) refl
    where
      go : (b : Bool) → ltb r (5 + n) ≡ b → names c.address (wrote n) r ≡ false
      go true l = below_first c.address (wrote n) r (ltb-true r (5 + n) l)
      go false l =
          let past : 5 + n < r = omega (arith, ltb-false r (5 + n) l, eqb-false r (5 + n) e) in
          past_last c.address (wrote n) r (omega arith)

  byte_sent : (n : ℕ) → sent_to (wrote n) (5 + n) ≡ get_or c.shadow n 0
  byte_sent n =
      let place : 5 + n - (5 + n) + 1 ≡ 1 = omega arith in
      ap (λ (j : ℕ). get_or (pair (5 + n) (get_or c.shadow n 0)) j 0) place

  -- a write of another register says nothing of this one
  other_one : (n r : ℕ) (es : List Entry) → names c.address (wrote n) r ≡ false → last_in c.address (es ++ one n) r ≡ last_in c.address es r
  other_one n r es h = go (mark n)
    where
      go : (m : Bool) → last_in c.address (es ++ cond m [] (wrote n ∷ [])) r ≡ last_in c.address es r
      go true = ap (λ (l : List Entry). last_in c.address l r) (append-nil es)
      go false = last_same (tuner_at c.address) es (wrote n) r h

  later : (n i : ℕ) → n ≤ i → last_in c.address (recall n) (5 + i) ≡ Never
  unfolding recall any.last_from
  later zero i h = refl
  later (suc n) i h = other_one n (5 + i) (recall n) (apart n (5 + i) (ne_eqb (5 + i) (5 + n) (λ e. omega arith))) ∙ later n i (omega arith)

  abbrev said : ℕ → Last
  said i = cond (mark i) Never (Tried (get_or c.shadow i 0) true)

  itself : (n : ℕ) → last_in c.address (recall n ++ one n) (5 + n) ≡ said n
  itself n = go (mark n)
    where
      go : (m : Bool) → last_in c.address (recall n ++ cond m [] (wrote n ∷ [])) (5 + n) ≡ cond m Never (Tried (get_or c.shadow n 0) true)
      go true = ap (λ (l : List Entry). last_in c.address l (5 + n)) (append-nil (recall n)) ∙ later n n (omega arith)
      go false =
          last_snoc (tuner_at c.address) (recall n) (wrote n) (5 + n)
          ∙ rw (named c.address (wrote n) (5 + n) refl refl (omega arith) (omega arith)) (ap (λ (b : ℕ). Tried b true) (byte_sent n))

  there : (n i : ℕ) → i < n → last_in c.address (recall n) (5 + i) ≡ said i
  unfolding recall
  there zero i h = absurd (omega arith)
  there (suc n) i h = go (λ l. there n i l) (ltb i n) refl
    where
      go : (i < n → last_in c.address (recall n) (5 + i) ≡ said i) → (b : Bool) → ltb i n ≡ b → last_in c.address (recall n ++ one n) (5 + i) ≡ said i
      go before true l =
          let less : i < n = ltb-true i n l in
          other_one n (5 + i) (recall n) (apart n (5 + i) (ne_eqb (5 + i) (5 + n) (λ e. omega arith))) ∙ before less
      go before false l =
          let is : n ≡ i = omega (arith, ltb-false i n l) in
          subst (λ (j : ℕ). last_in c.address (recall n ++ one n) (5 + j) ≡ said j) is (itself n)

  doubt_said : (m : Bool) (b : ℕ) → m ≡ doubt_in (cond m Never (Tried b true))
  doubt_said true b = refl
  doubt_said false b = refl

  byte_said : (m : Bool) (b : ℕ) → b ≡ byte_in b (cond m Never (Tried b true))
  byte_said true b = refl
  byte_said false b = refl

  -- any record follows them, its own shadow where none names a register
  pub recall_tracks : c.address ≤ 255 → length c.doubtful ≡ 27 → length c.shadow ≡ 27 → Tracks c.shadow c (recall 27)
  recall_tracks a m b =
      record {
        chip = a;
        marks = m;
        bytes = b;
        doubtful = λ i h. doubt_said (mark i) (get_or c.shadow i 0) ∙ sym (ap doubt_in (there 27 i h));
        shadow = λ i h. byte_said (mark i) (get_or c.shadow i 0) ∙ sym (ap (byte_in (get_or c.shadow i 0)) (there 27 i h));
      }

  -- and a chip that it holds of is as if they had been played on it
  module _ (chip : Regs) (holds : Holds c chip) where
    lands_one : (n : ℕ) → n < 27 → mark n ≡ false → Lands c.address (wrote n) chip chip
    lands_one n h m = record { kept = λ r t. refl; sent = λ r t d. go r t (eqb r (5 + n)) refl }
      where
        go : (r : ℕ) → names c.address (wrote n) r ≡ true → (b : Bool) → eqb r (5 + n) ≡ b → chip r ≡ sent_to (wrote n) r
        go r t true e = subst (λ (q : ℕ). chip q ≡ sent_to (wrote n) q) (sym (eqb-true r (5 + n) e)) (holds n h m ∙ sym (byte_sent n))
        go r t false e = absurd (true≢false (sym t ∙ apart n r e))

    played_one : (n : ℕ) → n < 27 → Played c.address (one n) chip chip
    played_one n h = go (mark n) refl
      where
        go : (m : Bool) → mark n ≡ m → Played c.address (cond m [] (wrote n ∷ [])) chip chip
        go true e = λ r. refl
        go false e = (chip, lands_one n h e, λ r. refl)

    pub recall_played : (n : ℕ) → n ≤ 27 → Played c.address (recall n) chip chip
    unfolding recall
    recall_played zero h = λ r. refl
    recall_played (suc n) h = played_append (tuner_at c.address) (recall n) (one n) chip chip chip (recall_played n (omega arith)) (played_one n (omega arith))

  module _ (small : c.address ≤ 255) (marks : length c.doubtful ≡ 27) (bytes : length c.shadow ≡ 27) (chip after : Regs) (holds : Holds c chip) where
    holds_on : (d : Chip) (es : List Entry) → d.address ≡ c.address → Tracks c.shadow d (recall 27 ++ es) → Played c.address es chip after → Holds d after
    holds_on d es same t p =
        tracked_holds c.shadow d (recall 27 ++ es) t chip after
        (subst (λ (a : ℕ). Played a (recall 27 ++ es) chip after) (sym same)
        (played_append (tuner_at c.address) (recall 27) es chip chip after (recall_played chip holds 27 (omega arith)) p))

    -- so the record that a program leaves holds of every chip that its entries were played on, wherever the program stopped
    pub trace_holds : (os : List ℕ) (ss : List Step) → every fine ss ≡ true → Played c.address (trace os ss c).log chip after → Holds (trace os ss c).chip after
    trace_holds os ss f p =
        holds_on (trace os ss c).chip (trace os ss c).log (trace_address os ss c)
        (tracks_trace c.shadow c (recall 27) os ss f (recall_tracks small marks bytes)) p

    -- and a program that attempts no register leaves it as it was
    pub beside_holds : (k : Chip) (os : List ℕ) (ss : List Step) → every beside ss ≡ true → Played c.address (trace os ss k).log chip after → Holds c after
    beside_holds k os ss b p = holds_on c (trace os ss k).log refl (tracks_aside c.shadow c (recall 27) k os ss b (recall_tracks small marks bytes)) p

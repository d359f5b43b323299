-- A call as crate `chip` has it, `call_of`, in a history: the entries used there are the very ones that the reader finds in the room that the call
-- hands back, and a call is one more of the sequence where its program is fine and its record's chip is the trace's.
-- A call of the tuner is an instance: R is its record, `chip_of` the chip in it. Assumes nothing.
use Prim.Native.Nat.{ℕ, ◌+◌, ◌*◌, ◌≤◌}
use mathlib.Core.Path.{◌≡◌, refl, sym, ap, subst, ◌∙◌}
use mathlib.Core.Bool.{Bool, true, false, false≢true}
use mathlib.Core.List.{List, [], ◌++◌, append-nil}
use native.Mathlib.Omega.{arith}
use borrow.Author.Tests.{ltb-false}
use lib.Dec.{eqb, ltb}
use lib.ListN.{length, take, drop, set}
use lib.Seq.{sets, sets-eq, take_at}
use Rattle.transcript.specs.declared.Entry.{Entry}
use Rattle.transcript.specs.Sections.{Parted, section_bytes}
use Rattle.transcript.proofs.Laid.{length-section_bytes}
use Rattle.transcript.proofs.Exact.{fit_eights}
use Rattle.refusals.specs.declared.Answer.{Answer}
use Rattle.refusals.specs.declared.Answer.TheVariants.{Done, Refused, Stopped}
use Rattle.chip.specs.declared.Chip.{Chip}
use Rattle.chip.specs.declared.Progress.{Progress}
use Rattle.chip.specs.declared.Progress.TheVariants.{Going, Refused11}
use Rattle.chip.specs.Calls.{Called, answer_of, call_entries, call_of, called, too_short, performed}
use Rattle.chip.specs.Steps.{Step, Trace, every, trace}
use Rattle.history.specs.Programs.{fine}
use Rattle.history.specs.Histories.{Cut, History, is_done, stops, progress_in}
use Rattle.history.specs.Histories.History.{called as more}
use Rattle.history.proofs.Cuts.{cut_trace}
use Rattle.history.proofs.Progressed.{told_trace}
use Rattle.history.proofs.Fitted.{fit_trace, most_trace, read_trace}

-- the room of a call that is not refused for what was lent suffices for its most entries
pub lent_room : (n m room outcomes replies : ℕ) → too_short n m room outcomes replies ≡ 0 → 16 * n + 8 ≤ room
unfolding too_short
lent_room n m room outcomes replies h = go (ltb room (16 * n + 8)) refl
  where
    go : (b : Bool) → ltb room (16 * n + 8) ≡ b → 16 * n + 8 ≤ room
    go true t =
        let eight : ◌≡◌ {A = ℕ} 8 0 = rw t at h in
        absurd (omega arith)
    go false t = ltb-false room (16 * n + 8) t

module _ {R : Type 0} (number : ℕ) (whole : Answer) (os : List ℕ) (ss : List Step) (c : Chip) (keep : Trace → R) (old : R) (room : List ℕ) where
  abbrev call : Called R
  call = call_of number whole os ss c keep old room

  -- refused before any step: all is as it was
  pub call_refused : eqb number 0 ≡ false → call ≡ called old room 0 (Refused number)
  unfolding call_of
  call_refused h = rw h

  pub call_performed : eqb number 0 ≡ true → call ≡ performed whole keep room (trace os ss c)
  unfolding call_of
  call_performed h = rw h

  -- the reader finds the trace's entries at the start of the room that is handed back, as many as the call says
  pub call_read : eqb number 0 ≡ true → every fine ss ≡ true → c.address ≤ 255 → length ss ≤ 4096 → 16 * length ss + 8 ≤ length room
      → Parted (take (16 * call.count + 8) call.room) [] (trace os ss c).log
  call_read n f a m r =
      subst (λ (l : List ℕ). Parted l [] (trace os ss c).log) (sym same) (read_trace os ss c f a m [])
    where
      es : List Entry
      es = (trace os ss c).log

      long : length (section_bytes es) ≡ 16 * length es + 8
      long = length-section_bytes es (fit_eights es (fit_trace os ss c f a))

      laid : sets room 0 (section_bytes es) ≡ section_bytes es ++ drop (0 + length (section_bytes es)) room
      laid = sets-eq (section_bytes es) room 0 (omega (arith, long, most_trace os ss c))

      same : take (16 * call.count + 8) call.room ≡ section_bytes es
      same =
          ap (λ (d : Called R). take (16 * d.count + 8) d.room) (call_performed n)
          ∙ ap (take (16 * length es + 8)) laid
          ∙ take_at (section_bytes es) (drop (0 + length (section_bytes es)) room) (16 * length es + 8) long

  -- an answer that names a failing entry comes of the trace
  call_failed : (i : ℕ) → stops whole ≡ false → call.answer ≡ Stopped i → (eqb number 0 ≡ true) × ((trace os ss c).progress ≡ Refused11 i)
  call_failed i s h = go (eqb number 0) refl
    where
      index : Answer → ℕ
      index (Done value) = 0
      index (Refused k) = 0
      index (Stopped k) = k

      by_progress : (w : Progress) → (trace os ss c).progress ≡ w → answer_of whole w ≡ Stopped i → (trace os ss c).progress ≡ Refused11 i
      by_progress Going e q = absurd (false≢true (sym s ∙ ap stops q))
      by_progress (Refused11 k) e q = e ∙ ap Refused11 (ap index q)

      go : (b : Bool) → eqb number 0 ≡ b → (eqb number 0 ≡ true) × ((trace os ss c).progress ≡ Refused11 i)
      go false e = absurd (false≢true (ap stops (sym (ap (λ (d : Called R). d.answer) (call_refused e)) ∙ h)))
      go true e = (e, by_progress (trace os ss c).progress refl (sym (ap (λ (d : Called R). d.answer) (call_performed e)) ∙ h))

  -- (c) for a call, "with the failing index the answer gives": its entries against those of the same call with outcome i done
  pub call_cut : (i : ℕ) → stops whole ≡ false → every fine ss ≡ true → call.answer ≡ Stopped i
      → Cut i (call_entries number os ss c) (call_entries number (set os i 0) ss c)
  call_cut i s f h =
      let p = call_failed i s h in
      rw p.0 (cut_trace os ss c i f p.1)

  -- (e) for a call: its count and the index that it answers are read off its entries
  pub call_count : call.count ≡ length (call_entries number os ss c)
  call_count = go (eqb number 0) refl
    where
      go : (b : Bool) → eqb number 0 ≡ b → call.count ≡ length (call_entries number os ss c)
      go true e = ap (λ (d : Called R). d.count) (call_performed e) ∙ rw e
      go false e = ap (λ (d : Called R). d.count) (call_refused e) ∙ rw e

  pub call_index : (i : ℕ) → stops whole ≡ false → every fine ss ≡ true → call.answer ≡ Stopped i → progress_in (call_entries number os ss c) ≡ Refused11 i
  call_index i s f h =
      let p = call_failed i s h in
      rw p.0 (sym (told_trace os ss c f) ∙ p.1)

-- a call of a record with the chip in it is one more call of the sequence
pub call_history : {R : Type 0} (chip_of : R → Chip) (init : List ℕ) (es : List Entry) (number : ℕ) (whole : Answer) (os : List ℕ) (ss : List Step) (keep : Trace → R) (old : R) (room : List ℕ)
    → every fine ss ≡ true → chip_of (keep (trace os ss (chip_of old))) ≡ (trace os ss (chip_of old)).chip
    → History init (chip_of old) es
    → History init (chip_of (call_of number whole os ss (chip_of old) keep old room).next) (es ++ call_entries number os ss (chip_of old))
call_history {R} chip_of init es number whole os ss keep old room f l h = go (eqb number 0) refl
  where
    go : (b : Bool) → eqb number 0 ≡ b
        → History init (chip_of (call_of number whole os ss (chip_of old) keep old room).next) (es ++ call_entries number os ss (chip_of old))
    go true e =
        rw (ap (λ (d : Called R). d.next) (call_performed number whole os ss (chip_of old) keep old room e), e, l)
        (more (chip_of old) es h os ss f)
    go false e =
        rw (ap (λ (d : Called R). d.next) (call_refused number whole os ss (chip_of old) keep old room e), e, append-nil es)
        h

-- ---- a call that is answered done

-- what is known of one
pub record Went {R : Type 0} (number : ℕ) (os : List ℕ) (ss : List Step) (c : Chip) (keep : Trace → R) (x : Called R) : Type 0 where
  pub taken_up : eqb number 0 ≡ true
  pub going : (trace os ss c).progress ≡ Going
  pub left : x.next ≡ keep (trace os ss c)

pub went : {R : Type 0} (number : ℕ) (whole : Answer) (os : List ℕ) (ss : List Step) (c : Chip) (keep : Trace → R) (old : R) (room : List ℕ)
    → is_done (call_of number whole os ss c keep old room).answer ≡ true
    → (is_done whole ≡ true) × Went number os ss c keep (call_of number whole os ss c keep old room)
unfolding call_of
went {R} number whole os ss c keep old room h = go (eqb number 0) refl
  where
    by : (w : Progress) → (trace os ss c).progress ≡ w → is_done (answer_of whole w) ≡ true → (is_done whole ≡ true) × ((trace os ss c).progress ≡ Going)
    by Going e q = (q, e)
    by (Refused11 k) e q = absurd (false≢true q)

    go : (b : Bool) → eqb number 0 ≡ b → (is_done whole ≡ true) × Went number os ss c keep (call_of number whole os ss c keep old room)
    go true e =
        let same : call_of number whole os ss c keep old room ≡ performed whole keep room (trace os ss c) = rw e in
        let p = by (trace os ss c).progress refl (ap (λ (d : Called R). is_done d.answer) (sym same) ∙ h) in
        (p.0, record { taken_up = e; going = p.1; left = ap (λ (d : Called R). d.next) same })
    go false e =
        let same : call_of number whole os ss c keep old room ≡ called old room 0 (Refused number) = rw e in
        absurd (false≢true (ap (λ (d : Called R). is_done d.answer) (sym same) ∙ h))

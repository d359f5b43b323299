-- What the code has laid out in the room is the section of its program's trace, and all behind it is as it was.
-- Assumes nothing.
use Rattle.std.proofs.Common.{◌≡◌, ℕ, suc, ◌+◌, ◌*◌, ◌%◌, ◌^◌, ◌<◌, Bool, true, false, cond, not, ◌&&◌, ◌||◌, eqb, List, [], ◌∷◌, ◌++◌, length, sym, refl, ap, ◌∙◌, subst, arith, length-append, eq-eqb, ne_eqb, eqb-true}
use mathlib.Core.Bool.{or-false}
use lib.Seq.{sets}
use Rattle.transcript.specs.declared.Entry.{Entry}
use Rattle.transcript.specs.Entries.{Eight, Eights, entry_bytes, zeros8}
use Rattle.transcript.specs.Sections.{entries_bytes, section_bytes}
use Rattle.transcript.proofs.Laid.{eights_append, entry_next, section_laid}
use Rattle.refusals.specs.declared.Answer.{Answer}
use Rattle.refusals.specs.declared.Answer.TheVariants.{Refused}
use Rattle.chip.specs.declared.Chip.{Chip}
use Rattle.chip.specs.declared.Flow.{Flow}
use Rattle.chip.specs.declared.LockTries.{LockTries}
use Rattle.chip.specs.declared.Progress.TheVariants.{Going}
use Rattle.chip.specs.Entries.{is_try, lock_bit, lock_tries, no_tries}
use Rattle.chip.specs.Steps.{Step, Line, Trace, acts, chip_after, eight, emit, every, opened_for, in_list, line, ok_for, run, step, taken, trace, progress_for}
use Rattle.chip.specs.Steps.Step.{Open, Close, Send, Mask, Plain}
use Rattle.chip.specs.InCode.{with_try, Logged, in_room, logged, on_room, laid_out, sealed, lock_tries_from}
use Rattle.chip.specs.Calls.{answer_of, call_entries, call_of, called, locked_in, performed, lock_tries_in, tries_in}
use Rattle.chip.proofs.Laws.{active, and_left, and_right, idle}

or_assoc : (a b c : Bool) → ((a || b) || c) ≡ (a || (b || c))
or_assoc true b c = refl
or_assoc false b c = refl

seen_snoc : (s : LockTries) (es : List Entry) (e : Entry) → with_try (lock_tries_from s es) e ≡ lock_tries_from s (es ++ (e ∷ []))
unfolding lock_tries_from
seen_snoc s [] e = refl
seen_snoc s (x ∷ es) e = seen_snoc (with_try s x) es e

pick_eight : (b : Bool) (xs ys : List ℕ) → length xs ≡ 8 → length ys ≡ 8 → length (cond b xs ys) ≡ 8
pick_eight true xs ys p q = p
pick_eight false xs ys p q = q

-- a step's entry has its eight data bytes
pub emit_eight : (s : Step) (c : Chip) (ok : Bool) → eight s ≡ true → Eight (emit s c ok)
emit_eight Open c ok h = refl
emit_eight Close c ok h = refl
emit_eight (Send n bytes) c ok h = eqb-true (length bytes) 8 h
emit_eight (Mask r v m) c ok h = refl
emit_eight (Plain e) c ok h = pick_eight ((eqb e.kind 3 || eqb e.kind 8) && not ok) zeros8 e.bytes refl (eqb-true (length e.bytes) 8 h)

-- a trace whose count is that of its entries
pub record Kept (t : Trace) : Type 0 where
  pub counted : t.count ≡ length t.log
  pub eights : Eights t.log

module _ (os : List ℕ) where
  pub kept_step : (s : Step) (t : Trace) → eight s ≡ true → Kept t → Kept (step in_list os s t)
  kept_step s t h k = go (acts s t.progress t.opened) refl
    where
      go : (a : Bool) → acts s t.progress t.opened ≡ a → Kept (step in_list os s t)
      go false e = subst Kept (idle in_list os s t e) k
      go true e =
          subst Kept (active in_list os s t e)
          (record {
            counted = ap (λ (n : ℕ). n + 1) k.counted ∙ sym (length-append t.log (emit s t.chip (ok_for os t.count s) ∷ []));
            eights = eights_append t.log (emit s t.chip (ok_for os t.count s) ∷ []) k.eights (emit_eight s t.chip (ok_for os t.count s) h, tt);
          })

  pub kept_run : (ss : List Step) (t : Trace) → every eight ss ≡ true → Kept t → Kept (run in_list os ss t)
  unfolding run every
  kept_run [] t h k = k
  kept_run (s ∷ ss) t h k =
      kept_run ss (step in_list os s t) (and_right (eight s) (every eight ss) h) (kept_step s t (and_left (eight s) (every eight ss) h) k)

  module _ (room : List ℕ) where
    -- one entry more, laid out
    next : (es : List Entry) (k : ℕ) (e : Entry) → k ≡ length es → Eights es
        → in_room (logged (sets room 0 (entries_bytes es)) (lock_tries_from no_tries es)) k e ≡ logged (sets room 0 (entries_bytes (es ++ (e ∷ [])))) (lock_tries_from no_tries (es ++ (e ∷ [])))
    unfolding in_room
    next es k e q h =
        (λ i. logged (sets (sets room 0 (entries_bytes es)) (16 * q i) (entry_bytes e)) (seen_snoc no_tries es e i))
        ∙ ap (λ (l : List ℕ). logged l (lock_tries_from no_tries (es ++ (e ∷ [])))) (entry_next room es e h)

    sim_step : (s : Step) (t : Trace) → Kept t → step in_room os s (laid_out room t) ≡ laid_out room (step in_list os s t)
    sim_step s t k = go (acts s t.progress t.opened) refl
      where
        ok : Bool
        ok = ok_for os t.count s

        e : Entry
        e = emit s t.chip ok

        at : ℕ → Line Logged
        at n = taken in_room os (ok_for os n s) s (line t.chip (logged (sets room 0 (entries_bytes t.log)) (lock_tries_from no_tries t.log)) n t.progress t.opened)

        go : (a : Bool) → acts s t.progress t.opened ≡ a → step in_room os s (laid_out room t) ≡ laid_out room (step in_list os s t)
        go false x = sym (idle in_room os s (laid_out room t) x) ∙ ap (laid_out room) (idle in_list os s t x)
        go true x =
            sym (active in_room os s (laid_out room t) x)
            ∙ ap at (sym k.counted)
            ∙ (λ i. line (chip_after s t.chip ok) (next t.log t.count e k.counted k.eights i) (longer i) (progress_for s ok t.count t.progress) (opened_for s ok t.opened))
            ∙ ap (laid_out room) (active in_list os s t x)
          where
            longer : t.count + 1 ≡ length (t.log ++ (e ∷ []))
            longer = ap (λ (n : ℕ). n + 1) k.counted ∙ sym (length-append t.log (e ∷ []))

    sim : (ss : List Step) (t : Trace) → every eight ss ≡ true → Kept t → run in_room os ss (laid_out room t) ≡ laid_out room (run in_list os ss t)
    unfolding run every
    sim [] t h k = refl
    sim (s ∷ ss) t h k =
        ap (run in_room os ss) (sim_step s t k)
        ∙ sim ss (step in_list os s t) (and_right (eight s) (every eight ss) h) (kept_step s t (and_left (eight s) (every eight ss) h) k)

    -- the room's law: a program's run in the room is its trace, laid out
    pub laid_out_lem : (ss : List Step) (c : Chip) → every eight ss ≡ true
        → run in_room os ss (line c (logged room no_tries) 0 Going false) ≡ laid_out room (trace os ss c)
    unfolding trace entries_bytes lock_tries_from
    laid_out_lem ss c h = sim ss (line c [] 0 Going false) h (record { counted = refl; eights = tt })

    -- where the code stands after a program is its trace, laid out
    pub stands : (ss : List Step) (c : Chip) (f : Flow) (mid : List ℕ) → every eight ss ≡ true
        → on_room f mid ≡ run in_room os ss (line c (logged room no_tries) 0 Going false) → on_room f mid ≡ laid_out room (trace os ss c)
    stands ss c f mid h e = e ∙ laid_out_lem ss c h

    pub kept_trace : (ss : List Step) (c : Chip) → every eight ss ≡ true → Kept (trace os ss c)
    unfolding trace
    kept_trace ss c h = kept_run ss (line c [] 0 Going false) h (record { counted = refl; eights = tt })

    -- and with its trailer: what a call hands back
    pub handed : {R : Type 0} (ss : List Step) (c : Chip) (keep : Trace → R) (whole : Answer) (r : R) (f : Flow) (mid chip_after : List ℕ) (answer : Answer)
        → every eight ss ≡ true
        → on_room f mid ≡ run in_room os ss (line c (logged room no_tries) 0 Going false)
        → chip_after ≡ sealed mid f.log.count → answer ≡ answer_of whole f.log.progress
        → r ≡ keep (trace os ss c)
        → called r chip_after f.log.count answer ≡ performed whole keep room (trace os ss c)
    handed ss c keep whole r f mid chip_after answer h e p q same =
        let t : Trace = trace os ss c in
        let all : on_room f mid ≡ laid_out room t = stands ss c f mid h e in
        let count : f.log.count ≡ length t.log = ap (λ (w : Line Logged). w.count) all in
        let out : mid ≡ sets room 0 (entries_bytes t.log) = ap (λ (w : Line Logged). w.log.room) all in
        let progress : f.log.progress ≡ t.progress = ap (λ (w : Line Logged). w.progress) all in
        let full : chip_after ≡ sets room 0 (section_bytes t.log) =
        p ∙ (λ i. sealed (out i) (count i)) ∙ section_laid room t.log (kept_trace ss c h).eights in
        let told : answer ≡ answer_of whole t.progress = q ∙ ap (answer_of whole) progress in
        λ i. called (same i) (full i) (count i) (told i)

-- a call refused by a number other than 0; a call that is performed
pub refuses : {R : Type 0} (number : ℕ) (whole : Answer) (os : List ℕ) (ss : List Step) (c : Chip) (keep : Trace → R) (old : R) (room : List ℕ)
    → (number ≡ 0 → ⊥) → called old room 0 (Refused number) ≡ call_of number whole os ss c keep old room
unfolding call_of
refuses number whole os ss c keep old room h = rw (ne_eqb number 0 h)

pub performs : {R : Type 0} (number : ℕ) (whole : Answer) (os : List ℕ) (ss : List Step) (c : Chip) (keep : Trace → R) (old : R) (room : List ℕ)
    → number ≡ 0 → performed whole keep room (trace os ss c) ≡ call_of number whole os ss c keep old room
unfolding call_of
performs number whole os ss c keep old room h = rw (eq-eqb number 0 h)

-- one entry of the count below: it is a try or not
counted_one : (s : LockTries) (e : Entry) (es : List Entry) (b : Bool) → is_try e ≡ b → s.tries + suc (length es) < 2 ^ 16
    → ((r : LockTries) → r.tries + length es < 2 ^ 16 → lock_tries_from r es ≡ record { tries = r.tries + tries_in es; locked = r.locked || locked_in es })
    → lock_tries_from (with_try s e) es ≡ record { tries = s.tries + (cond (is_try e) 1 0 + tries_in es); locked = s.locked || ((is_try e && lock_bit e) || locked_in es) }
unfolding with_try
counted_one s e es true x h rest =
    let small : (s.tries + 1) % 2 ^ 16 ≡ s.tries + 1 = omega arith in
    let fits : (s.tries + 1) % 2 ^ 16 + length es < 2 ^ 16 = omega arith in
    let sum : (s.tries + 1) % 2 ^ 16 + tries_in es ≡ s.tries + (1 + tries_in es) = omega arith in
    rw x (rest (record { tries = (s.tries + 1) % 2 ^ 16; locked = s.locked || lock_bit e }) fits
    ∙ (λ i. record { tries = sum i; locked = or_assoc s.locked (lock_bit e) (locked_in es) i }))
counted_one s e es false x h rest =
    let fits : s.tries + length es < 2 ^ 16 = omega arith in
    let sum : s.tries + tries_in es ≡ s.tries + (0 + tries_in es) = omega arith in
    rw x (rest s fits ∙ (λ i. record { tries = sum i; locked = s.locked || locked_in es }))

-- what the tries have said, counted: a room's entries never reach 2 ^ 16
pub seen_counted : (s : LockTries) (es : List Entry) → s.tries + length es < 2 ^ 16
    → lock_tries_from s es ≡ record { tries = s.tries + tries_in es; locked = s.locked || locked_in es }
unfolding lock_tries_from tries_in locked_in
seen_counted s [] h =
    let none : s.tries ≡ s.tries + 0 = omega arith in
    λ i. record { tries = none i; locked = sym (or-false s.locked) i }
seen_counted s (e ∷ es) h = counted_one s e es (is_try e) refl h (λ r k. seen_counted r es k)

-- so what the code has seen of a whole call is what its entries say
pub seen_in : (es : List Entry) → length es < 2 ^ 16 → lock_tries_from no_tries es ≡ lock_tries_in es
seen_in es h = seen_counted no_tries es (omega arith) ∙ (λ i. lock_tries (more i) (locked_in es))
  where
    more : 0 + tries_in es ≡ tries_in es
    more = omega arith

-- and of a call that a number refuses before any step, or none does
pub untried : (number : ℕ) (os : List ℕ) (ss : List Step) (c : Chip) → (number ≡ 0 → ⊥) → no_tries ≡ lock_tries_in (call_entries number os ss c)
unfolding tries_in locked_in
untried number os ss c h = rw (ne_eqb number 0 h)

pub tried : (number : ℕ) (os : List ℕ) (ss : List Step) (c : Chip) → number ≡ 0 → lock_tries_in (trace os ss c).log ≡ lock_tries_in (call_entries number os ss c)
tried number os ss c h = rw (eq-eqb number 0 h)

-- What a tuning's steps do to lock and tries, as entries tell them: the writes of its plan forget what was before, and each try counts. Assumes nothing.
use Prim.Native.Nat.{ℕ, zero, suc, ◌+◌, ◌-◌, ◌*◌, ◌≤◌}
use mathlib.Core.Path.{◌≡◌, refl, sym, ap, ◌∙◌}
use mathlib.Core.Bool.{Bool, true, false, cond, ◌&&◌, ◌||◌}
use mathlib.Core.List.{List, [], ◌∷◌, ◌++◌}
use native.Mathlib.Omega.{arith}
use borrow.Author.Tests.{eq-eqb, ne_eqb}
use lib.Dec.{eqb, leb, ltb}
use lib.ListN.{get_or}
use Rattle.transcript.specs.declared.Entry.{Entry}
use Rattle.attempts.specs.Attempts.{names}
use Rattle.attempts.proofs.Named.{one_byte}
use Rattle.chip.specs.declared.Chip.{Chip}
use Rattle.chip.specs.declared.LockTries.{LockTries}
use Rattle.chip.specs.declared.Progress.{Progress}
use Rattle.chip.specs.declared.Progress.TheVariants.{Going}
use Rattle.chip.specs.Chips.{masked_byte, pair}
use Rattle.chip.specs.Entries.{lock_tries, pointer, read_entry, repeater, wait, with_outcome, written}
use Rattle.chip.specs.Steps.{Step, Trace, acts, emit, goes, in_list, ok_for, progress_for, progress_of, masked, run, step, taken, updates}
use Rattle.chip.specs.Steps.Step.{Open, Close, Send, Mask, Plain}
use Rattle.chip.proofs.Laws.{active, step_address}
use Rattle.history.proofs.Runs.{done_by, going_before}
use Rattle.pll.specs.declared.Kind.{Kind}
use Rattle.pll.specs.declared.Plan.{Plan}
use Rattle.std.specs.Prelude.{Some}
use Rattle.tuning.specs.Mux.{mux_updates, pll_updates, range_of}
use Rattle.tuning.specs.Program.{inner_steps, tune_steps}
use Rattle.tuning.specs.Tries.{after_try, fine_of, locked, locks_at, power_of, repair_updates, reply_bytes, status_steps, tries_from, try_read}
use Rattle.sequences.specs.Waited.{waited_from}
use Rattle.sequences.proofs.Tried.{reply_bit}
use Rattle.evidence.specs.Evidence.{oscillator, planned, touches}
use Rattle.evidence.proofs.Heard.{Heard, heard, heard_snoc, heard_by, heard_from}

-- a register among some
abbrev hits : ℕ → List ℕ → Bool
hits r [] = false
hits r (q ∷ qs) = (leb r q && ltb q (r + 1)) || hits r qs

abbrev mask_heard : ℕ → Heard → Heard
mask_heard r h = heard (cond (hits r oscillator) 0 h.mark) (cond (hits r planned) 0 h.count)

-- how a waiting ends, as entries tell it
abbrev pub ended : LockTries → Heard
ended w = heard (cond w.locked 2 1) w.tries

module _ (address : ℕ) where
  -- what a step that is done does to both numbers
  abbrev effect : Step → Heard → Heard
  effect Open h = h
  effect Close h = h
  effect (Send n bytes) h = heard_by address (written address n bytes true) h
  effect (Mask register value mask) h = mask_heard register h
  effect (Plain e) h = heard_by address (with_outcome e true) h

  abbrev pub effects : List Step → Heard → Heard
  effects [] h = h
  effects (s ∷ ss) h = effects ss (effect s h)

  pub effects_app : (xs ys : List Step) (h : Heard) → effects (xs ++ ys) h ≡ effects ys (effects xs h)
  effects_app [] ys h = refl
  effects_app (x ∷ xs) ys h = effects_app xs ys (effect x h)

  -- a masked write names its register
  names_masked : (r b q : ℕ) (ok : Bool) → names address (written address 2 (pair r b) ok) q ≡ (leb r q && ltb q (r + 1))
  unfolding names
  names_masked r b q ok = rw (eq-eqb address address refl)

  touches_masked : (r b : ℕ) (ok : Bool) (qs : List ℕ) → touches address qs (written address 2 (pair r b) ok) ≡ hits r qs
  touches_masked r b ok [] = refl
  touches_masked r b ok (q ∷ qs) = rw (names_masked r b q ok, touches_masked r b ok qs)

  emitted : (s : Step) (c : Chip) (h : Heard) → c.address ≡ address → heard_by address (emit s c true) h ≡ effect s h
  unfolding names
  emitted Open c h e = refl
  emitted Close c h e = refl
  emitted (Send n bytes) c h e = ap (λ (a : ℕ). heard_by address (written a n bytes true) h) e
  emitted (Mask r v m) c h e =
      ap (λ (a : ℕ). heard_by address (written a 2 (pair r (masked_byte c r v m)) true) h) e
      ∙ (λ i. heard (cond (touches_masked r (masked_byte c r v m) true oscillator i) 0 h.mark) (cond (touches_masked r (masked_byte c r v m) true planned i) 0 h.count))
  emitted (Plain x) c h e = refl

  closing : (ok : Bool) (h : Heard) → heard_by address (repeater 0 ok) h ≡ h
  unfolding names
  closing ok h = refl

  module _ (os : List ℕ) where
    -- a step of a call that went through, from a trace that the entries before left at h
    module _ (h : Heard) where
      at : Trace → Heard
      at u = heard_from address h u.log

      done_step : (s : Step) (u : Trace) → acts s u.progress u.opened ≡ true → ok_for os u.count s ≡ true → u.chip.address ≡ address
          → heard_from address h (step in_list os s u).log ≡ effect s (heard_from address h u.log)
      done_step s u active-here ok e =
          sym (ap (λ (w : Trace). heard_from address h w.log) (active in_list os s u active-here))
          ∙ ap (λ (b : Bool). heard_from address h (u.log ++ (emit s u.chip b ∷ []))) ok
          ∙ heard_snoc address h u.log (emit s u.chip true)
          ∙ emitted s u.chip (heard_from address h u.log) e

      -- all but a closing fail the call where they fail
      plain_step : (s : Step) (u : Trace) → ((p : Progress) (o : Bool) → acts s p o ≡ goes p) → ((ok : Bool) (p : Progress) → progress_for s ok u.count p ≡ progress_of ok u.count)
          → u.chip.address ≡ address → (step in_list os s u).progress ≡ Going → heard_from address h (step in_list os s u).log ≡ effect s (heard_from address h u.log)
      unfolding run
      plain_step s u by told e g =
          let start : u.progress ≡ Going = going_before os (s ∷ []) u g in
          let active-here : acts s u.progress u.opened ≡ true = by u.progress u.opened ∙ ap goes start in
          let ok : ok_for os u.count s ≡ true =
          done_by (ok_for os u.count s) u.count
          (sym (told (ok_for os u.count s) u.progress) ∙ ap (λ (w : Trace). w.progress) (active in_list os s u active-here) ∙ g) in
          done_step s u active-here ok e

      close_step : (u : Trace) → heard_from address h (step in_list os Close u).log ≡ heard_from address h u.log
      unfolding step
      close_step u = go u.opened
        where
          go : (b : Bool) → heard_from address h (cond b (taken in_list os (ok_for os u.count Close) Close u) u).log ≡ heard_from address h u.log
          go true = heard_snoc address h u.log (repeater 0 (ok_for os u.count Close)) ∙ closing (ok_for os u.count Close) (heard_from address h u.log)
          go false = refl

      one_step : (s : Step) (u : Trace) → u.chip.address ≡ address → (step in_list os s u).progress ≡ Going
          → heard_from address h (step in_list os s u).log ≡ effect s (heard_from address h u.log)
      one_step Open u = plain_step Open u (λ p o. refl) (λ ok p. refl)
      one_step Close u = λ e g. close_step u
      one_step (Send n bytes) u = plain_step (Send n bytes) u (λ p o. refl) (λ ok p. refl)
      one_step (Mask r v m) u = plain_step (Mask r v m) u (λ p o. refl) (λ ok p. refl)
      one_step (Plain x) u = plain_step (Plain x) u (λ p o. refl) (λ ok p. refl)

      pub run_heard : (ss : List Step) (u : Trace) → u.chip.address ≡ address → (run in_list os ss u).progress ≡ Going
          → heard_from address h (run in_list os ss u).log ≡ effects ss (heard_from address h u.log)
      unfolding run
      run_heard [] u e g = refl
      run_heard (s ∷ ss) u e g =
          let next : Trace = step in_list os s u in
          run_heard ss next (step_address in_list os s u ∙ e) g
          ∙ ap (effects ss) (one_step s u e (going_before os ss next g))

  -- ---- a tuning's steps

  touches_none : (e : Entry) → e.n ≤ 1 → (qs : List ℕ) → touches address qs e ≡ false
  touches_none e h [] = refl
  touches_none e h (q ∷ qs) = rw (one_byte address e q h, touches_none e h qs)

  at_pointer : (h : Heard) → effect (Plain (pointer address)) h ≡ h
  at_pointer h = rw (touches_none (with_outcome (pointer address) true) (omega arith) oscillator, touches_none (with_outcome (pointer address) true) (omega arith) planned)

  module _ (rs : List ℕ) where
    at_status : (h : Heard) → effects (status_steps address rs) h ≡ h
    unfolding names
    at_status h = at_pointer h

    at_try : (i : ℕ) (h : Heard) → effects (try_read address rs i) h ≡ heard (cond (locks_at rs i) 2 1) (h.count + 1)
    unfolding names
    at_try i h =
        ap (effect (Plain (read_entry address 3 (reply_bytes rs (5 + 3 * i) 3)))) (at_pointer h)
        ∙ rw (eq-eqb address address refl, reply_bit rs i)

    -- 0x12 is written again after the first try, so that the mark is forgotten once
    at_again : (i : ℕ) (h : Heard) → effects (after_try i) h ≡ heard (cond (eqb i 0) 0 h.mark) h.count
    unfolding names
    at_again i h = go (eqb i 0)
      where
        go : (b : Bool) → effects (updates (cond b (masked 0x12 0x06 0xff ∷ []) []) ++ (Plain (wait 1) ∷ [])) h ≡ heard (cond b 0 h.mark) h.count
        go true = refl
        go false = refl

    -- tries from number i on: after two of them the mark is the last one's
    at_tries : (left i : ℕ) (h : Heard) → h.count ≡ i → (2 ≤ i → h.mark ≡ 1) → 2 ≤ left + i → effects (tries_from address rs left i) h ≡ ended (waited_from rs left i)
    unfolding tries_from waited_from
    at_tries zero i h count mark two =
        let one : h.mark ≡ 1 = mark (omega arith) in
        λ j. heard (one j) (count j)
    at_tries (suc left) i h count mark two =
        let more : List Step = tries_from address rs left (i + 1) in
        effects_app (try_read address rs i) (cond (locks_at rs i) (updates locked) (after_try i ++ more)) h
        ∙ ap (effects (cond (locks_at rs i) (updates locked) (after_try i ++ more))) (at_try i h ∙ (λ j. heard (cond (locks_at rs i) 2 1) (count j + 1)))
        ∙ turn i more (locks_at rs i) (waited_from rs left (i + 1))
        (at_tries left (i + 1) (heard (cond (eqb i 0) 0 1) (i + 1)) refl (past i) (omega arith))
      where
        past : (i : ℕ) → 2 ≤ i + 1 → ◌≡◌ {A = ℕ} (cond (eqb i 0) 0 1) 1
        past zero l = absurd (omega arith)
        past (suc i) l = rw (ne_eqb (suc i) 0 (λ e. omega (arith, e)))

        turn : (i : ℕ) (more : List Step) (b : Bool) (end : LockTries) → effects more (heard (cond (eqb i 0) 0 1) (i + 1)) ≡ ended end
            → effects (cond b (updates locked) (after_try i ++ more)) (heard (cond b 2 1) (i + 1)) ≡ ended (cond b (lock_tries (i + 1) true) end)
        turn i more true end ih = refl
        turn i more false end ih = effects_app (after_try i) more (heard 1 (i + 1)) ∙ ap (effects more) (at_again i (heard 1 (i + 1))) ∙ ih

    at_repair : (kind : Kind) (number byte : ℕ) → effects (updates (repair_updates kind number byte)) (heard 0 0) ≡ heard 0 0
    unfolding repair_updates
    at_repair kind number byte = go (ltb (power_of kind) (fine_of byte)) (ltb (fine_of byte) (power_of kind))
      where
        go : (a b : Bool) → effects (updates (cond a (masked 0x10 ((number - 1) * 32) 0xe0 ∷ []) (cond b (masked 0x10 ((number + 1) * 32) 0xe0 ∷ []) []))) (heard 0 0) ≡ heard 0 0
        go true b = refl
        go false true = refl
        go false false = refl

    -- whatever was heard before it
    pub at_tune : (kind : Kind) (notch : Bool) (p : Plan) (hz : ℕ) (h : Heard)
        → effects (tune_steps address kind notch (Some p) hz rs) h ≡ ended (waited_from rs 10 0)
    unfolding inner_steps
    at_tune kind notch p hz h =
        let mux : List Step = updates (mux_updates notch (range_of hz) ++ pll_updates p) in
        let status : List Step = status_steps address rs in
        let fix : List Step = updates (repair_updates kind p.number (get_or rs 4 0)) in
        let tries : List Step = tries_from address rs 10 0 in
        effects_app (mux ++ (status ++ (fix ++ tries))) (Close ∷ []) h
        ∙ effects_app mux (status ++ (fix ++ tries)) h
        ∙ effects_app status (fix ++ tries) (heard 0 0)
        ∙ ap (effects (fix ++ tries)) (at_status (heard 0 0))
        ∙ effects_app fix tries (heard 0 0)
        ∙ ap (effects tries) (at_repair kind p.number (get_or rs 4 0))
        ∙ at_tries 10 0 (heard 0 0) refl (λ l. absurd (omega arith)) (omega arith)

-- A sample rate that was cut: if the demodulator was written at all, the DDC byte is doubtful, since the reset comes first and its write last; and the IF is
-- doubtful, or the new one whole. Whatever was before. Assumes nothing.
use Prim.Native.Nat.{ℕ, ◌/◌, ◌%◌, ◌^◌}
use mathlib.Core.Path.{◌≡◌, refl, sym, ap, ◌∙◌}
use mathlib.Core.Bool.{Bool, true, false, cond, true≢false}
use mathlib.Core.List.{List, [], ◌∷◌, ◌++◌, map, append_assoc, append-nil}
use mathlib.Core.Logic.{◌⊎◌, inl, inr}
use native.Mathlib.Omega.{arith}
use Rattle.transcript.specs.declared.Entry.{Entry}
use Rattle.attempts.specs.Namings.{Last, last_from, last_in}
use Rattle.attempts.specs.Namings.Last.{Never, Tried}
use Rattle.attempts.proofs.Lasts.{last_append}
use Rattle.chip.specs.declared.Chip.{Chip}
use Rattle.chip.specs.declared.Progress.{Progress}
use Rattle.chip.specs.declared.Progress.TheVariants.{Going, Refused11}
use Rattle.chip.specs.Entries.{with_outcome}
use Rattle.chip.specs.declared.Update.{Update}
use Rattle.chip.specs.Steps.{Step, Trace, emit, every, goes, in_list, line, ok_for, run, step, taken, trace, updates, while_open}
use Rattle.chip.specs.Steps.Step.{Open, Close, Send, Mask, Plain}
use Rattle.chip.proofs.Laws.{active, run_app}
use Rattle.demod.specs.Programs.{ddc_byte, ddc_steps}
use Rattle.driver.specs.Programs.{demod_setup, filter_steps, sample_rate_steps}
use Rattle.history.proofs.Fine.{every_append}
use Rattle.history.proofs.Runs.{run_keeps, shut_run}
use Rattle.registers.specs.Rates.{if_value_of}
use Rattle.writes.specs.Lists.{bandwidth_updates, if_updates}
use Rattle.evidence.specs.Cuts.{CutRate, tuners}
use Rattle.evidence.specs.Demodulator.{covers, demod_names, demod_settles, demodulator, last_at, place, shakes}
use Rattle.evidence.specs.Evidence.{demod_byte, if_mark, if_places, if_word, lasts, mark_of}
use Rattle.evidence.proofs.Cuts.{vain_mark}
use Rattle.evidence.proofs.Marks.{sure_exactly}
use Rattle.evidence.proofs.Units.{word}
use Rattle.evidence.proofs.Rates.{ended, setup, setup_steps}

-- ---- a program of plain steps that was cut

-- what holds of the entries at every cut: those before it done, the failing one not
abbrev AllCuts : (List Entry → Type 0) → List Entry → List Entry → Type 0
AllCuts Q pre [] = Unit {0}
AllCuts Q pre (e ∷ es) = Q (pre ++ (with_outcome e false ∷ [])) × AllCuts Q (pre ++ (ended e ∷ [])) es

module _ (os : List ℕ) (Q : List Entry → Type 0) (base : List Entry) where
  plain_cut : (es pre : List Entry) (t : Trace) → t.progress ≡ Going → t.opened ≡ false → t.log ≡ base ++ pre → AllCuts Q pre es
      → goes (run in_list os (map Plain es) t).progress ≡ false → (fs : List Entry) × ((run in_list os (map Plain es) t).log ≡ base ++ fs) × Q fs
  unfolding run
  plain_cut [] pre t going shut log all h = absurd (true≢false (sym (ap goes going) ∙ h))
  plain_cut (e ∷ es) pre t going shut log all h =
      go (ok_for os t.count (Plain e)) refl (λ next p q r k. plain_cut es (pre ++ (ended e ∷ [])) next p q r all.1 k)
    where
      s : Step
      s = Plain e

      did : taken in_list os (ok_for os t.count s) s t ≡ step in_list os s t
      did = active in_list os s t (ap goes going)

      more : (x : Entry) → t.log ++ (x ∷ []) ≡ base ++ (pre ++ (x ∷ []))
      more x = ap (λ (l : List Entry). l ++ (x ∷ [])) log ∙ append_assoc base pre (x ∷ [])

      go : (b : Bool) → ok_for os t.count s ≡ b
          → ((next : Trace) → next.progress ≡ Going → next.opened ≡ false → next.log ≡ base ++ (pre ++ (ended e ∷ [])) → goes (run in_list os (map Plain es) next).progress ≡ false
          → (fs : List Entry) × ((run in_list os (map Plain es) next).log ≡ base ++ fs) × Q fs)
          → (fs : List Entry) × ((run in_list os (map Plain es) (step in_list os s t)).log ≡ base ++ fs) × Q fs
      go true ok ih =
          let is : taken in_list os true s t ≡ step in_list os s t = ap (λ (b : Bool). taken in_list os b s t) (sym ok) ∙ did in
          ih (step in_list os s t) (sym (ap (λ (u : Trace). u.progress) is)) (sym (ap (λ (u : Trace). u.opened) is) ∙ shut) (sym (ap (λ (u : Trace). u.log) is) ∙ more (ended e)) h
      go false ok ih =
          let is : taken in_list os false s t ≡ step in_list os s t = ap (λ (b : Bool). taken in_list os b s t) (sym ok) ∙ did in
          let next : Trace = step in_list os s t in
          let stopped : goes next.progress ≡ false = sym (ap (λ (u : Trace). goes u.progress) is) in
          let closed : next.opened ≡ false = sym (ap (λ (u : Trace). u.opened) is) ∙ shut in (
            pre ++ (with_outcome e false ∷ []),
            sym (ap (λ (u : Trace). u.log) (shut_run os (map Plain es) next stopped closed)) ∙ sym (ap (λ (u : Trace). u.log) is) ∙ more (with_outcome e false),
            all.0,
          )

-- behind a closing the repeater is shut
module _ (os : List ℕ) where
  close_shuts : (t : Trace) → (step in_list os Close t).opened ≡ false
  unfolding step
  close_shuts t = go t.opened refl
    where
      go : (b : Bool) → t.opened ≡ b → (cond t.opened (taken in_list os (ok_for os t.count Close) Close t) t).opened ≡ false
      go true e = rw e
      go false e = rw e

  bracket_shuts : (ss : List Step) (t : Trace) → (run in_list os (while_open ss) t).opened ≡ false
  unfolding run
  bracket_shuts ss t =
      ap (λ (u : Trace). u.opened) (run_app in_list os ss (Close ∷ []) (step in_list os Open t)) ∙ close_shuts (run in_list os ss (step in_list os Open t))

-- ---- the rate's

abbrev chips : Step → Bool
chips Open = true
chips Close = true
chips (Send n bytes) = true
chips (Mask register value mask) = true
chips (Plain e) = false

module _ (os : List ℕ) (hz rate xtal : ℕ) (inverted : Bool) (c : Chip) where
  abbrev start : Trace
  start = line c [] 0 Going false

  -- the tuner's part
  abbrev pub filtered : Trace
  filtered = run in_list os (filter_steps hz rate) start

  abbrev value : ℕ
  value = if_value_of hz xtal

  filtered_shut : filtered.opened ≡ false
  filtered_shut =
      let first : List Step = while_open (updates (if_updates hz)) in
      let second : List Step = updates (bandwidth_updates rate) in
      ap (λ (u : Trace). u.opened) (run_app in_list os first (while_open second) start) ∙ bracket_shuts os second (run in_list os first start)

  -- whatever was known before, after the entries that a cut left
  abbrev Vain : ℕ → List Entry → Type 0
  Vain r fs = (l : Last) → (byte : ℕ) × (last_from demodulator l fs (place 1 r) ≡ Tried byte false)

  abbrev Whole : List Entry → Type 0
  Whole fs = (l : Last)
      → (last_from demodulator l fs (place 1 0x19) ≡ Tried (value / 2 ^ 16 % 2 ^ 8) true) × (last_from demodulator l fs (place 1 0x1a) ≡ Tried (value / 2 ^ 8 % 2 ^ 8 % 2 ^ 8) true)
      × (last_from demodulator l fs (place 1 0x1b) ≡ Tried (value % 2 ^ 8 % 2 ^ 8) true)

  abbrev Says : List Entry → Type 0
  Says fs = Vain 0x15 fs × (Vain 0x1b fs ⊎ Whole fs)

  -- two resets, four of the rate, three of the IF, the DDC byte
  every_cut : AllCuts Says [] (setup hz rate xtal inverted)
  unfolding last_from demod_names demod_settles covers shakes
  every_cut = (
    ((λ l. (0, refl)), inl (λ l. (0, refl))),
    (
      ((λ l. (0, refl)), inl (λ l. (0, refl))),
      (
        ((λ l. (0, refl)), inl (λ l. (0, refl))),
        (
          ((λ l. (0, refl)), inl (λ l. (0, refl))),
          (
            ((λ l. (0, refl)), inl (λ l. (0, refl))),
            (
              ((λ l. (0, refl)), inl (λ l. (0, refl))),
              (
                ((λ l. (0, refl)), inl (λ l. (0, refl))),
                (
                  ((λ l. (0, refl)), inl (λ l. (0, refl))),
                  (((λ l. (0, refl)), inl (λ l. (value % 2 ^ 8 % 2 ^ 8, refl))), (((λ l. (ddc_byte inverted % 2 ^ 8, refl)), inr (λ l. (refl, refl, refl))), tt)),
                ),
              ),
            ),
          ),
        ),
      ),
    ),
  )

  -- "a rate is cut at a demodulator write": it was cut in the tuner's part, or it says so
  cut_says : goes (trace os (sample_rate_steps hz rate xtal inverted) c).progress ≡ false
      → ((trace os (sample_rate_steps hz rate xtal inverted) c).log ≡ filtered.log)
      ⊎ ((fs : List Entry) × ((trace os (sample_rate_steps hz rate xtal inverted) c).log ≡ filtered.log ++ fs) × Says fs)
  unfolding trace
  cut_says h = go filtered.progress refl
    where
      whole : run in_list os (sample_rate_steps hz rate xtal inverted) start ≡ run in_list os (map Plain (setup hz rate xtal inverted)) filtered
      whole =
          run_app in_list os (filter_steps hz rate) (demod_setup hz rate xtal ++ ddc_steps inverted) start
          ∙ ap (λ (ss : List Step). run in_list os ss filtered) (setup_steps hz rate xtal inverted)

      go : (w : Progress) → filtered.progress ≡ w
          → ((run in_list os (sample_rate_steps hz rate xtal inverted) start).log ≡ filtered.log)
          ⊎ ((fs : List Entry) × ((run in_list os (sample_rate_steps hz rate xtal inverted) start).log ≡ filtered.log ++ fs) × Says fs)
      go Going e =
          let x = plain_cut os Says filtered.log (setup hz rate xtal inverted) [] filtered e filtered_shut (sym (append-nil filtered.log)) every_cut (ap (λ (u : Trace). goes u.progress) (sym whole) ∙ h) in
          inr (x.0, ap (λ (u : Trace). u.log) whole ∙ x.1, x.2)
      go (Refused11 k) e =
          inl (ap (λ (u : Trace). u.log) (whole ∙ sym (shut_run os (map Plain (setup hz rate xtal inverted)) filtered (ap goes e) filtered_shut)))

  -- the tuner's part has the tuner's entries alone
  filtered_own : every tuners filtered.log ≡ true
  unfolding every
  filtered_own =
      run_keeps os (λ (u : Trace). every tuners u.log ≡ true) chips (λ s u q a p. every_append tuners u.log (emit s u.chip (ok_for os u.count s) ∷ []) p (own s u q)) (filter_steps hz rate) start
      filter_chips refl
    where
      own : (s : Step) (u : Trace) → chips s ≡ true → every tuners (emit s u.chip (ok_for os u.count s) ∷ []) ≡ true
      own Open u q = refl
      own Close u q = refl
      own (Send n bytes) u q = refl
      own (Mask r v m) u q = refl
      own (Plain e) u q = absurd (true≢false (sym q))

      chip_updates : (us : List Update) → every chips (updates us) ≡ true
      chip_updates [] = refl
      chip_updates (u ∷ us) = chip_updates us

      chip_bracket : (us : List Update) → every chips (while_open (updates us)) ≡ true
      chip_bracket us = every_append chips (updates us) (Close ∷ []) (chip_updates us) refl

      filter_chips : every chips (filter_steps hz rate) ≡ true
      filter_chips =
          every_append chips (while_open (updates (if_updates hz))) (while_open (updates (bandwidth_updates rate))) (chip_bracket (if_updates hz)) (chip_bracket (bandwidth_updates rate))

  -- after any entries
  pub cut_rate : (es : List Entry) → goes (trace os (sample_rate_steps hz rate xtal inverted) c).progress ≡ false
      → (every tuners (trace os (sample_rate_steps hz rate xtal inverted) c).log ≡ true) ⊎ CutRate hz xtal (es ++ (trace os (sample_rate_steps hz rate xtal inverted) c).log)
  cut_rate es h = go (cut_says h)
    where
      log : List Entry
      log = (trace os (sample_rate_steps hz rate xtal inverted) c).log

      go : (log ≡ filtered.log) ⊎ ((fs : List Entry) × (log ≡ filtered.log ++ fs) × Says fs) → (every tuners log ≡ true) ⊎ CutRate hz xtal (es ++ log)
      go (inl e) = inl (ap (every tuners) e ∙ filtered_own)
      go (inr x) =
          let before : ℕ → Last = (λ r. last_in demodulator (es ++ filtered.log) (place 1 r)) in
          let at : (r : ℕ) → last_at (es ++ log) r ≡ last_from demodulator (before r) x.0 (place 1 r) = (λ r.
          ap (λ (l : List Entry). last_at (es ++ l) r) x.1
          ∙ ap (λ (l : List Entry). last_at l r) (sym (append_assoc es filtered.log x.0))
          ∙ last_append demodulator Never (es ++ filtered.log) x.0 (place 1 r)) in
          let d = x.2.0 (before 0x15) in
          inr (record { ddc = ap mark_of (at 0x15 ∙ d.1); offset = offset_of at x.2.1 })
        where
          offset_of : ((r : ℕ) → last_at (es ++ log) r ≡ last_from demodulator (last_in demodulator (es ++ filtered.log) (place 1 r)) x.0 (place 1 r)) → Vain 0x1b x.0 ⊎ Whole x.0
              → (if_mark (es ++ log) ≡ 1) ⊎ ((if_mark (es ++ log) ≡ 2) × (if_word (demod_byte (es ++ log)) ≡ value))
          offset_of at (inl v) =
              let y = v (last_in demodulator (es ++ filtered.log) (place 1 0x1b)) in
              inl (vain_mark (last_at (es ++ log)) 0x1b y.0 (at 0x1b ∙ y.1) if_places refl)
          offset_of at (inr w) =
              let a = at 0x19 ∙ (w (last_in demodulator (es ++ filtered.log) (place 1 0x19))).0 in
              let b = at 0x1a ∙ (w (last_in demodulator (es ++ filtered.log) (place 1 0x1a))).1 in
              let d = at 0x1b ∙ (w (last_in demodulator (es ++ filtered.log) (place 1 0x1b))).2 in
              inr ((sure_exactly (lasts (last_at (es ++ log)) if_places)).1 ((_, a), ((_, b), ((_, d), tt))), rw (a, b, d) (word value (omega arith)))

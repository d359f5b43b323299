-- A sample rate answered done leaves the demodulator's IF, ratio and DDC byte sure, whatever was before it: its ten writes come after the reset. Assumes nothing.
use Prim.Native.Nat.{ℕ, ◌*◌, ◌/◌, ◌%◌, ◌^◌}
use mathlib.Core.Path.{◌≡◌, refl, sym, ap, ◌∙◌}
use mathlib.Core.Bool.{Bool, true, false, cond}
use mathlib.Core.List.{List, [], ◌∷◌, ◌++◌, map, append_assoc, append-nil}
use native.Mathlib.Omega.{arith}
use native.Mathlib.Nat.{div-zero}
use borrow.Author.Tests.{eqb-true}
use lib.Dec.{eqb}
use Rattle.transcript.specs.declared.Entry.{Entry}
use Rattle.attempts.specs.Namings.{Last, last_from, last_in}
use Rattle.attempts.specs.Namings.Last.{Never, Tried}
use Rattle.attempts.proofs.Lasts.{last_append}
use Rattle.chip.specs.declared.Chip.{Chip}
use Rattle.chip.specs.declared.Progress.TheVariants.{Going}
use Rattle.chip.specs.Entries.{with_outcome}
use Rattle.chip.specs.Steps.{Step, Trace, goes, in_list, line, ok_for, run, step, taken, trace}
use Rattle.chip.specs.Steps.Step.{Plain}
use Rattle.chip.proofs.Laws.{active, run_app}
use Rattle.device.specs.Accesses.{access_entry, access_step, demod_write}
use Rattle.demod.specs.Programs.{ddc_byte, ddc_steps, if_rows, if_steps, rate_rows, rate_steps, reset_steps}
use Rattle.driver.specs.Programs.{demod_setup, filter_steps, sample_rate_steps}
use Rattle.history.proofs.Runs.{done_by, going_before}
use Rattle.registers.specs.Rates.{if_value_of, ratio_of, sent_of, true_of}
use Rattle.evidence.specs.Demodulator.{covers, demod_names, demod_settles, demodulator, last_at, place, shakes}
use Rattle.evidence.specs.Evidence.{demod_byte, lasts, rate_in, rate_mark, rate_places, ratio_in}
use Rattle.evidence.proofs.Marks.{sure_exactly}

-- ---- a program of plain steps that went through

abbrev pub ended : Entry → Entry
ended e = with_outcome e true

module _ (os : List ℕ) where
  pub plain_went : (es : List Entry) (t : Trace) → (run in_list os (map Plain es) t).progress ≡ Going → (run in_list os (map Plain es) t).log ≡ t.log ++ map ended es
  unfolding run
  plain_went [] t g = sym (append-nil t.log)
  plain_went (e ∷ es) t g =
      let s : Step = Plain e in
      let next : Trace = step in_list os s t in
      let still : next.progress ≡ Going = going_before os (map Plain es) next g in
      let start : t.progress ≡ Going = going_before os (s ∷ map Plain es) t g in
      let did : taken in_list os (ok_for os t.count s) s t ≡ next = active in_list os s t (ap goes start) in
      let ok : ok_for os t.count s ≡ true = done_by (ok_for os t.count s) t.count (ap (λ (u : Trace). u.progress) did ∙ still) in
      let one : next.log ≡ t.log ++ (ended e ∷ []) = sym (ap (λ (u : Trace). u.log) did) ∙ ap (λ (b : Bool). t.log ++ (with_outcome e b ∷ [])) ok in
      plain_went es next g ∙ ap (λ (l : List Entry). l ++ map ended es) one ∙ append_assoc t.log (ended e ∷ []) (map ended es)

-- ---- the demodulator's part of `set_sample_rate`

abbrev pub setup : ℕ → ℕ → ℕ → Bool → List Entry
setup hz rate xtal inverted =
    (demod_write 1 0x01 0x14 ∷ demod_write 1 0x01 0x10 ∷ [])
    ++ ((map access_entry (rate_rows rate xtal) ++ map access_entry (if_rows hz xtal)) ++ (demod_write 1 0x15 (ddc_byte inverted) ∷ []))

pub setup_steps : (hz rate xtal : ℕ) (inverted : Bool) → demod_setup hz rate xtal ++ ddc_steps inverted ≡ map Plain (setup hz rate xtal inverted)
unfolding reset_steps rate_steps if_steps ddc_steps access_step
setup_steps hz rate xtal inverted = refl

module _ (os : List ℕ) (hz rate xtal : ℕ) (inverted : Bool) (c : Chip) (going : (trace os (sample_rate_steps hz rate xtal inverted) c).progress ≡ Going) where
  abbrev mid : Trace
  mid = run in_list os (filter_steps hz rate) (line c [] 0 Going false)

  -- its entries: the tuner's, then these
  pub rate_log : (trace os (sample_rate_steps hz rate xtal inverted) c).log ≡ mid.log ++ map ended (setup hz rate xtal inverted)
  unfolding trace
  rate_log =
      let es : List Entry = setup hz rate xtal inverted in
      let start : Trace = line c [] 0 Going false in
      let whole : run in_list os (sample_rate_steps hz rate xtal inverted) start ≡ run in_list os (map Plain es) mid =
      run_app in_list os (filter_steps hz rate) (demod_setup hz rate xtal ++ ddc_steps inverted) start ∙ ap (λ (ss : List Step). run in_list os ss mid) (setup_steps hz rate xtal inverted) in
      ap (λ (u : Trace). u.log) whole ∙ plain_went os es mid (ap (λ (u : Trace). u.progress) (sym whole) ∙ going)

  -- after any entries before it
  module _ (es : List Entry) where
    abbrev all : List Entry
    all = es ++ (trace os (sample_rate_steps hz rate xtal inverted) c).log

    settled : (r byte : ℕ) → ((l : Last) → last_from demodulator l (map ended (setup hz rate xtal inverted)) (place 1 r) ≡ Tried byte true) → last_at all r ≡ Tried byte true
    settled r byte h =
        last_append demodulator Never es (trace os (sample_rate_steps hz rate xtal inverted) c).log (place 1 r)
        ∙ ap (λ (log : List Entry). last_from demodulator (last_in demodulator es (place 1 r)) log (place 1 r)) rate_log
        ∙ last_append demodulator (last_in demodulator es (place 1 r)) mid.log (map ended (setup hz rate xtal inverted)) (place 1 r)
        ∙ h (last_from demodulator (last_in demodulator es (place 1 r)) mid.log (place 1 r))

    pub if_high : last_at all 0x19 ≡ Tried (if_value_of hz xtal / 2 ^ 16 % 2 ^ 8) true
    unfolding last_from demod_names demod_settles covers shakes
    if_high = settled 0x19 (if_value_of hz xtal / 2 ^ 16 % 2 ^ 8) (λ l. refl)

    pub if_mid : last_at all 0x1a ≡ Tried (if_value_of hz xtal / 2 ^ 8 % 2 ^ 8 % 2 ^ 8) true
    unfolding last_from demod_names demod_settles covers shakes
    if_mid = settled 0x1a (if_value_of hz xtal / 2 ^ 8 % 2 ^ 8 % 2 ^ 8) (λ l. refl)

    pub if_low : last_at all 0x1b ≡ Tried (if_value_of hz xtal % 2 ^ 8 % 2 ^ 8) true
    unfolding last_from demod_names demod_settles covers shakes
    if_low = settled 0x1b (if_value_of hz xtal % 2 ^ 8 % 2 ^ 8) (λ l. refl)

    pub ddc_told : last_at all 0x15 ≡ Tried (ddc_byte inverted % 2 ^ 8) true
    unfolding last_from demod_names demod_settles covers shakes
    ddc_told = settled 0x15 (ddc_byte inverted % 2 ^ 8) (λ l. refl)

    -- the ratio as it is sent, in four bytes
    abbrev sent : ℕ
    sent = sent_of (ratio_of rate xtal)

    ratio_first : last_at all 0x9f ≡ Tried (sent / 2 ^ 16 / 2 ^ 8) true
    unfolding last_from demod_names demod_settles covers shakes
    ratio_first = settled 0x9f (sent / 2 ^ 16 / 2 ^ 8) (λ l. refl)

    ratio_second : last_at all 0xa0 ≡ Tried (sent / 2 ^ 16 % 2 ^ 8) true
    unfolding last_from demod_names demod_settles covers shakes
    ratio_second = settled 0xa0 (sent / 2 ^ 16 % 2 ^ 8) (λ l. refl)

    ratio_third : last_at all 0xa1 ≡ Tried (sent % 2 ^ 16 / 2 ^ 8) true
    unfolding last_from demod_names demod_settles covers shakes
    ratio_third = settled 0xa1 (sent % 2 ^ 16 / 2 ^ 8) (λ l. refl)

    ratio_fourth : last_at all 0xa2 ≡ Tried (sent % 2 ^ 16 % 2 ^ 8) true
    unfolding last_from demod_names demod_settles covers shakes
    ratio_fourth = settled 0xa2 (sent % 2 ^ 16 % 2 ^ 8) (λ l. refl)

    pub rate_sure : rate_mark all ≡ 2
    rate_sure =
        (sure_exactly (lasts (last_at all) rate_places)).1
        ((sent / 2 ^ 16 / 2 ^ 8, ratio_first), ((sent / 2 ^ 16 % 2 ^ 8, ratio_second), ((sent % 2 ^ 16 / 2 ^ 8, ratio_third), ((sent % 2 ^ 16 % 2 ^ 8, ratio_fourth), tt))))

    pub ratio_told : ratio_in (demod_byte all) ≡ sent
    ratio_told = rw (ratio_first, ratio_second, ratio_third, ratio_fourth) (omega arith)

    -- the rate that is told is the true one of #104
    pub rate_told : rate_in xtal (demod_byte all) ≡ true_of rate xtal
    unfolding rate_in true_of
    rate_told = ap (λ (r : ℕ). cond (eqb r 0) 0 (xtal * 2 ^ 22 / r)) ratio_told ∙ go (eqb sent 0) refl
      where
        go : (b : Bool) → eqb sent 0 ≡ b → cond (eqb sent 0) 0 (xtal * 2 ^ 22 / sent) ≡ xtal * 2 ^ 22 / sent
        go true e = rw (e, eqb-true sent 0 e) (sym (div-zero (xtal * 2 ^ 22)))
        go false e = rw e

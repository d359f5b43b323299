-- Demand 3, over any sequence of calls. "Take any sequence of calls from a fresh record, each on the record the last handed back, with any
-- outcomes. Premises: nothing else writes the chip; a write reported done landed whole; a failed one landed in any part."
--
-- In plain words: `History init c es` is such a sequence, c the record at its end and es its entries end to end; `Played address es before
-- after` says that a chip that held `before` may hold `after` once es were played on it, by those premises and nothing more. Registers are
-- 5 + i for the record's 27 places. What is said is of entries: that they reach a chip over USB, and that no other host writes it, is premise.
-- Assumes nothing.
use Prim.Native.Nat.{ℕ, ◌+◌, ◌-◌, ◌≤◌, ◌<◌}
use mathlib.Core.Path.{◌≡◌, refl, sym, ap, subst, ◌∙◌}
use mathlib.Core.Bool.{Bool, true, false}
use mathlib.Core.List.{List, [], ◌∷◌, ◌++◌, append-nil, append_assoc}
use mathlib.Core.Logic.{◌↔◌}
use native.Mathlib.Omega.{arith}
use lib.ListN.{length, get_or, set, length-replicate, get_or-replicate}
use Rattle.transcript.specs.declared.Entry.{Entry}
use Rattle.transcript.specs.Sections.{AllFit, Parted, section_bytes}
use Rattle.attempts.specs.Attempts.{Last, Played, Regs, byte_in, doubt_in, last_in, names, tuner_at}
use Rattle.attempts.specs.Namings as any
use Rattle.attempts.specs.Namings.Last.{Never, Tried}
use Rattle.attempts.proofs.Doubt.{InVain, doubt_any, doubt_exactly, sure_byte}
use Rattle.attempts.proofs.Named.{other_kind}
use Rattle.attempts.proofs.Lasts.{known, last_append, last_known}
use Rattle.attempts.proofs.Played.{last_done, last_never, some_played}
use Rattle.chip.specs.declared.Chip.{Chip}
use Rattle.chip.specs.declared.Progress.TheVariants.{Going, Refused11}
use Rattle.chip.specs.Chips.{mask_of, masked_byte}
use Rattle.chip.specs.Steps.{Step, Trace, emit, every, in_list, line, ok_for, trace}
use Rattle.chip.proofs.Laws.{run_address}
use Rattle.chip.specs.Steps.Step.{Open, Close, Send, Mask, Plain}
use Rattle.history.specs.Programs.{beside, fine, reload_steps}
use Rattle.history.specs.Histories.{Cut, Fresh, History, Restored, Tracks, progress_in}
use Rattle.history.specs.Histories.History.{made, called, aside}
use Rattle.history.proofs.Runs.{run_keeps}
use Rattle.history.proofs.Tracked.{plain_none, tracks_quiet, tracks_trace}
use Rattle.history.proofs.Cuts.{cut_trace}
use Rattle.history.proofs.Progressed.{told_trace}
use Rattle.history.proofs.Fitted.{counted_trace, fit_append, fit_beside, fit_trace, most_trace, read_trace}
use Rattle.history.proofs.Fine.{fine_reload}
use Rattle.history.proofs.Reload.{reload_last}

-- ---- the record follows the entries of a history

tracks_fresh : (init : List ℕ) (c : Chip) → Fresh init c → Tracks init c []
unfolding any.last_from
tracks_fresh init c h =
    record {
      chip = h.chip;
      marks = ap length h.doubtful ∙ length-replicate 27 true;
      bytes = ap length h.shadow ∙ h.long;
      doubtful = λ i l. ap (λ (m : List Bool). get_or m i true) h.doubtful ∙ get_or-replicate 27 i true true l;
      shadow = λ i l. ap (λ (b : List ℕ). get_or b i 0) h.shadow;
    }

beside_none : (address : ℕ) (s : Step) (k : Chip) (ok : Bool) → beside s ≡ true → (r : ℕ) → names address (emit s k ok) r ≡ false
beside_none address Open k ok b r = other_kind address (emit Open k ok) r refl
beside_none address Close k ok b r = other_kind address (emit Close k ok) r refl
beside_none address (Send n bytes) k ok b r = cc
beside_none address (Mask g v m) k ok b r = cc
beside_none address (Plain e) k ok b r = plain_none address e ok b r

pub tracks_aside : (init : List ℕ) (c : Chip) (es : List Entry) (k : Chip) (os : List ℕ) (ss : List Step) → every beside ss ≡ true → Tracks init c es
    → Tracks init c (es ++ (trace os ss k).log)
unfolding trace
tracks_aside init c es k os ss b t =
    run_keeps os (λ (u : Trace). Tracks init c (es ++ u.log)) beside
    (λ s u f a h.
    subst (Tracks init c) (append_assoc es u.log (emit s u.chip (ok_for os u.count s) ∷ []))
    (tracks_quiet init c (es ++ u.log) (emit s u.chip (ok_for os u.count s)) (beside_none c.address s u.chip (ok_for os u.count s) f) h))
    ss (line k [] 0 Going false) b (subst (Tracks init c) (sym (append-nil es)) t)

pub follows : (init : List ℕ) (c : Chip) (es : List Entry) → History init c es → Tracks init c es
follows init c es (made new f) = tracks_fresh init new f
follows init c es (called old xs h os ss f) = tracks_trace init old xs os ss f (follows init old xs h)
follows init c es (aside old xs h k os ss b) = tracks_aside init old xs k os ss b (follows init old xs h)

module _ (init : List ℕ) (c : Chip) (es : List Entry) (history : History init c es) where
  -- (a) "doubtful are exactly those never attempted or last attempted in vain", read off the entries
  pub doubtful_exactly : (i : ℕ) → i < 27 → get_or c.doubtful i true ≡ doubt_in (last_in c.address es (5 + i))
  doubtful_exactly i h = (follows init c es history).doubtful i h

  -- the same in the demand's words
  pub doubtful_words : (i : ℕ) → i < 27 → (get_or c.doubtful i true ≡ true) ↔ InVain (last_in c.address es (5 + i))
  doubtful_words i h = rw (doubtful_exactly i h) (doubt_exactly (last_in c.address es (5 + i)))

  -- (b) #106: the shadow's byte is the last attempted in the entries, or `INIT_ARRAY`'s where none was: "The shadow and the last attempted bytes are
  -- then one and the same list". So "A write not tried, as after a failed opening, leaves the shadow as it was": it makes no entry
  pub shadow_last : (i : ℕ) → i < 27 → get_or c.shadow i 0 ≡ byte_in (get_or init i 0) (last_in c.address es (5 + i))
  shadow_last i h = (follows init c es history).shadow i h

  module _ (before after : Regs) (played : Played c.address es before after) where
    -- (b) "at each call's end a register whose last attempt was done holds the byte sent": any register, also past 0x1f
    pub done_holds : (r byte : ℕ) → last_in c.address es r ≡ Tried byte true → after r ≡ byte
    done_holds r byte h = last_done (tuner_at c.address) es before after played r byte h

    -- a register that was never attempted holds what it held
    pub never_kept : (r : ℕ) → last_in c.address es r ≡ Never → after r ≡ before r
    never_kept r h = last_never (tuner_at c.address) es before after played r h

    -- so a register without a doubtful mark holds the shadow's byte
    pub sure_holds : (i : ℕ) → i < 27 → get_or c.doubtful i true ≡ false → after (5 + i) ≡ get_or c.shadow i 0
    sure_holds i h d =
        sure_byte (tuner_at c.address) es before after (5 + i) (get_or init i 0) played (sym (doubtful_exactly i h) ∙ d) ∙ sym (shadow_last i h)

    -- and a masked write is built on what the chip holds: the complaint of #106, "a masked update was built on a shadow the chip no longer had"
    pub built_on : (i value mask : ℕ) → i < 27 → get_or c.doubtful i true ≡ false → masked_byte c (5 + i) value mask ≡ mask_of (after (5 + i)) value mask
    built_on i value mask h d =
        let place : 5 + i - 5 ≡ i = omega arith in
        ap (λ (b : ℕ). mask_of b value mask) (ap (λ (k : ℕ). get_or c.shadow k 0) place ∙ sym (sure_holds i h d))

  -- (f) there is such a chip, whatever the chip to start from; a failed write admits both the old and the new byte in each register that it
  -- named (`failed_part` of crate attempts)
  pub some_chip : (before : Regs) → (after : Regs) × Played c.address es before after
  some_chip before = some_played (tuner_at c.address) es before

  -- and of a register with a doubtful mark the entries settle nothing: it may hold any byte
  pub doubtful_any : (i x : ℕ) → i < 27 → get_or c.doubtful i true ≡ true
      → (before : Regs) × (after : Regs) × Played c.address es before after × (after (5 + i) ≡ x)
  doubtful_any i x h d = doubt_any (tuner_at c.address) es (5 + i) x (sym (doubtful_exactly i h) ∙ d)

-- every entry of a history fits the table
pub history_fits : (init : List ℕ) (c : Chip) (es : List Entry) → History init c es → AllFit es
history_fits init c es (made new f) = tt
history_fits init c es (called old xs h os ss f) =
    fit_append xs (trace os ss old).log (history_fits init old xs h) (fit_trace os ss old f (follows init old xs h).chip)
history_fits init c es (aside old xs h k os ss b) = fit_append xs (trace os ss k).log (history_fits init old xs h) (fit_beside os ss k b)

-- ---- (c) a cut call

-- "A cut call made the steps of the uncut one up to the failing step, then at most the repeater's closing." "the uncut call is the one with the
-- failing step done and all other outcomes and replies equal": the same program, with outcome i done
pub cut_call : (os : List ℕ) (ss : List Step) (c : Chip) (i : ℕ) → every fine ss ≡ true → (trace os ss c).progress ≡ Refused11 i
    → Cut i (trace os ss c).log (trace (set os i 0) ss c).log
cut_call os ss c i f w = cut_trace os ss c i f w

-- ---- (d) reload

module _ (init : List ℕ) (c : Chip) (es : List Entry) (history : History init c es) (os : List ℕ) where
  abbrev t : Trace
  t = trace os (reload_steps c.shadow) c

  -- a reload is one more call of the sequence
  pub reload_called : History init t.chip (es ++ t.log)
  reload_called = called c es history os (reload_steps c.shadow) (fine_reload c.shadow)

  module _ (done : t.progress ≡ Going) (before after : Regs) (played : Played c.address (es ++ t.log) before after) (i : ℕ) (h : i < 27) where
    last : last_in c.address (es ++ t.log) (5 + i) ≡ Tried (get_or c.shadow i 0) true
    last =
        last_append (tuner_at c.address) Never es t.log (5 + i)
        ∙ last_known (tuner_at c.address) (last_in c.address es (5 + i)) t.log (5 + i)
        ∙ ap (λ (l : Last). known l (last_in c.address es (5 + i))) (reload_last os c c.shadow (follows init c es history).bytes done i h)

    same : t.chip.address ≡ c.address
    unfolding trace
    same = run_address in_list os (reload_steps c.shadow) (line c [] 0 Going false)

    tracked : Tracks init t.chip (es ++ t.log)
    tracked = tracks_trace init c es os (reload_steps c.shadow) (fine_reload c.shadow) (follows init c es history)

    byte : get_or c.shadow i 0 ≡ byte_in (get_or init i 0) (last_in c.address es (5 + i))
    byte = shadow_last init c es history i h

    kept : get_or t.chip.shadow i 0 ≡ byte_in (get_or init i 0) (last_in c.address es (5 + i))
    kept = tracked.shadow i h ∙ ap (λ (a : ℕ). byte_in (get_or init i 0) (last_in a (es ++ t.log) (5 + i))) same ∙ ap (byte_in (get_or init i 0)) last ∙ byte

    sure : get_or t.chip.doubtful i true ≡ false
    sure = tracked.doubtful i h ∙ ap (λ (a : ℕ). doubt_in (last_in a (es ++ t.log) (5 + i))) same ∙ ap doubt_in last

    -- "A reload answered done leaves all 27 registers and the shadow at the last attempted bytes, or the initial ones where none was
    -- attempted": the bytes are read off the entries before it. And no doubt is left
    pub reload_done : Restored (byte_in (get_or init i 0) (last_in c.address es (5 + i))) i t.chip after
    reload_done =
        record {
          holds = last_done (tuner_at c.address) (es ++ t.log) before after played (5 + i) (get_or c.shadow i 0) last ∙ byte;
          shadow = kept;
          doubtful = sure;
        }

-- ---- (e) counts and indexes are read off the entries

module _ (os : List ℕ) (ss : List Step) (c : Chip) where
  -- the entry count
  pub count_told : (trace os ss c).count ≡ length (trace os ss c).log
  count_told = counted_trace os ss c

  -- at most one entry for each step of the program
  pub count_most : length (trace os ss c).log ≤ length ss
  count_most = most_trace os ss c

  -- "11 also gives the failing entry's index": the first that failed and is no closing
  pub index_told : every fine ss ≡ true → (trace os ss c).progress ≡ progress_in (trace os ss c).log
  index_told f = told_trace os ss c f

  -- each entry fits the table, so that the section is read back to exactly these entries
  pub read_back : every fine ss ≡ true → c.address ≤ 255 → length ss ≤ 4096 → (p : List ℕ)
      → Parted (p ++ section_bytes (trace os ss c).log) p (trace os ss c).log
  read_back f a m p = read_trace os ss c f a m p

-- Demand 3, over the calls' own contracts. "Take any sequence of calls from a fresh record, each on the record the last handed back, with any
-- outcomes. Premises: nothing else writes the chip; a write reported done landed whole; a failed one landed in any part."
--
-- In plain words: `Sequence t es` is such a sequence, of any calls that take or hand back a tuner record (refused ones too), with GPIO and demodulator
-- calls between them; t is the record at its end and es its entries end to end, the very ones that the reader finds in the rooms that the
-- contracts hand back (`section_read`). `Played address es before after` says that a chip that held `before` may hold `tuner_after` once es were played
-- on it, by those premises and nothing more. Registers are 5 + i for the record's 27 places. That entries reach a chip over USB, and that no
-- other host writes it, is premise. Assumes nothing.
use Prim.Native.Nat.{ℕ, ◌+◌, ◌*◌, ◌≤◌, ◌<◌}
use mathlib.Core.Path.{◌≡◌, refl, sym, ap, subst}
use mathlib.Core.Bool.{Bool, true, false, ◌&&◌}
use mathlib.Core.List.{List, [], ◌++◌}
use mathlib.Core.Logic.{◌↔◌}
use native.Mathlib.Omega.{arith}
use lib.Dec.{eqb, leb}
use lib.ListN.{get_or, length, take}
use Rattle.transcript.specs.declared.Entry.{Entry}
use Rattle.transcript.specs.Sections.{AllFit, Parted}
use Rattle.attempts.specs.Attempts.{Played, Regs, byte_in, doubt_in, last_in}
use Rattle.attempts.specs.Namings.Last.{Never, Tried}
use Rattle.attempts.proofs.Doubt.{InVain}
use Rattle.refusals.specs.declared.Answer.TheVariants.{Done, Stopped}
use Rattle.chip.specs.declared.Chip.{Chip}
use Rattle.chip.specs.declared.Progress.TheVariants.{Going, Refused11}
use Rattle.chip.specs.Calls.{Called}
use Rattle.chip.specs.Chips.{mask_of, masked_byte}
use Rattle.chip.specs.Steps.{Trace, trace}
use Rattle.device.specs.Calls.{no_chip}
use Rattle.writes.specs.Lists.{init_array}
use Rattle.writes.specs.Programs.{send_all}
use Rattle.r82xx.specs.declared.Tuner.{Tuner}
use Rattle.r82xx.specs.Record.{fresh_chip, made_of, with_chip}
use Rattle.r82xx.specs.Calls.{refusal_of}
use Rattle.r82xx.specs.Orders as tuner
use Rattle.r82xx.specs.Orders.Order.{Reload}
use Rattle.history.specs.Histories.{Cut, Fresh, History, Restored, is_done, progress_in}
use Rattle.history.specs.Histories.History.{made}
use Rattle.history.proofs.Calls.{call_performed, went}
use Rattle.history.proofs.Demand as demand
use Rattle.chip.specs.Courses.{left_by}
use Rattle.sequences.specs.Calls.{Call, tuner_after, asked, call, entries, given, result, uncut}
use Rattle.sequences.specs.Calls.Order.{Tuned}
use Rattle.sequences.specs.Asides.{Aside, aside_asked, aside_entries, aside_given, aside_result, aside_uncut}
use Rattle.sequences.specs.Sequences.{Sequence}
use Rattle.sequences.specs.Sequences.Sequence.{fresh, next, between}
use Rattle.sequences.proofs.Views.{Stepping, View, view}
use Rattle.sequences.proofs.Ties.{step_count, step_cut, step_index, step_read, uncut_entries, view_count, view_cut, view_history, view_index, view_read}
use Rattle.sequences.proofs.Asides.{aside_history, aside_stepping, aside_uncut_lem}

-- ---- a sequence is a history

-- whatever is made, its chip is fresh: also the record beside a refusal
fresh_chip_lem : (kind address nominal : ℕ) → address ≤ 255 → Fresh init_array (made_of kind address nominal).tuner.chip
unfolding made_of
fresh_chip_lem kind address nominal h = go (leb 1 nominal && leb nominal 4_294_967_295) refl (eqb kind 0) refl (eqb kind 1) refl
  where
    new : (a : ℕ) → a ≤ 255 → Fresh init_array (fresh_chip a)
    new a l = record { chip = l; long = refl; shadow = refl; doubtful = refl }

    go : (n : Bool) → (leb 1 nominal && leb nominal 4_294_967_295) ≡ n → (a : Bool) → eqb kind 0 ≡ a → (b : Bool) → eqb kind 1 ≡ b
        → Fresh init_array (made_of kind address nominal).tuner.chip
    go true p true q b r = rw (p, q) (new address h)
    go true p false q true r = rw (p, q, r) (new address h)
    go true p false q false r = rw (p, q, r) (new 0 (omega arith))
    go false p a q b r = rw p (new 0 (omega arith))

pub sequence_history : (t : Tuner) (es : List Entry) → Sequence t es → History init_array t.chip es
sequence_history t es (fresh kind address nominal small accepted) =
    made (made_of kind address nominal).tuner.chip (fresh_chip_lem kind address nominal small)
sequence_history t es (next u xs s k g) =
    let h : History init_array u.chip xs = sequence_history u xs s in
    view_history u (result k u) (asked k u) k.outcomes k.room
    (view u k.outcomes k.room k.order g (demand.follows init_array u.chip xs h).chip) init_array xs h
sequence_history t es (between u xs s a g) = aside_history a g init_array u.chip xs (sequence_history u xs s)

module _ (t : Tuner) (es : List Entry) (s : Sequence t es) where
  history : History init_array t.chip es
  history = sequence_history t es s

  pub small : t.chip.address ≤ 255
  small = (demand.follows init_array t.chip es history).chip

  -- (a) "doubtful are exactly those never attempted or last attempted in vain", read off the entries
  pub doubtful_exactly : (i : ℕ) → i < 27 → get_or t.chip.doubtful i true ≡ doubt_in (last_in t.chip.address es (5 + i))
  doubtful_exactly = demand.doubtful_exactly init_array t.chip es history

  -- the same in the demand's words
  pub doubtful_words : (i : ℕ) → i < 27 → (get_or t.chip.doubtful i true ≡ true) ↔ InVain (last_in t.chip.address es (5 + i))
  doubtful_words = demand.doubtful_words init_array t.chip es history

  -- (b) #106: the shadow's byte is the last attempted in the entries, or `INIT_ARRAY`'s where none was: "The shadow and the last attempted bytes are then
  -- one and the same list"
  pub shadow_last : (i : ℕ) → i < 27 → get_or t.chip.shadow i 0 ≡ byte_in (get_or init_array i 0) (last_in t.chip.address es (5 + i))
  shadow_last = demand.shadow_last init_array t.chip es history

  module _ (before now : Regs) (played : Played t.chip.address es before now) where
    -- (b) "at each call's end a register whose last attempt was done holds the byte sent": any register, also past 0x1f
    pub done_holds : (r byte : ℕ) → last_in t.chip.address es r ≡ Tried byte true → now r ≡ byte
    done_holds = demand.done_holds init_array t.chip es history before now played

    -- a register that was never attempted holds what it held
    pub never_kept : (r : ℕ) → last_in t.chip.address es r ≡ Never → now r ≡ before r
    never_kept = demand.never_kept init_array t.chip es history before now played

    -- so a register without a doubtful mark holds the shadow's byte
    pub sure_holds : (i : ℕ) → i < 27 → get_or t.chip.doubtful i true ≡ false → now (5 + i) ≡ get_or t.chip.shadow i 0
    sure_holds = demand.sure_holds init_array t.chip es history before now played

    -- and the next masked write is built on what the chip holds (#106)
    pub built_on : (i value mask : ℕ) → i < 27 → get_or t.chip.doubtful i true ≡ false → masked_byte t.chip (5 + i) value mask ≡ mask_of (now (5 + i)) value mask
    built_on = demand.built_on init_array t.chip es history before now played

  -- (f) there is such a chip, whatever the chip to start from (and a failed write admits both the old and the new byte: `failed_part` of crate attempts)
  pub some_chip : (before : Regs) → (now : Regs) × Played t.chip.address es before now
  some_chip = demand.some_chip init_array t.chip es history

  -- and of a register with a doubtful mark the entries settle nothing: it may hold any byte
  pub doubtful_any : (i x : ℕ) → i < 27 → get_or t.chip.doubtful i true ≡ true
      → (before : Regs) × (now : Regs) × Played t.chip.address es before now × (now (5 + i) ≡ x)
  doubtful_any = demand.doubtful_any init_array t.chip es history

  -- every entry fits the table
  pub sequence_fits : AllFit es
  sequence_fits = demand.history_fits init_array t.chip es history

  -- ---- one call more, on the record at the end

  module _ (k : Call) (g : given k.order t ≡ true) where
    seen : View t (result k t) (asked k t) k.outcomes k.room
    seen = view t k.outcomes k.room k.order g small

    -- the entries of this page are the contract's: where it made any, the reader finds them at the start of the room that it hands back
    pub section_read : 0 < (result k t).count → Parted (take (16 * (result k t).count + 8) (result k t).room) [] (entries k t)
    section_read = view_read t (result k t) (asked k t) k.outcomes k.room seen small

    -- (c) "A cut call made the steps of the uncut one up to the failing step, then at most the repeater's closing." The failing step is the one
    -- whose index the answer gives
    pub cut_uncut : (i : ℕ) → (result k t).answer ≡ Stopped i → Cut i (entries k t) (entries (uncut i k) t)
    cut_uncut i h = subst (Cut i (entries k t)) (uncut_entries i k t) (view_cut t (result k t) (asked k t) k.outcomes k.room seen i h)

    -- (e) the count is the entries'
    pub count_told : (result k t).count ≡ length (entries k t)
    count_told = view_count t (result k t) (asked k t) k.outcomes k.room seen

    -- (e) "11 also gives the failing entry's index": the first that failed and is no closing
    pub index_told : (i : ℕ) → (result k t).answer ≡ Stopped i → progress_in (entries k t) ≡ Refused11 i
    index_told = view_index t (result k t) (asked k t) k.outcomes k.room seen

-- ---- (d) reload

module _ (t : Tuner) (es : List Entry) (s : Sequence t es) (os room : List ℕ) where
  abbrev k : Call
  k = call (Tuned Reload) os room

  abbrev tr : Trace
  tr = trace os (send_all t.chip.shadow) t.chip

  abbrev number : ℕ
  number = refusal_of t 0 9 0 (length room) (length os) 0

  abbrev keep : Trace → Tuner
  keep u = with_chip t u.chip

  -- answered done, it was not refused, and no step failed
  performed : (result k t).answer ≡ Done 0 → (eqb number 0 ≡ true) × (tr.progress ≡ Going)
  unfolding tuner.result_of left_by
  performed h =
      let w = (went number (Done 0) os (send_all t.chip.shadow) t.chip keep t room (ap is_done h)).1 in
      (w.taken_up, w.going)

  left : eqb number 0 ≡ true → (tuner_after k t).chip ≡ tr.chip
  unfolding tuner.result_of left_by
  left e =
      ap (λ (d : Called Tuner). d.next.chip) (call_performed number (Done 0) os (send_all t.chip.shadow) t.chip keep t room e)

  told : eqb number 0 ≡ true → entries k t ≡ tr.log
  told e = rw e

  -- "A reload answered done leaves all 27 registers and the shadow at the last attempted bytes, or the initial ones where none was attempted": the bytes
  -- are read off the entries before it. And no doubt is left
  pub reload_done : (result k t).answer ≡ Done 0 → (before now : Regs) → Played t.chip.address (es ++ entries k t) before now → (i : ℕ) → i < 27
      → Restored (byte_in (get_or init_array i 0) (last_in t.chip.address es (5 + i))) i (tuner_after k t).chip now
  reload_done h before now played i l =
      let p = performed h in
      subst (λ (c : Chip). Restored (byte_in (get_or init_array i 0) (last_in t.chip.address es (5 + i))) i c now) (sym (left p.0))
      (demand.reload_done init_array t.chip es (sequence_history t es s) os p.1 before now
      (subst (λ (m : List Entry). Played t.chip.address (es ++ m) before now) (told p.0) played) i l)

-- ---- calls that touch no record: their counts, indexes, sections and cuts

module _ (a : Aside) (g : aside_given a.other ≡ true) where
  stepped : Stepping (Unit {0}) no_chip tt (aside_result a) (aside_asked a) a.outcomes a.room
  stepped = aside_stepping a g

  pub aside_count : (aside_result a).count ≡ length (aside_entries a)
  aside_count = step_count (Unit {0}) no_chip tt (aside_result a) (aside_asked a) a.outcomes a.room stepped

  pub aside_read : 0 < (aside_result a).count → Parted (take (16 * (aside_result a).count + 8) (aside_result a).room) [] (aside_entries a)
  aside_read = step_read (Unit {0}) no_chip tt (aside_result a) (aside_asked a) a.outcomes a.room stepped (omega arith)

  pub aside_index : (i : ℕ) → (aside_result a).answer ≡ Stopped i → progress_in (aside_entries a) ≡ Refused11 i
  aside_index = step_index (Unit {0}) no_chip tt (aside_result a) (aside_asked a) a.outcomes a.room stepped

  pub aside_cut : (i : ℕ) → (aside_result a).answer ≡ Stopped i → Cut i (aside_entries a) (aside_entries (aside_uncut i a))
  aside_cut i h = subst (Cut i (aside_entries a)) (aside_uncut_lem i a) (step_cut (Unit {0}) no_chip tt (aside_result a) (aside_asked a) a.outcomes a.room stepped i h)

-- One call more, on any bytes of a tuner's record that hold of a chip: the bytes that the host goes on with hold of every chip that the entries which it read were
-- played on. Nothing is asked of where the bytes come from, so a spare chip after a restore list is covered, and a record that was kept for years. Assumes nothing.
use Prim.Native.Nat.{ℕ, ◌+◌, ◌≤◌, ◌<◌}
use mathlib.Core.Path.{◌≡◌, refl, sym, ap, subst, ◌∙◌}
use mathlib.Core.Bool.{Bool, true, false, false≢true, true≢false}
use mathlib.Core.List.{List, []}
use native.Mathlib.Omega.{arith}
use borrow.Author.Tests.{le-leb, lt-ltb}
use lib.ListN.{get_or}
use Rattle.transcript.specs.declared.Entry.{Entry}
use Rattle.attempts.specs.Attempts.{Last, Played, Regs, byte_in, doubt_in, last_in, tuner_at}
use Rattle.attempts.specs.Namings.Last.{Never, Tried}
use Rattle.attempts.proofs.Played.{last_done}
use Rattle.restore.specs.Restore.{list_of, sure_in}
use Rattle.restore.proofs.Listed.{sent}
use Rattle.history.specs.Holding as chips
use Rattle.r82xx.specs.declared.Tuner.{Tuner}
use Rattle.records.specs.Tuners.{TunerRead}
use Rattle.records.specs.Fields.{flag_byte}
use Rattle.records.specs.Tuners.{is_tuner, pick_tuner, tuner_bytes, tuner_from, tuner_of, tuner_widths}
use Rattle.records.proofs.Exact.{Ranged, read_written, written_read}
use Rattle.sequences.specs.Asides.{Aside, aside_given}
use Rattle.sequences.specs.Calls.{Call, call, entries, tuner_after}
use Rattle.sequences.proofs.Holding as one
use Rattle.wire.specs.Bytes.{Bytes}
use Rattle.writes.specs.Lists.{init_array}
use Rattle.wire.specs.Parts.{parts_from}
use Rattle.carried.specs.Carried.{Carried}
use Rattle.carried.specs.Exported.{Left, Lent, amiss, aside_entries_of, entries_of, leaves, order_of, typed}
use Rattle.carried.specs.Holding.{Holds}
use Rattle.carried.proofs.Demand.{address_byte, aside_entries_lem, away_entries, behind, doubtful_byte, doubtful_byte_of, entries_read, flag_none, shadow_byte, shadow_byte_of, sure_holds}
use Rattle.carried.proofs.Passed.{Passed, every_passed, ranged_after, turned}
use Rattle.carried.proofs.Passed.Passed.{away, made}
use Rattle.carried.proofs.Steady.{typed_given}

-- ---- bytes that are a record's

pub record Recorded (b : List ℕ) : Type 0 where
  pub tuner : Tuner
  pub bytes : b ≡ tuner_bytes tuner
  pub ranges : Ranged tuner

picked : (c : Bool) (t : Tuner) → (pick_tuner c t).ok ≡ true → c ≡ true
picked true t h = refl
picked false t h = absurd (false≢true h)

-- all that the calls do not refuse 1
pub accepted_recorded : (b : List ℕ) → Bytes b → (tuner_of b).ok ≡ true → Recorded b
unfolding tuner_of
accepted_recorded b bytes ok =
    let w = written_read b bytes (picked (is_tuner b) (tuner_from (parts_from 0 tuner_widths b)) ok) in
    record { tuner = (tuner_of b).tuner; bytes = sym w.1; ranges = w.2 }

-- those of demand 3's sequences are among them, and hold of the chip that the entries were played on
pub carried_recorded : (b : List ℕ) (es : List Entry) → Carried b es → Recorded b
carried_recorded b es c = let p = behind b es c in record { tuner = p.tuner; bytes = p.bytes; ranges = p.ranges }

pub carried_holds : (b : List ℕ) (es : List Entry) → Carried b es → (before now : Regs) → Played (get_or b 1 0) es before now → Holds b now
carried_holds b es c before now p = sure_holds b es c before now p

-- document 02, #110: "Played .. on a chip holding anything, it leaves those registers as the sections did". So the bytes hold of a spare chip too, once the restore list of
-- all the sections was played on it, whatever that chip held
module _ (b : List ℕ) (es : List Entry) (c : Carried b es) (spare now : Regs) (played : Played (get_or b 1 0) (list_of (get_or b 1 0) es) spare now) where
  abbrev address : ℕ
  address = get_or b 1 0

  sure_so : (i : ℕ) → i < 27 → doubt_in (last_in address es (5 + i)) ≡ false → sure_in address es (5 + i) ≡ true
  unfolding sure_in
  sure_so i h d = rw (le-leb 5 (5 + i) (omega arith), lt-ltb (5 + i) 32 (omega arith), d)

  byte_tried : (l : Last) (x : ℕ) → doubt_in l ≡ false → byte_in 0 l ≡ byte_in x l
  byte_tried Never x d = absurd (true≢false d)
  byte_tried (Tried byte ok) x d = refl

  pub restored_holds : Holds b now
  restored_holds i h d =
      let doubt : doubt_in (last_in address es (5 + i)) ≡ false = flag_none (doubt_in (last_in address es (5 + i))) (sym (doubtful_byte b es c i h) ∙ d) in
      last_done (tuner_at address) (list_of address es) spare now played (5 + i) (byte_in 0 (last_in address es (5 + i))) (sent address es (5 + i) (sure_so i h doubt))
      ∙ byte_tried (last_in address es (5 + i)) (get_or init_array i 0) doubt
      ∙ sym (shadow_byte b es c i h)

pub recorded_accepted : (b : List ℕ) → Recorded b → (tuner_of b).ok ≡ true
recorded_accepted b w =
    ap (λ (d : List ℕ). (tuner_of d).ok) w.bytes ∙ ap (λ (x : TunerRead). x.ok) (read_written w.tuner w.ranges)

-- ---- the marks and the shadow, as bytes and in the record

module _ (t : Tuner) (r : Ranged t) (chip : Regs) where
  inward : Holds (tuner_bytes t) chip → chips.Holds t.chip chip
  inward h i l d = h i l (doubtful_byte_of t r i l ∙ ap flag_byte d) ∙ shadow_byte_of t r i l

  outward : chips.Holds t.chip chip → Holds (tuner_bytes t) chip
  outward h i l d = h i l (flag_none (get_or t.chip.doubtful i true) (sym (doubtful_byte_of t r i l) ∙ d)) ∙ sym (shadow_byte_of t r i l)

-- ---- one call

module _ (t : Tuner) (r : Ranged t) where
  small : t.chip.address ≤ 255
  small = omega (arith, r.address)

  module _ (k : Call) (n : ℕ) (z : Bool) (l : Left) where
    passed_recorded : Ranged (tuner_after k t) → Passed t k n z l → Recorded l.bytes
    passed_recorded after (away y told reply bytes) = record { tuner = t; bytes = bytes; ranges = r }
    passed_recorded after (made y told reply room bytes) = record { tuner = tuner_after k t; bytes = bytes; ranges = after }

    passed_address : Ranged (tuner_after k t) → (tuner_after k t).chip.address ≡ t.chip.address → Passed t k n z l → get_or l.bytes 1 0 ≡ get_or (tuner_bytes t) 1 0
    passed_address after same (away y told reply bytes) = ap (λ (d : List ℕ). get_or d 1 0) bytes
    passed_address after same (made y told reply room bytes) =
        ap (λ (d : List ℕ). get_or d 1 0) bytes ∙ address_byte (tuner_after k t) after ∙ same ∙ sym (address_byte t r)

  module _ (chip after : Regs) (holds : Holds (tuner_bytes t) chip) where
    -- nothing was read
    unread : (es : List Entry) → Played (get_or (tuner_bytes t) 1 0) es chip after → es ≡ [] → Holds (tuner_bytes t) after
    unread es p e i l d =
        let same : (q : ℕ) → after q ≡ chip q = subst (λ (x : List Entry). Played (get_or (tuner_bytes t) 1 0) x chip after) e p in
        same (5 + i) ∙ holds i l d

    at_chip : (es : List Entry) → Played (get_or (tuner_bytes t) 1 0) es chip after → Played t.chip.address es chip after
    at_chip es p = subst (λ (a : ℕ). Played a es chip after) (address_byte t r) p

    one_passed : (k : Lent) → typed k.exported ≡ true → Played (get_or (tuner_bytes t) 1 0) (entries_of k (tuner_bytes t)) chip after
        → Passed t (call (order_of k.exported) k.outcomes k.room) (turned k.exported k.next t) (amiss k.exported) (leaves k (tuner_bytes t))
        → Holds (leaves k (tuner_bytes t)).bytes after
    one_passed k h p (away y told reply bytes) =
        subst (λ (d : List ℕ). Holds d after) (sym bytes)
        (unread (entries_of k (tuner_bytes t)) p (away_entries (leaves k (tuner_bytes t)) (turned k.exported k.next t) reply))
    one_passed k h p (made y told reply room bytes) =
        let inner : Call = call (order_of k.exported) k.outcomes k.room in
        let all : entries_of k (tuner_bytes t) ≡ entries inner t = entries_read t r inner h (leaves k (tuner_bytes t)) reply room in
        subst (λ (d : List ℕ). Holds d after) (sym bytes)
        (outward (tuner_after inner t) (ranged_after t r inner h) after
        (one.one_more t small r.lists.doubtful r.lists.shadow chip after (inward t r chip holds) inner (typed_given inner.order t h)
        (subst (λ (x : List Entry). Played t.chip.address x chip after) all (at_chip (entries_of k (tuner_bytes t)) p))))

    beside_passed : (a : Aside) → aside_given a.other ≡ true → Played (get_or (tuner_bytes t) 1 0) (aside_entries_of a) chip after → Holds (tuner_bytes t) after
    beside_passed a g p =
        outward t r after
        (one.aside_more t small r.lists.doubtful r.lists.shadow chip after (inward t r chip holds) a g
        (subst (λ (x : List Entry). Played t.chip.address x chip after) (aside_entries_lem a g) (at_chip (aside_entries_of a) p)))

-- ---- the theorems

module _ (b : List ℕ) (w : Recorded b) where
  -- the bytes that a call leaves are a record's again, of the same chip
  pub recorded_next : (k : Lent) → typed k.exported ≡ true → Recorded (leaves k b).bytes
  recorded_next k h =
      let inner : Call = call (order_of k.exported) k.outcomes k.room in
      subst (λ (d : List ℕ). Recorded (leaves k d).bytes) (sym w.bytes)
      (passed_recorded w.tuner w.ranges inner _ _ _ (ranged_after w.tuner w.ranges inner h)
      (every_passed w.tuner w.ranges k.exported k.outcomes k.room k.next h))

  pub address_stays : (k : Lent) → typed k.exported ≡ true → get_or (leaves k b).bytes 1 0 ≡ get_or b 1 0
  address_stays k h =
      let inner : Call = call (order_of k.exported) k.outcomes k.room in
      subst (λ (d : List ℕ). get_or (leaves k d).bytes 1 0 ≡ get_or d 1 0) (sym w.bytes)
      (passed_address w.tuner w.ranges inner _ _ _ (ranged_after w.tuner w.ranges inner h)
      (one.address_stays w.tuner (small w.tuner w.ranges) inner (typed_given inner.order w.tuner h))
      (every_passed w.tuner w.ranges k.exported k.outcomes k.room k.next h))

  module _ (chip after : Regs) (holds : Holds b chip) where
    -- every exported call that takes a tuner's record, whatever its outcomes and whatever is lent
    pub one_more : (k : Lent) → typed k.exported ≡ true → Played (get_or b 1 0) (entries_of k b) chip after → Holds (leaves k b).bytes after
    one_more k h =
        subst (λ (d : List ℕ). Holds d chip → Played (get_or d 1 0) (entries_of k d) chip after → Holds (leaves k d).bytes after) (sym w.bytes)
        (λ held p.
        one_passed w.tuner w.ranges chip after held k h p (every_passed w.tuner w.ranges k.exported k.outcomes k.room k.next h)) holds

    -- and those that take none, which leave the bytes
    pub aside_more : (a : Aside) → aside_given a.other ≡ true → Played (get_or b 1 0) (aside_entries_of a) chip after → Holds b after
    aside_more a g =
        subst (λ (d : List ℕ). Holds d chip → Played (get_or d 1 0) (aside_entries_of a) chip after → Holds d after) (sym w.bytes)
        (λ held p. beside_passed w.tuner w.ranges chip after held a g p) holds

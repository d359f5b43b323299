-- A host that dies while it drives an exported call in rounds. What it has then are the bytes that it gave to the call, and memory that it had kept: what was known, and
-- failed for all the rest. The same call with that memory, by the library alone, leaves bytes that tell the truth of the chip as it is. Assumes nothing.
use Prim.Native.Nat.{ℕ, ◌+◌, ◌%◌, ◌<◌}
use mathlib.Core.Path.{◌≡◌, refl, sym, ap, subst, ◌∙◌}
use mathlib.Core.Bool.{Bool, true, false, cond, ◌||◌, true≢false}
use mathlib.Core.List.{List, [], ◌++◌}
use borrow.Author.Tests.{eqb-true}
use lib.Dec.{eqb, ltb}
use lib.ListN.{get_or, length}
use Rattle.transcript.specs.declared.Entry.{Entry}
use Rattle.attempts.specs.Attempts.{Played, Regs, tuner_at}
use Rattle.attempts.proofs.Played.{played_append}
use Rattle.refusals.specs.declared.Answer.TheVariants.{Refused}
use Rattle.chip.specs.declared.Chip.{Chip}
use Rattle.chip.specs.Calls.{Called, call_of, called, performed, refusal_with}
use Rattle.chip.specs.Courses.{Course, asked_by, left_by}
use Rattle.chip.specs.Courses.Course.{Still, Taken}
use Rattle.chip.specs.Steps.{trace}
use Rattle.r82xx.specs.declared.Tuner.{Tuner}
use Rattle.records.specs.Tuners.{tuner_bytes}
use Rattle.records.proofs.Exact.{Ranged}
use Rattle.reply.specs.Replies.{call_reply, reply_of}
use Rattle.rounds.specs.Driven as inside
use Rattle.rounds.specs.Driven.{Ends, Touched}
use Rattle.rounds.specs.Driven.RoundsBy.{begun, round}
use Rattle.rounds.specs.Scripts.{Ask, Script, order_with, refusal, step_at}
use Rattle.rounds.specs.Scripts as script
use Rattle.rounds.specs.Scripts.Ask.{On}
use Rattle.rounds.proofs.Driven as driven
use Rattle.rounds.proofs.Ended.{ended_on}
use Rattle.sequences.specs.Calls.{Call, Order, call, entries, result, row_of, sound_for, tuner_after}
use Rattle.sequences.proofs.Views.{result_row}
use Rattle.carried.specs.Carried.{Carried}
use Rattle.carried.specs.Carried.Carried.{next as more}
use Rattle.carried.specs.Crashed.{Kept, Knows, Memory, Rounds, called_with, exported_with, heard}
use Rattle.carried.specs.Exported.{Exported, amiss, leaves, order_of, stands, typed}
use Rattle.carried.specs.Exported.Exported.{Own, Rate, Correct, Path, Hop}
use Rattle.carried.specs.Holding.{Holds}
use Rattle.carried.proofs.Demand.{entries_read, sure_holds}
use Rattle.carried.proofs.Holding.{Recorded, address_stays, carried_recorded, one_more}
use Rattle.carried.proofs.Passed.{Passed, every_passed, turned}
use Rattle.carried.proofs.Passed.Passed.{away, made}

-- the call of crate `sequences` that it is, with the script's replies
with_order : (rs slot : List ℕ) (e : Exported) → order_of (exported_with rs slot e) ≡ order_with rs (order_of e)
with_order rs slot (Own o) = refl
with_order rs slot (Rate rate table driver own) = refl
with_order rs slot (Correct ppm driver) = refl
with_order rs slot (Path path own) = refl
with_order rs slot (Hop hz table own driver other) = refl

-- what stands was not refused before any step
unrefused : {R : Type 0} (s : Bool) (row : Course R) (os : List ℕ) (c : Chip) (old : R) (room : List ℕ) → stands (call_reply (left_by s row os c old room)) ≡ true
    → (asked_by s row (length os) (length room)).number ≡ 0
unfolding left_by call_of
unrefused s (Still next answer) os c old room h = refl
unrefused {R} s (Taken argument n m rs whole ss keep) os c old room h = go (eqb number 0) refl h
  where
    number : ℕ
    number = refusal_with s argument n m (length room) (length os) (length rs)

    go : (b : Bool) → eqb number 0 ≡ b → stands (call_reply (cond b (performed whole keep room (trace os ss c)) (called old room 0 (Refused number)))) ≡ true → number ≡ 0
    go true e q = eqb-true number 0 e
    go false e q = absurd (true≢false (sym q ∙ ap (λ (b : Bool). b || ltb 0 (0 % 4_294_967_296)) e))

-- ---- a round, on the bytes of a record in its ranges

module _ (t : Tuner) (r : Ranged t) (e : Exported) where
  abbrev b : List ℕ
  b = tuner_bytes t

  abbrev ask : Ask
  ask = On (order_of e) t

  abbrev pub script_of : Memory → Script
  script_of m = record { outcomes = m.outcomes; replies = m.replies; room = m.room }

  abbrev inner : Memory → Call
  inner m = call (order_with m.replies (order_of e)) m.outcomes m.room

  -- what a call that stands leaves
  pub record Met (m : Memory) : Type 0 where
    pub refused : refusal ask (script_of m) ≡ 0
    pub entries : heard e b m ≡ script.made ask (script_of m)
    pub reply : (leaves (called_with e m) b).reply ≡ call_reply (result (inner m) t)
    pub bytes : (leaves (called_with e m) b).bytes ≡ tuner_bytes (tuner_after (inner m) t)

  pub met : (m : Memory) → typed (exported_with m.replies m.slot e) ≡ true → stands (leaves (called_with e m) b).reply ≡ true → Met m
  met m h s = go (every_passed t r (exported_with m.replies m.slot e) m.outcomes m.room m.next h)
    where
      own : Call
      own = call (order_of (exported_with m.replies m.slot e)) m.outcomes m.room

      same : own ≡ inner m
      same = ap (λ (o : Order). call o m.outcomes m.room) (with_order m.replies m.slot e)

      by_row : stands (call_reply (result (inner m) t)) ≡ true → refusal ask (script_of m) ≡ 0
      by_row q =
          let o : Order = order_with m.replies (order_of e) in
          unrefused (sound_for o t) (row_of o t) m.outcomes t.chip t m.room
          (sym (ap (λ (x : Called Tuner). stands (call_reply x)) (result_row t m.outcomes m.room o)) ∙ q)

      go : Passed t own (turned (exported_with m.replies m.slot e) m.next t) (amiss (exported_with m.replies m.slot e)) (leaves (called_with e m) b) → Met m
      go (away z told reply bytes) =
          absurd (true≢false (sym s ∙ ap stands reply ∙ ap (λ (x : Bool). x || ltb 0 (0 % 4_294_967_296)) z))
      go (made z told reply room bytes) =
          let replied : (leaves (called_with e m) b).reply ≡ call_reply (result (inner m) t) = reply ∙ ap (λ (k : Call). call_reply (result k t)) same in
          record {
            refused = by_row (sym (ap stands replied) ∙ s);
            entries = entries_read t r own h (leaves (called_with e m) b) reply room ∙ ap (λ (k : Call). entries k t) same;
            reply = replied;
            bytes = bytes ∙ ap (λ (k : Call). tuner_bytes (tuner_after k t)) same;
          }

  module _ (os rs : List ℕ) (m : Memory) (k : Knows e b os rs m) where
    pub known_met : Met m
    known_met = met m k.numbers k.taken

    pub known_so : inside.Knows ask os rs (script_of m)
    known_so = record { outcomes = k.outcomes; replies = k.replies; taken = known_met.refused }

  -- the host's rounds are those of crate `rounds`
  pub rounds_so : (os rs : List ℕ) (ds : List Entry) → Rounds e b os rs ds → inside.Rounds ask os rs ds
  rounds_so os rs ds begun = begun
  rounds_so xs ys zs (round os rs es p m k x here o bs n small) =
      round os rs es (rounds_so os rs es p) (script_of m) (known_so os rs m k) x
      (sym (ap (step_at (length os)) (known_met os rs m k).entries) ∙ here) o bs n small

  module _ (os rs : List ℕ) (ds : List Entry) (rounds : Rounds e b os rs ds) (m : Memory) where
    crashed_at : Kept e b os rs m → (address : ℕ) (start mid now : Regs) → Played address ds start mid
        → Touched address (step_at (length os) (heard e b m)) mid now → Played address (heard e b m) start now
    crashed_at kept address start mid now p =
        let is : heard e b m ≡ script.made ask (script_of m) = (known_met os rs m kept.known).entries in
        subst (λ (l : List Entry). Touched address (step_at (length os) l) mid now → Played address l start now) (sym is)
        (driven.crashed address ask os rs ds (rounds_so os rs ds rounds) (script_of m)
        (record { known = known_so os rs m kept.known; vain = kept.vain }) start mid now p)

    ended_at : (n : Memory) → Knows e b os rs m → Knows e b os rs n → step_at (length os) (heard e b m) ≡ []
        → ((leaves (called_with e m) b).reply ≡ (leaves (called_with e n) b).reply) × ((leaves (called_with e m) b).bytes ≡ (leaves (called_with e n) b).bytes)
        × (heard e b m ≡ ds) × (heard e b n ≡ ds)
    ended_at n k l h =
        let x : Met m = known_met os rs m k in
        let y : Met n = known_met os rs n l in
        let last : step_at (length os) (script.made ask (script_of m)) ≡ [] = sym (ap (step_at (length os)) x.entries) ∙ h in
        let so = rounds_so os rs ds rounds in
        let same : Ends (result (inner m) t) (result (inner n) t) =
        ended_on os rs ds (script_of m) (script_of n) (order_of e) t so (known_so os rs m k) (known_so os rs n l) last in
        let all = driven.all_taken ask os rs ds so (script_of m) (script_of n) (known_so os rs m k) (known_so os rs n l) last in (
          x.reply ∙ (λ i. reply_of (same.answer i) (same.count i)) ∙ sym y.reply,
          x.bytes ∙ ap tuner_bytes same.next ∙ sym y.bytes,
          x.entries ∙ all.0,
          y.entries ∙ all.1,
        )

-- ---- the theorems

module _ (b : List ℕ) (w : Recorded b) (e : Exported) (os rs : List ℕ) (ds : List Entry) (rounds : Rounds e b os rs ds) (m : Memory) where
  -- whenever it died: the entries of the same call with what it had kept were played on the chip as it is now, whether the step that it was at was taken, in part or not
  pub crashed : Kept e b os rs m → (address : ℕ) (start mid now : Regs) → Played address ds start mid
      → Touched address (step_at (length os) (heard e b m)) mid now → Played address (heard e b m) start now
  crashed =
      subst
      (λ (d : List ℕ). Rounds e d os rs ds → Kept e d os rs m → (address : ℕ) (start mid now : Regs) → Played address ds start mid
      → Touched address (step_at (length os) (heard e d m)) mid now → Played address (heard e d m) start now) (sym w.bytes)
      (λ q. crashed_at w.tuner w.ranges e os rs ds q m) rounds

  -- "When every step has been taken", reply, next bytes and entries are those of every call with what is known: the rest of the script, of any room and of any slice, does not count
  pub ended_alike : (n : Memory) → Knows e b os rs m → Knows e b os rs n → step_at (length os) (heard e b m) ≡ []
      → ((leaves (called_with e m) b).reply ≡ (leaves (called_with e n) b).reply) × ((leaves (called_with e m) b).bytes ≡ (leaves (called_with e n) b).bytes)
      × (heard e b m ≡ ds) × (heard e b n ≡ ds)
  ended_alike n =
      subst
      (λ (d : List ℕ). Rounds e d os rs ds → Knows e d os rs m → Knows e d os rs n → step_at (length os) (heard e d m) ≡ []
      → ((leaves (called_with e m) d).reply ≡ (leaves (called_with e n) d).reply) × ((leaves (called_with e m) d).bytes ≡ (leaves (called_with e n) d).bytes)
      × (heard e d m ≡ ds) × (heard e d n ≡ ds)) (sym w.bytes)
      (λ q. ended_at w.tuner w.ranges e os rs ds q m n) rounds

  -- so where the bytes held of the chip before the call, those that the next process goes on with hold of it as it is now
  pub recovered_holds : Kept e b os rs m → (start mid now : Regs) → Holds b start → Played (get_or b 1 0) ds start mid
      → Touched (get_or b 1 0) (step_at (length os) (heard e b m)) mid now → Holds (leaves (called_with e m) b).bytes now
  recovered_holds kept start mid now holds p u =
      one_more b w start now holds (called_with e m) kept.known.numbers (crashed kept (get_or b 1 0) start mid now p u)

-- and demand 3 holds of them: they end a sequence whose entries were played on the chip as it is now
module _ (b : List ℕ) (es : List Entry) (c : Carried b es) (e : Exported) (os rs : List ℕ) (ds : List Entry) (rounds : Rounds e b os rs ds) (m : Memory) (kept : Kept e b os rs m)
    (before start mid now : Regs) (played : Played (get_or b 1 0) es before start) (done : Played (get_or b 1 0) ds start mid)
    (touched : Touched (get_or b 1 0) (step_at (length os) (heard e b m)) mid now) where
  pub recovered : Carried (leaves (called_with e m) b).bytes (es ++ heard e b m) × Played (get_or b 1 0) (es ++ heard e b m) before now
  recovered = (
    more b es c (called_with e m) kept.known.numbers,
    played_append (tuner_at (get_or b 1 0)) es (heard e b m) before start now played
        (crashed b (carried_recorded b es c) e os rs ds rounds m kept (get_or b 1 0) start mid now done touched),
  )

  -- no register is sure and wrong
  pub recovered_sure : (i : ℕ) → i < 27 → get_or (leaves (called_with e m) b).bytes (51 + i) 1 ≡ 0 → now (5 + i) ≡ get_or (leaves (called_with e m) b).bytes (2 + i) 0
  recovered_sure =
      let same : get_or (leaves (called_with e m) b).bytes 1 0 ≡ get_or b 1 0 = address_stays b (carried_recorded b es c) (called_with e m) kept.known.numbers in
      sure_holds (leaves (called_with e m) b).bytes (es ++ heard e b m) recovered.0 before now
      (subst (λ (a : ℕ). Played a (es ++ heard e b m) before now) (sym same) recovered.1)

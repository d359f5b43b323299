-- Demand 3 of the bytes that a host holds. `Carried b es` is any sequence of exported calls from the bytes of `pasetone_tuner_new`, each on the bytes that the
-- host was handed by the one before, with any outcomes, replies and lent memory; b are the bytes at its end, and es the entries that the host read from the
-- rooms, end to end. Byte 1 is the chip's address, bytes 2..28 are the shadow, bytes 51..77 the doubtful marks; register 5 + i is the i-th of each.
-- The premises on the chip are those of crate `attempts`, and there are no others. Assumes nothing.
use Prim.Native.Nat.{ℕ, ◌+◌, ◌*◌, ◌%◌, ◌≤◌, ◌<◌}
use mathlib.Core.Path.{◌≡◌, refl, sym, ap, subst, ◌∙◌}
use mathlib.Core.Bool.{Bool, true, false, not, cond, false≢true, true≢false}
use mathlib.Core.List.{List, [], ◌∷◌, ◌++◌, append-nil}
use mathlib.Core.Logic.{◌↔◌}
use native.Mathlib.Omega.{arith}
use borrow.Author.Tests.{eq-eqb, eqb-false, eqb-true, leb-true, ltb-false, ne_eqb}
use lib.Dec.{eqb, leb, ltb}
use lib.Ieee.{binary32}
use lib.Ieee.Bits.{of_bits-fits}
use lib.ListN.{get_or, length, take, drop, get_or-map}
use lib.Seq.{get_or-drop, get_or-take, sets}
use Rattle.transcript.specs.declared.Entry.{Entry}
use Rattle.transcript.specs.Sections.{AllFit, Parted}
use Rattle.attempts.specs.Attempts.{Played, Regs, byte_in, doubt_in, last_in, tuner_at}
use Rattle.attempts.specs.Namings.Last.{Never, Tried}
use Rattle.attempts.proofs.Doubt.{InVain, doubt_any, doubt_exactly, sure_byte}
use Rattle.attempts.proofs.Played.{last_done, last_never, some_played}
use Rattle.wire.specs.Bytes.{le_bytes}
use Rattle.wire.specs.Parts.{part, parts_from}
use Rattle.wire.proofs.Joins.{parts_joined}
use Rattle.refusals.specs.declared.Answer.{Answer}
use Rattle.refusals.specs.declared.Answer.TheVariants.{Done, Refused, Stopped}
use Rattle.chip.specs.declared.Progress.TheVariants.{Going, Refused11}
use Rattle.chip.specs.declared.LockTries.{LockTries}
use Rattle.chip.specs.Entries.{no_tries}
use Rattle.refusals.specs.Answers.{index_of, number_of}
use Rattle.chip.specs.Calls.{Called, answer_of, call_of, called, lock_tries_in, locked_in, performed, tries_in}
use Rattle.device.specs.Calls.{no_chip}
use Rattle.refusals.specs.Lent.{lent_to}
use Rattle.refusals.specs.Table.{SETUP, ROOM, STEP}
use Rattle.pll.specs.declared.Kind.{Kind}
use Rattle.pll.specs.declared.Kind.TheVariants.{R820T, R828D}
use Rattle.writes.specs.Lists.{init_array}
use Rattle.r82xx.specs.declared.Tuner.{Tuner}
use Rattle.r82xx.specs.Record.{fresh_tuner, made_of}
use Rattle.r82xx.specs.Orders.Order.{Reload, Tune}
use Rattle.records.specs.Drivers.{driver_of}
use Rattle.records.specs.Fields.{flag_byte}
use Rattle.records.specs.Tuners.{tuner_bytes, tuner_of, tuner_parts, tuner_read, tuner_widths}
use Rattle.records.specs.Tuners.{TunerRead}
use Rattle.records.proofs.Exact.{Ranged, read_written}
use Rattle.records.proofs.Made.{sized}
use Rattle.reply.specs.declared.Reply.{Reply}
use Rattle.reply.specs.Replies.{call_reply, reply_of}
use Rattle.tuners.specs.Over.{lock_tries_over, over_tuning, unless_refused}
use Rattle.tuners.specs.Still.{fresh_into}
use Rattle.drivers.specs.Drivers.{hop_argument, hop_over, lock_tries_both}
use Rattle.sequences.specs.Asides.{Aside, aside_asked, aside_entries, aside_given, aside_result}
use Rattle.sequences.specs.Calls.{Call, asked, call, entries, result, tuner_after}
use Rattle.sequences.specs.Sequences.{Sequence}
use Rattle.sequences.specs.Sequences.Sequence.{fresh as first, next as more, between as aside}
use Rattle.sequences.proofs.Demand as sequence
use Rattle.sequences.proofs.Failed as eleven
use Rattle.sequences.specs.Waited.{Waited}
use Rattle.sequences.proofs.Ten.{hop_ten, nothing_waited, tune_ten}
use Rattle.sequences.proofs.Station as station
use Rattle.sequences.proofs.Unmoved as still
use Rattle.sequences.specs.Retunes.{retunes}
use Rattle.sequences.proofs.Tunings.{hop_done, tune_done}
use Rattle.oscillator.specs.Registers.{Within, stands_by}
use Rattle.bands.specs.Tables.{plan_by}
use Rattle.boards.specs.Hops.{hop_lock_tries, path_replies}
use Rattle.tuning.specs.Tries.{fine_of, power_of}
use Rattle.sequences.specs.Calls.{is_byte}
use Rattle.sequences.proofs.Failed.{nothing_failed}
use Rattle.history.specs.Histories.{Cut, passable, stops, progress_in}
use Rattle.chip.specs.Steps.{Step, Trace, every, trace}
use Rattle.chip.specs.Courses.{left_by}
use Rattle.chip.specs.declared.Chip.{Chip}
use Rattle.chip.specs.declared.Progress.{Progress}
use Rattle.sequences.specs.Calls.Order.{BoardTune, Tuned}
use Rattle.r82xx.specs.Orders as tuner
use Rattle.sequences.proofs.Asides.{aside_stepping}
use Rattle.sequences.proofs.Ties.{entries_most, view_read}
use Rattle.carried.specs.Exported.{Left, Lent, amiss, aside_entries_of, entries_of, leaves, lent, order_of, read_by, typed, typed_order, uncut}
use Rattle.carried.specs.Exported.Exported.{Hop, Own}
use Rattle.carried.specs.Carried.{Carried}
use Rattle.carried.specs.Carried.Carried.{fresh, next, between}
use Rattle.carried.proofs.Steady.{typed_given}
use Rattle.carried.proofs.Passed.{Passed, count_is, few, few_left, found, image_long, next_ranged, passed, seen, turned}
use Rattle.carried.proofs.Passed.Passed.{away, made}

-- the record that bytes are, and the sequence of crate `sequences` that it is the end of
pub record Behind (b : List ℕ) (es : List Entry) : Type 0 where
  pub tuner : Tuner
  pub bytes : b ≡ tuner_bytes tuner
  pub ranges : Ranged tuner
  pub sequence : Sequence tuner es

-- ---- the first bytes

pub lent_done : (n value : ℕ) (bytes out : List ℕ) → (lent_to n value bytes out).answer ≡ Done 0
    → (n ≡ 0) × (length bytes ≤ length out) × ((lent_to n value bytes out).out ≡ sets out 0 bytes)
unfolding lent_to
lent_done n value bytes out h = go (eqb n 0) refl (ltb (length out) (length bytes)) refl
  where
    go : (a : Bool) → eqb n 0 ≡ a → (z : Bool) → ltb (length out) (length bytes) ≡ z → (n ≡ 0) × (length bytes ≤ length out) × ((lent_to n value bytes out).out ≡ sets out 0 bytes)
    go true e true z =
        let done : number_of (Refused ROOM) ≡ number_of (Done 0) = ap number_of (rw (e, z) at h) in
        absurd (omega arith)
    go true e false z = (eqb-true n 0 e, ltb-false (length out) (length bytes) z, rw (e, z))
    go false e z w =
        let done : n ≡ 0 = ap number_of (rw e at h) in
        absurd (eqb-false n 0 e done)

fresh_ranged : (kind : Kind) (address nominal : ℕ) → address ≤ 255 → 1 ≤ nominal → nominal ≤ 4_294_967_295 → Ranged (fresh_tuner kind address nominal)
fresh_ranged kind address nominal a l h =
    record {
      lists = record { shadow = refl; doubtful = refl };
      address = omega arith;
      nominal = omega arith;
      known = l;
      corrected = omega arith;
      right = l;
      gain = of_bits-fits binary32 0;
      ifreq = omega arith;
    }

-- "by both makings": a record that is made is in its ranges
pub made_ranged : (kind address nominal : ℕ) → address ≤ 255 → number_of (made_of kind address nominal).answer ≡ 0
    → ((made_of kind address nominal).answer ≡ Done 0) × Ranged (made_of kind address nominal).tuner
unfolding made_of
made_ranged kind address nominal small h = go (leb 1 nominal) refl (leb nominal 4_294_967_295) refl (eqb kind 0) refl (eqb kind 1) refl
  where
    go : (l : Bool) → leb 1 nominal ≡ l → (m : Bool) → leb nominal 4_294_967_295 ≡ m → (a : Bool) → eqb kind 0 ≡ a → (b : Bool) → eqb kind 1 ≡ b
        → ((made_of kind address nominal).answer ≡ Done 0) × Ranged (made_of kind address nominal).tuner
    go true p true q true r b s = rw (p, q, r) (refl, fresh_ranged R820T address nominal small (leb-true 1 nominal p) (leb-true nominal 4_294_967_295 q))
    go true p true q false r true s = rw (p, q, r, s) (refl, fresh_ranged R828D address nominal small (leb-true 1 nominal p) (leb-true nominal 4_294_967_295 q))
    go true p true q false r false s =
        let one : ◌≡◌ {A = ℕ} 1 0 = rw (p, q, r, s) at h in
        absurd (omega arith)
    go true p false q a r b s =
        let one : ◌≡◌ {A = ℕ} 1 0 = rw (p, q) at h in
        absurd (omega arith)
    go false p m q a r b s =
        let one : ◌≡◌ {A = ℕ} 1 0 = rw p at h in
        absurd (omega arith)

fresh_behind : (kind address nominal : ℕ) (out : List ℕ) → address ≤ 255 → (fresh_into kind address nominal out).answer ≡ Done 0
    → Behind (take 78 (fresh_into kind address nominal out).out) []
fresh_behind kind address nominal out small h =
    let t : Tuner = (made_of kind address nominal).tuner in
    let a : Answer = (made_of kind address nominal).answer in
    let p = lent_done (number_of a) _ (tuner_bytes t) out h in
    let q = made_ranged kind address nominal small p.0 in
    let size : length (tuner_bytes t) ≡ 78 = image_long t q.1 in
    record {
      tuner = t;
      bytes = ap (take 78) p.2 ∙ found 78 (tuner_bytes t) out size (omega (arith, p.1));
      ranges = q.1;
      sequence = first kind address nominal small q.0;
    }

-- ---- the entries that the reader finds are the call's

pub read_entries : {R : Type 0} (x : Called R) (room : List ℕ) (es : List Entry) → x.count < 4_294_967_296 → x.count ≡ length es
    → (0 < x.count → room ≡ x.room) → (0 < x.count → Parted (take (16 * x.count + 8) x.room) [] es) → read_by (call_reply x) room ≡ es
read_entries x room es small c same parted = go es c parted
  where
    whole : x.count % 4_294_967_296 ≡ x.count
    whole = omega arith

    go : (xs : List Entry) → x.count ≡ length xs → (0 < x.count → Parted (take (16 * x.count + 8) x.room) [] xs) → read_by (call_reply x) room ≡ xs
    go [] e p = rw (whole, e)
    go (y ∷ ys) e p =
        let some : 0 < x.count = omega arith in
        let not_none : eqb x.count 0 ≡ false = ne_eqb x.count 0 (λ z. omega arith) in
        rw (whole, not_none, same some) (p some).entries

-- ---- every call

-- of a call that was made, on any record in its ranges
pub entries_read : (t : Tuner) (r : Ranged t) (k : Call) (h : typed_order k.order ≡ true) (l : Left) → l.reply ≡ call_reply (result k t)
    → (0 < (result k t).count → l.room ≡ (result k t).room) → read_by l.reply l.room ≡ entries k t
entries_read t r k h l reply room =
    ap (λ (a : Reply). read_by a l.room) reply
    ∙ read_entries (result k t) l.room (entries k t) (few_left t r k h) (count_is t r k h) room
    (view_read t (result k t) (asked k t) k.outcomes k.room (seen t r k h) (omega (arith, r.address)))

module _ (t : Tuner) (es : List Entry) (s : Sequence t es) (r : Ranged t) (k : Call) (h : typed_order k.order ≡ true) (l : Left) where
  pub made_entries : l.reply ≡ call_reply (result k t) → (0 < (result k t).count → l.room ≡ (result k t).room) → read_by l.reply l.room ≡ entries k t
  made_entries = entries_read t r k h l

-- of one that was turned away
pub away_entries : (l : Left) (n : ℕ) → l.reply ≡ reply_of (Refused n) 0 → read_by l.reply l.room ≡ []
away_entries l n reply = ap (λ (a : Reply). read_by a l.room) reply

next_behind : (t : Tuner) (es : List Entry) → Sequence t es → Ranged t → (k : Call) → typed_order k.order ≡ true → (n : ℕ) (one : Bool) (l : Left) → Passed t k n one l
    → Behind l.bytes (es ++ read_by l.reply l.room)
next_behind t es s r k h n one l (away z told reply bytes) =
    record { tuner = t; bytes = bytes; ranges = r; sequence = rw (away_entries l n reply, append-nil es) s }
next_behind t es s r k h n one l (made z told reply room bytes) =
    record {
      tuner = tuner_after k t;
      bytes = bytes;
      ranges = next_ranged t es s r k h;
      sequence = rw (made_entries t es s r k h l reply room) (more t es s k (typed_given k.order t h));
    }

pub aside_entries_lem : (a : Aside) → aside_given a.other ≡ true → aside_entries_of a ≡ aside_entries a
aside_entries_lem a g =
    let most : length (aside_entries a) ≤ 4096 = entries_most 4096 a.outcomes (aside_asked a) no_chip (aside_stepping a g).few in
    read_entries (aside_result a) (aside_result a).room (aside_entries a) (omega (arith, sequence.aside_count a g)) (sequence.aside_count a g) (λ c. refl) (sequence.aside_read a g)

-- the one law: the bytes of every such sequence are those of a record in its ranges, the end of a sequence of crate `sequences` with the same entries
pub behind : (b : List ℕ) (es : List Entry) → Carried b es → Behind b es
behind b es (fresh kind address nominal out small h) = fresh_behind kind address nominal out small h
behind b es (next c xs s k h) =
    let p = behind c xs s in
    subst (λ (d : List ℕ). Behind (leaves k d).bytes (xs ++ entries_of k d)) (sym p.bytes)
    (next_behind p.tuner xs p.sequence p.ranges (call (order_of k.exported) k.outcomes k.room) h (turned k.exported k.next p.tuner) (amiss k.exported)
    (leaves k (tuner_bytes p.tuner))
    (passed p.tuner xs p.sequence p.ranges k.exported k.outcomes k.room k.next h))
behind b es (between c xs s a g) =
    let p = behind c xs s in
    record { tuner = p.tuner; bytes = p.bytes; ranges = p.ranges; sequence = rw (aside_entries_lem a g) (aside p.tuner xs p.sequence a g) }

-- ---- the bytes of a record

module _ (t : Tuner) (r : Ranged t) where
  parted : parts_from 0 tuner_widths (tuner_bytes t) ≡ tuner_parts t
  unfolding tuner_bytes
  parted = parts_joined [] 0 tuner_widths (tuner_parts t) refl (sized t r.lists)

  pub address_byte : get_or (tuner_bytes t) 1 0 ≡ t.chip.address
  unfolding le_bytes
  address_byte =
      let small : t.chip.address % 256 ≡ t.chip.address = omega (arith, r.address) in
      sym (get_or-drop 1 (tuner_bytes t) 0 0)
      ∙ sym (get_or-take 1 (drop 1 (tuner_bytes t)) 0 0 (omega arith))
      ∙ ap (λ (ps : List (List ℕ)). get_or (part ps 1) 0 0) parted
      ∙ small

  pub shadow_byte_of : (i : ℕ) → i < 27 → get_or (tuner_bytes t) (2 + i) 0 ≡ get_or t.chip.shadow i 0
  shadow_byte_of i h =
      sym (get_or-drop 2 (tuner_bytes t) i 0) ∙ sym (get_or-take 27 (drop 2 (tuner_bytes t)) i 0 h) ∙ ap (λ (ps : List (List ℕ)). get_or (part ps 2) i 0) parted

  pub doubtful_byte_of : (i : ℕ) → i < 27 → get_or (tuner_bytes t) (51 + i) 1 ≡ flag_byte (get_or t.chip.doubtful i true)
  doubtful_byte_of i h =
      sym (get_or-drop 51 (tuner_bytes t) i 1)
      ∙ sym (get_or-take 27 (drop 51 (tuner_bytes t)) i 1 h)
      ∙ ap (λ (ps : List (List ℕ)). get_or (part ps 9) i 1) parted
      ∙ get_or-map flag_byte t.chip.doubtful i true

-- a reload that is not refused is done, with the value 0
pub done_zero : {R : Type 0} (number : ℕ) (os : List ℕ) (ss : List Step) (c : Chip) (keep : Trace → R) (old : R) (room : List ℕ)
    → number_of (call_of number (Done 0) os ss c keep old room).answer ≡ 0 → (call_of number (Done 0) os ss c keep old room).answer ≡ Done 0
unfolding call_of
done_zero {R} number os ss c keep old room = go (eqb number 0) refl
  where
    by_progress : (w : Progress) → number_of (answer_of (Done 0) w) ≡ 0 → answer_of (Done 0) w ≡ Done 0
    by_progress Going h = refl
    by_progress (Refused11 k) h = absurd (omega arith)

    go : (b : Bool) → eqb number 0 ≡ b → number_of (cond b (performed (Done 0) keep room (trace os ss c)) (called old room 0 (Refused number))).answer ≡ 0
        → (cond b (performed (Done 0) keep room (trace os ss c)) (called old room 0 (Refused number))).answer ≡ Done 0
    go true e h = by_progress (trace os ss c).progress h
    go false e h = absurd (eqb-false number 0 e h)

reload_answer : (t : Tuner) (os room : List ℕ) → number_of (result (call (Tuned Reload) os room) t).answer ≡ 0 → (result (call (Tuned Reload) os room) t).answer ≡ Done 0
unfolding tuner.result_of left_by
reload_answer t os room h = done_zero _ os _ t.chip _ t room h

-- ---- the theorems

flag_one : (f : Bool) → (flag_byte f ≡ 1) ↔ (f ≡ true)
flag_one true = (λ e. refl, λ e. refl)
flag_one false = (λ e. absurd (omega arith), λ e. absurd (false≢true e))

pub flag_none : (f : Bool) → flag_byte f ≡ 0 → f ≡ false
flag_none true e = absurd (omega arith)
flag_none false e = refl

module _ (b : List ℕ) (es : List Entry) (c : Carried b es) where
  abbrev pub t : Tuner
  t = (behind b es c).tuner

  pub is : b ≡ tuner_bytes t
  is = (behind b es c).bytes

  pub ranges : Ranged t
  ranges = (behind b es c).ranges

  pub calls : Sequence t es
  calls = (behind b es c).sequence

  -- the bytes that a host holds are a record's: no call on them is refused 1 for its tuner's record
  pub readable : (tuner_of b).ok ≡ true
  readable = ap (λ (d : List ℕ). (tuner_of d).ok) is ∙ ap (λ (x : TunerRead). x.ok) (read_written t ranges)

  pub long : length b ≡ 78
  long = ap length is ∙ image_long t ranges

  pub address : get_or b 1 0 ≡ t.chip.address
  address = ap (λ (d : List ℕ). get_or d 1 0) is ∙ address_byte t ranges

  mark : (i : ℕ) → i < 27 → get_or b (51 + i) 1 ≡ flag_byte (get_or t.chip.doubtful i true)
  mark i h = ap (λ (d : List ℕ). get_or d (51 + i) 1) is ∙ doubtful_byte_of t ranges i h

  -- (a) "doubtful are exactly those never attempted or last attempted in vain": the byte is 1 or 0 as the entries that the host read tell
  pub doubtful_byte : (i : ℕ) → i < 27 → get_or b (51 + i) 1 ≡ flag_byte (doubt_in (last_in (get_or b 1 0) es (5 + i)))
  doubtful_byte i h = mark i h ∙ ap flag_byte (sequence.doubtful_exactly t es calls i h ∙ ap (λ (a : ℕ). doubt_in (last_in a es (5 + i))) (sym address))

  -- the same in the demand's words
  pub doubtful_words : (i : ℕ) → i < 27 → (get_or b (51 + i) 1 ≡ 1) ↔ InVain (last_in (get_or b 1 0) es (5 + i))
  doubtful_words i h =
      rw (doubtful_byte i h) (
        λ e. (doubt_exactly (last_in (get_or b 1 0) es (5 + i))).0 ((flag_one (doubt_in (last_in (get_or b 1 0) es (5 + i)))).0 e),
        λ v. (flag_one (doubt_in (last_in (get_or b 1 0) es (5 + i)))).1 ((doubt_exactly (last_in (get_or b 1 0) es (5 + i))).1 v),
      )

  -- (b) #106: the shadow's byte is the last attempted in the entries, or `INIT_ARRAY`'s where none was
  pub shadow_byte : (i : ℕ) → i < 27 → get_or b (2 + i) 0 ≡ byte_in (get_or init_array i 0) (last_in (get_or b 1 0) es (5 + i))
  shadow_byte i h =
      ap (λ (d : List ℕ). get_or d (2 + i) 0) is
      ∙ shadow_byte_of t ranges i h
      ∙ sequence.shadow_last t es calls i h
      ∙ ap (λ (a : ℕ). byte_in (get_or init_array i 0) (last_in a es (5 + i))) (sym address)

  module _ (before now : Regs) (played : Played (get_or b 1 0) es before now) where
    -- (b) "a register whose last attempt was done holds the byte sent": any register, also past 0x1f
    pub done_holds : (r byte : ℕ) → last_in (get_or b 1 0) es r ≡ Tried byte true → now r ≡ byte
    done_holds r byte h = last_done (tuner_at (get_or b 1 0)) es before now played r byte h

    pub never_kept : (r : ℕ) → last_in (get_or b 1 0) es r ≡ Never → now r ≡ before r
    never_kept r h = last_never (tuner_at (get_or b 1 0)) es before now played r h

    -- so where the doubtful byte is 0 the chip holds the shadow's
    pub sure_holds : (i : ℕ) → i < 27 → get_or b (51 + i) 1 ≡ 0 → now (5 + i) ≡ get_or b (2 + i) 0
    sure_holds i h d =
        sure_byte (tuner_at (get_or b 1 0)) es before now (5 + i) (get_or init_array i 0) played (flag_none (doubt_in (last_in (get_or b 1 0) es (5 + i))) (sym (doubtful_byte i h) ∙ d))
        ∙ sym (shadow_byte i h)

  -- (f) there is such a chip, whatever the chip to start from; and where the doubtful byte is 1 it may hold any byte
  pub some_chip : (before : Regs) → (now : Regs) × Played (get_or b 1 0) es before now
  some_chip before = some_played (tuner_at (get_or b 1 0)) es before

  pub doubtful_any : (i x : ℕ) → i < 27 → get_or b (51 + i) 1 ≡ 1 → (before : Regs) × (now : Regs) × Played (get_or b 1 0) es before now × (now (5 + i) ≡ x)
  doubtful_any i x h d =
      doubt_any (tuner_at (get_or b 1 0)) es (5 + i) x ((flag_one (doubt_in (last_in (get_or b 1 0) es (5 + i)))).0 (sym (doubtful_byte i h) ∙ d))

  -- every entry that the host read fits the table
  pub carried_fits : AllFit es
  carried_fits = sequence.sequence_fits t es calls

  -- ---- one call more, on the bytes at the end

  module _ (k : Lent) (h : typed k.exported ≡ true) where
    abbrev pub inner : Call
    inner = call (order_of k.exported) k.outcomes k.room

    abbrev pub number : ℕ
    number = turned k.exported k.next t

    pub pass : Passed t inner number (amiss k.exported) (leaves k b)
    pass =
        subst (λ (d : List ℕ). Passed t inner number (amiss k.exported) (leaves k d)) (sym is)
        (passed t es calls ranges k.exported k.outcomes k.room k.next h)

    abbrev reply : Reply
    reply = (leaves k b).reply

    -- it is refused 1 exactly for a path above 2, or for bytes that are no driver's record
    pub refused_one : eqb reply.refusal SETUP ≡ amiss k.exported
    refused_one = go pass
      where
        go : Passed t inner number (amiss k.exported) (leaves k b) → eqb reply.refusal SETUP ≡ amiss k.exported
        go (away z told same bytes) = ap (λ (a : Reply). eqb a.refusal SETUP) same ∙ told.setup
        go (made z told same room bytes) = ap (λ (a : Reply). eqb a.refusal SETUP) same ∙ told.setup

    -- #106, "refusal 5 goes with it": no call is refused 5
    pub never_five : eqb reply.refusal 5 ≡ false
    never_five = go pass
      where
        go : Passed t inner number (amiss k.exported) (leaves k b) → eqb reply.refusal 5 ≡ false
        go (away z told same bytes) = ap (λ (a : Reply). eqb a.refusal 5) same ∙ told.never
        go (made z told same room bytes) = ap (λ (a : Reply). eqb a.refusal 5) same ∙ told.never

    -- (e) its count is that of the entries in its room
    pub count_told : reply.count ≡ length (entries_of k b)
    count_told = go pass
      where
        go : Passed t inner number (amiss k.exported) (leaves k b) → reply.count ≡ length (entries_of k b)
        go (away z told same bytes) = ap (λ (a : Reply). a.count) same ∙ sym (ap length (away_entries (leaves k b) number same))
        go (made z told same room bytes) =
            let whole : (result inner t).count % 4_294_967_296 ≡ (result inner t).count = omega (arith, few t es calls ranges inner h) in
            ap (λ (a : Reply). a.count) same
            ∙ whole
            ∙ sequence.count_told t es calls inner (typed_given inner.order t h)
            ∙ sym (ap length (made_entries t es calls ranges inner h (leaves k b) same room))

    -- "Each call with steps writes its section at the start of the lent room": where there are entries the reader accepts it, and they are those
    pub section_read : 0 < reply.count → Parted (take (16 * reply.count + 8) (leaves k b).room) [] (entries_of k b)
    section_read some = go pass
      where
        go : Passed t inner number (amiss k.exported) (leaves k b) → Parted (take (16 * reply.count + 8) (leaves k b).room) [] (entries_of k b)
        go (away z told same bytes) =
            let none : reply.count ≡ 0 = ap (λ (a : Reply). a.count) same in
            absurd (omega arith)
        go (made z told same room bytes) =
            let whole : (result inner t).count % 4_294_967_296 ≡ (result inner t).count = omega (arith, few t es calls ranges inner h) in
            let count : reply.count ≡ (result inner t).count = ap (λ (a : Reply). a.count) same ∙ whole in
            let more : 0 < (result inner t).count = omega arith in
            rw (made_entries t es calls ranges inner h (leaves k b) same room, count, room more)
            (sequence.section_read t es calls inner (typed_given inner.order t h) more)

    -- "11 step | a step other than a closing failed": exactly then, read off those entries
    pub eleven_exactly : eqb reply.refusal STEP ≡ not (every passable (entries_of k b))
    eleven_exactly = go pass
      where
        go : Passed t inner number (amiss k.exported) (leaves k b) → eqb reply.refusal STEP ≡ not (every passable (entries_of k b))
        go (away z told same bytes) =
            ap (λ (a : Reply). eqb a.refusal STEP) same
            ∙ told.step
            ∙ sym (ap (λ (l : List Entry). not (every passable l)) (away_entries (leaves k b) number same) ∙ ap not nothing_failed)
        go (made z told same room bytes) =
            ap (λ (a : Reply). eqb a.refusal STEP) same
            ∙ told.step
            ∙ eleven.eleven_exactly t es calls inner (typed_given inner.order t h)
            ∙ sym (ap (λ (l : List Entry). not (every passable l)) (made_entries t es calls ranges inner h (leaves k b) same room))

    -- refused 11, it was made, and its answer names the entry of its index
    pub stopped : reply.refusal ≡ STEP
        → (eqb number 0 ≡ true) × ((result inner t).answer ≡ Stopped reply.index) × (entries_of k b ≡ entries inner t)
    stopped e = go pass
      where
        by_answer : (a : Answer) → stops a ≡ true → a ≡ Stopped (index_of a)
        by_answer (Done value) s = absurd (false≢true s)
        by_answer (Refused n) s = absurd (false≢true s)
        by_answer (Stopped index) s = refl

        go : Passed t inner number (amiss k.exported) (leaves k b)
            → (eqb number 0 ≡ true) × ((result inner t).answer ≡ Stopped reply.index) × (entries_of k b ≡ entries inner t)
        go (away z told same bytes) =
            absurd (true≢false (sym (eq-eqb number STEP (sym (ap (λ (a : Reply). a.refusal) same) ∙ e)) ∙ told.step))
        go (made z told same room bytes) =
            let stop : stops (result inner t).answer ≡ true = sym told.step ∙ eq-eqb (number_of (result inner t).answer) STEP (sym (ap (λ (a : Reply). a.refusal) same) ∙ e) in (
              z,
              by_answer (result inner t).answer stop ∙ ap Stopped (sym (ap (λ (a : Reply). a.index) same)),
              made_entries t es calls ranges inner h (leaves k b) same room,
            )

    -- (e) "11 also gives the failing entry's index"
    pub index_told : reply.refusal ≡ STEP → progress_in (entries_of k b) ≡ Refused11 reply.index
    index_told e =
        let p = stopped e in
        ap progress_in p.2 ∙ sequence.index_told t es calls inner (typed_given inner.order t h) reply.index p.1

  -- what is turned away does not hang on the outcomes: a call that was made is made with other ones
  made_too : (k : Lent) (h : typed k.exported ≡ true) → eqb (turned k.exported k.next t) 0 ≡ true
      → entries_of k b ≡ entries (call (order_of k.exported) k.outcomes k.room) t
  made_too k h z = go (pass k h)
    where
      go : Passed t (inner k h) (number k h) (amiss k.exported) (leaves k b) → entries_of k b ≡ entries (inner k h) t
      go (away n told same bytes) = absurd (true≢false (sym z ∙ n))
      go (made y told same room bytes) = made_entries t es calls ranges (inner k h) h (leaves k b) same room

  -- (c) "A cut call made the steps of the uncut one up to the failing step, then at most the repeater's closing", each read from its own room
  pub cut_uncut : (k : Lent) → typed k.exported ≡ true → (leaves k b).reply.refusal ≡ STEP
      → Cut (leaves k b).reply.index (entries_of k b) (entries_of (uncut (leaves k b).reply.index k) b)
  cut_uncut k h e =
      let p = stopped k h e in
      let i : ℕ = (leaves k b).reply.index in
      rw (p.2, made_too (uncut i k) h p.0) (sequence.cut_uncut t es calls (inner k h) (typed_given (inner k h).order t h) i p.1)

  -- (d) "A reload answered done leaves all 27 registers and the shadow at the last attempted bytes, or the initial ones where none was attempted"; and no
  -- doubt is left
  pub reload_done : (os room out : List ℕ) → (leaves (lent (Own Reload) os room out) b).reply.refusal ≡ 0
      → (before now : Regs) → Played (get_or b 1 0) (es ++ entries_of (lent (Own Reload) os room out) b) before now → (i : ℕ) → i < 27
      → (now (5 + i) ≡ byte_in (get_or init_array i 0) (last_in (get_or b 1 0) es (5 + i)))
      × (get_or (leaves (lent (Own Reload) os room out) b).bytes (2 + i) 0 ≡ byte_in (get_or init_array i 0) (last_in (get_or b 1 0) es (5 + i)))
      × (get_or (leaves (lent (Own Reload) os room out) b).bytes (51 + i) 1 ≡ 0)
  reload_done os room out e before now played i l = go (pass k refl)
    where
      k : Lent
      k = lent (Own Reload) os room out

      go : Passed t (inner k refl) (number k refl) false (leaves k b)
          → (now (5 + i) ≡ byte_in (get_or init_array i 0) (last_in (get_or b 1 0) es (5 + i)))
          × (get_or (leaves k b).bytes (2 + i) 0 ≡ byte_in (get_or init_array i 0) (last_in (get_or b 1 0) es (5 + i)))
          × (get_or (leaves k b).bytes (51 + i) 1 ≡ 0)
      go (away z told same bytes) = absurd (eqb-false (number k refl) 0 z (sym (ap (λ (a : Reply). a.refusal) same) ∙ e))
      go (made z told same room' bytes) =
          let answer : (result (inner k refl) t).answer ≡ Done 0 = reload_answer t os room (sym (ap (λ (a : Reply). a.refusal) same) ∙ e) in
          let all : entries_of k b ≡ entries (inner k refl) t = made_entries t es calls ranges (inner k refl) refl (leaves k b) same room' in
          let there : Played t.chip.address (es ++ entries (inner k refl) t) before now =
          subst (λ (a : ℕ). Played a (es ++ entries (inner k refl) t) before now) address (subst (λ (l : List Entry). Played (get_or b 1 0) (es ++ l) before now) all played) in
          let r : Ranged (tuner_after (inner k refl) t) = next_ranged t es calls ranges (inner k refl) refl in
          let w = sequence.reload_done t es calls os room answer before now there i l in
          let at : byte_in (get_or init_array i 0) (last_in t.chip.address es (5 + i)) ≡ byte_in (get_or init_array i 0) (last_in (get_or b 1 0) es (5 + i)) =
          ap (λ (a : ℕ). byte_in (get_or init_array i 0) (last_in a es (5 + i))) (sym address) in (
            w.holds ∙ at,
            ap (λ (d : List ℕ). get_or d (2 + i) 0) bytes ∙ shadow_byte_of (tuner_after (inner k refl) t) r i l ∙ w.shadow ∙ at,
            ap (λ (d : List ℕ). get_or d (51 + i) 1) bytes ∙ doubtful_byte_of (tuner_after (inner k refl) t) r i l ∙ ap flag_byte w.doubtful,
          )

  -- of a call that is answered 0: so is the call behind it, and the host reads its entries
  pub answered : (k : Lent) (h : typed k.exported ≡ true) → (leaves k b).reply.refusal ≡ 0
      → (before now : Regs) → Played (get_or b 1 0) (es ++ entries_of k b) before now
      → (number_of (result (inner k h) t).answer ≡ 0) × Played t.chip.address (es ++ entries (inner k h) t) before now
  answered k h e before now played = go (pass k h)
    where
      go : Passed t (inner k h) (number k h) (amiss k.exported) (leaves k b)
          → (number_of (result (inner k h) t).answer ≡ 0) × Played t.chip.address (es ++ entries (inner k h) t) before now
      go (away z told same bytes) = absurd (eqb-false (number k h) 0 z (sym (ap (λ (a : Reply). a.refusal) same) ∙ e))
      go (made z told same room bytes) =
          let all : entries_of k b ≡ entries (inner k h) t = made_entries t es calls ranges (inner k h) h (leaves k b) same room in (
            sym (ap (λ (a : Reply). a.refusal) same) ∙ e,
            subst (λ (a : ℕ). Played a (es ++ entries (inner k h) t) before now) address (subst (λ (l : List Entry). Played (get_or b 1 0) (es ++ l) before now) all played),
          )

  -- the record that the bytes are
  abbrev pub u : Tuner
  u = (tuner_of b).tuner

  pub same_tuner : t ≡ u
  same_tuner = sym (ap (λ (l : List ℕ). (tuner_of l).tuner) is ∙ ap (λ (r : TunerRead). r.tuner) (read_written t ranges))

  -- ---- #101: what the two tunings tell of their tries

  reads : tuner_of b ≡ tuner_read true t
  reads = ap tuner_of is ∙ read_written t ranges

  -- by the number that a call is turned away by: what it would tell is of no entry then
  lock_read : (k : Lent) (h : typed k.exported ≡ true)
      → unless_refused (number k h) (λ n. no_tries) (lock_tries_in (entries (inner k h) t)) ≡ lock_tries_in (entries_of k b)
  unfolding unless_refused tries_in locked_in
  lock_read k h = go (pass k h)
    where
      go : Passed t (inner k h) (number k h) (amiss k.exported) (leaves k b)
          → cond (eqb (number k h) 0) (lock_tries_in (entries (inner k h) t)) no_tries ≡ lock_tries_in (entries_of k b)
      go (away z told same bytes) = rw z (ap lock_tries_in (sym (away_entries (leaves k b) (number k h) same)))
      go (made z told same room bytes) = rw z (ap lock_tries_in (sym (made_entries t es calls ranges (inner k h) h (leaves k b) same room)))

  tune_lock : (hz : ℕ) (rs os room out : List ℕ) → every is_byte rs ≡ true
      → lock_tries_over (tuner.course_of (Tune hz rs)) os b room out ≡ lock_tries_in (entries_of (lent (Own (Tune hz rs)) os room out) b)
  unfolding lock_tries_over
  tune_lock hz rs os room out small = rw reads (lock_read (lent (Own (Tune hz rs)) os room out) small)

  hop_lock : (hz : ℕ) (table rs driver slot os room out : List ℕ) → every is_byte rs ≡ true
      → lock_tries_both (hop_argument table hz) (λ u v. hop_lock_tries (plan_by table hz) hz rs os u v room) driver b slot out
      ≡ lock_tries_in (entries_of (lent (Hop hz table rs driver slot) os room out) b)
  unfolding lock_tries_both hop_lock_tries
  hop_lock hz table rs driver slot os room out small = rw reads (lock_read (lent (Hop hz table rs driver slot) os room out) small)

  -- "Tries equal the three-byte reads in the transcript that were done": of the entries that the host reads from its room; locked is 1 where one of them has the bit
  pub tries_told : (hz : ℕ) (rs os room out : List ℕ) → every is_byte rs ≡ true
      → ((over_tuning (tuner.course_of (Tune hz rs)) os b room out).answer.tries ≡ tries_in (entries_of (lent (Own (Tune hz rs)) os room out) b))
      × ((over_tuning (tuner.course_of (Tune hz rs)) os b room out).answer.locked ≡ cond (locked_in (entries_of (lent (Own (Tune hz rs)) os room out) b)) 1 0)
  unfolding over_tuning
  tries_told hz rs os room out small =
      let e = tune_lock hz rs os room out small in
      (ap (λ (s : LockTries). s.tries) e, ap (λ (s : LockTries). cond s.locked 1 0) e)

  pub board_tries_told : (hz : ℕ) (table rs driver slot os room out : List ℕ) → every is_byte rs ≡ true
      → ((hop_over table hz rs os driver b room slot out).answer.tries ≡ tries_in (entries_of (lent (Hop hz table rs driver slot) os room out) b))
      × ((hop_over table hz rs os driver b room slot out).answer.locked ≡ cond (locked_in (entries_of (lent (Hop hz table rs driver slot) os room out) b)) 1 0)
  board_tries_told hz table rs driver slot os room out small =
      let e = hop_lock hz table rs driver slot os room out small in
      (ap (λ (s : LockTries). s.tries) e, ap (λ (s : LockTries). cond s.locked 1 0) e)

  -- at most ten, and the one with the lock bit is the last, of a cut tuning too
  entries_waited : (k : Lent) (h : typed k.exported ≡ true) → Waited 10 (entries (inner k h) t) → Waited 10 (entries_of k b)
  entries_waited k h w = go (pass k h)
    where
      go : Passed t (inner k h) (number k h) (amiss k.exported) (leaves k b) → Waited 10 (entries_of k b)
      go (away z told same bytes) = subst (Waited 10) (sym (away_entries (leaves k b) (number k h) same)) nothing_waited
      go (made z told same room bytes) = subst (Waited 10) (sym (made_entries t es calls ranges (inner k h) h (leaves k b) same room)) w

  pub ten_tries : (hz : ℕ) (rs os room out : List ℕ) → every is_byte rs ≡ true → Waited 10 (entries_of (lent (Own (Tune hz rs)) os room out) b)
  ten_tries hz rs os room out small = entries_waited (lent (Own (Tune hz rs)) os room out) small (tune_ten hz rs os room t)

  pub board_ten_tries : (hz : ℕ) (table rs driver slot os room out : List ℕ) → every is_byte rs ≡ true → Waited 10 (entries_of (lent (Hop hz table rs driver slot) os room out) b)
  board_ten_tries hz table rs driver slot os room out small =
      entries_waited (lent (Hop hz table rs driver slot) os room out) small (hop_ten hz table rs (driver_of driver).driver os room t)

  -- "A recording filed under the wrong transmitter": a tuning that is answered 0, whose status asked for no repair of the divider, has the chip's oscillator at hz + IF
  -- within 25 kHz of the VCO, on every chip and by its registers alone. IF, reference and kind are those of the bytes that it was given
  pub on_station : (hz : ℕ) (rs os room out : List ℕ) → every is_byte rs ≡ true → (leaves (lent (Own (Tune hz rs)) os room out) b).reply.refusal ≡ 0
      → fine_of (get_or rs 4 0) ≡ power_of (tuner_of b).tuner.kind
      → (before now : Regs) → Played (get_or b 1 0) (es ++ entries_of (lent (Own (Tune hz rs)) os room out) b) before now
      → Within (hz + (tuner_of b).tuner.ifreq) (tuner_of b).tuner.corrected now
  on_station hz rs os room out small e fine before now played =
      let p = answered (lent (Own (Tune hz rs)) os room out) small e before now played in
      subst (λ (v : Tuner). fine_of (get_or rs 4 0) ≡ power_of v.kind → Within (hz + v.ifreq) v.corrected now) same_tuner
      (λ q. station.on_station t es calls hz rs os room (typed_given (Tuned (Tune hz rs)) t small) (tune_done t hz rs os room p.0) q before now p.1) fine

  -- the same of the board-level tune, at the frequency that its table planned. The status stands behind the three replies of the board's path, where that is taken
  pub on_station_hop : (hz : ℕ) (table rs driver slot os room out : List ℕ) → every is_byte rs ≡ true
      → (leaves (lent (Hop hz table rs driver slot) os room out) b).reply.refusal ≡ 0
      → fine_of (get_or (drop (path_replies (tuner_of b).tuner.kind (plan_by table hz).plan.path) rs) 4 0) ≡ power_of (tuner_of b).tuner.kind
      → (before now : Regs) → Played (get_or b 1 0) (es ++ entries_of (lent (Hop hz table rs driver slot) os room out) b) before now
      → Within ((plan_by table hz).plan.hz + (tuner_of b).tuner.ifreq) (tuner_of b).tuner.corrected now
  on_station_hop hz table rs driver slot os room out small e fine before now played =
      let p = answered (lent (Hop hz table rs driver slot) os room out) small e before now played in
      let d = (driver_of driver).driver in
      subst
      (λ (v : Tuner). fine_of (get_or (drop (path_replies v.kind (plan_by table hz).plan.path) rs) 4 0) ≡ power_of v.kind
      → Within ((plan_by table hz).plan.hz + v.ifreq) v.corrected now) same_tuner
      (λ q.
      station.on_station_hop t es calls hz table rs d os room (typed_given (BoardTune hz table rs d) t small) (hop_done t hz table rs d os room p.0) q before now p.1)
      fine

  -- a call that is no tuning, no initialising and no reload leaves the oscillator where it is, whatever its outcomes: it names none of the five registers
  pub unmoved : (k : Lent) → typed k.exported ≡ true → retunes (order_of k.exported) ≡ false
      → (now after : Regs) → Played (get_or b 1 0) (entries_of k b) now after → (r : ℕ) → stands_by r ≡ true → after r ≡ now r
  unmoved k h q now after played r five = go (pass k h)
    where
      go : Passed t (inner k h) (number k h) (amiss k.exported) (leaves k b) → after r ≡ now r
      go (away z told same bytes) = subst (λ (l : List Entry). Played (get_or b 1 0) l now after) (away_entries (leaves k b) (number k h) same) played r
      go (made z told same room bytes) =
          let all : entries_of k b ≡ entries (inner k h) t = made_entries t es calls ranges (inner k h) h (leaves k b) same room in
          let there : Played t.chip.address (entries (inner k h) t) now after =
          subst (λ (a : ℕ). Played a (entries (inner k h) t) now after) address (subst (λ (l : List Entry). Played (get_or b 1 0) l now after) all played) in
          still.unmoved t es calls (inner k h) (typed_given (inner k h).order t h) q now after there r five

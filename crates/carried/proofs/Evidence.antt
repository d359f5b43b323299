-- What a night's file says of a station, of the bytes that a host holds: crates `evidence` and `stations`, over exported calls. The entries are those that the
-- host read from its rooms, which are those of its file (Night.antt).
-- Assumes nothing.
use Prim.Native.Nat.{ℕ, ◌+◌, ◌≤◌, ◌<◌}
use mathlib.Core.Path.{◌≡◌, refl, sym, ap, subst, ◌∙◌}
use mathlib.Core.Bool.{Bool, true, false, cond}
use mathlib.Core.List.{List, ◌++◌, append_assoc, append-nil}
use mathlib.Core.Logic.{◌⊎◌}
use borrow.Author.Tests.{eqb-false}
use lib.ListN.{drop, get_or}
use Rattle.transcript.specs.declared.Entry.{Entry}
use Rattle.bands.specs.Tables.{plan_by}
use Rattle.boards.specs.Hops.{hop_lock_tries, path_replies}
use Rattle.chip.specs.declared.LockTries.{LockTries}
use Rattle.refusals.specs.Answers.{number_of}
use Rattle.refusals.specs.Table.{STEP}
use Rattle.chip.specs.Calls.{lock_tries_in, locked_in, tries_in}
use Rattle.chip.specs.Courses.{left_by}
use Rattle.chip.specs.Steps.{every}
use Rattle.driver.specs.declared.Driver.{Driver}
use Rattle.driver.specs.Calls.{rate_result}
use Rattle.driver.specs.Programs.{if_for}
use Rattle.driver.specs.Record.{xtal_of}
use Rattle.drivers.specs.Drivers.{hop_over}
use Rattle.evidence.specs.Cuts.{CutRate, Marked, tuners}
use Rattle.evidence.specs.Evidence.{lock_mark, tries_of}
use Rattle.evidence.proofs.Cuts.{marked}
use Rattle.history.specs.Histories.{Cut}
use Rattle.records.specs.Drivers.{driver_of}
use Rattle.records.specs.Tuners.{tuner_bytes, tuner_of}
use Rattle.records.specs.Tuners.{TunerRead}
use Rattle.records.proofs.Exact.{Ranged, read_written}
use Rattle.reply.specs.declared.Reply.{Reply}
use Rattle.reply.specs.declared.TuneReply.{TuneReply}
use Rattle.r82xx.specs.declared.Tuner.{Tuner}
use Rattle.r82xx.specs.Orders as tuner
use Rattle.r82xx.specs.Orders.{lock_tries_of}
use Rattle.r82xx.specs.Orders.Order.{Tune}
use Rattle.sections.specs.Chain.{chain_entries}
use Rattle.sequences.specs.Asides.{Aside, aside_entries, aside_given}
use Rattle.sequences.specs.Calls.{Call, call, entries, is_byte, result, tuner_after}
use Rattle.sequences.specs.Calls.Order.{BoardTune, SampleRate, Tuned}
use Rattle.sequences.specs.Sequences.{Sequence}
use Rattle.sequences.specs.Sequences.Sequence.{next as more, between as aside}
use Rattle.sequences.proofs.Tried.{board_told_by_entries, told_by_entries}
use Rattle.sequences.proofs.Tunings.{hop_done, is_done, tune_done}
use Rattle.stations.specs.Between.{Between, moves_aside, moves_if}
use Rattle.stations.specs.Between.Between.{start as still, later as then, beside as besides}
use Rattle.stations.specs.Centre.{Filed}
use Rattle.stations.specs.Locks.{LockTold}
use Rattle.stations.specs.Rated.{RateTold}
use Rattle.stations.proofs.CutShort as cut_short
use Rattle.stations.proofs.FiledTunes as stations
use Rattle.stations.proofs.Locks as locks
use Rattle.stations.proofs.Rated as rated-so
use Rattle.tuners.specs.Over.{over_tuning}
use Rattle.tuning.specs.Tries.{fine_of, power_of}
use Rattle.carried.specs.Carried.{Carried}
use Rattle.carried.specs.Exported.{Left, Lent, amiss, aside_entries_of, entries_of, leaves, lent, order_of, read_by, typed, typed_order, uncut}
use Rattle.carried.specs.Exported.Exported.{Hop, Own, Rate}
use Rattle.carried.specs.Night.{Meanwhile, Night}
use Rattle.carried.specs.Night.Meanwhile.{start, later, beside}
use Rattle.carried.proofs.Demand.{address, address_byte, aside_entries_lem, away_entries, board_tries_told, calls, cut_uncut, done_zero, entries_read, is, ranges, same_tuner, stopped, t, tries_told}
use Rattle.carried.proofs.Night.{night_read}
use Rattle.carried.proofs.Passed.{Passed, next_ranged, passed, turned}
use Rattle.carried.proofs.Passed.Passed.{away, made}
use Rattle.carried.proofs.Steady.{typed_given}

-- the call of crate `sequences` behind an exported one
abbrev within : Lent → Call
within k = call (order_of k.exported) k.outcomes k.room

-- ---- a call that is answered 0

-- it was made, and so was the call behind it
record Made (u : Tuner) (k : Lent) (b : List ℕ) : Type 0 where
  pub number : number_of (result (within k) u).answer ≡ 0
  pub read : entries_of k b ≡ entries (within k) u
  pub bytes : (leaves k b).bytes ≡ tuner_bytes (tuner_after (within k) u)

module _ (u : Tuner) (es : List Entry) (s : Sequence u es) (r : Ranged u) (b : List ℕ) (same : b ≡ tuner_bytes u) (k : Lent) (h : typed k.exported ≡ true) where
  pass : Passed u (within k) (turned k.exported k.next u) (amiss k.exported) (leaves k b)
  pass =
      subst (λ (d : List ℕ). Passed u (within k) (turned k.exported k.next u) (amiss k.exported) (leaves k d)) (sym same)
      (passed u es s r k.exported k.outcomes k.room k.next h)

  made_of : (leaves k b).reply.refusal ≡ 0 → Made u k b
  made_of e = go pass
    where
      go : Passed u (within k) (turned k.exported k.next u) (amiss k.exported) (leaves k b) → Made u k b
      go (away z told reply bytes) = absurd (eqb-false (turned k.exported k.next u) 0 z (sym (ap (λ (a : Reply). a.refusal) reply) ∙ e))
      go (made z told reply room bytes) =
          record {
            number = sym (ap (λ (a : Reply). a.refusal) reply) ∙ e;
            read = entries_read u r (within k) h (leaves k b) reply room;
            bytes = bytes;
          }

-- ---- calls that move no IF

record After (first : Tuner) (es : List Entry) (b : List ℕ) (fs : List Entry) : Type 0 where
  pub tuner : Tuner
  pub bytes : b ≡ tuner_bytes tuner
  pub ranges : Ranged tuner
  pub between : Between first tuner fs
  pub sequence : Sequence tuner (es ++ fs)

module _ (first : Tuner) (es : List Entry) where
  after_call : (u : Tuner) (fs : List Entry) → Between first u fs → Sequence u (es ++ fs) → Ranged u → (k : Call) (h : typed_order k.order ≡ true)
      → moves_if k.order ≡ false → (n : ℕ) (one : Bool) (l : Left) → Passed u k n one l → After first es l.bytes (fs ++ read_by l.reply l.room)
  after_call u fs b s r k h no-if n one l (away z told reply bytes) =
      rw (away_entries l n reply, append-nil fs) (record { tuner = u; bytes = bytes; ranges = r; between = b; sequence = s })
  after_call u fs b s r k h no-if n one l (made z told reply room bytes) =
      rw (entries_read u r k h l reply room) (record {
        tuner = tuner_after k u;
        bytes = bytes;
        ranges = next_ranged u (es ++ fs) s r k h;
        between = then u fs b k no-if (typed_given k.order u h);
        sequence = subst (Sequence (tuner_after k u)) (append_assoc es fs (entries k u)) (more u (es ++ fs) s k (typed_given k.order u h));
      })

  after_aside : (b : List ℕ) (fs : List Entry) → After first es b fs → (a : Aside) → aside_given a.other ≡ true → moves_aside a.other ≡ false
      → After first es b (fs ++ aside_entries_of a)
  after_aside b fs p a g no-if =
      rw (aside_entries_lem a g) (record {
        tuner = p.tuner;
        bytes = p.bytes;
        ranges = p.ranges;
        between = besides p.tuner fs p.between a no-if g;
        sequence = subst (Sequence p.tuner) (append_assoc es fs (aside_entries a)) (aside p.tuner (es ++ fs) p.sequence a g);
      })

  after : (b : List ℕ) → b ≡ tuner_bytes first → Ranged first → Sequence first es → (now : List ℕ) (fs : List Entry) → Meanwhile b now fs → After first es now fs
  after b same r s now fs start = record { tuner = first; bytes = same; ranges = r; between = still; sequence = subst (Sequence first) (sym (append-nil es)) s }
  after b same r s now fs (later c gs m k h no-if) =
      let p = after b same r s c gs m in
      after_call p.tuner gs p.between p.sequence p.ranges (within k) h no-if (turned k.exported k.next p.tuner) (amiss k.exported) (leaves k c)
      (pass p.tuner (es ++ gs) p.sequence p.ranges c p.bytes k h)
  after b same r s now fs (beside c gs m a g no-if) = after_aside c gs (after b same r s c gs m) a g no-if

-- ---- the theorems

-- a rate that is answered 0 is done
rate_done : (u : Tuner) (rate : ℕ) (table : List ℕ) (d : Driver) (os room : List ℕ) → number_of (result (call (SampleRate rate table d) os room) u).answer ≡ 0
    → is_done (result (call (SampleRate rate table d) os room) u).answer ≡ true
unfolding rate_result left_by
rate_done u rate table d os room h = ap is_done (done_zero _ os _ u.chip _ _ room h)

one_more : (b : Bool) → ◌≡◌ {A = ℕ} (cond b 2 1) (1 + cond b 1 0)
one_more true = refl
one_more false = refl

module _ (b : List ℕ) (es : List Entry) (c : Carried b es) where
  abbrev given : Tuner
  given = t b es c

  -- answered 0, on the bytes that the host holds
  made_here : (k : Lent) → typed k.exported ≡ true → (leaves k b).reply.refusal ≡ 0 → Made given k b
  made_here k h e = made_of given es (calls b es c) (ranges b es c) b (is b es c) k h e

  -- the mark is 1 and the answer's `locked` more, the tries are the same
  abbrev pub AsTold : Lent → TuneReply → Type 0
  AsTold k a = (lock_mark (get_or b 1 0) (es ++ entries_of k b) ≡ 1 + a.locked) × (tries_of (get_or b 1 0) (es ++ entries_of k b) ≡ a.tries)

  as_told : (k : Lent) → Made given k b → (w : LockTries) → w ≡ lock_tries_in (entries (within k) given) → LockTold given.chip.address w (es ++ entries (within k) given)
      → (a : TuneReply) → (a.tries ≡ tries_in (entries_of k b)) × (a.locked ≡ cond (locked_in (entries_of k b)) 1 0) → AsTold k a
  as_told k m w is_so told a p =
      let there : get_or b 1 0 ≡ given.chip.address = address b es c in
      let read : entries_of k b ≡ entries (within k) given = m.read in (
        (λ i. lock_mark (there i) (es ++ read i))
            ∙ told.mark
            ∙ ap (λ (x : LockTries). cond x.locked 2 1) is_so
            ∙ ap (λ (l : List Entry). cond (locked_in l) 2 1) (sym read)
            ∙ one_more (locked_in (entries_of k b))
            ∙ ap (λ (n : ℕ). 1 + n) (sym p.1),
        (λ i. tries_of (there i) (es ++ read i)) ∙ told.tries ∙ ap (λ (x : LockTries). x.tries) is_so ∙ ap tries_in (sym read) ∙ sym p.0,
      )

  -- #101's answer and the entries, whatever was before
  pub lock_told : (hz : ℕ) (rs os room out : List ℕ) → every is_byte rs ≡ true → (leaves (lent (Own (Tune hz rs)) os room out) b).reply.refusal ≡ 0
      → AsTold (lent (Own (Tune hz rs)) os room out) (over_tuning (tuner.course_of (Tune hz rs)) os b room out).answer
  lock_told hz rs os room out small e =
      let k : Lent = lent (Own (Tune hz rs)) os room out in
      let m = made_here k small e in
      as_told k m (lock_tries_of (Tune hz rs) os given room) (told_by_entries hz rs os room given) (locks.lock_told given hz rs os room (tune_done given hz rs os room m.number) es)
      (over_tuning (tuner.course_of (Tune hz rs)) os b room out).answer (tries_told b es c hz rs os room out small)

  pub lock_told_board : (hz : ℕ) (table rs driver slot os room out : List ℕ) → every is_byte rs ≡ true → (leaves (lent (Hop hz table rs driver slot) os room out) b).reply.refusal ≡ 0
      → AsTold (lent (Hop hz table rs driver slot) os room out) (hop_over table hz rs os driver b room slot out).answer
  lock_told_board hz table rs driver slot os room out small e =
      let k : Lent = lent (Hop hz table rs driver slot) os room out in
      let d : Driver = (driver_of driver).driver in
      let m = made_here k small e in
      as_told k m (hop_lock_tries (plan_by table hz) hz rs os given d room) (board_told_by_entries hz table rs os room d given)
      (locks.lock_told_board given hz table rs d os room (hop_done given hz table rs d os room m.number) es) (hop_over table hz rs os driver b room slot out).answer
      (board_tries_told b es c hz table rs driver slot os room out small)

  -- a call that is refused 11 says so: `last` is the failing entry, whose index the answer gives
  pub cut_marked : (k : Lent) → typed k.exported ≡ true → (leaves k b).reply.refusal ≡ STEP
      → (x : Cut (leaves k b).reply.index (entries_of k b) (entries_of (uncut (leaves k b).reply.index k) b)) × Marked (get_or b 1 0) x.last (es ++ entries_of k b)
  cut_marked k h e =
      let x = cut_uncut b es c k h e in
      (x, marked (leaves k b).reply.index (entries_of k b) (entries_of (uncut (leaves k b).reply.index k) b) x (get_or b 1 0) es)

  -- a rate that is refused 11 wrote no register of the demodulator, or it says so
  pub cut_rate : (rate : ℕ) (table driver slot os room out : List ℕ) → (leaves (lent (Rate rate table driver slot) os room out) b).reply.refusal ≡ STEP
      → (every tuners (entries_of (lent (Rate rate table driver slot) os room out) b) ≡ true)
      ⊎ CutRate (if_for (tuner_of b).tuner.ifreq rate) (xtal_of (driver_of driver).driver) (es ++ entries_of (lent (Rate rate table driver slot) os room out) b)
  cut_rate rate table driver slot os room out e =
      let k : Lent = lent (Rate rate table driver slot) os room out in
      let d : Driver = (driver_of driver).driver in
      let p = stopped b es c k refl e in
      subst (λ (x : Tuner). (every tuners (entries_of k b) ≡ true) ⊎ CutRate (if_for x.ifreq rate) (xtal_of d) (es ++ entries_of k b)) (same_tuner b es c)
      (subst (λ (l : List Entry). (every tuners l ≡ true) ⊎ CutRate (if_for given.ifreq rate) (xtal_of d) (es ++ l)) (sym p.2)
      (cut_short.cut_rate given rate table d os room (leaves k b).reply.index p.1 es))

  -- a rate that is answered 0: the true one of #104, with the DDC byte of the table's plan for the driver's frequency
  pub rate_told : (rate : ℕ) (table driver slot os room out : List ℕ) → (leaves (lent (Rate rate table driver slot) os room out) b).reply.refusal ≡ 0
      → let d = (driver_of driver).driver in
      RateTold rate (xtal_of d) (plan_by table d.frequency).plan.inverted (es ++ entries_of (lent (Rate rate table driver slot) os room out) b)
  rate_told rate table driver slot os room out e =
      let k : Lent = lent (Rate rate table driver slot) os room out in
      let d : Driver = (driver_of driver).driver in
      let m = made_here k refl e in
      subst (λ (l : List Entry). RateTold rate (xtal_of d) (plan_by table d.frequency).plan.inverted (es ++ l)) (sym m.read)
      (rated-so.rate_told given rate table d os room (rate_done given rate table d os room m.number) es)

  -- ---- a rate answered 0, calls that move no IF, a tune answered 0 without a repair

  module _ (rate : ℕ) (table driver slot os room out : List ℕ) (done : (leaves (lent (Rate rate table driver slot) os room out) b).reply.refusal ≡ 0)
      (small : if_for (tuner_of b).tuner.ifreq rate < xtal_of (driver_of driver).driver) (now : List ℕ) (gs : List Entry)
      (meanwhile : Meanwhile (leaves (lent (Rate rate table driver slot) os room out) b).bytes now gs) where
    abbrev rated : Lent
    rated = lent (Rate rate table driver slot) os room out

    abbrev d : Driver
    d = (driver_of driver).driver

    -- the entries before the tune
    abbrev pub so_far : List Entry
    so_far = (es ++ entries_of rated b) ++ gs

    rate_made : Made given rated b
    rate_made = made_here rated refl done

    abbrev first : Tuner
    first = tuner_after (within rated) given

    then_on : After first (es ++ entries (within rated) given) now gs
    then_on =
        after first (es ++ entries (within rated) given) (leaves rated b).bytes rate_made.bytes (next_ranged given es (calls b es c) (ranges b es c) (within rated) refl)
        (more given es (calls b es c) (within rated) (typed_given (SampleRate rate table d) given refl)) now gs meanwhile

    abbrev u : Tuner
    u = then_on.tuner

    same_u : (tuner_of now).tuner ≡ u
    same_u = ap (λ (l : List ℕ). (tuner_of l).tuner) then_on.bytes ∙ ap (λ (x : TunerRead). x.tuner) (read_written u then_on.ranges)

    address_u : get_or now 1 0 ≡ u.chip.address
    address_u = ap (λ (l : List ℕ). get_or l 1 0) then_on.bytes ∙ address_byte u then_on.ranges

    small_here : if_for given.ifreq rate < xtal_of d
    small_here = subst (λ (x : Tuner). if_for x.ifreq rate < xtal_of d) (sym (same_tuner b es c)) small

    rate_isdone : is_done (result (call (SampleRate rate table d) os room) given).answer ≡ true
    rate_isdone = rate_done given rate table d os room rate_made.number

    -- what is filed of the records is filed of the bytes
    over_bytes : (f : ℕ) (k : Lent) → entries_of k now ≡ entries (within k) u
        → Filed f u.chip.address u.corrected (xtal_of d) (((es ++ entries (within rated) given) ++ gs) ++ entries (within k) u)
        → Filed f (get_or now 1 0) (tuner_of now).tuner.corrected (xtal_of d) (so_far ++ entries_of k now)
    over_bytes f k read w = rw (address_u, same_u, read, rate_made.read) w

    pub filed : (hz : ℕ) (rs os' room' out' : List ℕ) → every is_byte rs ≡ true → (leaves (lent (Own (Tune hz rs)) os' room' out') now).reply.refusal ≡ 0
        → fine_of (get_or rs 4 0) ≡ power_of (tuner_of now).tuner.kind
        → 12_500 ≤ hz
        → Filed hz (get_or now 1 0) (tuner_of now).tuner.corrected (xtal_of d) (so_far ++ entries_of (lent (Own (Tune hz rs)) os' room' out') now)
    filed hz rs os' room' out' bytes e fine far =
        let k : Lent = lent (Own (Tune hz rs)) os' room' out' in
        let m = made_of u ((es ++ entries (within rated) given) ++ gs) then_on.sequence then_on.ranges now then_on.bytes k bytes e in
        over_bytes hz k m.read
        (stations.filed given rate table d os room es (calls b es c) rate_isdone small_here u gs then_on.between hz rs os' room' (typed_given (Tuned (Tune hz rs)) u bytes)
        (tune_done u hz rs os' room' m.number) (fine ∙ ap (λ (x : Tuner). power_of x.kind) same_u) far)

    pub filed_board : (hz : ℕ) (lines rs driver' slot' os' room' out' : List ℕ) → every is_byte rs ≡ true
        → (leaves (lent (Hop hz lines rs driver' slot') os' room' out') now).reply.refusal ≡ 0
        → fine_of (get_or (drop (path_replies (tuner_of now).tuner.kind (plan_by lines hz).plan.path) rs) 4 0) ≡ power_of (tuner_of now).tuner.kind
        → 12_500 ≤ (plan_by lines hz).plan.hz
        → Filed (plan_by lines hz).plan.hz (get_or now 1 0) (tuner_of now).tuner.corrected (xtal_of d)
        (so_far ++ entries_of (lent (Hop hz lines rs driver' slot') os' room' out') now)
    filed_board hz lines rs driver' slot' os' room' out' bytes e fine far =
        let k : Lent = lent (Hop hz lines rs driver' slot') os' room' out' in
        let v : Driver = (driver_of driver').driver in
        let m = made_of u ((es ++ entries (within rated) given) ++ gs) then_on.sequence then_on.ranges now then_on.bytes k bytes e in
        over_bytes (plan_by lines hz).plan.hz k m.read
        (stations.filed_board given rate table d os room es (calls b es c) rate_isdone small_here u gs then_on.between hz lines rs v os' room'
        (typed_given (BoardTune hz lines rs v) u bytes) (hop_done u hz lines rs v os' room' m.number)
        (subst (λ (x : Tuner). fine_of (get_or (drop (path_replies x.kind (plan_by lines hz).plan.path) rs) 4 0) ≡ power_of x.kind) same_u fine) far)

-- ---- read back from the file

-- what is filed of the entries is filed of the night's file
pub file_told : (b : List ℕ) (es : List Entry) (file : List ℕ) → Night b es file → (hz address r xtal : ℕ) → Filed hz address r xtal es → Filed hz address r xtal (chain_entries file)
file_told b es file night hz address r xtal w = subst (Filed hz address r xtal) (sym (night_read b es file night).1) w

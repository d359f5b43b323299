-- A call of `pasetone_feed` is one more call of the sequence, whatever chunk it is given: the command that it completes leaves of the tuner's bytes and of the
-- room what its own exported call leaves, and without one nothing changes. So all that is proved of `Carried` holds with commands of a line among the calls.
-- Assumes nothing.
use Prim.Native.Nat.{ℕ, ◌+◌, ◌%◌, ◌≤◌, ◌<◌}
use mathlib.Core.Path.{◌≡◌, refl, sym, ap, subst, ◌∙◌}
use mathlib.Core.Bool.{Bool, true, false, ◌&&◌, ◌||◌, cond, true≢false}
use mathlib.Core.List.{List, [], ◌++◌, append-nil}
use mathlib.Core.Logic.{◌⊎◌, inl, inr}
use native.Mathlib.Omega.{arith}
use borrow.Author.Tests.{eqb-false, le-leb, lt-ltb}
use lib.Dec.{eqb, ltb}
use lib.IntN.{ℤ}
use lib.ListN.{get_or, length, set, take}
use lib.Seq.{length-sets, sets, take_all}
use Rattle.wire.specs.Bytes.{Bytes}
use Rattle.transcript.specs.declared.Entry.{Entry}
use Rattle.attempts.specs.Attempts.{Played, Regs, byte_in, last_in}
use Rattle.refusals.specs.declared.Answer.{Answer}
use Rattle.refusals.specs.declared.Answer.TheVariants.{Done, Refused, Stopped}
use Rattle.refusals.specs.Table.{SETUP, STEP, COMMAND}
use Rattle.chip.specs.declared.Progress.TheVariants.{Refused11}
use Rattle.chip.specs.Calls.{Called, called}
use Rattle.chip.specs.Courses.{left_by}
use Rattle.chip.specs.Entries.{no_tries}
use Rattle.chip.specs.Steps.{every}
use Rattle.history.specs.Histories.{Cut, progress_in}
use Rattle.writes.specs.Lists.{init_array}
use Rattle.bands.specs.Tables.{plan_by}
use Rattle.driver.specs.declared.Driver.{Driver}
use Rattle.driver.specs.Calls.{Both, both, rate_result, rate_row}
use Rattle.driver.specs.Record.{sound_driver}
use Rattle.drivers.specs.Drivers.{Hops, Rates, correct_over, rate_over}
use Rattle.r82xx.specs.declared.Tuner.{Tuner}
use Rattle.r82xx.specs.Orders as order
use Rattle.r82xx.specs.Record.{sound}
use Rattle.records.specs.Tuners.{TunerRead}
use Rattle.records.specs.Drivers.{driver_of}
use Rattle.records.specs.Tuners.{tuner_bytes, tuner_of}
use Rattle.reply.specs.Replies.{call_reply, reply_of, tuned_of}
use Rattle.tuners.specs.Over.{After, is_written, next_of, over_tuner, over_tuning}
use Rattle.records.proofs.Exact.{read_written}
use Rattle.sequences.specs.Calls.{call, is_byte}
use Rattle.sequences.specs.Calls.Order.{SampleRate, Tuned}
use Rattle.std.specs.Prelude.{Option, Some, None}
use Rattle.std.specs.Option.{is_none}
use Rattle.stream.specs.declared.Command.{Command}
use Rattle.stream.specs.declared.Command.TheVariants.{Frequency, Rate, GainDb, GainIndex, Bandwidth, Correction, Reload}
use Rattle.stream.specs.Commands.{command_of}
use Rattle.stream.specs.Pending.{gathered, is_stream, pending_of, used_by}
use Rattle.commands.specs.Over.{Feeds, completed_by, fed_of, feed_over, feeds, no_command, not_run, run_over, waiting_by}
use Rattle.commands.specs.Rows.{beside, command_row, lock_tries_by}
use Rattle.commands.proofs.Runs.{bandwidth_taken, by_correction, by_rate, by_tuner, by_tuning_lem, driver_sound, gain_taken, index_taken, is_taken, left, over_is, rate_is, rated, reload_taken}
use Rattle.carried.specs.Carried.{Carried}
use Rattle.carried.specs.Carried.Carried.{next}
use Rattle.carried.specs.Exported.{Exported, Left, Lent, amiss, by_after, by_rates, entries_of, leaves, left as onward, lent, plainly, read_by, stands, tuner_left, tuner_typed, typed, uncut}
use Rattle.carried.specs.Exported.Exported.{Own, Rate as RateOf, Correct}
use Rattle.carried.specs.Fed.{Completes, Makes, fed_entries, plain_fed}
use Rattle.carried.specs.Fed.Makes.{tunes, rates, gains, steps, narrows, corrects, reloads}
use Rattle.carried.proofs.Demand.{behind, cut_uncut, index_told, long, never_five, readable, refused_one, reload_done}
use Rattle.carried.proofs.Passed.{few}

run_none : (x : Option Command) (table rs os d b room : List ℕ) → is_none x ≡ false → (driver_of d).ok ≡ false → run_over x table rs os d b room ≡ not_run SETUP d b room
unfolding run_over
run_none x table rs os d b room known e = rw (known, e)

run_unknown : (x : Option Command) (table rs os d b room : List ℕ) → is_none x ≡ true → run_over x table rs os d b room ≡ not_run COMMAND d b room
unfolding run_over
run_unknown x table rs os d b room unknown = rw unknown

-- a command is unknown, or makes an exported call
makes_or_none : (table rs d : List ℕ) (x : Option Command) → (is_none x ≡ true) ⊎ ((e : Exported) × Makes table rs d x e)
makes_or_none table rs d (Some (Frequency hz)) = inr (Own (order.Order.Tune hz rs), tunes hz)
makes_or_none table rs d (Some (Rate rate)) = inr (RateOf rate table d d, rates rate)
makes_or_none table rs d (Some (GainDb db)) = inr (Own (order.Order.Gain db), gains db)
makes_or_none table rs d (Some (GainIndex k)) = inr (Own (order.Order.GainIndex k), steps k)
makes_or_none table rs d (Some (Bandwidth hz)) = inr (Own (order.Order.Bandwidth hz), narrows hz)
makes_or_none table rs d (Some (Correction ppm)) = inr (Correct ppm d, corrects ppm)
makes_or_none table rs d (Some Reload) = inr (Own order.Order.Reload, reloads)
makes_or_none table rs d None = inl refl

made_known : (table rs d : List ℕ) (x : Option Command) (e : Exported) → Makes table rs d x e → is_none x ≡ false
made_known table rs d x e (tunes hz) = refl
made_known table rs d x e (rates rate) = refl
made_known table rs d x e (gains db) = refl
made_known table rs d x e (steps k) = refl
made_known table rs d x e (narrows hz) = refl
made_known table rs d x e (corrects ppm) = refl
made_known table rs d x e reloads = refl

-- what a call on both records leaves of the tuner's
abbrev tuner_only : Called Both → Called Tuner
tuner_only x = called x.next.tuner x.room x.count x.answer

-- what is left where a command was run, as an exported call leaves it, and as a sequence's next bytes and entries
abbrev left_over : Hops → Left
left_over h = onward (plainly h.answer) h.room h.tuner

abbrev Goes : List Entry → Left → Type 0
Goes es l = Carried l.bytes (es ++ read_by l.reply l.room)

-- a next record is written into its slice exactly where the reply says that it stands: so a slice of 78 bytes holds the next bytes either way
stood : (n count : ℕ) (y : Bool) → count < 4_294_967_296 → eqb count 0 ≡ false → (y || ltb 0 (count % 4294967296)) ≡ true
stood n count true few e = refl
stood n count false few e = lt-ltb 0 (count % 4294967296) (omega (arith, eqb-false count 0 e))

written_stands : (x : Called Tuner) (b : List ℕ) → x.count < 4_294_967_296 → stands (call_reply x) ≡ false → next_of tuner_bytes x.answer x.count x.next b ≡ b
unfolding next_of
written_stands x b few h = go x.answer (eqb x.count 0) refl h
  where
    go : (a : Answer) (z : Bool) → eqb x.count 0 ≡ z → stands (reply_of a x.count) ≡ false → cond (is_written a x.count) (sets b 0 (tuner_bytes x.next)) b ≡ b
    go (Done v) z e k = absurd (true≢false k)
    go (Refused n) true e k = rw e
    go (Refused n) false e k = absurd (true≢false (sym (stood n x.count (eqb n 0) few e) ∙ k))
    go (Stopped i) true e k = rw e
    go (Stopped i) false e k = absurd (true≢false (sym (stood 11 x.count false few e) ∙ k))

-- the next bytes of a host whose slice for the next record is the given one
taken_there : (x : Called Tuner) (b : List ℕ) → x.count < 4_294_967_296 → length b ≡ 78
    → cond (stands (call_reply x)) (take 78 (next_of tuner_bytes x.answer x.count x.next b)) b ≡ next_of tuner_bytes x.answer x.count x.next b
unfolding next_of
taken_there x b few n = go (stands (call_reply x)) refl (is_written x.answer x.count)
  where
    go : (z : Bool) → stands (call_reply x) ≡ z → (y : Bool)
        → cond (stands (call_reply x)) (take 78 (next_of tuner_bytes x.answer x.count x.next b)) b ≡ next_of tuner_bytes x.answer x.count x.next b
    go true e y = rw e (take_all 78 (next_of tuner_bytes x.answer x.count x.next b) (sized (is_written x.answer x.count)))
      where
        sized : (y : Bool) → length (cond y (sets b 0 (tuner_bytes x.next)) b) ≤ 78
        sized true = simp length-sets (omega arith)
        sized false = omega arith
    go false e y = rw e (sym (written_stands x b few e))

module _ (b : List ℕ) (es : List Entry) (c : Carried b es) (table rs os d room : List ℕ) (replies : every is_byte rs ≡ true) (driver-bytes : Bytes d) where
  stays : Carried b (es ++ [])
  stays = subst (Carried b) (sym (append-nil es)) c

  abbrev t : Tuner
  t = (behind b es c).tuner

  same_tuner : (tuner_of b).tuner ≡ t
  same_tuner = ap (λ (l : List ℕ). (tuner_of l).tuner) (behind b es c).bytes ∙ ap (λ (r : TunerRead). r.tuner) (read_written t (behind b es c).ranges)

  good : sound (tuner_of b).tuner ≡ true
  good = ap sound same_tuner ∙ rw (le-leb 1 t.nominal (behind b es c).ranges.known, le-leb 1 t.corrected (behind b es c).ranges.right)

  module _ (ok : (driver_of d).ok ≡ true) where
    whole : ((driver_of d).ok && (tuner_of b).ok) ≡ true
    whole = rw (ok, readable b es c)

    few_of : (o : order.Order) → tuner_typed o ≡ true → (left_by true (order.course_of o (tuner_of b).tuner) os (tuner_of b).tuner.chip (tuner_of b).tuner room).count < 4_294_967_296
    unfolding order.result_of
    few_of o h =
        let n = few t es (behind b es c).sequence (behind b es c).ranges (call (Tuned o) os room) h in
        subst (λ (u : Tuner). (left_by true (order.course_of o u) os u.chip u room).count < 4_294_967_296) (sym same_tuner)
        (subst (λ (z : Bool). (left_by z (order.course_of o t) os t.chip t room).count < 4_294_967_296) (sym (ap sound same_tuner) ∙ good) n)

    few_rate : (rate : ℕ) → (rated table rs os d b room driver-bytes good whole rate).count < 4_294_967_296
    unfolding rate_result
    few_rate rate =
        let d' : Driver = (driver_of d).driver in
        let p = plan_by table d'.frequency in
        let n = few t es (behind b es c).sequence (behind b es c).ranges (call (SampleRate rate table d') os room) refl in
        let sounds : (sound t && sound_driver d') ≡ true = rw (sym (ap sound same_tuner) ∙ good) (driver_sound d driver-bytes ok) in
        subst (λ (u : Tuner). (left_by true (rate_row rate p u d') os u.chip (both u d') room).count < 4_294_967_296) (sym same_tuner)
        (subst (λ (z : Bool). (left_by z (rate_row rate p t d') os t.chip (both t d') room).count < 4_294_967_296) sounds n)

    -- a call of the tuner's table, on the bytes where they lie
    own_is : (x : Option Command) (o : order.Order)
        → command_row x table rs (tuner_of b).tuner (driver_of d).driver ≡ beside (driver_of d).driver (order.course_of o (tuner_of b).tuner)
        → is_none x ≡ false → is_taken (order.course_of o (tuner_of b).tuner) ≡ true → lock_tries_by x rs os (tuner_of b).tuner room ≡ no_tries
        → tuner_typed o ≡ true → tuner_left o os room b b ≡ by_after (over_tuner (order.course_of o) os b room b) b
        → tuner_left o os room b b ≡ left_over (run_over x table rs os d b room)
    own_is x o row known taken none h l =
        let a : After = over_tuner (order.course_of o) os b room b in
        let is = over_is table rs os d b room driver-bytes good whole x o row known taken in
        let run = by_tuner table rs os d b room driver-bytes good whole x o row known taken none x refl b refl a.answer a.room a.next refl (tuned_of a.answer no_tries) refl in
        let there : (by_after a b).bytes ≡ a.next =
        ap (λ (z : After). (by_after z b).bytes) is
        ∙ taken_there (left table rs os d b room driver-bytes good whole x o row known taken) b (few_of o h) (long b es c)
        ∙ sym (ap (λ (z : After). z.next) is) in
        l ∙ ap (onward a.answer a.room) there ∙ ap left_over run

    -- a tuning, which is the same with its tries told
    tuning_is : (hz : ℕ) → leaves (lent (Own (order.Order.Tune hz rs)) os room b) b ≡ left_over (run_over (Some (Frequency hz)) table rs os d b room)
    unfolding over_tuning
    tuning_is hz =
        let o : order.Order = order.Order.Tune hz rs in
        let a : After = over_tuner (order.course_of o) os b room b in
        let v = over_tuning (order.course_of o) os b room b in
        let is = over_is table rs os d b room driver-bytes good whole (Some (Frequency hz)) o refl refl refl in
        let run = by_tuning_lem table rs os d b room driver-bytes good whole hz (Some (Frequency hz)) refl b refl v.answer v.room v.next refl in
        let there : (by_after a b).bytes ≡ a.next =
        ap (λ (z : After). (by_after z b).bytes) is
        ∙ taken_there (left table rs os d b room driver-bytes good whole (Some (Frequency hz)) o refl refl refl) b (few_of o replies) (long b es c)
        ∙ sym (ap (λ (z : After). z.next) is) in
        ap (onward a.answer a.room) there ∙ ap left_over run

    -- a rate, whose driver's record goes into the driver's own bytes
    rate_is_run : (rate : ℕ) → leaves (lent (RateOf rate table d d) os room b) b ≡ left_over (run_over (Some (Rate rate)) table rs os d b room)
    rate_is_run rate =
        let v = rate_over os rate table d b room d b in
        let is = rate_is table rs os d b room driver-bytes good whole rate in
        let x = rated table rs os d b room driver-bytes good whole rate in
        let run = by_rate table rs os d b room driver-bytes good whole rate (Some (Rate rate)) refl d b refl refl v.answer v.room v.driver v.tuner refl (tuned_of v.answer no_tries) refl in
        let there : (by_rates v b).bytes ≡ v.tuner =
        ap (λ (z : Rates). (by_rates z b).bytes) is ∙ taken_there (tuner_only x) b (few_rate rate) (long b es c) ∙ sym (ap (λ (z : Rates). z.tuner) is) in
        ap (onward v.answer v.room) there ∙ ap left_over run

    correction_is : (ppm : ℤ) → leaves (lent (Correct ppm d) os room b) b ≡ left_over (run_over (Some (Correction ppm)) table rs os d b room)
    correction_is ppm =
        let v = correct_over ppm b d in
        ap left_over (by_correction table rs os d b room driver-bytes good whole ppm (Some (Correction ppm)) refl v.answer v.tuner v.driver refl (tuned_of v.answer no_tries) refl)

    -- a command leaves of the tuner's bytes and of the room what its own exported call leaves, and tells the same
    pub run_is_call : (x : Option Command) (e : Exported) → Makes table rs d x e → leaves (lent e os room b) b ≡ left_over (run_over x table rs os d b room)
    run_is_call x e (tunes hz) = tuning_is hz
    run_is_call x e (rates rate) = rate_is_run rate
    run_is_call x e (gains db) = own_is (Some (GainDb db)) (order.Order.Gain db) refl refl (gain_taken db (tuner_of b).tuner) refl refl refl
    run_is_call x e (steps k) = own_is (Some (GainIndex k)) (order.Order.GainIndex k) refl refl (index_taken k (tuner_of b).tuner) refl refl refl
    run_is_call x e (narrows hz) = own_is (Some (Bandwidth hz)) (order.Order.Bandwidth hz) refl refl (bandwidth_taken hz (tuner_of b).tuner) refl refl refl
    run_is_call x e (corrects ppm) = correction_is ppm
    run_is_call x e reloads = own_is (Some Reload) order.Order.Reload refl refl (reload_taken (tuner_of b).tuner) refl refl refl

    -- its numbers are of their types, and nothing but the tuner's and the driver's records is asked of it
    pub made_typed : (x : Option Command) (e : Exported) → Makes table rs d x e → (typed e ≡ true) × (amiss e ≡ false)
    made_typed x e (tunes hz) = (replies, refl)
    made_typed x e (rates rate) = (refl, rw ok)
    made_typed x e (gains db) = (refl, refl)
    made_typed x e (steps k) = (refl, refl)
    made_typed x e (narrows hz) = (refl, refl)
    made_typed x e (corrects ppm) = (refl, rw ok)
    made_typed x e reloads = (refl, refl)

    made_goes : (x : Option Command) (e : Exported) → Makes table rs d x e → Goes es (left_over (run_over x table rs os d b room))
    made_goes x e m = subst (Goes es) (run_is_call x e m) (next b es c (lent e os room b) (made_typed x e m).0)

    -- 1 is told of nothing: the tuner's bytes are a record, and so are the driver's
    made_one : (x : Option Command) (e : Exported) → Makes table rs d x e → eqb (run_over x table rs os d b room).answer.refusal SETUP ≡ false
    made_one x e m =
        subst (λ (z : Left). eqb z.reply.refusal SETUP ≡ false) (run_is_call x e m)
        (refused_one b es c (lent e os room b) (made_typed x e m).0 ∙ (made_typed x e m).1)

    run_one : (x : Option Command) → eqb (run_over x table rs os d b room).answer.refusal SETUP ≡ false
    run_one x = go (makes_or_none table rs d x)
      where
        go : (is_none x ≡ true) ⊎ ((e : Exported) × Makes table rs d x e) → eqb (run_over x table rs os d b room).answer.refusal SETUP ≡ false
        go (inl none) = ap (λ (h : Hops). eqb h.answer.refusal SETUP) (run_unknown x table rs os d b room none)
        go (inr made) = made_one x made.0 made.1

    -- a feeding is refused 1 for bytes that are no stream's or no driver's alone
    pub fed_one : (chunk stream : List ℕ) → is_stream stream ≡ true → eqb (feed_over table chunk rs os stream d b room).answer.refusal SETUP ≡ false
    unfolding feed_over
    fed_one chunk stream h = rw h (go (eqb (length (gathered (pending_of stream) chunk)) 9))
      where
        bytes : List ℕ
        bytes = gathered (pending_of stream) chunk

        used : ℕ
        used = used_by (pending_of stream) chunk

        go : (y : Bool) → eqb (cond y (completed_by used (run_over (command_of bytes) table rs os d b room)) (waiting_by used bytes d b room)).answer.refusal 1 ≡ false
        go true = run_one (command_of bytes)
        go false = refl

  -- a command on the tuner's bytes: what it leaves is the sequence's next bytes, and what is read of its room the next entries. Unknown, or beside bytes that are no
  -- driver's, it is not run
  pub run_goes : (x : Option Command) → Goes es (left_over (run_over x table rs os d b room))
  run_goes x = go (makes_or_none table rs d x) (driver_of d).ok refl
    where
      go : (is_none x ≡ true) ⊎ ((e : Exported) × Makes table rs d x e) → (z : Bool) → (driver_of d).ok ≡ z → Goes es (left_over (run_over x table rs os d b room))
      go (inl none) z e = subst (λ (h : Hops). Goes es (left_over h)) (sym (run_unknown x table rs os d b room none)) stays
      go (inr made) true e = made_goes e x made.0 made.1
      go (inr made) false e = subst (λ (h : Hops). Goes es (left_over h)) (sym (run_none x table rs os d b room (made_known table rs d x made.0 made.1) e)) stays

  -- no command is refused 5
  run_never_five : (x : Option Command) → eqb (run_over x table rs os d b room).answer.refusal 5 ≡ false
  run_never_five x = go (makes_or_none table rs d x) (driver_of d).ok refl
    where
      go : (is_none x ≡ true) ⊎ ((e : Exported) × Makes table rs d x e) → (z : Bool) → (driver_of d).ok ≡ z → eqb (run_over x table rs os d b room).answer.refusal 5 ≡ false
      go (inl none) z e = ap (λ (h : Hops). eqb h.answer.refusal 5) (run_unknown x table rs os d b room none)
      go (inr made) true e =
          subst (λ (l : Left). eqb l.reply.refusal 5 ≡ false) (run_is_call e x made.0 made.1) (never_five b es c (lent made.0 os room b) (made_typed e x made.0 made.1).0)
      go (inr made) false e = ap (λ (h : Hops). eqb h.answer.refusal 5) (run_none x table rs os d b room (made_known table rs d x made.0 made.1) e)

  pub fed_never_five : (chunk stream : List ℕ) → eqb (feed_over table chunk rs os stream d b room).answer.refusal 5 ≡ false
  unfolding feed_over
  fed_never_five chunk stream = go (is_stream stream) (eqb (length (gathered (pending_of stream) chunk)) 9)
    where
      bytes : List ℕ
      bytes = gathered (pending_of stream) chunk

      used : ℕ
      used = used_by (pending_of stream) chunk

      go : (z y : Bool)
          → eqb
          (cond z (cond y (completed_by used (run_over (command_of bytes) table rs os d b room)) (waiting_by used bytes d b room)) (feeds (fed_of (no_command (Refused SETUP)) 0 0 0) stream d b room)).answer.refusal
          5
          ≡ false
      go true true = run_never_five (command_of bytes)
      go true false = refl
      go false y = refl

  -- any chunk, on any bytes of a stream: one more call, or none
  pub fed_carried : (chunk stream : List ℕ) → Carried (feed_over table chunk rs os stream d b room).tuner (es ++ fed_entries (feed_over table chunk rs os stream d b room))
  unfolding feed_over
  fed_carried chunk stream = go (is_stream stream) (eqb (length (gathered (pending_of stream) chunk)) 9)
    where
      bytes : List ℕ
      bytes = gathered (pending_of stream) chunk

      used : ℕ
      used = used_by (pending_of stream) chunk

      refused : Feeds
      refused = feeds (fed_of (no_command (Refused SETUP)) 0 0 0) stream d b room

      Left-so : Feeds → Type 0
      Left-so f = Carried f.tuner (es ++ fed_entries f)

      go : (z y : Bool) → Left-so (cond z (cond y (completed_by used (run_over (command_of bytes) table rs os d b room)) (waiting_by used bytes d b room)) refused)
      go true true = run_goes (command_of bytes)
      go true false = stays
      go false y = stays

-- ---- what is said of an exported call holds of the command that makes it

module _ (b : List ℕ) (es : List Entry) (c : Carried b es) (table rs os d room : List ℕ) (replies : every is_byte rs ≡ true) (driver-bytes : Bytes d) (chunk stream : List ℕ) where
  abbrev nine : List ℕ
  nine = gathered (pending_of stream) chunk

  -- with any outcomes: what it leaves is what the command leaves
  fed_is : Completes stream chunk → (os : List ℕ) → feed_over table chunk rs os stream d b room ≡ completed_by (used_by (pending_of stream) chunk) (run_over (command_of nine) table rs os d b room)
  unfolding feed_over
  fed_is w os = rw (w.valid, w.whole)

  pub fed_call : Completes stream chunk → (driver_of d).ok ≡ true → (e : Exported) → Makes table rs d (command_of nine) e → (os : List ℕ)
      → onward (plain_fed (feed_over table chunk rs os stream d b room).answer) (feed_over table chunk rs os stream d b room).room (feed_over table chunk rs os stream d b room).tuner
      ≡ leaves (lent e os room b) b
  fed_call w ok e m os =
      ap (λ (f : Feeds). onward (plain_fed f.answer) f.room f.tuner) (fed_is w os)
      ∙ sym (run_is_call b es c table rs os d room replies driver-bytes ok (command_of nine) e m)

  -- one that is refused 11 made a call
  record Cuts : Type 0 where
    pub completes : Completes stream chunk
    pub driver : (driver_of d).ok ≡ true
    pub exported : Exported
    pub makes : Makes table rs d (command_of nine) exported

  eleven_makes : (feed_over table chunk rs os stream d b room).answer.refusal ≡ STEP → Cuts
  unfolding feed_over
  eleven_makes = go (is_stream stream) refl (eqb (length nine) 9) refl
    where
      ran : (w : Completes stream chunk) → (run_over (command_of nine) table rs os d b room).answer.refusal ≡ STEP → Cuts
      ran w h = by (makes_or_none table rs d (command_of nine)) (driver_of d).ok refl
        where
          by : (is_none (command_of nine) ≡ true) ⊎ ((e : Exported) × Makes table rs d (command_of nine) e) → (z : Bool) → (driver_of d).ok ≡ z → Cuts
          by (inl none) z e =
              let fourteen : ◌≡◌ {A = ℕ} 14 11 = sym (ap (λ (x : Hops). x.answer.refusal) (run_unknown (command_of nine) table rs os d b room none)) ∙ h in
              absurd (omega arith)
          by (inr made) true e = record { completes = w; driver = e; exported = made.0; makes = made.1 }
          by (inr made) false e =
              let one : ◌≡◌ {A = ℕ} 1 11 =
              sym (ap (λ (x : Hops). x.answer.refusal) (run_none (command_of nine) table rs os d b room (made_known table rs d (command_of nine) made.0 made.1) e)) ∙ h in
              absurd (omega arith)

      go : (z : Bool) → is_stream stream ≡ z → (y : Bool) → eqb (length nine) 9 ≡ y
          → (cond z
          (cond y (completed_by (used_by (pending_of stream) chunk) (run_over (command_of nine) table rs os d b room)) (waiting_by (used_by (pending_of stream) chunk) nine d b room))
          (feeds (fed_of (no_command (Refused SETUP)) 0 0 0) stream d b room)).answer.refusal
          ≡ 11
          → Cuts
      go true s true n h = ran (record { valid = s; whole = n }) h
      go true s false n h = absurd (omega arith)
      go false s y n h = absurd (omega arith)

  module _ (h : (feed_over table chunk rs os stream d b room).answer.refusal ≡ STEP) where
    abbrev cuts : Cuts
    cuts = eleven_makes h

    abbrev own : Lent
    own = lent cuts.exported os room b

    own_typed : typed cuts.exported ≡ true
    own_typed = (made_typed b es c table rs os d room replies driver-bytes cuts.driver (command_of nine) cuts.exported cuts.makes).0

    own_left : (os : List ℕ) → onward (plain_fed (feed_over table chunk rs os stream d b room).answer) (feed_over table chunk rs os stream d b room).room (feed_over table chunk rs os stream d b room).tuner
        ≡ leaves (lent cuts.exported os room b) b
    own_left os = fed_call cuts.completes cuts.driver cuts.exported cuts.makes os

    own_eleven : (leaves own b).reply.refusal ≡ STEP
    own_eleven = sym (ap (λ (l : Left). l.reply.refusal) (own_left os)) ∙ h

    own_index : (leaves own b).reply.index ≡ (feed_over table chunk rs os stream d b room).answer.index
    own_index = sym (ap (λ (l : Left). l.reply.index) (own_left os))

    own_read : (os : List ℕ) → entries_of (lent cuts.exported os room b) b ≡ fed_entries (feed_over table chunk rs os stream d b room)
    own_read os = sym (ap (λ (l : Left). read_by l.reply l.room) (own_left os))

    -- (e) "11 also gives the failing entry's index", of a fed command
    pub fed_index : progress_in (fed_entries (feed_over table chunk rs os stream d b room)) ≡ Refused11 (feed_over table chunk rs os stream d b room).answer.index
    fed_index = ap progress_in (sym (own_read os)) ∙ index_told b es c own own_typed own_eleven ∙ ap Refused11 own_index

    -- (c) "A cut call made the steps of the uncut one up to the failing step, then at most the repeater's closing": the same bytes fed with the failing step done
    pub fed_cut : Cut (feed_over table chunk rs os stream d b room).answer.index (fed_entries (feed_over table chunk rs os stream d b room))
        (fed_entries (feed_over table chunk rs (set os (feed_over table chunk rs os stream d b room).answer.index 0) stream d b room))
    fed_cut =
        let i : ℕ = (feed_over table chunk rs os stream d b room).answer.index in
        subst (λ (l : List Entry). Cut i (fed_entries (feed_over table chunk rs os stream d b room)) l) (own_read (set os i 0))
        (subst (λ (l : List Entry). Cut i l (entries_of (uncut i own) b)) (own_read os)
        (subst (λ (j : ℕ). Cut j (entries_of own b) (entries_of (uncut j own) b)) own_index (cut_uncut b es c own own_typed own_eleven)))

  -- (d) "A reload answered done leaves all 27 registers and the shadow at the last attempted bytes", of command 7
  pub fed_reload : Completes stream chunk → (driver_of d).ok ≡ true → command_of nine ≡ Some Reload → (feed_over table chunk rs os stream d b room).answer.refusal ≡ 0
      → (before now : Regs) → Played (get_or b 1 0) (es ++ fed_entries (feed_over table chunk rs os stream d b room)) before now → (i : ℕ) → i < 27
      → (now (5 + i) ≡ byte_in (get_or init_array i 0) (last_in (get_or b 1 0) es (5 + i)))
      × (get_or (feed_over table chunk rs os stream d b room).tuner (2 + i) 0 ≡ byte_in (get_or init_array i 0) (last_in (get_or b 1 0) es (5 + i)))
      × (get_or (feed_over table chunk rs os stream d b room).tuner (51 + i) 1 ≡ 0)
  fed_reload w ok x h before now played i l =
      let m : Makes table rs d (command_of nine) (Own order.Order.Reload) = subst (λ (y : Option Command). Makes table rs d y (Own order.Order.Reload)) (sym x) reloads in
      let is = fed_call w ok (Own order.Order.Reload) m os in
      let same : fed_entries (feed_over table chunk rs os stream d b room) ≡ entries_of (lent (Own order.Order.Reload) os room b) b = ap (λ (z : Left). read_by z.reply z.room) is in
      let r = reload_done b es c os room b (sym (ap (λ (z : Left). z.reply.refusal) is) ∙ h) before now
      (subst (λ (fs : List Entry). Played (get_or b 1 0) (es ++ fs) before now) same played) i l in
      (r.0, ap (λ (z : Left). get_or z.bytes (2 + i) 0) is ∙ r.1, ap (λ (z : Left). get_or z.bytes (51 + i) 1) is ∙ r.2)

-- What a command over bytes and a call that feeds a chunk come to, as the code has read them. Assumes nothing.
use Prim.Native.Nat.{ℕ, zero, suc, ◌+◌, ◌-◌, ◌<◌, ◌≤◌}
use mathlib.Core.Path.{◌≡◌, refl, sym, ap, ap₂, ◌∙◌}
use mathlib.Core.Bool.{Bool, true, false, false≢true, ◌&&◌, cond}
use mathlib.Core.List.{List, [], ◌∷◌, ◌++◌, append_assoc, append-nil}
use native.Mathlib.Omega.{arith}
use borrow.Author.Tests.{eq-eqb, ne_eqb, le-leb, leb-false, lt-leb}
use lib.Dec.{leb}
use lib.ListN.{drop, get_or, length, replicate, take, length-append, length-drop, length-replicate, length-take}
use Rattle.std.proofs.lemmas.Option.{none-some, same_Some}
use lib.Seq.{sets, sets-eq, take_at, drop-length, length-take-le}
use Rattle.std.specs.Prelude.{Option, Some, None}
use Rattle.std.specs.Option.{is_none}
use Rattle.refusals.specs.declared.Answer.TheVariants.{Done, Refused}
use Rattle.refusals.specs.Table.{SETUP, COMMAND}
use Rattle.chip.proofs.Laws.{and_left, and_right}
use Rattle.drivers.specs.Drivers.{Hops, hops}
use Rattle.std.specs.Prelude.{Option, None, Some, MatchOption}
use Rattle.std.specs.Option.{is_some}
use Rattle.driver.specs.declared.Driver.{Driver}
use Rattle.r82xx.specs.declared.Tuner.{Tuner}
use Rattle.drivers.proofs.Passed.{Both_read}
use Rattle.records.specs.Drivers.{driver_of}
use Rattle.records.specs.Tuners.{tuner_of}
use Rattle.reply.specs.declared.TuneReply.{TuneReply}
use Rattle.stream.specs.declared.Command.{Command}
use Rattle.stream.specs.declared.Gathered.{Gathered}
use Rattle.stream.specs.Commands.{command_of}
use Rattle.stream.specs.InCode.{gathered_by, gathered_of, pending_count, stream_after}
use Rattle.stream.specs.Pending.{gathered, is_stream, zero_padded, pending_of, stream_bytes, used_by}
use Rattle.stream.proofs.Laws.{is_one, no_stream, stream_held, stream_length}
use Rattle.commands.specs.declared.FeedReply.{FeedReply}
use Rattle.commands.specs.Over.{feed_over, feeds, fed_of, no_command, pending_answer, run_over}
use Rattle.commands.proofs.Runs.{driver_exact, tuner_exact}

-- ---- both records' bytes, as `drivers::read_both` reads them

none_by : (d t : List ℕ) (o : Option (Driver × Tuner)) → MatchOption o (((driver_of d).ok && (tuner_of t).ok) ≡ false) (Both_read d t)
    → is_some o ≡ false → ((driver_of d).ok && (tuner_of t).ok) ≡ false
none_by d t None read h = read
none_by d t (Some r) read h = absurd (false≢true (sym h))

both_by : (d t : List ℕ) (o : Option (Driver × Tuner)) → MatchOption o (((driver_of d).ok && (tuner_of t).ok) ≡ false) (Both_read d t)
    → is_some o ≡ true → ((driver_of d).ok && (tuner_of t).ok) ≡ true
both_by d t None read h = absurd (false≢true h)
both_by d t (Some r) read h = sym (λ i. (read.0 i).ok && (read.1 i).ok)

-- ---- a command over both records' bytes

module _ (x : Option Command) (table rs os d t room : List ℕ) where
  pub unknown_run : is_none x ≡ true → (r : TuneReply) → r ≡ no_command (Refused COMMAND) → hops r room d t ≡ run_over x table rs os d t room
  unfolding run_over
  unknown_run u r e = ap (λ (q : TuneReply). hops q room d t) e ∙ rw u

  -- what is read of both, where the command is known
  module _ (o : Option (Driver × Tuner)) (read : MatchOption o (((driver_of d).ok && (tuner_of t).ok) ≡ false) (Both_read d t)) where
    none_ok : is_some o ≡ false → ((driver_of d).ok && (tuner_of t).ok) ≡ false
    none_ok = none_by d t o read

    pub no_records : is_none x ≡ false → is_some o ≡ false → (r : TuneReply) → r ≡ no_command (Refused SETUP) → hops r room d t ≡ run_over x table rs os d t room
    unfolding run_over
    no_records known h r e = ap (λ (q : TuneReply). hops q room d t) e ∙ rw (known, none_ok h)

    -- what the copies and the call ask
    pub both_ok : is_some o ≡ true → ((driver_of d).ok && (tuner_of t).ok) ≡ true
    both_ok = both_by d t o read

    pub driver_size : is_some o ≡ true → length d ≡ 29
    driver_size h = driver_exact d (and_left (driver_of d).ok (tuner_of t).ok (both_ok h))

    pub tuner_size : is_some o ≡ true → length t ≡ 78
    tuner_size h = tuner_exact t (and_right (driver_of d).ok (tuner_of t).ok (both_ok h))

-- ---- what the stream holds after a call

-- fewer than nine are pending
stream_short : (b : List ℕ) → is_stream b ≡ true → (length (pending_of b) ≤ 8) × (length (pending_of b) ≡ get_or b 0 0)
stream_short b h =
    let n = stream_length b h in
    let m = stream_held b h in
    let count : length (pending_of b) ≡ get_or b 0 0 = length-take-le (get_or b 0 0) (drop 1 b) (simp length-drop (omega arith)) in
    (omega arith, count)

gathered_most : (p chunk : List ℕ) → length p ≤ 8 → length (gathered p chunk) ≤ 9
gathered_most p chunk h = go (leb (9 - length p) (length chunk)) refl
  where
    go : (z : Bool) → leb (9 - length p) (length chunk) ≡ z → length (p ++ take (cond z (9 - length p) (length chunk)) chunk) ≤ 9
    go true e = simp (length-append, length-take) (omega arith)
    go false e = simp (length-append, length-take) (omega (arith, leb-false (9 - length p) (length chunk) e))

pub padded_cut : (bs : List ℕ) → length bs ≤ 8 → take 8 (zero_padded 9 bs) ≡ zero_padded 8 bs
padded_cut bs h =
    let size : length (zero_padded 8 bs) ≡ 8 = simp (length-append, length-replicate) (omega arith) in
    let one : 9 - length bs ≡ 8 - length bs + 1 = omega arith in
    ap (λ (n : ℕ). take 8 (bs ++ replicate n 0)) one
    ∙ ap (λ (xs : List ℕ). take 8 (bs ++ xs)) (last_zero (8 - length bs))
    ∙ ap (take 8) (sym (append_assoc bs (replicate (8 - length bs) 0) (0 ∷ [])))
    ∙ take_at (zero_padded 8 bs) (0 ∷ []) 8 size
  where
    last_zero : (n : ℕ) → replicate {A = ℕ} (n + 1) 0 ≡ replicate n 0 ++ (0 ∷ [])
    last_zero zero = refl
    last_zero (suc n) = let e : suc n + 1 ≡ suc (n + 1) = omega arith in ap (λ (m : ℕ). replicate m 0) e ∙ ap (λ (xs : List ℕ). 0 ∷ xs) (last_zero n)

-- the whole of nine bytes
pub padded_nine : (bs : List ℕ) → length bs ≡ 9 → zero_padded 9 bs ≡ bs
padded_nine bs h = let none : 9 - length bs ≡ 0 = omega arith in ap (λ (n : ℕ). bs ++ replicate n 0) none ∙ append-nil bs

module _ (p chunk : List ℕ) where
  pub image_kept : length (gathered p chunk) < 9 → stream_after (gathered_by p chunk) ≡ stream_bytes (gathered p chunk)
  unfolding stream_after
  image_kept h =
      rw (lt-leb 9 (length (gathered p chunk)) h) (ap (λ (xs : List ℕ). length (gathered p chunk) ∷ xs) (padded_cut (gathered p chunk) (omega arith)))

  pub image_clear : 9 ≤ length (gathered p chunk) → stream_after (gathered_by p chunk) ≡ stream_bytes []
  unfolding stream_after
  image_clear h = rw (le-leb 9 (length (gathered p chunk)) h)

-- a slice of nine bytes that nine are copied to holds these
pub written : (l image : List ℕ) → length l ≡ 9 → length image ≡ 9 → sets l 0 image ≡ image
written l image n m =
    let e : 0 + length image ≡ length l = omega arith in
    sets-eq image l 0 (omega arith) ∙ ap (λ (k : ℕ). image ++ drop k l) e ∙ ap (λ (xs : List ℕ). image ++ xs) (drop-length l) ∙ append-nil image

pub stored : (l image bs : List ℕ) → length l ≡ 9 → length bs ≤ 8 → image ≡ stream_bytes bs → sets l 0 image ≡ stream_bytes bs
stored l image bs n h e =
    let nine : length (stream_bytes bs) ≡ 9 = simp (length-append, length-replicate) (omega arith) in
    ap (sets l 0) e ∙ written l (stream_bytes bs) n nine

-- ---- a call, as the code has read the stream

module _ (table chunk rs os stream d t room : List ℕ) where
  abbrev p : List ℕ
  p = pending_of stream

  pub not_fed : None ≡ gathered_of stream chunk → (q : TuneReply) → q ≡ no_command (Refused SETUP) → (r : FeedReply) → r ≡ fed_of q 0 0 0
      → feeds r stream d t room ≡ feed_over table chunk rs os stream d t room
  unfolding feed_over gathered_of
  not_fed none q e r f =
      ap (λ (x : FeedReply). feeds x stream d t room) (f ∙ ap (λ (x : TuneReply). fed_of x 0 0 0) e) ∙ rw (no_such (is_stream stream) refl)
    where
      no_such : (z : Bool) → is_stream stream ≡ z → is_stream stream ≡ false
      no_such true h = absurd (none-some (gathered_by p chunk) (none ∙ rw h))
      no_such false h = h

  module _ (got : Gathered) (is-got : Some got ≡ gathered_of stream chunk) where
    read : (z : Bool) → is_stream stream ≡ z → (is_stream stream ≡ true) × (got ≡ gathered_by p chunk)
    unfolding gathered_of
    read true h = (h, same_Some _ _ (is-got ∙ rw h))
    read false h = absurd (none-some got (sym (is-got ∙ rw h)))

    valid : is_stream stream ≡ true
    valid = (read (is_stream stream) refl).0

    taken : got ≡ gathered_by p chunk
    taken = (read (is_stream stream) refl).1

    pub nine : length stream ≡ 9
    nine = stream_length stream valid

    count_is : got.count ≡ length (gathered p chunk)
    count_is = ap (λ (g : Gathered). g.count) taken

    -- fewer than nine wait
    pub waits : got.count < 9 → (image : List ℕ) → image ≡ stream_after got → (q : TuneReply) → q ≡ no_command (Done 0)
        → (r : FeedReply) → r ≡ fed_of q got.used 0 got.count
        → feeds r (sets stream 0 image) d t room ≡ feed_over table chunk rs os stream d t room
    unfolding feed_over
    waits few image e q eq r f =
        let less : length (gathered p chunk) < 9 = omega (arith, count_is) in
        let kept : sets stream 0 image ≡ stream_bytes (gathered p chunk) =
        stored stream image (gathered p chunk) nine (omega arith) (e ∙ ap stream_after taken ∙ image_kept p chunk less) in
        let told : r ≡ fed_of (no_command (Done 0)) (used_by p chunk) 0 (length (gathered p chunk)) =
        f ∙ ap (λ (x : TuneReply). fed_of x got.used 0 got.count) eq ∙ ap (λ (g : Gathered). fed_of (no_command (Done 0)) g.used 0 g.count) taken in
        ap₂ (λ (x : FeedReply) (s : List ℕ). feeds x s d t room) told kept
        ∙ rw (valid, ne_eqb (length (gathered p chunk)) 9 (λ z. omega arith))

    -- nine are a command, which runs
    pub completes : 9 ≤ got.count → (image : List ℕ) → image ≡ stream_after got → (x : Option Command) → x ≡ command_of got.bytes
        → (q : TuneReply) (left d' t' : List ℕ) → hops q left d' t' ≡ run_over x table rs os d t room
        → (r : FeedReply) → r ≡ fed_of q got.used 1 0
        → feeds r (sets stream 0 image) d' t' left ≡ feed_over table chunk rs os stream d t room
    unfolding feed_over
    completes many image e x ex q left d' t' er r f =
        let most : length (gathered p chunk) ≤ 9 = gathered_most p chunk (stream_short stream valid).0 in
        let all : length (gathered p chunk) ≡ 9 = omega (arith, count_is) in
        let clear : sets stream 0 image ≡ stream_bytes [] =
        stored stream image [] nine (omega arith) (e ∙ ap stream_after taken ∙ image_clear p chunk (omega arith)) in
        let bytes : got.bytes ≡ gathered p chunk = ap (λ (g : Gathered). g.bytes) taken ∙ padded_nine (gathered p chunk) all in
        let ran : hops q left d' t' ≡ run_over (command_of (gathered p chunk)) table rs os d t room =
        er ∙ ap (λ (y : Option Command). run_over y table rs os d t room) (ex ∙ ap command_of bytes) in
        let told : r ≡ fed_of q (used_by p chunk) 1 0 = f ∙ ap (λ (g : Gathered). fed_of q g.used 1 0) taken in
        ap₂ (λ (y : FeedReply) (s : List ℕ). feeds y s d' t' left) told clear
        ∙ ap (λ (y : Hops). feeds (fed_of y.answer (used_by p chunk) 1 0) (stream_bytes []) y.driver y.tuner y.room) ran
        ∙ rw (valid, eq-eqb (length (gathered p chunk)) 9 all)

-- ---- what waits

module _ (stream : List ℕ) where
  pub none_pending : None ≡ pending_count stream → Refused SETUP ≡ pending_answer stream
  unfolding pending_answer
  none_pending e = rw (no_stream stream e)

  pub some_pending : (h : ℕ) → Some h ≡ pending_count stream → Done h ≡ pending_answer stream
  unfolding pending_answer
  some_pending h e = let one = is_one stream h e in rw one.0 (ap Done (one.1 ∙ sym (stream_short stream one.0).1))

-- What each call over bytes comes to: refused before its steps, or made and handed back. One law serves all calls with steps.
-- Assumes nothing.
use Prim.Native.Nat.{ℕ, zero, suc, ◌<◌, ◌≤◌, ◌^◌}
use mathlib.Core.Path.{◌≡◌, refl, sym, ap, ◌∙◌}
use mathlib.Core.Bool.{Bool, true, false, cond}
use mathlib.Core.List.{List}
use native.Mathlib.Omega.{arith}
use borrow.Author.Tests.{eq-eqb, eqb-false, eqb-true, ne_eqb, lt-ltb, ltb-false}
use lib.Dec.{eqb, ltb}
use lib.ListN.{length}
use Rattle.std.specs.Prelude.{Option, Some, None}
use Rattle.board.specs.declared.Path.{Path}
use Rattle.board.specs.declared.Path.TheVariants.{Hf, Vhf, Uhf}
use Rattle.board.specs.Numbers.{path_of}
use Rattle.pll.specs.declared.Kind.{Kind}
use Rattle.pll.specs.declared.Kind.TheVariants.{R820T, R828D}
use Rattle.refusals.specs.declared.Answer.{Answer}
use Rattle.refusals.specs.declared.Answer.TheVariants.{Refused}
use Rattle.refusals.specs.Table.{SETUP, ROOM}
use Rattle.chip.specs.declared.LockTries.{LockTries}
use Rattle.chip.specs.Calls.{Called, called, lock_tries_in}
use Rattle.chip.specs.Courses.{Course, argument_of, asked_by, entries_by, left_by}
use Rattle.chip.specs.Entries.{no_tries}
use Rattle.r82xx.specs.declared.Tuner.{Tuner}
use Rattle.r82xx.specs.Orders.{bracket, path_row}
use Rattle.r82xx.specs.Record.{sound}
use Rattle.std.specs.Prelude.{None}
use Rattle.records.specs.Tuners.{TunerRead, tuner_bytes, tuner_meant, tuner_of}
use Rattle.reply.specs.declared.Reply.{Reply}
use Rattle.reply.specs.declared.TuneReply.{TuneReply}
use Rattle.reply.specs.Replies.{reply_of, tuned_of}
use Rattle.tuners.specs.Over.{After, after, handed, next_of, over_tuner, over_tuning, path_refusal, ready_by, ready_of, refusal, lock_tries_over, tuned_by, tuned_to, unless_refused}

-- the three ways of `ready`, for one slice or two; and what holds where it refuses nothing
module _ (argument : ℕ) (short : Bool) where
  pub bad_argument : (argument ≡ 0 → ⊥) → argument ≡ ready_by true argument short
  bad_argument h = rw (ne_eqb argument 0 h)

  pub too_short : argument ≡ 0 → short ≡ true → 8 ≡ ready_by true argument short
  too_short z h = rw (eq-eqb argument 0 z, h)

  pub all_there : argument ≡ 0 → short ≡ false → 0 ≡ ready_by true argument short
  all_there z h = rw (eq-eqb argument 0 z, h)

then_short : (b : Bool) (argument : ℕ) (short : Bool) → eqb argument 0 ≡ b → cond b (cond short ROOM 0) argument ≡ 0 → (short ≡ false) × (argument ≡ 0)
then_short true argument true t e = absurd (omega (arith, e))
then_short true argument false t e = (refl, eqb-true argument 0 t)
then_short false argument short t e = absurd (eqb-false argument 0 t e)

pub none_refused : (ok : Bool) (argument : ℕ) (short : Bool) → ready_by ok argument short ≡ 0 → (short ≡ false) × (argument ≡ 0)
none_refused false argument short e = absurd (omega (arith, e))
none_refused true argument short e = then_short (eqb argument 0) argument short refl e

-- where nothing is refused, the slice has the bytes that are written
pub fits : (ok : Bool) (argument next need : ℕ) → ready_of ok argument next need ≡ 0 → need ≤ next
unfolding ready_of
fits ok argument next need e = ltb-false next need (none_refused ok argument (ltb next need) e).0

pub not_argued : (ok : Bool) (argument next need : ℕ) → ready_of ok argument next need ≡ 0 → argument ≡ 0
unfolding ready_of
not_argued ok argument next need e = (none_refused ok argument (ltb next need) e).1

-- a row by a path's number: 1 where it names none, and no other refusal
pub path_argued : (row : Option Path → Course Tuner) → argument_of (row None) ≡ SETUP → ((p : Path) → argument_of (row (Some p)) ≡ 0)
    → (path : ℕ) → path_refusal path ≡ argument_of (row (path_of path))
path_argued row none some zero = sym (some Hf)
path_argued row none some (suc zero) = sym (some Vhf)
path_argued row none some (suc (suc zero)) = sym (some Uhf)
path_argued row none some (suc (suc (suc n))) = rw (lt-ltb 2 (suc (suc (suc n))) (omega arith)) (sym none)

-- the tuner's own path
pub tuner_path_argued : (kind : Kind) (t : Tuner) (path : ℕ) → path_refusal path ≡ argument_of (path_row (path_of path) kind t)
unfolding bracket
tuner_path_argued R820T t path = path_argued (λ (p : Option Path). path_row p R820T t) refl (λ p. refl) path
tuner_path_argued R828D t path = path_argued (λ (p : Option Path). path_row p R828D t) refl (λ p. refl) path

-- a call that was refused by a number, and one that was made
module _ {A : Type 0} (number : ℕ) (refuse : ℕ → A) (made : A) where
  pub refused : (n : ℕ) → n ≡ number → (n ≡ 0 → ⊥) → refuse n ≡ unless_refused number refuse made
  unfolding unless_refused
  refused n e h = ap refuse e ∙ rw (ne_eqb number 0 (λ z. h (e ∙ z)))

  pub not_refused : number ≡ 0 → made ≡ unless_refused number refuse made
  unfolding unless_refused
  not_refused z = rw (eq-eqb number 0 z)

-- a call with steps, by its row
module _ (row : Tuner → Course Tuner) (os b room next : List ℕ) where
  abbrev argument : Tuner → ℕ
  argument t = argument_of (row t)

  abbrev call : Tuner → List ℕ → Called Tuner
  call t lent = left_by (sound t) (row t) os t.chip t lent

  abbrev number : ℕ
  number = ready_of (tuner_of b).ok (argument (tuner_of b).tuner) (length next) 78

  abbrev made : After
  made = handed (call (tuner_of b).tuner room) next

  -- what its entries say of the lock
  abbrev told : Tuner → LockTries
  told t = lock_tries_in (entries_by (asked_by (sound t) (row t) (length os) (length room)) os t.chip)

  -- what is read, and the number that it is refused by, as the code has them
  module _ (read : TunerRead) (k n : ℕ) (is : read ≡ tuner_of b) (asked : k ≡ argument read.tuner) (said : n ≡ ready_of read.ok k (length next) 78) where
    number_is : n ≡ number
    number_is =
        said
        ∙ ap (λ (x : ℕ). ready_of read.ok x (length next) 78) asked
        ∙ ap (λ (x : TunerRead). ready_of x.ok (argument x.tuner) (length next) 78) is

    pub refused_by_lem : (r : Reply) → (n ≡ 0 → ⊥) → r ≡ reply_of (Refused n) 0 → after r room next ≡ over_tuner row os b room next
    unfolding over_tuner
    refused_by_lem r h e =
        ap (λ (x : Reply). after x room next) e
        ∙ refused number (λ n. refusal n room next) made n number_is h

    pub handed_back : n ≡ 0
        → (t : Tuner) (left : List ℕ) (count : ℕ) (a : Answer) → called t left count a ≡ call read.tuner room
        → (r : Reply) (wrote : List ℕ) → (r ≡ reply_of a count) × (wrote ≡ next_of tuner_bytes a count t next)
        → after r left wrote ≡ over_tuner row os b room next
    unfolding over_tuner
    handed_back z t left count a e r wrote h =
        ap (λ (x : Reply). after x left wrote) h.0
        ∙ ap (after (reply_of a count) left) h.1
        ∙ ap (λ (x : Called Tuner). handed x next) e
        ∙ ap (λ (x : TunerRead). handed (call x.tuner room) next) is
        ∙ not_refused number (λ n. refusal n room next) made (sym number_is ∙ z)

    -- a tuning, which tells of the lock beside it
    pub refused_untried : (r : Reply) (t : TuneReply) → (n ≡ 0 → ⊥) → r ≡ reply_of (Refused n) 0 → t ≡ tuned_of r no_tries
        → tuned_to t room next ≡ over_tuning row os b room next
    unfolding over_tuning lock_tries_over
    refused_untried r t h e f =
        ap (λ (x : TuneReply). tuned_to x room next) f
        ∙ (λ i. tuned_by (refused_by_lem r h e i) (refused number (λ k. no_tries) (told (tuner_of b).tuner) n number_is h i))

    pub handed_tried : n ≡ 0
        → (u : Tuner) (left : List ℕ) (count : ℕ) (a : Answer) (s : LockTries) → (called u left count a ≡ call read.tuner room) × (s ≡ told read.tuner)
        → (r : Reply) (wrote : List ℕ) → (r ≡ reply_of a count) × (wrote ≡ next_of tuner_bytes a count u next)
        → (t : TuneReply) → t ≡ tuned_of r s
        → tuned_to t left wrote ≡ over_tuning row os b room next
    unfolding over_tuning lock_tries_over
    handed_tried z u left count a s e r wrote h t f =
        ap (λ (x : TuneReply). tuned_to x left wrote) f
        ∙ (λ i.
        tuned_by (handed_back z u left count a e.0 r wrote h i)
        ((e.1 ∙ ap (λ (x : TunerRead). told x.tuner) is ∙ not_refused number (λ k. no_tries) (told (tuner_of b).tuner) (sym number_is ∙ z)) i))

  -- bytes that are no record
  module _ (none : tuner_meant None ≡ tuner_of b) where
    abbrev stand_in : TunerRead
    stand_in = tuner_meant None

    judged : 1 ≡ ready_of false (argument stand_in.tuner) (length next) 78
    unfolding ready_of
    judged = refl

    pub no_record_over : (r : Reply) → r ≡ reply_of (Refused SETUP) 0 → after r room next ≡ over_tuner row os b room next
    no_record_over r = refused_by_lem stand_in (argument stand_in.tuner) 1 none refl judged r (λ z. omega arith)

    pub no_record_tuned : (r : Reply) (t : TuneReply) → r ≡ reply_of (Refused SETUP) 0 → t ≡ tuned_of r no_tries
        → tuned_to t room next ≡ over_tuning row os b room next
    no_record_tuned r t = refused_untried stand_in (argument stand_in.tuner) 1 none refl judged r t (λ z. omega arith)

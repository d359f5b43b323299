-- One law over the rows of the tables, and one line for each row: two rows of a call that differ in their replies. Assumes nothing.
use Prim.Native.Nat.{ℕ, ◌≤◌}
use mathlib.Core.Path.{◌≡◌, refl, subst}
use mathlib.Core.Bool.{Bool, true, false, ◌&&◌, cond}
use mathlib.Core.List.{List, [], ◌++◌, append-nil}
use lib.Dec.{eqb, leb}
use lib.ListN.{length, take}
use Rattle.std.specs.Prelude.{Option, Some, None}
use Rattle.bands.specs.Tables.{plan_by}
use Rattle.board.specs.declared.Path.{Path}
use Rattle.board.specs.Numbers.{path_of}
use Rattle.refusals.specs.declared.Answer.{Answer}
use Rattle.refusals.specs.declared.Answer.TheVariants.{Refused}
use Rattle.refusals.specs.Table.{SETUP}
use Rattle.chip.specs.declared.Chip.{Chip}
use Rattle.chip.specs.Calls.{call_entries, refusal_with}
use Rattle.chip.specs.Courses.{Course, asked_by, entries_by, steps_of}
use Rattle.chip.specs.Courses.Course.{Still, Taken}
use Rattle.chip.specs.Steps.{Step, Trace, every, trace}
use Rattle.demod.specs.Calls as demod
use Rattle.demod.specs.Calls.Order.{Baseband, LowIf, ZeroIf, Reset, Direct, Start, Stop, IfXtal, RateXtal}
use Rattle.demod.specs.Programs.{ddc_steps, direct_steps, fir_steps, if_steps, init_steps, low_if_steps, mode_steps, power_steps, rate_steps, reset_steps, start_steps, stop_steps, upward, zero_if_steps}
use Rattle.device.specs.Accesses.{access_step}
use Rattle.device.specs.Gpio as gpio
use Rattle.device.specs.Gpio.{gpio_course}
use Rattle.device.specs.Gpio.Order.{Output, Bit}
use Rattle.driver.specs.Calls.{Both, board_row}
use Rattle.driver.specs.Programs.{if_for, sample_rate_steps}
use Rattle.driver.specs.Record.{xtal_by, xtal_of}
use Rattle.fir.specs.Packing.{pack_of}
use Rattle.gain.specs.Steps.{chosen_of, clamped}
use Rattle.pll.specs.declared.Kind.{Kind}
use Rattle.pll.specs.declared.Kind.TheVariants.{R820T, R828D}
use Rattle.r82xx.specs.declared.Tuner.{Tuner}
use Rattle.r82xx.specs.Calls.{plan_for}
use Rattle.r82xx.specs.Orders as tuner
use Rattle.r82xx.specs.Orders.{bracket, gain_row, path_row}
use Rattle.r82xx.specs.Orders.Order.{Initialize, Reload, Bandwidth, IfFreq, Gain, GainIndex, InputPath, Tune, Notch, GainTold, IfTold, TableTold}
use Rattle.sequences.specs.Asides.{Other, aside_row}
use Rattle.sequences.specs.Asides.Other.{Pin, Demod}
use Rattle.sequences.specs.Calls.{Order, row_of, tuner_part}
use Rattle.sequences.specs.Calls.Order.{Tuned, SampleRate, Correction, BoardPath, BoardTune}
use Rattle.writes.specs.Lists.{gain_updates, path_updates}
use Rattle.rounds.specs.Scripts.{InOrder, Same, gpio_with, order_with, other_with, took, tuner_with}
use Rattle.rounds.proofs.Alike.{Alike, alike_refl, alike_trace, mute, same_all}
use Rattle.rounds.proofs.Alike.Alike.{none}
use Rattle.rounds.proofs.Order.{order_trace}
use Rattle.rounds.proofs.Programs.{bit_alike, hop_alike, mute_bracket, output_alike, path_alike, tune_alike}

-- two rows of one call, by all replies and by others of which k are the same: the same but for replies that are as many if those are, and programs that are
-- alike
pub data Kin (k : ℕ) (all others : List ℕ) (R : Type 0) : Course R → Course R → Type 0 where
  still : (next : R) (answer : Answer) → Kin k all others R (Still next answer) (Still next answer)
  moved : (argument n m : ℕ) (qs ps : List ℕ) (whole : Answer) (ss ts : List Step) (keep : Trace → R)
      → (length all ≡ length others → length qs ≡ length ps) → Alike k all 0 ss ts
      → Kin k all others R (Taken argument n m qs whole ss keep) (Taken argument n m ps whole ts keep)

-- ---- the law

module _ (os us : List ℕ) (i k : ℕ) (all others : List ℕ) (agree : take i os ≡ take i us) (c : Chip) where
  entries_alike : (number : ℕ) (ss ts : List Step) → Alike k all 0 ss ts → took (take i (call_entries number os ss c)) ≤ k
      → Same i (call_entries number os ss c) (call_entries number us ts c)
  entries_alike number ss ts a h = go (eqb number 0) h
    where
      go : (b : Bool) → took (take i (cond b (trace os ss c).log [])) ≤ k → Same i (cond b (trace os ss c).log []) (cond b (trace us ts c).log [])
      go true l = alike_trace os us i k agree a c l
      go false l = same_all i [] [] refl

  pub rows_alike : (R : Type 0) (row other : Course R) → Kin k all others R row other → (sound whole : Bool) (n m room wide : ℕ)
      → (asked_by sound row n room).number ≡ (asked_by whole other m wide).number
      → took (take i (entries_by (asked_by sound row n room) os c)) ≤ k
      → Same i (entries_by (asked_by sound row n room) os c) (entries_by (asked_by whole other m wide) us c)
  rows_alike R row other (still next answer) sound whole n m room wide e h = entries_alike 0 [] [] none h
  rows_alike R row other (moved argument most least qs ps answer ss ts keep l a) sound whole n m room wide e h =
      let number : ℕ = refusal_with sound argument most least room n (length qs) in
      subst (λ (x : ℕ). Same i (call_entries number os ss c) (call_entries x us ts c)) e (entries_alike number ss ts a h)

-- lengths, and whether the records are in their ranges, decide whether a call is refused
pub rows_refused : (k : ℕ) (all others : List ℕ) (R : Type 0) (row other : Course R) → Kin k all others R row other
    → (sound whole : Bool) → sound ≡ whole → (n m : ℕ) → n ≡ m → (room wide : ℕ) → room ≡ wide → length all ≡ length others
    → (asked_by sound row n room).number ≡ (asked_by whole other m wide).number
rows_refused k all others R row other (still next answer) sound whole f n m e room wide w h = refl
rows_refused k all others R row other (moved argument most least qs ps answer ss ts keep l a) sound whole f n m e room wide w h =
    (λ j. refusal_with (f j) argument most least (w j) (e j) (l h j))

-- and each read takes the next replies
module _ (os : List ℕ) (k : ℕ) (all others : List ℕ) (c : Chip) where
  entries_order : (number : ℕ) (ss ts : List Step) → Alike k all 0 ss ts → took (call_entries number os ss c) ≤ k → InOrder all 0 (call_entries number os ss c)
  entries_order number ss ts a h = go (eqb number 0) h
    where
      go : (b : Bool) → took (cond b (trace os ss c).log []) ≤ k → InOrder all 0 (cond b (trace os ss c).log [])
      go true l = order_trace all os k a c l
      go false l = tt

  pub rows_order : (R : Type 0) (row other : Course R) → Kin k all others R row other → (sound : Bool) (room : ℕ)
      → took (entries_by (asked_by sound row (length os) room) os c) ≤ k → InOrder all 0 (entries_by (asked_by sound row (length os) room) os c)
  rows_order R row other (still next answer) sound room h = entries_order 0 [] [] none h
  rows_order R row other (moved argument most m qs ps answer ss ts keep l a) sound room h =
      entries_order (refusal_with sound argument most m room (length os) (length qs)) ss ts a h

-- ---- each row

-- one that takes no replies
pub kin_refl : (k : ℕ) (all others : List ℕ) (R : Type 0) (row : Course R) → every mute (steps_of row) ≡ true → Kin k all others R row row
kin_refl k all others R (Still next answer) h = still next answer
kin_refl k all others R (Taken argument n m rs whole ss keep) h = moved argument n m rs rs whole ss ss keep (λ l. refl) (alike_refl ss h)

mute_row : (p : Option Path) (kind : Kind) (t : Tuner) → every mute (steps_of (path_row p kind t)) ≡ true
unfolding every bracket
mute_row None kind t = refl
mute_row (Some path) R820T t = refl
mute_row (Some path) R828D t = mute_bracket (path_updates path)

mute_still : (b : Bool) (u v : Both) (x y : Answer) → every mute (steps_of (tuner_part (cond b (Still u x) (Still v y)))) ≡ true
unfolding every
mute_still true u v x y = refl
mute_still false u v x y = refl

mute_demod : (o : demod.Order) → every mute (steps_of (demod.demod_course o)) ≡ true
unfolding every access_step init_steps low_if_steps zero_if_steps reset_steps direct_steps start_steps stop_steps if_steps rate_steps power_steps upward fir_steps pack_of mode_steps
mute_demod Baseband = refl
mute_demod LowIf = refl
mute_demod ZeroIf = refl
mute_demod Reset = refl
mute_demod (Direct page register value) = refl
mute_demod Start = refl
mute_demod Stop = refl
mute_demod (IfXtal hz xtal) = refl
mute_demod (RateXtal rate xtal) = refl

pub mute_rate : (hz rate xtal : ℕ) (inverted : Bool) → every mute (sample_rate_steps hz rate xtal inverted) ≡ true
unfolding every access_step reset_steps if_steps rate_steps ddc_steps
mute_rate hz rate xtal inverted = refl

module _ (k : ℕ) (qs ps : List ℕ) (known : take k qs ≡ take k ps) where
  -- a program that is the whole of its row
  whole_of : (ss ts : List Step) → Alike k qs 0 (ss ++ []) (ts ++ []) → Alike k qs 0 ss ts
  whole_of ss ts a =
      subst (λ (x : List Step). Alike k qs 0 x ts) (append-nil ss) (subst (λ (x : List Step). Alike k qs 0 (ss ++ []) x) (append-nil ts) a)

  board_kin : (p : Option Path) (t : Tuner) → Kin k qs ps Tuner (board_row p qs t) (board_row p ps t)
  board_kin None t = still t (Refused SETUP)
  board_kin (Some path) t = moved _ _ _ qs ps _ _ _ _ (λ l. l) (whole_of _ _ (path_alike k qs ps known t.kind path [] [] none))

  tuner_kin : (o : tuner.Order) (t : Tuner) → Kin k qs ps Tuner (tuner.course_of (tuner_with qs o) t) (tuner.course_of (tuner_with ps o) t)
  unfolding every bracket gain_row
  tuner_kin Initialize t = kin_refl k qs ps Tuner _ refl
  tuner_kin Reload t = kin_refl k qs ps Tuner _ refl
  tuner_kin (Bandwidth hz) t = kin_refl k qs ps Tuner _ refl
  tuner_kin (IfFreq hz) t = kin_refl k qs ps Tuner _ refl
  tuner_kin (Gain db) t = kin_refl k qs ps Tuner _ (mute_bracket (gain_updates (chosen_of db)))
  tuner_kin (GainIndex j) t = kin_refl k qs ps Tuner _ (mute_bracket (gain_updates (clamped j)))
  tuner_kin (InputPath path) t = kin_refl k qs ps Tuner _ (mute_row (path_of path) t.kind t)
  tuner_kin (Tune hz own) t =
      moved _ _ _ qs ps _ _ _ _ (λ l. l) (whole_of _ _ (tune_alike k qs ps known 0 t.chip.address t.kind [] refl t.notch (plan_for t hz) hz))
  tuner_kin (Notch on) t = still _ _
  tuner_kin GainTold t = still _ _
  tuner_kin IfTold t = still _ _
  tuner_kin TableTold t = still _ _

  pub order_kin : (o : Order) (t : Tuner) → Kin k qs ps Tuner (row_of (order_with qs o) t) (row_of (order_with ps o) t)
  order_kin (Tuned o) t = tuner_kin o t
  order_kin (SampleRate rate table d) t =
      kin_refl k qs ps Tuner _ (mute_rate (if_for t.ifreq rate) rate (xtal_of d) (plan_by table d.frequency).plan.inverted)
  order_kin (Correction ppm d) t = kin_refl k qs ps Tuner _ (mute_still (leb 1 (xtal_by t.nominal ppm) && leb 1 (xtal_by d.nominal ppm)) _ _ _ _)
  order_kin (BoardPath path own) t = board_kin (path_of path) t
  order_kin (BoardTune hz table own d) t =
      moved _ _ _ qs ps _ _ _ _ (λ l. l) (hop_alike k qs ps known t.kind t.chip.address (plan_by table hz).plan (plan_for t (plan_by table hz).plan.hz))

  gpio_kin : (o : gpio.Order) → Kin k qs ps (Unit {0}) (gpio_course (gpio_with qs o)) (gpio_course (gpio_with ps o))
  gpio_kin (Output pin own) = moved _ _ _ qs ps _ _ _ _ (λ l. l) (whole_of _ _ (output_alike k qs ps known pin none))
  gpio_kin (Bit pin value own) = moved _ _ _ qs ps _ _ _ _ (λ l. l) (whole_of _ _ (bit_alike k qs ps known 0 pin value none))

  pub other_kin : (o : Other) → Kin k qs ps (Unit {0}) (aside_row (other_with qs o)) (aside_row (other_with ps o))
  other_kin (Pin o) = gpio_kin o
  other_kin (Demod o) = kin_refl k qs ps (Unit {0}) (demod.demod_course o) (mute_demod o)

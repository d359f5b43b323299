-- Both calls with steps over the code, whose parts were worked out apart. Assumes nothing.
use Prim.Native.Nat.{ℕ}
use mathlib.Core.Path.{◌≡◌, refl, ap, ◌∙◌}
use mathlib.Core.Bool.{Bool, true, false, ◌&&◌, cond}
use mathlib.Core.List.{List, [], ◌++◌}
use native.Mathlib.Omega.{arith}
use lib.Dec.{eqb, leb}
use lib.ListN.{get_or, length}
use Rattle.std.specs.Prelude.{Option, Some, None}
use Rattle.board.specs.declared.Path.{Path}
use Rattle.bands.specs.declared.Planned.{Planned}
use Rattle.refusals.specs.declared.Answer.{Answer}
use Rattle.refusals.specs.declared.Answer.TheVariants.{Done, Refused}
use Rattle.refusals.specs.Table.{SETUP, RATIO, TABLE}
use Rattle.chip.specs.declared.Flow.{Flow}
use Rattle.chip.specs.declared.Progress.TheVariants.{Going}
use Rattle.chip.specs.Calls.{Called, answer_of, call_of, called, refusal_with}
use Rattle.chip.specs.Courses.{left_by}
use Rattle.chip.specs.Entries.{no_tries}
use Rattle.chip.specs.InCode.{sealed, Logged, in_room, logged, on_room}
use Rattle.chip.specs.Steps.{Line, Trace, while_open, eight, every, line, run, updates}
use Rattle.demod.specs.Programs.{ddc_steps, if_rows, if_steps, rate_rows, rate_steps, reset_steps}
use Rattle.device.specs.Gpio.{bit_rows, bit_steps, output_rows, output_steps}
use Rattle.device.proofs.Free.{accesses_eight}
use Rattle.pll.specs.declared.Kind.{Kind}
use Rattle.pll.specs.declared.Kind.TheVariants.{R820T, R828D}
use Rattle.tuning.proofs.Programs.{every_app}
use Rattle.writes.specs.Lists.{bandwidth_updates, if_updates, path_updates}
use Rattle.registers.specs.Rates.{rate_number}
use Rattle.r82xx.specs.declared.Tuner.{Tuner}
use Rattle.r82xx.specs.Record.{sound, with_chip}
use Rattle.r82xx.proofs.Tuned.{either_one}
use Rattle.r82xx.proofs.Whole.{bracket_eight, perform_by, refuse_by}
use Rattle.driver.specs.declared.Driver.{Driver}
use Rattle.driver.specs.Record.{sound_driver, xtal_of}
use Rattle.driver.specs.Programs.{demod_setup, board_path_steps, filter_steps, if_for, level_for, sample_rate_steps, tuner_path}
use Rattle.driver.specs.Calls.{board_row, both, rate_argument, rate_result, rated_by, retuned}

-- every entry has its eight data bytes
reset_eight : every eight reset_steps ≡ true
unfolding every reset_steps
reset_eight = refl

rate_eight : (rate xtal : ℕ) → every eight (rate_steps rate xtal) ≡ true
unfolding rate_steps
rate_eight rate xtal = accesses_eight (rate_rows rate xtal)

if_eight : (hz xtal : ℕ) → every eight (if_steps hz xtal) ≡ true
unfolding if_steps
if_eight hz xtal = accesses_eight (if_rows hz xtal)

pub ddc_eight : (inverted : Bool) → every eight (ddc_steps inverted) ≡ true
unfolding every ddc_steps
ddc_eight inverted = refl

output_eight : (pin a b : ℕ) → every eight (output_steps pin a b) ≡ true
unfolding output_steps
output_eight pin a b = accesses_eight (output_rows pin a b)

bit_eight : (pin value a : ℕ) → every eight (bit_steps pin value a) ≡ true
unfolding bit_steps
bit_eight pin value a = accesses_eight (bit_rows pin value a)

none_eight : every eight [] ≡ true
unfolding every
none_eight = refl

filter_eight : (hz rate : ℕ) → every eight (filter_steps hz rate) ≡ true
filter_eight hz rate =
    every_app eight (while_open (updates (if_updates hz))) (while_open (updates (bandwidth_updates rate))) (bracket_eight (if_updates hz)) (bracket_eight (bandwidth_updates rate))

demod_setup_eight : (hz rate xtal : ℕ) → every eight (demod_setup hz rate xtal) ≡ true
demod_setup_eight hz rate xtal =
    every_app eight reset_steps (rate_steps rate xtal ++ if_steps hz xtal) reset_eight
    (every_app eight (rate_steps rate xtal) (if_steps hz xtal) (rate_eight rate xtal) (if_eight hz xtal))

pub sample_rate_eight : (hz rate xtal : ℕ) (inverted : Bool) → every eight (sample_rate_steps hz rate xtal inverted) ≡ true
sample_rate_eight hz rate xtal inverted =
    every_app eight (filter_steps hz rate) (demod_setup hz rate xtal ++ ddc_steps inverted) (filter_eight hz rate)
    (every_app eight (demod_setup hz rate xtal) (ddc_steps inverted) (demod_setup_eight hz rate xtal) (ddc_eight inverted))

tuner_path_eight : (kind : Kind) (path : Path) → every eight (tuner_path kind path) ≡ true
tuner_path_eight R820T path = none_eight
tuner_path_eight R828D path = bracket_eight (path_updates path)

pub board_path_eight : (kind : Kind) (path : Path) (rs : List ℕ) → every eight (board_path_steps kind path rs) ≡ true
board_path_eight kind path rs =
    every_app eight (output_steps 5 (get_or rs 0 0) (get_or rs 1 0)) (bit_steps 5 (level_for path) (get_or rs 2 0) ++ tuner_path kind path) (output_eight 5 (get_or rs 0 0) (get_or rs 1 0))
    (every_app eight (bit_steps 5 (level_for path) (get_or rs 2 0)) (tuner_path kind path) (bit_eight 5 (level_for path) (get_or rs 2 0)) (tuner_path_eight kind path))

-- a rate's call: what it is refused by, and what it is performed with
module _ (os room : List ℕ) (rate : ℕ) (t : Tuner) (d : Driver) (p : Planned) (s : Bool) (xtal ratio argument given : ℕ)
    (by_tuner : s ≡ sound t) (by-driver : xtal ≡ xtal_of d) (by_rate : ratio ≡ rate_number rate xtal) (by-table : argument ≡ cond (eqb p.refusal TABLE) 19 ratio)
    (by_all : given ≡ refusal_with (s && leb 1 xtal) argument 17 0 (length room) (length os) 0) where
  number : given ≡ refusal_with (sound t && sound_driver d) (rate_argument rate p d) 17 0 (length room) (length os) 0
  number =
      by_all
      ∙ (λ i. refusal_with (by_tuner i && leb 1 (by-driver i))
      ((by-table ∙ ap (λ (n : ℕ). cond (eqb p.refusal TABLE) 19 n) (by_rate ∙ ap (rate_number rate) by-driver)) i) 17 0 (length room) (length os) 0)

  pub rate_refused : (given ≡ 0 → ⊥) → called (both t d) room 0 (Refused given) ≡ rate_result rate p os t d room
  unfolding rate_result left_by
  rate_refused h =
      refuse_by (refusal_with (sound t && sound_driver d) (rate_argument rate p d) 17 0 (length room) (length os) 0) given (Done 0) os
      (sample_rate_steps (if_for t.ifreq rate) rate (xtal_of d) p.plan.inverted) t.chip
      (λ (tr : Trace). both (retuned t (if_for t.ifreq rate) tr.chip) (rated_by d rate (xtal_of d) tr.progress)) (both t d) room number h

  pub rate_performed : (hz : ℕ) (f : Flow) (mid after : List ℕ) (answer : Answer) (next : Tuner) (later : Driver)
      → given ≡ 0 → hz ≡ if_for t.ifreq rate
      → on_room f mid ≡ run in_room os (sample_rate_steps hz rate xtal p.plan.inverted) (line t.chip (logged room no_tries) 0 Going false)
      → after ≡ sealed mid f.log.count → answer ≡ answer_of (Done 0) f.log.progress
      → next ≡ retuned t hz f.chip → later ≡ rated_by d rate xtal f.log.progress
      → called (both next later) after f.log.count answer ≡ rate_result rate p os t d room
  unfolding rate_result left_by
  rate_performed hz f mid after answer next later z by-if k q a n l =
      perform_by (refusal_with (sound t && sound_driver d) (rate_argument rate p d) 17 0 (length room) (length os) 0) given (Done 0) os
      (sample_rate_steps (if_for t.ifreq rate) rate (xtal_of d) p.plan.inverted) t.chip
      (λ (tr : Trace). both (retuned t (if_for t.ifreq rate) tr.chip) (rated_by d rate (xtal_of d) tr.progress))
      (λ (w : Line Logged). both (retuned t (if_for t.ifreq rate) w.chip) (rated_by d rate (xtal_of d) w.progress))
      (both t d) (both next later) room f mid after answer number z
      (sample_rate_eight (if_for t.ifreq rate) rate (xtal_of d) p.plan.inverted)
      (k ∙ (λ i. run in_room os (sample_rate_steps (by-if i) rate (by-driver i) p.plan.inverted) (line t.chip (logged room no_tries) 0 Going false)))
      q a (λ i. both ((n ∙ ap (λ (x : ℕ). retuned t x f.chip) by-if) i) ((l ∙ ap (λ (x : ℕ). rated_by d rate x f.log.progress) by-driver) i)) refl

-- Document 02, #103: a rate that the resampler doesn't hold is refused 13 "with record and buffers unchanged", whatever is lent to it
pub not_held : (rate : ℕ) (p : Planned) (os : List ℕ) (t : Tuner) (d : Driver) (room : List ℕ) → (sound t && sound_driver d) ≡ true → rate_argument rate p d ≡ RATIO
    → rate_result rate p os t d room ≡ called (both t d) room 0 (Refused RATIO)
unfolding rate_result left_by call_of
not_held rate p os t d room s h = rw (s, h)

-- a table that is taken leaves the rate's own number
pub under : (table n : ℕ) → cond (eqb table 19) 19 n ≡ 0 → n ≡ 0
under table n h = go (eqb table 19) refl
  where
    go : (b : Bool) → eqb table 19 ≡ b → n ≡ 0
    go false e = rw e at h
    go true e =
        let never : ◌≡◌ {A = ℕ} 19 0 = rw e at h in
        absurd (omega arith)

-- what a row of the board's path leaves, by the path that was read
abbrev board_left : Option Path → List ℕ → List ℕ → Tuner → List ℕ → Called Tuner
board_left p os rs t room = left_by (sound t) (board_row p rs t) os t.chip t room

-- the board's path: a number that names none, a refusal, and what it is performed with
pub path_none : (p : Option Path) (os rs : List ℕ) (t : Tuner) (room : List ℕ) → p ≡ None → called t room 0 (Refused SETUP) ≡ board_left p os rs t room
unfolding left_by
path_none p os rs t room e = rw e (either_one (sound t) t room)

module _ (p : Option Path) (path : Path) (os rs room : List ℕ) (t : Tuner) (s : Bool) (given : ℕ) (by-path : p ≡ Some path) (by_tuner : s ≡ sound t)
    (by_all : given ≡ refusal_with s 0 10 3 (length room) (length os) (length rs)) where
  path_number_lem : given ≡ refusal_with (sound t) 0 10 3 (length room) (length os) (length rs)
  path_number_lem = by_all ∙ (λ i. refusal_with (by_tuner i) 0 10 3 (length room) (length os) (length rs))

  pub path_refused : (given ≡ 0 → ⊥) → called t room 0 (Refused given) ≡ board_left p os rs t room
  unfolding left_by
  path_refused h =
      rw by-path
      (refuse_by (refusal_with (sound t) 0 10 3 (length room) (length os) (length rs)) given (Done 0) os (board_path_steps t.kind path rs) t.chip
      (λ (tr : Trace). with_chip t tr.chip) t room path_number_lem h)

  pub path_performed : (kind : Kind) (f : Flow) (mid after : List ℕ) (answer : Answer) → given ≡ 0 → kind ≡ t.kind
      → on_room f mid ≡ run in_room os (board_path_steps kind path rs) (line t.chip (logged room no_tries) 0 Going false)
      → after ≡ sealed mid f.log.count → answer ≡ answer_of (Done 0) f.log.progress
      → called (with_chip t f.chip) after f.log.count answer ≡ board_left p os rs t room
  unfolding left_by
  path_performed kind f mid after answer z by_kind k q a =
      rw by-path
      (perform_by (refusal_with (sound t) 0 10 3 (length room) (length os) (length rs)) given (Done 0) os (board_path_steps t.kind path rs) t.chip
      (λ (tr : Trace). with_chip t tr.chip) (λ (w : Line Logged). with_chip t w.chip) t (with_chip t f.chip) room f mid after answer path_number_lem z
      (board_path_eight t.kind path rs)
      (k ∙ ap (λ (x : Kind). run in_room os (board_path_steps x path rs) (line t.chip (logged room no_tries) 0 Going false)) by_kind) q a refl refl)

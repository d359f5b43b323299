-- "`set_sample_rate`: an IF of 0 stays 0 for all later rates, until an IF is set": over any sequence of calls, whatever fails. Assumes nothing.
use Prim.Native.Nat.{ℕ, ◌+◌, ◌<◌}
use mathlib.Core.Path.{◌≡◌, refl, ap, ◌∙◌}
use mathlib.Core.Bool.{Bool, true, false, ◌&&◌, cond, true≢false}
use mathlib.Core.List.{List, []}
use native.Mathlib.Omega.{arith}
use lib.Dec.{eqb, leb}
use lib.IntN.{ℤ}
use lib.ListN.{length}
use Rattle.std.specs.Prelude.{Option, Some, None}
use Rattle.board.specs.declared.Path.{Path}
use Rattle.board.specs.Numbers.{path_of}
use Rattle.bands.specs.Tables.{plan_by}
use Rattle.refusals.specs.declared.Answer.{Answer}
use Rattle.refusals.specs.declared.Answer.TheVariants.{Done, Refused}
use Rattle.refusals.specs.Table.{SETUP, CORRECTION}
use Rattle.chip.specs.declared.Chip.{Chip}
use Rattle.chip.specs.declared.Update.{Update}
use Rattle.chip.specs.declared.Progress.{Progress}
use Rattle.chip.specs.declared.Progress.TheVariants.{Going, Refused11}
use Rattle.chip.specs.Calls.{Called, call_of, called, performed, refusal_with}
use Rattle.chip.specs.Courses.{Course, left_by, steps_of}
use Rattle.chip.specs.Courses.Course.{Still, Taken}
use Rattle.chip.specs.Steps.{Step, Trace, while_open, trace, updates}
use Rattle.driver.specs.declared.Driver.{Driver}
use Rattle.driver.specs.Calls.{board_row, both, retuned}
use Rattle.driver.specs.Programs.{board_path_steps, if_for, sample_rate_steps}
use Rattle.driver.specs.Record.{with_ppm, xtal_by, xtal_of}
use Rattle.gain.specs.Product.{gain_of}
use Rattle.gain.specs.Steps.{chosen_of, clamped, step_at}
use Rattle.pll.specs.declared.Kind.{Kind}
use Rattle.pll.specs.declared.Kind.TheVariants.{R820T, R828D}
use Rattle.r82xx.specs.declared.Tuner.{Tuner}
use Rattle.r82xx.specs.Record.{ended_by, sound, with_corrected, with_gain, with_if}
use Rattle.r82xx.specs.Orders as tuner
use Rattle.r82xx.specs.Orders.{bracket, gain_row, path_row}
use Rattle.r82xx.specs.Orders.Order.{Initialize, Reload, Bandwidth, IfFreq, Gain, GainIndex, InputPath, Tune, Notch, GainTold, IfTold, TableTold}
use Rattle.writes.specs.Lists.{bandwidth_updates, gain_updates, if_updates, path_updates}
use Rattle.sequences.specs.Calls.{Call, Order, tuner_after, call, result, row_of, sound_for, tuner_part}
use Rattle.sequences.specs.Calls.Order.{Tuned, SampleRate, Correction, BoardPath, BoardTune}
use Rattle.sequences.specs.Since.{Since, rates, sets_if}
use Rattle.sequences.specs.Since.Since.{start, later}
use Rattle.sequences.proofs.Views.{result_row}

-- a row that leaves this IF
data Keeps (x : ℕ) : Course Tuner → Type 0 where
  resting : (next : Tuner) (answer : Answer) → next.ifreq ≡ x → Keeps x (Still next answer)
  stepping : (argument n m : ℕ) (rs : List ℕ) (whole : Answer) (ss : List Step) (keep : Trace → Tuner) → ((tr : Trace) → (keep tr).ifreq ≡ x)
      → Keeps x (Taken argument n m rs whole ss keep)

module _ (x : ℕ) (t : Tuner) (z : t.ifreq ≡ x) where
  rest_kept : (s : Bool) (next : Tuner) (answer : Answer) (room : List ℕ) → next.ifreq ≡ x → (cond s (called next room 0 answer) (called t room 0 (Refused SETUP))).next.ifreq ≡ x
  rest_kept true next answer room h = h
  rest_kept false next answer room h = z

  steps_kept : (b : Bool) (number : ℕ) (whole : Answer) (os : List ℕ) (ss : List Step) (keep : Trace → Tuner) (room : List ℕ) → ((tr : Trace) → (keep tr).ifreq ≡ x)
      → (cond b (performed whole keep room (trace os ss t.chip)) (called t room 0 (Refused number))).next.ifreq ≡ x
  steps_kept true number whole os ss keep room h = h (trace os ss t.chip)
  steps_kept false number whole os ss keep room h = z

  row_kept : (s : Bool) (os room : List ℕ) (row : Course Tuner) → Keeps x row → (left_by s row os t.chip t room).next.ifreq ≡ x
  unfolding left_by call_of
  row_kept s os room row (resting next answer h) = rest_kept s next answer room h
  row_kept s os room row (stepping argument n m rs whole ss keep h) =
      steps_kept (eqb (refusal_with s argument n m (length room) (length os) (length rs)) 0) (refusal_with s argument n m (length room) (length os) (length rs)) whole os ss keep room h

  ended_kept : (u : Tuner) → u.ifreq ≡ x → (w : Progress) (c : Chip) → (ended_by t u w c).ifreq ≡ x
  ended_kept u h Going c = h
  ended_kept u h (Refused11 k) c = z

  bracket_kept : (n : ℕ) (us : List Update) (answer : Answer) (u : Tuner) → u.ifreq ≡ x → Keeps x (bracket n us answer t u)
  unfolding bracket
  bracket_kept n us answer u h = stepping 0 (n + 2) 0 [] answer (while_open (updates us)) _ (λ tr. ended_kept u h tr.progress tr.chip)

  gain_kept : (k : ℕ) → Keeps x (gain_row k t)
  unfolding gain_row
  gain_kept k = bracket_kept 5 (gain_updates k) _ (with_gain t (gain_of (step_at k))) z

  path_kept : (p : Option Path) (kind : Kind) → Keeps x (path_row p kind t)
  path_kept None kind = resting t (Refused SETUP) z
  path_kept (Some path) R820T = resting t (Done 0) z
  path_kept (Some path) R828D = bracket_kept 2 (path_updates path) (Done 0) t z

  board_kept : (p : Option Path) (rs : List ℕ) → Keeps x (board_row p rs t)
  board_kept None rs = resting t (Refused SETUP) z
  board_kept (Some path) rs = stepping 0 10 3 rs (Done 0) (board_path_steps t.kind path rs) _ (λ tr. z)

  correction_kept : (b : Bool) (v : ℕ) (ppm : ℤ) (d : Driver) → Keeps x (tuner_part (cond b (Still (both (with_corrected t v) (with_ppm d ppm)) (Done 0)) (Still (both t d) (Refused CORRECTION))))
  correction_kept true v ppm d = resting (with_corrected t v) (Done 0) z
  correction_kept false v ppm d = resting t (Refused CORRECTION) z

  every_kept : (o : Order) → sets_if o ≡ false → ((rate : ℕ) → rates o ≡ true → if_for t.ifreq rate ≡ x) → Keeps x (row_of o t)
  every_kept (Tuned Initialize) h same = stepping 0 19 0 [] (Done 0) _ _ (λ tr. z)
  every_kept (Tuned Reload) h same = stepping 0 9 0 [] (Done 0) _ _ (λ tr. z)
  every_kept (Tuned (Bandwidth hz)) h same = bracket_kept 1 (bandwidth_updates hz) (Done 0) t z
  every_kept (Tuned (IfFreq hz)) h same = absurd (true≢false h)
  every_kept (Tuned (Gain db)) h same = gain_kept (chosen_of db)
  every_kept (Tuned (GainIndex k)) h same = gain_kept (clamped k)
  every_kept (Tuned (InputPath path)) h same = path_kept (path_of path) t.kind
  every_kept (Tuned (Tune hz rs)) h same = stepping _ 53 35 rs _ _ _ (λ tr. z)
  every_kept (Tuned (Notch on)) h same = resting _ (Done 0) z
  every_kept (Tuned GainTold) h same = resting t _ z
  every_kept (Tuned IfTold) h same = resting t _ z
  every_kept (Tuned TableTold) h same = resting t (Done 0) z
  every_kept (SampleRate rate table d) h same = stepping _ 17 0 [] (Done 0) _ (λ tr. retuned t (if_for t.ifreq rate) tr.chip) (λ tr. same rate refl)
  every_kept (Correction ppm d) h same = correction_kept (leb 1 (xtal_by t.nominal ppm) && leb 1 (xtal_by d.nominal ppm)) (xtal_by t.nominal ppm) ppm d
  every_kept (BoardPath path rs) h same = board_kept (path_of path) rs
  every_kept (BoardTune hz table rs d) h same = stepping _ 64 38 rs _ _ _ (λ tr. z)

  -- a call that sets no IF, and whose rate is had with this one
  pub if_kept : (k : Call) → sets_if k.order ≡ false → ((rate : ℕ) → rates k.order ≡ true → if_for t.ifreq rate ≡ x) → (tuner_after k t).ifreq ≡ x
  if_kept k h same =
      ap (λ (c : Called Tuner). c.next.ifreq) (result_row t k.outcomes k.room k.order)
      ∙ row_kept (sound_for k.order t) k.outcomes k.room (row_of k.order t) (every_kept k.order h same)

-- the IF that a rate asks for
pub rate_zero : (t : Tuner) → t.ifreq ≡ 0 → (rate : ℕ) → if_for t.ifreq rate ≡ 0
rate_zero t z rate = rw z

-- an IF of 0 stays 0 until an IF is set
pub zero_stays : (t u : Tuner) → Since t u → t.ifreq ≡ 0 → u.ifreq ≡ 0
zero_stays t u start z = z
zero_stays t u (later v s k h) z =
    let before : v.ifreq ≡ 0 = zero_stays t v s z in
    if_kept 0 v before k h (λ rate r. rate_zero v before rate)

-- "for all later rates": each of them sends the tuner and the demodulator an IF of 0
pub zero_sent : (t u : Tuner) → Since t u → t.ifreq ≡ 0 → (rate : ℕ) (table : List ℕ) (d : Driver)
    → steps_of (row_of (SampleRate rate table d) u) ≡ sample_rate_steps 0 rate (xtal_of d) (plan_by table d.frequency).plan.inverted
zero_sent t u s z rate table d =
    ap (λ (hz : ℕ). sample_rate_steps hz rate (xtal_of d) (plan_by table d.frequency).plan.inverted) (rate_zero u (zero_stays t u s z) rate)

-- "until an IF is set": a call that sets one and has taken a step has set it, whatever failed: "IF changes before its writes are tried"
pub if_set : (t : Tuner) (hz : ℕ) (os room : List ℕ) → 0 < (result (call (Tuned (IfFreq hz)) os room) t).count → (tuner_after (call (Tuned (IfFreq hz)) os room) t).ifreq ≡ hz
unfolding tuner.result_of left_by bracket call_of
if_set t hz os room = go (eqb (refusal_with (sound t) 0 4 0 (length room) (length os) 0) 0)
  where
    ended : (w : Progress) (c : Chip) → (ended_by (with_if t hz) (with_if t hz) w c).ifreq ≡ hz
    ended Going c = refl
    ended (Refused11 k) c = refl

    go : (b : Bool)
        → 0
        < (cond b
        (performed (Done 0) (λ tr. ended_by (with_if t hz) (with_if t hz) tr.progress tr.chip) room
        (trace os (while_open (updates (if_updates hz))) t.chip))
        (called t room 0 (Refused (refusal_with (sound t) 0 4 0 (length room) (length os) 0)))).count
        → (cond b
        (performed (Done 0) (λ tr. ended_by (with_if t hz) (with_if t hz) tr.progress tr.chip) room
        (trace os (while_open (updates (if_updates hz))) t.chip))
        (called t room 0 (Refused (refusal_with (sound t) 0 4 0 (length room) (length os) 0)))).next.ifreq
        ≡ hz
    go true h = ended (trace os (while_open (updates (if_updates hz))) t.chip).progress (trace os (while_open (updates (if_updates hz))) t.chip).chip
    go false h = absurd (omega arith)

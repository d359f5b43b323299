-- The board-level tune over the code: its parts by cases, and the whole call, refused before any step or performed. Assumes nothing.
use Prim.Native.Nat.{ℕ, ◌+◌, ◌-◌, ◌^◌, ◌≤◌, ◌<◌}
use mathlib.Core.Path.{◌≡◌, refl, sym, ap, ◌∙◌}
use mathlib.Core.Bool.{Bool, true, false, ◌&&◌}
use mathlib.Core.List.{List, [], ◌++◌}
use native.Mathlib.Omega.{arith}
use borrow.Author.Tests.{eq-eqb, eqb-false, ne_eqb}
use lib.Dec.{eqb, leb}
use lib.ListN.{drop, length, length-drop, take}
use lib.Seq.{take_all}
use Rattle.std.specs.Prelude.{Option, Some, None}
use Rattle.transcript.specs.declared.Entry.{Entry}
use Rattle.bands.specs.declared.Planned.{Planned}
use Rattle.board.specs.declared.Path.{Path}
use Rattle.board.specs.declared.Plan.{Plan}
use Rattle.refusals.specs.declared.Answer.{Answer}
use Rattle.refusals.specs.declared.Answer.TheVariants.{Refused}
use Rattle.chip.specs.declared.Flow.{Flow}
use Rattle.chip.specs.declared.LockTries.{LockTries}
use Rattle.chip.specs.declared.Progress.TheVariants.{Going}
use Rattle.chip.specs.Calls.{Called, answer_of, called, performed, refusal_with, lock_tries_in}
use Rattle.chip.specs.Courses.{left_by}
use Rattle.chip.specs.Entries.{no_tries}
use Rattle.chip.specs.InCode.{laid_out, sealed, Logged, in_room, logged, on_room}
use Rattle.chip.specs.Steps.{Line, Step, Trace, eight, every, line, run, trace}
use Rattle.chip.proofs.Taken.{handed, performs, seen_in, stands, tried, untried}
use Rattle.demod.specs.Programs.{ddc_steps}
use Rattle.driver.specs.declared.Driver.{Driver}
use Rattle.driver.specs.Calls.{Both, both}
use Rattle.driver.specs.Programs.{board_path_steps}
use Rattle.driver.specs.Record.{sound_driver, xtal_of}
use Rattle.driver.proofs.Rates.{board_path_eight, ddc_eight}
use Rattle.pll.specs.declared.Kind.{Kind}
use Rattle.pll.specs.declared.Kind.TheVariants.{R820T, R828D}
use Rattle.std.specs.Prelude.{Option, Some, None}
use Rattle.pll.specs.declared.Plan as pll
use Rattle.r82xx.specs.declared.Tuner.{Tuner}
use Rattle.r82xx.specs.Calls.{hz_refusal, plan_for}
use Rattle.r82xx.specs.Record.{sound, with_chip, with_lock, with_notch}
use Rattle.r82xx.proofs.Refusals.{hz_fits}
use Rattle.r82xx.proofs.Whole.{behind_eight, refuse_by}
use Rattle.tuning.specs.Program.{inner_steps, tune_steps, tune_answer}
use Rattle.tuning.specs.Tries.{lock_by}
use Rattle.tuning.proofs.Programs.{eight_inner, every_app}
use Rattle.boards.specs.Hops.{ddc_part, heard_by, hop_kept, hop_refusal, hop_result, hop_lock_tries, hop_steps, path_part, path_replies}

-- ---- the parts, by what they go by

module _ {L : Type 0} (put : L → ℕ → Entry → L) (os : List ℕ) where
  pub no_path : (kind : Kind) (route : Option Path) (rs : List ℕ) (w : Line L) → kind ≡ R820T → w ≡ run put os (path_part kind route rs) w
  unfolding run
  no_path kind route rs w k = rw k

  pub direct : (kind : Kind) (route : Option Path) (rs : List ℕ) (w : Line L) → kind ≡ R828D → route ≡ None → w ≡ run put os (path_part kind route rs) w
  unfolding run
  direct kind route rs w k r = rw (k, r)

  pub no_ddc : (by : Option pll.Plan) (inverted : Bool) (w : Line L) → by ≡ None → w ≡ run put os (ddc_part by inverted) w
  unfolding run
  no_ddc by inverted w e = rw e

pub switched : (kind : Kind) (route : Option Path) (path : Path) (rs : List ℕ) → kind ≡ R828D → route ≡ Some path → board_path_steps R828D path rs ≡ path_part kind route rs
switched kind route path rs k r = rw (k, r)

pub planned_ddc : (by : Option pll.Plan) (p : _) (inverted : Bool) → by ≡ Some p → ddc_steps inverted ≡ ddc_part by inverted
planned_ddc by p inverted e = rw e

-- the rest of the replies is what is left of them
pub rest : (rs : List ℕ) (k : ℕ) → take (length rs - k) (drop k rs) ≡ drop k rs
rest rs k = take_all (length rs - k) (drop k rs) (omega (arith, length-drop k rs))

-- the number that refuses: the table's or the plan's, or the frequency's
pub by_plan_lem : (p : Planned) (ifreq : ℕ) → (p.refusal ≡ 0 → ⊥) → p.refusal ≡ hop_refusal p ifreq
by_plan_lem p ifreq h = rw (ne_eqb p.refusal 0 h)

pub by_hz : (p : Planned) (ifreq n : ℕ) → p.refusal ≡ 0 → n ≡ hz_refusal p.plan.hz ifreq → n ≡ hop_refusal p ifreq
by_hz p ifreq n h e = e ∙ rw (eq-eqb p.refusal 0 h)

-- a plan that is taken: the sum with the IF fits
pub hop_hz : (p : Planned) (ifreq : ℕ) → hop_refusal p ifreq ≡ 0 → p.plan.hz + ifreq < 2 ^ 64
hop_hz p ifreq h = go (eqb p.refusal 0) refl
  where
    go : (b : Bool) → eqb p.refusal 0 ≡ b → p.plan.hz + ifreq < 2 ^ 64
    go true e = hz_fits p.plan.hz ifreq (rw e at h)
    go false e = absurd (eqb-false p.refusal 0 e (rw e at h))

-- ---- every entry has its eight data bytes

none_eight : every eight [] ≡ true
unfolding every
none_eight = refl

path_eight : (kind : Kind) (route : Option Path) (rs : List ℕ) → every eight (path_part kind route rs) ≡ true
path_eight R820T route rs = none_eight
path_eight R828D None rs = none_eight
path_eight R828D (Some path) rs = board_path_eight R828D path rs

ddc_part_eight : (by : Option pll.Plan) (inverted : Bool) → every eight (ddc_part by inverted) ≡ true
ddc_part_eight None inverted = none_eight
ddc_part_eight (Some p) inverted = ddc_eight inverted

tune_eight : (address : ℕ) (kind : Kind) (notch : Bool) (by : Option pll.Plan) (hz : ℕ) (rs : List ℕ) → every eight (tune_steps address kind notch by hz rs) ≡ true
tune_eight address kind notch by hz rs = behind_eight (inner_steps address kind notch by hz rs) (eight_inner address kind notch by hz rs)

pub hop_eight : (kind : Kind) (address : ℕ) (p : Plan) (by : Option pll.Plan) (rs : List ℕ) → every eight (hop_steps kind address p by rs) ≡ true
hop_eight kind address p by rs =
    let at : List ℕ = drop (path_replies kind p.path) rs in
    every_app eight (path_part kind p.path rs) (tune_steps address kind p.notch by p.hz at ++ ddc_part by p.inverted) (path_eight kind p.path rs)
    (every_app eight (tune_steps address kind p.notch by p.hz at) (ddc_part by p.inverted) (tune_eight address kind p.notch by p.hz at) (ddc_part_eight by p.inverted))

-- ---- the steps by both plans: what is handed back, and what is told of the lock

pub hop_by : (os rs room : List ℕ) (hz : ℕ) (t : Tuner) (d later : Driver) (p : Plan) (by : Option pll.Plan) (f : Flow) (mid after : List ℕ) (answer whole : Answer) (lock : Bool)
    → on_room f mid ≡ run in_room os (hop_steps t.kind t.chip.address p by rs) (line t.chip (logged room no_tries) 0 Going false)
    → whole ≡ tune_answer by hz → after ≡ sealed mid f.log.count → answer ≡ answer_of whole f.log.progress
    → lock ≡ lock_by f.log.lock t.lock → later ≡ heard_by d hz answer → f.log.count ≤ 64
    → (called (both (with_lock (with_chip (with_notch t p.notch) f.chip) lock) later) after f.log.count answer
    ≡ performed (tune_answer by hz) (hop_kept t d p (tune_answer by hz) hz) room (trace os (hop_steps t.kind t.chip.address p by rs) t.chip))
    × (f.log.lock ≡ lock_tries_in (trace os (hop_steps t.kind t.chip.address p by rs) t.chip).log)
hop_by os rs room hz t d later p by f mid after answer whole lock k w q a l heard few =
    let ss : List Step = hop_steps t.kind t.chip.address p by rs in
    let tr : Trace = trace os ss t.chip in
    let eights : every eight ss ≡ true = hop_eight t.kind t.chip.address p by rs in
    let all : on_room f mid ≡ laid_out room tr = stands os room ss t.chip f mid eights k in
    let count : f.log.count ≡ length tr.log = ap (λ (x : Line Logged). x.count) all in
    let seen : f.log.lock ≡ lock_tries_in tr.log = ap (λ (x : Line Logged). x.log.lock) all ∙ seen_in tr.log (omega arith) in
    let chip : f.chip ≡ tr.chip = ap (λ (x : Line Logged). x.chip) all in
    let told : answer ≡ answer_of (tune_answer by hz) f.log.progress = a ∙ ap (λ (x : Answer). answer_of x f.log.progress) w in
    let progress : answer_of (tune_answer by hz) f.log.progress ≡ answer_of (tune_answer by hz) tr.progress =
    ap (λ (x : Line Logged). answer_of (tune_answer by hz) x.progress) all in
    let same : both (with_lock (with_chip (with_notch t p.notch) f.chip) lock) later ≡ hop_kept t d p (tune_answer by hz) hz tr =
    λ i. both (with_lock (with_chip (with_notch t p.notch) (chip i)) ((l ∙ ap (λ (s : LockTries). lock_by s t.lock) seen) i))
    ((heard ∙ ap (heard_by d hz) (told ∙ progress)) i) in (
      handed os room ss t.chip (hop_kept t d p (tune_answer by hz) hz) (tune_answer by hz)
          (both (with_lock (with_chip (with_notch t p.notch) f.chip) lock) later) f mid after answer eights k q told same,
      seen,
    )

-- ---- the whole call: refused before any step, or performed

module _ (os rs room : List ℕ) (hz : ℕ) (t : Tuner) (d : Driver) (p : Planned) (s : Bool) (xtal argument given : ℕ)
    (by_tuner : s ≡ sound t) (by-driver : xtal ≡ xtal_of d) (by_all : argument ≡ hop_refusal p t.ifreq)
    (asked : given ≡ refusal_with (s && leb 1 xtal) argument 64 38 (length room) (length os) (length rs)) where
  number : given ≡ refusal_with (sound t && sound_driver d) (hop_refusal p t.ifreq) 64 38 (length room) (length os) (length rs)
  number =
      asked
      ∙ (λ i. refusal_with (by_tuner i && leb 1 (by-driver i)) (by_all i) 64 38 (length room) (length os) (length rs))

  pub hop_refused : (given ≡ 0 → ⊥)
      → (called (both t d) room 0 (Refused given) ≡ hop_result p hz rs os t d room) × (no_tries ≡ hop_lock_tries p hz rs os t d room)
  unfolding hop_result hop_lock_tries left_by
  hop_refused h = (refuse_by _ given _ os _ t.chip _ (both t d) room number h, untried _ os _ t.chip (λ z. h (number ∙ z)))

  pub hop_taken : (by : Option pll.Plan) (x : Called Both) (seen : LockTries) → given ≡ 0 → by ≡ plan_for t p.plan.hz
      → (x ≡ performed (tune_answer by hz) (hop_kept t d p.plan (tune_answer by hz) hz) room (trace os (hop_steps t.kind t.chip.address p.plan by rs) t.chip))
      × (seen ≡ lock_tries_in (trace os (hop_steps t.kind t.chip.address p.plan by rs) t.chip).log)
      → (x ≡ hop_result p hz rs os t d room) × (seen ≡ hop_lock_tries p hz rs os t d room)
  unfolding hop_result hop_lock_tries left_by
  hop_taken by x seen z e h =
      let zero : refusal_with (sound t && sound_driver d) (hop_refusal p t.ifreq) 64 38 (length room) (length os) (length rs) ≡ 0 = sym number ∙ z in (
        h.0
            ∙ (λ i. performed (tune_answer (e i) hz) (hop_kept t d p.plan (tune_answer (e i) hz) hz) room (trace os (hop_steps t.kind t.chip.address p.plan (e i) rs) t.chip))
            ∙ performs _ _ os _ t.chip _ (both t d) room zero,
        h.1
            ∙ (λ i. lock_tries_in (trace os (hop_steps t.kind t.chip.address p.plan (e i) rs) t.chip).log)
            ∙ tried _ os _ t.chip zero,
      )

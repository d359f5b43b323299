-- A call that is no tuning, no initialising and no reload names none of the five registers that the oscillator stands by: whatever its outcomes, the
-- oscillator stays where it was, on every chip and by the record. Assumes nothing.
use Prim.Native.Nat.{ℕ, ◌+◌, ◌<◌}
use mathlib.Core.Path.{◌≡◌, refl, sym, ap, subst, ◌∙◌}
use mathlib.Core.Bool.{Bool, true, false, not, cond, ◌&&◌, false≢true, true≢false}
use mathlib.Core.List.{List, [], ◌∷◌, ◌++◌}
use native.Mathlib.Omega.{arith}
use borrow.Author.Tests.{ltb-false, ltb-true, not-true}
use lib.Dec.{eqb, leb, ltb}
use lib.ListN.{get_or, length}
use Rattle.std.specs.Prelude.{Option, Some, None}
use Rattle.transcript.specs.declared.Entry.{Entry}
use Rattle.attempts.specs.Attempts.{Last, Played, Regs, byte_in, doubt_in, last_in, names, tuner_at}
use Rattle.attempts.specs.Namings as any
use Rattle.attempts.specs.Namings.Last.{Never}
use Rattle.attempts.proofs.Named.{below_first, other_kind, past_last}
use Rattle.attempts.proofs.Lasts.{known, last_append, last_known, last_same}
use Rattle.attempts.proofs.Played.{last_never}
use Rattle.board.specs.declared.Path.{Path}
use Rattle.board.specs.declared.Path.TheVariants.{Hf, Vhf, Uhf}
use Rattle.bands.specs.Tables.{plan_by}
use Rattle.board.specs.Numbers.{path_of}
use Rattle.refusals.specs.declared.Answer.{Answer}
use Rattle.chip.specs.declared.Chip.{Chip}
use Rattle.chip.specs.Calls.{Called, call_of}
use Rattle.chip.specs.Chips.{attempted_by, masked_byte, pair}
use Rattle.chip.specs.Courses.{steps_of}
use Rattle.chip.specs.Courses.Course.{Still}
use Rattle.chip.specs.Entries.{repeater, written}
use Rattle.chip.specs.Steps.{Step, Trace, acts, emit, every, in_list, ok_for, taken, trace, updates, while_open}
use Rattle.chip.specs.Steps.Step.{Open, Close, Send, Mask, Plain}
use Rattle.chip.proofs.Laws.{and_left, and_right, run_address}
use Rattle.demod.specs.Programs.{ddc_steps, if_steps, rate_steps, reset_steps}
use Rattle.device.specs.Accesses.{access_step}
use Rattle.device.specs.Calls.{no_chip}
use Rattle.device.specs.Gpio.{bit_steps, output_steps}
use Rattle.driver.specs.Calls.{Both, board_row}
use Rattle.driver.specs.Programs.{board_path_steps, if_for, level_for, sample_rate_steps}
use Rattle.driver.specs.Record.{xtal_by, xtal_of}
use Rattle.history.specs.Programs.{beside, fine}
use Rattle.history.proofs.Calls.{call_performed, call_refused}
use Rattle.history.proofs.Fine.{every_append}
use Rattle.history.proofs.Runs.{run_keeps}
use Rattle.history.proofs.Tracked.{plain_none}
use Rattle.oscillator.specs.Registers.{Within, hz_in, stands_by}
use Rattle.oscillator.proofs.Oscillator.{same_hz, same_within}
use Rattle.pll.specs.declared.Kind.{Kind}
use Rattle.pll.specs.declared.Kind.TheVariants.{R820T, R828D}
use Rattle.r82xx.specs.declared.Tuner.{Tuner}
use Rattle.r82xx.specs.Orders.{bracket, gain_row, path_row}
use Rattle.r82xx.specs.Orders.Order.{Initialize, Reload, Bandwidth, IfFreq, Gain, GainIndex, InputPath, Tune, Notch, GainTold, IfTold, TableTold}
use Rattle.writes.specs.Lists.{init_array, path_updates}
use Rattle.sequences.specs.Asides.{Aside, aside_asked, aside_entries, aside_given, aside_row}
use Rattle.sequences.specs.Calls.{Call, Order, asked, entries, given, result, row_of, tuner_after, tuner_part}
use Rattle.sequences.specs.Calls.Order.{Tuned, SampleRate, Correction, BoardPath, BoardTune}
use Rattle.sequences.specs.Retunes.{retunes}
use Rattle.sequences.specs.Sequences.{Sequence}
use Rattle.sequences.specs.Sequences.Sequence.{next}
use Rattle.sequences.proofs.Asides.{aside_beside}
use Rattle.sequences.proofs.Demand.{doubtful_exactly, shadow_last, small}
use Rattle.sequences.proofs.Shut.{fine_steps, same_steps}
use Rattle.sequences.proofs.Views.{View, asked_steps, view}
use Rattle.sequences.proofs.Views.View.{moving, silent}

-- ---- a program that names none of the five

abbrev elsewhere : Step → Bool
elsewhere Open = true
elsewhere Close = true
elsewhere (Send n bytes) = false
elsewhere (Mask r v m) = not (stands_by r)
elsewhere (Plain e) = true

-- none of its entries does
module _ (r : ℕ) (five : stands_by r ≡ true) where
  unnamed : (s : Step) (c : Chip) (ok : Bool) → (fine s && elsewhere s) ≡ true → names c.address (emit s c ok) r ≡ false
  unnamed Open c ok q = other_kind c.address (repeater 1 ok) r refl
  unnamed Close c ok q = other_kind c.address (repeater 0 ok) r refl
  unnamed (Send n bytes) c ok q = absurd (false≢true (and_right (fine (Send n bytes)) false q))
  unnamed (Plain e) c ok q = plain_none c.address e ok (and_left (fine (Plain e)) true q) r
  unnamed (Mask s v m) c ok q = go (ltb r s) refl (ltb s r) refl
    where
      e : Entry
      e = written c.address 2 (pair s (masked_byte c s v m)) ok

      go : (x : Bool) → ltb r s ≡ x → (y : Bool) → ltb s r ≡ y → names c.address e r ≡ false
      go true p y q' = below_first c.address e r (ltb-true r s p)
      go false p true q' = past_last c.address e r (omega (arith, ltb-true s r q'))
      go false p false q' =
          let equal : r ≡ s = omega (arith, ltb-false r s p, ltb-false s r q') in
          let not-it : stands_by s ≡ false = not-true (stands_by s) (and_right (fine (Mask s v m)) (not (stands_by s)) q) in
          absurd (true≢false (sym five ∙ ap stands_by equal ∙ not-it))

  unnamed_trace : (os : List ℕ) (ss : List Step) (c : Chip) → every (λ (s : Step). fine s && elsewhere s) ss ≡ true
      → last_in c.address (trace os ss c).log r ≡ Never
  unfolding trace any.last_from attempted_by
  unnamed_trace os ss c g =
      (run_keeps os (λ (u : Trace). (u.chip.address ≡ c.address) × (last_in c.address u.log r ≡ Never)) (λ s. fine s && elsewhere s) keeps ss _ g (refl, refl)).1
    where
      address : (s : Step) (u : Trace) (ok : Bool) → (taken in_list os ok s u).chip.address ≡ u.chip.address
      address Open u ok = refl
      address Close u ok = refl
      address (Send n bytes) u ok = refl
      address (Mask i v m) u ok = refl
      address (Plain e) u ok = refl

      keeps : (s : Step) (u : Trace) → (fine s && elsewhere s) ≡ true → acts s u.progress u.opened ≡ true
          → (u.chip.address ≡ c.address) × (last_in c.address u.log r ≡ Never)
          → ((taken in_list os (ok_for os u.count s) s u).chip.address ≡ c.address) × (last_in c.address (taken in_list os (ok_for os u.count s) s u).log r ≡ Never)
      keeps s u q a p =
          let ok : Bool = ok_for os u.count s in
          let none : names c.address (emit s u.chip ok) r ≡ false =
          subst (λ (x : ℕ). names x (emit s u.chip ok) r ≡ false) p.0 (unnamed s u.chip ok q) in
          (address s u ok ∙ p.0, last_same (tuner_at c.address) u.log (emit s u.chip ok) r none ∙ p.1)

every_both : {A : Type 0} (f h : A → Bool) (l : List A) → every f l ≡ true → every h l ≡ true → every (λ (a : A). f a && h a) l ≡ true
unfolding every
every_both f h [] p q = refl
every_both f h (a ∷ l) p q =
    rw (and_left (f a) (every f l) p, and_left (h a) (every h l) q) (every_both f h l (and_right (f a) (every f l) p) (and_right (h a) (every h l) q))

-- ---- each row

output_apart : (a b : ℕ) → every elsewhere (output_steps 5 a b) ≡ true
unfolding every output_steps access_step
output_apart a b = refl

bit_apart : (value a : ℕ) → every elsewhere (bit_steps 5 value a) ≡ true
unfolding every bit_steps access_step
bit_apart value a = refl

apart_path : (path : Path) → every elsewhere (while_open (updates (path_updates path))) ≡ true
unfolding every
apart_path Hf = refl
apart_path Vhf = refl
apart_path Uhf = refl

none : every elsewhere [] ≡ true
unfolding every
none = refl

path_apart : (p : Option Path) (kind : Kind) (t : Tuner) → every elsewhere (steps_of (path_row p kind t)) ≡ true
unfolding bracket
path_apart None kind t = none
path_apart (Some path) R820T t = none
path_apart (Some path) R828D t = apart_path path

board_apart : (p : Option Path) (rs : List ℕ) (t : Tuner) → every elsewhere (steps_of (board_row p rs t)) ≡ true
board_apart None rs t = none
board_apart (Some path) rs t = go t.kind
  where
    gpio : every elsewhere (output_steps 5 (get_or rs 0 0) (get_or rs 1 0)) ≡ true
    gpio = output_apart (get_or rs 0 0) (get_or rs 1 0)

    go : (kind : Kind) → every elsewhere (board_path_steps kind path rs) ≡ true
    go R820T = every_append elsewhere (output_steps 5 (get_or rs 0 0) (get_or rs 1 0)) (bit_steps 5 (level_for path) (get_or rs 2 0) ++ []) gpio
        (every_append elsewhere (bit_steps 5 (level_for path) (get_or rs 2 0)) [] (bit_apart (level_for path) (get_or rs 2 0)) none)
    go R828D =
        every_append elsewhere (output_steps 5 (get_or rs 0 0) (get_or rs 1 0)) (bit_steps 5 (level_for path) (get_or rs 2 0) ++ while_open (updates (path_updates path))) gpio
        (every_append elsewhere (bit_steps 5 (level_for path) (get_or rs 2 0)) (while_open (updates (path_updates path))) (bit_apart (level_for path) (get_or rs 2 0)) (apart_path path))

rate_apart : (hz rate xtal : ℕ) (inverted : Bool) → every elsewhere (sample_rate_steps hz rate xtal inverted) ≡ true
unfolding every reset_steps rate_steps if_steps ddc_steps access_step
rate_apart hz rate xtal inverted = refl

still_apart : (b : Bool) (u v : Both) (x y : Answer) → every elsewhere (steps_of (tuner_part (cond b (Still u x) (Still v y)))) ≡ true
still_apart true u v x y = none
still_apart false u v x y = none

row_apart : (o : Order) (t : Tuner) → retunes o ≡ false → every elsewhere (steps_of (row_of o t)) ≡ true
unfolding bracket gain_row every
row_apart (Tuned Initialize) t h = absurd (true≢false h)
row_apart (Tuned Reload) t h = absurd (true≢false h)
row_apart (Tuned (Bandwidth hz)) t h = refl
row_apart (Tuned (IfFreq hz)) t h = refl
row_apart (Tuned (Gain db)) t h = refl
row_apart (Tuned (GainIndex k)) t h = refl
row_apart (Tuned (InputPath path)) t h = path_apart (path_of path) t.kind t
row_apart (Tuned (Tune hz rs)) t h = absurd (true≢false h)
row_apart (Tuned (Notch on)) t h = none
row_apart (Tuned GainTold) t h = none
row_apart (Tuned IfTold) t h = none
row_apart (Tuned TableTold) t h = none
row_apart (SampleRate rate table d) t h = rate_apart (if_for t.ifreq rate) rate (xtal_of d) (plan_by table d.frequency).plan.inverted
row_apart (Correction ppm d) t h = still_apart (leb 1 (xtal_by t.nominal ppm) && leb 1 (xtal_by d.nominal ppm)) _ _ _ _
row_apart (BoardPath path rs) t h = board_apart (path_of path) rs t
row_apart (BoardTune hz table rs d) t h = absurd (true≢false h)

-- ---- every call

module _ (t : Tuner) (es : List Entry) (s : Sequence t es) (k : Call) (g : given k.order t ≡ true) (h : retunes k.order ≡ false) where
  never : (r : ℕ) → stands_by r ≡ true → last_in t.chip.address (entries k t) r ≡ Never
  unfolding any.last_from
  never r five = go (eqb (asked k t).number 0)
    where
      all : every (λ (x : Step). fine x && elsewhere x) (asked k t).steps ≡ true
      all =
          every_both fine elsewhere (asked k t).steps (fine_steps t es s k g)
          (subst (λ (ss : List Step). every elsewhere ss ≡ true) (same_steps t es s k g) (row_apart k.order t h))

      go : (b : Bool) → last_in t.chip.address (cond b (trace k.outcomes (asked k t).steps t.chip).log []) r ≡ Never
      go true = unnamed_trace r five k.outcomes (asked k t).steps t.chip all
      go false = refl

  -- on every chip on which its entries were played
  module _ (now after : Regs) (played : Played t.chip.address (entries k t) now after) where
    pub unmoved : (r : ℕ) → stands_by r ≡ true → after r ≡ now r
    unmoved r five = last_never (tuner_at t.chip.address) (entries k t) now after played r (never r five)

    pub unmoved_hz : (reference : ℕ) → hz_in reference after ≡ hz_in reference now
    unmoved_hz reference = same_hz reference after now unmoved

    pub unmoved_within : (lo reference : ℕ) → Within lo reference now → Within lo reference after
    unmoved_within lo reference = same_within reference now after (λ r five. sym (unmoved r five)) lo

  -- and by the record: neither byte nor doubt changes
  same_address : (tuner_after k t).chip.address ≡ t.chip.address
  unfolding trace
  same_address = go (view t k.outcomes k.room k.order g (small t es s))
    where
      go : View t (result k t) (asked k t) k.outcomes k.room → (tuner_after k t).chip.address ≡ t.chip.address
      go (silent x) = ap (λ (c : Chip). c.address) x.kept
      go (moving x) =
          ap (λ (d : Called Tuner). d.next.chip.address) x.steps.same ∙ by (eqb (asked k t).number 0) refl
        where
          by : (b : Bool) → eqb (asked k t).number 0 ≡ b
              → (call_of (asked k t).number x.steps.whole k.outcomes (asked k t).steps t.chip x.steps.keep t k.room).next.chip.address ≡ t.chip.address
          by true e =
              ap (λ (d : Called Tuner). d.next.chip.address) (call_performed (asked k t).number x.steps.whole k.outcomes (asked k t).steps t.chip x.steps.keep t k.room e)
              ∙ ap (λ (c : Chip). c.address) (x.kept (trace k.outcomes (asked k t).steps t.chip))
              ∙ run_address in_list k.outcomes (asked k t).steps _
          by false e =
              ap (λ (d : Called Tuner). d.next.chip.address) (call_refused (asked k t).number x.steps.whole k.outcomes (asked k t).steps t.chip x.steps.keep t k.room e)

  same_last : (r : ℕ) → stands_by r ≡ true → last_in (tuner_after k t).chip.address (es ++ entries k t) r ≡ last_in t.chip.address es r
  same_last r five =
      let a : ℕ = t.chip.address in
      ap (λ (x : ℕ). last_in x (es ++ entries k t) r) same_address
      ∙ last_append (tuner_at a) Never es (entries k t) r
      ∙ last_known (tuner_at a) (last_in a es r) (entries k t) r
      ∙ ap (λ (l : Last). known l (last_in a es r)) (never r five)

  pub unmoved_record : (i : ℕ) → i < 27 → stands_by (5 + i) ≡ true
      → (get_or (tuner_after k t).chip.shadow i 0 ≡ get_or t.chip.shadow i 0) × (get_or (tuner_after k t).chip.doubtful i true ≡ get_or t.chip.doubtful i true)
  unmoved_record i l five =
      let more : Sequence (tuner_after k t) (es ++ entries k t) = next t es s k g in (
        shadow_last (tuner_after k t) (es ++ entries k t) more i l ∙ ap (byte_in (get_or init_array i 0)) (same_last (5 + i) five) ∙ sym (shadow_last t es s i l),
        doubtful_exactly (tuner_after k t) (es ++ entries k t) more i l ∙ ap doubt_in (same_last (5 + i) five) ∙ sym (doubtful_exactly t es s i l),
      )

-- ---- calls that take no record: they name no register at all

beside_never : (address r : ℕ) (os : List ℕ) (ss : List Step) (c : Chip) → every beside ss ≡ true → last_in address (trace os ss c).log r ≡ Never
unfolding trace any.last_from
beside_never address r os ss c g = run_keeps os (λ (u : Trace). last_in address u.log r ≡ Never) beside keeps ss _ g refl
  where
    none_named : (s : Step) (d : Chip) (ok : Bool) → beside s ≡ true → names address (emit s d ok) r ≡ false
    none_named Open d ok q = other_kind address (repeater 1 ok) r refl
    none_named Close d ok q = other_kind address (repeater 0 ok) r refl
    none_named (Send n bytes) d ok q = absurd (false≢true q)
    none_named (Mask i v m) d ok q = absurd (false≢true q)
    none_named (Plain e) d ok q = plain_none address e ok q r

    keeps : (s : Step) (u : Trace) → beside s ≡ true → acts s u.progress u.opened ≡ true → last_in address u.log r ≡ Never
        → last_in address (taken in_list os (ok_for os u.count s) s u).log r ≡ Never
    keeps s u q a p = last_same (tuner_at address) u.log (emit s u.chip (ok_for os u.count s)) r (none_named s u.chip (ok_for os u.count s) q) ∙ p

pub aside_unmoved : (a : Aside) → aside_given a.other ≡ true → (address : ℕ) (now after : Regs) → Played address (aside_entries a) now after → (r : ℕ)
    → after r ≡ now r
unfolding any.last_from
aside_unmoved a g address now after played r = last_never (tuner_at address) (aside_entries a) now after played r (go (eqb (aside_asked a).number 0))
  where
    steps : every beside (aside_asked a).steps ≡ true
    steps =
        subst (λ (ss : List Step). every beside ss ≡ true) (sym (asked_steps true (aside_row a.other) (length a.outcomes) (length a.room))) (aside_beside a.other g)

    go : (b : Bool) → last_in address (cond b (trace a.outcomes (aside_asked a).steps no_chip).log []) r ≡ Never
    go true = beside_never address r a.outcomes (aside_asked a).steps no_chip steps
    go false = refl

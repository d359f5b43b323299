-- A whole call over the code: refused before any step, or performed. Assumes nothing.
use Prim.Native.Nat.{ℕ}
use lib.Ieee.{Float, binary32, to_bits}
use mathlib.Core.Path.{◌≡◌, refl, sym, ap, ◌∙◌}
use mathlib.Core.Bool.{Bool, true, false, cond}
use mathlib.Core.List.{List, [], ◌∷◌, ◌++◌}
use borrow.Author.Tests.{eq-eqb}
use lib.ListN.{length}
use Rattle.transcript.specs.declared.Entry.{Entry}
use Rattle.refusals.specs.declared.Answer.{Answer}
use Rattle.refusals.specs.declared.Answer.TheVariants.{Done, Refused}
use Rattle.chip.specs.declared.Chip.{Chip}
use Rattle.chip.specs.declared.Flow.{Flow}
use Rattle.chip.specs.declared.Update.{Update}
use Rattle.chip.specs.declared.Progress.{Progress}
use Rattle.chip.specs.declared.Progress.TheVariants.{Going}
use Rattle.chip.specs.Calls.{Called, answer_of, call_of, called}
use Rattle.chip.specs.Entries.{no_tries}
use Rattle.chip.specs.InCode.{laid_out, sealed, Logged, in_room, logged, on_room}
use Rattle.chip.specs.Steps.{Line, Step, Trace, while_open, eight, every, goes, line, run, trace, updates}
use Rattle.chip.specs.Steps.Step.{Close, Plain}
use Rattle.chip.proofs.Chunks.{chunk_eight}
use Rattle.chip.proofs.Taken.{handed, performs, refuses, stands}
use Rattle.tuning.proofs.Programs.{all_updates, eight_update, every_app}
use Rattle.gain.specs.Product.{gain_of}
use Rattle.gain.specs.Steps.{step_at}
use Rattle.writes.specs.Lists.{gain_updates, if_updates, init_array, init_updates}
use Rattle.writes.specs.Programs.{init_steps, send_all}
use Rattle.r82xx.specs.declared.Tuner.{Tuner}
use Rattle.r82xx.specs.Record.{ended_by, sound, with_chip, with_gain}
use Rattle.chip.specs.Courses.{left_by}
use Rattle.r82xx.specs.Calls.{refusal_of}
use Rattle.r82xx.specs.Orders.{bracket, gain_row}

-- refused by a number that was worked out apart
pub refuse_by : {R : Type 0} (number given : ℕ) (whole : Answer) (os : List ℕ) (ss : List Step) (c : Chip) (keep : Trace → R) (old : R) (room : List ℕ)
    → given ≡ number → (given ≡ 0 → ⊥) → called old room 0 (Refused given) ≡ call_of number whole os ss c keep old room
refuse_by number given whole os ss c keep old room e h =
    ap (λ (k : ℕ). called old room 0 (Refused k)) e ∙ refuses number whole os ss c keep old room (λ z. h (e ∙ z))

-- performed: the record is what `see` makes of where the code stands
pub perform_by : {R : Type 0} (number given : ℕ) (whole : Answer) (os : List ℕ) (ss : List Step) (c : Chip) (keep : Trace → R) (see : Line Logged → R) (old r : R) (room : List ℕ)
    (f : Flow) (mid after : List ℕ) (answer : Answer)
    → given ≡ number → given ≡ 0 → every eight ss ≡ true
    → on_room f mid ≡ run in_room os ss (line c (logged room no_tries) 0 Going false)
    → after ≡ sealed mid f.log.count → answer ≡ answer_of whole f.log.progress
    → r ≡ see (on_room f mid) → see (laid_out room (trace os ss c)) ≡ keep (trace os ss c)
    → called r after f.log.count answer ≡ call_of number whole os ss c keep old room
perform_by number given whole os ss c keep see old r room f mid after answer e z h k p q l m =
    handed os room ss c keep whole r f mid after answer h k p q (l ∙ ap see (stands os room ss c f mid h k) ∙ m)
    ∙ performs number whole os ss c keep old room (sym e ∙ z)

-- programs whose entries have their eight data bytes
eight_plain : (e : Entry) → length e.bytes ≡ 8 → eight (Plain e) ≡ true
eight_plain e h = eq-eqb (length e.bytes) 8 h

close_eight : every eight (Close ∷ []) ≡ true
unfolding every
close_eight = refl

pub behind_eight : (ss : List Step) → every eight ss ≡ true → every eight (while_open ss) ≡ true
unfolding every
behind_eight ss h = every_app eight ss (Close ∷ []) h close_eight

pub bracket_eight : (us : List Update) → every eight (while_open (updates us)) ≡ true
bracket_eight us = behind_eight (updates us) (all_updates eight eight_plain eight_update us)

pub send_eight : (bs : List ℕ) → every eight (send_all bs) ≡ true
unfolding every
send_eight bs =
    rw (chunk_eight bs 0 7, chunk_eight bs 7 7, chunk_eight bs 14 2, chunk_eight bs 16 7, chunk_eight bs 23 4)

pub init_eight : every eight init_steps ≡ true
init_eight =
    every_app eight (send_all init_array) (while_open (updates init_updates) ++ while_open (updates (if_updates 2_300_000))) (send_eight init_array)
    (every_app eight (while_open (updates init_updates)) (while_open (updates (if_updates 2_300_000))) (bracket_eight init_updates) (bracket_eight (if_updates 2_300_000)))

-- what a bracket's row leaves, and a gain's
abbrev pub bracket_call : Tuner → Tuner → Answer → List Update → ℕ → List ℕ → Tuner → List ℕ → Called Tuner
bracket_call cut whole answer us n os t room = left_by (sound t) (bracket n us answer cut whole) os t.chip t room

abbrev pub step_call : List ℕ → ℕ → Tuner → List ℕ → Called Tuner
step_call os k t room = left_by (sound t) (gain_row k t) os t.chip t room

-- a call of one bracket, whose list was worked out apart, and whose record is known
pub bracket_by : (cut whole : Tuner) (answer : Answer) (us ys : List Update) (n : ℕ) (os : List ℕ) (t : Tuner) (room : List ℕ) (x : Called Tuner)
    → us ≡ ys → length ys ≡ n → x ≡ bracket_call cut whole answer us (length us) os t room → x ≡ bracket_call cut whole answer ys n os t room
bracket_by cut whole answer us ys n os t room x e l h = h ∙ (λ i. bracket_call cut whole answer (e i) ((ap length e ∙ l) i) os t room)

-- a gain's call, whose step's gain and bits were worked out apart
pub step_by : (k bits : ℕ) (actual : Float) (us : List Update) (os : List ℕ) (t : Tuner) (room : List ℕ) (x : Called Tuner)
    → us ≡ gain_updates k → actual ≡ gain_of (step_at k) → bits ≡ to_bits binary32 actual
    → x ≡ bracket_call t (with_gain t actual) (Done bits) us 5 os t room → x ≡ step_call os k t room
unfolding gain_row
step_by k bits actual us os t room x e g b h =
    h ∙ (λ i. bracket_call t (with_gain t (g i)) (Done ((b ∙ ap (to_bits binary32) g) i)) (e i) 5 os t room)

-- and one that is refused, whatever its step
pub step_refused : (k given : ℕ) (os : List ℕ) (t : Tuner) (room : List ℕ)
    → given ≡ refusal_of t 0 7 0 (length room) (length os) 0 → (given ≡ 0 → ⊥) → called t room 0 (Refused given) ≡ step_call os k t room
unfolding gain_row bracket left_by
step_refused k given os t room e h = refuse_by _ given _ os _ _ _ t room e h

-- the record of a call that is the same cut or whole
pub same_ended : (t : Tuner) (progress : Progress) (chip : Chip) → with_chip t chip ≡ ended_by t t progress chip
same_ended t progress chip = by (goes progress)
  where
    by : (b : Bool) → with_chip t chip ≡ with_chip (cond b t t) chip
    by true = refl
    by false = refl

-- the record of a gain's call, whose gain alone was chosen
pub gain_kept : (t : Tuner) (actual g : Float) (progress : Progress) (chip : Chip) → g ≡ cond (goes progress) actual t.gain
    → with_chip (with_gain t g) chip ≡ ended_by t (with_gain t actual) progress chip
gain_kept t actual g progress chip e = ap (λ (x : Float). with_chip (with_gain t x) chip) e ∙ by (goes progress)
  where
    by : (b : Bool) → with_chip (with_gain t (cond b actual t.gain)) chip ≡ with_chip (cond b (with_gain t actual) t) chip
    by true = refl
    by false = refl

-- Calls that touch no record: refused before any step, or performed. What a lent slice that suffices gives.
-- Assumes nothing.
use Prim.Native.Nat.{ℕ, ◌+◌, ◌*◌, ◌≤◌, ◌<◌}
use mathlib.Core.Path.{◌≡◌, refl, sym, ap, ◌∙◌}
use mathlib.Core.Bool.{Bool, true, false, cond}
use mathlib.Core.List.{List, [], ◌∷◌, map}
use native.Mathlib.Omega.{arith}
use borrow.Author.Tests.{ltb-false, ne_eqb}
use lib.Dec.{ltb}
use lib.ListN.{length}
use Rattle.refusals.specs.declared.Answer.{Answer}
use Rattle.refusals.specs.declared.Answer.TheVariants.{Done, Refused}
use Rattle.chip.specs.declared.Flow.{Flow}
use Rattle.chip.specs.declared.Progress.TheVariants.{Going}
use Rattle.chip.specs.Calls.{Called, answer_of, call_of, called, too_short, refusal_with}
use Rattle.chip.specs.Courses.{left_by}
use Rattle.chip.specs.Entries.{no_tries}
use Rattle.chip.specs.InCode.{sealed, in_room, logged, on_room}
use Rattle.chip.specs.Steps.{Step, eight, every, line, run}
use Rattle.chip.proofs.Taken.{handed}
use Rattle.device.specs.declared.Access.{Access}
use Rattle.device.specs.Accesses.{access_step, is_two}
use Rattle.device.specs.Calls.{free, free_call, free_result, no_chip}

-- an access has its eight data bytes
pub access_eight : (a : Access) → eight (access_step a) ≡ true
unfolding access_step
access_eight a = go (is_two a.kind) refl
  where
    go : (b : Bool) → is_two a.kind ≡ b → eight (access_step a) ≡ true
    go true e = rw e
    go false e = rw e

pub accesses_eight : (l : List Access) → every eight (map access_step l) ≡ true
unfolding every
accesses_eight [] = refl
accesses_eight (a ∷ l) = rw (access_eight a) (accesses_eight l)

-- refused before any step: all is as it was
pub refuses : (number : ℕ) (os : List ℕ) (ss : List Step) (room : List ℕ) (given : ℕ) → given ≡ number → (given ≡ 0 → ⊥)
    → called tt room 0 (Refused given) ≡ free_call number os ss room
unfolding call_of
refuses number os ss room given e h = rw (← e, ne_eqb given 0 h)

-- performed: where the code stands after its program, and the trailer
pub performs : (number : ℕ) (os : List ℕ) (ss : List Step) (room : List ℕ) (f : Flow) (mid after : List ℕ) (answer : Answer)
    → number ≡ 0 → every eight ss ≡ true
    → on_room f mid ≡ run in_room os ss (line no_chip (logged room no_tries) 0 Going false)
    → answer ≡ answer_of (Done 0) f.log.progress → after ≡ sealed mid f.log.count
    → called tt after f.log.count answer ≡ free_call number os ss room
unfolding call_of
performs number os ss room f mid after answer z h e q p =
    rw z (handed os room ss no_chip (λ t. tt) (Done 0) tt f mid after answer h e p q refl)

-- lent slices that suffice
pick_zero : (b : Bool) (n m : ℕ) → 0 < n → cond b n m ≡ 0 → (b ≡ false) × (m ≡ 0)
pick_zero true n m h e = absurd (omega arith)
pick_zero false n m h e = (refl, e)

lent_room : (n m room outcomes replies : ℕ) → too_short n m room outcomes replies ≡ 0 → 16 * n + 8 ≤ room
unfolding too_short
lent_room n m room outcomes replies h =
    ltb-false room (16 * n + 8) (pick_zero (ltb room (16 * n + 8)) 8 (cond (ltb outcomes n) 9 (cond (ltb replies m) 10 0)) (omega arith) h).0

lent_outcomes : (n m room outcomes replies : ℕ) → too_short n m room outcomes replies ≡ 0 → n ≤ outcomes
unfolding too_short
lent_outcomes n m room outcomes replies h =
    let rest : ◌≡◌ {A = ℕ} (cond (ltb outcomes n) 9 (cond (ltb replies m) 10 0)) 0 =
    (pick_zero (ltb room (16 * n + 8)) 8 (cond (ltb outcomes n) 9 (cond (ltb replies m) 10 0)) (omega arith) h).1 in
    ltb-false outcomes n (pick_zero (ltb outcomes n) 9 (cond (ltb replies m) 10 0) (omega arith) rest).0

pub suffices : (n m room outcomes replies given : ℕ) → given ≡ too_short n m room outcomes replies → given ≡ 0 → (n ≤ outcomes) × (16 * n + 8 ≤ room)
suffices n m room outcomes replies given e z =
    (lent_outcomes n m room outcomes replies (sym e ∙ z), lent_room n m room outcomes replies (sym e ∙ z))

-- "Order: arguments (1 to 7, and 2 for hz), then 8, 9, 10, then steps": a row whose argument is refused, and one whose is not, whose steps are accesses
-- that may have been worked out apart, and that `perform` counts
pub argument_bad : (argument n m : ℕ) (rs os : List ℕ) (ss : List Step) (room : List ℕ) (number : ℕ) → argument ≡ number → (number ≡ 0 → ⊥)
    → called tt room 0 (Refused number) ≡ free_result (free argument n m rs ss) os room
unfolding free_result left_by
argument_bad argument n m rs os ss room number h z =
    refuses (refusal_with true argument n m (length room) (length os) (length rs)) os ss room number (rw (h, ne_eqb number 0 z)) z

pub accesses_good : (argument m : ℕ) (rs os : List ℕ) (rows wanted : List Access) (room : List ℕ) (v : Called (Unit {0})) → argument ≡ 0 → rows ≡ wanted
    → v ≡ free_call (too_short (length rows) m (length room) (length os) (length rs)) os (map access_step rows) room
    → v ≡ free_result (free argument (length wanted) m rs (map access_step wanted)) os room
unfolding free_result left_by
accesses_good argument m rs os rows wanted room v h same e =
    e ∙ ap (λ (l : List Access). free_call (too_short (length l) m (length room) (length os) (length rs)) os (map access_step l) room) same ∙ rw h

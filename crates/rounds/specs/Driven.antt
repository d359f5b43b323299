-- A receiver driven in rounds. include/pasetone.h: "call with what is known so far (done and 0 for the rest), take the first step that was not taken yet, put its
-- outcome and what it read into the script, call again with the same record."
-- Assumes nothing.
use Rattle.std.specs.Prelude.{ℕ, ◌≤◌, ◌<◌, ◌≡◌, ◌&&◌, ◌||◌, cond, true, false, List, [], ◌∷◌, ◌++◌, eqb, get_or, length, take}
use Rattle.std.proofs.lemmas.List.Edits.{sets}
use Rattle.transcript.specs.declared.Entry.{Entry}
use Rattle.transcript.specs.Entries.{zeros8}
use Rattle.transcript.specs.Table.{is_read}
use Rattle.attempts.specs.Attempts.{Regs, names}
use Rattle.chip.specs.Calls.{Called}
use Rattle.chip.specs.Entries.{flag_of}
use Rattle.chip.specs.Steps.{every}
use Rattle.sequences.specs.Calls.{is_byte}
use Rattle.rounds.specs.Scripts.{Ask, Script, made, refusal, step_at, took}

-- a script that begins with these outcomes and replies: "what is known so far", and anything for the rest. "A script must be long enough": with it the call is
-- not refused before any step
pub record Knows (a : Ask) (os rs : List ℕ) (s : Script) : Type 0 where
  pub outcomes : take (length os) s.outcomes ≡ os
  pub replies : take (length rs) s.replies ≡ rs
  pub taken : refusal a s ≡ 0

-- a step as it ended on the receiver, with the bytes that it gave: its entry. "0 done, any other failed; a wait's is ignored"
abbrev pub ended : Entry → ℕ → List ℕ → Entry
ended e o bs =
    record {
      kind = e.kind;
      outcome = flag_of (eqb o 0 || eqb e.kind 9);
      target = e.target;
      n = e.n;
      address = e.address;
      bytes = cond (is_read e.kind) (sets zeros8 0 bs) e.bytes;
    }

-- rounds of a call: the outcomes and the replies known after them, and what was done on the receiver, in order. The receiver is any: nothing is said of the
-- outcome o and of the bytes bs but that a read that is done gives n of them, and any other step none. What is lent to the call in a round, its script among it, is an S
-- with what is known; what the call tells is a list of entries
pub data RoundsBy {S : Type 0} (Known : List ℕ → List ℕ → S → Type 0) (tells : S → List Entry) : List ℕ → List ℕ → List Entry → Type 0 where
  begun : RoundsBy Known tells [] [] []
  round : (os rs : List ℕ) (es : List Entry) → RoundsBy Known tells os rs es → (s : S) → Known os rs s
      → (e : Entry) → step_at (length os) (tells s) ≡ e ∷ []
      → (o : ℕ) (bs : List ℕ) → length bs ≡ cond (is_read e.kind && eqb o 0) e.n 0 → every is_byte bs ≡ true
      → RoundsBy Known tells (os ++ (o ∷ [])) (rs ++ bs) (es ++ (ended e o bs ∷ []))

-- of a call on a record, or of one that takes none
abbrev pub Rounds : Ask → List ℕ → List ℕ → List Entry → Type 0
Rounds a = RoundsBy (Knows a) (made a)

-- what a script gives after them: the entries so far are what was done, and their reads took the replies so far
pub record Continued (a : Ask) (os rs : List ℕ) (es : List Entry) (s : Script) : Type 0 where
  pub entries : take (length os) (made a s) ≡ es
  pub replies : took es ≡ length rs

-- what two calls leave beside their rooms is the same: the next record, the answer, and how many entries
pub record Ends {R : Type 0} (x y : Called R) : Type 0 where
  pub next : x.next ≡ y.next
  pub answer : x.answer ≡ y.answer
  pub count : x.count ≡ y.count

-- ---- a host that dies while it drives a receiver

-- failed for all the rest, however long it is
abbrev pub RestFailed : List ℕ → List ℕ → Type 0
RestFailed os outcomes = (j : ℕ) → length os ≤ j → j < length outcomes → eqb (get_or outcomes j 0) 0 ≡ false

-- what it had kept: a script with what was known, and failed for all the rest
pub record Kept (a : Ask) (os rs : List ℕ) (s : Script) : Type 0 where
  pub known : Knows a os rs s
  pub vain : RestFailed os s.outcomes

-- the step that it was at was tried or not, and landed in any part: what the step does not name is as it was
abbrev pub Touched : ℕ → List Entry → Regs → Regs → Type 0
Touched address [] mid now = (r : ℕ) → now r ≡ mid r
Touched address (e ∷ es) mid now = (r : ℕ) → names address e r ≡ false → now r ≡ mid r

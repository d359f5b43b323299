-- Feeding a stream, whatever a command does: `exec` takes the command's number, its nine bytes and the state, and gives the next state and what it tells.
-- Document 02, #105: "Feeding the stream in any cuts gives the same transcripts, answers and end record as feeding it whole, given the same script and room
-- per command." Script and room of a command are `exec`'s, by the command's number, so they are the same however the stream is cut.
-- Assumes nothing.
use Rattle.std.specs.Prelude.{ℕ, zero, suc, ◌+◌, cond, List, [], ◌∷◌, ◌++◌, eqb, drop, length}
use Rattle.stream.specs.Pending.{gathered, used_by}

pub record Ran (S O : Type 0) : Type 0 where
  pub state : S
  pub told : O

-- the bytes that wait, the state, how many commands ran, and what each of them told, oldest first
pub record Fed (S O : Type 0) : Type 0 where
  pub pending : List ℕ
  pub state : S
  pub number : ℕ
  pub told : List O

abbrev pub fed : {S O : Type 0} → List ℕ → S → ℕ → List O → Fed S O
fed pending state number told = record { pending = pending; state = state; number = number; told = told }

module _ {S O : Type 0} (exec : ℕ → List ℕ → S → Ran S O) where
  -- "A refused or cut command is answered and the next one runs": whatever it came to, its nine bytes are used and its answer is told
  abbrev pub completed : List ℕ → Fed S O → Fed S O
  completed nine w = fed [] (exec w.number nine w.state).state (w.number + 1) (w.told ++ ((exec w.number nine w.state).told ∷ []))

  abbrev pub waiting : List ℕ → Fed S O → Fed S O
  waiting pending w = fed pending w.state w.number w.told

  -- with the bytes that there are now of the command that is waited for
  abbrev pub gotten : List ℕ → Fed S O → Fed S O
  gotten bytes w = cond (eqb (length bytes) 9) (completed bytes w) (waiting bytes w)

  -- byte by byte
  unfoldable pub feed : List ℕ → Fed S O → Fed S O
  feed [] w = w
  feed (b ∷ bs) w = feed bs (gotten (w.pending ++ (b ∷ [])) w)

  -- "chopped anywhere"
  unfoldable pub feed_cut : List (List ℕ) → Fed S O → Fed S O
  feed_cut [] w = w
  feed_cut (c ∷ cs) w = feed_cut cs (feed c w)

  -- one call of a host: it uses a chunk up to one completed command
  unfoldable pub call_once : List ℕ → Fed S O → Fed S O
  call_once chunk w = gotten (gathered w.pending chunk) w

  -- a host's loop: the rest of the chunk is handed to the next call, as long as there is one; `turns` bounds it
  unfoldable pub calls : ℕ → List ℕ → Fed S O → Fed S O
  calls zero chunk w = w
  calls (suc turns) chunk w = cond (eqb (length chunk) 0) w (calls turns (drop (used_by w.pending chunk) chunk) (call_once chunk w))

-- A night's file, as a host keeps it: it begins empty, and each call that made entries appends the section that stands in its room. Document 01, "Transcript
-- and script": "Each call with steps writes its section at the start of the lent room".
-- Assumes nothing.
use Rattle.std.specs.Prelude.{ℕ, ◌+◌, ◌*◌, ◌≤◌, ◌≡◌, true, false, cond, List, [], ◌++◌, eqb, take}
use Rattle.transcript.specs.declared.Entry.{Entry}
use Rattle.refusals.specs.declared.Answer.TheVariants.{Done}
use Rattle.reply.specs.declared.Reply.{Reply}
use Rattle.reply.specs.Replies.{call_reply}
use Rattle.tuners.specs.Still.{fresh_into}
use Rattle.sequences.specs.Asides.{Aside, aside_given, aside_result}
use Rattle.stations.specs.Between.{moves_aside, moves_if}
use Rattle.carried.specs.Exported.{Lent, aside_entries_of, entries_of, leaves, order_of, typed}

-- what a call appends: nothing where its reply counts no entry
abbrev pub appended : Reply → List ℕ → List ℕ
appended r room = cond (eqb r.count 0) [] (take (16 * r.count + 8) room)

abbrev pub aside_appended : Aside → List ℕ
aside_appended a = appended (call_reply (aside_result a)) (aside_result a).room

-- the bytes that the host holds, the entries that it read from its rooms, and its file: `Carried` with the file beside it
pub data Night : List ℕ → List Entry → List ℕ → Type 0 where
  fresh : (kind address nominal : ℕ) (out : List ℕ) → address ≤ 255 → (fresh_into kind address nominal out).answer ≡ Done 0
      → Night (take 78 (fresh_into kind address nominal out).out) [] []
  next : (b : List ℕ) (es : List Entry) (file : List ℕ) → Night b es file → (k : Lent) → typed k.exported ≡ true
      → Night (leaves k b).bytes (es ++ entries_of k b) (file ++ appended (leaves k b).reply (leaves k b).room)
  between : (b : List ℕ) (es : List Entry) (file : List ℕ) → Night b es file → (a : Aside) → aside_given a.other ≡ true
      → Night b (es ++ aside_entries_of a) (file ++ aside_appended a)

-- calls after the bytes b, with any outcomes, of which none moves the IF: the bytes after them, and the entries that the host read
pub data Meanwhile (b : List ℕ) : List ℕ → List Entry → Type 0 where
  start : Meanwhile b b []
  later : (now : List ℕ) (fs : List Entry) → Meanwhile b now fs → (k : Lent) → typed k.exported ≡ true → moves_if (order_of k.exported) ≡ false
      → Meanwhile b (leaves k now).bytes (fs ++ entries_of k now)
  beside : (now : List ℕ) (fs : List Entry) → Meanwhile b now fs → (a : Aside) → aside_given a.other ≡ true → moves_aside a.other ≡ false
      → Meanwhile b now (fs ++ aside_entries_of a)

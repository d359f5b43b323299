-- A host that dies while it drives a command of a line: `pasetone_feed` with the same bytes and with what it had kept leaves tuner's bytes that tell the truth, as the command's
-- own exported call does. Assumes nothing.
use Prim.Native.Nat.{ℕ, ◌+◌, ◌<◌}
use mathlib.Core.Path.{◌≡◌, sym, ap, subst, ◌∙◌}
use mathlib.Core.Bool.{true}
use mathlib.Core.List.{List, [], ◌++◌}
use lib.ListN.{get_or, length}
use Rattle.transcript.specs.declared.Entry.{Entry}
use Rattle.attempts.specs.Attempts.{Played, Regs}
use Rattle.chip.specs.Steps.{every}
use Rattle.records.specs.Drivers.{driver_of}
use Rattle.rounds.specs.Driven.{RestFailed, Touched}
use Rattle.rounds.specs.Driven.RoundsBy.{begun, round}
use Rattle.rounds.specs.Scripts.{Script, step_at}
use Rattle.sequences.specs.Calls.{is_byte}
use Rattle.std.specs.Prelude.{Option}
use Rattle.stream.specs.declared.Command.{Command}
use Rattle.stream.specs.Commands.{command_of}
use Rattle.stream.specs.Pending.{gathered, pending_of}
use Rattle.wire.specs.Bytes.{Bytes}
use Rattle.carried.specs.Carried.{Carried}
use Rattle.carried.specs.Crashed.{FedKnows, FedRounds, Kept, Knows, Memory, Rounds, called_with, exported_with, fed_with, heard}
use Rattle.carried.specs.Exported.{Exported, Left, leaves, left, read_by, stands}
use Rattle.carried.specs.Fed.{Completes, Makes, fed_entries, plain_fed}
use Rattle.carried.specs.Fed.Makes.{tunes, rates, gains, steps, narrows, corrects, reloads}
use Rattle.carried.proofs.Crashed.{ended_alike, recovered, recovered_sure}
use Rattle.carried.proofs.Fed.{fed_call, made_typed}
use Rattle.carried.proofs.Holding.{carried_recorded}

-- with other replies a command makes the same call with those
makes_with : (table rs d : List ℕ) (x : Option Command) (e : Exported) → Makes table rs d x e → (qs : List ℕ) → Makes table qs d x (exported_with qs d e)
makes_with table rs d x e (tunes hz) qs = tunes hz
makes_with table rs d x e (rates rate) qs = rates rate
makes_with table rs d x e (gains db) qs = gains db
makes_with table rs d x e (steps k) qs = steps k
makes_with table rs d x e (narrows hz) qs = narrows hz
makes_with table rs d x e (corrects ppm) qs = corrects ppm
makes_with table rs d x e reloads qs = reloads

module _ (b : List ℕ) (es : List Entry) (c : Carried b es) (table d : List ℕ) (driver-bytes : Bytes d) (ok : (driver_of d).ok ≡ true) (chunk stream : List ℕ)
    (completes : Completes stream chunk) (qs : List ℕ) (e : Exported) (makes : Makes table qs d (command_of (gathered (pending_of stream) chunk)) e) where
  -- the memory of the call that it makes: it writes over the bytes that it is given
  abbrev memory : Script → Memory
  memory s = record { outcomes = s.outcomes; replies = s.replies; room = s.room; next = b; slot = d }

  same_left : (s : Script) → every is_byte s.replies ≡ true
      → left (plain_fed (fed_with table chunk stream d b s).answer) (fed_with table chunk stream d b s).room (fed_with table chunk stream d b s).tuner ≡ leaves (called_with e (memory s)) b
  same_left s small =
      fed_call b es c table s.replies s.outcomes d s.room small driver-bytes chunk stream completes ok (exported_with s.replies d e)
      (makes_with table qs d (command_of (gathered (pending_of stream) chunk)) e makes s.replies) s.outcomes

  same_heard : (s : Script) → every is_byte s.replies ≡ true → fed_entries (fed_with table chunk stream d b s) ≡ heard e b (memory s)
  same_heard s small = ap (λ (z : Left). read_by z.reply z.room) (same_left s small)

  known_so : (os rs : List ℕ) (s : Script) → FedKnows table chunk stream d b os rs s → Knows e b os rs (memory s)
  known_so os rs s k =
      record {
        outcomes = k.outcomes;
        replies = k.replies;
        numbers =
            (made_typed b es c table s.replies s.outcomes d s.room k.numbers driver-bytes ok (command_of (gathered (pending_of stream) chunk)) (exported_with s.replies d e)
            (makes_with table qs d (command_of (gathered (pending_of stream) chunk)) e makes s.replies)).0;
        taken = sym (ap (λ (z : Left). stands z.reply) (same_left s k.numbers)) ∙ k.taken;
      }

  rounds_so : (os rs : List ℕ) (ds : List Entry) → FedRounds table chunk stream d b os rs ds → Rounds e b os rs ds
  rounds_so os rs ds begun = begun
  rounds_so xs ys zs (round os rs fs p s k x here o bs n small) =
      round os rs fs (rounds_so os rs fs p) (memory s) (known_so os rs s k) x (sym (ap (step_at (length os)) (same_heard s k.numbers)) ∙ here) o bs n small

  -- when every step has been taken, the command's reply and the tuner's bytes do not hang on the unknown rest of the script
  pub fed_ended : (os rs : List ℕ) (ds : List Entry) → FedRounds table chunk stream d b os rs ds → (s u : Script) → FedKnows table chunk stream d b os rs s
      → FedKnows table chunk stream d b os rs u → step_at (length os) (fed_entries (fed_with table chunk stream d b s)) ≡ []
      → (plain_fed (fed_with table chunk stream d b s).answer ≡ plain_fed (fed_with table chunk stream d b u).answer)
      × ((fed_with table chunk stream d b s).tuner ≡ (fed_with table chunk stream d b u).tuner)
  fed_ended os rs ds driven s u k l h =
      let x = same_left s k.numbers in
      let y = same_left u l.numbers in
      let same =
      ended_alike b (carried_recorded b es c) e os rs ds (rounds_so os rs ds driven) (memory s) (memory u) (known_so os rs s k) (known_so os rs u l)
      (sym (ap (step_at (length os)) (same_heard s k.numbers)) ∙ h) in (
        ap (λ (z : Left). z.reply) x ∙ same.0 ∙ sym (ap (λ (z : Left). z.reply) y),
        ap (λ (z : Left). z.bytes) x ∙ same.1 ∙ sym (ap (λ (z : Left). z.bytes) y),
      )

  module _ (os rs : List ℕ) (ds : List Entry) (driven : FedRounds table chunk stream d b os rs ds) (s : Script) (known : FedKnows table chunk stream d b os rs s)
      (vain : RestFailed os s.outcomes) (before start mid now : Regs) (played : Played (get_or b 1 0) es before start) (done : Played (get_or b 1 0) ds start mid)
      (touched : Touched (get_or b 1 0) (step_at (length os) (fed_entries (fed_with table chunk stream d b s))) mid now) where
    kept : Kept e b os rs (memory s)
    kept = record { known = known_so os rs s known; vain = vain }

    touched_so : Touched (get_or b 1 0) (step_at (length os) (heard e b (memory s))) mid now
    touched_so = subst (λ (l : List Entry). Touched (get_or b 1 0) (step_at (length os) l) mid now) (same_heard s known.numbers) touched

    -- the tuner's bytes that the feeding leaves end a sequence of demand 3 whose entries were played on the chip as it is now
    pub fed_recovered : Carried (fed_with table chunk stream d b s).tuner (es ++ fed_entries (fed_with table chunk stream d b s))
        × Played (get_or b 1 0) (es ++ fed_entries (fed_with table chunk stream d b s)) before now
    fed_recovered =
        subst (λ (z : Left). Carried z.bytes (es ++ read_by z.reply z.room) × Played (get_or b 1 0) (es ++ read_by z.reply z.room) before now)
        (sym (same_left s known.numbers))
        (recovered b es c e os rs ds (rounds_so os rs ds driven) (memory s) kept before start mid now played done touched_so)

    pub fed_recovered_sure : (i : ℕ) → i < 27 → get_or (fed_with table chunk stream d b s).tuner (51 + i) 1 ≡ 0
        → now (5 + i) ≡ get_or (fed_with table chunk stream d b s).tuner (2 + i) 0
    fed_recovered_sure =
        subst (λ (z : Left). (i : ℕ) → i < 27 → get_or z.bytes (51 + i) 1 ≡ 0 → now (5 + i) ≡ get_or z.bytes (2 + i) 0) (sym (same_left s known.numbers))
        (recovered_sure b es c e os rs ds (rounds_so os rs ds driven) (memory s) kept before start mid now played done touched_so)

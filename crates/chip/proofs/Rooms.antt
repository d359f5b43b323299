-- What a step lays out in the room. Assumes nothing.
use Rattle.std.proofs.Common.{◌≡◌, ℕ, ◌+◌, ◌*◌, Bool, List, ap, ◌∙◌}
use lib.Seq.{sets}
use Rattle.transcript.specs.declared.Entry.{Entry}
use Rattle.transcript.specs.Entries.{entry_bytes}
use Rattle.chip.specs.declared.Chip.{Chip}
use Rattle.chip.specs.declared.LockTries.{LockTries}
use Rattle.chip.specs.declared.Progress.{Progress}
use Rattle.chip.specs.InCode.{with_try, in_room, logged}
use Rattle.chip.specs.Steps.{line}

-- an entry that was put in the room, and looked at
pub laid : (c : Chip) (room after : List ℕ) (seen next : LockTries) (k : ℕ) (d e : Entry) (progress : Progress) (opened : Bool)
    → d ≡ e → after ≡ sets room (16 * k) (entry_bytes d) → next ≡ with_try seen d
    → line c (logged after next) (k + 1) progress opened ≡ line c (in_room (logged room seen) k e) (k + 1) progress opened
unfolding in_room
laid c room after seen next k d e progress opened same put looked =
    (λ i. line c (logged (put i) (looked i)) (k + 1) progress opened)
    ∙ ap (λ (x : Entry). line c (logged (sets room (16 * k) (entry_bytes x)) (with_try seen x)) (k + 1) progress opened) same

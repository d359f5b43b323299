-- Accesses worked off one by one: those before an index, and one more. Assumes nothing.
use Rattle.std.proofs.Common.{◌≡◌, ℕ, ◌+◌, ◌<◌, List, [], ◌∷◌, map, length, get_or, take}
use Rattle.std.proofs.lemmas.List.{take_more, map-append}
use Rattle.transcript.specs.declared.Entry.{Entry}
use Rattle.chip.specs.Steps.{Line, run, step}
use Rattle.chip.proofs.Laws.{one_last, then}
use Rattle.device.specs.declared.Access.{Access}
use Rattle.device.specs.Accesses.{access_step}

pub further : {L : Type 0} (put : L → ℕ → Entry → L) (os : List ℕ) (rows : List Access) (i : ℕ) (d : Access) (w x v : Line L) → i < length rows
    → x ≡ run put os (map access_step (take i rows)) w → v ≡ step put os (access_step (get_or rows i d)) x
    → v ≡ run put os (map access_step (take (i + 1) rows)) w
further put os rows i d w x v h e f =
    rw (take_more rows i d h, map-append) (then put os (map access_step (take i rows)) (access_step (get_or rows i d) ∷ []) w x v e (one_last put os (access_step (get_or rows i d)) x v f))

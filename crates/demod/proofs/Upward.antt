-- Bytes written to registers from one upward: those before an index, and one more. Assumes nothing.
use Rattle.std.proofs.Common.{◌≡◌, ℕ, suc, ◌+◌, ◌<◌, List, [], ◌∷◌, ◌++◌, length, get_or, take, ap, arith, length-take-le}
use Rattle.std.proofs.lemmas.List.{take_more}
use Rattle.transcript.specs.declared.Entry.{Entry}
use Rattle.chip.specs.Steps.{Line, Step, run, step}
use Rattle.chip.specs.Steps.Step.{Plain}
use Rattle.chip.proofs.Laws.{one_last, then}
use Rattle.device.specs.Accesses.{demod_write}
use Rattle.demod.specs.Programs.{upward}

-- one byte more goes to the register behind those of the others
upward_more : (register : ℕ) (bs : List ℕ) (b at : ℕ) → at ≡ register + length bs
    → upward register (bs ++ (b ∷ [])) ≡ upward register bs ++ (Plain (demod_write 1 at b) ∷ [])
unfolding upward
upward_more register [] b at h =
    let here : register ≡ at = omega arith in
    ap (λ (r : ℕ). Plain (demod_write 1 r b) ∷ []) here
upward_more register (a ∷ bs) b at h =
    ap (λ (ss : List Step). Plain (demod_write 1 register a) ∷ ss) (upward_more (suc register) bs b at (omega arith))

pub further : {L : Type 0} (put : L → ℕ → Entry → L) (os : List ℕ) (register : ℕ) (bs : List ℕ) (i : ℕ) (w x v : Line L) → i < length bs
    → x ≡ run put os (upward register (take i bs)) w → v ≡ step put os (Plain (demod_write 1 (register + i) (get_or bs i 0))) x
    → v ≡ run put os (upward register (take (i + 1) bs)) w
further put os register bs i w x v h e f =
    let before : register + i ≡ register + length (take i bs) = omega (arith, length-take-le i bs) in
    rw (take_more bs i 0 h, upward_more register (take i bs) (get_or bs i 0) (register + i) before)
    (then put os (upward register (take i bs)) (Plain (demod_write 1 (register + i) (get_or bs i 0)) ∷ []) w x v e (one_last put os _ x v f))

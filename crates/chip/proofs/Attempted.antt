-- What a write of several registers stores: a part of each list laid over, which is what the definition says. Assumes nothing.
use Rattle.std.proofs.Common.{◌≡◌, ℕ, ◌+◌, ◌-◌, ◌≤◌, Bool, not, List, length, get_or, take, drop, replicate, arith}
use Rattle.std.proofs.lemmas.List.Edits.{sets-eq}
use Rattle.std.proofs.lemmas.Grind.{common_steps}
use borrow.Rule.Slice.PartMut.{put_mid}
use lib.Seq.{sets}
use Rattle.chip.specs.Chips.{attempted_by, chip_of}

-- what is laid over a part of a list, in both spellings
pub laid : {A : Type 0} (l xs vs : List A) (at k : ℕ) → xs ≡ vs → length vs ≡ k → at + k ≤ length l → put_mid at k l xs ≡ sets l at vs
laid l xs vs at k e n h =
    let fits : at + length vs ≤ length l = omega (arith, n) in
    rw (e, sets-eq vs l at fits, n) grind (arith, common_steps)

-- both lists stored are the chip's record after the write
pub stored : (address : ℕ) (a b : List ℕ) (d e : List Bool) (n : ℕ) (bytes : List ℕ) (ok : Bool)
    → b ≡ sets a (get_or bytes 0 0 - 5) (take (n - 1) (drop 1 bytes)) → e ≡ sets d (get_or bytes 0 0 - 5) (replicate (n - 1) (not ok))
    → chip_of address b e ≡ attempted_by (chip_of address a d) n bytes ok
unfolding attempted_by
stored address a b d e n bytes ok p q = λ i. chip_of address (p i) (q i)

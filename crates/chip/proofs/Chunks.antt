-- A chunk of the table: its bounds, and the write that it becomes. Assumes nothing.
use Rattle.std.proofs.Common.{◌≡◌, ℕ, suc, ◌+◌, ◌≤◌, true, ◌&&◌, leb, List, [], ◌∷◌, length, get_or, take, drop, set, refl, leb-true}
use lib.Seq.{sets, length-sets}
use Rattle.chip.specs.declared.Chunk.{Chunk}
use Rattle.chip.specs.Steps.{chunk_bytes, chunk_table, every, within}
use Rattle.chip.proofs.Laws.{and_left, and_right}

pub some : (k : Chunk) → within k ≡ true → 1 ≤ k.size
some k h =
    leb-true 1 k.size
    (and_left (leb 1 k.size) (leb k.size 7) (and_left (leb 1 k.size && leb k.size 7) (leb (k.at + k.size) 27) h))

pub seven : (k : Chunk) → within k ≡ true → k.size ≤ 7
seven k h =
    leb-true k.size 7
    (and_right (leb 1 k.size) (leb k.size 7) (and_left (leb 1 k.size && leb k.size 7) (leb (k.at + k.size) 27) h))

pub inside : (k : Chunk) → within k ≡ true → k.at + k.size ≤ 27
inside k h = leb-true (k.at + k.size) 27 (and_right (leb 1 k.size && leb k.size 7) (leb (k.at + k.size) 27) h)

sets_first : (x : ℕ) (l vs : List ℕ) (i : ℕ) → get_or (sets (x ∷ l) (suc i) vs) 0 0 ≡ x
sets_first x l [] i = refl
sets_first x l (v ∷ vs) i = sets_first x (set l i v) vs (suc i)

pub first_register : (bs : List ℕ) (at size : ℕ) → get_or (chunk_bytes bs at size) 0 0 ≡ 5 + at
unfolding chunk_bytes
first_register bs at size = sets_first (5 + at) (0 ∷ 0 ∷ 0 ∷ 0 ∷ 0 ∷ 0 ∷ 0 ∷ []) (take size (drop at bs)) 0

pub chunk_eight : (bs : List ℕ) (at size : ℕ) → length (chunk_bytes bs at size) ≡ 8
unfolding chunk_bytes
chunk_eight bs at size = length-sets ((5 + at) ∷ 0 ∷ 0 ∷ 0 ∷ 0 ∷ 0 ∷ 0 ∷ 0 ∷ []) 1 (take size (drop at bs))

-- the table's chunks all lie within the 27 registers
pub table_within : every within chunk_table ≡ true
unfolding every
table_within = refl

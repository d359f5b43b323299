-- Where everything stands in a case (docs/VECTORS.md, "Layout"), and what it is for what came back to agree with it. Assumes nothing.
use Rattle.std.specs.Prelude.{◌≡◌, ℕ, zero, suc, ◌+◌, ◌*◌, ◌/◌, ◌%◌, ◌<◌, ◌≤◌, cond, ◌&&◌, List, [], length, take, drop, ◌==◌, nat_le, slice_index, slice_range}
use Rattle.wire.specs.Bytes.{le_value}
use Rattle.replay.specs.declared.compare.Answer.{Answer}

-- the number in the k bytes of a case from `at`, low byte first; 0 where the case ends before
unfoldable pub number_at : List ℕ → ℕ → ℕ → ℕ
number_at c at k = cond (nat_le (at + k) (length c)) (le_value (take k (drop at c))) 0

-- the bytes of a case from a up to e; none where the case ends before
unfoldable pub cut_of : List ℕ → ℕ → ℕ → List ℕ
cut_of c a e = cond (nat_le a e && nat_le e (length c)) (slice_range c a e) []

-- how long a part is that only stands there where bit number 0, 1 or 2 of the flags is set: the bit is the flags over 1, 2 or 4
unfoldable pub flagged : List ℕ → ℕ → ℕ → ℕ
flagged c bit n = cond (number_at c 7 1 / bit % 2 == 1) n 0

-- how long part k is: 0 to 4 are given to a call (outcomes, replies, tuner record, driver record, input bytes), 5 to 8 must come back (section,
-- next tuner record, next driver record, answered bytes)
unfoldable pub size_at : List ℕ → ℕ → ℕ
size_at c k =
    cond (k == 5) (flagged c 1 (16 * number_at c 50 2 + 8))
    (cond (k == 6) (flagged c 2 78) (cond (k == 7) (flagged c 4 29) (cond (k == 8) (number_at c 64 2) (number_at c (54 + 2 * k) 2))))

-- where part k starts: they stand end to end
unfoldable pub start_at : List ℕ → ℕ → ℕ
start_at c zero = 72
start_at c (suc k) = start_at c k + size_at c k

abbrev pub part_of : List ℕ → ℕ → List ℕ
part_of c k = cut_of c (start_at c k) (start_at c (k + 1))

-- refusal, value, index and count are the case's
pub record NumbersAgree (c : List ℕ) (a : Answer) : Type 0 where
  pub refusal_is : number_at c 6 1 ≡ a.refusal
  pub value_is : number_at c 40 8 ≡ a.value
  pub index_is : number_at c 48 2 ≡ a.index
  pub count_is : number_at c 50 2 ≡ a.count

-- memory that was lent full of 0xa5 has the bytes at its start, and past them is as it was
pub record Written (lent bytes : List ℕ) : Type 0 where
  pub start : take (length bytes) lent ≡ bytes
  pub rest : (k : ℕ) → length bytes ≤ k → k < length lent → slice_index lent k ≡ 165

-- the bytes of an answer by value: none where it is refused
abbrev pub unless_refused : ℕ → List ℕ → List ℕ
unless_refused refusal bytes = cond (refusal == 0) bytes []

-- a call that answers by value agrees with a case: its numbers, and its answered bytes exactly; the case has no section and no next record
pub record Valued (c : List ℕ) (refusal value : ℕ) (bytes : List ℕ) : Type 0 where
  pub told : NumbersAgree c (record { refusal = refusal; value = value; index = 0; count = 0 })
  pub bytes_are : part_of c 8 ≡ unless_refused refusal bytes
  pub nothing_else : start_at c 5 ≡ start_at c 8

-- a call over lent memory agrees with a case: its numbers, and all memory that it was lent: room, next records, answered bytes
pub record Agrees (c : List ℕ) (a : Answer) (room tuner driver answered : List ℕ) : Type 0 where
  pub numbers_are : NumbersAgree c a
  pub room_is : Written room (part_of c 5)
  pub tuner_is : Written tuner (part_of c 6)
  pub driver_is : Written driver (part_of c 7)
  pub answered_is : Written answered (part_of c 8)

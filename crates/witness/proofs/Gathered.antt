-- What the walk gathers of entries one after the other, of all that it gathers together. Assumes nothing.
use Prim.Native.Nat.{ℕ}
use mathlib.Core.Path.{◌≡◌}
use mathlib.Core.List.{List, [], ◌∷◌, ◌++◌}
use Rattle.transcript.specs.declared.Entry.{Entry}
use Rattle.restoring.specs.Standing.{Known, known_in, over}
use Rattle.restoring.proofs.Telling.{over_both_lem, over_empty}
use Rattle.witness.specs.declared.Waiting.{Waiting}
use Rattle.witness.specs.declared.Seen.{Seen}
use Rattle.witness.specs.Walk.{demod_in, seen, seen_all, waited_all, waited_by}
use Rattle.witness.proofs.Slots.{slots_both, slots_empty}
use Rattle.witness.proofs.Waits.{waits_both}

pub all_both : (address : ℕ) (xs ys : List Entry) (s : Seen) → seen_all address xs (seen_all address ys s) ≡ seen_all address (xs ++ ys) s
unfolding seen_all
all_both address xs ys s i =
    seen (over_both_lem address xs ys s.chip i) (slots_both xs ys s.demod i) (waits_both address xs ys s.waiting i)

pub all_empty : (address : ℕ) (s : Seen) → s ≡ seen_all address [] s
unfolding seen_all waited_all
all_empty address s i = seen (over_empty address s.chip i) (slots_empty s.demod i) s.waiting

pub heard_one : (address : ℕ) (e : Entry) (s : Seen) (chip demod : List Known) (w : Waiting) → chip ≡ over (known_in address (e ∷ [])) 0 s.chip
    → demod ≡ over (demod_in (e ∷ [])) 0 s.demod → w ≡ waited_by address e s.waiting → seen chip demod w ≡ seen_all address (e ∷ []) s
unfolding seen_all waited_all
heard_one address e s chip demod w p q r i = seen (p i) (q i) (r i)

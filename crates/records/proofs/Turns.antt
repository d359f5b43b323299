-- The loops over 27 bytes or flags: a loop that stores f of each element of a list, over any f, and one that looks whether all are flags.
-- Assumes nothing.
use Prim.Native.Nat.{ℕ, ◌+◌, ◌<◌, ◌≤◌}
use mathlib.Core.Path.{◌≡◌, refl, ◌∙◌}
use mathlib.Core.List.{List, map, append-nil}
use mathlib.Core.Bool.{Bool, true, false, ◌&&◌}
use native.Mathlib.Omega.{arith}
use native.Mathlib.Numerals.{add-one}
use lib.Dec.{leb}
use lib.ListN.{length, get_or, set, drop, drop_of_length-le, length-map}
use lib.Seq.{sets, sets-eq, drop-cons, drop-length}
use Rattle.records.specs.Fields.{flags_only}

pub sets_whole : {A : Type 0} (l vs : List A) → length vs ≡ length l → sets l 0 vs ≡ vs
sets_whole l vs h =
    let all : 0 + length vs ≡ length l = omega arith in
    sets-eq vs l 0 (omega arith) ∙ rw (all, drop-length, append-nil vs)

-- what is still to be stored, stored, gives f of all
module _ {A B : Type 0} (f : A → B) where
  pub store_turn : (s : List B) (i : ℕ) (from : List A) (d : A) → i < length from
      → sets (set s i (f (get_or from i d))) (i + 1) (map f (drop (i + 1) from)) ≡ sets s i (map f (drop i from))
  store_turn s i from d h = rw (add-one, drop-cons from i d h)

  pub store_start : (s : List B) (from : List A) → length from ≡ length s → sets s 0 (map f (drop 0 from)) ≡ map f from
  store_start s from h = sets_whole s (map f from) (length-map from f ∙ h)

  pub store_end : (s : List B) (i : ℕ) (from : List A) → length from ≤ i → s ≡ sets s i (map f (drop i from))
  store_end s i from h = rw (drop_of_length-le from h)

-- so far all are flags, and those that are left are: together that is said of all
pub flags_turn : (ok : Bool) (b : List ℕ) (i : ℕ) → i < length b → ((ok && leb (get_or b i 0) 1) && flags_only (drop (i + 1) b)) ≡ (ok && flags_only (drop i b))
unfolding flags_only
flags_turn true b i h = rw (add-one, drop-cons b i 0 h)
flags_turn false b i h = refl

pub flags_end : (ok : Bool) (b : List ℕ) (i : ℕ) → length b ≤ i → ok ≡ (ok && flags_only (drop i b))
unfolding flags_only
flags_end true b i h = rw (drop_of_length-le b h)
flags_end false b i h = refl

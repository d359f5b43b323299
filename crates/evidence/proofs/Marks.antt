-- Each mark exactly: sure where each register's last attempt was done, never where none was attempted, else doubtful. Assumes nothing.
use Prim.Native.Nat.{ℕ, ◌≤◌}
use mathlib.Core.Path.{◌≡◌, refl, ap}
use mathlib.Core.Bool.{Bool, true, false, cond, ◌&&◌, false≢true, true≢false}
use mathlib.Core.List.{List, [], ◌∷◌}
use mathlib.Core.Logic.{◌↔◌}
use native.Mathlib.Omega.{arith}
use borrow.Author.Tests.{eqb-true, le-ltb, ltb-false}
use lib.Dec.{eqb, ltb}
use Rattle.transcript.specs.declared.Entry.{Entry}
use Rattle.attempts.specs.Namings.{Last, doubt_in}
use Rattle.attempts.specs.Namings.Last.{Never, Tried}
use Rattle.chip.proofs.Laws.{and_left, and_right}
use Rattle.evidence.specs.Evidence.{both_mark, centre_mark, chip_byte, demod_byte, if_mark, if_units, lo_mark, lo_units, mark_all, mark_of, same}

-- all of them
abbrev pub Each : (Last → Type 0) → List Last → Type 0
Each p [] = Unit {0}
Each p (l ∷ ls) = p l × Each p ls

abbrev pub Sure : Last → Type 0
Sure l = (byte : ℕ) × (l ≡ Tried byte true)

abbrev pub Unheard : Last → Type 0
Unheard l = l ≡ Never

two : (l : Last) → eqb (mark_of l) 2 ≡ true → Sure l
two Never h = absurd (false≢true h)
two (Tried byte true) h = (byte, refl)
two (Tried byte false) h = absurd (false≢true h)

zero_mark : (l : Last) → eqb (mark_of l) 0 ≡ true → l ≡ Never
zero_mark Never h = refl
zero_mark (Tried byte true) h = absurd (false≢true h)
zero_mark (Tried byte false) h = absurd (false≢true h)

sures : (ls : List Last) → same 2 ls ≡ true → Each Sure ls
sures [] h = tt
sures (l ∷ ls) h = (two l (and_left (eqb (mark_of l) 2) (same 2 ls) h), sures ls (and_right (eqb (mark_of l) 2) (same 2 ls) h))

same_sure : (ls : List Last) → Each Sure ls → same 2 ls ≡ true
same_sure [] p = refl
same_sure (l ∷ ls) p = rw p.0.1 (same_sure ls p.1)

nevers : (ls : List Last) → same 0 ls ≡ true → Each Unheard ls
nevers [] h = tt
nevers (l ∷ ls) h = (zero_mark l (and_left (eqb (mark_of l) 0) (same 0 ls) h), nevers ls (and_right (eqb (mark_of l) 0) (same 0 ls) h))

same_never : (ls : List Last) → Each Unheard ls → same 0 ls ≡ true
same_never [] p = refl
same_never (l ∷ ls) p = rw p.0 (same_never ls p.1)

-- the mark by its two tests
by_tests : (a b : Bool) → ◌≡◌ {A = ℕ} (cond a 2 (cond b 0 1)) 2 → a ≡ true
by_tests true b h = refl
by_tests false true h = absurd (omega arith)
by_tests false false h = absurd (omega arith)

by_second : (a b : Bool) → ◌≡◌ {A = ℕ} (cond a 2 (cond b 0 1)) 0 → b ≡ true
by_second true b h = absurd (omega arith)
by_second false true h = refl
by_second false false h = absurd (omega arith)

-- "2 sure": exactly where each was last attempted and done
pub sure_exactly : (ls : List Last) → (mark_all ls ≡ 2) ↔ Each Sure ls
unfolding mark_all
sure_exactly ls = (λ h. sures ls (by_tests (same 2 ls) (same 0 ls) h), λ p. rw (same_sure ls p))

-- "0 never": exactly where none was attempted, of one register at least
pub never_exactly : (l : Last) (ls : List Last) → (mark_all (l ∷ ls) ≡ 0) ↔ Each Unheard (l ∷ ls)
unfolding mark_all
never_exactly l ls = (λ h. nevers (l ∷ ls) (by_second (same 2 (l ∷ ls)) (same 0 (l ∷ ls)) h), back)
  where
    back : Each Unheard (l ∷ ls) → ◌≡◌ {A = ℕ} (cond (same 2 (l ∷ ls)) 2 (cond (same 0 (l ∷ ls)) 0 1)) 0
    back p = rw (p.0, same_never ls p.1)

-- a sure one is without doubt
pub sure_known : (l : Last) → Sure l → doubt_in l ≡ false
sure_known l p = ap doubt_in p.1

-- and one without doubt was tried, and is sure
pub known_sure : (l : Last) → doubt_in l ≡ false → Sure l
known_sure Never h = absurd (true≢false h)
known_sure (Tried byte true) h = (byte, refl)
known_sure (Tried byte false) h = absurd (true≢false h)

-- of one register it is its own
pub one_mark : (l : Last) → mark_all (l ∷ []) ≡ mark_of l
unfolding mark_all
one_mark Never = refl
one_mark (Tried byte true) = refl
one_mark (Tried byte false) = refl

-- ---- the centre's

both_two : (a b : ℕ) → both_mark a b ≡ 2 → (a ≡ 2) × (b ≡ 2)
both_two a b h = go (eqb a 2) refl (eqb b 2) refl
  where
    go : (x : Bool) → eqb a 2 ≡ x → (y : Bool) → eqb b 2 ≡ y → (a ≡ 2) × (b ≡ 2)
    go true p true q = (eqb-true a 2 p, eqb-true b 2 q)
    go true p false q = absurd (false≢true (by_tests false (eqb a 0 && eqb b 0) (rw (p, q) at h)))
    go false p y q = absurd (false≢true (by_tests false (eqb a 0 && eqb b 0) (rw p at h)))

-- "mark 1 where the IF is larger": sure exactly where both are and it is not
pub centre_exactly : (address r xtal : ℕ) (es : List Entry)
    → (centre_mark address r xtal es ≡ 2) ↔ ((lo_mark address es ≡ 2) × (if_mark es ≡ 2) × (if_units xtal (demod_byte es) ≤ lo_units r (chip_byte address es)))
centre_exactly address r xtal es = (to, λ p. rw (p.0, p.1, le-ltb lo off p.2))
  where
    lo : ℕ
    lo = lo_units r (chip_byte address es)

    off : ℕ
    off = if_units xtal (demod_byte es)

    both : ℕ
    both = both_mark (lo_mark address es) (if_mark es)

    by : (b : Bool) → ltb lo off ≡ b → both ≡ 2 → cond (eqb both 2 && ltb lo off) 1 both ≡ 2 → off ≤ lo
    by true e two h =
        let z : ◌≡◌ {A = ℕ} 1 2 = rw (two, e) at h in
        absurd (omega arith)
    by false e two h = ltb-false lo off e

    sure_both : (b : Bool) → eqb both 2 ≡ b → cond (eqb both 2 && ltb lo off) 1 both ≡ 2 → both ≡ 2
    sure_both true e h = eqb-true both 2 e
    sure_both false e h = rw e at h

    to : cond (eqb both 2 && ltb lo off) 1 both ≡ 2 → (lo_mark address es ≡ 2) × (if_mark es ≡ 2) × (off ≤ lo)
    to h =
        let two : both ≡ 2 = sure_both (eqb both 2) refl h in
        let p = both_two (lo_mark address es) (if_mark es) two in
        (p.0, p.1, by (ltb lo off) refl two h)

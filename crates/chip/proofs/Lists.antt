-- Programs that are lists of one kind of step, worked off one by one: what is left, turn by turn. One law serves updates and accesses.
-- Assumes nothing.
use Rattle.std.proofs.Common.{◌≡◌, ℕ, zero, suc, ◌+◌, ◌-◌, ◌<◌, ◌≤◌, Bool, true, leb, List, [], ◌∷◌, map, length, get_or, take, drop, refl, ap, ◌∙◌, le_of_suc-le-suc, add-one, arith, drop_of_length-le, length-take, length-take-le, drop-cons, get_or-take, leb-true}
use Rattle.transcript.specs.declared.Entry.{Entry}
use Rattle.chip.specs.declared.Update.{Update}
use Rattle.chip.specs.Steps.{Step, Line, every, in_range, inner, run, step, update_step}
use Rattle.chip.specs.Steps.Step.{Mask}
use Rattle.chip.proofs.Laws.{and_left, and_right}

none : (i : ℕ) → i < 0 → ⊥
none i l = omega arith

pub every_at : {A : Type 0} (p : A → Bool) (l : List A) (i : ℕ) (d : A) → i < length l → every p l ≡ true → p (get_or l i d) ≡ true
unfolding every
every_at p [] i d l h = absurd (none i l)
every_at p (a ∷ rest) zero d l h = and_left (p a) (every p rest) h
every_at p (a ∷ rest) (suc i) d l h = every_at p rest i d (le_of_suc-le-suc l) (and_right (p a) (every p rest) h)

-- steps of one kind, none of them a closing
pub every_inner : {A : Type 0} (f : A → Step) → ((a : A) → inner (f a) ≡ true) → (l : List A) → every inner (map f l) ≡ true
unfolding every
every_inner f h [] = refl
every_inner f h (a ∷ rest) = rw (h a) (every_inner f h rest)

pub inner_update : (u : Update) → inner (update_step u) ≡ true
inner_update u = refl

-- a register in range
pub low : (u : Update) → in_range u ≡ true → 5 ≤ u.register
low u h = leb-true 5 u.register (and_left (leb 5 u.register) (leb u.register 31) h)

pub high : (u : Update) → in_range u ≡ true → u.register ≤ 31
high u h = leb-true u.register 31 (and_right (leb 5 u.register) (leb u.register 31) h)

module _ {L : Type 0} (put : L → ℕ → Entry → L) (os : List ℕ) where
  -- one step is taken off a list that is gone through to its end
  pub next : {A : Type 0} (f : A → Step) (l : List A) (i : ℕ) (d : A) (w : Line L) → i < length l
      → run put os (map f (drop (i + 1) l)) (step put os (f (get_or l i d)) w) ≡ run put os (map f (drop i l)) w
  unfolding run
  next f l i d w h = rw (add-one, drop-cons l i d h)

  pub last : {A : Type 0} (f : A → Step) (l : List A) (i : ℕ) (w : Line L) → length l ≤ i → w ≡ run put os (map f (drop i l)) w
  unfolding run
  last f l i w h = rw (drop_of_length-le l h)

  -- a masked write by an update that was worked out apart
  pub by_masked : (u d : Update) (w v : Line L) → u ≡ d → v ≡ step put os (Mask u.register u.value u.mask) w
      → v ≡ step put os (Mask d.register d.value d.mask) w
  by_masked u d w v e h = h ∙ ap (λ (x : Update). step put os (Mask x.register x.value x.mask) w) e

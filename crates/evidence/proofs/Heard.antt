-- Lock and tries over entries one after the other: what comes before counts only by the two numbers that it left, and not even by them once a register that
-- a plan sets was named. Assumes nothing.
use Prim.Native.Nat.{ℕ, ◌+◌}
use mathlib.Core.Path.{◌≡◌, refl}
use mathlib.Core.Bool.{Bool, true, false, cond, ◌||◌, false≢true}
use mathlib.Core.List.{List, [], ◌∷◌, ◌++◌}
use Rattle.transcript.specs.declared.Entry.{Entry}
use Rattle.attempts.specs.Attempts.{names}
use Rattle.chip.specs.Entries.{lock_bit}
use Rattle.evidence.specs.Evidence.{lock_from, oscillator, planned, touches, tries_from, try_of}

-- both numbers
pub record Heard : Type 0 where
  pub mark : ℕ
  pub count : ℕ

abbrev pub heard : ℕ → ℕ → Heard
heard mark count = record { mark = mark; count = count }

module _ (address : ℕ) where
  abbrev pub lock_by : Entry → ℕ → ℕ
  lock_by e mark = cond (touches address oscillator e) 0 (cond (try_of address e) (cond (lock_bit e) 2 1) mark)

  abbrev pub tries_by : Entry → ℕ → ℕ
  tries_by e count = cond (touches address planned e) 0 (cond (try_of address e) (count + 1) count)

  -- one entry more
  abbrev pub heard_by : Entry → Heard → Heard
  heard_by e h = heard (lock_by e h.mark) (tries_by e h.count)

  abbrev pub heard_from : Heard → List Entry → Heard
  heard_from h es = heard (lock_from address h.mark es) (tries_from address h.count es)

  lock_append : (mark : ℕ) (xs ys : List Entry) → lock_from address mark (xs ++ ys) ≡ lock_from address (lock_from address mark xs) ys
  unfolding lock_from
  lock_append mark [] ys = refl
  lock_append mark (x ∷ xs) ys = lock_append (lock_by x mark) xs ys

  tries_append : (count : ℕ) (xs ys : List Entry) → tries_from address count (xs ++ ys) ≡ tries_from address (tries_from address count xs) ys
  unfolding tries_from
  tries_append count [] ys = refl
  tries_append count (x ∷ xs) ys = tries_append (tries_by x count) xs ys

  pub heard_append : (h : Heard) (xs ys : List Entry) → heard_from h (xs ++ ys) ≡ heard_from (heard_from h xs) ys
  heard_append h xs ys i = heard (lock_append h.mark xs ys i) (tries_append h.count xs ys i)

  pub heard_snoc : (h : Heard) (es : List Entry) (e : Entry) → heard_from h (es ++ (e ∷ [])) ≡ heard_by e (heard_from h es)
  unfolding lock_from tries_from
  heard_snoc h es e = heard_append h es (e ∷ [])

  pub heard_none : (h : Heard) → heard_from h [] ≡ h
  unfolding lock_from tries_from
  heard_none h = refl

  -- ---- a register that a plan sets

  -- one of them is one of the oscillator's
  pub planned_too : (e : Entry) → touches address planned e ≡ true → touches address oscillator e ≡ true
  planned_too e h = go (names address e 0x10) refl (names address e 0x12) refl (touches address (0x14 ∷ 0x15 ∷ 0x16 ∷ []) e) refl
    where
      go : (a : Bool) → names address e 0x10 ≡ a → (b : Bool) → names address e 0x12 ≡ b → (c : Bool) → touches address (0x14 ∷ 0x15 ∷ 0x16 ∷ []) e ≡ c
          → touches address oscillator e ≡ true
      go true p b q c r = rw p
      go false p true q c r = rw (p, q)
      go false p false q true r = rw (p, q, r)
      go false p false q false r =
          let none : false ≡ true = rw (p, r) at h in
          absurd (false≢true none)

  -- some entry names one
  abbrev pub plans : List Entry → Bool
  plans [] = false
  plans (e ∷ es) = touches address planned e || plans es

  -- then nothing before it counts
  pub heard_plans : (fs : List Entry) → plans fs ≡ true → (g h : Heard) → heard_from g fs ≡ heard_from h fs
  unfolding lock_from tries_from
  heard_plans [] p g h = absurd (false≢true p)
  heard_plans (e ∷ fs) p g h = go (touches address planned e) refl (λ q. heard_plans fs q (heard_by e g) (heard_by e h))
    where
      go : (b : Bool) → touches address planned e ≡ b → (plans fs ≡ true → heard_from (heard_by e g) fs ≡ heard_from (heard_by e h) fs)
          → heard_from (heard_by e g) fs ≡ heard_from (heard_by e h) fs
      go true t ih = rw (t, planned_too e t)
      go false t ih = ih (rw t at p)

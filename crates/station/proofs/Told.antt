-- The rows of `oscillator_of`. Assumes nothing.
use Prim.Native.Nat.{ℕ, zero, suc, ◌<◌}
use mathlib.Core.Path.{◌≡◌, refl, ap, ◌∙◌}
use mathlib.Core.Bool.{Bool, true, false, cond, ◌||◌, true≢false}
use mathlib.Core.List.{List, [], ◌∷◌}
use native.Mathlib.Omega.{arith}
use lib.ListN.{get_or, length}
use Rattle.chip.specs.declared.Chip.{Chip}
use Rattle.refusals.specs.declared.Answer.TheVariants.{Done, Refused}
use Rattle.refusals.specs.Answers.{number_of, value_of}
use Rattle.refusals.specs.Table.{SETUP, DOUBTFUL}
use Rattle.oscillator.specs.Registers.{hz_in, stands_by}
use Rattle.oscillator.proofs.Oscillator.{each_five}
use Rattle.r82xx.specs.declared.Tuner.{Tuner}
use Rattle.r82xx.specs.Record.{sound}
use Rattle.station.specs.Station.{attempted_at, doubtful_at, oscillator_of, unsure}

-- inside a list nothing hangs on what stands past its end
pub inside : {A : Type 0} (l : List A) (i : ℕ) (a b : A) → i < length l → get_or l i a ≡ get_or l i b
inside [] i a b h = absurd (omega arith)
inside (x ∷ l) zero a b h = refl
inside (x ∷ l) (suc i) a b h = inside l i a b (omega arith)

-- the marks as the code reads them
pub marks : (c : Chip) (b : Bool) → length c.doubtful ≡ 27
    → (get_or c.doubtful 11 false || get_or c.doubtful 13 false || get_or c.doubtful 15 false || get_or c.doubtful 16 false || get_or c.doubtful 17 false) ≡ b → unsure c ≡ b
marks c b n e =
    let same : (i : ℕ) → i < 27 → get_or c.doubtful i true ≡ get_or c.doubtful i false = (λ i h. inside c.doubtful i true false (omega (arith, n))) in
    rw (same 11 (omega arith), same 13 (omega arith), same 15 (omega arith), same 16 (omega arith), same 17 (omega arith)) e

pub not_sound : (t : Tuner) → sound t ≡ false → Refused SETUP ≡ oscillator_of t
unfolding oscillator_of
not_sound t e = rw e

pub doubted : (t : Tuner) → sound t ≡ true → unsure t.chip ≡ true → Refused DOUBTFUL ≡ oscillator_of t
unfolding oscillator_of
doubted t e d = rw (e, d)

pub told : (t : Tuner) (hz : ℕ) → sound t ≡ true → unsure t.chip ≡ false → hz ≡ hz_in t.corrected (attempted_at t.chip) → Done hz ≡ oscillator_of t
unfolding oscillator_of
told t hz e d h = ap Done h ∙ rw (e, d)

-- and back: a frequency is told only where none of the five is in doubt
pub told_back : (t : Tuner) (hz : ℕ) → oscillator_of t ≡ Done hz → (unsure t.chip ≡ false) × (hz_in t.corrected (attempted_at t.chip) ≡ hz)
unfolding oscillator_of
told_back t hz = go (sound t) (unsure t.chip) refl
  where
    go : (a b : Bool) → unsure t.chip ≡ b → cond a (cond b (Refused DOUBTFUL) (Done (hz_in t.corrected (attempted_at t.chip)))) (Refused SETUP) ≡ Done hz
        → (unsure t.chip ≡ false) × (hz_in t.corrected (attempted_at t.chip) ≡ hz)
    go true true d e =
        let none : ◌≡◌ {A = ℕ} 20 0 = ap number_of e in
        absurd (omega arith)
    go true false d e = (d, ap value_of e)
    go false b d e =
        let none : ◌≡◌ {A = ℕ} 1 0 = ap number_of e in
        absurd (omega arith)

pub neither : (a b : Bool) → (a || b) ≡ false → (a ≡ false) × (b ≡ false)
neither false b h = (refl, h)
neither true b h = absurd (true≢false h)

-- each of them
pub sure : (c : Chip) → unsure c ≡ false → (r : ℕ) → stands_by r ≡ true → doubtful_at c r ≡ false
sure c h =
    let d : ℕ → Bool = doubtful_at c in
    let p = neither (d 0x10 || d 0x12 || d 0x14 || d 0x15) (d 0x16) h in
    let q = neither (d 0x10 || d 0x12 || d 0x14) (d 0x15) p.0 in
    let s = neither (d 0x10 || d 0x12) (d 0x14) q.0 in
    let u = neither (d 0x10) (d 0x12) s.0 in
    each_five (λ r. doubtful_at c r ≡ false) u.0 u.1 s.1 q.1 p.1

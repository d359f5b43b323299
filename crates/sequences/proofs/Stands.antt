-- Where a tuning that is answered done leaves the PLL's registers: N, S and the divider of its plan, the divider one off where it was repaired; and nothing
-- of them in doubt. Assumes nothing.
use Prim.Native.Nat.{ℕ, zero, suc, ◌+◌, ◌-◌, ◌*◌, ◌/◌, ◌%◌, ◌≤◌, ◌<◌}
use mathlib.Core.Path.{◌≡◌, refl, sym, ap, subst, ◌∙◌}
use mathlib.Core.Bool.{Bool, true, false, not, cond, ◌&&◌, ◌||◌, false≢true}
use mathlib.Core.List.{List, [], ◌∷◌, ◌++◌}
use native.Mathlib.Omega.{arith}
use native.Mathlib.Nat.{mod-eq_of_lt}
use borrow.Author.Tests.{eqb-false, eqb-true, not-true}
use lib.Bits.{bit_and, bit_or, and_high, and_mask, and_mod, and_shr, and_zero_r, mask_lt, or_mod, or_shifted_r, or_shr, or_zero_l}
use lib.Dec.{eqb, ltb}
use lib.ListN.{get_or, length, length-set, set}
use lib.Seq.{get_or-set_other, get_or-set_same}
use Rattle.transcript.specs.declared.Entry.{Entry}
use Rattle.chip.specs.declared.Chip.{Chip}
use Rattle.chip.specs.declared.Progress.{Progress}
use Rattle.chip.specs.declared.Progress.TheVariants.{Going, Refused11}
use Rattle.chip.specs.declared.Update.{Update}
use Rattle.chip.specs.Entries.{pointer, read_entry, wait}
use Rattle.chip.specs.Chips.{attempted_by, mask_of, masked_byte}
use Rattle.chip.specs.Steps.{Step, Trace, acts, chip_after, every, goes, in_list, masked, ok_for, run, step, taken, updates}
use Rattle.chip.specs.Steps.Step.{Open, Close, Send, Mask, Plain}
use Rattle.chip.proofs.Laws.{active, and_left, and_right, run_app}
use Rattle.history.proofs.Fine.{every_append}
use Rattle.history.proofs.Runs.{done_by, going_before, run_keeps}
use Rattle.oscillator.specs.Registers.{off}
use Rattle.pll.specs.declared.Kind.{Kind}
use Rattle.pll.specs.declared.Plan.{Plan}
use Rattle.std.specs.Prelude.{Some}
use Rattle.tuning.specs.Mux.{mux_updates, pll_updates, range_of}
use Rattle.tuning.specs.Program.{inner_steps, pll_steps, tune_steps}
use Rattle.tuning.specs.Tries.{after_try, again, fine_of, locked, locks_at, power_of, repair_updates, reply_bytes, status_steps, tries_from, try_read}
use Rattle.tuning.proofs.Turns.{pick_every}

-- ---- bytes

whole_byte : (old v : ℕ) → v < 256 → mask_of old v 0xff ≡ v
unfolding mask_of
whole_byte old v h =
    ap (λ (y : ℕ). bit_or y (bit_and v 0xff)) (and_zero_r old) ∙ or_zero_l (bit_and v 0xff) ∙ and_mask v 8 ∙ mod-eq_of_lt h

-- ---- a program that went through

-- a step that does not store at element x of the record's lists
abbrev spares : ℕ → Step → Bool
spares x Open = true
spares x Close = true
spares x (Send n bytes) = false
spares x (Mask r v m) = not (eqb x (r - 5))
spares x (Plain e) = true

-- a masked write is one store in each list
mask_shadow : (c : Chip) (r v m : ℕ) (ok : Bool) → (chip_after (Mask r v m) c ok).shadow ≡ set c.shadow (r - 5) (masked_byte c r v m)
unfolding attempted_by
mask_shadow c r v m ok = refl

mask_doubt : (c : Chip) (r v m : ℕ) (ok : Bool) → (chip_after (Mask r v m) c ok).doubtful ≡ set c.doubtful (r - 5) (not ok)
unfolding attempted_by
mask_doubt c r v m ok = refl

module _ (os : List ℕ) where
  -- the element x, in both lists
  abbrev pub Holds : ℕ → ℕ → Bool → Trace → Type 0
  Holds x a d t = (get_or t.chip.shadow x 0 ≡ a) × (get_or t.chip.doubtful x true ≡ d)

  spared : (x a : ℕ) (d : Bool) (ss : List Step) (t : Trace) → every (spares x) ss ≡ true → Holds x a d t → Holds x a d (run in_list os ss t)
  spared x a d ss t g h = run_keeps os (Holds x a d) (spares x) keeps ss t g h
    where
      keeps : (s : Step) (u : Trace) → spares x s ≡ true → acts s u.progress u.opened ≡ true → Holds x a d u
          → Holds x a d (taken in_list os (ok_for os u.count s) s u)
      keeps Open u q e p = p
      keeps Close u q e p = p
      keeps (Send n bytes) u q e p = absurd (false≢true q)
      keeps (Mask r v m) u q e p =
          let ok : Bool = ok_for os u.count (Mask r v m) in
          let other : x ≡ r - 5 → ⊥ = eqb-false x (r - 5) (not-true (eqb x (r - 5)) q) in (
            ap (λ (l : List ℕ). get_or l x 0) (mask_shadow u.chip r v m ok) ∙ get_or-set_other u.chip.shadow (r - 5) x (masked_byte u.chip r v m) 0 other ∙ p.0,
            ap (λ (l : List Bool). get_or l x true) (mask_doubt u.chip r v m ok) ∙ get_or-set_other u.chip.doubtful (r - 5) x (not ok) true other ∙ p.1,
          )
      keeps (Plain e) u q z p = p

  -- both lists keep their lengths under masked writes alone
  abbrev pub plainly : Step → Bool
  plainly Open = true
  plainly Close = true
  plainly (Send n bytes) = false
  plainly (Mask r v m) = true
  plainly (Plain e) = true

  abbrev pub Long : Trace → Type 0
  Long t = (length t.chip.shadow ≡ 27) × (length t.chip.doubtful ≡ 27)

  pub long_run : (ss : List Step) (t : Trace) → every plainly ss ≡ true → Long t → Long (run in_list os ss t)
  long_run ss t g h = run_keeps os Long plainly keeps ss t g h
    where
      keeps : (s : Step) (u : Trace) → plainly s ≡ true → acts s u.progress u.opened ≡ true → Long u → Long (taken in_list os (ok_for os u.count s) s u)
      keeps Open u q e p = p
      keeps Close u q e p = p
      keeps (Send n bytes) u q e p = absurd (false≢true q)
      keeps (Mask r v m) u q e p =
          let ok : Bool = ok_for os u.count (Mask r v m) in (
            ap length (mask_shadow u.chip r v m ok) ∙ length-set u.chip.shadow (r - 5) (masked_byte u.chip r v m) ∙ p.0,
            ap length (mask_doubt u.chip r v m ok) ∙ length-set u.chip.doubtful (r - 5) (not ok) ∙ p.1,
          )
      keeps (Plain e) u q z p = p

  -- a masked write in a program that went through: done, so its byte is stored and there is no doubt
  mask_done : (x v m : ℕ) (t : Trace) → x < 27 → Long t → (step in_list os (Mask (5 + x) v m) t).progress ≡ Going → t.progress ≡ Going
      → Holds x (mask_of (get_or t.chip.shadow x 0) v m) false (step in_list os (Mask (5 + x) v m) t)
  mask_done x v m t h long g before =
      let at : 5 + x - 5 ≡ x = omega arith in
      let s : Step = Mask (5 + x) v m in
      let ok : Bool = ok_for os t.count s in
      let did : taken in_list os ok s t ≡ step in_list os s t = active in_list os s t (ap goes before) in
      let went : ok ≡ true = done_by ok t.count (ap (λ (u : Trace). u.progress) did ∙ g) in
      subst (Holds x (mask_of (get_or t.chip.shadow x 0) v m) false) did (
        ap (λ (l : List ℕ). get_or l x 0) (mask_shadow t.chip (5 + x) v m ok)
            ∙ ap (λ (j : ℕ). get_or (set t.chip.shadow j (mask_of (get_or t.chip.shadow j 0) v m)) x 0) at
            ∙ get_or-set_same t.chip.shadow x (mask_of (get_or t.chip.shadow x 0) v m) 0 (omega (arith, long.0)),
        ap (λ (l : List Bool). get_or l x true) (mask_doubt t.chip (5 + x) v m ok)
            ∙ ap (λ (j : ℕ). get_or (set t.chip.doubtful j (not ok)) x true) at
            ∙ get_or-set_same t.chip.doubtful x (not ok) true (omega (arith, long.1))
            ∙ ap not went,
      )

  -- the last write of register 5 + x in a program that went through
  pub last_write : (before : List Step) (x v m : ℕ) (after : List Step) (t : Trace) → x < 27 → Long t → every plainly before ≡ true
      → every (spares x) after ≡ true
      → (run in_list os (before ++ (Mask (5 + x) v m ∷ after)) t).progress ≡ Going
      → (old : ℕ) × Holds x (mask_of old v m) false (run in_list os (before ++ (Mask (5 + x) v m ∷ after)) t)
  unfolding run
  last_write before x v m after t h long p q g =
      let u : Trace = run in_list os before t in
      let s : Step = Mask (5 + x) v m in
      let w : Trace = step in_list os s u in
      let app : run in_list os (before ++ (s ∷ after)) t ≡ run in_list os after w = run_app in_list os before (s ∷ after) t in
      let end : (run in_list os after w).progress ≡ Going = ap (λ (z : Trace). z.progress) (sym app) ∙ g in
      let mid : w.progress ≡ Going = going_before os after w end in
      let start : u.progress ≡ Going = going_before os (s ∷ []) u mid in
      let here : Holds x (mask_of (get_or u.chip.shadow x 0) v m) false w = mask_done x v m u h (long_run before t p long) mid start in
      (get_or u.chip.shadow x 0, subst (Holds x (mask_of (get_or u.chip.shadow x 0) v m) false) (sym app) (spared x (mask_of (get_or u.chip.shadow x 0) v m) false after w q here))

  -- 0x12 once the fraction is set up: switched off only where `none` holds, and in no doubt. What comes later leaves it or clears the bit
  module _ (none : Type 0) where
    abbrev pub Controlled : Trace → Type 0
    Controlled t = (off (get_or t.chip.shadow 13 0) ≡ true → none) × (get_or t.chip.doubtful 13 true ≡ false)

    abbrev clears : Step → Bool
    clears Open = true
    clears Close = true
    clears (Send n bytes) = false
    clears (Mask r v m) = not (eqb 13 (r - 5)) || (eqb v 0x06 && eqb m 0xff)
    clears (Plain e) = true

    abbrev Steady : Trace → Type 0
    Steady t = Long t × (t.progress ≡ Going → Controlled t)

    steady : (ss : List Step) (t : Trace) → every clears ss ≡ true → Steady t → Steady (run in_list os ss t)
    steady ss t g h = run_keeps os Steady clears keeps ss t g h
      where
        by_going : (w : Progress) → goes w ≡ true → w ≡ Going
        by_going Going e = refl
        by_going (Refused11 k) e = absurd (false≢true e)

        keeps : (s : Step) (u : Trace) → clears s ≡ true → acts s u.progress u.opened ≡ true → Steady u
            → Steady (taken in_list os (ok_for os u.count s) s u)
        keeps Open u q e p = (p.0, λ z. p.1 (by_going u.progress e))
        keeps Close u q e p = p
        keeps (Send n bytes) u q e p = absurd (false≢true q)
        keeps (Plain x) u q e p = (p.0, λ z. p.1 (by_going u.progress e))
        keeps (Mask r v m) u q e p = (
          (
            ap length (mask_shadow u.chip r v m ok) ∙ length-set u.chip.shadow (r - 5) (masked_byte u.chip r v m) ∙ p.0.0,
            ap length (mask_doubt u.chip r v m ok) ∙ length-set u.chip.doubtful (r - 5) (not ok) ∙ p.0.1,
          ),
          (λ z. by_place (eqb 13 (r - 5)) refl z),
        )
          where
            ok : Bool
            ok = ok_for os u.count (Mask r v m)

            by_place : (b : Bool) → eqb 13 (r - 5) ≡ b → (taken in_list os ok (Mask r v m) u).progress ≡ Going → Controlled (taken in_list os ok (Mask r v m) u)
            by_place false w z =
                let before : Controlled u = p.1 (by_going u.progress e) in
                let other : 13 ≡ r - 5 → ⊥ = eqb-false 13 (r - 5) w in (
                  (λ h. before.0 (ap off (sym (ap (λ (l : List ℕ). get_or l 13 0) (mask_shadow u.chip r v m ok) ∙ get_or-set_other u.chip.shadow (r - 5) 13 (masked_byte u.chip r v m) 0 other)) ∙ h)),
                  ap (λ (l : List Bool). get_or l 13 true) (mask_doubt u.chip r v m ok) ∙ get_or-set_other u.chip.doubtful (r - 5) 13 (not ok) true other ∙ before.1,
                )
            by_place true w z =
                let at : 13 ≡ r - 5 = eqb-true 13 (r - 5) w in
                let both : (eqb v 0x06 && eqb m 0xff) ≡ true = sym (ap (λ (b : Bool). not b || (eqb v 0x06 && eqb m 0xff)) w) ∙ q in
                let six : v ≡ 0x06 = eqb-true v 0x06 (and_left (eqb v 0x06) (eqb m 0xff) both) in
                let all : m ≡ 0xff = eqb-true m 0xff (and_right (eqb v 0x06) (eqb m 0xff) both) in
                let byte : get_or (chip_after (Mask r v m) u.chip ok).shadow 13 0 ≡ 0x06 =
                ap (λ (l : List ℕ). get_or l 13 0) (mask_shadow u.chip r v m ok)
                ∙ ap (λ (j : ℕ). get_or (set u.chip.shadow j (masked_byte u.chip r v m)) 13 0) (sym at)
                ∙ get_or-set_same u.chip.shadow 13 (masked_byte u.chip r v m) 0 (omega (arith, p.0.0))
                ∙ (λ i. mask_of (get_or u.chip.shadow (r - 5) 0) (six i) (all i))
                ∙ whole_byte (get_or u.chip.shadow (r - 5) 0) 0x06 (omega arith) in (
                  (λ h. absurd (false≢true (sym (ap off byte) ∙ h))),
                  ap (λ (l : List Bool). get_or l 13 true) (mask_doubt u.chip r v m ok)
                      ∙ ap (λ (j : ℕ). get_or (set u.chip.doubtful j (not ok)) 13 true) (sym at)
                      ∙ get_or-set_same u.chip.doubtful 13 (not ok) true (omega (arith, p.0.1))
                      ∙ ap not (done_by ok u.count z),
                )

-- the three high bits of 0x10
high_bits : (old k : ℕ) → k < 8 → mask_of old (k * 32) 0xe0 / 32 ≡ k
unfolding mask_of
high_bits old k h =
    let top : bit_and (k * 32) 0xe0 ≡ k * 32 / 32 % 8 * 32 = and_high (k * 32) 3 5 in
    let same : k * 32 / 32 % 8 * 32 ≡ k * 32 = omega arith in
    let small : bit_and old 31 < 32 = mask_lt old 5 in
    let join : bit_or (bit_and old 31) (k * 32) ≡ k * 32 + bit_and old 31 = or_shifted_r k 5 (bit_and old 31) small in
    ap (λ (y : ℕ). bit_or (bit_and old 31) y / 32) (top ∙ same) ∙ ap (λ (y : ℕ). y / 32) join ∙ omega (arith, small)

-- bit 3 under a mask of it alone
control_bit : (old v : ℕ) → mask_of old v 0x08 / 8 % 2 ≡ bit_and (v / 8 % 2) 1
unfolding mask_of
control_bit old v =
    let parted : bit_or (bit_and old 0xf7) (bit_and v 0x08) / 8 % 2 ≡ bit_or (bit_and (old / 8) 30 % 2) (bit_and (v / 8) 1 % 2) =
    ap (λ (x : ℕ). x % 2) (or_shr (bit_and old 0xf7) (bit_and v 0x08) 3 ∙ (λ i. bit_or (and_shr old 0xf7 3 i) (and_shr v 0x08 3 i)))
    ∙ or_mod (bit_and (old / 8) 30) (bit_and (v / 8) 1) 1 in
    parted ∙ (λ i. bit_or ((and_mod (old / 8) 30 1 ∙ and_zero_r (old / 8 % 2)) i) (and_mod (v / 8) 1 1 i))

-- ---- a tuning's program

module _ (address : ℕ) (kind : Kind) (notch : Bool) (p : Plan) (hz : ℕ) (rs : List ℕ) where
  abbrev tail : List Step
  tail = pll_steps address kind p.number rs ++ (Close ∷ [])

  -- what follows the five writes: 0x10, 0x12 and 0x1a are touched alone, by the tries 0x12 and 0x1a, each with one value and mask
  module _ (f : Step → Bool) (plain : (e : Entry) → f (Plain e) ≡ true) (b : f (Mask 0x12 0x06 0xff) ≡ true) (c : f (Mask 0x1a 0x08 0x08) ≡ true) where
    tries_pass : (left i : ℕ) → every f (tries_from address rs left i) ≡ true
    unfolding tries_from every
    tries_pass zero i = refl
    tries_pass (suc left) i =
        every_append f (try_read address rs i) (cond (locks_at rs i) (updates locked) (after_try i ++ tries_from address rs left (i + 1)))
        (rw (plain (pointer address), plain (read_entry address 3 (reply_bytes rs (5 + 3 * i) 3))))
        (pick_every f (locks_at rs i) (updates locked) (after_try i ++ tries_from address rs left (i + 1)) (rw c)
        (every_append f (after_try i) (tries_from address rs left (i + 1)) (after_passes i) (tries_pass left (i + 1))))
      where
        by_first : (y : Bool) → every f (updates (cond y (masked 0x12 0x06 0xff ∷ []) [])) ≡ true
        by_first true = rw b
        by_first false = refl

        after_passes : (i : ℕ) → every f (after_try i) ≡ true
        after_passes i = every_append f (updates (again i)) (Plain (wait 1) ∷ []) (by_first (eqb i 0)) (rw (plain (wait 1)))

    module _ (a : (v : ℕ) → f (Mask 0x10 v 0xe0) ≡ true) (d : f Close ≡ true) where
      repair_passes : every f (updates (repair_updates kind p.number (get_or rs 4 0))) ≡ true
      unfolding repair_updates every
      repair_passes = go (ltb (power_of kind) (fine_of (get_or rs 4 0))) (ltb (fine_of (get_or rs 4 0)) (power_of kind))
        where
          go : (y z : Bool)
              → every f (updates (cond y (masked 0x10 ((p.number - 1) * 32) 0xe0 ∷ []) (cond z (masked 0x10 ((p.number + 1) * 32) 0xe0 ∷ []) []))) ≡ true
          go true z = rw (a ((p.number - 1) * 32))
          go false true = rw (a ((p.number + 1) * 32))
          go false false = refl

      tail_passes : every f tail ≡ true
      unfolding every
      tail_passes =
          every_append f (pll_steps address kind p.number rs) (Close ∷ [])
          (every_append f (status_steps address rs) (updates (repair_updates kind p.number (get_or rs 4 0)) ++ tries_from address rs 10 0)
          (rw (plain (wait 2), plain (pointer address), plain (read_entry address 5 (reply_bytes rs 0 5))))
          (every_append f (updates (repair_updates kind p.number (get_or rs 4 0))) (tries_from address rs 10 0) repair_passes (tries_pass 10 0)))
          (rw d)

  -- the five writes, then the tail
  abbrev opening : List Step
  opening = Open ∷ updates (mux_updates notch (range_of hz))

  program : tune_steps address kind notch (Some p) hz rs ≡ opening ++ (updates (pll_updates p) ++ tail)
  unfolding inner_steps
  program = refl

  -- the divider that stands in 0x10 at the end
  unfoldable pub repaired : ℕ
  repaired = cond (ltb (power_of kind) (fine_of (get_or rs 4 0))) (p.number - 1) (cond (ltb (fine_of (get_or rs 4 0)) (power_of kind)) (p.number + 1) p.number)

module _ (os : List ℕ) (address : ℕ) (kind : Kind) (notch : Bool) (p : Plan) (hz : ℕ) (rs : List ℕ) (t : Trace) (long : Long os t) where
  abbrev end : Trace
  end = run in_list os (tune_steps address kind notch (Some p) hz rs) t

  module _ (g : end.progress ≡ Going) where
    by_program : (ss : List Step) → tune_steps address kind notch (Some p) hz rs ≡ ss → (run in_list os ss t).progress ≡ Going
    by_program ss e = ap (λ (l : List Step). (run in_list os l t).progress) (sym e) ∙ g

    abbrev open_first : List Step
    open_first = opening address kind notch p hz rs

    abbrev rest : List Step
    rest = tail address kind notch p hz rs

    -- 0x14
    pub whole_there : p.setting < 256 → Holds os 15 p.setting false end
    unfolding run every inner_steps
    whole_there s =
        let w = last_write os (open_first ++ (Mask 0x10 (p.number * 32) 0xe0 ∷ [])) 15 p.setting 0xff
        (Mask 0x16 (p.sum / 256) 0xff ∷ Mask 0x15 (p.sum % 256) 0xff ∷ Mask 0x12 (cond (eqb p.fraction 0) 0x08 0x00) 0x08 ∷ rest) t (omega arith) long refl
        (tail_passes address kind notch p hz rs (spares 15) (λ e. refl) refl refl (λ v. refl) refl) g in
        (w.1.0 ∙ whole_byte w.0 p.setting s, w.1.1)

    -- 0x16
    pub high_there : p.sum < 65_536 → Holds os 17 (p.sum / 256) false end
    unfolding run every inner_steps
    high_there s =
        let w = last_write os (open_first ++ (Mask 0x10 (p.number * 32) 0xe0 ∷ Mask 0x14 p.setting 0xff ∷ [])) 17 (p.sum / 256) 0xff
        (Mask 0x15 (p.sum % 256) 0xff ∷ Mask 0x12 (cond (eqb p.fraction 0) 0x08 0x00) 0x08 ∷ rest) t (omega arith) long refl
        (tail_passes address kind notch p hz rs (spares 17) (λ e. refl) refl refl (λ v. refl) refl) g in
        (w.1.0 ∙ whole_byte w.0 (p.sum / 256) (omega arith), w.1.1)

    -- 0x15
    pub low_there : Holds os 16 (p.sum % 256) false end
    unfolding run every inner_steps
    low_there =
        let w =
        last_write os (open_first ++ (Mask 0x10 (p.number * 32) 0xe0 ∷ Mask 0x14 p.setting 0xff ∷ Mask 0x16 (p.sum / 256) 0xff ∷ [])) 16 (p.sum % 256) 0xff
        (Mask 0x12 (cond (eqb p.fraction 0) 0x08 0x00) 0x08 ∷ rest) t (omega arith) long refl
        (tail_passes address kind notch p hz rs (spares 16) (λ e. refl) refl refl (λ v. refl) refl) g in
        (w.1.0 ∙ whole_byte w.0 (p.sum % 256) (omega arith), w.1.1)

    -- 0x12
    pub control_there : Controlled os (p.fraction ≡ 0) end
    unfolding run every inner_steps
    control_there =
        let v : ℕ = cond (eqb p.fraction 0) 0x08 0x00 in
        let head : List Step =
        open_first ++ (Mask 0x10 (p.number * 32) 0xe0 ∷ Mask 0x14 p.setting 0xff ∷ Mask 0x16 (p.sum / 256) 0xff ∷ Mask 0x15 (p.sum % 256) 0xff ∷ []) in
        let u : Trace = run in_list os (head ++ (Mask 0x12 v 0x08 ∷ [])) t in
        let app : end ≡ run in_list os rest u = run_app in_list os (head ++ (Mask 0x12 v 0x08 ∷ [])) rest t in
        let going : u.progress ≡ Going = going_before os rest u (ap (λ (z : Trace). z.progress) (sym app) ∙ g) in
        let w = last_write os head 13 v 0x08 [] t (omega arith) long refl refl going in
        let set-up : Controlled os (p.fraction ≡ 0) u = ((λ h. by_fraction w.0 (eqb p.fraction 0) refl (ap off (sym w.1.0) ∙ h)), w.1.1) in
        let after : Steady os (p.fraction ≡ 0) (run in_list os rest u) =
        steady os (p.fraction ≡ 0) rest u (tail_passes address kind notch p hz rs (clears os (p.fraction ≡ 0)) (λ e. refl) refl refl (λ x. refl) refl)
        (long_run os (head ++ (Mask 0x12 v 0x08 ∷ [])) t refl long, λ z. set-up) in
        subst (Controlled os (p.fraction ≡ 0)) (sym app) (after.1 (ap (λ (z : Trace). z.progress) (sym app) ∙ g))
      where
        by_fraction : (old : ℕ) (b : Bool) → eqb p.fraction 0 ≡ b → off (mask_of old (cond b 0x08 0x00) 0x08) ≡ true → p.fraction ≡ 0
        by_fraction old true e h = eqb-true p.fraction 0 e
        by_fraction old false e h = absurd (false≢true (sym (ap (λ (x : ℕ). eqb x 1) (control_bit old 0x00)) ∙ h))

    -- 0x10: its three high bits, and no doubt
    abbrev Divided : ℕ → Type 0
    Divided k = (get_or end.chip.shadow 11 0 / 32 ≡ k) × (get_or end.chip.doubtful 11 true ≡ false)

    -- with these repairs, whatever they are
    abbrev with_repair : List Update → List Step
    with_repair us = open_first ++ (updates (pll_updates p) ++ ((status_steps address rs ++ (updates us ++ tries_from address rs 10 0)) ++ (Close ∷ [])))

    late_spares : every (spares 11) (tries_from address rs 10 0 ++ (Close ∷ [])) ≡ true
    unfolding every
    late_spares =
        every_append (spares 11) (tries_from address rs 10 0) (Close ∷ []) (tries_pass address kind notch p hz rs (spares 11) (λ e. refl) refl refl 10 0) refl

    repaired_so : (k : ℕ) → k < 8 → (run in_list os (with_repair (masked 0x10 (k * 32) 0xe0 ∷ [])) t).progress ≡ Going
        → (get_or (run in_list os (with_repair (masked 0x10 (k * 32) 0xe0 ∷ [])) t).chip.shadow 11 0 / 32 ≡ k)
        × (get_or (run in_list os (with_repair (masked 0x10 (k * 32) 0xe0 ∷ [])) t).chip.doubtful 11 true ≡ false)
    unfolding run every
    repaired_so k h e =
        let w =
        last_write os (open_first ++ (updates (pll_updates p) ++ status_steps address rs)) 11 (k * 32) 0xe0 (tries_from address rs 10 0 ++ (Close ∷ [])) t (omega arith) long refl late_spares e in
        (ap (λ (y : ℕ). y / 32) w.1.0 ∙ high_bits w.0 k h, w.1.1)

    unrepaired : p.number < 8 → (run in_list os (with_repair []) t).progress ≡ Going
        → (get_or (run in_list os (with_repair []) t).chip.shadow 11 0 / 32 ≡ p.number) × (get_or (run in_list os (with_repair []) t).chip.doubtful 11 true ≡ false)
    unfolding run every
    unrepaired h e =
        let w = last_write os open_first 11 (p.number * 32) 0xe0
        (Mask 0x14 p.setting 0xff ∷ Mask 0x16 (p.sum / 256) 0xff ∷ Mask 0x15 (p.sum % 256) 0xff ∷ Mask 0x12 (cond (eqb p.fraction 0) 0x08 0x00) 0x08 ∷ (status_steps address rs ++ (tries_from address rs 10 0 ++ (Close ∷ []))))
        t (omega arith) long refl late_spares e in
        (ap (λ (y : ℕ). y / 32) w.1.0 ∙ high_bits w.0 p.number h, w.1.1)

    pub divider_there : p.number ≤ 5 → Divided (repaired address kind notch p hz rs)
    unfolding inner_steps repair_updates repaired
    divider_there h = go (ltb (power_of kind) (fine_of (get_or rs 4 0))) refl (ltb (fine_of (get_or rs 4 0)) (power_of kind)) refl
      where
        Ends : List Step → ℕ → Type 0
        Ends ss k = (get_or (run in_list os ss t).chip.shadow 11 0 / 32 ≡ k) × (get_or (run in_list os ss t).chip.doubtful 11 true ≡ false)

        go : (y : Bool) → ltb (power_of kind) (fine_of (get_or rs 4 0)) ≡ y → (z : Bool) → ltb (fine_of (get_or rs 4 0)) (power_of kind) ≡ z
            → Divided (repaired address kind notch p hz rs)
        go true e z f =
            let same : tune_steps address kind notch (Some p) hz rs ≡ with_repair (masked 0x10 ((p.number - 1) * 32) 0xe0 ∷ []) = rw e in
            let is : repaired address kind notch p hz rs ≡ p.number - 1 = rw e in
            subst Divided (sym is) (subst (λ (ss : List Step). Ends ss (p.number - 1)) (sym same) (repaired_so (p.number - 1) (omega arith) (by_program _ same)))
        go false e true f =
            let same : tune_steps address kind notch (Some p) hz rs ≡ with_repair (masked 0x10 ((p.number + 1) * 32) 0xe0 ∷ []) = rw (e, f) in
            let is : repaired address kind notch p hz rs ≡ p.number + 1 = rw (e, f) in
            subst Divided (sym is) (subst (λ (ss : List Step). Ends ss (p.number + 1)) (sym same) (repaired_so (p.number + 1) (omega arith) (by_program _ same)))
        go false e false f =
            let same : tune_steps address kind notch (Some p) hz rs ≡ with_repair [] = rw (e, f) in
            let is : repaired address kind notch p hz rs ≡ p.number = rw (e, f) in
            subst Divided (sym is) (subst (λ (ss : List Step). Ends ss p.number) (sym same) (unrepaired (omega arith) (by_program _ same)))

-- Each entry of a fine program fits the table, so that its section is read back to exactly its entries, and there is at most one for each step.
-- Assumes nothing.
use Prim.Native.Nat.{ℕ, suc, ◌-◌, ◌≤◌, ◌<◌}
use mathlib.Core.Path.{◌≡◌, refl, sym, ap, ◌∙◌}
use mathlib.Core.Bool.{Bool, true, false, ◌&&◌, ◌||◌, or-true, false≢true, cond}
use mathlib.Core.List.{List, [], ◌∷◌, ◌++◌}
use native.Mathlib.Omega.{arith}
use borrow.Author.Tests.{eqb-false, leb-true, eq-eqb, le-leb}
use lib.Dec.{T, eqb, leb, leb-zero}
use lib.ListN.{length, get_or, drop}
use Rattle.below.proofs.Test.{below}
use Rattle.transcript.specs.declared.Entry.{Entry}
use Rattle.transcript.specs.Table.{address_most, first_most, is_read, n_high, n_low, outcome_most, row_fits, target_most}
use Rattle.transcript.specs.Entries.{entry_fits, kept_by, zeros, zeros8}
use Rattle.transcript.specs.Sections.{AllFit, Parted, section_bytes}
use Rattle.transcript.proofs.Reading.{both}
use Rattle.transcript.proofs.Exact.{written_then_read}
use Rattle.chip.specs.declared.Chip.{Chip}
use Rattle.chip.specs.declared.Progress.TheVariants.{Going}
use Rattle.chip.specs.Chips.{masked_byte, pair}
use Rattle.chip.specs.Entries.{flag_of, repeater, with_outcome, written}
use Rattle.chip.specs.Steps.{Step, Trace, acts, emit, every, in_list, line, ok_for, taken, trace}
use Rattle.chip.specs.Steps.Step.{Open, Close, Send, Mask, Plain}
use Rattle.history.specs.Programs.{beside, fine, fine_plain}
use Rattle.chip.proofs.Laws.{after_address}
use Rattle.history.proofs.Runs.{run_counted, run_keeps, run_most}
use Rattle.history.proofs.Tracked.{aside_of, sent_of_lem}

-- ---- an entry

repeater_fits : (on : ℕ) (ok : Bool) → on ≤ 1 → entry_fits (repeater on ok) ≡ true
unfolding entry_fits row_fits zeros n_low n_high outcome_most target_most address_most first_most
repeater_fits on true h = rw (le-leb on 1 h)
repeater_fits on false h = rw (le-leb on 1 h)

flag_one : (ok : Bool) → leb (flag_of ok) 1 ≡ true
flag_one true = refl
flag_one false = refl

pub written_fits : (address n : ℕ) (bytes : List ℕ) (ok : Bool) → address ≤ 255 → 1 ≤ n → n ≤ 8 → get_or bytes 0 0 ≤ 255 → length bytes ≡ 8 → zeros (drop n bytes) ≡ true
    → entry_fits (written address n bytes ok) ≡ true
unfolding entry_fits row_fits n_low n_high outcome_most target_most address_most first_most
written_fits address n bytes ok a l h b e z =
    rw (flag_one ok, le-leb address 255 a, le-leb 1 n l, le-leb n 8 h, le-leb (get_or bytes 0 0) 255 b, eq-eqb (length bytes) 8 e, z)

pub test_true : (b : Bool) → T b → b ≡ true
test_true true t = refl
test_true false t = absurd t

-- each kind but a wait may fail: one computed test of the column
may_fail : (k : ℕ) → 1 ≤ k → k < 9 → leb 1 (get_or outcome_most k 0) ≡ true
unfolding outcome_most
may_fail k l h =
    let here : suc (k - 1) ≡ k = omega arith in
    ap (λ (j : ℕ). leb 1 (get_or outcome_most j 0)) (sym here)
    ∙ test_true (leb 1 (get_or outcome_most (suc (k - 1)) 0)) (below (λ (j : ℕ). leb 1 (get_or outcome_most (suc j) 0)) 8 tt (k - 1) (omega arith))

-- a row with another outcome and another first byte
row_failed : (k t n a b d : ℕ) → eqb k 9 ≡ false → leb d (get_or first_most k 0) ≡ true → row_fits k 0 t n a b ≡ true → row_fits k 1 t n a d ≡ true
unfolding row_fits
row_failed k t n a b d w z h =
    let t1 = leb k 9 in
    let t2 = leb 1 k in
    let t3 = leb 0 (get_or outcome_most k 0) in
    let t4 = leb t (get_or target_most k 0) in
    let t5 = leb (get_or n_low k 0) n in
    let t6 = leb n (get_or n_high k 0) in
    let t7 = leb a (get_or address_most k 0) in
    let t8 = leb b (get_or first_most k 0) in
    let r8 = both (t1 && t2 && t3 && t4 && t5 && t6 && t7) t8 h in
    let r7 = both (t1 && t2 && t3 && t4 && t5 && t6) t7 r8.0 in
    let r6 = both (t1 && t2 && t3 && t4 && t5) t6 r7.0 in
    let r5 = both (t1 && t2 && t3 && t4) t5 r6.0 in
    let r4 = both (t1 && t2 && t3) t4 r5.0 in
    let r3 = both (t1 && t2) t3 r4.0 in
    let r2 = both t1 t2 r3.0 in
    let most : k ≤ 9 = leb-true k 9 r2.0 in
    let some : 1 ≤ k = leb-true 1 k r2.1 in
    let fails : leb 1 (get_or outcome_most k 0) ≡ true = may_fail k some (less most) in
    rw (r2.0, r2.1, fails, r4.1, r5.1, r6.1, r7.1, z)
  where
    less : k ≤ 9 → k < 9
    less h9 = go (eqb-false k 9 w)
      where
        go : (k ≡ 9 → ⊥) → k < 9
        go differs = omega arith

first_fits : (k t n a b : ℕ) → row_fits k 0 t n a b ≡ true → leb b (get_or first_most k 0) ≡ true
unfolding row_fits
first_fits k t n a b h =
    (both
    (leb k 9 && leb 1 k && leb 0 (get_or outcome_most k 0) && leb t (get_or target_most k 0) && leb (get_or n_low k 0) n && leb n (get_or n_high k 0) && leb a
    (get_or address_most k 0)) (leb b (get_or first_most k 0)) h).1

abbrev entry : ℕ → ℕ → ℕ → ℕ → ℕ → List ℕ → Entry
entry k o t n a bs = record { kind = k; outcome = o; target = t; n = n; address = a; bytes = bs }

fails_as : (k t n a : ℕ) (bs : List ℕ) (read : Bool) → is_read k ≡ read → eqb k 9 ≡ false
    → entry_fits (entry k 0 t n a (cond (read && false) zeros8 bs)) ≡ true → entry_fits (entry k 1 t n a (cond (read && true) zeros8 bs)) ≡ true
unfolding entry_fits zeros
fails_as k t n a bs true r w h =
    let p = both (row_fits k 0 t n a (get_or bs 0 0) && eqb (length bs) 8) (zeros (drop (kept_by k 0 n) bs)) h in
    let q = both (row_fits k 0 t n a (get_or bs 0 0)) (eqb (length bs) 8) p.0 in
    rw (row_failed k t n a (get_or bs 0 0) 0 w (leb-zero (get_or first_most k 0)) q.0, r)
fails_as k t n a bs false r w h =
    let p = both (row_fits k 0 t n a (get_or bs 0 0) && eqb (length bs) 8) (zeros (drop (kept_by k 0 n) bs)) h in
    let q = both (row_fits k 0 t n a (get_or bs 0 0)) (eqb (length bs) 8) p.0 in
    let z : zeros (drop n bs) ≡ true = rw r at p.1 in
    rw (row_failed k t n a (get_or bs 0 0) (get_or bs 0 0) w (first_fits k t n a (get_or bs 0 0) q.0) q.0, q.1, r, z)

-- an entry that fits when its step is done fits when it failed, a wait aside
failed_fits : (e : Entry) → entry_fits (with_outcome e true) ≡ true → eqb e.kind 9 ≡ false → entry_fits (with_outcome e false) ≡ true
failed_fits e h w = fails_as e.kind e.target e.n e.address e.bytes (is_read e.kind) refl w h

settled_fits : (e : Entry) (ok : Bool) → fine_plain e ≡ true → (eqb e.kind 9 ≡ true → ok ≡ true) → entry_fits (with_outcome e ok) ≡ true
settled_fits e true f w = (aside_of e f).fits
settled_fits e false f w = go (eqb e.kind 9) refl
  where
    go : (b : Bool) → eqb e.kind 9 ≡ b → entry_fits (with_outcome e false) ≡ true
    go true k = absurd (false≢true (w k))
    go false k = failed_fits e (aside_of e f).fits k

wait_done : (o : Bool) (k : ℕ) → eqb k 9 ≡ true → (o || eqb k 9) ≡ true
wait_done o k h = ap (λ (b : Bool). o || b) h ∙ or-true o

beside_fine : (s : Step) → beside s ≡ true → fine s ≡ true
beside_fine Open b = refl
beside_fine Close b = refl
beside_fine (Send n bytes) b = absurd (false≢true b)
beside_fine (Mask r v m) b = absurd (false≢true b)
beside_fine (Plain e) b = b

emit_fits : (os : List ℕ) (k : ℕ) (s : Step) (c : Chip) → fine s ≡ true → (beside s ≡ false → c.address ≤ 255)
    → entry_fits (emit s c (ok_for os k s)) ≡ true
unfolding zeros
emit_fits os k Open c f a = repeater_fits 1 (ok_for os k Open) (omega arith)
emit_fits os k Close c f a = repeater_fits 0 (ok_for os k Close) (omega arith)
emit_fits os k (Send n bytes) c f a =
    let s = sent_of_lem n bytes f in
    written_fits c.address n bytes (ok_for os k (Send n bytes)) (a refl) (omega (arith, s.two)) s.most (omega (arith, s.high)) s.eight s.padded
emit_fits os k (Mask r v m) c f a =
    let high : r ≤ 31 = leb-true r 31 (both (leb 5 r) (leb r 31) f).1 in
    written_fits c.address 2 (pair r (masked_byte c r v m)) (ok_for os k (Mask r v m)) (a refl) (omega arith) (omega arith) (omega arith) refl refl
emit_fits os k (Plain e) c f a = settled_fits e (ok_for os k (Plain e)) f (wait_done (eqb (get_or os k 0) 0) e.kind)

-- ---- a program

pub fit_append : (xs ys : List Entry) → AllFit xs → AllFit ys → AllFit (xs ++ ys)
fit_append [] ys h k = k
fit_append (x ∷ xs) ys h k = (h.0, fit_append xs ys h.1 k)

record Fitting (t : Trace) : Type 0 where
  chip : t.chip.address ≤ 255
  fit : AllFit t.log

fitting_step : (os : List ℕ) (s : Step) (t : Trace) → fine s ≡ true → acts s t.progress t.opened ≡ true → Fitting t → Fitting (taken in_list os (ok_for os t.count s) s t)
fitting_step os s t f a h =
    record {
      chip = omega (arith, h.chip, after_address s t.chip (ok_for os t.count s));
      fit = fit_append t.log (emit s t.chip (ok_for os t.count s) ∷ []) h.fit (emit_fits os t.count s t.chip f (λ b. h.chip), tt);
    }

module _ (os : List ℕ) (ss : List Step) (c : Chip) where
  -- the count is that of the entries
  pub counted_trace : (trace os ss c).count ≡ length (trace os ss c).log
  unfolding trace
  counted_trace = run_counted os ss (line c [] 0 Going false) refl

  -- one for each step at most
  pub most_trace : length (trace os ss c).log ≤ length ss
  unfolding trace
  most_trace = omega (arith, run_most os ss (line c [] 0 Going false), run_counted os ss (line c [] 0 Going false) refl)

  -- each fits the table
  pub fit_trace : every fine ss ≡ true → c.address ≤ 255 → AllFit (trace os ss c).log
  unfolding trace
  fit_trace f a = (run_keeps os Fitting fine (fitting_step os) ss (line c [] 0 Going false) f (record { chip = a; fit = tt })).fit

  -- and their section is read back to them, with what stood before it
  pub read_trace : every fine ss ≡ true → c.address ≤ 255 → length ss ≤ 4096 → (p : List ℕ)
      → Parted (p ++ section_bytes (trace os ss c).log) p (trace os ss c).log
  read_trace f a m p = written_then_read p (trace os ss c).log (fit_trace f a) (omega (arith, most_trace))

-- the same of a program that attempts no register, over any chip
pub fit_beside : (os : List ℕ) (ss : List Step) (k : Chip) → every beside ss ≡ true → AllFit (trace os ss k).log
unfolding trace
fit_beside os ss k b =
    run_keeps os (λ (t : Trace). AllFit t.log) beside
    (λ s t f a h.
    fit_append t.log (emit s t.chip (ok_for os t.count s) ∷ []) h
    (emit_fits os t.count s t.chip (beside_fine s f) (λ n. absurd (false≢true (sym n ∙ f))), tt)) ss (line k [] 0 Going false) b tt

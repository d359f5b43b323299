-- The record follows the entries of a program: one law for a write of n bytes, which masked writes are too, and one for all other entries.
-- Assumes nothing.
use Prim.Native.Nat.{ℕ, zero, suc, ◌+◌, ◌-◌, ◌≤◌, ◌<◌}
use mathlib.Core.Path.{◌≡◌, refl, sym, ap, subst, ◌∙◌}
use mathlib.Core.Bool.{Bool, true, false, not, ◌&&◌, ◌||◌}
use mathlib.Core.List.{List, [], ◌∷◌, ◌++◌, append_assoc, append-nil}
use native.Mathlib.Omega.{arith}
use native.Mathlib.Nat.{add-zero}
use borrow.Author.Tests.{eqb-true, leb-true, leb-false, ltb-true, ltb-false, not-true}
use lib.Dec.{eqb, leb, ltb}
use lib.ListN.{length, get_or, take, drop, set, replicate, length-drop, length-replicate, get_or-replicate, length-set}
use lib.Seq.{sets, length-sets, length-take-le, get_or-take, get_or-drop, get_or-set_same, get_or-set_other}
use Rattle.transcript.specs.declared.Entry.{Entry}
use Rattle.transcript.specs.Entries.{entry_fits, zeros}
use Rattle.transcript.proofs.Reading.{both}
use Rattle.attempts.specs.Attempts.{byte_in, done, doubt_in, last_in, names, sent_to, tuner_at}
use Rattle.attempts.specs.Namings.Last.{Tried}
use Rattle.attempts.proofs.Named.{named, other_kind, below_first, past_last, one_byte}
use Rattle.attempts.proofs.Lasts.{last_snoc, last_same}
use Rattle.chip.specs.declared.Chip.{Chip}
use Rattle.chip.specs.declared.Progress.TheVariants.{Going}
use Rattle.chip.specs.Chips.{attempted_by, masked_byte, pair}
use Rattle.chip.specs.Entries.{flag_of, with_outcome, written}
use Rattle.chip.specs.Steps.{Step, Trace, chip_after, emit, every, line, ok_for, trace}
use Rattle.chip.specs.Steps.Step.{Open, Close, Send, Mask, Plain}
use Rattle.history.specs.Programs.{fine, fine_plain, fine_send}
use Rattle.history.specs.Histories.{Tracks}
use Rattle.history.proofs.Runs.{run_keeps}

-- ---- a list after stores, element by element

module _ {A : Type 0} (d : A) where
  sets_below : (l : List A) (at : ℕ) (vs : List A) (i : ℕ) → i < at → get_or (sets l at vs) i d ≡ get_or l i d
  sets_below l at [] i h = refl
  sets_below l at (v ∷ vs) i h = sets_below (set l at v) (suc at) vs i (omega arith) ∙ get_or-set_other l at i v d (λ e. omega arith)

  sets_past : (l : List A) (at : ℕ) (vs : List A) (i : ℕ) → at + length vs ≤ i → get_or (sets l at vs) i d ≡ get_or l i d
  sets_past l at [] i h = refl
  sets_past l at (v ∷ vs) i h = sets_past (set l at v) (suc at) vs i (omega arith) ∙ get_or-set_other l at i v d (λ e. omega arith)

  sets_in : (l : List A) (at : ℕ) (vs : List A) (j : ℕ) → j < length vs → at + length vs ≤ length l → get_or (sets l at vs) (at + j) d ≡ get_or vs j d
  sets_in l at [] j h k = absurd (omega arith)
  sets_in l at (v ∷ vs) zero h k =
      ap (λ (m : ℕ). get_or (sets (set l at v) (suc at) vs) m d) (add-zero at)
      ∙ sets_below (set l at v) (suc at) vs at (omega arith)
      ∙ get_or-set_same l at v d (omega arith)
  sets_in l at (v ∷ vs) (suc j) h k =
      let next : at + suc j ≡ suc at + j = omega arith in
      ap (λ (m : ℕ). get_or (sets (set l at v) (suc at) vs) m d) next
      ∙ sets_in (set l at v) (suc at) vs j (omega arith) (omega (arith, length-set l at v))

  pub sets_at : (l : List A) (at : ℕ) (vs : List A) (i : ℕ) → at ≤ i → i < at + length vs → at + length vs ≤ length l
      → get_or (sets l at vs) i d ≡ get_or vs (i - at) d
  sets_at l at vs i h k m =
      let here : i ≡ at + (i - at) = omega arith in
      ap (λ (j : ℕ). get_or (sets l at vs) j d) here ∙ sets_in l at vs (i - at) (omega arith) m

-- ---- what the tests say

pub record Sent (n : ℕ) (bytes : List ℕ) : Type 0 where
  pub two : 2 ≤ n
  pub most : n ≤ 8
  pub low : 5 ≤ get_or bytes 0 0
  pub high : get_or bytes 0 0 + n ≤ 33
  pub eight : length bytes ≡ 8
  pub padded : zeros (drop n bytes) ≡ true

pub sent_of_lem : (n : ℕ) (bytes : List ℕ) → fine_send n bytes ≡ true → Sent n bytes
unfolding fine_send
sent_of_lem n bytes h =
    let t1 = leb 2 n in
    let t2 = leb n 8 in
    let t3 = leb 5 (get_or bytes 0 0) in
    let t4 = leb (get_or bytes 0 0 + n) 33 in
    let t5 = eqb (length bytes) 8 in
    let t6 = zeros (drop n bytes) in
    let p = both (t1 && t2 && t3 && t4 && t5) t6 h in
    let q = both (t1 && t2 && t3 && t4) t5 p.0 in
    let r = both (t1 && t2 && t3) t4 q.0 in
    let s = both (t1 && t2) t3 r.0 in
    let u = both t1 t2 s.0 in
    record {
      two = leb-true 2 n u.0;
      most = leb-true n 8 u.1;
      low = leb-true 5 (get_or bytes 0 0) s.1;
      high = leb-true (get_or bytes 0 0 + n) 33 r.1;
      eight = eqb-true (length bytes) 8 q.1;
      padded = p.1;
    }

pub record Aside (e : Entry) : Type 0 where
  pub fits : entry_fits (with_outcome e true) ≡ true
  pub kind : eqb e.kind 1 ≡ false
  pub none : (not (eqb e.kind 2) || eqb e.n 1) ≡ true

pub aside_of : (e : Entry) → fine_plain e ≡ true → Aside e
unfolding fine_plain
aside_of e h =
    let t1 = entry_fits (with_outcome e true) in
    let t2 = not (eqb e.kind 1) in
    let t3 = not (eqb e.kind 2) || eqb e.n 1 in
    let p = both (t1 && t2) t3 h in
    let q = both t1 t2 p.0 in
    record { fits = q.0; kind = not-true (eqb e.kind 1) q.1; none = p.1 }

pub done_flag : (ok : Bool) → eqb (flag_of ok) 0 ≡ ok
done_flag true = refl
done_flag false = refl

-- ---- a write of n bytes

module _ (init : List ℕ) (c : Chip) (es : List Entry) (n : ℕ) (bytes : List ℕ) (ok : Bool)
    (two : 2 ≤ n) (long : n ≤ length bytes) (low : 5 ≤ get_or bytes 0 0) (high : get_or bytes 0 0 + n ≤ 33) (follows : Tracks init c es) where
  abbrev first : ℕ
  first = get_or bytes 0 0

  abbrev e : Entry
  e = written c.address n bytes ok

  abbrev sent : List ℕ
  sent = take (n - 1) (drop 1 bytes)

  sent_long : length sent ≡ n - 1
  sent_long = length-take-le (n - 1) (drop 1 bytes) (omega (arith, length-drop 1 bytes))

  abbrev marks : List Bool
  marks = replicate (n - 1) (not ok)

  marks_long : length marks ≡ n - 1
  marks_long = length-replicate (n - 1) (not ok)

  -- the record at register 5 + i follows the entries
  abbrev At : ℕ → Type 0
  At i =
      (get_or (sets c.doubtful (first - 5) marks) i true ≡ doubt_in (last_in c.address (es ++ (e ∷ [])) (5 + i)))
      × (get_or (sets c.shadow (first - 5) sent) i 0 ≡ byte_in (get_or init i 0) (last_in c.address (es ++ (e ∷ [])) (5 + i)))

  module _ (i : ℕ) (l : first ≤ 5 + i) (k : 5 + i < first + (n - 1)) where
    last : last_in c.address (es ++ (e ∷ [])) (5 + i) ≡ Tried (sent_to e (5 + i)) (done e)
    last = last_snoc (tuner_at c.address) es e (5 + i) ∙ rw (named c.address e (5 + i) refl refl l k)

    mark : get_or (sets c.doubtful (first - 5) marks) i true ≡ not (done e)
    mark =
        sets_at true c.doubtful (first - 5) marks i (omega arith) (omega (arith, marks_long)) (omega (arith, marks_long, follows.marks))
        ∙ get_or-replicate (n - 1) (i - (first - 5)) (not ok) true (omega arith)
        ∙ ap not (sym (done_flag ok))

    place : 1 + (i - (first - 5)) ≡ 5 + i - first + 1
    place = omega arith

    byte : get_or (sets c.shadow (first - 5) sent) i 0 ≡ sent_to e (5 + i)
    byte =
        sets_at 0 c.shadow (first - 5) sent i (omega arith) (omega (arith, sent_long)) (omega (arith, sent_long, follows.bytes))
        ∙ get_or-take (n - 1) (drop 1 bytes) (i - (first - 5)) 0 (omega arith)
        ∙ get_or-drop 1 bytes (i - (first - 5)) 0
        ∙ ap (λ (j : ℕ). get_or bytes j 0) place

    inside : At i
    inside = (mark ∙ sym (ap doubt_in last), byte ∙ sym (ap (byte_in (get_or init i 0)) last))

  outside : (i : ℕ) → i < 27 → names c.address e (5 + i) ≡ false
      → get_or (sets c.doubtful (first - 5) marks) i true ≡ get_or c.doubtful i true
      → get_or (sets c.shadow (first - 5) sent) i 0 ≡ get_or c.shadow i 0
      → At i
  outside i h none p q =
      let last = last_same (tuner_at c.address) es e (5 + i) none in
      (p ∙ follows.doubtful i h ∙ sym (ap doubt_in last), q ∙ follows.shadow i h ∙ sym (ap (byte_in (get_or init i 0)) last))

  at : (i : ℕ) → i < 27 → At i
  at i h = go (leb first (5 + i)) (ltb (5 + i) (first + (n - 1))) refl refl
    where
      go : (a b : Bool) → leb first (5 + i) ≡ a → ltb (5 + i) (first + (n - 1)) ≡ b → At i
      go true true l k = inside i (leb-true first (5 + i) l) (ltb-true (5 + i) (first + (n - 1)) k)
      go true false l k =
          let past : first + (n - 1) ≤ 5 + i = ltb-false (5 + i) (first + (n - 1)) k in
          outside i h (past_last c.address e (5 + i) past)
          (sets_past true c.doubtful (first - 5) marks i (omega (arith, marks_long)))
          (sets_past 0 c.shadow (first - 5) sent i (omega (arith, sent_long)))
      go false b l k =
          let under : 5 + i < first = leb-false first (5 + i) l in
          outside i h (below_first c.address e (5 + i) under)
          (sets_below true c.doubtful (first - 5) marks i (omega arith))
          (sets_below 0 c.shadow (first - 5) sent i (omega arith))

  -- a write's record follows its entry
  pub tracks_write : Tracks init (attempted_by c n bytes ok) (es ++ (e ∷ []))
  unfolding attempted_by
  tracks_write =
      record {
        chip = follows.chip;
        marks = length-sets c.doubtful (first - 5) marks ∙ follows.marks;
        bytes = length-sets c.shadow (first - 5) sent ∙ follows.bytes;
        doubtful = λ i h. (at i h).0;
        shadow = λ i h. (at i h).1;
      }

-- ---- any other entry

-- entries that name no register of the chip
pub tracks_quiet : (init : List ℕ) (c : Chip) (es : List Entry) (e : Entry) → ((r : ℕ) → names c.address e r ≡ false) → Tracks init c es → Tracks init c (es ++ (e ∷ []))
tracks_quiet init c es e none follows =
    record {
      chip = follows.chip;
      marks = follows.marks;
      bytes = follows.bytes;
      doubtful = λ i h. follows.doubtful i h ∙ sym (ap doubt_in (last_same (tuner_at c.address) es e (5 + i) (none (5 + i))));
      shadow = λ i h. follows.shadow i h ∙ sym (ap (byte_in (get_or init i 0)) (last_same (tuner_at c.address) es e (5 + i) (none (5 + i))));
    }

pub plain_none : (address : ℕ) (e : Entry) (ok : Bool) → fine_plain e ≡ true → (r : ℕ) → names address (with_outcome e ok) r ≡ false
plain_none address e ok h r = go (eqb e.kind 2) refl
  where
    go : (b : Bool) → eqb e.kind 2 ≡ b → names address (with_outcome e ok) r ≡ false
    go false k = other_kind address (with_outcome e ok) r k
    go true k =
        let one : e.n ≡ 1 = eqb-true e.n 1 (rw k at (aside_of e h).none) in
        one_byte address (with_outcome e ok) r (omega arith)

-- ---- a step, and a program

tracks_step : (init : List ℕ) (s : Step) (c : Chip) (es : List Entry) (ok : Bool) → fine s ≡ true → Tracks init c es
    → Tracks init (chip_after s c ok) (es ++ (emit s c ok ∷ []))
tracks_step init Open c es ok h t = tracks_quiet init c es (emit Open c ok) (λ r. other_kind c.address (emit Open c ok) r refl) t
tracks_step init Close c es ok h t = tracks_quiet init c es (emit Close c ok) (λ r. other_kind c.address (emit Close c ok) r refl) t
tracks_step init (Send n bytes) c es ok h t =
    let s = sent_of_lem n bytes h in
    tracks_write init c es n bytes ok s.two (omega (arith, s.most, s.eight)) s.low s.high t
tracks_step init (Mask r v m) c es ok h t =
    let b : ℕ = masked_byte c r v m in
    let p = both (leb 5 r) (leb r 31) h in
    let low : 5 ≤ r = leb-true 5 r p.0 in
    let high : r + 2 ≤ 33 = omega (arith, leb-true r 31 p.1) in
    tracks_write init c es 2 (pair r b) ok (omega arith) (omega arith) low high t
tracks_step init (Plain e) c es ok h t = tracks_quiet init c es (with_outcome e ok) (plain_none c.address e ok h) t

-- the record follows the entries before a program and its own, wherever the program stopped
pub tracks_trace : (init : List ℕ) (c : Chip) (es : List Entry) (os : List ℕ) (ss : List Step) → every fine ss ≡ true → Tracks init c es
    → Tracks init (trace os ss c).chip (es ++ (trace os ss c).log)
unfolding trace
tracks_trace init c es os ss f t =
    run_keeps os (λ (u : Trace). Tracks init u.chip (es ++ u.log)) fine
    (λ s u g a q.
    subst (Tracks init (chip_after s u.chip (ok_for os u.count s))) (append_assoc es u.log (emit s u.chip (ok_for os u.count s) ∷ []))
    (tracks_step init s u.chip (es ++ u.log) (ok_for os u.count s) g q)) ss (line c [] 0 Going false) f
    (subst (Tracks init c) (sym (append-nil es)) t)

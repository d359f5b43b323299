-- What a host has that drives a receiver in rounds. Assumes nothing.
use Prim.Native.Nat.{ℕ, suc, ◌+◌, ◌*◌, ◌-◌, ◌≤◌, ◌<◌}
use mathlib.Core.Path.{◌≡◌, refl, sym, ap, subst, ◌∙◌}
use mathlib.Core.Bool.{Bool, true, false, cond, ◌&&◌, ◌||◌, or-false, true≢false}
use mathlib.Core.List.{List, [], ◌∷◌, ◌++◌, append-nil, map}
use native.Mathlib.Omega.{arith}
use borrow.Author.Tests.{eqb-false, eqb-true, ltb-true, ltb-false}
use lib.Dec.{eqb, leb, ltb}
use lib.ListN.{get_or-append, drop, get_or, length, length-append, length-drop, take, take-append-drop}
use lib.Seq.{drop-append_seam, get_or-append_seam, get_or-drop, get_or-take, length-take-le, sets, take-add, take-append-add, take-append_seam, take-take}
use Rattle.refusals.specs.Table.{SETUP, ROOM, OUTCOMES, REPLIES}
use Rattle.transcript.specs.declared.Entry.{Entry}
use Rattle.transcript.specs.Entries.{bare, zeros8}
use Rattle.transcript.specs.Table.{is_read}
use Rattle.attempts.specs.Attempts.{Lands, Played, Regs, done, names, tuner_at}
use Rattle.attempts.proofs.Named.{other_kind}
use Rattle.attempts.proofs.Played.{played_append}
use Rattle.chip.specs.declared.Chip.{Chip}
use Rattle.chip.specs.declared.Progress.TheVariants.{Going}
use Rattle.chip.specs.Entries.{flag_of}
use Rattle.chip.specs.Calls.{too_short}
use Rattle.chip.specs.Courses.{Asked, Course, asked_by, entries_by, most_of}
use Rattle.chip.specs.Courses.Course.{Still, Taken}
use Rattle.chip.specs.Steps.{Step, Trace, emit, every, line, ok_for, trace}
use Rattle.chip.specs.Steps.Step.{Open, Close, Send, Mask, Plain}
use Rattle.demod.specs.Calls.Order.{Baseband, LowIf, ZeroIf, Reset, Direct, Start, Stop, IfXtal, RateXtal}
use Rattle.device.specs.Calls.{no_chip}
use Rattle.device.specs.Gpio.Order.{Output, Bit}
use Rattle.history.proofs.Runs.{counted_taken, run_always}
use Rattle.history.proofs.Tracked.{done_flag}
use Rattle.r82xx.specs.declared.Tuner.{Tuner}
use Rattle.sequences.specs.Asides.{Other, aside, aside_asked, aside_given, aside_most, aside_row}
use Rattle.sequences.specs.Asides.Other.{Pin, Demod}
use Rattle.sequences.specs.Calls.{Call, Order, asked, call, given, is_byte, row_of, sound_for, tuner_after}
use Rattle.sequences.specs.Sequences.{Sequence}
use Rattle.sequences.specs.Sequences.Sequence.{next, between}
use Rattle.sequences.proofs.Most.{most_aside, most_entries}
use Rattle.sequences.proofs.Views.{row_few}
use Rattle.rounds.specs.Driven.{Kept, Knows, Rounds, Continued, Touched, ended}
use Rattle.rounds.specs.Driven.RoundsBy.{begun, round}
use Rattle.rounds.specs.Scripts.{Agree, Ask, By, Fills, InOrder, Same, Script, made, order_with, other_with, refusal, step_at, takes, took}
use Rattle.rounds.specs.Scripts.Ask.{On, Beside}
use Rattle.rounds.proofs.Alike.{took_append}
use Rattle.rounds.proofs.Rounds.{depends_on_before, in_order}

-- ---- outcomes

-- a wait is no read
read_by : (o : ℕ) (e : Entry) → By o e → (is_read e.kind && done e) ≡ (is_read e.kind && eqb o 0)
read_by o e h = ap (λ (b : Bool). is_read e.kind && b) (ap (λ (x : ℕ). eqb x 0) h ∙ done_flag (eqb o 0 || eqb e.kind 9)) ∙ go (eqb e.kind 9) refl
  where
    go : (w : Bool) → eqb e.kind 9 ≡ w → (is_read e.kind && (eqb o 0 || eqb e.kind 9)) ≡ (is_read e.kind && eqb o 0)
    go true q = subst (λ (x : ℕ). (is_read x && (eqb o 0 || eqb x 9)) ≡ (is_read x && eqb o 0)) (sym (eqb-true e.kind 9 q)) refl
    go false q = ap (λ (c : Bool). is_read e.kind && (eqb o 0 || c)) q ∙ ap (λ (c : Bool). is_read e.kind && c) (or-false (eqb o 0))

module _ (os : List ℕ) where
  by_step : (s : Step) (c : Chip) (k : ℕ) → By (get_or os k 0) (emit s c (ok_for os k s))
  by_step Open c k = ap flag_of (sym (or-false (eqb (get_or os k 0) 0)))
  by_step Close c k = ap flag_of (sym (or-false (eqb (get_or os k 0) 0)))
  by_step (Send n bytes) c k = ap flag_of (sym (or-false (eqb (get_or os k 0) 0)))
  by_step (Mask r v m) c k = ap flag_of (sym (or-false (eqb (get_or os k 0) 0)))
  by_step (Plain e) c k = refl

  abbrev ByAll : Entry → List Entry → Type 0
  ByAll d es = (j : ℕ) → j < length es → By (get_or os j 0) (get_or es j d)

  by_next : (d e : Entry) (es : List Entry) → ByAll d es → By (get_or os (length es) 0) e → ByAll d (es ++ (e ∷ []))
  by_next d e es all h j l = go (ltb j (length es)) refl
    where
      go : (b : Bool) → ltb j (length es) ≡ b → By (get_or os j 0) (get_or (es ++ (e ∷ [])) j d)
      go true q = subst (By (get_or os j 0)) (sym (get_or-append es (e ∷ []) d j (ltb-true j (length es) q))) (all j (ltb-true j (length es) q))
      go false q =
          let is : length es ≡ j = omega (arith, ltb-false j (length es) q, length-append es (e ∷ [])) in
          subst (λ (k : ℕ). By (get_or os k 0) (get_or (es ++ (e ∷ [])) k d)) is (subst (By (get_or os (length es) 0)) (sym (get_or-append_seam es e [] d)) h)

  by_trace : (ss : List Step) (c : Chip) (d : Entry) → ByAll d (trace os ss c).log
  unfolding trace
  by_trace ss c d =
      (run_always os (λ (t : Trace). (t.count ≡ length t.log) × ByAll d t.log)
      (λ s t a q. (
        counted_taken os s t (ok_for os t.count s) q.0,
        by_next d _ t.log q.1 (subst (λ (k : ℕ). By (get_or os k 0) (emit s t.chip (ok_for os t.count s))) q.0 (by_step s t.chip t.count)),
      ))
      ss (line c [] 0 Going false) (refl, λ j l. absurd (omega arith))).1

  by_asked : (q : Asked) (c : Chip) (d : Entry) → ByAll d (entries_by q os c)
  by_asked q c d = go (eqb q.number 0)
    where
      go : (b : Bool) → ByAll d (cond b (trace os q.steps c).log [])
      go true = by_trace q.steps c d
      go false = λ j l. absurd (omega arith)

-- entry j goes by outcome j
pub by_made : (a : Ask) (s : Script) (d : Entry) (j : ℕ) → j < length (made a s) → By (get_or s.outcomes j 0) (get_or (made a s) j d)
by_made (On o t) s d = by_asked s.outcomes (asked (call (order_with s.replies o) s.outcomes s.room) t) t.chip d
by_made (Beside o) s d = by_asked s.outcomes (aside_asked (aside (other_with s.replies o) s.outcomes s.room)) no_chip d

-- ---- how many there are

few_other : (o : Other) → aside_most o ≤ 64
few_other (Pin (Output pin rs)) = omega arith
few_other (Pin (Bit pin value rs)) = omega arith
few_other (Demod Baseband) = omega arith
few_other (Demod LowIf) = omega arith
few_other (Demod ZeroIf) = omega arith
few_other (Demod Reset) = omega arith
few_other (Demod (Direct page register value)) = omega arith
few_other (Demod Start) = omega arith
few_other (Demod Stop) = omega arith
few_other (Demod (IfXtal hz xtal)) = omega arith
few_other (Demod (RateXtal rate xtal)) = omega arith

few_made : (a : Ask) (s : Script) → length (made a s) ≤ 64
few_made (On o t) s =
    let k = call (order_with s.replies o) s.outcomes s.room in
    omega (arith, most_entries k t, row_few (order_with s.replies o) t)
few_made (Beside o) s = omega (arith, most_aside (aside (other_with s.replies o) s.outcomes s.room), few_other (other_with s.replies o))

-- a script with which a call is not refused has an outcome for each
outcomes_lent : {R : Type 0} (s : Bool) (row : Course R) (os room : ℕ) → (asked_by s row os room).number ≡ 0 → most_of row ≤ os
unfolding too_short
outcomes_lent s (Still left answer) os room h = omega arith
outcomes_lent s (Taken argument n m rs whole ss keep) os room h = go s (eqb argument 0) refl (ltb room (16 * n + 8)) (ltb os n) refl h
  where
    go : (w z : Bool) → eqb argument 0 ≡ z → (x y : Bool) → ltb os n ≡ y → cond w (cond z (cond x ROOM (cond y OUTCOMES (cond (ltb (length rs) m) REPLIES 0))) argument) SETUP ≡ 0 → n ≤ os
    go true true e true y l q = absurd (omega arith)
    go true true e false true l q = absurd (omega arith)
    go true true e false false l q = ltb-false os n l
    go true false e x y l q = absurd (eqb-false argument 0 e q)
    go false z e x y l q = absurd (omega arith)

pub enough_made : (a : Ask) (s : Script) → refusal a s ≡ 0 → length (made a s) ≤ length s.outcomes
enough_made (On o t) s h =
    let k = call (order_with s.replies o) s.outcomes s.room in
    omega (arith, most_entries k t, outcomes_lent (sound_for k.order t) (row_of k.order t) (length s.outcomes) (length s.room) h)
enough_made (Beside o) s h =
    let k = aside (other_with s.replies o) s.outcomes s.room in
    omega (arith, most_aside k, outcomes_lent true (aside_row k.other) (length s.outcomes) (length s.room) h)

-- ---- the entry that is looked at

record At (i : ℕ) (es : List Entry) (e : Entry) : Type 0 where
  pub entry : Entry
  pub later : List Entry
  pub whole : es ≡ take i es ++ (entry ∷ later)
  pub index : length (take i es) ≡ i
  pub step : bare entry ≡ e

at_step : (i : ℕ) (es : List Entry) (e : Entry) → step_at i es ≡ e ∷ [] → At i es e
at_step i es e h = go (drop i es) refl
  where
    go : (xs : List Entry) → drop i es ≡ xs → At i es e
    go [] p =
        let nothing : ◌≡◌ {A = ℕ} 0 1 = ap length (sym (ap (λ (l : List Entry). map bare (take 1 l)) p) ∙ h) in
        absurd (omega arith)
    go (x ∷ xs) p =
        record {
          entry = x;
          later = xs;
          whole = sym (take-append-drop i es) ∙ ap (λ (l : List Entry). take i es ++ l) p;
          index = length-take-le i es (omega (arith, length-drop i es, ap length p));
          step = ap (λ (l : List Entry). get_or l 0 e) (sym (ap (λ (l : List Entry). map bare (take 1 l)) p) ∙ h);
        }

-- no step is left
pub at_end : (i : ℕ) (es : List Entry) → step_at i es ≡ [] → take i es ≡ es
at_end i es h = go (drop i es) refl
  where
    go : (xs : List Entry) → drop i es ≡ xs → take i es ≡ es
    go [] p = sym (append-nil (take i es)) ∙ ap (λ (l : List Entry). take i es ++ l) (sym p) ∙ take-append-drop i es
    go (x ∷ xs) p =
        let one : ◌≡◌ {A = ℕ} 1 0 = ap length (sym (ap (λ (l : List Entry). map bare (take 1 l)) p) ∙ h) in
        absurd (omega arith)

-- ---- scripts

front : (all xs ys : List ℕ) → take (length (xs ++ ys)) all ≡ xs ++ ys → take (length xs) all ≡ xs
front all xs ys h =
    sym (take-take (length xs) (length (xs ++ ys)) all (omega (arith, length-append xs ys))) ∙ ap (take (length xs)) h ∙ take-append_seam xs ys

module _ (a : Ask) (os rs : List ℕ) where
  -- what was known before a round
  known_before : (o : ℕ) (bs : List ℕ) (s : Script) → Knows a (os ++ (o ∷ [])) (rs ++ bs) s → Knows a os rs s
  known_before o bs s k =
      record {
        outcomes = front s.outcomes os (o ∷ []) k.outcomes;
        replies = front s.replies rs bs k.replies;
        taken = k.taken;
      }

  agreed : (s u : Script) → Knows a os rs s → Knows a os rs u → Agree a (length os) (length rs) s u
  agreed s u k l =
      record {
        outcomes = k.outcomes ∙ sym l.outcomes;
        replies = k.replies ∙ sym l.replies;
        refused = k.taken ∙ sym l.taken;
      }

-- the bytes that a round added are the next replies
next_part : (all rs bs : List ℕ) → take (length (rs ++ bs)) all ≡ rs ++ bs → take (length bs) (drop (length rs) all) ≡ bs
next_part all rs bs h =
    let parts : take (length rs) all ++ take (length bs) (drop (length rs) all) ≡ rs ++ bs =
    sym (take-add (length rs) (length bs) all) ∙ ap (λ (j : ℕ). take j all) (sym (length-append rs bs)) ∙ h in
    let first : take (length rs) all ≡ rs = front all rs bs h in
    sym (drop-append_seam rs (take (length bs) (drop (length rs) all)))
    ∙ ap (λ (xs : List ℕ). drop (length rs) (xs ++ take (length bs) (drop (length rs) all))) (sym first)
    ∙ ap (drop (length rs)) parts
    ∙ drop-append_seam rs bs

-- ---- an entry and what was done

-- of entries in order, the one after p
order_at : (qs : List ℕ) (at : ℕ) (p : List Entry) (x : Entry) (later : List Entry) → InOrder qs at (p ++ (x ∷ later))
    → is_read x.kind ≡ true → Fills qs (at + took p) (takes x) x.bytes
unfolding took
order_at qs at [] x later o r =
    let here : at ≡ at + 0 = omega arith in
    subst (λ (j : ℕ). Fills qs j (takes x) x.bytes) here (o.0 r)
order_at qs at (y ∷ p) x later o r =
    let here : at + takes y + took p ≡ at + (takes y + took p) = omega arith in
    subst (λ (j : ℕ). Fills qs j (takes x) x.bytes) here (order_at qs (at + takes y) p x later o.1 r)

-- its outcome and its data say what it is
same_ended : (x e : Entry) (o : ℕ) (bs : List ℕ) → bare x ≡ e → By o x → (is_read x.kind ≡ true → x.bytes ≡ sets zeros8 0 bs) → x ≡ ended e o bs
same_ended x e o bs b by h =
    (λ i. record { kind = x.kind; outcome = by i; target = x.target; n = x.n; address = x.address; bytes = data_of (is_read x.kind) refl i })
    ∙ ap (λ (y : Entry). ended y o bs) b
  where
    data_of : (r : Bool) → is_read x.kind ≡ r → x.bytes ≡ cond (is_read x.kind) (sets zeros8 0 bs) (cond (is_read x.kind) zeros8 x.bytes)
    data_of true q = h q ∙ ap (λ (c : Bool). cond c (sets zeros8 0 bs) (cond c zeros8 x.bytes)) (sym q)
    data_of false q = ap (λ (c : Bool). cond c (sets zeros8 0 bs) (cond c zeros8 x.bytes)) (sym q)

-- ---- rounds

module _ (a : Ask) where
  module _ (os rs : List ℕ) (es : List Entry) (s : Script) (known : Knows a os rs s) (told-s : Continued a os rs es s) where
    -- another script with what is known
    known_alike : (u : Script) → Knows a os rs u → Same (length os) (made a s) (made a u)
    known_alike u k =
        depends_on_before a (length os) s u
        (subst (λ (j : ℕ). Agree a (length os) j s u) (sym (ap took told-s.entries ∙ told-s.replies)) (agreed a os rs s u known k))

    -- one round more
    told_round : (e : Entry) → step_at (length os) (made a s) ≡ e ∷ [] → (o : ℕ) (bs : List ℕ) → length bs ≡ cond (is_read e.kind && eqb o 0) e.n 0
        → every is_byte bs ≡ true → (u : Script) → Knows a (os ++ (o ∷ [])) (rs ++ bs) u → Continued a os rs es u
        → Continued a (os ++ (o ∷ [])) (rs ++ bs) (es ++ (ended e o bs ∷ [])) u
    unfolding took
    told_round e here o bs b small u k told-u =
        let i : ℕ = length os in
        let p : List Entry = take i (made a u) in
        let at : At i (made a u) e = at_step i (made a u) e (sym (known_alike u (known_before a os rs o bs u k)).here ∙ here) in
        let x : Entry = at.entry in
        let count : length (os ++ (o ∷ [])) ≡ length p + 1 = length-append os (o ∷ []) ∙ ap (λ (j : ℕ). j + 1) (sym at.index) in
        let cut : take (length (os ++ (o ∷ []))) (made a u) ≡ p ++ (x ∷ []) =
        ap (λ (j : ℕ). take j (made a u)) count ∙ ap (take (length p + 1)) at.whole ∙ take-append-add p (x ∷ at.later) 1 in
        let outcome : get_or u.outcomes i 0 ≡ o =
        sym (get_or-take (length (os ++ (o ∷ []))) u.outcomes i 0 (omega (arith, length-append os (o ∷ []))))
        ∙ ap (λ (l : List ℕ). get_or l i 0) k.outcomes
        ∙ get_or-append_seam os o [] 0 in
        let place : get_or (made a u) i x ≡ x =
        ap (λ (l : List Entry). get_or l i x) at.whole ∙ ap (λ (j : ℕ). get_or (p ++ (x ∷ at.later)) j x) (sym at.index) ∙ get_or-append_seam p x at.later x in
        let there : i < length (made a u) = omega (arith, ap length at.whole, length-append p (x ∷ at.later), at.index) in
        let by : By o x = subst (By o) place (subst (λ (y : ℕ). By y (get_or (made a u) i x)) outcome (by_made a u x i there)) in
        let taken_by : takes x ≡ length bs =
        ap (λ (c : Bool). cond c x.n 0) (read_by o x by) ∙ ap (λ (y : Entry). cond (is_read y.kind && eqb o 0) y.n 0) at.step ∙ sym b in
        let before : 0 + took p ≡ length rs = omega (arith, ap took told-u.entries, told-u.replies) in
        let next : take (takes x) (drop (0 + took p) u.replies) ≡ bs =
        (λ j. take (taken_by j) (drop (before j) u.replies)) ∙ next_part u.replies rs bs k.replies in
        let filled : is_read x.kind ≡ true → x.bytes ≡ sets zeros8 0 bs =
        (λ r. order_at u.replies 0 p x at.later (subst (InOrder u.replies 0) at.whole (in_order a u)) r (ap (every is_byte) next ∙ small)
        ∙ ap (sets zeros8 0) next) in
        let is : x ≡ ended e o bs = same_ended x e o bs at.step by filled in
        record {
          entries = cut ∙ (λ j. told-u.entries j ++ (is j ∷ []));
          replies =
              took_append es (ended e o bs ∷ [])
              ∙ ap (λ (y : Entry). took es + took (y ∷ [])) (sym is)
              ∙ omega (arith, told-u.replies, taken_by, length-append rs bs);
        }

  -- "call with what is known so far": after i rounds the first i entries of every script with what is known are what was done
  pub told : (os rs : List ℕ) (es : List Entry) → Rounds a os rs es → (s : Script) → Knows a os rs s → Continued a os rs es s
  unfolding took
  told os rs es begun u k = record { entries = refl; replies = refl }
  told xs ys zs (round os rs es r s known e here o bs b small) u k =
      told_round os rs es s known (told os rs es r s known) e here o bs b small u k (told os rs es r u (known_before a os rs o bs u k))

  -- so whatever stands after it, the entries so far are those of the call with the whole script, and so is the step to take next
  pub known_suffices : (os rs : List ℕ) (es : List Entry) → Rounds a os rs es → (s u : Script) → Knows a os rs s → Knows a os rs u
      → Same (length os) (made a s) (made a u)
  known_suffices os rs es r s u k l = known_alike os rs es s k (told os rs es r s k) u l

  -- "When every step has been taken": the entries of the last call, and of every call with what is known, are what was done
  pub all_taken : (os rs : List ℕ) (es : List Entry) → Rounds a os rs es → (s u : Script) → Knows a os rs s → Knows a os rs u
      → step_at (length os) (made a s) ≡ [] → (made a s ≡ es) × (made a u ≡ es)
  all_taken os rs es r s u k l h =
      let same = known_suffices os rs es r s u k l in
      let whole : take (length os) (made a s) ≡ made a s = at_end (length os) (made a s) h in
      let other : take (length os) (made a u) ≡ made a u = at_end (length os) (made a u) (sym same.here ∙ h) in
      (sym whole ∙ (told os rs es r s k).entries, sym other ∙ (told os rs es r u l).entries)

  -- it comes to that: no call makes more than 64 entries, so there are no more rounds
  pub few_rounds : (os rs : List ℕ) (es : List Entry) → Rounds a os rs es → length os ≤ 64
  few_rounds os rs es begun = omega arith
  few_rounds xs ys zs (round os rs es r s known e here o bs b small) =
      let at : At (length os) (made a s) e = at_step (length os) (made a s) e here in
      omega (arith, ap length at.whole, length-append (take (length os) (made a s)) (at.entry ∷ at.later), at.index, length-append os (o ∷ []), few_made a s)

-- ---- demand 3: a call driven to its end is one more of a sequence, its entries what was done

module _ (t : Tuner) (es : List Entry) (q : Sequence t es) (os rs : List ℕ) (ds : List Entry) (s : Script) where
  pub driven_next : (o : Order) → Rounds (On o t) os rs ds → Knows (On o t) os rs s → step_at (length os) (made (On o t) s) ≡ []
      → given (order_with s.replies o) t ≡ true → Sequence (tuner_after (call (order_with s.replies o) s.outcomes s.room) t) (es ++ ds)
  driven_next o r k h g =
      let last : Call = call (order_with s.replies o) s.outcomes s.room in
      subst (λ (l : List Entry). Sequence (tuner_after last t) (es ++ l)) (all_taken (On o t) os rs ds r s s k k h).0 (next t es q last g)

  pub driven_between : (o : Other) → Rounds (Beside o) os rs ds → Knows (Beside o) os rs s → step_at (length os) (made (Beside o) s) ≡ []
      → aside_given (other_with s.replies o) ≡ true → Sequence t (es ++ ds)
  driven_between o r k h g =
      subst (λ (l : List Entry). Sequence t (es ++ l)) (all_taken (Beside o) os rs ds r s s k k h).0
      (between t es q (aside (other_with s.replies o) s.outcomes s.room) g)

-- ---- a host that died while it drove a receiver

module _ (address : ℕ) where
  bare_write : (x : Entry) (r : ℕ) → is_read x.kind ≡ false → names address (bare x) r ≡ names address x r
  unfolding names
  bare_write x r q =
      ap
      (λ (c : Bool). eqb x.kind 2
      && eqb x.target address
      && leb (get_or (cond c zeros8 x.bytes) 0 0) r
      && ltb r (get_or (cond c zeros8 x.bytes) 0 0 + (x.n - 1)))
      q

  -- a step names what its entry does
  names_bare : (x : Entry) (r : ℕ) → names address (bare x) r ≡ names address x r
  names_bare x r = go (eqb x.kind 2) refl
    where
      go : (b : Bool) → eqb x.kind 2 ≡ b → names address (bare x) r ≡ names address x r
      go true q = bare_write x r (ap is_read (eqb-true x.kind 2 q))
      go false q = other_kind address (bare x) r q ∙ sym (other_kind address x r q)

  abbrev Vain : Entry → Type 0
  Vain x = (r : ℕ) → names address x r ≡ true → done x ≡ false

  vain_by : (o : ℕ) (x : Entry) → eqb o 0 ≡ false → By o x → Vain x
  vain_by o x z by r h = go (eqb x.kind 2) refl
    where
      go : (b : Bool) → eqb x.kind 2 ≡ b → done x ≡ false
      go true q = ap (λ (y : ℕ). eqb y 0) (by ∙ (λ i. flag_of (z i || eqb (eqb-true x.kind 2 q i) 9)))
      go false q = absurd (true≢false (sym h ∙ other_kind address x r q))

  lands_vain : (x : Entry) (mid now : Regs) → Vain x → ((r : ℕ) → names address (bare x) r ≡ false → now r ≡ mid r) → Lands address x mid now
  lands_vain x mid now v h = record { kept = λ r t. h r (names_bare x r ∙ t); sent = λ r t d. absurd (true≢false (sym d ∙ v r t)) }

  abbrev Vains : List Entry → Type 0
  Vains xs = (d : Entry) (j : ℕ) → j < length xs → Vain (get_or xs j d)

  played_vain : (xs : List Entry) (now : Regs) → Vains xs → Played address xs now now
  played_vain [] now v = λ r. refl
  played_vain (x ∷ xs) now v =
      (now, lands_vain x now now (v x 0 (omega arith)) (λ r t. refl), played_vain xs now (λ d j l. v d (suc j) (omega (arith, l))))

  module _ (a : Ask) (os rs : List ℕ) (es : List Entry) (known : Rounds a os rs es) (s : Script) (kept : Kept a os rs s) where
    vain_later : Vains (drop (length os) (made a s))
    vain_later d j l =
        let at : ℕ = length os + j in
        let h : at < length (made a s) = omega (arith, length-drop (length os) (made a s), l) in
        subst Vain (sym (get_or-drop (length os) (made a s) j d))
        (vain_by (get_or s.outcomes at 0) (get_or (made a s) at d) (kept.vain at (omega arith) (omega (arith, enough_made a s kept.known.taken, h))) (by_made a s d at h))

    -- whenever it died: the call made once more with what it had kept, by the library alone, tells entries that were played on the chip as it is now
    pub crashed : (before mid now : Regs) → Played address es before mid → Touched address (step_at (length os) (made a s)) mid now
        → Played address (made a s) before now
    crashed before mid now p t =
        let whole : es ++ drop (length os) (made a s) ≡ made a s =
        ap (λ (l : List Entry). l ++ drop (length os) (made a s)) (sym (told a os rs es known s kept.known).entries) ∙ take-append-drop (length os) (made a s) in
        subst (λ (l : List Entry). Played address l before now) whole
        (played_append (tuner_at address) es (drop (length os) (made a s)) before mid now p (rest (drop (length os) (made a s)) refl))
      where
        rest : (xs : List Entry) → drop (length os) (made a s) ≡ xs → Played address xs mid now
        rest [] q = subst (λ (l : List Entry). Touched address (map bare (take 1 l)) mid now) q t
        rest (x ∷ xs) q =
            let v : Vains (x ∷ xs) = subst Vains q vain_later in (
              now,
              lands_vain x mid now (v x 0 (omega arith)) (subst (λ (l : List Entry). Touched address (map bare (take 1 l)) mid now) q t),
              played_vain xs now (λ d j l. v d (suc j) (omega (arith, l))),
            )

-- so demand 3 holds of what the next process goes on with: its record ends a sequence whose entries were played on the chip as it is now
module _ (t : Tuner) (es : List Entry) (q : Sequence t es) (os rs : List ℕ) (ds : List Entry) (s : Script) where
  pub recovered : (o : Order) → Rounds (On o t) os rs ds → Kept (On o t) os rs s → given (order_with s.replies o) t ≡ true
      → (address : ℕ) (before start mid now : Regs) → Played address es before start → Played address ds start mid
      → Touched address (step_at (length os) (made (On o t) s)) mid now
      → Sequence (tuner_after (call (order_with s.replies o) s.outcomes s.room) t) (es ++ made (On o t) s)
      × Played address (es ++ made (On o t) s) before now
  recovered o r k g address before start mid now p d u = (
    next t es q (call (order_with s.replies o) s.outcomes s.room) g,
    played_append (tuner_at address) es (made (On o t) s) before start now p (crashed address (On o t) os rs ds r s k start mid now d u),
  )

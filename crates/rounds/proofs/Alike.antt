-- Two programs that part at most where a read's replies do, and what they make under scripts that agree: the same entries up to there. Assumes nothing.
use Prim.Native.Nat.{ℕ, ◌+◌, ◌-◌, ◌≤◌, ◌<◌}
use mathlib.Core.Path.{◌≡◌, refl, sym, ap, subst, ◌∙◌}
use mathlib.Core.Bool.{Bool, true, false, cond, not, ◌&&◌, ◌||◌, or-true}
use mathlib.Core.List.{List, [], ◌∷◌, ◌++◌, map, append-nil}
use native.Mathlib.Omega.{arith}
use borrow.Author.Tests.{ltb-true, ltb-false}
use lib.Dec.{eqb, ltb}
use lib.ListN.{length, get_or, take, drop, length-drop}
use lib.Seq.{append_snoc, get_or-take, take-append-le, drop-append-le, take-append-add, take-append_seam, drop-append_seam}
use Rattle.transcript.specs.declared.Entry.{Entry}
use Rattle.transcript.specs.Entries.{bare, zeros8}
use Rattle.transcript.specs.Table.{is_read}
use Rattle.chip.specs.declared.Chip.{Chip}
use Rattle.chip.specs.declared.Progress.TheVariants.{Going}
use Rattle.chip.specs.Entries.{repeater, with_outcome}
use Rattle.chip.specs.Steps.{Step, Trace, acts, emit, every, goes, in_list, inner, line, ok_for, run, step, taken, progress_of, trace}
use Rattle.chip.specs.Steps.Step.{Open, Close, Send, Mask, Plain}
use Rattle.chip.proofs.Laws.{active, and_left, and_right, idle}
use Rattle.history.proofs.Cuts.{emit_bare, ok_same}
use Rattle.history.proofs.Runs.{counted_taken, run_log, shut_run}
use Rattle.rounds.specs.Scripts.{Fills, Same, step_at, took}

-- ---- programs

-- a program that closes the repeater somewhere
unfoldable pub shuts : List Step → Bool
shuts [] = false
shuts (s ∷ ss) = not (inner s) || shuts ss

-- a step that reads nothing
abbrev pub mute : Step → Bool
mute Open = true
mute Close = true
mute (Send n bytes) = true
mute (Mask register value mask) = true
mute (Plain e) = not (is_read e.kind)

-- two programs of one call, by the replies qs and by others of which k are the same, where `at` were taken: the same steps, and reads that are the same but for
-- their data, which are the next of qs. Past a read the two are alike only if its replies are known; but both shut or neither, since that is all that is
-- taken after a failed one
pub data Alike (k : ℕ) (qs : List ℕ) : ℕ → List Step → List Step → Type 0 where
  none : {at : ℕ} → Alike k qs at [] []
  same : {at : ℕ} {ss ts : List Step} (s : Step) → mute s ≡ true → Alike k qs at ss ts → Alike k qs at (s ∷ ss) (s ∷ ts)
  read : {at : ℕ} {ss ts : List Step} (d e : Entry) → is_read d.kind ≡ true → bare d ≡ bare e → Fills qs at d.n d.bytes → shuts ss ≡ shuts ts
      → (at + d.n ≤ k → d ≡ e) → (at + d.n ≤ k → Alike k qs (at + d.n) ss ts) → Alike k qs at (Plain d ∷ ss) (Plain e ∷ ts)

-- the same steps before, and the same throughout
pub alike_front : {k at : ℕ} {qs : List ℕ} {ss ts : List Step} (xs : List Step) → every mute xs ≡ true → Alike k qs at ss ts → Alike k qs at (xs ++ ss) (xs ++ ts)
unfolding every
alike_front [] m a = a
alike_front (x ∷ xs) m a = same x (and_left (mute x) (every mute xs) m) (alike_front xs (and_right (mute x) (every mute xs) m) a)

pub alike_refl : {k at : ℕ} {qs : List ℕ} (ss : List Step) → every mute ss ≡ true → Alike k qs at ss ss
unfolding every
alike_refl [] m = none
alike_refl (s ∷ ss) m = same s (and_left (mute s) (every mute ss) m) (alike_refl ss (and_right (mute s) (every mute ss) m))

pub alike_shuts : {k : ℕ} {qs : List ℕ} {at : ℕ} {ss ts : List Step} → Alike k qs at ss ts → shuts ss ≡ shuts ts
unfolding shuts
alike_shuts none = refl
alike_shuts (same s m a) = ap (λ (b : Bool). not (inner s) || b) (alike_shuts a)
alike_shuts (read d e r b x h f g) = h

pub shuts_close : (xs zs : List Step) → shuts (xs ++ (Close ∷ zs)) ≡ true
unfolding shuts
shuts_close [] zs = refl
shuts_close (x ∷ xs) zs = ap (λ (b : Bool). not (inner x) || b) (shuts_close xs zs) ∙ or-true (not (inner x))

-- ---- the replies that entries took

pub took_append : (xs ys : List Entry) → took (xs ++ ys) ≡ took xs + took ys
unfolding took
took_append [] ys = omega arith
took_append (x ∷ xs) ys = let ih = took_append xs ys in omega (arith, ih)

-- ---- lists of entries that are the same up to i

-- past i they may part
same_past : (i : ℕ) (p xs ys : List Entry) → i < length p → Same i (p ++ xs) (p ++ ys)
same_past i p xs ys h =
    record {
      below = take-append-le i p xs (omega arith) ∙ sym (take-append-le i p ys (omega arith));
      here = ap (λ (l : List Entry). map bare l) (one xs ∙ sym (one ys));
    }
  where
    one : (zs : List Entry) → take 1 (drop i (p ++ zs)) ≡ take 1 (drop i p)
    one zs = ap (take 1) (drop-append-le i p zs (omega arith)) ∙ take-append-le 1 (drop i p) zs (omega (arith, length-drop i p))

-- entry i is the same step
same_here : (p : List Entry) (x y : Entry) (xs ys : List Entry) → bare x ≡ bare y → Same (length p) (p ++ (x ∷ xs)) (p ++ (y ∷ ys))
same_here p x y xs ys h =
    record {
      below = take-append_seam p (x ∷ xs) ∙ sym (take-append_seam p (y ∷ ys));
      here = one x xs ∙ ap (λ (b : Entry). b ∷ []) h ∙ sym (one y ys);
    }
  where
    one : (z : Entry) (zs : List Entry) → step_at (length p) (p ++ (z ∷ zs)) ≡ bare z ∷ []
    one z zs = ap (λ (l : List Entry). map bare (take 1 l)) (drop-append_seam p (z ∷ zs))

same_moved : (i : ℕ) (a b c d : List Entry) → a ≡ b → c ≡ d → Same i a c → Same i b d
same_moved i a b c d p q h = subst (λ (x : List Entry). Same i x d) p (subst (λ (y : List Entry). Same i a y) q h)

pub same_all : (i : ℕ) (xs ys : List Entry) → xs ≡ ys → Same i xs ys
same_all i xs ys e = record { below = ap (take i) e; here = ap (step_at i) e }

-- ---- one step

-- an entry with other data, and with another outcome
abbrev with_data : Entry → ℕ → List ℕ → Entry
with_data e outcome bytes = record { kind = e.kind; outcome = outcome; target = e.target; n = e.n; address = e.address; bytes = bytes }

zeros_once : (a b : Bool) (xs : List ℕ) → cond a zeros8 (cond (a && b) zeros8 xs) ≡ cond a zeros8 xs
zeros_once true b xs = refl
zeros_once false b xs = refl

zeros_failed : (a : Bool) (xs : List ℕ) → cond (a && true) zeros8 xs ≡ cond a zeros8 xs
zeros_failed true xs = refl
zeros_failed false xs = refl

-- how a step went is not part of it
bare_settled : (e : Entry) (ok : Bool) → bare (with_outcome e ok) ≡ bare e
bare_settled e ok = ap (with_data e 0) (zeros_once (is_read e.kind) (not ok) e.bytes)

-- nor is its data part of a read that failed
bare_failed : (e : Entry) → with_outcome e false ≡ with_data (bare e) 1 (bare e).bytes
bare_failed e = ap (with_data e 1) (zeros_failed (is_read e.kind) e.bytes)

pub same_failed : (d e : Entry) → bare d ≡ bare e → with_outcome d false ≡ with_outcome e false
same_failed d e h = bare_failed d ∙ ap (λ (x : Entry). with_data x 1 x.bytes) h ∙ sym (bare_failed e)

-- a done read takes its n
pub took_read : (es : List Entry) (e : Entry) → is_read e.kind ≡ true → took (es ++ (with_outcome e true ∷ [])) ≡ took es + e.n
unfolding took
took_read es e r = took_append es (with_outcome e true ∷ []) ∙ rw r (omega arith)

bare_any : (s : Step) (c : Chip) (a b : Bool) → bare (emit s c a) ≡ bare (emit s c b)
bare_any s c true true = refl
bare_any s c true false = sym (emit_bare s c)
bare_any s c false true = emit_bare s c
bare_any s c false false = refl

-- entries at hand took no more than those below i
took_below : (i : ℕ) (p later : List Entry) → length p ≤ i → took p ≤ took (take i (p ++ later))
took_below i p later h =
    let parts : i ≡ length p + (i - length p) = omega arith in
    let cut : take i (p ++ later) ≡ p ++ take (i - length p) later = ap (λ (j : ℕ). take j (p ++ later)) parts ∙ take-append-add p later (i - length p) in
    rw cut (omega (arith, took_append p (take (i - length p) later)))

-- ---- a step has failed: at most a closing follows

module _ (os : List ℕ) where
  abbrev pub shutting : Trace → List Entry
  shutting t = repeater 0 (ok_for os t.count Close) ∷ []

  -- the run after its closing
  abbrev pub shut_after : Trace → Trace
  shut_after t = taken in_list os (ok_for os t.count Close) Close t

  opened_run : (ss : List Step) (t : Trace) → goes t.progress ≡ false → t.opened ≡ true → run in_list os ss t ≡ cond (shuts ss) (shut_after t) t
  unfolding run shuts
  opened_run [] t g h = refl
  opened_run (Open ∷ ss) t g h = ap (run in_list os ss) (sym (idle in_list os Open t g)) ∙ opened_run ss t g h
  opened_run (Close ∷ ss) t g h = ap (run in_list os ss) (sym (active in_list os Close t h)) ∙ sym (shut_run os ss (shut_after t) g refl)
  opened_run (Send n bytes ∷ ss) t g h = ap (run in_list os ss) (sym (idle in_list os (Send n bytes) t g)) ∙ opened_run ss t g h
  opened_run (Mask r v m ∷ ss) t g h = ap (run in_list os ss) (sym (idle in_list os (Mask r v m) t g)) ∙ opened_run ss t g h
  opened_run (Plain e ∷ ss) t g h = ap (run in_list os ss) (sym (idle in_list os (Plain e) t g)) ∙ opened_run ss t g h

  pub stopped_end : (ss : List Step) (t : Trace) → goes t.progress ≡ false → run in_list os ss t ≡ cond (t.opened && shuts ss) (shut_after t) t
  stopped_end ss t g = go t.opened refl
    where
      go : (b : Bool) → t.opened ≡ b → run in_list os ss t ≡ cond (t.opened && shuts ss) (shut_after t) t
      go true h = opened_run ss t g h ∙ ap (λ (c : Bool). cond (c && shuts ss) (shut_after t) t) (sym h)
      go false h = sym (shut_run os ss t g h) ∙ ap (λ (c : Bool). cond (c && shuts ss) (shut_after t) t) (sym h)

  pub stopped_log : (ss : List Step) (t : Trace) → goes t.progress ≡ false → (run in_list os ss t).log ≡ t.log ++ cond (t.opened && shuts ss) (shutting t) []
  stopped_log ss t g = ap (λ (u : Trace). u.log) (stopped_end ss t g) ∙ go (t.opened && shuts ss)
    where
      go : (b : Bool) → (cond b (shut_after t) t).log ≡ t.log ++ cond b (shutting t) []
      go true = refl
      go false = sym (append-nil t.log)

-- ---- two runs

module _ (os us : List ℕ) (i k : ℕ) (agree : take i os ≡ take i us) where
  pub told : (j : ℕ) → j < i → get_or os j 0 ≡ get_or us j 0
  told j h = sym (get_or-take i os j 0 h) ∙ ap (λ (l : List ℕ). get_or l j 0) agree ∙ get_or-take i us j 0 h

  -- from where the one and the other stand
  abbrev Both : List Step → List Step → Trace → Trace → Type 0
  Both ss ts t u = Same i (run in_list os ss t).log (run in_list us ts u).log

  both_moved : (ss ts : List Step) (t u v w : Trace) → t ≡ u → v ≡ w → Both ss ts t v → Both ss ts u w
  both_moved ss ts t u v w p q h = subst (λ (x : Trace). Both ss ts x w) p (subst (λ (y : Trace). Both ss ts t y) q h)

  -- entry i, or a later one, is made: whatever follows, and whatever the outcome
  parted : (s z : Step) (ss ts : List Step) (t : Trace) → t.count ≡ length t.log → i ≤ t.count
      → acts s t.progress t.opened ≡ true → acts z t.progress t.opened ≡ true
      → ((b c : Bool) → bare (emit s t.chip b) ≡ bare (emit z t.chip c))
      → Both ss ts (step in_list os s t) (step in_list us z t)
  parted s z ss ts t n h a b e =
      let x : Entry = emit s t.chip (ok_for os t.count s) in
      let y : Entry = emit z t.chip (ok_for us t.count z) in
      let u : Trace = taken in_list os (ok_for os t.count s) s t in
      let v : Trace = taken in_list us (ok_for us t.count z) z t in
      let p = run_log os ss u in
      let q = run_log us ts v in
      both_moved ss ts u (step in_list os s t) v (step in_list us z t) (active in_list os s t a) (active in_list us z t b)
      (same_moved i _ _ _ _ (sym (p.1 ∙ append_snoc t.log x p.0)) (sym (q.1 ∙ append_snoc t.log y q.0))
      (go x y p.0 q.0 (e _ _) (ltb i t.count) refl))
    where
      go : (x y : Entry) (xs ys : List Entry) → bare x ≡ bare y → (b : Bool) → ltb i t.count ≡ b → Same i (t.log ++ (x ∷ xs)) (t.log ++ (y ∷ ys))
      go x y xs ys f true l = same_past i t.log (x ∷ xs) (y ∷ ys) (omega (arith, ltb-true i t.count l))
      go x y xs ys f false l =
          let is : length t.log ≡ i = omega (arith, ltb-false i t.count l) in
          subst (λ (j : ℕ). Same j (t.log ++ (x ∷ xs)) (t.log ++ (y ∷ ys))) is (same_here t.log x y xs ys f)

  -- a step that both take, with the same outcome
  passed : (s : Step) (ss ts : List Step) (t : Trace) (b : Bool) → ok_for os t.count s ≡ b → t.count < i → acts s t.progress t.opened ≡ true
      → Both ss ts (taken in_list os b s t) (taken in_list us b s t) → Both ss ts (step in_list os s t) (step in_list us s t)
  passed s ss ts t b o l a h =
      both_moved ss ts _ _ _ _ (ap (λ (c : Bool). taken in_list os c s t) (sym o) ∙ active in_list os s t a)
      (ap (λ (c : Bool). taken in_list us c s t) (sym (sym (ok_same os us t.count s (told t.count l)) ∙ o)) ∙ active in_list us s t a) h

  -- after a failed step
  stopped : (ss ts : List Step) (t : Trace) → t.count ≡ length t.log → goes t.progress ≡ false → shuts ss ≡ shuts ts → Both ss ts t t
  stopped ss ts t n g h =
      same_moved i _ _ _ _ (sym (stopped_log os ss t g)) (ap (λ (b : Bool). t.log ++ cond (t.opened && b) (shutting us t) []) h ∙ sym (stopped_log us ts t g))
      (go (t.opened && shuts ss) (ltb i t.count) refl (ltb t.count i) refl)
    where
      go : (b c : Bool) → ltb i t.count ≡ c → (d : Bool) → ltb t.count i ≡ d
          → Same i (t.log ++ cond b (shutting os t) []) (t.log ++ cond b (shutting us t) [])
      go false c p d q = same_all i _ _ refl
      go true true p d q = same_past i t.log (shutting os t) (shutting us t) (omega (arith, ltb-true i t.count p))
      go true false p true q =
          same_all i _ _
          (ap (λ (b : Bool). t.log ++ (repeater 0 b ∷ [])) (ok_same os us t.count Close (told t.count (ltb-true t.count i q))))
      go true false p false q =
          let is : length t.log ≡ i = omega (arith, ltb-false i t.count p, ltb-false t.count i q) in
          subst (λ (j : ℕ). Same j (t.log ++ shutting os t) (t.log ++ shutting us t)) is
          (same_here t.log (repeater 0 (ok_for os t.count Close)) (repeater 0 (ok_for us t.count Close)) [] [] refl)

  -- the same step of both
  module _ (s : Step) (ss ts : List Step) (t : Trace) (n : t.count ≡ length t.log) where
    abbrev Rest : Type 0
    Rest = (v : Trace) → v.count ≡ length v.log → took t.log ≤ took v.log → took (take i (run in_list os ss v).log) ≤ k → Both ss ts v v

    same_step : Rest → took (take i (run in_list os ss (step in_list os s t)).log) ≤ k → Both ss ts (step in_list os s t) (step in_list us s t)
    same_step rest h = go (acts s t.progress t.opened) refl (ltb t.count i) refl
      where
        go : (b : Bool) → acts s t.progress t.opened ≡ b → (c : Bool) → ltb t.count i ≡ c → Both ss ts (step in_list os s t) (step in_list us s t)
        go false a c l =
            both_moved ss ts t _ t _ (idle in_list os s t a) (idle in_list us s t a)
            (rest t n (omega arith) (subst (λ (u : Trace). took (take i (run in_list os ss u).log) ≤ k) (sym (idle in_list os s t a)) h))
        go true a false l = parted s s ss ts t n (ltb-false t.count i l) a a (bare_any s t.chip)
        go true a true l =
            let ok : Bool = ok_for os t.count s in
            let v : Trace = taken in_list os ok s t in
            passed s ss ts t ok refl (ltb-true t.count i l) a
            (rest v (counted_taken os s t ok n) (omega (arith, took_append t.log (emit s t.chip ok ∷ [])))
            (subst (λ (u : Trace). took (take i (run in_list os ss u).log) ≤ k) (sym (active in_list os s t a)) h))

  -- two reads that are the same but for their data
  module _ (d e : Entry) (r : is_read d.kind ≡ true) (b : bare d ≡ bare e) (ss ts : List Step) (q : shuts ss ≡ shuts ts) (t : Trace) (n : t.count ≡ length t.log) where
    -- told apart only past the replies that are known
    read_step : (at : ℕ) → at ≤ took t.log → (at + d.n ≤ k → d ≡ e)
        → (at + d.n ≤ k → (v : Trace) → v.count ≡ length v.log → at + d.n ≤ took v.log → took (take i (run in_list os ss v).log) ≤ k → Both ss ts v v)
        → took (take i (run in_list os ss (step in_list os (Plain d) t)).log) ≤ k → Both ss ts (step in_list os (Plain d) t) (step in_list us (Plain e) t)
    read_step at m one rest h = go (goes t.progress) refl (ltb t.count i) refl (ok_for os t.count (Plain d)) refl
      where
        here : goes t.progress ≡ true → (ok : Bool) → ok_for os t.count (Plain d) ≡ ok → taken in_list os ok (Plain d) t ≡ step in_list os (Plain d) t
        here a ok o = ap (λ (c : Bool). taken in_list os c (Plain d) t) (sym o) ∙ active in_list os (Plain d) t a

        there : goes t.progress ≡ true → ltb t.count i ≡ true → (ok : Bool) → ok_for os t.count (Plain d) ≡ ok
            → taken in_list us ok (Plain e) t ≡ step in_list us (Plain e) t
        there a l ok o =
            let kinds : ok_for us t.count (Plain d) ≡ ok_for us t.count (Plain e) = ap (λ (x : Entry). eqb (get_or us t.count 0) 0 || eqb x.kind 9) b in
            let told-so : ok ≡ ok_for us t.count (Plain e) = sym o ∙ ok_same os us t.count (Plain d) (told t.count (ltb-true t.count i l)) ∙ kinds in
            ap (λ (c : Bool). taken in_list us c (Plain e) t) told-so ∙ active in_list us (Plain e) t a

        go : (g : Bool) → goes t.progress ≡ g → (c : Bool) → ltb t.count i ≡ c → (ok : Bool) → ok_for os t.count (Plain d) ≡ ok
            → Both ss ts (step in_list os (Plain d) t) (step in_list us (Plain e) t)
        go false a c l ok o = both_moved ss ts t _ t _ (idle in_list os (Plain d) t a) (idle in_list us (Plain e) t a) (stopped ss ts t n a q)
        go true a false l ok o =
            parted (Plain d) (Plain e) ss ts t n (ltb-false t.count i l) a a (λ x y. bare_settled d x ∙ b ∙ sym (bare_settled e y))
        go true a true l false o =
            let v : Trace = taken in_list os false (Plain d) t in
            let alike : v ≡ taken in_list us false (Plain e) t = ap (λ (x : Entry). line t.chip (t.log ++ (x ∷ [])) (t.count + 1) (progress_of false t.count) t.opened) (same_failed d e b) in
            both_moved ss ts v _ v _ (here a false o) (alike ∙ there a l false o) (stopped ss ts v (counted_taken os (Plain d) t false n) refl q)
        go true a true l true o =
            let v : Trace = taken in_list os true (Plain d) t in
            let moved : took (take i (run in_list os ss v).log) ≤ k = subst (λ (u : Trace). took (take i (run in_list os ss u).log) ≤ k) (sym (here a true o)) h in
            let more = run_log os ss v in
            let small : length v.log ≤ i = omega (arith, ltb-true t.count i l, counted_taken os (Plain d) t true n) in
            let in_all : took v.log ≤ took (take i (v.log ++ more.0)) = took_below i v.log more.0 small in
            let all : took (take i (v.log ++ more.0)) ≤ k = subst (λ (es : List Entry). took (take i es) ≤ k) more.1 moved in
            let more-taken : took v.log ≡ took t.log + d.n = took_read t.log d r in
            let known : at + d.n ≤ k = omega arith in
            let alike : v ≡ taken in_list us true (Plain e) t = ap (λ (x : Entry). taken in_list us true (Plain x) t) (one known) in
            both_moved ss ts v _ v _ (here a true o) (alike ∙ there a l true o) (rest known v (counted_taken os (Plain d) t true n) (omega arith) moved)

  alike_run : {qs : List ℕ} {at : ℕ} {ss ts : List Step} → Alike k qs at ss ts → (t : Trace) → t.count ≡ length t.log → at ≤ took t.log
      → took (take i (run in_list os ss t).log) ≤ k → Both ss ts t t
  unfolding run
  alike_run none t n m h = same_all i _ _ refl
  alike_run (same {ss = ss} {ts = ts} s x a) t n m h = same_step s ss ts t n (λ v c l j. alike_run a v c (omega arith) j) h
  alike_run (read {at = at} {ss = ss} {ts = ts} d e r b x q f a) t n m h = read_step d e r b ss ts q t n at m f (λ l v c p j. alike_run (a l) v c p j) h

  -- from the start
  pub alike_trace : {qs : List ℕ} {ss ts : List Step} → Alike k qs 0 ss ts → (c : Chip) → took (take i (trace os ss c).log) ≤ k → Same i (trace os ss c).log (trace us ts c).log
  unfolding trace took
  alike_trace a c h = alike_run a (line c [] 0 Going false) refl (omega arith) h

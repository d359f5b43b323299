-- A cut call against the uncut one, for every program: the entries are the same up to the failing step, and after it there is at most a closing.
-- Assumes nothing.
use Prim.Native.Nat.{ℕ, ◌≤◌, ◌<◌}
use mathlib.Core.Path.{◌≡◌, refl, sym, ap, subst, ◌∙◌}
use mathlib.Core.Bool.{Bool, true, false, ◌&&◌, ◌||◌, true≢false, false≢true, cond}
use mathlib.Core.List.{List, [], ◌∷◌}
use native.Mathlib.Omega.{arith}
use borrow.Author.Tests.{ltb-true, ltb-false}
use lib.Dec.{eqb, ltb}
use lib.ListN.{length, get_or, set, get_or-eq_default}
use lib.Seq.{append_snoc, get_or-set_same, get_or-set_other, set_out}
use Rattle.transcript.specs.declared.Entry.{Entry}
use Rattle.transcript.specs.Table.{is_read}
use Rattle.attempts.specs.Attempts.{done}
use Rattle.chip.specs.declared.Chip.{Chip}
use Rattle.chip.specs.declared.Progress.{Progress}
use Rattle.chip.specs.declared.Progress.TheVariants.{Going, Refused11}
use Rattle.transcript.specs.Entries.{bare, zeros8}
use Rattle.chip.specs.Steps.{Step, Trace, acts, emit, every, goes, in_list, inner, line, ok_for, run, step, taken, progress_of, trace, progress_for}
use Rattle.chip.specs.Steps.Step.{Open, Close, Send, Mask, Plain}
use Rattle.chip.proofs.Laws.{active, and_left, and_right, idle}
use Rattle.history.specs.Programs.{fine}
use Rattle.history.specs.Histories.{Cut}
use Rattle.history.proofs.Runs.{Rest, counted_taken, run_log, stopped_run}
use Rattle.history.proofs.Tracked.{aside_of, done_flag}

-- ---- outcomes

-- the failing step done
pub set_done : (os : List ℕ) (k : ℕ) → get_or (set os k 0) k 0 ≡ 0
set_done os k = go (ltb k (length os)) refl
  where
    go : (b : Bool) → ltb k (length os) ≡ b → get_or (set os k 0) k 0 ≡ 0
    go true h = get_or-set_same os k 0 0 (ltb-true k (length os) h)
    go false h =
        let over : length os ≤ k = ltb-false k (length os) h in
        ap (λ (l : List ℕ). get_or l k 0) (set_out os k 0 over) ∙ get_or-eq_default os 0 over

-- "all other outcomes equal"
pub ok_same : (os other : List ℕ) (k : ℕ) (s : Step) → get_or os k 0 ≡ get_or other k 0 → ok_for os k s ≡ ok_for other k s
ok_same os other k Open h = ap (λ (o : ℕ). eqb o 0) h
ok_same os other k Close h = ap (λ (o : ℕ). eqb o 0) h
ok_same os other k (Send n bytes) h = ap (λ (o : ℕ). eqb o 0) h
ok_same os other k (Mask r v m) h = ap (λ (o : ℕ). eqb o 0) h
ok_same os other k (Plain e) h = ap (λ (o : ℕ). eqb o 0 || eqb e.kind 9) h

ok_done : (os : List ℕ) (k : ℕ) (s : Step) → get_or os k 0 ≡ 0 → ok_for os k s ≡ true
ok_done os k Open h = rw h
ok_done os k Close h = rw h
ok_done os k (Send n bytes) h = rw h
ok_done os k (Mask r v m) h = rw h
ok_done os k (Plain e) h = rw h

index_in : Progress → ℕ
index_in Going = 0
index_in (Refused11 k) = k

failed_index : (i k : ℕ) → Refused11 i ≡ Refused11 k → i ≡ k
unfolding index_in
failed_index i k h = ap index_in h

not_going : (t : Trace) (i : ℕ) → t.progress ≡ Going → t.progress ≡ Refused11 i → ⊥
not_going t i g f = true≢false (ap goes (sym g ∙ f))

-- ---- one step, done and failed

bare_bytes : (a : Bool) (xs : List ℕ) → cond a zeros8 (cond (a && true) zeros8 xs) ≡ cond a zeros8 (cond (a && false) zeros8 xs)
bare_bytes true xs = refl
bare_bytes false xs = refl

-- the same step, but for its outcome and a read's data
pub emit_bare : (s : Step) (c : Chip) → bare (emit s c false) ≡ bare (emit s c true)
emit_bare Open c = refl
emit_bare Close c = refl
emit_bare (Send n bytes) c = refl
emit_bare (Mask r v m) c = refl
emit_bare (Plain e) c =
    ap (λ (l : List ℕ). record { kind = e.kind; outcome = 0; target = e.target; n = e.n; address = e.address; bytes = l })
    (bare_bytes (is_read e.kind) e.bytes)

pub emit_done : (s : Step) (c : Chip) (ok : Bool) → done (emit s c ok) ≡ ok
emit_done Open c ok = done_flag ok
emit_done Close c ok = done_flag ok
emit_done (Send n bytes) c ok = done_flag ok
emit_done (Mask r v m) c ok = done_flag ok
emit_done (Plain e) c ok = done_flag ok

-- no closing follows a failed opening
no_opening : (os : List ℕ) (s : Step) (t u : Trace) → fine s ≡ true → inner s ≡ true → (r : Rest os (taken in_list os false s t) u)
    → eqb (emit s t.chip false).kind 1 ≡ true → r.closing ≡ []
no_opening os Open t u f n r h = r.shut refl
no_opening os Close t u f n r h = absurd (false≢true n)
no_opening os (Send m bytes) t u f n r h = absurd (false≢true h)
no_opening os (Mask g v m) t u f n r h = absurd (false≢true h)
no_opening os (Plain e) t u f n r h = absurd (false≢true (sym (aside_of e f).kind ∙ h))

pub inner_progress : (s : Step) (ok : Bool) (k : ℕ) (progress : Progress) → inner s ≡ true → progress_for s ok k progress ≡ progress_of ok k
inner_progress Open ok k progress n = refl
inner_progress Close ok k progress n = absurd (false≢true n)
inner_progress (Send m bytes) ok k progress n = refl
inner_progress (Mask g v m) ok k progress n = refl
inner_progress (Plain e) ok k progress n = refl

-- ---- a program, step by step

cut_moved : (i : ℕ) (a b d e : List Entry) → a ≡ b → d ≡ e → Cut i a d → Cut i b e
cut_moved i a b d e p q h = subst (λ (x : List Entry). Cut i x e) p (subst (λ (y : List Entry). Cut i a y) q h)

module _ (os : List ℕ) (i : ℕ) where
  abbrev uncut : List ℕ
  uncut = set os i 0

  -- what is left of a program, from a line that goes: it fails at i, not before the line's count
  abbrev Ahead : List Step → Trace → Type 0
  Ahead ss t = (t.count ≤ i) × Cut i (run in_list os ss t).log (run in_list uncut ss t).log

  abbrev From : List Step → Type 0
  From ss = (t : Trace) → t.progress ≡ Going → t.count ≡ length t.log → (run in_list os ss t).progress ≡ Refused11 i → Ahead ss t

  -- a step that is not taken
  skipped : (s : Step) (ss : List Step) (t : Trace) → acts s t.progress t.opened ≡ false → From ss
      → t.progress ≡ Going → t.count ≡ length t.log → (run in_list os ss (step in_list os s t)).progress ≡ Refused11 i
      → (t.count ≤ i) × Cut i (run in_list os ss (step in_list os s t)).log (run in_list uncut ss (step in_list uncut s t)).log
  skipped s ss t a rest g k f =
      let here : t ≡ step in_list os s t = idle in_list os s t a in
      let there : t ≡ step in_list uncut s t = idle in_list uncut s t a in
      let r : Ahead ss t = rest t g k (ap (λ (u : Trace). (run in_list os ss u).progress) here ∙ f) in
      (r.0, cut_moved i _ _ _ _ (ap (λ (u : Trace). (run in_list os ss u).log) here) (ap (λ (u : Trace). (run in_list uncut ss u).log) there) r.1)

  -- one that is taken and goes on
  passed : (s : Step) (ss : List Step) (t : Trace) → acts s t.progress t.opened ≡ true
      → progress_for s (ok_for os t.count s) t.count t.progress ≡ Going → From ss
      → t.count ≡ length t.log → (run in_list os ss (step in_list os s t)).progress ≡ Refused11 i
      → (t.count ≤ i) × Cut i (run in_list os ss (step in_list os s t)).log (run in_list uncut ss (step in_list uncut s t)).log
  passed s ss t a g rest k f =
      let ok : Bool = ok_for os t.count s in
      let u : Trace = taken in_list os ok s t in
      let here : u ≡ step in_list os s t = active in_list os s t a in
      let more : u.count ≡ length u.log = counted_taken os s t ok k in
      let r : Ahead ss u = rest u g more (ap (λ (v : Trace). (run in_list os ss v).progress) here ∙ f) in
      let late : t.count < i = omega (arith, r.0) in
      let same : ok ≡ ok_for uncut t.count s = ok_same os uncut t.count s (sym (get_or-set_other os i t.count 0 0 (λ e. omega arith))) in
      let there : u ≡ step in_list uncut s t = ap (λ (b : Bool). taken in_list uncut b s t) same ∙ active in_list uncut s t a in
      (omega arith, cut_moved i _ _ _ _ (ap (λ (v : Trace). (run in_list os ss v).log) here) (ap (λ (v : Trace). (run in_list uncut ss v).log) there) r.1)

  -- the failing step
  stopped : (s : Step) (ss : List Step) (t : Trace) → fine s ≡ true → inner s ≡ true → acts s t.progress t.opened ≡ true
      → ok_for os t.count s ≡ false
      → t.count ≡ length t.log → (run in_list os ss (step in_list os s t)).progress ≡ Refused11 i
      → (t.count ≤ i) × Cut i (run in_list os ss (step in_list os s t)).log (run in_list uncut ss (step in_list uncut s t)).log
  stopped s ss t f n a o k w =
      let u : Trace = taken in_list os false s t in
      let here : u ≡ step in_list os s t = ap (λ (b : Bool). taken in_list os b s t) (sym o) ∙ active in_list os s t a in
      let fell : u.progress ≡ Refused11 t.count = inner_progress s false t.count t.progress n in
      let r : Rest os u (run in_list os ss u) = stopped_run os ss u (ap goes fell) in
      let index : i ≡ t.count = failed_index i t.count (sym w ∙ sym (ap (λ (v : Trace). (run in_list os ss v).progress) here) ∙ r.progress ∙ fell) in
      let met : ok_for uncut t.count s ≡ true = ok_done uncut t.count s (ap (λ (j : ℕ). get_or uncut j 0) (sym index) ∙ set_done os i) in
      let v : Trace = taken in_list uncut true s t in
      let there : v ≡ step in_list uncut s t = ap (λ (b : Bool). taken in_list uncut b s t) (sym met) ∙ active in_list uncut s t a in
      let more = run_log uncut ss v in (
        omega arith,
        record {
          earlier = t.log;
          last = emit s t.chip false;
          there = emit s t.chip true;
          closing = r.closing;
          later = more.0;
          index = index ∙ k;
          cuts = sym (ap (λ (x : Trace). (run in_list os ss x).log) here) ∙ r.log ∙ append_snoc t.log (emit s t.chip false) r.closing;
          wholes = sym (ap (λ (x : Trace). (run in_list uncut ss x).log) there) ∙ more.1 ∙ append_snoc t.log (emit s t.chip true) more.0;
          same = emit_bare s t.chip;
          failed = emit_done s t.chip false;
          met = emit_done s t.chip true;
          closes = r.closes;
          shut = no_opening os s t (run in_list os ss u) f n r;
        },
      )

  inner_acts : (s : Step) (progress : Progress) (opened : Bool) → inner s ≡ true → progress ≡ Going → acts s progress opened ≡ true
  inner_acts Open progress opened n g = ap goes g
  inner_acts Close progress opened n g = absurd (false≢true n)
  inner_acts (Send m bytes) progress opened n g = ap goes g
  inner_acts (Mask r v m) progress opened n g = ap goes g
  inner_acts (Plain e) progress opened n g = ap goes g

  any_inner : (s : Step) (ss : List Step) (t : Trace) → fine s ≡ true → inner s ≡ true → From ss
      → t.progress ≡ Going → t.count ≡ length t.log → (run in_list os ss (step in_list os s t)).progress ≡ Refused11 i
      → (t.count ≤ i) × Cut i (run in_list os ss (step in_list os s t)).log (run in_list uncut ss (step in_list uncut s t)).log
  any_inner s ss t f n rest g k w = go (ok_for os t.count s) refl
    where
      go : (b : Bool) → ok_for os t.count s ≡ b
          → (t.count ≤ i) × Cut i (run in_list os ss (step in_list os s t)).log (run in_list uncut ss (step in_list uncut s t)).log
      go true o =
          passed s ss t (inner_acts s t.progress t.opened n g)
          (inner_progress s (ok_for os t.count s) t.count t.progress n ∙ ap (λ (b : Bool). progress_of b t.count) o) rest k w
      go false o = stopped s ss t f n (inner_acts s t.progress t.opened n g) o k w

  any_close : (ss : List Step) (t : Trace) → From ss
      → t.progress ≡ Going → t.count ≡ length t.log → (run in_list os ss (step in_list os Close t)).progress ≡ Refused11 i
      → (t.count ≤ i) × Cut i (run in_list os ss (step in_list os Close t)).log (run in_list uncut ss (step in_list uncut Close t)).log
  any_close ss t rest g k w = go t.opened refl
    where
      go : (b : Bool) → t.opened ≡ b
          → (t.count ≤ i) × Cut i (run in_list os ss (step in_list os Close t)).log (run in_list uncut ss (step in_list uncut Close t)).log
      go true h = passed Close ss t h g rest k w
      go false h = skipped Close ss t h rest g k w

  cut_run : (ss : List Step) → every fine ss ≡ true → From ss
  unfolding run every
  cut_run [] f t g k w = absurd (not_going t i g w)
  cut_run (Open ∷ ss) f t g k w = any_inner Open ss t refl refl (cut_run ss (and_right true (every fine ss) f)) g k w
  cut_run (Close ∷ ss) f t g k w = any_close ss t (cut_run ss (and_right true (every fine ss) f)) g k w
  cut_run (Send n bytes ∷ ss) f t g k w =
      any_inner (Send n bytes) ss t (and_left (fine (Send n bytes)) (every fine ss) f) refl (cut_run ss (and_right (fine (Send n bytes)) (every fine ss) f)) g k w
  cut_run (Mask r v m ∷ ss) f t g k w =
      any_inner (Mask r v m) ss t (and_left (fine (Mask r v m)) (every fine ss) f) refl (cut_run ss (and_right (fine (Mask r v m)) (every fine ss) f)) g k w
  cut_run (Plain e ∷ ss) f t g k w =
      any_inner (Plain e) ss t (and_left (fine (Plain e)) (every fine ss) f) refl (cut_run ss (and_right (fine (Plain e)) (every fine ss) f)) g k w

-- the cut trace against the uncut one
pub cut_trace : (os : List ℕ) (ss : List Step) (c : Chip) (i : ℕ) → every fine ss ≡ true → (trace os ss c).progress ≡ Refused11 i
    → Cut i (trace os ss c).log (trace (set os i 0) ss c).log
unfolding trace
cut_trace os ss c i f w = (cut_run os i ss f (line c [] 0 Going false) refl refl w).1

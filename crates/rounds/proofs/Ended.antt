-- When every step has been taken, what is left does not hang on the rest of the script: not the entries alone (`all_taken`), but the record, the answer and the
-- count too. Assumes nothing.
use Prim.Native.Nat.{ℕ, ◌+◌, ◌≤◌, ◌<◌}
use mathlib.Core.Path.{◌≡◌, refl, sym, ap, subst, ◌∙◌}
use mathlib.Core.Bool.{Bool, true, false, cond, ◌&&◌, ◌||◌}
use mathlib.Core.List.{List, [], ◌∷◌, ◌++◌}
use native.Mathlib.Omega.{arith}
use lib.Dec.{eqb}
use lib.ListN.{get_or, length, length-append, length-take, take}
use Rattle.transcript.specs.declared.Entry.{Entry}
use Rattle.transcript.specs.Entries.{bare}
use Rattle.transcript.specs.Table.{is_read}
use Rattle.refusals.specs.declared.Answer.{Answer}
use Rattle.chip.specs.declared.Chip.{Chip}
use Rattle.chip.specs.declared.Progress.TheVariants.{Going}
use Rattle.chip.specs.Calls.{Called, call_entries, call_of, performed, refusal_with}
use Rattle.chip.specs.Courses.{Course, asked_by, entries_by, left_by}
use Rattle.chip.specs.Steps.{Step, Trace, acts, goes, emit, in_list, line, ok_for, progress_of, run, step, taken, trace}
use Rattle.chip.specs.Steps.Step.{Close, Plain}
use Rattle.chip.proofs.Laws.{active, idle}
use Rattle.history.proofs.Cuts.{ok_same}
use Rattle.history.proofs.Runs.{counted_taken, run_log}
use Rattle.bands.specs.Tables.{plan_by}
use Rattle.boards.specs.Hops.{hop_result, hop_row}
use Rattle.device.specs.Calls.{free_result, no_chip}
use Rattle.driver.specs.declared.Driver.{Driver}
use Rattle.driver.specs.Calls.{Both, both, rate_result, rate_row}
use Rattle.driver.specs.Programs.{if_for}
use Rattle.driver.specs.Record.{sound_driver, xtal_of}
use Rattle.r82xx.specs.Calls.{plan_for}
use Rattle.r82xx.specs.Record.{sound}
use Rattle.r82xx.specs.declared.Tuner.{Tuner}
use Rattle.sequences.specs.Asides.{Other, aside, aside_result, aside_row}
use Rattle.sequences.specs.Calls.{Order, call, result, row_of, sound_for}
use Rattle.sequences.specs.Calls.Order.{BoardTune, SampleRate}
use Rattle.sequences.proofs.Most.{progress_on}
use Rattle.sequences.proofs.Views.{result_row}
use Rattle.rounds.specs.Driven.{Ends, Knows, Rounds}
use Rattle.rounds.specs.Scripts.{Ask, Script, made, order_with, other_with, step_at, took}
use Rattle.rounds.specs.Scripts.Ask.{On, Beside}
use Rattle.rounds.proofs.Alike.{Alike, same_failed, shut_after, shuts, stopped_end, told, took_append, took_read}
use Rattle.rounds.proofs.Alike.Alike.{none, same, read}
use Rattle.rounds.proofs.Driven.{all_taken, at_end, told as told-so}
use Rattle.rounds.proofs.Rounds.{sound_alike}
use Rattle.rounds.proofs.Programs.{hop_alike}
use Rattle.rounds.proofs.Rows.{Kin, kin_refl, mute_rate, order_kin, other_kin}
use Rattle.rounds.proofs.Rows.Kin.{still, moved}

-- ---- two runs whose entries are all known

module _ (os us : List ℕ) (i k : ℕ) (agree : take i os ≡ take i us) where
  -- a step that is taken is entry `count`, which is known
  known_at : (s : Step) (ss : List Step) (t : Trace) → t.count ≡ length t.log → acts s t.progress t.opened ≡ true
      → length (run in_list os ss (step in_list os s t)).log ≤ i → t.count < i
  known_at s ss t n a h =
      let v : Trace = taken in_list os (ok_for os t.count s) s t in
      let more = run_log os ss v in
      let all : length (run in_list os ss v).log ≤ i = subst (λ (u : Trace). length (run in_list os ss u).log ≤ i) (sym (active in_list os s t a)) h in
      omega (arith, ap length more.1, length-append v.log more.0, counted_taken os s t (ok_for os t.count s) n)

  same_taken : (s : Step) (ss : List Step) (t : Trace) → t.count ≡ length t.log → acts s t.progress t.opened ≡ true
      → length (run in_list os ss (step in_list os s t)).log ≤ i → step in_list os s t ≡ step in_list us s t
  same_taken s ss t n a h =
      sym (active in_list os s t a)
      ∙ ap (λ (c : Bool). taken in_list os c s t) (ok_same os us t.count s (told os us i k agree t.count (known_at s ss t n a h)))
      ∙ active in_list us s t a

  -- after a failed step
  stopped : (ss ts : List Step) (t : Trace) → t.count ≡ length t.log → goes t.progress ≡ false → shuts ss ≡ shuts ts
      → length (run in_list os ss t).log ≤ i → run in_list os ss t ≡ run in_list us ts t
  stopped ss ts t n g q h =
      stopped_end os ss t g
      ∙ go (t.opened && shuts ss) (subst (λ (u : Trace). length u.log ≤ i) (stopped_end os ss t g) h)
      ∙ ap (λ (b : Bool). cond (t.opened && b) (shut_after us t) t) q
      ∙ sym (stopped_end us ts t g)
    where
      go : (b : Bool) → length (cond b (shut_after os t) t).log ≤ i → cond b (shut_after os t) t ≡ cond b (shut_after us t) t
      go true l =
          let known : t.count < i = omega (arith, l, counted_taken os Close t (ok_for os t.count Close) n) in
          ap (λ (c : Bool). taken in_list os c Close t) (ok_same os us t.count Close (told os us i k agree t.count known))
      go false l = refl

  -- two reads that are the same but for their data
  module _ (d e : Entry) (r : is_read d.kind ≡ true) (b : bare d ≡ bare e) (ss ts : List Step) (q : shuts ss ≡ shuts ts) (t : Trace) (n : t.count ≡ length t.log) where
    read_ends : (at : ℕ) → at ≤ took t.log → (at + d.n ≤ k → d ≡ e)
        → (at + d.n ≤ k → (v : Trace) → v.count ≡ length v.log → at + d.n ≤ took v.log → length (run in_list os ss v).log ≤ i
        → took (run in_list os ss v).log ≤ k → run in_list os ss v ≡ run in_list us ts v)
        → length (run in_list os ss (step in_list os (Plain d) t)).log ≤ i → took (run in_list os ss (step in_list os (Plain d) t)).log ≤ k
        → run in_list os ss (step in_list os (Plain d) t) ≡ run in_list us ts (step in_list us (Plain e) t)
    read_ends at m one rest h j = go (goes t.progress) refl (ok_for os t.count (Plain d)) refl
      where
        here : goes t.progress ≡ true → (ok : Bool) → ok_for os t.count (Plain d) ≡ ok → taken in_list os ok (Plain d) t ≡ step in_list os (Plain d) t
        here a ok o = ap (λ (c : Bool). taken in_list os c (Plain d) t) (sym o) ∙ active in_list os (Plain d) t a

        there : goes t.progress ≡ true → (ok : Bool) → ok_for os t.count (Plain d) ≡ ok → taken in_list us ok (Plain e) t ≡ step in_list us (Plain e) t
        there a ok o =
            let kinds : ok_for us t.count (Plain d) ≡ ok_for us t.count (Plain e) = ap (λ (x : Entry). eqb (get_or us t.count 0) 0 || eqb x.kind 9) b in
            let alike : ok ≡ ok_for us t.count (Plain e) =
            sym o ∙ ok_same os us t.count (Plain d) (told os us i k agree t.count (known_at (Plain d) ss t n a h)) ∙ kinds in
            ap (λ (c : Bool). taken in_list us c (Plain e) t) alike ∙ active in_list us (Plain e) t a

        go : (g : Bool) → goes t.progress ≡ g → (ok : Bool) → ok_for os t.count (Plain d) ≡ ok
            → run in_list os ss (step in_list os (Plain d) t) ≡ run in_list us ts (step in_list us (Plain e) t)
        go false a ok o =
            ap (run in_list os ss) (sym (idle in_list os (Plain d) t a))
            ∙ stopped ss ts t n a q (subst (λ (u : Trace). length (run in_list os ss u).log ≤ i) (sym (idle in_list os (Plain d) t a)) h)
            ∙ ap (run in_list us ts) (idle in_list us (Plain e) t a)
        go true a false o =
            let v : Trace = taken in_list os false (Plain d) t in
            let alike : v ≡ taken in_list us false (Plain e) t = ap (λ (x : Entry). line t.chip (t.log ++ (x ∷ [])) (t.count + 1) (progress_of false t.count) t.opened) (same_failed d e b) in
            ap (run in_list os ss) (sym (here a false o))
            ∙ stopped ss ts v (counted_taken os (Plain d) t false n) refl q (subst (λ (u : Trace). length (run in_list os ss u).log ≤ i) (sym (here a false o)) h)
            ∙ ap (run in_list us ts) (alike ∙ there a false o)
        go true a true o =
            let v : Trace = taken in_list os true (Plain d) t in
            let few : length (run in_list os ss v).log ≤ i = subst (λ (u : Trace). length (run in_list os ss u).log ≤ i) (sym (here a true o)) h in
            let less : took (run in_list os ss v).log ≤ k = subst (λ (u : Trace). took (run in_list os ss u).log ≤ k) (sym (here a true o)) j in
            let more = run_log os ss v in
            let more-taken : took v.log ≡ took t.log + d.n = took_read t.log d r in
            let known : at + d.n ≤ k = omega (arith, ap took more.1, took_append v.log more.0, less, more-taken, m) in
            let alike : v ≡ taken in_list us true (Plain e) t = ap (λ (x : Entry). taken in_list us true (Plain x) t) (one known) in
            ap (run in_list os ss) (sym (here a true o))
            ∙ rest known v (counted_taken os (Plain d) t true n) (omega arith) few less
            ∙ ap (run in_list us ts) (alike ∙ there a true o)

  same_ends : (s : Step) (ss ts : List Step) (t : Trace) (n : t.count ≡ length t.log)
      → ((v : Trace) → v.count ≡ length v.log → took t.log ≤ took v.log → length (run in_list os ss v).log ≤ i → took (run in_list os ss v).log ≤ k
      → run in_list os ss v ≡ run in_list us ts v)
      → length (run in_list os ss (step in_list os s t)).log ≤ i → took (run in_list os ss (step in_list os s t)).log ≤ k
      → run in_list os ss (step in_list os s t) ≡ run in_list us ts (step in_list us s t)
  same_ends s ss ts t n rest h j = go (acts s t.progress t.opened) refl
    where
      go : (b : Bool) → acts s t.progress t.opened ≡ b → run in_list os ss (step in_list os s t) ≡ run in_list us ts (step in_list us s t)
      go false a =
          let back : step in_list os s t ≡ t = sym (idle in_list os s t a) in
          ap (run in_list os ss) back
          ∙ rest t n (omega arith) (subst (λ (u : Trace). length (run in_list os ss u).log ≤ i) back h) (subst (λ (u : Trace). took (run in_list os ss u).log ≤ k) back j)
          ∙ ap (run in_list us ts) (idle in_list us s t a)
      go true a =
          let ok : Bool = ok_for os t.count s in
          let v : Trace = taken in_list os ok s t in
          let back : step in_list os s t ≡ v = sym (active in_list os s t a) in
          ap (run in_list os ss) back
          ∙ rest v (counted_taken os s t ok n) (omega (arith, took_append t.log (emit s t.chip ok ∷ [])))
          (subst (λ (u : Trace). length (run in_list os ss u).log ≤ i) back h) (subst (λ (u : Trace). took (run in_list os ss u).log ≤ k) back j)
          ∙ ap (run in_list us ts) (active in_list os s t a ∙ same_taken s ss t n a h)

  ends_run : {qs : List ℕ} {at : ℕ} {ss ts : List Step} → Alike k qs at ss ts → (t : Trace) → t.count ≡ length t.log → at ≤ took t.log
      → length (run in_list os ss t).log ≤ i → took (run in_list os ss t).log ≤ k → run in_list os ss t ≡ run in_list us ts t
  unfolding run
  ends_run none t n m h j = refl
  ends_run (same {ss = ss} {ts = ts} s x a) t n m h j = same_ends s ss ts t n (λ v c l f g. ends_run a v c (omega arith) f g) h j
  ends_run (read {at = at} {ss = ss} {ts = ts} d e r b x q f a) t n m h j = read_ends d e r b ss ts q t n at m f (λ l v c p y z. ends_run (a l) v c p y z) h j

  -- the whole traces are the same
  ends_trace : {qs : List ℕ} {ss ts : List Step} → Alike k qs 0 ss ts → (c : Chip) → length (trace os ss c).log ≤ i → took (trace os ss c).log ≤ k → trace os ss c ≡ trace us ts c
  unfolding trace took
  ends_trace a c h j = ends_run a (line c [] 0 Going false) refl (omega arith) h j

  -- ---- a row

  module _ (R : Type 0) (c : Chip) (old : R) (room wide : List ℕ) where
    same_performed : (whole : Answer) (keep : Trace → R) (t u : Trace) → t ≡ u → Ends (performed whole keep room t) (performed whole keep wide u)
    same_performed whole keep t u e = subst (λ (v : Trace). Ends (performed whole keep room t) (performed whole keep wide v)) e (record { next = refl; answer = refl; count = refl })

    pub rows_ended : (all others : List ℕ) (row other : Course R) → Kin k all others R row other → (s : Bool)
        → (asked_by s row (length os) (length room)).number ≡ 0 → (asked_by s other (length us) (length wide)).number ≡ 0
        → length (entries_by (asked_by s row (length os) (length room)) os c) ≤ i → took (entries_by (asked_by s row (length os) (length room)) os c) ≤ k
        → Ends (left_by s row os c old room) (left_by s other us c old wide)
    unfolding left_by
    rows_ended all others row other (still next answer) true p q h j = record { next = refl; answer = refl; count = refl }
    rows_ended all others row other (still next answer) false p q h j = record { next = refl; answer = refl; count = refl }
    rows_ended all others row other (moved argument n m qs ps whole ss ts keep l a) s p q h j =
        let z : ℕ = refusal_with s argument n m (length room) (length os) (length qs) in
        let w : ℕ = refusal_with s argument n m (length wide) (length us) (length ps) in
        let log : call_entries z os ss c ≡ (trace os ss c).log = ap (λ (x : ℕ). call_entries x os ss c) p in
        let same : trace os ss c ≡ trace us ts c =
        ends_trace a c (subst (λ (es : List Entry). length es ≤ i) log h) (subst (λ (es : List Entry). took es ≤ k) log j) in
        subst (λ (x : Called R). Ends x (call_of w whole us ts c keep old wide)) (sym (progress_on z whole os ss c keep old room p))
        (subst (λ (y : Called R). Ends (performed whole keep room (trace os ss c)) y) (sym (progress_on w whole us ts c keep old wide q))
        (same_performed whole keep (trace os ss c) (trace us ts c) same))

-- ---- every call

-- no more entries than rounds
taken_all : (a : Ask) (os : List ℕ) (s : Script) → step_at (length os) (made a s) ≡ [] → length (made a s) ≤ length os
taken_all a os s h = omega (arith, ap length (at_end (length os) (made a s) h), length-take (length os) (made a s))

module _ (os rs : List ℕ) (es : List Entry) (s u : Script) where
  module _ (a : Ask) (r : Rounds a os rs es) (k : Knows a os rs s) (l : Knows a os rs u) (h : step_at (length os) (made a s) ≡ []) where
    outcomes : take (length os) s.outcomes ≡ take (length os) u.outcomes
    outcomes = k.outcomes ∙ sym l.outcomes

    replies : take (length rs) s.replies ≡ take (length rs) u.replies
    replies = k.replies ∙ sym l.replies

    read_all : took (made a s) ≤ length rs
    read_all = omega (arith, ap took (all_taken a os rs es r s s k k h).0, (told-so a os rs es r s k).replies)

  -- "When every step has been taken": record, answer and count of the last call are those of every call with what is known
  pub ended_on : (o : Order) (t : Tuner) → Rounds (On o t) os rs es → Knows (On o t) os rs s → Knows (On o t) os rs u → step_at (length os) (made (On o t) s) ≡ []
      → Ends (result (call (order_with s.replies o) s.outcomes s.room) t) (result (call (order_with u.replies o) u.outcomes u.room) t)
  ended_on o t r k l h =
      let good : sound_for (order_with s.replies o) t ≡ sound_for (order_with u.replies o) t = sound_alike s.replies u.replies o t in
      let x : Order = order_with s.replies o in
      let y : Order = order_with u.replies o in
      let refused : (asked_by (sound_for x t) (row_of y t) (length u.outcomes) (length u.room)).number ≡ 0 =
      ap (λ (b : Bool). (asked_by b (row_of y t) (length u.outcomes) (length u.room)).number) good ∙ l.taken in
      subst (λ (z : Called Tuner). Ends z (result (call y u.outcomes u.room) t)) (sym (result_row t s.outcomes s.room x))
      (subst (λ (z : Called Tuner). Ends (left_by (sound_for x t) (row_of x t) s.outcomes t.chip t s.room) z)
      (ap (λ (b : Bool). left_by b (row_of y t) u.outcomes t.chip t u.room) good ∙ sym (result_row t u.outcomes u.room y))
      (rows_ended s.outcomes u.outcomes (length os) (length rs) (outcomes (On o t) r k l h) Tuner t.chip t s.room u.room s.replies u.replies
      (row_of x t) (row_of y t) (order_kin (length rs) s.replies u.replies (replies (On o t) r k l h) o t) (sound_for x t) k.taken refused
      (taken_all (On o t) os s h) (read_all (On o t) r k l h)))

  -- and the driver's record with it, of the two calls with steps that hand one on: a sample rate and a board-level tune
  pub ended_rate : (rate : ℕ) (table : List ℕ) (d : Driver) (t : Tuner) → Rounds (On (SampleRate rate table d) t) os rs es
      → Knows (On (SampleRate rate table d) t) os rs s → Knows (On (SampleRate rate table d) t) os rs u → step_at (length os) (made (On (SampleRate rate table d) t) s) ≡ []
      → Ends (rate_result rate (plan_by table d.frequency) s.outcomes t d s.room) (rate_result rate (plan_by table d.frequency) u.outcomes t d u.room)
  unfolding rate_result
  ended_rate rate table d t r k l h =
      let a : Ask = On (SampleRate rate table d) t in
      let row = rate_row rate (plan_by table d.frequency) t d in
      rows_ended s.outcomes u.outcomes (length os) (length rs) (outcomes a r k l h) Both t.chip (both t d) s.room u.room s.replies u.replies row row
      (kin_refl (length rs) s.replies u.replies Both row (mute_rate (if_for t.ifreq rate) rate (xtal_of d) (plan_by table d.frequency).plan.inverted))
      (sound t && sound_driver d) k.taken l.taken (taken_all a os s h) (read_all a r k l h)

  pub ended_hop : (hz : ℕ) (table own : List ℕ) (d : Driver) (t : Tuner) → Rounds (On (BoardTune hz table own d) t) os rs es
      → Knows (On (BoardTune hz table own d) t) os rs s → Knows (On (BoardTune hz table own d) t) os rs u → step_at (length os) (made (On (BoardTune hz table own d) t) s) ≡ []
      → Ends (hop_result (plan_by table hz) hz s.replies s.outcomes t d s.room) (hop_result (plan_by table hz) hz u.replies u.outcomes t d u.room)
  unfolding hop_result
  ended_hop hz table own d t r k l h =
      let a : Ask = On (BoardTune hz table own d) t in
      let at = plan_by table hz in
      rows_ended s.outcomes u.outcomes (length os) (length rs) (outcomes a r k l h) Both t.chip (both t d) s.room u.room s.replies u.replies
      (hop_row at hz s.replies t d) (hop_row at hz u.replies t d)
      (moved _ _ _ s.replies u.replies _ _ _ _ (λ n. n)
      (hop_alike (length rs) s.replies u.replies (replies a r k l h) t.kind t.chip.address at.plan (plan_for t at.plan.hz)))
      (sound t && sound_driver d) k.taken l.taken (taken_all a os s h) (read_all a r k l h)

  pub ended_beside : (o : Other) → Rounds (Beside o) os rs es → Knows (Beside o) os rs s → Knows (Beside o) os rs u → step_at (length os) (made (Beside o) s) ≡ []
      → Ends (aside_result (aside (other_with s.replies o) s.outcomes s.room)) (aside_result (aside (other_with u.replies o) u.outcomes u.room))
  unfolding free_result
  ended_beside o r k l h =
      rows_ended s.outcomes u.outcomes (length os) (length rs) (outcomes (Beside o) r k l h) (Unit {0}) no_chip tt s.room u.room s.replies u.replies
      (aside_row (other_with s.replies o)) (aside_row (other_with u.replies o)) (other_kin (length rs) s.replies u.replies (replies (Beside o) r k l h) o) true
      k.taken l.taken (taken_all (Beside o) os s h) (read_all (Beside o) r k l h)

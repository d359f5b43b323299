-- `initialize`: what the shadow had before plays no part. Whatever two records of one chip say of its registers, an initialisation makes the same entries on both, with any
-- outcomes; and where it is done it leaves both the same. Its masked writes are built on the chunks that stand before them, which store all 27 bytes (#106). Assumes nothing.
use Prim.Native.Nat.{ℕ, suc, ◌+◌, ◌<◌}
use mathlib.Core.Path.{◌≡◌, refl, sym, ap, ◌∙◌}
use mathlib.Core.Bool.{Bool, true, false, cond, false≢true}
use mathlib.Core.List.{List, [], ◌∷◌, ◌++◌, map}
use native.Mathlib.Omega.{arith}
use lib.Dec.{eqb}
use lib.ListN.{drop, get_or, get_or-replicate, length, replicate, take}
use Rattle.transcript.specs.declared.Entry.{Entry}
use Rattle.attempts.specs.Attempts.{byte_in, doubt_in, last_in, tuner_at}
use Rattle.attempts.specs.Namings.{Last}
use Rattle.attempts.specs.Namings.Last.{Never, Tried}
use Rattle.attempts.proofs.Lasts.{known, last_append, last_known}
use Rattle.refusals.specs.declared.Answer.{Answer}
use Rattle.refusals.specs.declared.Answer.TheVariants.{Done, Refused, Stopped}
use Rattle.chip.specs.declared.Chip.{Chip}
use Rattle.chip.specs.declared.Progress.{Progress}
use Rattle.chip.specs.declared.Progress.TheVariants.{Going, Refused11}
use Rattle.chip.specs.Calls.{Called, answer_of, call_of, called, performed, refusal_with}
use Rattle.chip.specs.Chips.{attempted_by, chip_of}
use Rattle.chip.specs.Courses.{left_by}
use Rattle.chip.specs.Steps.{Step, Trace, chunk_step, chunk_table, every, goes, in_list, line, ok_for, run, step, taken, trace, tuner_write, updates, while_open}
use Rattle.chip.specs.Steps.Step.{Open, Close, Send, Mask, Plain}
use Rattle.chip.proofs.Laws.{and_left, and_right, run_address, run_app}
use Rattle.history.specs.Histories.{Tracks}
use Rattle.history.proofs.Demand.{follows}
use Rattle.history.proofs.Reload.{reload_last}
use Rattle.history.proofs.Runs.{shut_run}
use Rattle.history.proofs.Tracked.{tracks_trace}
use Rattle.r82xx.specs.declared.Tuner.{Tuner}
use Rattle.r82xx.specs.Orders.{result_of}
use Rattle.r82xx.specs.Orders.Order.{Initialize}
use Rattle.r82xx.specs.Record.{sound, with_chip}
use Rattle.writes.specs.Lists.{if_updates, init_array, init_updates}
use Rattle.writes.specs.Programs.{init_steps, send_all}
use Rattle.sequences.specs.Calls.{Call, call, entries, result, tuner_after}
use Rattle.sequences.specs.Calls.Order.{Tuned}
use Rattle.sequences.specs.Sequences.{Sequence}
use Rattle.sequences.proofs.Demand.{sequence_history}
use Rattle.history.proofs.Fine.{fine_reload}

-- ---- a run of steps without a masked one looks at no byte of the record

abbrev blind : Step → Bool
blind Open = true
blind Close = true
blind (Send n bytes) = true
blind (Mask r v m) = false
blind (Plain e) = true

-- what is left of a trace without the chip's lists
abbrev seen : Trace → Trace
seen t = line (chip_of t.chip.address [] []) t.log t.count t.progress t.opened

module _ (os : List ℕ) where
  blind_step : (s : Step) → blind s ≡ true → (t : Trace) → seen (step in_list os s t) ≡ seen (step in_list os s (seen t))
  unfolding step attempted_by
  blind_step Open h t = go (goes t.progress)
    where
      go : (b : Bool) → seen (cond b (taken in_list os (ok_for os t.count Open) Open t) t) ≡ seen (cond b (taken in_list os (ok_for os t.count Open) Open (seen t)) (seen t))
      go true = refl
      go false = refl
  blind_step Close h t = go t.opened
    where
      go : (b : Bool) → seen (cond b (taken in_list os (ok_for os t.count Close) Close t) t) ≡ seen (cond b (taken in_list os (ok_for os t.count Close) Close (seen t)) (seen t))
      go true = refl
      go false = refl
  blind_step (Send n bytes) h t = go (goes t.progress)
    where
      go : (b : Bool)
          → seen (cond b (taken in_list os (ok_for os t.count (Send n bytes)) (Send n bytes) t) t)
          ≡ seen (cond b (taken in_list os (ok_for os t.count (Send n bytes)) (Send n bytes) (seen t)) (seen t))
      go true = refl
      go false = refl
  blind_step (Mask r v m) h t = absurd (false≢true h)
  blind_step (Plain e) h t = go (goes t.progress)
    where
      go : (b : Bool)
          → seen (cond b (taken in_list os (ok_for os t.count (Plain e)) (Plain e) t) t) ≡ seen (cond b (taken in_list os (ok_for os t.count (Plain e)) (Plain e) (seen t)) (seen t))
      go true = refl
      go false = refl

  blind_run : (ss : List Step) → every blind ss ≡ true → (t u : Trace) → seen t ≡ seen u → seen (run in_list os ss t) ≡ seen (run in_list os ss u)
  unfolding run every
  blind_run [] h t u e = e
  blind_run (s ∷ ss) h t u e =
      let one = and_left (blind s) (every blind ss) h in
      blind_run ss (and_right (blind s) (every blind ss) h) (step in_list os s t) (step in_list os s u)
      (blind_step s one t ∙ ap (λ (w : Trace). seen (step in_list os s w)) e ∙ sym (blind_step s one u))

  -- a bracket ends shut
  closed : (t : Trace) → (step in_list os Close t).opened ≡ false
  unfolding step
  closed t = go t.opened refl
    where
      go : (b : Bool) → t.opened ≡ b → (cond b (taken in_list os (ok_for os t.count Close) Close t) t).opened ≡ false
      go true e = refl
      go false e = e

  shut_behind : (ss : List Step) (t : Trace) → (run in_list os (while_open ss) t).opened ≡ false
  unfolding run
  shut_behind ss t =
      ap (λ (w : Trace). w.opened) (run_app in_list os ss (Close ∷ []) (step in_list os Open t)) ∙ closed (run in_list os ss (step in_list os Open t))

chunks_blind : every blind (send_all init_array) ≡ true
unfolding every
chunks_blind = refl

-- ---- after the chunks

-- two lists of one length that agree at every place are equal
each_same : {A : Type 0} (xs ys : List A) (d : A) → length xs ≡ length ys → ((i : ℕ) → i < length xs → get_or xs i d ≡ get_or ys i d) → xs ≡ ys
each_same [] [] d e h = refl
each_same [] (y ∷ ys) d e h = absurd (omega arith)
each_same (x ∷ xs) [] d e h = absurd (omega arith)
each_same (x ∷ xs) (y ∷ ys) d e h = (λ i. h 0 (omega arith) i ∷ each_same xs ys d (omega arith) (λ j l. h (suc j) (omega (arith, l))) i)

module _ (c : Chip) (es : List Entry) (w : Tracks init_array c es) (os : List ℕ) where
  abbrev sent : Trace
  sent = trace os (send_all init_array) c

  tracked : Tracks init_array sent.chip (es ++ sent.log)
  tracked = tracks_trace init_array c es os (send_all init_array) (fine_reload init_array) w

  same_address : sent.chip.address ≡ c.address
  unfolding trace
  same_address = run_address in_list os (send_all init_array) (line c [] 0 Going false)

  module _ (going : sent.progress ≡ Going) where
    -- the last attempt of each register is the chunk's
    last_there : (i : ℕ) → i < 27 → last_in sent.chip.address (es ++ sent.log) (5 + i) ≡ Tried (get_or init_array i 0) true
    last_there i h =
        let before : Last = last_in c.address es (5 + i) in
        ap (λ (a : ℕ). last_in a (es ++ sent.log) (5 + i)) same_address
        ∙ last_append (tuner_at c.address) Never es sent.log (5 + i)
        ∙ last_known (tuner_at c.address) before sent.log (5 + i)
        ∙ ap (λ (l : Last). known l before) (reload_last os c init_array refl going i h)

    shadow_there : sent.chip.shadow ≡ init_array
    shadow_there =
        each_same sent.chip.shadow init_array 0 tracked.bytes
        (λ i h. tracked.shadow i (omega (arith, h, tracked.bytes)) ∙ ap (byte_in (get_or init_array i 0)) (last_there i (omega (arith, h, tracked.bytes))))

    marks_there : sent.chip.doubtful ≡ replicate 27 false
    marks_there =
        each_same sent.chip.doubtful (replicate 27 false) true tracked.marks
        (λ i h.
        tracked.doubtful i (omega (arith, h, tracked.marks))
        ∙ ap doubt_in (last_there i (omega (arith, h, tracked.marks)))
        ∙ sym (get_or-replicate 27 i false true (omega (arith, h, tracked.marks))))

    chip_there : sent.chip ≡ chip_of c.address init_array (replicate 27 false)
    chip_there = (λ i. chip_of (same_address i) (shadow_there i) (marks_there i))

-- ---- the whole program, on two records of one chip

abbrev rest : List Step
rest = while_open (updates init_updates) ++ while_open (updates (if_updates 2_300_000))

module _ (c d : Chip) (es fs : List Entry) (v : Tracks init_array c es) (w : Tracks init_array d fs) (one : c.address ≡ d.address) (os : List ℕ) where
  abbrev first : Trace
  first = trace os (send_all init_array) c

  abbrev second : Trace
  second = trace os (send_all init_array) d

  alike : seen first ≡ seen second
  unfolding trace
  alike = blind_run os (send_all init_array) chunks_blind (line c [] 0 Going false) (line d [] 0 Going false) (ap (λ (a : ℕ). line (chip_of a [] []) [] 0 Going false) one)

  same_progress : first.progress ≡ second.progress
  same_progress = ap (λ (t : Trace). t.progress) alike

  -- all chunks were done: both records have their bytes, so both go on alike
  same_trace : first.progress ≡ Going → first ≡ second
  same_trace going =
      let chips : first.chip ≡ second.chip =
      chip_there c es v os going ∙ ap (λ (a : ℕ). chip_of a init_array (replicate 27 false)) one ∙ sym (chip_there d fs w os (sym same_progress ∙ going)) in
      (λ i. line (chips i) (alike i).log (alike i).count (alike i).progress (alike i).opened)

  split : (x : Chip) → trace os init_steps x ≡ run in_list os rest (trace os (send_all init_array) x)
  unfolding trace
  split x = run_app in_list os (send_all init_array) rest (line x [] 0 Going false)

  -- the second bracket of the chunks is shut
  shut : (x : Chip) → (trace os (send_all init_array) x).opened ≡ false
  unfolding trace
  shut x =
      let start : Trace = line x [] 0 Going false in
      ap (λ (t : Trace). t.opened) (run_app in_list os (tuner_write init_array 0 3) (tuner_write init_array 3 5) start)
      ∙ shut_behind os (map (chunk_step init_array) (drop 3 (take 5 chunk_table))) (run in_list os (tuner_write init_array 0 3) start)

  -- or a chunk failed: nothing more is done
  stopped : (x : Chip) → goes (trace os (send_all init_array) x).progress ≡ false → trace os init_steps x ≡ trace os (send_all init_array) x
  stopped x g = split x ∙ sym (shut_run os rest (trace os (send_all init_array) x) g (shut x))

  same_log : (trace os init_steps c).log ≡ (trace os init_steps d).log
  same_log = go first.progress refl
    where
      go : (p : Progress) → first.progress ≡ p → (trace os init_steps c).log ≡ (trace os init_steps d).log
      go Going e = ap (λ (t : Trace). t.log) (split c ∙ ap (run in_list os rest) (same_trace e) ∙ sym (split d))
      go (Refused11 k) e =
          let g : goes first.progress ≡ false = ap goes e in
          ap (λ (t : Trace). t.log) (stopped c g) ∙ ap (λ (t : Trace). t.log) alike ∙ sym (ap (λ (t : Trace). t.log) (stopped d (ap goes (sym same_progress) ∙ g)))

  same_chip : (trace os init_steps c).progress ≡ Going → (trace os init_steps c).chip ≡ (trace os init_steps d).chip
  same_chip done = go first.progress refl
    where
      go : (p : Progress) → first.progress ≡ p → (trace os init_steps c).chip ≡ (trace os init_steps d).chip
      go Going e = ap (λ (t : Trace). t.chip) (split c ∙ ap (run in_list os rest) (same_trace e) ∙ sym (split d))
      go (Refused11 k) e =
          absurd (false≢true (sym (ap goes e) ∙ sym (ap (λ (t : Trace). goes t.progress) (stopped c (ap goes e))) ∙ ap goes done))

  same_end : (trace os init_steps c).progress ≡ (trace os init_steps d).progress
  same_end = go first.progress refl
    where
      go : (p : Progress) → first.progress ≡ p → (trace os init_steps c).progress ≡ (trace os init_steps d).progress
      go Going e = ap (λ (t : Trace). t.progress) (split c ∙ ap (run in_list os rest) (same_trace e) ∙ sym (split d))
      go (Refused11 k) e =
          let g : goes first.progress ≡ false = ap goes e in
          ap (λ (t : Trace). t.progress) (stopped c g) ∙ same_progress ∙ sym (ap (λ (t : Trace). t.progress) (stopped d (ap goes (sym same_progress) ∙ g)))

-- ---- over any two sequences of calls

abbrev done_so : Answer → Bool
done_so (Done value) = true
done_so (Refused number) = false
done_so (Stopped index) = false

module _ (t u : Tuner) (es fs : List Entry) (p : Sequence t es) (q : Sequence u fs) (one : t.chip.address ≡ u.chip.address) (ranges : sound t ≡ sound u) (os room : List ℕ) where
  abbrev initialise : Call
  initialise = call (Tuned Initialize) os room

  tracks_of : (x : Tuner) (xs : List Entry) → Sequence x xs → Tracks init_array x.chip xs
  tracks_of x xs s = follows init_array x.chip xs (sequence_history x xs s)

  -- the same entries, whatever fails
  pub anew : entries initialise t ≡ entries initialise u
  anew =
      (λ i. cond (eqb (refusal_with (ranges i) 0 19 0 (length room) (length os) 0) 0) (same_log t.chip u.chip es fs (tracks_of t es p) (tracks_of u fs q) one os i) [])

  -- and where it is done the same shadow and marks
  pub anew_chip : (result initialise t).answer ≡ Done 0 → (tuner_after initialise t).chip ≡ (tuner_after initialise u).chip
  unfolding result_of left_by call_of
  anew_chip h = go (eqb (number t) 0) refl h
    where
      number : Tuner → ℕ
      number x = refusal_with (sound x) 0 19 0 (length room) (length os) 0

      left : Bool → Tuner → Called Tuner
      left b x = cond b (performed (Done 0) (λ tr. with_chip x tr.chip) room (trace os init_steps x.chip)) (called x room 0 (Refused (number x)))

      by : (w : Progress) → (trace os init_steps t.chip).progress ≡ w → answer_of (Done 0) w ≡ Done 0 → (trace os init_steps t.chip).chip ≡ (trace os init_steps u.chip).chip
      by Going e k = same_chip t.chip u.chip es fs (tracks_of t es p) (tracks_of u fs q) one os e
      by (Refused11 j) e k = absurd (false≢true (ap done_so k))

      go : (b : Bool) → eqb (number t) 0 ≡ b → (left b t).answer ≡ Done 0 → (left b t).next.chip ≡ (left (eqb (number u) 0) u).next.chip
      go true e k =
          by (trace os init_steps t.chip).progress refl k
          ∙ ap (λ (b : Bool). (left b u).next.chip) (sym e ∙ ap (λ (s : Bool). eqb (refusal_with s 0 19 0 (length room) (length os) 0) 0) ranges)
      go false e k = absurd (false≢true (ap done_so k))

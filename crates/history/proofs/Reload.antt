-- Reload's program, done: the last attempt of each of the 27 registers is the byte sent, and it was done. Assumes nothing.
use Prim.Native.Nat.{ℕ, ◌+◌, ◌-◌, ◌≤◌, ◌<◌}
use mathlib.Core.Path.{◌≡◌, refl, sym, ap, ◌∙◌}
use mathlib.Core.Bool.{Bool, true, false, cond, ◌&&◌, ◌||◌, false≢true}
use mathlib.Core.List.{List, [], ◌∷◌, map}
use native.Mathlib.Omega.{arith}
use borrow.Author.Tests.{leb-true, leb-false, ltb-true, ltb-false}
use lib.Dec.{leb, ltb}
use lib.ListN.{length, get_or, take, drop, length-drop}
use lib.Seq.{length-take-le, get_or-take, get_or-drop}
use Rattle.below.proofs.Test.{below}
use Rattle.transcript.specs.declared.Entry.{Entry}
use Rattle.attempts.specs.Attempts.{Last, first_of, last_by, last_in, names, sent_to, tuner_at}
use Rattle.attempts.specs.Namings as any
use Rattle.attempts.specs.Namings.Last.{Never, Tried}
use Rattle.attempts.proofs.Named.{named, other_kind, below_first, past_last}
use Rattle.attempts.proofs.Lasts.{last_snoc, last_same}
use Rattle.chip.specs.declared.Chip.{Chip}
use Rattle.chip.specs.declared.Chunk.{Chunk}
use Rattle.chip.specs.declared.Progress.TheVariants.{Going}
use Rattle.chip.specs.Chips.{attempted_by}
use Rattle.chip.specs.Entries.{written}
use Rattle.chip.specs.Steps.{Step, Trace, acts, while_open, chunk_bytes, chunk_step, chunk_table, emit, every, goes, in_list, line, ok_for, run, step, taken, progress_of, trace, tuner_write, within}
use Rattle.chip.specs.Steps.Step.{Open, Close, Send}
use Rattle.chip.proofs.Laws.{active, and_left, and_right, close_progress, idle, run_address, run_app}
use Rattle.chip.proofs.Chunks.{seven, inside, first_register}
use Rattle.history.specs.Programs.{reload_steps}
use Rattle.history.proofs.Runs.{going_before}
use Rattle.history.proofs.Tracked.{sets_at}
use Rattle.history.proofs.Fitted.{test_true}
use Rattle.history.proofs.Fine.{table_part}

-- ---- which registers chunks name

abbrev in_chunk : Chunk → ℕ → Bool
in_chunk k i = leb k.at i && ltb i (k.at + k.size)

covers : List Chunk → ℕ → Bool
covers [] i = false
covers (k ∷ ks) i = in_chunk k i || covers ks i

pick_pick : (a b : Bool) (x l : Last) → cond b x (cond a x l) ≡ cond (a || b) x l
pick_pick true true x l = refl
pick_pick true false x l = refl
pick_pick false b x l = refl

-- the two parts of the table cover the 27 registers: one computed test
all_covered : (i : ℕ) → i < 27 → (covers (drop 0 (take 3 chunk_table)) i || covers (drop 3 (take 5 chunk_table)) i) ≡ true
unfolding covers
all_covered i h =
    test_true (covers (drop 0 (take 3 chunk_table)) i || covers (drop 3 (take 5 chunk_table)) i)
    (below (λ (j : ℕ). covers (drop 0 (take 3 chunk_table)) j || covers (drop 3 (take 5 chunk_table)) j) 27 tt i h)

-- ---- one chunk

module _ (address : ℕ) (bs : List ℕ) (long : length bs ≡ 27) (k : Chunk) (w : within k ≡ true) (i : ℕ) where
  abbrev e : Entry
  e = written address (k.size + 1) (chunk_bytes bs k.at k.size) true

  abbrev part : List ℕ
  part = take k.size (drop k.at bs)

  first : first_of e ≡ 5 + k.at
  first = first_register bs k.at k.size

  part_long : length part ≡ k.size
  part_long = length-take-le k.size (drop k.at bs) (omega (arith, length-drop k.at bs, inside k w))

  place : 5 + i - first_of e + 1 ≡ i - k.at + 1
  place = omega (arith, first)

  back : k.at ≤ i → k.at + (i - k.at + 1 - 1) ≡ i
  back l = omega arith

  -- the byte that goes to register 5 + i is the list's byte i
  chunk_byte : k.at ≤ i → i < k.at + k.size → sent_to e (5 + i) ≡ get_or bs i 0
  unfolding chunk_bytes
  chunk_byte l h =
      ap (λ (j : ℕ). get_or (chunk_bytes bs k.at k.size) j 0) place
      ∙ sets_at 0 ((5 + k.at) ∷ 0 ∷ 0 ∷ 0 ∷ 0 ∷ 0 ∷ 0 ∷ 0 ∷ []) 1 part (i - k.at + 1) (omega arith) (omega (arith, part_long)) (omega (arith, part_long, seven k w))
      ∙ get_or-take k.size (drop k.at bs) (i - k.at + 1 - 1) 0 (omega arith)
      ∙ get_or-drop k.at bs (i - k.at + 1 - 1) 0
      ∙ ap (λ (j : ℕ). get_or bs j 0) (back l)

  chunk_last : (l : Last) → last_by address e (5 + i) l ≡ cond (in_chunk k i) (Tried (get_or bs i 0) true) l
  chunk_last l = go (leb k.at i) (ltb i (k.at + k.size)) refl refl
    where
      go : (a b : Bool) → leb k.at i ≡ a → ltb i (k.at + k.size) ≡ b → last_by address e (5 + i) l ≡ cond (in_chunk k i) (Tried (get_or bs i 0) true) l
      go true true p q =
          let lo : k.at ≤ i = leb-true k.at i p in
          let hi : i < k.at + k.size = ltb-true i (k.at + k.size) q in
          rw (p, q, named address e (5 + i) refl refl (omega (arith, first)) (omega (arith, first)), chunk_byte lo hi)
      go true false p q =
          let hi : k.at + k.size ≤ i = ltb-false i (k.at + k.size) q in
          rw (p, q, past_last address e (5 + i) (omega (arith, first)))
      go false b p q =
          let lo : i < k.at = leb-false k.at i p in
          rw (p, below_first address e (5 + i) (omega (arith, first)))

-- ---- runs that went through

module _ (os : List ℕ) where
  -- a write after which it still goes was done
  sent_done : (n : ℕ) (bytes : List ℕ) (t : Trace) → t.progress ≡ Going → (step in_list os (Send n bytes) t).progress ≡ Going
      → taken in_list os true (Send n bytes) t ≡ step in_list os (Send n bytes) t
  sent_done n bytes t g h = go (ok_for os t.count (Send n bytes)) refl
    where
      made : taken in_list os (ok_for os t.count (Send n bytes)) (Send n bytes) t ≡ step in_list os (Send n bytes) t
      made = active in_list os (Send n bytes) t (ap goes g)

      go : (b : Bool) → ok_for os t.count (Send n bytes) ≡ b → taken in_list os true (Send n bytes) t ≡ step in_list os (Send n bytes) t
      go true o = ap (λ (b : Bool). taken in_list os b (Send n bytes) t) (sym o) ∙ made
      go false o =
          absurd (false≢true (ap (λ (b : Bool). goes (progress_of b t.count)) (sym o) ∙ ap (λ (u : Trace). goes u.progress) made ∙ ap goes h))

  -- the repeater's steps name no register
  quiet : (address : ℕ) (s : Step) (t : Trace) (r : ℕ) → ((ok : Bool) → names address (emit s t.chip ok) r ≡ false)
      → last_in address (step in_list os s t).log r ≡ last_in address t.log r
  quiet address s t r none = go (acts s t.progress t.opened) refl
    where
      go : (a : Bool) → acts s t.progress t.opened ≡ a → last_in address (step in_list os s t).log r ≡ last_in address t.log r
      go true a =
          let ok : Bool = ok_for os t.count s in
          sym (ap (λ (u : Trace). last_in address u.log r) (active in_list os s t a)) ∙ last_same (tuner_at address) t.log (emit s t.chip ok) r (none ok)
      go false a = sym (ap (λ (u : Trace). last_in address u.log r) (idle in_list os s t a))

  run_behind : (ss : List Step) (t : Trace) → run in_list os (while_open ss) t ≡ step in_list os Close (run in_list os ss (step in_list os Open t))
  unfolding run
  run_behind ss t = run_app in_list os ss (Close ∷ []) (step in_list os Open t)

  open_address : (t : Trace) (a : ℕ) → t.chip.address ≡ a → (step in_list os Open t).chip.address ≡ a
  unfolding run
  open_address t a h = run_address in_list os (Open ∷ []) t ∙ h

  module _ (address : ℕ) (bs : List ℕ) (long : length bs ≡ 27) (i : ℕ) where
    abbrev now : Last
    now = Tried (get_or bs i 0) true

    -- chunks one after the other
    chunks_last : (ks : List Chunk) → every within ks ≡ true → (t : Trace) → t.chip.address ≡ address
        → (run in_list os (map (chunk_step bs) ks) t).progress ≡ Going
        → last_in address (run in_list os (map (chunk_step bs) ks) t).log (5 + i) ≡ cond (covers ks i) now (last_in address t.log (5 + i))
    unfolding run every covers attempted_by
    chunks_last [] w t a g = refl
    chunks_last (k ∷ ks) w t a g =
        let s : Step = chunk_step bs k in
        let next : Trace = step in_list os s t in
        let still : next.progress ≡ Going = going_before os (map (chunk_step bs) ks) next g in
        let made : taken in_list os true s t ≡ next = sent_done (k.size + 1) (chunk_bytes bs k.at k.size) t (going_before os (s ∷ map (chunk_step bs) ks) t g) still in
        let same : next.chip.address ≡ address = sym (ap (λ (u : Trace). u.chip.address) made) ∙ a in
        let one : last_in address next.log (5 + i) ≡ cond (in_chunk k i) now (last_in address t.log (5 + i)) =
        sym (ap (λ (u : Trace). last_in address u.log (5 + i)) made)
        ∙ last_snoc (tuner_at address) t.log (emit s t.chip true) (5 + i)
        ∙ ap (λ (j : ℕ). last_by address (written j (k.size + 1) (chunk_bytes bs k.at k.size) true) (5 + i) (last_in address t.log (5 + i))) a
        ∙ chunk_last address bs long k (and_left (within k) (every within ks) w) i (last_in address t.log (5 + i)) in
        chunks_last ks (and_right (within k) (every within ks) w) next same g
        ∙ ap (cond (covers ks i) now) one
        ∙ pick_pick (in_chunk k i) (covers ks i) now (last_in address t.log (5 + i))

    -- a part of the table behind its repeater
    tuner_last : (from to : ℕ) (t : Trace) → t.chip.address ≡ address → (run in_list os (tuner_write bs from to) t).progress ≡ Going
        → last_in address (run in_list os (tuner_write bs from to) t).log (5 + i)
        ≡ cond (covers (drop from (take to chunk_table)) i) now (last_in address t.log (5 + i))
    tuner_last from to t a g =
        let ks : List Chunk = drop from (take to chunk_table) in
        let ss : List Step = map (chunk_step bs) ks in
        let opened : Trace = step in_list os Open t in
        let sent : Trace = run in_list os ss opened in
        let whole : run in_list os (while_open ss) t ≡ step in_list os Close sent = run_behind ss t in
        let same : opened.chip.address ≡ address = open_address t address a in
        let progress : sent.progress ≡ Going = sym (close_progress in_list os sent) ∙ sym (ap (λ (u : Trace). u.progress) whole) ∙ g in
        ap (λ (u : Trace). last_in address u.log (5 + i)) whole
        ∙ quiet address Close sent (5 + i) (λ ok. other_kind address (emit Close sent.chip ok) (5 + i) refl)
        ∙ chunks_last ks (table_part from to) opened same progress
        ∙ ap (cond (covers ks i) now) (quiet address Open t (5 + i) (λ ok. other_kind address (emit Open t.chip ok) (5 + i) refl))

-- every register's last attempt in a reload that was done
pub reload_last : (os : List ℕ) (c : Chip) (bs : List ℕ) → length bs ≡ 27 → (trace os (reload_steps bs) c).progress ≡ Going → (i : ℕ) → i < 27
    → last_in c.address (trace os (reload_steps bs) c).log (5 + i) ≡ Tried (get_or bs i 0) true
unfolding trace any.last_from
reload_last os c bs long g i h =
    let start : Trace = line c [] 0 Going false in
    let mid : Trace = run in_list os (tuner_write bs 0 3) start in
    let whole : run in_list os (reload_steps bs) start ≡ run in_list os (tuner_write bs 3 5) mid = run_app in_list os (tuner_write bs 0 3) (tuner_write bs 3 5) start in
    let progress : (run in_list os (tuner_write bs 3 5) mid).progress ≡ Going = sym (ap (λ (u : Trace). u.progress) whole) ∙ g in
    let same : mid.chip.address ≡ c.address = run_address in_list os (tuner_write bs 0 3) start in
    let first : last_in c.address mid.log (5 + i) ≡ cond (covers (drop 0 (take 3 chunk_table)) i) (Tried (get_or bs i 0) true) Never =
    tuner_last os c.address bs long i 0 3 start refl (going_before os (tuner_write bs 3 5) mid progress) in
    ap (λ (u : Trace). last_in c.address u.log (5 + i)) whole
    ∙ tuner_last os c.address bs long i 3 5 mid same progress
    ∙ ap (cond (covers (drop 3 (take 5 chunk_table)) i) (Tried (get_or bs i 0) true)) first
    ∙ pick_pick (covers (drop 0 (take 3 chunk_table)) i) (covers (drop 3 (take 5 chunk_table)) i) (Tried (get_or bs i 0) true) Never
    ∙ ap (λ (b : Bool). cond b (Tried (get_or bs i 0) true) Never) (all_covered i h)

-- What a step, a run and a closing are, as laws: a proof of the code cites these and never opens the definitions.
-- Assumes nothing.
use Rattle.std.proofs.Common.{◌≡◌, ℕ, ◌+◌, ◌-◌, ◌≤◌, Bool, true, false, not, ◌&&◌, eqb, List, [], ◌∷◌, ◌++◌, get_or, set, sym, refl, ap, ◌∙◌, arith}
use Rattle.transcript.specs.declared.Entry.{Entry}
use Rattle.chip.specs.declared.Chip.{Chip}
use Rattle.chip.specs.declared.Progress.{Progress}
use Rattle.chip.specs.Chips.{attempted_by, masked_byte, pair, with_lists}
use Rattle.chip.specs.Entries.{written}
use Rattle.chip.specs.InCode.{closing}
use Rattle.chip.specs.Steps.{Step, Line, acts, chip_after, closing_owed, emit, every, goes, opened_for, inner, line, ok_for, run, step, taken, progress_of, progress_for}
use Rattle.chip.specs.Steps.Step.{Open, Close, Send, Mask, Plain}

pub and_left : (a b : Bool) → (a && b) ≡ true → a ≡ true
and_left true b h = refl
and_left false b h = h

pub and_right : (a b : Bool) → (a && b) ≡ true → b ≡ true
and_right true b h = h
and_right false b h = cc

-- an open repeater costs one entry, its closing, and a shut one none
pub owed_one : (opened : Bool) → closing_owed opened ≤ 1
owed_one true = omega arith
owed_one false = omega arith

pub owed_opened : (opened : Bool) → opened ≡ true → closing_owed opened ≡ 1
owed_opened opened e = ap closing_owed e

-- no step moves the chip to another address
pub after_address : (s : Step) (c : Chip) (ok : Bool) → (chip_after s c ok).address ≡ c.address
unfolding attempted_by
after_address Open c ok = refl
after_address Close c ok = refl
after_address (Send n bytes) c ok = refl
after_address (Mask r v m) c ok = refl
after_address (Plain e) c ok = refl

module _ {L : Type 0} (put : L → ℕ → Entry → L) (os : List ℕ) where
  -- a step that is not taken leaves the line as it was
  pub idle : (s : Step) (w : Line L) → acts s w.progress w.opened ≡ false → w ≡ step put os s w
  unfolding step
  idle s w h = rw h

  -- a step that is taken
  pub active : (s : Step) (w : Line L) → acts s w.progress w.opened ≡ true → taken put os (ok_for os w.count s) s w ≡ step put os s w
  unfolding step
  active s w h = rw h

  -- the same, where the next record and how it went were worked out apart
  pub made : (s : Step) (w : Line L) (c : Chip) (u : Progress)
      → c ≡ chip_after s w.chip (ok_for os w.count s)
      → u ≡ progress_for s (ok_for os w.count s) w.count w.progress
      → acts s w.progress w.opened ≡ true
      → line c (put w.log w.count (emit s w.chip (ok_for os w.count s))) (w.count + 1) u (opened_for s (ok_for os w.count s) w.opened) ≡ step put os s w
  made s w c u p q h =
      (λ i. line (p i) (put w.log w.count (emit s w.chip (ok_for os w.count s))) (w.count + 1) (q i) (opened_for s (ok_for os w.count s) w.opened))
      ∙ active s w h

  -- the same for a masked write, whose byte was worked out apart too
  pub made_mask : (w : Line L) (r v m byte : ℕ) (c : Chip) (u : Progress)
      → byte ≡ masked_byte w.chip r v m
      → c ≡ with_lists w.chip (set w.chip.shadow (r - 5) byte) (set w.chip.doubtful (r - 5) (not (eqb (get_or os w.count 0) 0)))
      → u ≡ progress_of (eqb (get_or os w.count 0) 0) w.count
      → goes w.progress ≡ true
      → line c (put w.log w.count (written w.chip.address 2 (pair r byte) (eqb (get_or os w.count 0) 0))) (w.count + 1) u w.opened ≡ step put os (Mask r v m) w
  unfolding attempted_by
  made_mask w r v m byte c u b p q h =
      (λ i. line (p i) (put w.log w.count (written w.chip.address 2 (pair r byte) (eqb (get_or os w.count 0) 0))) (w.count + 1) (q i) w.opened)
      ∙ (λ i. line (with_lists w.chip (set w.chip.shadow (r - 5) (b i)) (set w.chip.doubtful (r - 5) (not (eqb (get_or os w.count 0) 0))))
      (put w.log w.count (written w.chip.address 2 (pair r (b i)) (eqb (get_or os w.count 0) 0))) (w.count + 1)
      (progress_of (eqb (get_or os w.count 0) 0) w.count) w.opened)
      ∙ active (Mask r v m) w h

  -- ---- programs one after the other

  pub run_app : (xs ys : List Step) (w : Line L) → run put os (xs ++ ys) w ≡ run put os ys (run put os xs w)
  unfolding run
  run_app [] ys w = refl
  run_app (x ∷ xs) ys w = run_app xs ys (step put os x w)

  -- a step or a program that was worked out apart, and programs one after the other
  pub by_entry : (d e : Entry) (w v : Line L) → d ≡ e → v ≡ step put os (Plain d) w → v ≡ step put os (Plain e) w
  by_entry d e w v same h = h ∙ ap (λ (x : Entry). step put os (Plain x) w) same

  pub by_program : (xs ys : List Step) (w v : Line L) → xs ≡ ys → v ≡ run put os xs w → v ≡ run put os ys w
  by_program xs ys w v same h = h ∙ ap (λ (ss : List Step). run put os ss w) same

  pub then : (xs ys : List Step) (w x y : Line L) → x ≡ run put os xs w → y ≡ run put os ys x → y ≡ run put os (xs ++ ys) w
  then xs ys w x y p q = q ∙ ap (run put os ys) p ∙ sym (run_app xs ys w)

  -- steps one after the other, each by what a piece of code has done
  pub one_last : (s : Step) (w y : Line L) → y ≡ step put os s w → y ≡ run put os (s ∷ []) w
  unfolding run
  one_last s w y e = e

  pub one_more : (s : Step) (ss : List Step) (w x y : Line L) → x ≡ step put os s w → y ≡ run put os ss x → y ≡ run put os (s ∷ ss) w
  unfolding run
  one_more s ss w x y p q = q ∙ ap (run put os ss) p

  -- ---- a closing

  pub closing_going : (w : Line L) → goes w.progress ≡ true → closing put os w ≡ w
  unfolding closing
  closing_going w h = rw h

  pub closing_stopped : (w : Line L) → goes w.progress ≡ false → closing put os w ≡ step put os Close w
  unfolding closing
  closing_stopped w h = rw h

  close_opened : (w : Line L) → (step put os Close w).opened ≡ false
  close_opened w = go w.opened refl
    where
      go : (h : Bool) → w.opened ≡ h → (step put os Close w).opened ≡ false
      go true e = sym (ap (λ (x : Line L). x.opened) (active Close w e))
      go false e = sym (ap (λ (x : Line L). x.opened) (idle Close w e)) ∙ e

  pub close_progress : (w : Line L) → (step put os Close w).progress ≡ w.progress
  close_progress w = go w.opened refl
    where
      go : (h : Bool) → w.opened ≡ h → (step put os Close w).progress ≡ w.progress
      go true e = sym (ap (λ (x : Line L). x.progress) (active Close w e))
      go false e = sym (ap (λ (x : Line L). x.progress) (idle Close w e))

  -- once closed, a closing does nothing more
  pub close_close : (w : Line L) → step put os Close (step put os Close w) ≡ step put os Close w
  close_close w = sym (idle Close (step put os Close w) (close_opened w))

  pub close_closing : (w : Line L) → step put os Close (closing put os w) ≡ step put os Close w
  close_closing w = go (goes w.progress) refl
    where
      go : (g : Bool) → goes w.progress ≡ g → step put os Close (closing put os w) ≡ step put os Close w
      go true e = ap (step put os Close) (closing_going w e)
      go false e = ap (step put os Close) (closing_stopped w e) ∙ close_close w

  -- ---- what follows a failing step is not taken

  inner_acts : (s : Step) (progress : Progress) (opened : Bool) → inner s ≡ true → goes progress ≡ false → acts s progress opened ≡ false
  inner_acts Open progress opened i h = h
  inner_acts Close progress opened i h = cc
  inner_acts (Send n bytes) progress opened i h = h
  inner_acts (Mask r v m) progress opened i h = h
  inner_acts (Plain e) progress opened i h = h

  only_close : (s : Step) → inner s ≡ false → s ≡ Close
  only_close Open h = cc
  only_close Close h = refl
  only_close (Send n bytes) h = cc
  only_close (Mask r v m) h = cc
  only_close (Plain e) h = cc

  pub idle_run : (ss : List Step) (w : Line L) → every inner ss ≡ true → goes w.progress ≡ false → w ≡ run put os ss w
  unfolding run every
  idle_run [] w i h = refl
  idle_run (s ∷ ss) w i h =
      let same : w ≡ step put os s w = idle s w (inner_acts s w.progress w.opened (and_left (inner s) (every inner ss) i) h) in
      idle_run ss w (and_right (inner s) (every inner ss) i) h ∙ ap (run put os ss) same

  -- of a line that came stopped a closing alone is taken, wherever it stands
  pub stopped_run : (ss : List Step) (x : Line L) → goes x.progress ≡ false → step put os Close (run put os ss x) ≡ step put os Close x
  unfolding run
  stopped_run [] x h = refl
  stopped_run (s ∷ ss) x h = go (inner s) refl (stopped_run ss)
    where
      go : (b : Bool) → inner s ≡ b → ((y : Line L) → goes y.progress ≡ false → step put os Close (run put os ss y) ≡ step put os Close y)
          → step put os Close (run put os ss (step put os s x)) ≡ step put os Close x
      go true i rest =
          ap (λ (w : Line L). step put os Close (run put os ss w)) (sym (idle s x (inner_acts s x.progress x.opened i h))) ∙ rest x h
      go false i rest =
          ap (λ (t : Step). step put os Close (run put os ss (step put os t x))) (only_close s i)
          ∙ rest (step put os Close x) (ap goes (close_progress x) ∙ h)
          ∙ close_close x

  -- a failing step, or a line that came stopped: what is left of the program is not taken, and the repeater is closed
  pub stop : (rest : List Step) (x y : Line L) → goes x.progress ≡ false → every inner rest ≡ true → run put os rest x ≡ y → step put os Close x ≡ closing put os y
  stop rest x y h i e =
      let same : x ≡ y = idle_run rest x i h ∙ e in
      sym (closing_stopped x h) ∙ ap (closing put os) same

  -- steps one after the other, each looked at: a failed one that others follow, one that went, and the last
  pub cut_here : (s : Step) (rest : List Step) (w x y : Line L) → x ≡ step put os s w → goes x.progress ≡ false → every inner rest ≡ true
      → y ≡ step put os Close x → y ≡ closing put os (run put os (s ∷ rest) w)
  cut_here s rest w x y p h i q = q ∙ stop rest x (run put os (s ∷ rest) w) h i (one_more s rest w x (run put os rest x) p refl)

  pub progress_on : (s : Step) (rest : List Step) (w x y : Line L) → x ≡ step put os s w → y ≡ closing put os (run put os rest x)
      → y ≡ closing put os (run put os (s ∷ rest) w)
  progress_on s rest w x y p q = q ∙ ap (closing put os) (one_more s rest w x (run put os rest x) p refl)

  pub ended_here : (s : Step) (w x y : Line L) → x ≡ step put os s w → y ≡ closing put os x → y ≡ closing put os (run put os (s ∷ []) w)
  ended_here s w x y p q = q ∙ ap (closing put os) (one_last s w x p)

  -- a part without steps: nothing is left but its end
  pub ended : (w y : Line L) → y ≡ closing put os w → y ≡ closing put os (run put os [] w)
  unfolding run
  ended w y e = e

  -- a program that went through
  pub keep : (x y : Line L) → x ≡ y → goes x.progress ≡ true → x ≡ closing put os y
  keep x y e h = sym (closing_going x h) ∙ ap (closing put os) e

  -- a program whose list was worked out apart
  pub swap : (xs ys : List Step) (w v : Line L) → xs ≡ ys → v ≡ closing put os (run put os xs w) → v ≡ closing put os (run put os ys w)
  swap xs ys w v e h = h ∙ ap (λ (ss : List Step). closing put os (run put os ss w)) e

  -- two parts behind one open repeater
  pub part : (xs ys : List Step) (w : Line L) → every inner ys ≡ true
      → closing put os (run put os ys (closing put os (run put os xs w))) ≡ closing put os (run put os (xs ++ ys) w)
  part xs ys w i = go (goes (run put os xs w).progress) refl
    where
      go : (g : Bool) → goes (run put os xs w).progress ≡ g
          → closing put os (run put os ys (closing put os (run put os xs w))) ≡ closing put os (run put os (xs ++ ys) w)
      go true e = ap (λ (x : Line L). closing put os (run put os ys x)) (closing_going (run put os xs w) e) ∙ ap (closing put os) (sym (run_app xs ys w))
      go false e =
          let x : Line L = run put os xs w in
          let shut : goes (step put os Close x).progress ≡ false = ap goes (close_progress x) ∙ e in
          ap (λ (v : Line L). closing put os (run put os ys v)) (closing_stopped x e)
          ∙ sym (stop ys (step put os Close x) (run put os ys (step put os Close x)) shut i refl)
          ∙ close_close x
          ∙ stop ys x (run put os ys x) e i refl
          ∙ ap (closing put os) (sym (run_app xs ys w))

  -- a whole bracket: opening, steps that close where one fails, closing
  bracket : (ss : List Step) (w : Line L) → step put os Close (closing put os (run put os ss (step put os Open w))) ≡ run put os (Open ∷ (ss ++ (Close ∷ []))) w
  unfolding run
  bracket ss w = close_closing (run put os ss (step put os Open w)) ∙ sym (run_app ss (Close ∷ []) (step put os Open w))

  pub bracketed : (ss : List Step) (w x y : Line L) → x ≡ step put os Open w → y ≡ closing put os (run put os ss x)
      → step put os Close y ≡ run put os (Open ∷ (ss ++ (Close ∷ []))) w
  bracketed ss w x y p q = ap (step put os Close) q ∙ ap (λ (v : Line L). step put os Close (closing put os (run put os ss v))) p ∙ bracket ss w

  -- a bracket whose opening failed, or that came stopped: nothing of it is taken but the closing of what is open
  pub unopened : (ss : List Step) (w x y : Line L) → x ≡ step put os Open w → goes x.progress ≡ false
      → y ≡ step put os Close x → y ≡ run put os (Open ∷ (ss ++ (Close ∷ []))) w
  unopened ss w x y p h q =
      q ∙ sym (stopped_run ss x h) ∙ sym (close_closing (run put os ss x)) ∙ bracketed ss w x (closing put os (run put os ss x)) p refl

  -- no step moves the chip to another address
  pub step_address : (s : Step) (w : Line L) → (step put os s w).chip.address ≡ w.chip.address
  step_address s w = go (acts s w.progress w.opened) refl
    where
      go : (a : Bool) → acts s w.progress w.opened ≡ a → (step put os s w).chip.address ≡ w.chip.address
      go true e = sym (ap (λ (x : Line L). x.chip.address) (active s w e)) ∙ after_address s w.chip (ok_for os w.count s)
      go false e = sym (ap (λ (x : Line L). x.chip.address) (idle s w e))

  pub run_address : (ss : List Step) (w : Line L) → (run put os ss w).chip.address ≡ w.chip.address
  unfolding run
  run_address [] w = refl
  run_address (s ∷ ss) w = run_address ss (step put os s w) ∙ step_address s w

  -- a write whose bytes were worked out apart
  pub by_bytes : (n : ℕ) (xs ys : List ℕ) (w v : Line L) → xs ≡ ys → v ≡ step put os (Send n xs) w → v ≡ step put os (Send n ys) w
  by_bytes n xs ys w v e h = h ∙ ap (λ (l : List ℕ). step put os (Send n l) w) e

  pub closing_closing : (w : Line L) → closing put os (closing put os w) ≡ closing put os w
  closing_closing w = go (goes w.progress) refl
    where
      go : (g : Bool) → goes w.progress ≡ g → closing put os (closing put os w) ≡ closing put os w
      go true e = ap (closing put os) (closing_going w e)
      go false e =
          ap (closing put os) (closing_stopped w e)
          ∙ closing_stopped (step put os Close w) (ap goes (close_progress w) ∙ e)
          ∙ close_close w
          ∙ sym (closing_stopped w e)

  -- the same part law, from what two pieces of code have done
  pub parts : (xs ys : List Step) (w x y : Line L) → every inner ys ≡ true → x ≡ closing put os (run put os xs w) → y ≡ closing put os (run put os ys x)
      → y ≡ closing put os (run put os (xs ++ ys) w)
  parts xs ys w x y i p q = q ∙ ap (λ (v : Line L). closing put os (run put os ys v)) p ∙ part xs ys w i

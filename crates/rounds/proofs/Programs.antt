-- The programs that take replies are alike as far as the replies are. Document 01, "Transcript and script": "reply bytes in order of reading"; "Tune takes
-- replies 0..4 as status, then three per try". Assumes nothing.
use Prim.Native.Nat.{ℕ, zero, suc, ◌+◌, ◌*◌, ◌≤◌}
use mathlib.Core.Path.{◌≡◌, refl, sym, ap, subst, ◌∙◌}
use mathlib.Core.Bool.{Bool, true, false, cond, true≢false}
use mathlib.Core.List.{List, [], ◌∷◌, ◌++◌, append_assoc}
use native.Mathlib.Nat.{mod-eq_of_lt}
use native.Mathlib.Omega.{arith}
use borrow.Author.Tests.{leb-true}
use lib.ListN.{length, get_or, take, drop}
use lib.Seq.{drop-append_seam, drop-drop, get_or-drop, get_or-take, sets, take-add, take-take}
use Rattle.std.specs.Prelude.{Option, Some, None}
use Rattle.transcript.specs.Entries.{zeros8}
use Rattle.board.specs.declared.Path.{Path}
use Rattle.board.specs.declared.Plan.{Plan}
use Rattle.boards.specs.Hops.{ddc_part, hop_steps, path_part, path_replies}
use Rattle.chip.specs.declared.Update.{Update}
use Rattle.chip.specs.Entries.{pointer, read_entry, wait}
use Rattle.chip.specs.Steps.{Step, while_open, every, updates}
use Rattle.chip.specs.Steps.Step.{Open, Close, Plain}
use Rattle.chip.proofs.Laws.{and_left}
use Rattle.demod.specs.Programs.{ddc_steps}
use Rattle.device.specs.Accesses.{access, access_entry, access_step, one}
use Rattle.device.specs.Gpio.{bit_steps, changed_of, output_steps, with_bit, without_bit}
use Rattle.driver.specs.Programs.{board_path_steps, level_for, tuner_path}
use Rattle.pll.specs.declared.Kind.{Kind}
use Rattle.pll.specs.declared.Kind.TheVariants.{R820T, R828D}
use Rattle.std.specs.Prelude.{Option, Some, None}
use Rattle.pll.specs.declared.Plan as pll-plan
use Rattle.status.specs.Reversal.{locked_by}
use Rattle.tuning.specs.Mux.{mux_updates, pll_updates, range_of}
use Rattle.tuning.specs.Program.{inner_steps, pll_steps, tune_steps}
use Rattle.tuning.specs.Tries.{after_try, again, locked, locks_at, repair_updates, reply_bytes, tries_from}
use Rattle.tuning.proofs.Programs.{every_app}
use Rattle.writes.specs.Lists.{path_updates}
use Rattle.sequences.specs.Calls.{is_byte}
use Rattle.rounds.specs.Scripts.{Fills}
use Rattle.rounds.proofs.Alike.{Alike, alike_front, alike_refl, alike_shuts, mute, shuts, shuts_close}
use Rattle.rounds.proofs.Alike.Alike.{same, read}

-- ---- replies

module _ (k b : ℕ) (qs ps : List ℕ) (known : take k qs ≡ take k ps) where
  known_part : (n : ℕ) → b + n ≤ k → take n (drop b qs) ≡ take n (drop b ps)
  known_part n l =
      let front : (j : ℕ) → j ≤ k → take j qs ≡ take j ps = (λ j h. sym (take-take j k qs h) ∙ ap (take j) known ∙ take-take j k ps h) in
      let whole : take b qs ++ take n (drop b qs) ≡ take b ps ++ take n (drop b ps) = sym (take-add b n qs) ∙ front (b + n) l ∙ take-add b n ps in
      sym (drop-append_seam (take b qs) (take n (drop b qs)))
      ∙ ap (drop (length (take b qs))) whole
      ∙ ap (λ (xs : List ℕ). drop (length xs) (take b ps ++ take n (drop b ps))) (front b (omega arith))
      ∙ drop-append_seam (take b ps) (take n (drop b ps))

  known_at : (j : ℕ) → b + (j + 1) ≤ k → get_or (drop b qs) j 0 ≡ get_or (drop b ps) j 0
  known_at j l =
      sym (get_or-take (j + 1) (drop b qs) j 0 (omega arith))
      ∙ ap (λ (xs : List ℕ). get_or xs j 0) (known_part (j + 1) l)
      ∙ get_or-take (j + 1) (drop b ps) j 0 (omega arith)

-- n replies of those after b
reply_part : (b at n : ℕ) (qs : List ℕ) → reply_bytes (drop b qs) at n ≡ sets zeros8 0 (take n (drop (b + at) qs))
unfolding reply_bytes
reply_part b at n qs = ap (λ (xs : List ℕ). sets zeros8 0 (take n xs)) (drop-drop at b qs)

-- ---- steps that read nothing

mute_updates : (us : List Update) → every mute (updates us) ≡ true
unfolding every
mute_updates [] = refl
mute_updates (u ∷ us) = mute_updates us

mute_after : (i : ℕ) → every mute (after_try i) ≡ true
unfolding every
mute_after i = every_app mute (updates (again i)) (Plain (wait 1) ∷ []) (mute_updates (again i)) refl

pub mute_bracket : (us : List Update) → every mute (while_open (updates us)) ≡ true
unfolding every
mute_bracket us = every_app mute (updates us) (Close ∷ []) (mute_updates us) refl

mute_path : (kind : Kind) (path : Path) → every mute (tuner_path kind path) ≡ true
unfolding every
mute_path R820T path = refl
mute_path R828D path = mute_bracket (path_updates path)

mute_ddc : (by : Option pll-plan.Plan) (inverted : Bool) → every mute (ddc_part by inverted) ≡ true
unfolding every ddc_steps
mute_ddc None inverted = refl
mute_ddc (Some p) inverted = refl

-- ---- GPIO: a read, and a write of what it gave with a bit changed

-- the one byte of a block read
first_fills : (xs : List ℕ) → Fills xs 0 1 (one (get_or xs 0 0))
unfolding every
first_fills [] h = refl
first_fills (x ∷ xs) h = ap (λ (y : ℕ). y ∷ 0 ∷ 0 ∷ 0 ∷ 0 ∷ 0 ∷ 0 ∷ 0 ∷ []) (mod-eq_of_lt (omega (arith, leb-true x 255 (and_left (is_byte x) true h))))

byte_fills : (qs : List ℕ) (at : ℕ) → Fills qs at 1 (one (get_or qs at 0))
byte_fills qs at h =
    let here : at + 0 ≡ at = omega arith in
    ap (λ (j : ℕ). one (get_or qs j 0)) (sym here) ∙ ap one (sym (get_or-drop at qs 0 0)) ∙ first_fills (drop at qs) h

module _ (k : ℕ) (qs ps : List ℕ) (known : take k qs ≡ take k ps) where
  same_by : {at : ℕ} {ss ts : List Step} (s z : Step) → s ≡ z → mute s ≡ true → Alike k qs at ss ts → Alike k qs at (s ∷ ss) (z ∷ ts)
  same_by {at} {ss} {ts} s z e m a = subst (λ (x : Step). Alike k qs at (s ∷ ss) (x ∷ ts)) e (same s m a)

  -- the register's byte is a reply; what is written is worked out from it
  changed : {ss ts : List Step} (at register : ℕ) (change : ℕ → ℕ) → Alike k qs (at + 1) ss ts
      → Alike k qs at (access_step (access 8 2 register (get_or qs at 0)) ∷ access_step (access 6 2 register (change (get_or qs at 0))) ∷ ss)
      (access_step (access 8 2 register (get_or ps at 0)) ∷ access_step (access 6 2 register (change (get_or ps at 0))) ∷ ts)
  unfolding access_step shuts
  changed at register change rest =
      read (access_entry (access 8 2 register (get_or qs at 0))) (access_entry (access 8 2 register (get_or ps at 0))) refl refl (byte_fills qs at) (alike_shuts rest)
      (λ (l : at + 1 ≤ k). ap (λ (x : ℕ). access_entry (access 8 2 register x)) (known_at k 0 qs ps known at (omega arith)))
      (λ (l : at + 1 ≤ k). same_by _ _ (ap (λ (x : ℕ). Plain (access_entry (access 6 2 register (change x)))) (known_at k 0 qs ps known at (omega arith))) refl rest)

  pub output_alike : {ss ts : List Step} (pin : ℕ) → Alike k qs 2 ss ts
      → Alike k qs 0 (output_steps pin (get_or qs 0 0) (get_or qs 1 0) ++ ss) (output_steps pin (get_or ps 0 0) (get_or ps 1 0) ++ ts)
  unfolding output_steps
  output_alike pin rest = changed 0 0x3003 (λ x. with_bit x pin) (changed 1 0x3004 (λ x. without_bit x pin) rest)

  pub bit_alike : {ss ts : List Step} (at pin value : ℕ) → Alike k qs (at + 1) ss ts
      → Alike k qs at (bit_steps pin value (get_or qs at 0) ++ ss) (bit_steps pin value (get_or ps at 0) ++ ts)
  unfolding bit_steps
  bit_alike at pin value rest = changed at 0x3001 (changed_of pin value) rest

  -- the board's path takes three replies
  pub path_alike : (kind : Kind) (path : Path) (ss ts : List Step) → Alike k qs 3 ss ts
      → Alike k qs 0 (board_path_steps kind path qs ++ ss) (board_path_steps kind path ps ++ ts)
  unfolding output_steps bit_steps
  path_alike kind path ss ts rest =
      output_alike {ss = bit_steps 5 (level_for path) (get_or qs 2 0) ++ (tuner_path kind path ++ ss)} {ts = bit_steps 5 (level_for path) (get_or ps 2 0) ++ (tuner_path kind path ++ ts)} 5
      (bit_alike 2 5 (level_for path) (alike_front (tuner_path kind path) (mute_path kind path) rest))

  -- ---- a tuning

  joined : {at : ℕ} (us vs ws zs : List Step) → Alike k qs at (us ++ (vs ++ zs)) (us ++ (ws ++ zs)) → Alike k qs at ((us ++ vs) ++ zs) ((us ++ ws) ++ zs)
  joined {at} us vs ws zs a =
      subst (λ (x : List Step). Alike k qs at ((us ++ vs) ++ zs) x) (sym (append_assoc us ws zs))
      (subst (λ (x : List Step). Alike k qs at x (us ++ (ws ++ zs))) (sym (append_assoc us vs zs)) a)

  -- the one or the other, and the same for both
  chosen : {at : ℕ} (x y : Bool) → x ≡ y → (us vs ws zs : List Step) → Alike k qs at (us ++ zs) (us ++ zs) → Alike k qs at (vs ++ zs) (ws ++ zs)
      → Alike k qs at (cond x us vs ++ zs) (cond y us ws ++ zs)
  chosen true true e us vs ws zs a b = a
  chosen true false e us vs ws zs a b = absurd (true≢false e)
  chosen false true e us vs ws zs a b = absurd (true≢false (sym e))
  chosen false false e us vs ws zs a b = b

  -- after b other replies, and before steps that read nothing
  module _ (b address : ℕ) (kind : Kind) (zs : List Step) (quiet : every mute zs ≡ true) where
    abbrev mine : List ℕ
    mine = drop b qs

    abbrev others : List ℕ
    others = drop b ps

    known_bytes : (at n : ℕ) → b + at + n ≤ k → reply_bytes mine at n ≡ reply_bytes others at n
    known_bytes at n l = reply_part b at n qs ∙ ap (sets zeros8 0) (known_part k (b + at) qs ps known n l) ∙ sym (reply_part b at n ps)

    tries_alike : (left i : ℕ) → Alike k qs (b + (5 + 3 * i)) (tries_from address mine left i ++ (Close ∷ zs)) (tries_from address others left i ++ (Close ∷ zs))
    unfolding tries_from every
    tries_alike zero i = alike_refl (Close ∷ zs) quiet
    tries_alike (suc left) i =
        let tail : List Step = Close ∷ zs in
        let next : b + (5 + 3 * (i + 1)) ≡ b + (5 + 3 * i) + 3 = omega arith in
        let later = subst (λ (at : ℕ). Alike k qs at (tries_from address mine left (i + 1) ++ tail) (tries_from address others left (i + 1) ++ tail)) next (tries_alike left (i + 1)) in
        same (Plain (pointer address)) refl
        (read (read_entry address 3 (reply_bytes mine (5 + 3 * i) 3)) (read_entry address 3 (reply_bytes others (5 + 3 * i) 3)) refl refl
        (λ h. reply_part b (5 + 3 * i) 3 qs)
        (shuts_close (cond (locks_at mine i) (updates locked) (after_try i ++ tries_from address mine left (i + 1))) zs
        ∙ sym (shuts_close (cond (locks_at others i) (updates locked) (after_try i ++ tries_from address others left (i + 1))) zs))
        (λ (l : b + (5 + 3 * i) + 3 ≤ k). ap (read_entry address 3) (known_bytes (5 + 3 * i) 3 (omega arith)))
        (λ (l : b + (5 + 3 * i) + 3 ≤ k). chosen (locks_at mine i) (locks_at others i) (ap locked_by (known_at k b qs ps known (7 + 3 * i) (omega arith)))
        (updates locked) (after_try i ++ tries_from address mine left (i + 1)) (after_try i ++ tries_from address others left (i + 1)) tail
        (alike_refl (updates locked ++ tail) quiet)
        (joined (after_try i) (tries_from address mine left (i + 1)) (tries_from address others left (i + 1)) tail (alike_front (after_try i) (mute_after i) later))))

    pll_alike : (number : ℕ) → Alike k qs b (pll_steps address kind number mine ++ (Close ∷ zs)) (pll_steps address kind number others ++ (Close ∷ zs))
    unfolding reply_bytes
    pll_alike number =
        let tail : List Step = Close ∷ zs in
        let repair : ℕ → List Step = (λ byte. updates (repair_updates kind number byte)) in
        let rest : List Step = repair (get_or mine 4 0) ++ tries_from address mine 10 0 in
        same (Plain (wait 2)) refl
        (same (Plain (pointer address)) refl
        (read (read_entry address 5 (reply_bytes mine 0 5)) (read_entry address 5 (reply_bytes others 0 5)) refl refl (λ h. refl)
        (shuts_close rest zs ∙ sym (shuts_close (repair (get_or others 4 0) ++ tries_from address others 10 0) zs))
        (λ (l : b + 5 ≤ k). ap (read_entry address 5) (known_bytes 0 5 (omega arith)))
        (λ (l : b + 5 ≤ k). subst (λ (x : ℕ). Alike k qs (b + 5) (rest ++ tail) ((repair x ++ tries_from address others 10 0) ++ tail))
        (known_at k b qs ps known 4 (omega arith))
        (joined (repair (get_or mine 4 0)) (tries_from address mine 10 0) (tries_from address others 10 0) tail
        (alike_front (repair (get_or mine 4 0)) (mute_updates (repair_updates kind number (get_or mine 4 0))) (tries_alike 10 0))))))

    pub tune_alike : (notch : Bool) (pll : Option pll-plan.Plan) (hz : ℕ)
        → Alike k qs b (tune_steps address kind notch pll hz mine ++ zs) (tune_steps address kind notch pll hz others ++ zs)
    unfolding inner_steps every
    tune_alike notch None hz = alike_refl (tune_steps address kind notch None hz mine ++ zs) quiet
    tune_alike notch (Some p) hz =
        let first : List Step = updates (mux_updates notch (range_of hz) ++ pll_updates p) in
        let left : List Step = pll_steps address kind p.number mine in
        let right : List Step = pll_steps address kind p.number others in
        same Open refl
        (subst (λ (x : List Step). Alike k qs b (((first ++ left) ++ (Close ∷ [])) ++ zs) x) (sym (append_assoc (first ++ right) (Close ∷ []) zs))
        (subst (λ (x : List Step). Alike k qs b x ((first ++ right) ++ (Close ∷ zs))) (sym (append_assoc (first ++ left) (Close ∷ []) zs))
        (joined first left right (Close ∷ zs) (alike_front first refl (pll_alike p.number)))))

  -- ---- the board-level tune

  pub hop_alike : (kind : Kind) (address : ℕ) (p : Plan) (by : Option pll-plan.Plan) → Alike k qs 0 (hop_steps kind address p by qs) (hop_steps kind address p by ps)
  hop_alike kind address p by = go kind p.path
    where
      ddc : List Step
      ddc = ddc_part by p.inverted

      quiet : every mute ddc ≡ true
      quiet = mute_ddc by p.inverted

      go : (x : Kind) (route : Option Path)
          → Alike k qs 0 (path_part x route qs ++ (tune_steps address x p.notch by p.hz (drop (path_replies x route) qs) ++ ddc))
          (path_part x route ps ++ (tune_steps address x p.notch by p.hz (drop (path_replies x route) ps) ++ ddc))
      go R820T route = tune_alike 0 address R820T ddc quiet p.notch by p.hz
      go R828D None = tune_alike 0 address R828D ddc quiet p.notch by p.hz
      go R828D (Some path) = path_alike R828D path _ _ (tune_alike 3 address R828D ddc quiet p.notch by p.hz)

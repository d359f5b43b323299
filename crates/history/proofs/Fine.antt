-- Programs whose steps pass the test: one after the other, behind a repeater, updates of registers, chunks of bytes. A call's program is put
-- together from these. Assumes nothing.
use Prim.Native.Nat.{ℕ, zero, suc, ◌+◌, ◌≤◌}
use mathlib.Core.Path.{◌≡◌, refl, ap, ◌∙◌}
use mathlib.Core.Bool.{Bool, true, false}
use mathlib.Core.List.{List, [], ◌∷◌, ◌++◌, map}
use native.Mathlib.Omega.{arith}
use borrow.Author.Tests.{eq-eqb, le-leb}
use lib.Dec.{eqb}
use lib.ListN.{length, get_or, take, drop, set, length-take}
use lib.Seq.{sets, drop-set-lt}
use Rattle.transcript.specs.declared.Entry.{Entry}
use Rattle.transcript.specs.Table.{address_most, first_most, n_high, n_low, outcome_most, row_fits, target_most}
use Rattle.transcript.specs.Entries.{entry_fits, zeros, zeros8}
use Rattle.chip.specs.declared.Chunk.{Chunk}
use Rattle.chip.specs.declared.Update.{Update}
use Rattle.chip.specs.Entries.{pointer, read_entry, with_outcome, wait}
use Rattle.chip.specs.Steps.{Step, all_in, while_open, chunk_bytes, chunk_step, chunk_table, every, in_range, tuner_write, update_step, updates, within}
use Rattle.chip.specs.Steps.Step.{Close, Plain}
use Rattle.chip.proofs.Laws.{and_left, and_right}
use Rattle.chip.proofs.Chunks.{some, seven, inside, first_register, chunk_eight, table_within}
use Rattle.history.specs.Programs.{fine, fine_plain, fine_send, reload_steps}
use Rattle.history.proofs.Fitted.{written_fits}

-- ---- all of a list

pub every_append : {A : Type 0} (p : A → Bool) (xs ys : List A) → every p xs ≡ true → every p ys ≡ true → every p (xs ++ ys) ≡ true
unfolding every
every_append p [] ys h k = k
every_append p (x ∷ xs) ys h k =
    rw (and_left (p x) (every p xs) h) (every_append p xs ys (and_right (p x) (every p xs) h) k)

pub every_map : {A B : Type 0} (p : A → Bool) (q : B → Bool) (f : A → B) → ((a : A) → p a ≡ true → q (f a) ≡ true)
    → (l : List A) → every p l ≡ true → every q (map f l) ≡ true
unfolding every
every_map p q f h [] e = refl
every_map p q f h (a ∷ rest) e =
    rw (h a (and_left (p a) (every p rest) e)) (every_map p q f h rest (and_right (p a) (every p rest) e))

pub every_take : {A : Type 0} (p : A → Bool) (n : ℕ) (l : List A) → every p l ≡ true → every p (take n l) ≡ true
unfolding every
every_take p zero l e = refl
every_take p (suc n) [] e = refl
every_take p (suc n) (a ∷ rest) e = rw (and_left (p a) (every p rest) e) (every_take p n rest (and_right (p a) (every p rest) e))

pub every_drop : {A : Type 0} (p : A → Bool) (n : ℕ) (l : List A) → every p l ≡ true → every p (drop n l) ≡ true
unfolding every
every_drop p zero l e = e
every_drop p (suc n) [] e = refl
every_drop p (suc n) (a ∷ rest) e = every_drop p n rest (and_right (p a) (every p rest) e)

-- ---- programs

pub fine_behind : (ss : List Step) → every fine ss ≡ true → every fine (while_open ss) ≡ true
unfolding every
fine_behind ss h = every_append fine ss (Close ∷ []) h refl

pub fine_update : (u : Update) → in_range u ≡ true → fine (update_step u) ≡ true
fine_update u h = h

pub fine_updates : (us : List Update) → all_in us ≡ true → every fine (updates us) ≡ true
fine_updates us h = every_map in_range fine update_step fine_update us h

-- ---- plain entries

-- an entry of another kind than the repeater's and the I2C write's needs to fit the table, and no more
pub fine_plain_lem : (e : Entry) → eqb e.kind 1 ≡ false → eqb e.kind 2 ≡ false → entry_fits (with_outcome e true) ≡ true → fine (Plain e) ≡ true
unfolding fine_plain
fine_plain_lem e one two h = rw (one, two, h)

pub fine_pointer : (chip : ℕ) → chip ≤ 255 → fine (Plain (pointer chip)) ≡ true
unfolding fine_plain zeros
fine_pointer chip h = rw (written_fits chip 1 zeros8 true h (omega arith) (omega arith) (omega arith) refl refl)

pub fine_read : (chip n : ℕ) (bytes : List ℕ) → chip ≤ 255 → 1 ≤ n → n ≤ 5 → get_or bytes 0 0 ≤ 255 → length bytes ≡ 8 → zeros (drop n bytes) ≡ true
    → fine (Plain (read_entry chip n bytes)) ≡ true
unfolding entry_fits row_fits n_low n_high outcome_most target_most address_most first_most
fine_read chip n bytes c l h b e z =
    fine_plain_lem (read_entry chip n bytes) refl refl
    (rw (le-leb chip 255 c, le-leb 1 n l, le-leb n 5 h, le-leb (get_or bytes 0 0) 255 b, eq-eqb (length bytes) 8 e, z))

pub fine_wait : (ms : ℕ) → ms ≤ 65535 → fine (Plain (wait ms)) ≡ true
unfolding entry_fits row_fits zeros n_low n_high outcome_most target_most address_most first_most
fine_wait ms h = fine_plain_lem (wait ms) refl refl (rw (le-leb ms 65535 h))

-- ---- chunks

drop_sets : (l : List ℕ) (at : ℕ) (vs : List ℕ) (n : ℕ) → at + length vs ≤ n → drop n (sets l at vs) ≡ drop n l
drop_sets l at [] n h = refl
drop_sets l at (v ∷ vs) n h = drop_sets (set l at v) (suc at) vs n (omega arith) ∙ drop-set-lt n l at v (omega arith)

zeros_drop : (n : ℕ) (l : List ℕ) → zeros l ≡ true → zeros (drop n l) ≡ true
unfolding zeros
zeros_drop zero l h = h
zeros_drop (suc n) [] h = refl
zeros_drop (suc n) (b ∷ bs) h = zeros_drop n bs (and_right (eqb b 0) (zeros bs) h)

chunk_padded : (bs : List ℕ) (at size : ℕ) → zeros (drop (size + 1) (chunk_bytes bs at size)) ≡ true
unfolding chunk_bytes zeros
chunk_padded bs at size =
    let few : 1 + length (take size (drop at bs)) ≤ size + 1 = omega (arith, length-take size (drop at bs)) in
    let here : size + 1 ≡ suc size = omega arith in
    ap zeros (drop_sets ((5 + at) ∷ 0 ∷ 0 ∷ 0 ∷ 0 ∷ 0 ∷ 0 ∷ 0 ∷ []) 1 (take size (drop at bs)) (size + 1) few)
    ∙ ap (λ (n : ℕ). zeros (drop n ((5 + at) ∷ 0 ∷ 0 ∷ 0 ∷ 0 ∷ 0 ∷ 0 ∷ 0 ∷ []))) here
    ∙ zeros_drop size (0 ∷ 0 ∷ 0 ∷ 0 ∷ 0 ∷ 0 ∷ 0 ∷ []) refl

-- any bytes, sent in a chunk that lies within the 27 registers
pub fine_chunk : (bs : List ℕ) (k : Chunk) → within k ≡ true → fine (chunk_step bs k) ≡ true
unfolding fine_send
fine_chunk bs k h =
    let first : get_or (chunk_bytes bs k.at k.size) 0 0 ≡ 5 + k.at = first_register bs k.at k.size in
    rw (
      le-leb 2 (k.size + 1) (omega (arith, some k h)),
      le-leb (k.size + 1) 8 (omega (arith, seven k h)),
      first,
      le-leb 5 (5 + k.at) (omega arith),
      le-leb (5 + k.at + (k.size + 1)) 33 (omega (arith, inside k h)),
      eq-eqb (length (chunk_bytes bs k.at k.size)) 8 (chunk_eight bs k.at k.size),
      chunk_padded bs k.at k.size,
    )

pub table_part : (from to : ℕ) → every within (drop from (take to chunk_table)) ≡ true
table_part from to = every_drop within from (take to chunk_table) (every_take within to chunk_table table_within)

pub fine_tuner : (bs : List ℕ) (from to : ℕ) → every fine (tuner_write bs from to) ≡ true
fine_tuner bs from to =
    fine_behind (map (chunk_step bs) (drop from (take to chunk_table)))
    (every_map within fine (chunk_step bs) (fine_chunk bs) (drop from (take to chunk_table)) (table_part from to))

pub fine_reload : (bs : List ℕ) → every fine (reload_steps bs) ≡ true
fine_reload bs = every_append fine (tuner_write bs 0 3) (tuner_write bs 3 5) (fine_tuner bs 0 3) (fine_tuner bs 3 5)

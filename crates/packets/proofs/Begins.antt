-- Bytes at which an entry is read begin with its packets, and the entry fits the table and expands; and the entry that a repeater entry becomes.
-- Assumes nothing.
use Prim.Native.Nat.{ℕ, zero, suc, ◌+◌, ◌/◌, ◌%◌, ◌≤◌}
use mathlib.Core.Path.{◌≡◌, refl, sym, ap, ap₂, ◌∙◌, subst}
use mathlib.Core.List.{List, [], ◌∷◌, ◌++◌, append_assoc}
use mathlib.Core.Bool.{Bool, true, false, cond, not, ◌&&◌}
use native.Mathlib.Omega.{arith}
use lib.Dec.{eqb, leb, ltb}
use borrow.Author.Tests.{eq-eqb, ne_eqb, le-leb, leb-true, leb-false, eqb-true, eqb-false}
use lib.ListN.{length, get_or, take, drop, length-drop, take-append-drop}
use lib.Seq.{sets, length-sets, take_at, drop_at, take-add, length-take-le}
use Rattle.wire.specs.Bytes.{le_bytes, le_value, Bytes}
use Rattle.wire.proofs.Widths.{bytes_take, bytes_drop, one_number}
use Rattle.transcript.specs.declared.Entry.{Entry}
use Rattle.transcript.specs.Entries.{entry_fits, zeros, zeros8}
use Rattle.transcript.specs.Table.{address_most, first_most, is_read, n_high, n_low, outcome_most, row_fits, target_most}
use Rattle.transcript.proofs.Reading.{both}
use Rattle.transcript.proofs.Rows.{row_of}
use Rattle.packets.specs.Packets.{became, expands, followed, w_index_of, is_demod, packets, packets_of, sent_by, setup, sync, w_value_of}
use Rattle.packets.specs.Heard.{entry_in, high_in, in_table, length_in, low_in, named, packets_stand, entry_named, sync_in, type_in, value_in, word}
use Rattle.packets.proofs.Written.{packets_long, sent_most, setup_back, stays}
use Rattle.packets.proofs.Reading.{entry_long, named_kind, table_most, table_row}
use Rattle.packets.proofs.Units.{all_zeros, columns, laid_zeros, zeros_drop}

-- ---- what a setup packet names

-- by the high byte of the index: a page, I2C, a block
pub data Way (w : ℕ) : Type 0 where
  page : high_in w ≡ 0 → Way w
  i2c : high_in w ≡ 6 → Way w
  block : (high_in w ≡ 0 → ⊥) → (high_in w ≡ 6 → ⊥) → Way w

way_by : (w : ℕ) (a b : Bool) → eqb (high_in w) 0 ≡ a → eqb (high_in w) 6 ≡ b → Way w
way_by w true b p q = page (eqb-true (high_in w) 0 p)
way_by w false true p q = i2c (eqb-true (high_in w) 6 q)
way_by w false false p q = block (eqb-false (high_in w) 0 p) (eqb-false (high_in w) 6 q)

way_of : (w : ℕ) → Way w
way_of w = way_by w (eqb (high_in w) 0) (eqb (high_in w) 6) refl refl

-- and it expands, with an address that the table has room for
pub record Fine (e : Entry) : Type 0 where
  pub expand : expands e ≡ true
  pub target : e.target ≤ 255
  pub address : e.address ≤ get_or address_most e.kind 0
  pub still : e.outcome ≡ 0

page_fine : (b : Bool) (t n a : ℕ) → t ≤ 15 → a ≤ 255 → Fine (entry_named (cond b 4 5) t n a)
unfolding expands address_most
page_fine true t n a p q = record { expand = rw (le-leb a 255 q, le-leb t 15 p); target = omega arith; address = omega arith; still = refl }
page_fine false t n a p q = record { expand = rw (le-leb a 255 q, le-leb t 15 p); target = omega arith; address = omega arith; still = refl }

i2c_fine : (b : Bool) (t n : ℕ) → t ≤ 255 → Fine (entry_named (cond b 2 3) t n 0)
unfolding expands address_most
i2c_fine true t n p = record { expand = refl; target = p; address = omega arith; still = refl }
i2c_fine false t n p = record { expand = refl; target = p; address = omega arith; still = refl }

block_fine : (b c : Bool) (t n a : ℕ) → t ≤ 255 → a ≤ 65535 → (t ≡ 0 → ⊥) → (t ≡ 6 → ⊥) → Fine (entry_named (cond b (cond c 6 7) 8) t n a)
unfolding expands address_most
block_fine true true t n a p q z s = record { expand = rw (ne_eqb t 0 z, ne_eqb t 6 s); target = p; address = q; still = refl }
block_fine true false t n a p q z s = record { expand = rw (ne_eqb t 0 z, ne_eqb t 6 s); target = p; address = q; still = refl }
block_fine false c t n a p q z s = record { expand = rw (ne_eqb t 0 z, ne_eqb t 6 s); target = p; address = q; still = refl }

named_by : (w : ℕ) → Way w → Fine (named w)
unfolding named
named_by w (page h) = rw (eq-eqb (high_in w) 0 h) (page_fine (eqb (length_in w) 1) (low_in w % 16) (length_in w) (value_in w / 256) (omega arith) (omega arith))
named_by w (i2c h) =
    rw (ne_eqb (high_in w) 0 (λ z. omega (arith, h, z)), eq-eqb (high_in w) 6 h) (i2c_fine (eqb (type_in w) 0x40) (value_in w % 256) (length_in w) (omega arith))
named_by w (block z s) =
    rw (ne_eqb (high_in w) 0 z, ne_eqb (high_in w) 6 s) (block_fine (eqb (type_in w) 0x40) (eqb (length_in w) 1) (high_in w) (length_in w) (value_in w) (omega arith) (omega arith) z s)

pub named_fine : (w : ℕ) → Fine (named w)
named_fine w = named_by w (way_of w)

-- ---- the table's other columns for a transfer

wide_columns : (k : ℕ) → 2 ≤ k → k ≤ 8 → (get_or outcome_most k 0 ≡ 1) × ((get_or target_most k 0 ≡ 255) × (get_or first_most k 0 ≡ 255))
unfolding outcome_most target_most first_most
wide_columns zero p q = absurd (omega arith)
wide_columns (suc zero) p q = absurd (omega arith)
wide_columns (suc (suc zero)) p q = (refl, (refl, refl))
wide_columns (suc (suc (suc zero))) p q = (refl, (refl, refl))
wide_columns (suc (suc (suc (suc zero)))) p q = (refl, (refl, refl))
wide_columns (suc (suc (suc (suc (suc zero))))) p q = (refl, (refl, refl))
wide_columns (suc (suc (suc (suc (suc (suc zero)))))) p q = (refl, (refl, refl))
wide_columns (suc (suc (suc (suc (suc (suc (suc zero))))))) p q = (refl, (refl, refl))
wide_columns (suc (suc (suc (suc (suc (suc (suc (suc zero)))))))) p q = (refl, (refl, refl))
wide_columns (suc (suc (suc (suc (suc (suc (suc (suc (suc k))))))))) p q = absurd (omega arith)

row_fine : (k o t n a f : ℕ) → 2 ≤ k → k ≤ 8 → o ≤ 1 → t ≤ 255 → in_table k n ≡ true → a ≤ get_or address_most k 0 → f ≤ 255 → row_fits k o t n a f ≡ true
unfolding row_fits
row_fine k o t n a f low high one small table address first =
    let c = wide_columns k low high in
    let r = table_row k n table in
    rw (
      le-leb k 9 (omega arith),
      le-leb 1 k (omega arith),
      le-leb o (get_or outcome_most k 0) (omega (arith, c.0)),
      le-leb t (get_or target_most k 0) (omega (arith, c.1.0)),
      le-leb (get_or n_low k 0) n r.0,
      le-leb n (get_or n_high k 0) r.1,
      le-leb a (get_or address_most k 0) address,
      le-leb f (get_or first_most k 0) (omega (arith, c.1.1)),
    )

-- eight bytes that begin with some are zeros after them
zeros_behind : (xs : List ℕ) → length xs ≤ 8 → zeros (drop (length xs) (sets zeros8 0 xs)) ≡ true
zeros_behind xs h = ap (λ (l : List ℕ). zeros (drop (length xs) l)) (laid_zeros xs h) ∙ ap zeros (drop_at xs (drop (length xs) zeros8) (length xs) refl) ∙ zeros_drop (length xs) zeros8 all_zeros

kept_zeros : (r : Bool) (o n : ℕ) (l : List ℕ) → n ≤ 8 → cond r 0 n ≤ length l
    → zeros (drop (cond (r && ltb 0 o) 0 n) (sets zeros8 0 (take (cond r 0 n) l))) ≡ true
kept_zeros true o n l m h = zeros_drop (cond (ltb 0 o) 0 n) zeros8 all_zeros
kept_zeros false o n l m h =
    let long : length (take n l) ≡ n = length-take-le n l h in
    subst (λ (k : ℕ). zeros (drop k (sets zeros8 0 (take n l))) ≡ true) long (zeros_behind (take n l) (omega arith))

first_byte : (xs : List ℕ) → Bytes xs → length xs ≤ 8 → get_or (sets zeros8 0 xs) 0 0 ≤ 255
first_byte [] b h = omega arith
first_byte (x ∷ xs) b h =
    let z : get_or (sets zeros8 0 (x ∷ xs)) 0 0 ≡ x = ap (λ (l : List ℕ). get_or l 0 0) (laid_zeros (x ∷ xs) h) in
    omega (arith, z, b 0)

one_at_most : (b : Bool) → cond b 1 0 ≤ 1
one_at_most true = omega arith
one_at_most false = omega arith

-- ---- bytes at which an entry stands

pub record Standing (b : List ℕ) : Type 0 where
  pub long : 8 ≤ length b
  pub table : in_table (named (word b)).kind (named (word b)).n ≡ true
  pub same : le_value (setup (named (word b))) ≡ word b
  pub room : 8 + sent_by (named (word b)).kind (named (word b)).n ≤ length b

pub standing : (b : List ℕ) → packets_stand b ≡ true → Standing b
unfolding packets_stand
standing b h =
    let e = named (word b) in
    let x = in_table e.kind e.n in
    let y = eqb (le_value (setup e)) (word b) in
    let p = both (leb 8 (length b) && (x && y)) (leb (8 + sent_by e.kind e.n) (length b)) h in
    let q = both (leb 8 (length b)) (x && y) p.0 in
    let r = both x y q.1 in
    record {
      long = leb-true 8 (length b) q.0;
      table = r.0;
      same = eqb-true (le_value (setup e)) (word b) r.1;
      room = leb-true (8 + sent_by e.kind e.n) (length b) p.1;
    }

sync_begins : (l : List ℕ) → Bytes l → sync_in l ≡ true → sync ≡ take 8 l
unfolding sync_in le_bytes le_value
sync_begins l bytes h =
    let p = both (leb 8 (length l)) (eqb (word l) (le_value sync)) h in
    let long : 8 ≤ length l = leb-true 8 (length l) p.0 in
    let same : word l ≡ le_value sync = eqb-true (word l) (le_value sync) p.1 in
    sym (ap (le_bytes 8) same) ∙ one_number 8 0 l bytes (omega arith)

follows : (d y : Bool) (l : List ℕ) → sync_in l ≡ y → Bytes l → cond (d && eqb (cond (d && not y) 1 0) 0) sync [] ≡ take (cond (d && y) 8 0) l
follows true true l h bytes = sync_begins l bytes h
follows true false l h bytes = refl
follows false y l h bytes = refl

-- there is room for the read where it is found
sync_room : (d y : Bool) (l : List ℕ) → sync_in l ≡ y → cond (d && y) 8 0 ≤ length l
unfolding sync_in
sync_room true true l h = leb-true 8 (length l) (both (leb 8 (length l)) (eqb (word l) (le_value sync)) h).0
sync_room true false l h = omega arith
sync_room false y l h = omega arith

module _ (b : List ℕ) (h : packets_stand b ≡ true) where
  abbrev e : Entry
  e = named (word b)

  abbrev sent : ℕ
  sent = sent_by e.kind e.n

  abbrev rest : List ℕ
  rest = drop (8 + sent) b

  abbrev behind : ℕ
  behind = cond (is_demod e.kind && sync_in rest) 8 0

  pub size_is : length (packets (entry_in b)) ≡ 8 + sent + behind
  size_is = entry_long b (standing b h).table

  few : sent ≤ 8
  few = omega (arith, sent_most e.kind e.n, table_most e.kind e.n (standing b h).table)

  -- a unit has at least eight bytes, and they are there
  pub size_within : (8 ≤ length (packets (entry_in b))) × (length (packets (entry_in b)) ≤ length b)
  size_within =
      (omega (arith, size_is), omega (arith, size_is, (standing b h).room, sync_room (is_demod e.kind) (sync_in rest) rest refl, length-drop (8 + sent) b))

  pub kind_within : (2 ≤ (entry_in b).kind) × ((entry_in b).kind ≤ 8)
  unfolding entry_in
  kind_within = named_kind (word b)

  pub entry_expands : expands (entry_in b) ≡ true
  unfolding entry_in expands
  entry_expands = (named_fine (word b)).expand

  data_long : length (take sent (drop 8 b)) ≡ sent
  data_long = length-take-le sent (drop 8 b) (omega (arith, length-drop 8 b, (standing b h).room))

  module _ (bytes : Bytes b) where
    setup_begins : setup (entry_in b) ≡ take 8 b
    unfolding entry_in setup w_value_of w_index_of
    setup_begins = sym (setup_back e) ∙ ap (le_bytes 8) (standing b h).same ∙ one_number 8 0 b bytes (omega (arith, (standing b h).long))

    data_begins : take sent (entry_in b).bytes ≡ take sent (drop 8 b)
    unfolding entry_in
    data_begins =
        ap (take sent) (laid_zeros (take sent (drop 8 b)) (omega (arith, data_long, few)))
        ∙ take_at (take sent (drop 8 b)) (drop (length (take sent (drop 8 b))) zeros8) sent data_long

    read_begins : followed (entry_in b) ≡ take behind rest
    unfolding entry_in
    read_begins = follows (is_demod e.kind) (sync_in rest) rest refl (bytes_drop (8 + sent) b bytes)

    begun : packets (entry_in b) ≡ take (length (packets (entry_in b))) b
    unfolding packets entry_in
    begun =
        ap₂ ◌++◌ setup_begins (ap₂ ◌++◌ data_begins read_begins)
        ∙ sym (append_assoc (take 8 b) (take sent (drop 8 b)) (take behind rest))
        ∙ ap (λ (l : List ℕ). l ++ take behind rest) (sym (take-add 8 sent b))
        ∙ sym (take-add (8 + sent) behind b)
        ∙ ap (λ (k : ℕ). take k b) (sym size_is)

    -- the bytes are the entry's packets and what follows them
    pub unit_begins : packets (entry_in b) ++ drop (length (packets (entry_in b))) b ≡ b
    unit_begins =
        ap (λ (l : List ℕ). l ++ drop (length (packets (entry_in b))) b) begun ∙ take-append-drop (length (packets (entry_in b))) b

    -- and the entry fits the table
    pub entry_fits_lem : entry_fits (entry_in b) ≡ true
    unfolding entry_fits entry_in
    entry_fits_lem =
        let f = named_fine (word b) in
        let k = named_kind (word b) in
        let o : ℕ = cond (is_demod e.kind && not (sync_in rest)) 1 0 in
        let laid = sets zeros8 0 (take sent (drop 8 b)) in
        let first : get_or laid 0 0 ≤ 255 = first_byte (take sent (drop 8 b)) (bytes_take sent (drop 8 b) (bytes_drop 8 b bytes)) (omega (arith, data_long, few)) in
        let row =
        row_fine e.kind o e.target e.n e.address (get_or laid 0 0) k.0 k.1 (one_at_most (is_demod e.kind && not (sync_in rest)))
        f.target (standing b h).table f.address first in
        let room : sent ≤ length (drop 8 b) = omega (arith, length-drop 8 b, (standing b h).room) in
        rw (row, eq-eqb (length laid) 8 (length-sets zeros8 0 (take sent (drop 8 b)))) (kept_zeros (is_read e.kind) o e.n (drop 8 b) (table_most e.kind e.n (standing b h).table) room)

-- ---- an entry of a section, as the transfer that it becomes

-- a transfer that the reader gives back: a kind from 2 to 8, in the table, with packets of its own
pub record Transfer (e : Entry) : Type 0 where
  pub fit : entry_fits e ≡ true
  pub low : 2 ≤ e.kind
  pub high : e.kind ≤ 8
  pub fine : expands e ≡ true

repeated : (b : Bool) (o : ℕ) → o ≤ 1
    → entry_fits (record { kind = 4; outcome = o; target = 1; n = 1; address = 1; bytes = cond b 0x10 0x18 ∷ 0 ∷ 0 ∷ 0 ∷ 0 ∷ 0 ∷ 0 ∷ 0 ∷ [] }) ≡ true
unfolding entry_fits row_fits n_low n_high outcome_most target_most address_most first_most zeros
repeated true o h = rw (le-leb o 1 h)
repeated false o h = rw (le-leb o 1 h)

became_by : (e : Entry) (b : Bool) → eqb e.kind 1 ≡ b → entry_fits e ≡ true → expands e ≡ true → (e.kind ≡ 9 → ⊥) → Transfer (became e)
unfolding became expands
became_by e true h fit fine w =
    rw h
    (record {
      fit = repeated (eqb (get_or e.bytes 0 0) 0) e.outcome (row_of e fit).outcome;
      low = omega arith;
      high = omega arith;
      fine = refl;
    })
became_by e false h fit fine w =
    let r = (row_of e fit).kind in
    rw h
    (record {
      fit = fit;
      low = least e.kind r.0 (eqb-false e.kind 1 h);
      high = most e.kind r.1 w;
      fine = fine;
    })
  where
    least : (k : ℕ) → 1 ≤ k → (k ≡ 1 → ⊥) → 2 ≤ k
    least zero p q = absurd (omega arith)
    least (suc zero) p q = absurd (q refl)
    least (suc (suc k)) p q = omega arith

    most : (k : ℕ) → k ≤ 9 → (k ≡ 9 → ⊥) → k ≤ 8
    most k p q = split (leb k 8) refl
      where
        split : (t : Bool) → leb k 8 ≡ t → k ≤ 8
        split true t = leb-true k 8 t
        split false t = absurd (q (omega (arith, leb-false k 8 t)))

pub became_transfer : (e : Entry) → entry_fits e ≡ true → expands e ≡ true → (e.kind ≡ 9 → ⊥) → Transfer (became e)
became_transfer e fit fine w = became_by e (eqb e.kind 1) refl fit fine w

-- what is no repeater entry and no wait is its own transfer
pub own_packets : (e : Entry) → 2 ≤ e.kind → e.kind ≤ 8 → packets_of e ≡ packets e
unfolding packets_of
own_packets e low high =
    rw (ne_eqb e.kind 9 (λ z. omega (arith, z)), ← stays e (λ z. omega (arith, z)))

-- "Most 18 bytes an entry": a demod write of two bytes, done
two_most : (k n : ℕ) (p : Bool) → eqb k 4 ≡ p → is_demod k ≡ true → n ≤ get_or n_high k 0 → n ≤ 2
unfolding n_high
two_most k n true a d h =
    let one : n ≤ 1 = subst (λ (m : ℕ). n ≤ get_or n_high m 0) (eqb-true k 4 a) h in
    omega arith
two_most k n false a d h =
    let five : eqb k 5 ≡ true = rw a at d in
    subst (λ (m : ℕ). n ≤ get_or n_high m 0) (eqb-true k 5 five) h

size_most : (k n : ℕ) (d y : Bool) → is_demod k ≡ d → n ≤ get_or n_high k 0 → n ≤ 8 → 8 + sent_by k n + cond (d && y) 8 0 ≤ 18
size_most k n true true d h m = omega (arith, sent_most k n, two_most k n (eqb k 4) refl d h)
size_most k n true false d h m = omega (arith, sent_most k n)
size_most k n false y d h m = omega (arith, sent_most k n)

pub transfer_most : (e : Entry) → entry_fits e ≡ true → length (packets e) ≤ 18
transfer_most e fit =
    let r = row_of e fit in
    let s = size_most e.kind e.n (is_demod e.kind) (eqb e.outcome 0) refl (columns e fit).1.0 r.n in
    omega (arith, packets_long e r.eight r.n, s)

pub most_bytes : (e : Entry) (b : Bool) → eqb e.kind 9 ≡ b → entry_fits e ≡ true → expands e ≡ true → length (packets_of e) ≤ 18
unfolding packets_of
most_bytes e true h fit fine = rw h (omega arith)
most_bytes e false h fit fine = rw h (transfer_most (became e) (became_transfer e fit fine (eqb-false e.kind 9 h)).fit)

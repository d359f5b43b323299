-- One unit both ways: the packets of an entry are read as what they tell of it, and bytes that are read begin with the packets of the entry that is read.
-- Assumes nothing.
use Prim.Native.Nat.{ℕ, zero, suc, ◌+◌, ◌*◌, ◌/◌, ◌%◌, ◌<◌, ◌≤◌}
use mathlib.Core.Path.{◌≡◌, refl, sym, ap, ap₂, ◌∙◌}
use mathlib.Core.List.{List, [], ◌∷◌, ◌++◌, append_assoc}
use mathlib.Core.Bool.{Bool, true, false, cond, not, ◌&&◌, and-false}
use native.Mathlib.Omega.{arith}
use lib.Dec.{eqb, leb, ltb}
use borrow.Author.Tests.{eq-eqb, ne_eqb, le-leb, leb-true, eqb-true, eqb-false}
use lib.ListN.{length, get_or, take, drop, length-drop, length-take, length-append, take-append-drop}
use lib.Seq.{sets, sets-eq, drop-drop, take_at, drop_at}
use Rattle.wire.specs.Bytes.{le_value}
use Rattle.transcript.specs.declared.Entry.{Entry}
use Rattle.transcript.specs.Entries.{bare, entry_fits, kept_by, zeros, zeros8}
use Rattle.transcript.specs.Table.{address_most, first_most, is_read, n_high, n_low, outcome_most, row_fits, target_most}
use Rattle.transcript.proofs.Reading.{both}
use Rattle.transcript.proofs.Rows.{row_of}
use Rattle.packets.specs.Packets.{expands, followed, w_index_of, is_demod, packets, sent_by, setup, sync, w_value_of}
use Rattle.packets.specs.Heard.{entry_in, high_in, in_table, length_in, low_in, named, packets_stand, entry_named, sync_in, type_in, value_in, word}
use Rattle.packets.proofs.Written.{packets_long, sent_long, setup_long, setup_value}
use Rattle.packets.proofs.Reading.{block_named, i2c_named, page_named}

-- ---- the fields of a setup packet's number

pub record Fields (w t v l h n : ℕ) : Type 0 where
  pub type : type_in w ≡ t
  pub value : value_in w ≡ v
  pub low : low_in w ≡ l
  pub high : high_in w ≡ h
  pub long : length_in w ≡ n

fields : (w t v l h n : ℕ) → w ≡ t + v * 65536 + (l + h * 256) * 4294967296 + n * 281474976710656 → t < 256 → v < 65536 → l < 256 → h < 256 → n < 256
    → Fields w t v l h n
fields w t v l h n e a b c d f =
    let q2 : w / 65536 ≡ v + (l + h * 256) * 65536 + n * 4294967296 = omega arith in
    let q4 : w / 4294967296 ≡ l + h * 256 + n * 65536 = omega arith in
    let q5 : w / 1099511627776 ≡ h + n * 256 = omega arith in
    let q6 : w / 281474976710656 ≡ n = omega arith in
    record {
      type = omega arith;
      value = rw q2 (omega arith);
      low = rw q4 (omega arith);
      high = rw q5 (omega arith);
      long = rw q6 (omega arith);
    }

-- what a setup packet says of the entry that it was made of: it names it, and it is not the read of page 0x0a
pub record Said (e : Entry) : Type 0 where
  pub names : named (le_value (setup e)) ≡ e
  pub other : le_value (setup e) ≡ le_value sync → ⊥

same_step : (k t u n m a b : ℕ) → t ≡ u → n ≡ m → a ≡ b → entry_named k t n a ≡ entry_named k u m b
same_step k t u n m a b p q r = rw (p, q, r)

-- the setup packet of a step, by its fields
module _ (k t n a : ℕ) where
  abbrev e : Entry
  e = entry_named k t n a

  abbrev w : ℕ
  w = le_value (setup e)

  said_page : (v l : ℕ) → Fields w 0x40 v l 0 n → k ≡ cond (eqb n 1) 4 5 → l % 16 ≡ t → v / 256 ≡ a → Said e
  unfolding le_value
  said_page v l f kind target address =
      record {
        names =
            sym (page_named w k f.high (kind ∙ ap (λ (m : ℕ). cond (eqb m 1) 4 5) (sym f.long)))
            ∙ same_step k (low_in w % 16) t (length_in w) n (value_in w / 256) a (ap (λ (m : ℕ). m % 16) f.low ∙ target) f.long (ap (λ (m : ℕ). m / 256) f.value ∙ address);
        other = λ same. let z : type_in w ≡ 192 = ap (λ (m : ℕ). m % 256) same in omega (arith, f.type, z);
      }

  said_i2c : (y l : ℕ) → Fields w y t l 6 n → k ≡ cond (eqb y 0x40) 2 3 → t < 256 → a ≡ 0 → Said e
  unfolding le_value
  said_i2c y l f kind target address =
      record {
        names =
            sym (i2c_named w k (λ z. omega (arith, f.high, z)) f.high (kind ∙ ap (λ (m : ℕ). cond (eqb m 0x40) 2 3) (sym f.type)))
            ∙ same_step k (value_in w % 256) t (length_in w) n 0 a (ap (λ (m : ℕ). m % 256) f.value ∙ omega arith) f.long (sym address);
        other = λ same. let z : high_in w ≡ 0 = ap high_in same in omega (arith, f.high, z);
      }

  said_block : (y l : ℕ) → Fields w y a l t n → k ≡ cond (eqb y 0x40) (cond (eqb n 1) 6 7) 8 → (t ≡ 0 → ⊥) → (t ≡ 6 → ⊥) → Said e
  unfolding le_value
  said_block y l f kind none six =
      record {
        names =
            sym (block_named w (cond (eqb (length_in w) 1) 6 7) k (λ z. none (sym f.high ∙ z)) (λ z. six (sym f.high ∙ z)) refl
            (kind ∙ ap₂ (λ (p q : ℕ). cond (eqb p 0x40) (cond (eqb q 1) 6 7) 8) (sym f.type) (sym f.long)))
            ∙ same_step k (high_in w) t (length_in w) n (value_in w) a f.high f.long f.value;
        other = λ same. let z : high_in w ≡ 0 = ap high_in same in none (sym f.high ∙ z);
      }

not_so : (b : Bool) → not b ≡ true → b ≡ false
not_so true h = sym h
not_so false h = refl

-- each kind of the table that is a transfer
said : (k t n a : ℕ) → 2 ≤ k → k ≤ 8 → t ≤ 255 → get_or n_low k 0 ≤ n → n ≤ get_or n_high k 0 → a ≤ get_or address_most k 0 → expands (entry_named k t n a) ≡ true → Said (entry_named k t n a)
unfolding n_low n_high address_most expands w_value_of w_index_of
said zero t n a x y p q r s h = absurd (omega arith)
said (suc zero) t n a x y p q r s h = absurd (omega arith)
said (suc (suc zero)) t n a x y p q r s h =
    said_i2c 2 t n a 0x40 0x10
    (fields (le_value (setup (entry_named 2 t n a))) 0x40 t 0x10 6 n (setup_value (entry_named 2 t n a) ∙ omega arith) (omega arith) (omega arith) (omega arith)
    (omega arith) (omega arith)) refl (omega arith) (omega arith)
said (suc (suc (suc zero))) t n a x y p q r s h =
    said_i2c 3 t n a 0xc0 0
    (fields (le_value (setup (entry_named 3 t n a))) 0xc0 t 0 6 n (setup_value (entry_named 3 t n a) ∙ omega arith) (omega arith) (omega arith) (omega arith)
    (omega arith) (omega arith)) refl (omega arith) (omega arith)
said (suc (suc (suc (suc zero)))) t n a x y p q r s h =
    let g = both (leb a 255) (leb t 15) h in
    let ga : a ≤ 255 = leb-true a 255 g.0 in
    let gt : t ≤ 15 = leb-true t 15 g.1 in
    let one : n ≡ 1 = omega arith in
    said_page 4 t n a (a * 256 + 32) (t + 16)
    (fields (le_value (setup (entry_named 4 t n a))) 0x40 (a * 256 + 32) (t + 16) 0 n (setup_value (entry_named 4 t n a) ∙ omega arith) (omega arith) (omega arith)
    (omega arith) (omega arith) (omega arith)) (rw one) (omega arith) (omega arith)
said (suc (suc (suc (suc (suc zero))))) t n a x y p q r s h =
    let g = both (leb a 255) (leb t 15) h in
    let ga : a ≤ 255 = leb-true a 255 g.0 in
    let gt : t ≤ 15 = leb-true t 15 g.1 in
    let two : n ≡ 2 = omega arith in
    said_page 5 t n a (a * 256 + 32) (t + 16)
    (fields (le_value (setup (entry_named 5 t n a))) 0x40 (a * 256 + 32) (t + 16) 0 n (setup_value (entry_named 5 t n a) ∙ omega arith) (omega arith) (omega arith)
    (omega arith) (omega arith) (omega arith)) (rw two) (omega arith) (omega arith)
said (suc (suc (suc (suc (suc (suc zero)))))) t n a x y p q r s h =
    let g = both (not (eqb t 0)) (not (eqb t 6)) h in
    let one : n ≡ 1 = omega arith in
    said_block 6 t n a 0x40 0x10
    (fields (le_value (setup (entry_named 6 t n a))) 0x40 a 0x10 t n (setup_value (entry_named 6 t n a) ∙ omega arith) (omega arith) (omega arith) (omega arith)
    (omega arith) (omega arith)) (rw one) (eqb-false t 0 (not_so (eqb t 0) g.0)) (eqb-false t 6 (not_so (eqb t 6) g.1))
said (suc (suc (suc (suc (suc (suc (suc zero))))))) t n a x y p q r s h =
    let g = both (not (eqb t 0)) (not (eqb t 6)) h in
    let two : n ≡ 2 = omega arith in
    said_block 7 t n a 0x40 0x10
    (fields (le_value (setup (entry_named 7 t n a))) 0x40 a 0x10 t n (setup_value (entry_named 7 t n a) ∙ omega arith) (omega arith) (omega arith) (omega arith)
    (omega arith) (omega arith)) (rw two) (eqb-false t 0 (not_so (eqb t 0) g.0)) (eqb-false t 6 (not_so (eqb t 6) g.1))
said (suc (suc (suc (suc (suc (suc (suc (suc zero)))))))) t n a x y p q r s h =
    let g = both (not (eqb t 0)) (not (eqb t 6)) h in
    said_block 8 t n a 0xc0 0
    (fields (le_value (setup (entry_named 8 t n a))) 0xc0 a 0 t n (setup_value (entry_named 8 t n a) ∙ omega arith) (omega arith) (omega arith) (omega arith)
    (omega arith) (omega arith)) refl (eqb-false t 0 (not_so (eqb t 0) g.0)) (eqb-false t 6 (not_so (eqb t 6) g.1))
said (suc (suc (suc (suc (suc (suc (suc (suc (suc k))))))))) t n a x y p q r s h = absurd (omega arith)

-- ---- an entry of a transfer that fits the table and expands

-- what packets tell of an entry: the outcome of a demod write, and of a read no data
abbrev pub core : Entry → Entry
core e =
    record {
      kind = e.kind;
      outcome = cond (is_demod e.kind) e.outcome 0;
      target = e.target;
      n = e.n;
      address = e.address;
      bytes = cond (is_read e.kind) zeros8 e.bytes;
    }

pub bare_core : (e : Entry) → bare (core e) ≡ bare e
bare_core e = λ i. record { kind = e.kind; outcome = 0; target = e.target; n = e.n; address = e.address; bytes = twice (is_read e.kind) e.bytes i }
  where
    twice : (b : Bool) (bytes : List ℕ) → cond b zeros8 (cond b zeros8 bytes) ≡ cond b zeros8 bytes
    twice true bytes = refl
    twice false bytes = refl

-- two columns of the table, and a third
pub columns : (e : Entry) → entry_fits e ≡ true → (get_or n_low e.kind 0 ≤ e.n) × ((e.n ≤ get_or n_high e.kind 0) × (e.address ≤ get_or address_most e.kind 0))
unfolding entry_fits row_fits
columns e h =
    let k = e.kind in
    let b = get_or e.bytes 0 0 in
    let t1 = leb k 9 in
    let t2 = leb 1 k in
    let t3 = leb e.outcome (get_or outcome_most k 0) in
    let t4 = leb e.target (get_or target_most k 0) in
    let t5 = leb (get_or n_low k 0) e.n in
    let t6 = leb e.n (get_or n_high k 0) in
    let t7 = leb e.address (get_or address_most k 0) in
    let t8 = leb b (get_or first_most k 0) in
    let p = both (row_fits k e.outcome e.target e.n e.address b && eqb (length e.bytes) 8) (zeros (drop (kept_by k e.outcome e.n) e.bytes)) h in
    let q = both (row_fits k e.outcome e.target e.n e.address b) (eqb (length e.bytes) 8) p.0 in
    let r8 = both (t1 && t2 && t3 && t4 && t5 && t6 && t7) t8 q.0 in
    let r7 = both (t1 && t2 && t3 && t4 && t5 && t6) t7 r8.0 in
    let r6 = both (t1 && t2 && t3 && t4 && t5) t6 r7.0 in
    let r5 = both (t1 && t2 && t3 && t4) t5 r6.0 in
    (leb-true (get_or n_low k 0) e.n r5.1, (leb-true e.n (get_or n_high k 0) r6.1, leb-true e.address (get_or address_most k 0) r7.1))

-- zeros as long as others are those
same_zeros : (x y : List ℕ) → zeros x ≡ true → zeros y ≡ true → length x ≡ length y → x ≡ y
unfolding zeros
same_zeros [] [] a b l = refl
same_zeros [] (y ∷ ys) a b l = absurd (omega arith)
same_zeros (x ∷ xs) [] a b l = absurd (omega arith)
same_zeros (x ∷ xs) (y ∷ ys) a b l =
    let p = both (eqb x 0) (zeros xs) a in
    let q = both (eqb y 0) (zeros ys) b in
    ap₂ ◌∷◌ (eqb-true x 0 p.0 ∙ sym (eqb-true y 0 q.0)) (same_zeros xs ys p.1 q.1 (omega arith))

pub zeros_drop : (n : ℕ) (l : List ℕ) → zeros l ≡ true → zeros (drop n l) ≡ true
unfolding zeros
zeros_drop zero l h = h
zeros_drop (suc n) [] h = refl
zeros_drop (suc n) (x ∷ xs) h = zeros_drop n xs (both (eqb x 0) (zeros xs) h).1

pub all_zeros : zeros zeros8 ≡ true
unfolding zeros
all_zeros = refl

-- bytes laid at the start of eight zeros
pub laid_zeros : (xs : List ℕ) → length xs ≤ 8 → sets zeros8 0 xs ≡ xs ++ drop (length xs) zeros8
laid_zeros xs h =
    let here : 0 + length xs ≡ length xs = omega arith in
    sets-eq xs zeros8 0 (omega arith) ∙ ap (λ (k : ℕ). xs ++ drop k zeros8) here

-- data with zeros after them
padded : (n : ℕ) (bs : List ℕ) → length bs ≡ 8 → n ≤ 8 → zeros (drop n bs) ≡ true → sets zeros8 0 (take n bs) ≡ bs
padded n bs l m z =
    let long : length (take n bs) ≡ n = length-take n bs ∙ omega arith in
    let rest : drop n zeros8 ≡ drop n bs = same_zeros (drop n zeros8) (drop n bs) (zeros_drop n zeros8 all_zeros) z (length-drop n zeros8 ∙ omega (arith, length-drop n bs)) in
    laid_zeros (take n bs) (omega arith) ∙ ap (λ (k : ℕ). take n bs ++ drop k zeros8) long ∙ ap (λ (r : List ℕ). take n bs ++ r) rest ∙ take-append-drop n bs

padded_by : (r : Bool) (o n : ℕ) (bs : List ℕ) → length bs ≡ 8 → n ≤ 8 → zeros (drop (cond (r && ltb 0 o) 0 n) bs) ≡ true
    → sets zeros8 0 (take (cond r 0 n) bs) ≡ cond r zeros8 bs
padded_by true o n bs l m z = refl
padded_by false o n bs l m z = padded n bs l m z

sync_first : (r : List ℕ) → sync_in (sync ++ r) ≡ true
unfolding sync_in le_value
sync_first r = rw (le-leb 8 (length (sync ++ r)) (omega (arith, length-append sync r)))

-- whether the read of page 0x0a stands after a demod write says how it ended
ended : (d : Bool) (o : ℕ) (r : List ℕ) → o ≤ 1 → sync_in r ≡ false → ◌≡◌ {A = ℕ} (cond (d && not (sync_in (cond (d && eqb o 0) sync [] ++ r))) 1 0) (cond d o 0)
ended false o r m s = refl
ended true zero r m s = rw (sync_first r)
ended true (suc zero) r m s = rw s
ended true (suc (suc o)) r m s = absurd (omega arith)

module _ (e : Entry) (fit : entry_fits e ≡ true) (low : 2 ≤ e.kind) (high : e.kind ≤ 8) (fine : expands e ≡ true) where
  abbrev bare_step : Entry
  bare_step = entry_named e.kind e.target e.n e.address

  pub told_of : Said bare_step
  unfolding expands
  told_of =
      let c = columns e fit in
      said e.kind e.target e.n e.address low high (row_of e fit).target c.0 c.1.0 c.1.1 fine

  setup_same : setup bare_step ≡ setup e
  unfolding setup w_value_of w_index_of
  setup_same = refl

  module _ (r : List ℕ) where
    abbrev sent : ℕ
    sent = sent_by e.kind e.n

    abbrev all : List ℕ
    all = packets e ++ r

    abbrev rest : List ℕ
    rest = take sent e.bytes ++ (followed e ++ r)

    parted : all ≡ setup e ++ rest
    unfolding packets
    parted =
        append_assoc (setup e) (take sent e.bytes ++ followed e) r
        ∙ ap (λ (l : List ℕ). setup e ++ l) (append_assoc (take sent e.bytes) (followed e) r)

    sends : length (take sent e.bytes) ≡ sent
    sends = sent_long e (row_of e fit).eight (row_of e fit).n

    worded : word all ≡ le_value (setup e)
    worded = ap le_value (ap (take 8) parted ∙ take_at (setup e) rest 8 (setup_long e))

    behind : drop 8 all ≡ rest
    behind = ap (drop 8) parted ∙ drop_at (setup e) rest 8 (setup_long e)

    given : take sent (drop 8 all) ≡ take sent e.bytes
    given = ap (take sent) behind ∙ take_at (take sent e.bytes) (followed e ++ r) sent sends

    last : drop (8 + sent) all ≡ followed e ++ r
    last = sym (drop-drop sent 8 all) ∙ ap (drop sent) behind ∙ drop_at (take sent e.bytes) (followed e ++ r) sent sends

    pub names : named (word all) ≡ bare_step
    names = ap named (worded ∙ sym (ap le_value setup_same)) ∙ told_of.names

    long : 8 + sent ≤ length all
    long = omega (arith, length-append (packets e) r, packets_long e (row_of e fit).eight (row_of e fit).n)

    pub no_stray : sync_in all ≡ false
    unfolding sync_in
    no_stray = rw (worded, ne_eqb (le_value (setup e)) (le_value sync) (λ same. told_of.other (ap le_value setup_same ∙ same)), and-false)

    pub unit_stands : packets_stand all ≡ true
    unfolding packets_stand in_table
    unit_stands =
        let c = columns e fit in
        rw (
          names,
          le-leb 8 (length all) (omega (arith, long)),
          le-leb (get_or n_low e.kind 0) e.n c.0,
          le-leb e.n (get_or n_high e.kind 0) c.1.0,
          eq-eqb (le_value (setup bare_step)) (word all) (ap le_value setup_same ∙ sym worded),
          le-leb (8 + sent) (length all) long,
        )

    pub unit_read : sync_in r ≡ false → entry_in all ≡ core e
    unfolding entry_in
    unit_read clean =
        rw (
          names,
          last,
          given,
          ended (is_demod e.kind) e.outcome r (row_of e fit).outcome clean,
          padded_by (is_read e.kind) e.outcome e.n e.bytes (row_of e fit).eight (row_of e fit).n (row_of e fit).padded,
        )

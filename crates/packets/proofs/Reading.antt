-- The entry that bytes begin with, as the code finds it: what a setup packet names, one law for each way in which the code stops, one for what it finds.
-- Assumes nothing.
use Prim.Native.Nat.{ℕ, zero, suc, ◌+◌, ◌-◌, ◌/◌, ◌%◌, ◌<◌, ◌≤◌}
use mathlib.Core.Path.{◌≡◌, refl, sym, ap, ap₂, ◌∙◌}
use mathlib.Core.List.{List}
use mathlib.Core.Bool.{Bool, true, false, cond, not, ◌&&◌, and-false}
use native.Mathlib.Omega.{arith}
use lib.Dec.{eqb, leb}
use borrow.Author.Tests.{eq-eqb, ne_eqb, le-leb, lt-leb, leb-true}
use lib.ListN.{length, get_or, take, drop, length-drop}
use lib.Seq.{sets, length-sets, drop-drop}
use Rattle.wire.specs.Bytes.{le_value}
use Rattle.transcript.specs.declared.Entry.{Entry}
use Rattle.transcript.specs.Entries.{zeros8}
use Rattle.transcript.specs.Table.{is_read, n_low, n_high}
use Rattle.transcript.proofs.Reading.{both}
use Rattle.std.specs.Prelude.{Some, None}
use Rattle.packets.specs.declared.Heard.{Heard}
use Rattle.packets.specs.Packets.{is_demod, packets, sent_by, setup}
use Rattle.packets.specs.Heard.{entry_in, heard_in, high_in, in_table, length_in, low_in, named, packets_stand, entry_named, sync_in, heard_with, type_in, value_in, word}
use Rattle.packets.proofs.Written.{packets_long, sent_most}

module _ (w : ℕ) where
  pub page_named : (k : ℕ) → high_in w ≡ 0 → k ≡ cond (eqb (length_in w) 1) 4 5 → entry_named k (low_in w % 16) (length_in w) (value_in w / 256) ≡ named w
  unfolding named
  page_named k h e = rw (eq-eqb (high_in w) 0 h, e)

  pub i2c_named : (k : ℕ) → (high_in w ≡ 0 → ⊥) → high_in w ≡ 6 → k ≡ cond (eqb (type_in w) 0x40) 2 3 → entry_named k (value_in w % 256) (length_in w) 0 ≡ named w
  unfolding named
  i2c_named k z h e = rw (ne_eqb (high_in w) 0 z, eq-eqb (high_in w) 6 h, e)

  pub block_named : (j k : ℕ) → (high_in w ≡ 0 → ⊥) → (high_in w ≡ 6 → ⊥) → j ≡ cond (eqb (length_in w) 1) 6 7 → k ≡ cond (eqb (type_in w) 0x40) j 8
      → entry_named k (high_in w) (length_in w) (value_in w) ≡ named w
  unfolding named
  block_named j k z h e f = rw (ne_eqb (high_in w) 0 z, ne_eqb (high_in w) 6 h, f, e)

-- its kind is one of a transfer
picked_kind : (a b c d : Bool) (x y z : ℕ → Entry) → ((k : ℕ) → (x k).kind ≡ k) → ((k : ℕ) → (y k).kind ≡ k) → ((k : ℕ) → (z k).kind ≡ k)
    → (2 ≤ (cond a (x (cond b 4 5)) (cond c (y (cond d 2 3)) (z (cond d (cond b 6 7) 8)))).kind) × ((cond a (x (cond b 4 5)) (cond c (y (cond d 2 3)) (z (cond d (cond b 6 7) 8)))).kind ≤ 8)
picked_kind true true c d x y z p q r = (omega (arith, p 4), omega (arith, p 4))
picked_kind true false c d x y z p q r = (omega (arith, p 5), omega (arith, p 5))
picked_kind false b true true x y z p q r = (omega (arith, q 2), omega (arith, q 2))
picked_kind false b true false x y z p q r = (omega (arith, q 3), omega (arith, q 3))
picked_kind false true false true x y z p q r = (omega (arith, r 6), omega (arith, r 6))
picked_kind false false false true x y z p q r = (omega (arith, r 7), omega (arith, r 7))
picked_kind false b false false x y z p q r = (omega (arith, r 8), omega (arith, r 8))

pub named_kind : (w : ℕ) → (2 ≤ (named w).kind) × ((named w).kind ≤ 8)
unfolding named
named_kind w =
    picked_kind (eqb (high_in w) 0) (eqb (length_in w) 1) (eqb (high_in w) 6) (eqb (type_in w) 0x40)
    (λ k. entry_named k (low_in w % 16) (length_in w) (value_in w / 256)) (λ k. entry_named k (value_in w % 256) (length_in w) 0) (λ k. entry_named k (high_in w) (length_in w) (value_in w))
    (λ k. refl) (λ k. refl) (λ k. refl)

high_most : (k : ℕ) → get_or n_high k 0 ≤ 8
unfolding n_high
high_most zero = omega arith
high_most (suc zero) = omega arith
high_most (suc (suc zero)) = omega arith
high_most (suc (suc (suc zero))) = omega arith
high_most (suc (suc (suc (suc zero)))) = omega arith
high_most (suc (suc (suc (suc (suc zero))))) = omega arith
high_most (suc (suc (suc (suc (suc (suc zero)))))) = omega arith
high_most (suc (suc (suc (suc (suc (suc (suc zero))))))) = omega arith
high_most (suc (suc (suc (suc (suc (suc (suc (suc zero)))))))) = omega arith
high_most (suc (suc (suc (suc (suc (suc (suc (suc (suc zero))))))))) = omega arith
high_most (suc (suc (suc (suc (suc (suc (suc (suc (suc (suc k)))))))))) = omega arith

pub table_row : (k n : ℕ) → in_table k n ≡ true → (get_or n_low k 0 ≤ n) × (n ≤ get_or n_high k 0)
unfolding in_table
table_row k n h =
    let p = both (leb (get_or n_low k 0) n) (leb n (get_or n_high k 0)) h in
    (leb-true (get_or n_low k 0) n p.0, leb-true n (get_or n_high k 0) p.1)

pub table_most : (k n : ℕ) → in_table k n ≡ true → n ≤ 8
table_most k n h = omega (arith, (table_row k n h).1, high_most k)

-- the read of page 0x0a
module _ (s : List ℕ) (at : ℕ) where
  pub no_sync : length s - at < 8 → false ≡ sync_in (drop at s)
  unfolding sync_in
  no_sync h = rw (length-drop at s, lt-leb 8 (length s - at) h)

  pub sync_told : (w : ℕ) → 8 ≤ length s - at → w ≡ word (drop at s) → eqb w 281517945258176 ≡ sync_in (drop at s)
  unfolding sync_in le_value
  sync_told w h e = rw (length-drop at s, le-leb 8 (length s - at) h, e)

  -- the data and the read after them
  pub told_made : (e : Entry) (sent behind : ℕ) (image : List ℕ) → image ≡ sets zeros8 0 (take (at + 8 + sent - (at + 8)) (drop (at + 8) s))
      → behind ≡ cond (is_demod e.kind && sync_in (drop (at + 8 + sent) s)) 8 0
      → ◌≡◌ {A = Heard}
      (record { entry = record { kind = e.kind; outcome = 0; target = e.target; n = e.n; address = e.address; bytes = image }; size = 8 + sent + behind })
      (heard_with e sent (drop at s))
  unfolding heard_with
  told_made e sent behind image i b =
      let wide : at + 8 + sent - (at + 8) ≡ sent = omega arith in
      let next : at + (8 + sent) ≡ at + 8 + sent = omega arith in
      rw (drop-drop 8 at s, drop-drop (8 + sent) at s, next, i, b, wide)

-- ---- what is found

kept : (r : Bool) (n : ℕ) (l : List ℕ) → cond r zeros8 (sets zeros8 0 (take (cond r 0 n) l)) ≡ sets zeros8 0 (take (cond r 0 n) l)
kept true n l = refl
kept false n l = refl

behind_as : (d y : Bool) → ◌≡◌ {A = ℕ} (cond (d && eqb (cond (d && not y) 1 0) 0) 8 0) (cond (d && y) 8 0)
behind_as true true = refl
behind_as true false = refl
behind_as false y = refl

module _ (b : List ℕ) where
  pub heard_short : length b < 8 → None ≡ heard_in b
  unfolding heard_in packets_stand
  heard_short h = rw (lt-leb 8 (length b) h)

  abbrev sent : ℕ
  sent = sent_by (named (word b)).kind (named (word b)).n

  pub entry_long : in_table (named (word b)).kind (named (word b)).n ≡ true
      → length (packets (entry_in b)) ≡ 8 + sent + cond (is_demod (named (word b)).kind && sync_in (drop (8 + sent) b)) 8 0
  unfolding entry_in
  entry_long t =
      packets_long (entry_in b) (length-sets zeros8 0 (take sent (drop 8 b))) (table_most (named (word b)).kind (named (word b)).n t)
      ∙ ap (λ (k : ℕ). 8 + sent + k) (behind_as (is_demod (named (word b)).kind) (sync_in (drop (8 + sent) b)))

  whole : 8 ≤ length b → in_table (named (word b)).kind (named (word b)).n && eqb (le_value (setup (named (word b)))) (word b) ≡ true → 8 + sent ≤ length b
      → Some (heard_with (named (word b)) sent b) ≡ heard_in b
  unfolding heard_in packets_stand heard_with entry_in
  whole l f h =
      let t = (both (in_table (named (word b)).kind (named (word b)).n) (eqb (le_value (setup (named (word b)))) (word b)) f).0 in
      rw (le-leb 8 (length b) l, f, le-leb (8 + sent) (length b) h, entry_long t, kept (is_read (named (word b)).kind) (named (word b)).n (drop 8 b))

  -- the code's entry and number of bytes
  module _ (w : ℕ) (e : Entry) (words : w ≡ word b) (names : e ≡ named w) (k : ℕ) (sends : k ≡ sent_by e.kind e.n) where
    same : named (word b) ≡ e
    same = ap named (sym words) ∙ sym names

    tested : (t : Bool) (x : Bool) (v : ℕ) → x ≡ in_table e.kind e.n → v ≡ le_value (setup e) → x && eqb v w ≡ t
        → in_table (named (word b)).kind (named (word b)).n && eqb (le_value (setup (named (word b)))) (word b) ≡ t
    tested t x v p q h = rw (same, ← p, ← q, ← words) h

    sent_same : sent ≡ k
    sent_same = ap (λ (u : Entry). sent_by u.kind u.n) same ∙ sym sends

    pub heard_other : (x : Bool) (v : ℕ) → x ≡ in_table e.kind e.n → v ≡ le_value (setup e) → x && eqb v w ≡ false → None ≡ heard_in b
    unfolding heard_in packets_stand
    heard_other x v p q h = rw (tested false x v p q h, and-false)

    pub heard_cut : length b < 8 + k → None ≡ heard_in b
    unfolding heard_in packets_stand
    heard_cut h = rw (lt-leb (8 + sent) (length b) (omega (arith, sent_same)), and-false)

    pub heard_told : (x : Bool) (v : ℕ) → x ≡ in_table e.kind e.n → v ≡ le_value (setup e) → x && eqb v w ≡ true → 8 ≤ length b → 8 + k ≤ length b
        → Some (heard_with e k b) ≡ heard_in b
    heard_told x v p q h l r =
        ap₂ (λ (u : Entry) (i : ℕ). Some (heard_with u i b)) (sym same) (sym sent_same) ∙ whole l (tested true x v p q h) (omega (arith, sent_same))

    pub few : (x : Bool) (v : ℕ) → x ≡ in_table e.kind e.n → x && eqb v w ≡ true → k ≤ 8
    few x v p h = omega (arith, table_most e.kind e.n (sym p ∙ (both x (eqb v w) h).0), sent_most e.kind e.n, sends)

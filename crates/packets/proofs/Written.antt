-- What an entry becomes, as the code works it out: the fields of its setup packet, how long its packets are, and that its parts are stored one after the other.
-- Assumes nothing.
use Prim.Native.Nat.{ℕ, zero, suc, ◌+◌, ◌-◌, ◌*◌, ◌/◌, ◌%◌, ◌<◌, ◌≤◌}
use mathlib.Core.Path.{◌≡◌, refl, sym, ap, ap₂, ◌∙◌, subst}
use mathlib.Core.List.{List, [], ◌++◌}
use mathlib.Core.Bool.{Bool, true, false, cond, ◌&&◌}
use native.Mathlib.Omega.{arith}
use lib.Dec.{eqb}
use borrow.Author.Tests.{eq-eqb, ne_eqb}
use lib.ListN.{length, take, length-append, length-take}
use lib.Seq.{sets}
use Rattle.wire.specs.Bytes.{le_bytes, le_value, Bytes}
use Rattle.wire.proofs.Stores.{sets_append}
use Rattle.wire.proofs.Widths.{bytes_value}
use Rattle.transcript.specs.declared.Entry.{Entry}
use Rattle.transcript.specs.Table.{is_read}
use Rattle.packets.specs.Packets.{became, followed, w_index_of, is_demod, is_i2c, packets, packets_of, sent_by, setup, sync, type_of, w_value_of}

module _ (e : Entry) where
  pub value_demod : is_demod e.kind ≡ true → e.address * 256 + 32 ≡ w_value_of e
  unfolding w_value_of
  value_demod h = rw h

  pub value_i2c : is_demod e.kind ≡ false → is_i2c e.kind ≡ true → e.target ≡ w_value_of e
  unfolding w_value_of
  value_i2c h k = rw (h, k)

  pub value_block : is_demod e.kind ≡ false → is_i2c e.kind ≡ false → e.address ≡ w_value_of e
  unfolding w_value_of
  value_block h k = rw (h, k)

  pub index_demod : is_demod e.kind ≡ true → e.target + cond (is_read e.kind) 0 0x10 ≡ w_index_of e
  unfolding w_index_of
  index_demod h = rw h

  pub index_i2c : is_demod e.kind ≡ false → is_i2c e.kind ≡ true → 0x600 + cond (is_read e.kind) 0 0x10 ≡ w_index_of e
  unfolding w_index_of
  index_i2c h k = rw (h, k)

  pub index_block : is_demod e.kind ≡ false → is_i2c e.kind ≡ false → e.target * 256 + cond (is_read e.kind) 0 0x10 ≡ w_index_of e
  unfolding w_index_of
  index_block h k = rw (h, k)

  -- what is no repeater entry
  pub stays : (e.kind ≡ 1 → ⊥) → e ≡ became e
  unfolding became
  stays h = rw (ne_eqb e.kind 1 h)

-- the setup packet as a number

typed : (b : Bool) → cond b 0xc0 0x40 < 256
typed true = omega arith
typed false = omega arith

two : (v : ℕ) → v % 256 + 256 * (v / 256 % 256) ≡ v % 65536
two v =
    let q = v / 256 in
    let a : v ≡ 256 * (v / 256) + v % 256 = omega arith in
    let b : v / 256 ≡ 256 * (v / 256 / 256) + v / 256 % 256 = omega arith in
    omega arith

module _ (e : Entry) where
  setup_bytes : Bytes (setup e)
  unfolding setup le_bytes
  setup_bytes zero = typed (is_read e.kind)
  setup_bytes (suc zero) = omega arith
  setup_bytes (suc (suc zero)) = omega arith
  setup_bytes (suc (suc (suc zero))) = omega arith
  setup_bytes (suc (suc (suc (suc zero)))) = omega arith
  setup_bytes (suc (suc (suc (suc (suc zero))))) = omega arith
  setup_bytes (suc (suc (suc (suc (suc (suc zero)))))) = omega arith
  setup_bytes (suc (suc (suc (suc (suc (suc (suc zero))))))) = omega arith
  setup_bytes (suc (suc (suc (suc (suc (suc (suc (suc i)))))))) = omega arith

  pub setup_long : length (setup e) ≡ 8
  unfolding setup le_bytes
  setup_long = refl

  pub setup_value : le_value (setup e) ≡ type_of e.kind + w_value_of e % 65536 * 65536 + w_index_of e % 65536 * 4294967296 + e.n % 65536 * 281474976710656
  unfolding setup le_bytes le_value
  setup_value = omega (arith, two (w_value_of e), two (w_index_of e), two e.n)

  pub setup_back : le_bytes 8 (le_value (setup e)) ≡ setup e
  setup_back = rw setup_long at (bytes_value (setup e) setup_bytes)

  pub setup_made : (t v i n : ℕ) → t ≡ type_of e.kind → v ≡ w_value_of e → i ≡ w_index_of e → i < 65536 → n ≡ e.n → n < 256
      → t + v % 65536 * 65536 + i * 4294967296 + n * 281474976710656 ≡ le_value (setup e)
  setup_made t v i n a b c less d small =
      rw (setup_value, ← a, ← b, ← c, ← d) (omega arith)

-- how long packets are

least : (b : Bool) (n : ℕ) → cond b 0 n ≤ n
least true n = omega arith
least false n = omega arith

pub sent_most : (k n : ℕ) → sent_by k n ≤ n
sent_most k n = least (is_read k) n

behind_long : (b : Bool) → length (cond b sync []) ≡ cond b 8 0
behind_long true = refl
behind_long false = refl

behind_laid : (b : Bool) → le_bytes (cond b 8 0) 281517945258176 ≡ cond b sync []
unfolding le_bytes
behind_laid true = refl
behind_laid false = refl

module _ (e : Entry) (eight : length e.bytes ≡ 8) (few : e.n ≤ 8) where
  abbrev sent : ℕ
  sent = sent_by e.kind e.n

  abbrev behind : ℕ
  behind = cond (is_demod e.kind && eqb e.outcome 0) 8 0

  pub sent_long : length (take sent e.bytes) ≡ sent
  sent_long = length-take sent e.bytes ∙ omega (arith, sent_most e.kind e.n)

  pub packets_long : length (packets e) ≡ 8 + sent + behind
  unfolding packets
  packets_long =
      length-append (setup e) (take sent e.bytes ++ followed e)
      ∙ ap₂ ◌+◌ (setup_long e) (length-append (take sent e.bytes) (followed e) ∙ ap₂ ◌+◌ sent_long (behind_long (is_demod e.kind && eqb e.outcome 0)))
      ∙ omega arith

  pub transfer_laid : (out : List ℕ) (at : ℕ)
      → sets (sets (sets out at (le_bytes 8 (le_value (setup e)))) (at + 8) (take sent e.bytes)) (at + 8 + sent) (le_bytes behind 281517945258176)
      ≡ sets out at (packets e)
  unfolding packets
  transfer_laid out at =
      let all = take sent e.bytes in
      rw (
        setup_back e,
        behind_laid (is_demod e.kind && eqb e.outcome 0),
        sets_append out at (setup e) (all ++ followed e),
        setup_long e,
        sets_append (sets out at (setup e)) (at + 8) all (followed e),
        sent_long,
      )

  -- as the code stores them
  pub transfer_stored : (out first second third : List ℕ) (at k j v : ℕ) → k ≡ sent → j ≡ behind → v ≡ le_value (setup e)
      → first ≡ sets out at (le_bytes 8 v) → second ≡ sets first (at + 8) (take (k - 0) e.bytes) → third ≡ sets second (at + 8 + k) (le_bytes j 281517945258176)
      → third ≡ sets out at (packets e)
  transfer_stored out first second third at k j v s b w p q r =
      let all : k - 0 ≡ k = omega arith in
      rw (r, q, p, all, s, b, w) (transfer_laid out at)

-- a wait, and all others
pub waits : (e : Entry) → e.kind ≡ 9 → [] ≡ packets_of e
unfolding packets_of
waits e h = rw (eq-eqb e.kind 9 h)

pub moves : (e : Entry) → (e.kind ≡ 9 → ⊥) → packets (became e) ≡ packets_of e
unfolding packets_of
moves e h = rw (ne_eqb e.kind 9 h)

-- an entry's transfer, by its numbers
turned_eight : (b : Bool) (x y : Entry) → length x.bytes ≡ 8 → length y.bytes ≡ 8 → x.n ≤ 8 → y.n ≤ 8
    → (length (cond b x y).bytes ≡ 8) × ((cond b x y).n ≤ 8)
turned_eight true x y p q f g = (p, f)
turned_eight false x y p q f g = (q, g)

module _ (e : Entry) (eight : length e.bytes ≡ 8) (few : e.n ≤ 8) where
  turned : (length (became e).bytes ≡ 8) × ((became e).n ≤ 8)
  unfolding became
  turned = turned_eight (eqb e.kind 1) _ e refl eight (omega arith) few

  pub transfer_long : (t : Entry) → t ≡ became e → (e.kind ≡ 9 → ⊥)
      → (t.n ≤ 8) × (8 + sent_by t.kind t.n + cond (is_demod t.kind && eqb t.outcome 0) 8 0 ≡ length (packets_of e))
  transfer_long t h w =
      subst (λ (u : Entry). (u.n ≤ 8) × (8 + sent_by u.kind u.n + cond (is_demod u.kind && eqb u.outcome 0) 8 0 ≡ length (packets_of e))) (sym h)
      (turned.1, sym (packets_long (became e) turned.0 turned.1) ∙ ap length (moves e w))

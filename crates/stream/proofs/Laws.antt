-- What is known of an operation's argument, and what the copies of a chunk's bytes make. Assumes nothing.
use Prim.Native.Nat.{ℕ, zero, suc, ◌+◌, ◌-◌, ◌≤◌, ◌<◌, min}
use mathlib.Core.Path.{◌≡◌, refl, sym, ap, ap₂, ◌∙◌}
use mathlib.Core.Bool.{Bool, true, false, cond, ◌&&◌}
use mathlib.Core.List.{List, [], ◌∷◌, ◌++◌, append-nil}
use native.Mathlib.Numerals.{unary_clauses}
use native.Mathlib.Omega.{arith}
use borrow.Author.Tests.{eq-eqb, eqb-true, le-leb, leb-false, leb-true, lt-leb, ne_eqb}
use lib.Dec.{eqb, leb}
use lib.IntN.{ℤ}
use mir.Syntax.{w32}
use mir.Val.{Fits, of_z, to_z}
use mir.Facts.{of_z-to_z}
use lib.ListN.{length, take, drop, get_or, replicate, length-append, length-replicate, length-take, length-drop}
use lib.Seq.{sets, sets-eq, take_all, take_at, drop-append-add, length-take-le}
use Rattle.std.proofs.lemmas.Option.{none-some, same_Some}
use Rattle.wire.specs.Bytes.{le_value}
use Rattle.stream.specs.declared.Command.{Command}
use Rattle.std.specs.Prelude.{Option, Some, None}
use Rattle.stream.specs.declared.Gathered.{Gathered}
use Rattle.stream.specs.Commands.{argument_of, command_of, is_known, most_for, named, operation_of}
use Rattle.stream.specs.InCode.{gathered_of, pending_count, stream_after}
use Rattle.stream.specs.Pending.{gathered, is_stream, zero_padded, pending_of, used_by}

pub and_left : (a b : Bool) → (a && b) ≡ true → a ≡ true
and_left true b h = refl
and_left false b h = h

pub and_right : (a b : Bool) → (a && b) ≡ true → b ≡ true
and_right true b h = h
and_right false b h = absurd (let z : ◌≡◌ {A = ℕ} 0 1 = cc in omega arith)

module _ (operation argument : ℕ) (h : is_known operation argument ≡ true) where
  pub at_most : argument ≤ most_for operation
  at_most = leb-true _ _ (and_right (leb 1 operation && leb operation 7) _ h)

  pub at_least_one : 1 ≤ operation
  at_least_one = leb-true _ _ (and_left (leb 1 operation) (leb operation 7) (and_left _ (leb argument (most_for operation)) h))

  pub at_most_seven : operation ≤ 7
  at_most_seven = leb-true _ _ (and_right (leb 1 operation) (leb operation 7) (and_left _ (leb argument (most_for operation)) h))

  pub index_fits : operation ≡ 4 → argument ≤ 255
  index_fits e = rw e at at_most

  pub low_fits : (operation ≡ 1 → ⊥) → argument ≤ 4294967295
  low_fits n = go (eqb operation 4) refl (eqb operation 7) refl
    where
      go : (s : Bool) → eqb operation 4 ≡ s → (t : Bool) → eqb operation 7 ≡ t → argument ≤ 4294967295
      go true e t f = let m : argument ≤ 255 = index_fits (eqb-true _ _ e) in omega arith
      go false e true f = let m : argument ≤ 0 = rw (ne_eqb operation 1 n, e, f) at at_most in omega arith
      go false e false f = rw (ne_eqb operation 1 n, e, f) at at_most

-- ---- nine bytes

module _ (nine : List ℕ) (n : ℕ) (e : n ≡ argument_of nine) where
  pub unknown : is_known (operation_of nine) n ≡ false → None ≡ command_of nine
  unfolding command_of
  unknown h = rw (← e, h)

  pub known : (c : Command) → is_known (operation_of nine) n ≡ true → c ≡ named (operation_of nine) n → Some c ≡ command_of nine
  unfolding command_of
  known c h q = ap Some q ∙ rw (← e, h)

-- ---- the stream's bytes

module _ (b : List ℕ) where
  abbrev rest : ℕ
  rest = le_value (drop (1 + get_or b 0 0) b)

  pub other_length : (length b ≡ 9 → ⊥) → None ≡ pending_count b
  unfolding pending_count is_stream
  other_length h = rw (ne_eqb (length b) 9 h)

  pub too_many : length b ≡ 9 → 8 < get_or b 0 0 → None ≡ pending_count b
  unfolding pending_count is_stream
  too_many e h = rw (eq-eqb (length b) 9 e, lt-leb (get_or b 0 0) 8 h)

  -- what was read after the pending bytes is all that there is
  pub whole_rest : (n : ℕ) → length b ≡ 9 → n ≡ le_value (take (8 - get_or b 0 0) (drop (1 + get_or b 0 0) b)) → n ≡ rest
  whole_rest n e r = r ∙ ap le_value (take_all (8 - get_or b 0 0) (drop (1 + get_or b 0 0) b) (simp length-drop (omega arith)))

  pub not_zeros : (n : ℕ) → length b ≡ 9 → get_or b 0 0 ≤ 8 → n ≡ rest → (n ≡ 0 → ⊥) → None ≡ pending_count b
  unfolding pending_count is_stream
  not_zeros n e h r z = rw (eq-eqb (length b) 9 e, le-leb (get_or b 0 0) 8 h, ne_eqb rest 0 (λ q. z (r ∙ q)))

  pub zeros : (n : ℕ) → length b ≡ 9 → get_or b 0 0 ≤ 8 → n ≡ rest → n ≡ 0 → Some (get_or b 0 0) ≡ pending_count b
  unfolding pending_count is_stream
  zeros n e h r z = rw (eq-eqb (length b) 9 e, le-leb (get_or b 0 0) 8 h, eq-eqb rest 0 (sym r ∙ z))

  -- what is known of a stream's bytes
  pub stream_length : is_stream b ≡ true → length b ≡ 9
  unfolding is_stream
  stream_length h = eqb-true _ _ (and_left (eqb (length b) 9) _ h)

  pub stream_held : is_stream b ≡ true → get_or b 0 0 ≤ 8
  unfolding is_stream
  stream_held h = leb-true _ _ (and_left (leb (get_or b 0 0) 8) _ (and_right (eqb (length b) 9) _ h))

  pub stream_rest : is_stream b ≡ true → rest ≡ 0
  unfolding is_stream
  stream_rest h = eqb-true _ _ (and_right (leb (get_or b 0 0) 8) _ (and_right (eqb (length b) 9) _ h))

  -- it is one where there is a count, which is at most eight
  pub is_one : (h : ℕ) → Some h ≡ pending_count b → (is_stream b ≡ true) × (h ≡ get_or b 0 0)
  unfolding pending_count
  is_one h e = go (is_stream b) refl
    where
      go : (t : Bool) → is_stream b ≡ t → (is_stream b ≡ true) × (h ≡ get_or b 0 0)
      go true q = (q, same_Some _ _ (e ∙ rw q))
      go false q = absurd (none-some h (sym (e ∙ rw q)))

  pub no_stream : None ≡ pending_count b → is_stream b ≡ false
  unfolding pending_count
  no_stream e = go (is_stream b) refl
    where
      go : (t : Bool) → is_stream b ≡ t → is_stream b ≡ false
      go true q = absurd (none-some (get_or b 0 0) (e ∙ rw q))
      go false q = q

-- ---- a chunk's bytes behind the pending ones

pub drop_zeros : (k n : ℕ) → drop {A = ℕ} k (replicate n 0) ≡ replicate (n - k) 0
drop_zeros zero n = simp unary_clauses
drop_zeros (suc k) zero = let e : 0 - suc k ≡ 0 = omega arith in rw e
drop_zeros (suc k) (suc n) = simp unary_clauses (drop_zeros k n)

zero_add : (n : ℕ) → 0 + n ≡ n
zero_add n = omega arith

-- the first copy, then the second: the bytes one behind the other, and zeros
pub copied : (p q : List ℕ) → length p + length q ≤ 9 → sets (sets (replicate 9 0) 0 p) (length p) q ≡ zero_padded 9 (p ++ q)
copied p q h =
    let first : sets (replicate 9 0) 0 p ≡ p ++ replicate (9 - length p) 0 =
    sets-eq p (replicate 9 0) 0 (omega arith) ∙ ap (λ (k : ℕ). p ++ drop k (replicate 9 0)) (zero_add (length p)) ∙ ap (λ (z : List ℕ). p ++ z) (drop_zeros (length p) 9) in
    let room : length p + length q ≤ length (p ++ replicate (9 - length p) 0) = simp (length-append, length-replicate) (omega arith) in
    let less : 9 - length p - length q ≡ 9 - length (p ++ q) = simp length-append (omega arith) in
    ap (λ (z : List ℕ). sets z (length p) q) first
    ∙ sets-eq q (p ++ replicate (9 - length p) 0) (length p) room
    ∙ ap₂ (λ (x y : List ℕ). (x ++ q) ++ y) (take_at p (replicate (9 - length p) 0) (length p) refl)
    (drop-append-add p (replicate (9 - length p) 0) (length q) ∙ drop_zeros (length q) (9 - length p) ∙ ap (λ (n : ℕ). replicate n 0) less)

module _ (b chunk : List ℕ) where
  pub none_gathered : None ≡ pending_count b → None ≡ gathered_of b chunk
  unfolding gathered_of
  none_gathered e = rw (no_stream b e)

  module _ (h : ℕ) (e : Some h ≡ pending_count b) where
    pub at_most_eight : h ≤ 8
    at_most_eight = omega (arith, stream_held b (is_one b h e).0, (is_one b h e).1)

    pub nine_bytes : length b ≡ 9
    nine_bytes = stream_length b (is_one b h e).0

    pub pending_length : length (pending_of b) ≡ h
    pending_length = simp (length-take, length-drop) (omega (arith, at_most_eight, nine_bytes, (is_one b h e).1))

    module _ (u : ℕ) (f : u ≡ min (length chunk) (9 - h)) where
      pub used_bounds : (u ≤ length chunk) × (h + u ≤ 9)
      used_bounds = (omega (arith, f), omega (arith, f, at_most_eight))

      pub used_is : u ≡ used_by (pending_of b) chunk
      used_is = go (leb (9 - h) (length chunk)) refl ∙ rw (← pending_length)
        where
          go : (t : Bool) → leb (9 - h) (length chunk) ≡ t → u ≡ cond (leb (9 - h) (length chunk)) (9 - h) (length chunk)
          go true q = rw q (omega (arith, f, leb-true (9 - h) (length chunk) q))
          go false q = rw q (omega (arith, f, leb-false (9 - h) (length chunk) q))

      pub part_length : length (take u chunk) ≡ u
      part_length = length-take-le u chunk used_bounds.0

      pub all_gathered : (x y : List ℕ) → x ≡ sets (replicate 9 0) 0 (take (1 + h - 1) (drop 1 b)) → y ≡ sets x h (take (u - 0) chunk)
          → Some (record { used = u; count = h + u; bytes = y }) ≡ gathered_of b chunk
      unfolding gathered_of
      all_gathered x y ex ey =
          let held : 1 + h - 1 ≡ get_or b 0 0 = omega (arith, (is_one b h e).1) in
          let whole : u - 0 ≡ u = omega arith in
          let p : take (1 + h - 1) (drop 1 b) ≡ pending_of b = ap (λ (k : ℕ). take k (drop 1 b)) held in
          let small : length (pending_of b) + length (take u chunk) ≤ 9 = omega (arith, pending_length, part_length, used_bounds.1) in
          let bytes : y ≡ zero_padded 9 (gathered (pending_of b) chunk) =
          ey
          ∙ ap (λ (k : ℕ). sets x h (take k chunk)) whole
          ∙ ap (λ (z : List ℕ). sets z h (take u chunk)) (ex ∙ ap (sets (replicate 9 0) 0) p)
          ∙ ap (λ (k : ℕ). sets (sets (replicate 9 0) 0 (pending_of b)) k (take u chunk)) (sym pending_length)
          ∙ copied (pending_of b) (take u chunk) small
          ∙ ap (λ (k : ℕ). zero_padded 9 (pending_of b ++ take k chunk)) used_is in
          let count : h + u ≡ length (gathered (pending_of b) chunk) =
          omega (arith, pending_length, part_length) ∙ sym (length-append (pending_of b) (take u chunk)) ∙ ap (λ (k : ℕ). length (pending_of b ++ take k chunk)) used_is in
          rw (is_one b h e).0 (ap Some (gathered_same used_is count bytes))
        where
          gathered_same : {u' k k' : ℕ} {z z' : List ℕ} → u ≡ u' → k ≡ k' → z ≡ z'
              → ◌≡◌ {A = Gathered} (record { used = u; count = k; bytes = z }) (record { used = u'; count = k'; bytes = z' })
          gathered_same a b c = cc

-- a number that an enum holds by its bits
pub signed_back : (n : ℕ) (z : ℤ) → Fits w32 n → z ≡ to_z w32 n → to_z w32 (of_z w32 z) ≡ to_z w32 n
signed_back n z f e = ap (λ (y : ℤ). to_z w32 (of_z w32 y)) e ∙ ap (to_z w32) (of_z-to_z f)

-- ---- what is kept

module _ (got : Gathered) where
  pub nothing_kept : 9 ≤ got.count → replicate 9 0 ≡ stream_after got
  unfolding stream_after
  nothing_kept h = rw (le-leb 9 got.count h)

  pub some_kept : got.count < 9 → length got.bytes ≡ 9 → (x : List ℕ) → x ≡ sets (got.count ∷ replicate 8 0) 1 (take (8 - 0) (drop 0 got.bytes)) → x ≡ stream_after got
  unfolding stream_after
  some_kept h n x e =
      let eight : length (take 8 got.bytes) ≡ 8 = length-take-le 8 got.bytes (omega arith) in
      let all : drop {A = ℕ} (1 + length (take 8 got.bytes)) (got.count ∷ replicate 8 0) ≡ [] = rw eight in
      e
      ∙ sets-eq (take 8 got.bytes) (got.count ∷ replicate 8 0) 1 (omega arith)
      ∙ ap (λ (z : List ℕ). (got.count ∷ take 8 got.bytes) ++ z) all
      ∙ append-nil (got.count ∷ take 8 got.bytes)
      ∙ rw (lt-leb 9 got.count h)

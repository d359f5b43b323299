-- The reader's tests, and what they say of a slice: one law for each way in which the reader stops, one for a section that it reads.
-- Assumes nothing.
use Prim.Native.Nat.{ℕ, suc, ◌+◌, ◌-◌, ◌*◌, ◌<◌, ◌≤◌}
use mathlib.Core.Path.{◌≡◌, refl, sym, ap, ap₂, ◌∙◌}
use mathlib.Core.List.{List, []}
use mathlib.Core.Bool.{Bool, true, false, cond, ◌&&◌, and-false}
use native.Mathlib.Omega.{arith}
use lib.Dec.{eqb, leb}
use borrow.Author.Tests.{eq-eqb, ne_eqb, eqb-true, lt-leb, le-leb, leb-true}
use lib.ListN.{length, take, drop}
use lib.Seq.{drop-drop}
use Rattle.std.specs.Prelude.{Some, None}
use Rattle.std.proofs.lemmas.Option.{cond_some}
use Rattle.transcript.specs.declared.Section.{Section}
use Rattle.transcript.specs.Entries.{fits}
use Rattle.transcript.specs.Sections.{all_fit, count_of, distance_of, start_of, is_section, section_at, section_of, entries_of, before_of}

-- a loop over entries that have to fit: it goes on, it stops, it ends
module _ (s : List ℕ) (at i k : ℕ) where
  fit_turn : i < k
      → all_fit (k - i) (drop (at + 16 * i) s) ≡ fits (take 16 (drop (at + 16 * i) s)) && all_fit (k - (i + 1)) (drop (at + 16 * (i + 1)) s)
  unfolding all_fit
  fit_turn h =
      let left : k - i ≡ suc (k - (i + 1)) = omega arith in
      let next : at + 16 * (i + 1) ≡ at + 16 * i + 16 = omega arith in
      rw (left, next, drop-drop)

  pub fit_on : (t : Bool) → i < k → t ≡ fits (take 16 (drop (at + 16 * i) s)) → t ≡ true
      → all_fit (k - (i + 1)) (drop (at + 16 * (i + 1)) s) ≡ all_fit (k - i) (drop (at + 16 * i) s)
  fit_on t h e fine = rw (fit_turn h, ← e, fine)

  pub fit_stop : (t : Bool) → i < k → t ≡ fits (take 16 (drop (at + 16 * i) s)) → t ≡ false → false ≡ all_fit (k - i) (drop (at + 16 * i) s)
  fit_stop t h e never = rw (fit_turn h, ← e, never)

  pub fit_end : k ≤ i → true ≡ all_fit (k - i) (drop (at + 16 * i) s)
  unfolding all_fit
  fit_end h =
      let none : k - i ≡ 0 = omega arith in
      rw none

pub both : (a b : Bool) → a && b ≡ true → (a ≡ true) × (b ≡ true)
both true b h = (refl, h)
both false b h = absurd cc

-- what the tests say of a slice that ends in a section
pub record Sound (s : List ℕ) : Type 0 where
  pub long : 8 ≤ length s
  pub most : count_of s ≤ 4096
  pub near : distance_of s ≡ 16 * count_of s
  pub room : 16 * count_of s ≤ length s - 8
  pub fit : all_fit (count_of s) (drop (start_of s) s) ≡ true

pub sound : (s : List ℕ) → is_section s ≡ true → Sound s
unfolding is_section
sound s h =
    let a = leb 8 (length s) in
    let b = leb (count_of s) 4096 in
    let d = eqb (distance_of s) (16 * count_of s) in
    let e = leb (16 * count_of s) (length s - 8) in
    let f = all_fit (count_of s) (drop (start_of s) s) in
    let p = both (a && b && d && e) f h in
    let q = both (a && b && d) e p.0 in
    let r = both (a && b) d q.0 in
    let t = both a b r.0 in
    record {
      long = leb-true 8 (length s) t.0;
      most = leb-true (count_of s) 4096 t.1;
      near = eqb-true (distance_of s) (16 * count_of s) r.1;
      room = leb-true (16 * count_of s) (length s - 8) q.1;
      fit = p.1;
    }

pub is_section_lem : (s : List ℕ) → Sound s → is_section s ≡ true
unfolding is_section
is_section_lem s h =
    rw (le-leb 8 (length s) h.long, le-leb (count_of s) 4096 h.most, eq-eqb (distance_of s) (16 * count_of s) h.near, le-leb (16 * count_of s) (length s - 8) h.room, h.fit)

refused : (s : List ℕ) → is_section s ≡ false → None ≡ section_of s
unfolding section_of
refused s h = rw h

pub too_short : (s : List ℕ) → length s < 8 → None ≡ section_of s
unfolding is_section
too_short s h = refused s (rw (lt-leb 8 (length s) h))

-- the code's numbers are the trailer's
module _ (s : List ℕ) (count distance : ℕ) (long : 8 ≤ length s) (c : count ≡ count_of s) (d : distance ≡ distance_of s) where
  pub too_many : 4096 < count → None ≡ section_of s
  unfolding is_section
  too_many h = refused s (rw (le-leb 8 (length s) long, lt-leb (count_of s) 4096 (omega arith)))

  pub too_far : count ≤ 4096 → (distance ≡ 16 * count → ⊥) → None ≡ section_of s
  unfolding is_section
  too_far h other =
      refused s
      (rw (le-leb 8 (length s) long, le-leb (count_of s) 4096 (omega arith), ne_eqb (distance_of s) (16 * count_of s) (λ same. other (omega arith))))

  pub no_room : count ≤ 4096 → distance ≡ 16 * count → length s - 8 < distance → None ≡ section_of s
  unfolding is_section
  no_room h near over =
      refused s
      (rw (le-leb 8 (length s) long, le-leb (count_of s) 4096 (omega arith), eq-eqb (distance_of s) (16 * count_of s) (omega arith), lt-leb (16 * count_of s) (length s - 8) (omega arith)))

  module _ (all : Bool) (e : all ≡ all_fit count (drop (length s - 8 - distance) s)) (near : distance ≡ 16 * count) where
    there : length s - 8 - distance ≡ start_of s
    there = omega arith

    same : all ≡ all_fit (count_of s) (drop (start_of s) s)
    same = e ∙ ap₂ (λ k i. all_fit k (drop i s)) c there

    pub unfit : all ≡ false → None ≡ section_of s
    unfolding is_section
    unfit never = refused s (rw (← same, never, and-false))

    pub settled : count ≤ 4096 → distance ≤ length s - 8 → all ≡ true → Some (section_at (length s - 8 - distance) count) ≡ section_of s
    unfolding section_of
    settled h room fine =
        let good : is_section s ≡ true = is_section_lem s (record { long = long; most = omega arith; near = omega arith; room = omega arith; fit = sym same ∙ fine }) in
        rw (good, there, c)

-- a section that the reader found lies in the slice
pub found : (s : List ℕ) (a k : ℕ) → Some (section_at a k) ≡ section_of s → (is_section s ≡ true) × ((a ≡ start_of s) × (k ≡ count_of s))
unfolding section_of
found s a k h =
    let p = cond_some (is_section s) (section_at (start_of s) (count_of s)) (section_at a k) (sym h) in
    (p.0, (ap (λ (t : Section). t.start) (sym p.1), ap (λ (t : Section). t.count) (sym p.1)))

-- where it starts and ends
pub lies : (s : List ℕ) (a k : ℕ) → Some (section_at a k) ≡ section_of s → (k ≤ 4096) × (a + 16 * k ≤ length s)
lies s a k h =
    let f = found s a k h in
    let g = sound s f.0 in
    (omega (arith, f.1.1, g.most), omega (arith, f.1.0, f.1.1, g.long, g.room))

-- std's cond_some of the other case
pub cond_none : {A : Type 0} (b : Bool) (x : A) → None ≡ cond b (Some x) None → b ≡ false
cond_none true x h = absurd cc
cond_none false x h = refl

pub unread : (s : List ℕ) → None ≡ section_of s → is_section s ≡ false
unfolding section_of
unread s h = cond_none (is_section s) (section_at (start_of s) (count_of s)) h

pub no_entries : (s : List ℕ) → None ≡ section_of s → [] ≡ entries_of s
unfolding entries_of
no_entries s h = rw (unread s h)

pub none_before : (s : List ℕ) → None ≡ section_of s → [] ≡ before_of s
unfolding before_of
none_before s h = rw (unread s h)

pub entries_part : (s : List ℕ) (a k : ℕ) → Some (section_at a k) ≡ section_of s → take (a + 16 * k - a) (drop a s) ≡ entries_of s
unfolding entries_of
entries_part s a k h =
    let f = found s a k h in
    let wide : a + 16 * k - a ≡ 16 * k = omega arith in
    rw (f.0, wide, f.1.0, f.1.1)

pub before_part : (s : List ℕ) (a k : ℕ) → Some (section_at a k) ≡ section_of s → take (a - 0) s ≡ before_of s
unfolding before_of
before_part s a k h =
    let f = found s a k h in
    let all : a - 0 ≡ a = omega arith in
    rw (f.0, all, f.1.0)

-- What the answer means: before the place all steps are the same, there they part, no other place is such, and the part is the entries from there, of
-- the section that goes on. Assumes nothing.
use Prim.Native.Nat.{ℕ, zero, suc, ◌+◌, ◌-◌, ◌*◌, ◌<◌, ◌≤◌}
use mathlib.Core.Path.{◌≡◌, refl, sym, ap, ap₂, subst, ◌∙◌}
use mathlib.Core.List.{List, [], ◌∷◌, ◌++◌, append_assoc}
use mathlib.Core.Bool.{Bool, true, false, cond, ◌&&◌}
use native.Mathlib.Omega.{arith}
use lib.Dec.{eqb, leb, ltb}
use lib.ListN.{length, take, drop, length-append, length-drop, drop_of_length-le, take-append-drop}
use lib.Seq.{drop_at, drop-drop, length-take-le, take_at}
use borrow.Author.Tests.{eq-eqb, eqb-true, le-leb, leb-false, leb-true, ltb-false, ltb-true}
use Rattle.transcript.specs.declared.Entry.{Entry}
use Rattle.transcript.specs.Entries.{Eights, bare}
use Rattle.transcript.specs.Sections.{Parted, entries_bytes, section_bytes, trailer_bytes}
use Rattle.transcript.proofs.Exact.{fit_eights}
use Rattle.transcript.proofs.Laid.{entries_bytes-append, length-entries_bytes, length-section_bytes}
use Rattle.transcript.proofs.Reading.{both}
use Rattle.parting.specs.Parting.{Handed, PartAt, agree, alike, cut_of, equal_bytes, equal_entries, parting_of, placed, rest_of, whose_of}
use Rattle.parting.proofs.Laws.{bytes_equal, bytes_same, within}

-- ---- the test says that two entries are equal

pub entries_equal : (e f : Entry) → equal_entries e f ≡ true → e ≡ f
unfolding equal_entries
entries_equal e f h =
    let k = eqb e.kind f.kind in
    let o = eqb e.outcome f.outcome in
    let t = eqb e.target f.target in
    let n = eqb e.n f.n in
    let a = eqb e.address f.address in
    let p = both (k && o && t && n && a) (equal_bytes e.bytes f.bytes) h in
    let q = both (k && o && t && n) a p.0 in
    let r = both (k && o && t) n q.0 in
    let s = both (k && o) t r.0 in
    let u = both k o s.0 in
    let bytes = bytes_equal e.bytes f.bytes p.1 in
    let address = eqb-true e.address f.address q.1 in
    let number = eqb-true e.n f.n r.1 in
    let target = eqb-true e.target f.target s.1 in
    let outcome = eqb-true e.outcome f.outcome u.1 in
    let kind = eqb-true e.kind f.kind u.0 in
    λ i. record { kind = kind i; outcome = outcome i; target = target i; n = number i; address = address i; bytes = bytes i }

pub entries_same : (e f : Entry) → e ≡ f → equal_entries e f ≡ true
unfolding equal_entries
entries_same e f h =
    subst (λ (g : Entry). equal_entries e g ≡ true) h
    (rw (
      eq-eqb e.kind e.kind refl,
      eq-eqb e.outcome e.outcome refl,
      eq-eqb e.target e.target refl,
      eq-eqb e.n e.n refl,
      eq-eqb e.address e.address refl,
      bytes_same e.bytes,
    ))

-- ---- they part where `agree` says, and nowhere else

-- one step more that both begin with
on : (e f : Entry) (es fs : List Entry) (k : ℕ) → bare e ≡ bare f → PartAt es fs k → PartAt (e ∷ es) (f ∷ fs) (suc k)
on e f es fs k h p =
    record {
      within = (omega (arith, p.within.0), omega (arith, p.within.1));
      same = ap₂ ◌∷◌ h p.same;
      differ = p.differ;
    }

off : (e f : Entry) (es fs : List Entry) (k : ℕ) → PartAt (e ∷ es) (f ∷ fs) (suc k) → PartAt es fs k
off e f es fs k p =
    record { within = (omega (arith, p.within.0), omega (arith, p.within.1)); same = cc p.same; differ = p.differ }

by : (e f : Entry) (es fs : List Entry) (k : ℕ) (t : Bool) → alike e f ≡ t → PartAt es fs k → PartAt (e ∷ es) (f ∷ fs) (cond t (suc k) 0)
by e f es fs k true h p = on e f es fs k (entries_equal (bare e) (bare f) h) p
by e f es fs k false h p =
    record {
      within = (omega arith, omega arith);
      same = refl;
      differ = λ same.
          let z : ◌≡◌ {A = Bool} true false = sym (entries_same (bare e) (bare f) same) ∙ h in
          let y : ◌≡◌ {A = ℕ} 0 1 = cc in
          omega arith;
    }

pub they_part : (es fs : List Entry) → PartAt es fs (agree es fs)
unfolding agree
they_part [] fs = record { within = (omega arith, omega arith); same = refl; differ = tt }
they_part (e ∷ es) [] = record { within = (omega arith, omega arith); same = refl; differ = tt }
they_part (e ∷ es) (f ∷ fs) = by e f es fs (agree es fs) (alike e f) refl (they_part es fs)

pub one_place : (es fs : List Entry) (j k : ℕ) → PartAt es fs j → PartAt es fs k → j ≡ k
one_place es fs zero zero p q = refl
one_place [] fs zero (suc k) p q = absurd (omega (arith, q.within.0))
one_place (e ∷ es) [] zero (suc k) p q = absurd (omega (arith, q.within.1))
one_place (e ∷ es) (f ∷ fs) zero (suc k) p q = absurd (p.differ cc)
one_place [] fs (suc j) k p q = absurd (omega (arith, p.within.0))
one_place (e ∷ es) [] (suc j) k p q = absurd (omega (arith, p.within.1))
one_place (e ∷ es) (f ∷ fs) (suc j) zero p q = absurd (q.differ cc)
one_place (e ∷ es) (f ∷ fs) (suc j) (suc k) p q = ap suc (one_place es fs j k (off e f es fs j p) (off e f es fs k q))

-- ---- whose part it is

first_alone : (es : List Entry) → 0 < length es → 1 ≡ whose_of es []
first_alone [] h = absurd (omega (arith, h))
first_alone (e ∷ es) h = refl

second_too : (es fs : List Entry) → 0 < length fs → 2 ≡ whose_of es fs
second_too es [] h = absurd (omega (arith, h))
second_too [] (f ∷ fs) h = refl
second_too (e ∷ es) (f ∷ fs) h = refl

module _ (es fs : List Entry) (k : ℕ) where
  whose_first : (leb (length fs) k && ltb k (length es)) ≡ true → 1 ≡ whose_of (drop k es) (drop k fs)
  whose_first h =
      let t = both (leb (length fs) k) (ltb k (length es)) h in
      let less : k < length es = ltb-true k (length es) t.1 in
      rw (drop_of_length-le fs (leb-true (length fs) k t.0)) (first_alone (drop k es) (omega (arith, length-drop k es)))

  whose_second : (leb (length fs) k && ltb k (length es)) ≡ false → 2 ≡ whose_of (drop k es) (drop k fs)
  whose_second h = by_end (leb (length fs) k) refl h
    where
      by_end : (t : Bool) → leb (length fs) k ≡ t → (t && ltb k (length es)) ≡ false → 2 ≡ whose_of (drop k es) (drop k fs)
      by_end true e i = rw (drop_of_length-le es (ltb-false k (length es) i))
      by_end false e i =
          let more : k < length fs = leb-false (length fs) k e in
          second_too (drop k es) (drop k fs) (omega (arith, length-drop k fs))

-- ---- the part's bytes are those of the entries from k on

eights_take : (k : ℕ) (es : List Entry) → Eights es → Eights (take k es)
eights_take zero es h = tt
eights_take (suc k) [] h = tt
eights_take (suc k) (e ∷ es) h = (h.0, eights_take k es h.1)

eights_drop : (k : ℕ) (es : List Entry) → Eights es → Eights (drop k es)
eights_drop zero es h = h
eights_drop (suc k) [] h = tt
eights_drop (suc k) (e ∷ es) h = eights_drop k es h.1

module _ (q : List ℕ) (es : List Entry) (k : ℕ) (eights : Eights es) (most : k ≤ length es) where
  trailer : List ℕ
  trailer = trailer_bytes (length es)

  head : length (entries_bytes (take k es)) ≡ 16 * k
  head = length-entries_bytes (take k es) (eights_take k es eights) ∙ ap (λ (n : ℕ). 16 * n) (length-take-le k es most)

  tail : length (entries_bytes (drop k es)) ≡ 16 * (length es - k)
  tail = length-entries_bytes (drop k es) (eights_drop k es eights) ∙ ap (λ (n : ℕ). 16 * n) (length-drop k es)

  split : section_bytes es ≡ entries_bytes (take k es) ++ (entries_bytes (drop k es) ++ trailer)
  unfolding section_bytes trailer
  split =
      ap (λ (l : List Entry). entries_bytes l ++ trailer) (sym (take-append-drop k es))
      ∙ ap (λ (l : List ℕ). l ++ trailer) (entries_bytes-append (take k es) (drop k es))
      ∙ append_assoc (entries_bytes (take k es)) (entries_bytes (drop k es)) trailer

  from_there : drop (length q + 16 * k) (q ++ section_bytes es) ≡ entries_bytes (drop k es) ++ trailer
  from_there =
      sym (drop-drop (16 * k) (length q) (q ++ section_bytes es))
      ∙ ap (drop (16 * k)) (drop_at q (section_bytes es) (length q) refl ∙ split)
      ∙ drop_at (entries_bytes (take k es)) (entries_bytes (drop k es) ++ trailer) (16 * k) head

  pub cut_there : cut_of (length q + 16 * k) (length es - k) (q ++ section_bytes es) ≡ entries_bytes (drop k es)
  unfolding cut_of
  cut_there =
      let long : length (q ++ section_bytes es) ≡ length q + (16 * length es + 8) =
      length-append q (section_bytes es) ∙ ap (λ (n : ℕ). length q + n) (length-section_bytes es eights) in
      let here : leb (length q + 16 * k) (length (q ++ section_bytes es)) ≡ true = le-leb (length q + 16 * k) (length (q ++ section_bytes es)) (omega arith) in
      let room : leb (16 * (length es - k)) (length (q ++ section_bytes es) - (length q + 16 * k)) ≡ true =
      le-leb (16 * (length es - k)) (length (q ++ section_bytes es) - (length q + 16 * k)) (omega arith) in
      rw (here, room, from_there) (take_at (entries_bytes (drop k es)) trailer (16 * (length es - k)) tail)

-- ---- all of it, of any two sections and whatever stands before them

module _ (x y p q : List ℕ) (es fs : List Entry) (one : Parted x p es) (two : Parted y q fs) where
  there : parting_of x y ≡ placed (length p) (length es) (length q) (length fs) (agree es fs)
  unfolding parting_of
  there = rw (one.accepted, two.accepted, one.entries, two.entries)

  settled : (t : Bool) → (leb (length fs) (agree es fs) && ltb (agree es fs) (length es)) ≡ t
      → Handed es fs (placed (length p) (length es) (length q) (length fs) (agree es fs)) (rest_of x y (placed (length p) (length es) (length q) (length fs) (agree es fs)))
  unfolding placed
  settled true h =
      rw h
      (record {
        refusal = refl;
        parts = they_part es fs;
        whose = whose_first es fs (agree es fs) h;
        count = sym (length-drop (agree es fs) es);
        part = ap (cut_of (length p + 16 * agree es fs) (length es - agree es fs)) one.whole ∙ cut_there p es (agree es fs) (fit_eights es one.fit) (within es fs).0;
      })
  settled false h =
      rw h
      (record {
        refusal = refl;
        parts = they_part es fs;
        whose = whose_second es fs (agree es fs) h;
        count = sym (length-drop (agree es fs) fs);
        part = ap (cut_of (length q + 16 * agree es fs) (length fs - agree es fs)) two.whole ∙ cut_there q fs (agree es fs) (fit_eights fs two.fit) (within es fs).1;
      })

  pub handed : Handed es fs (parting_of x y) (rest_of x y (parting_of x y))
  handed = rw there (settled (leb (length fs) (agree es fs) && ltb (agree es fs) (length es)) refl)

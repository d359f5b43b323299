-- A loop over packets: what one turn does to the bytes that are left, the entries heard and their section.
-- Assumes nothing.
use Prim.Native.Nat.{ℕ, zero, suc, ◌+◌, ◌-◌, ◌*◌, ◌<◌, ◌≤◌}
use mathlib.Core.Path.{◌≡◌, refl, sym, ap, ap₂, ◌∙◌}
use mathlib.Core.List.{List, [], ◌∷◌, map}
use mathlib.Core.Bool.{Bool, true, false, cond, ◌&&◌, true≢false}
use native.Mathlib.Omega.{arith}
use lib.Dec.{eqb, leb}
use borrow.Author.Tests.{eq-eqb, ne_eqb, leb-true, leb-false}
use lib.ListN.{length, take, drop, length-drop}
use lib.Seq.{sets, length-sets, drop-drop}
use Rattle.wire.proofs.Stores.{sets_append}
use Rattle.transcript.specs.declared.Entry.{Entry}
use Rattle.transcript.specs.Entries.{bare, entry_bytes, Eights, zeros8}
use Rattle.transcript.specs.Sections.{entries_bytes, section_bytes, trailer_bytes}
use Rattle.transcript.specs.Table.{is_read}
use Rattle.transcript.proofs.Laid.{length-entry_bytes, length-section_bytes, section_laid}
use Rattle.transcript.proofs.Reading.{both, cond_none}
use Rattle.std.specs.Prelude.{Some, None}
use Rattle.std.proofs.lemmas.Option.{cond_some}
use Rattle.packets.specs.declared.Heard.{Heard}
use Rattle.packets.specs.Packets.{packets, sent_by}
use Rattle.packets.specs.Heard.{entry_in, heard_in, heard_of, named, packets_stand, word}
use Rattle.packets.proofs.Begins.{size_within}
use Rattle.expansion.specs.Expansion.{all_heard, count_of, heard_entries}

map_long : (es : List Entry) → length (map bare es) ≡ length es
map_long [] = refl
map_long (e ∷ es) = ap suc (map_long es)

-- what was heard at some bytes, or nothing
module _ (l : List ℕ) where
  pub unheard : None ≡ heard_in l → packets_stand l ≡ false
  unfolding heard_in
  unheard is = cond_none (packets_stand l) (heard_of (entry_in l)) is

  pub heard : (h : Heard) → Some h ≡ heard_in l → (packets_stand l ≡ true) × (h ≡ heard_of (entry_in l))
  unfolding heard_in
  heard h is = let p = cond_some (packets_stand l) (heard_of (entry_in l)) h (sym is) in (p.0, sym p.1)

eight_by : (r : Bool) (l : List ℕ) → length (cond r zeros8 (sets zeros8 0 l)) ≡ 8
eight_by true l = refl
eight_by false l = length-sets zeros8 0 l

one_eight : (l : List ℕ) → length (bare (entry_in l)).bytes ≡ 8
unfolding entry_in
one_eight l = eight_by (is_read (named (word l)).kind) (take (sent_by (named (word l)).kind (named (word l)).n) (drop 8 l))

-- the bytes that are left, from a place on
module _ (b : List ℕ) (at i : ℕ) where
  abbrev l : List ℕ
  l = drop at b

  long : at < length b → eqb (length l) 0 ≡ false
  long h = ne_eqb (length l) 0 (λ z. omega (arith, length-drop at b, z))

  -- no bytes are left
  pub heard_end : (f : ℕ) → length b ≤ at → (all_heard f l ≡ true) × (heard_entries f l ≡ [])
  unfolding all_heard heard_entries
  heard_end zero h = (eq-eqb (length l) 0 (omega (arith, length-drop at b)), refl)
  heard_end (suc f) h = rw (eq-eqb (length l) 0 (omega (arith, length-drop at b))) (refl, refl)

  -- some are, and no entry more is allowed
  pub too_many : at < length b → 4096 ≤ i → all_heard (4096 - i) l ≡ false
  unfolding all_heard
  too_many h m =
      let none : 4096 - i ≡ 0 = omega arith in
      rw (none, long h)

  pub not_full : at < length b → i ≤ 4096 → all_heard (4096 - i) l ≡ true → i < 4096
  not_full h m t = split (leb 4096 i) refl
    where
      split : (p : Bool) → leb 4096 i ≡ p → i < 4096
      split true p =
          let z : ◌≡◌ {A = ℕ} 0 1 = cc (too_many h (leb-true 4096 i p), t) in
          absurd (omega arith)
      split false p = leb-false 4096 i p

  module _ (here : at < length b) (less : i < 4096) where
    abbrev f : ℕ
    f = 4096 - (i + 1)

    more : 4096 - i ≡ suc f
    more = omega arith

    pub stray : packets_stand l ≡ false → all_heard (4096 - i) l ≡ false
    unfolding all_heard
    stray s = rw (more, long here, s)

    pub stands_there : all_heard (4096 - i) l ≡ true → packets_stand l ≡ true
    unfolding all_heard
    stands_there t =
        let q : packets_stand l && all_heard f (drop (length (packets (entry_in l))) l) ≡ true = rw (more, long here) at t in
        (both (packets_stand l) (all_heard f (drop (length (packets (entry_in l))) l)) q).0

    module _ (s : packets_stand l ≡ true) (k : ℕ) (size : k ≡ length (packets (entry_in l))) where
      rest : drop (length (packets (entry_in l))) l ≡ drop (at + k) b
      rest = drop-drop (length (packets (entry_in l))) at b ∙ ap (λ (j : ℕ). drop (at + j) b) (sym size)

      pub inside : (8 ≤ k) × (at + k ≤ length b)
      inside = (omega (arith, (size_within l s).0, size), omega (arith, (size_within l s).1, size, length-drop at b))

      pub heard_on : all_heard f (drop (at + k) b) ≡ all_heard (4096 - i) l
      unfolding all_heard
      heard_on = rw (more, long here, s, rest)

      entry_on : heard_entries (4096 - i) l ≡ entry_in l ∷ heard_entries f (drop (at + k) b)
      unfolding heard_entries
      entry_on = rw (more, long here, rest)

      pub count_on : i + 1 + length (heard_entries f (drop (at + k) b)) ≡ i + length (heard_entries (4096 - i) l)
      count_on = omega (arith, ap length entry_on)

      pub entry_stored : (out next : List ℕ) (e : Entry) → e ≡ bare (entry_in l) → next ≡ sets out (16 * i) (entry_bytes e)
          → sets next (16 * (i + 1)) (entries_bytes (map bare (heard_entries f (drop (at + k) b)))) ≡ sets out (16 * i) (entries_bytes (map bare (heard_entries (4096 - i) l)))
      unfolding entries_bytes
      entry_stored out next e p q =
          let room : 16 * i + length (entry_bytes (bare (entry_in l))) ≡ 16 * (i + 1) = omega (arith, length-entry_bytes (bare (entry_in l)) (one_eight l)) in
          rw (entry_on, sets_append out (16 * i) (entry_bytes (bare (entry_in l))) (entries_bytes (map bare (heard_entries f (drop (at + k) b)))), room, q, p)

  -- packets stand where bytes are left, and only there
  pub some_left : packets_stand l ≡ true → at < length b
  some_left s = omega (arith, (size_within l s).0, (size_within l s).1, length-drop at b)

  pub none_left : i ≤ 4096 → all_heard (4096 - i) l ≡ true → packets_stand l ≡ false → length b ≤ at
  none_left m t s = split (leb (length b) at) refl
    where
      split : (p : Bool) → leb (length b) at ≡ p → length b ≤ at
      split true p = leb-true (length b) at p
      split false p =
          let here : at < length b = leb-false (length b) at p in
          absurd (true≢false (sym (stands_there here (not_full here m t) t) ∙ s))

-- a turn of the loops: what an entry that is heard leaves
pub record Turn (b : List ℕ) (at i : ℕ) (h : Heard) : Type 0 where
  pub here : at < length b
  pub less : i < 4096
  pub stands : packets_stand (drop at b) ≡ true
  pub entry : h ≡ heard_of (entry_in (drop at b))
  pub eight : 8 ≤ h.size
  pub within : at + h.size ≤ length b
  pub all : all_heard (4096 - (i + 1)) (drop (at + h.size) b) ≡ all_heard (4096 - i) (drop at b)
  pub count : i + 1 + length (heard_entries (4096 - (i + 1)) (drop (at + h.size) b)) ≡ i + length (heard_entries (4096 - i) (drop at b))

module _ (b : List ℕ) (at i : ℕ) (h : Heard) (is : Some h ≡ heard_in (drop at b)) where
  pub turn : i < 4096 → Turn b at i h
  turn less =
      let g = heard (drop at b) h is in
      let here = some_left b at i g.0 in
      let size : h.size ≡ length (packets (entry_in (drop at b))) = ap (λ (u : Heard). u.size) g.1 in
      let n = inside b at i here less g.0 h.size size in
      record {
        here = here;
        less = less;
        stands = g.0;
        entry = g.1;
        eight = n.0;
        within = n.1;
        all = heard_on b at i here less g.0 h.size size;
        count = count_on b at i here less g.0 h.size size;
      }

  -- where all of them are packets
  pub turn_of_all : i ≤ 4096 → all_heard (4096 - i) (drop at b) ≡ true → Turn b at i h
  turn_of_all m all = turn (not_full b at i (some_left b at i (heard (drop at b) h is).0) m all)

-- all entries heard have eight data bytes
heard_eights : (f : ℕ) (b : List ℕ) → Eights (map bare (heard_entries f b))
unfolding heard_entries
heard_eights zero b = tt
heard_eights (suc f) b = by (eqb (length b) 0) (one_eight b, heard_eights f (drop (length (packets (entry_in b))) b))
  where
    by : (t : Bool) → Eights (map bare (entry_in b ∷ heard_entries f (drop (length (packets (entry_in b))) b)))
        → Eights (map bare (cond t [] (entry_in b ∷ heard_entries f (drop (length (packets (entry_in b))) b))))
    by true h = tt
    by false h = h

pub section_long : (b : List ℕ) → length (section_bytes (map bare (heard_entries 4096 b))) ≡ 16 * length (heard_entries 4096 b) + 8
section_long b = length-section_bytes (map bare (heard_entries 4096 b)) (heard_eights 4096 b) ∙ ap (λ (k : ℕ). 16 * k + 8) (map_long (heard_entries 4096 b))

-- the loops' ends
module _ (b : List ℕ) (at i : ℕ) where
  pub refused : all_heard (4096 - i) (drop at b) ≡ all_heard 4096 b → all_heard (4096 - i) (drop at b) ≡ false → None ≡ count_of b
  unfolding count_of
  refused p q = rw (← p, q)

  pub ended : length b ≤ at → all_heard (4096 - i) (drop at b) ≡ all_heard 4096 b → i + length (heard_entries (4096 - i) (drop at b)) ≡ length (heard_entries 4096 b)
      → Some i ≡ count_of b
  unfolding count_of
  ended h p q =
      let e = heard_end b at i (4096 - i) h in
      let all : all_heard 4096 b ≡ true = sym p ∙ e.0 in
      let count : i ≡ length (heard_entries 4096 b) = omega (arith, q, ap length e.1) in
      rw (all, ← count)

  pub sealed : (room out last : List ℕ) → length b ≤ at → i + length (heard_entries (4096 - i) (drop at b)) ≡ length (heard_entries 4096 b)
      → sets out (16 * i) (entries_bytes (map bare (heard_entries (4096 - i) (drop at b)))) ≡ sets room 0 (entries_bytes (map bare (heard_entries 4096 b)))
      → last ≡ sets out (16 * i) (trailer_bytes i) → last ≡ sets room 0 (section_bytes (map bare (heard_entries 4096 b)))
  unfolding entries_bytes
  sealed room out last h q p z =
      let es = map bare (heard_entries 4096 b) in
      let e = heard_end b at i (4096 - i) h in
      let count : i ≡ length es = omega (arith, q, ap length e.1, map_long (heard_entries 4096 b)) in
      let laid : out ≡ sets room 0 (entries_bytes es) = ap (λ (x : List Entry). sets out (16 * i) (entries_bytes (map bare x))) (sym e.1) ∙ p in
      z ∙ ap₂ (λ (k : ℕ) (o : List ℕ). sets o (16 * k) (trailer_bytes k)) count laid ∙ section_laid room es (heard_eights 4096 b)

-- packets of at most f entries give no more
pub heard_most : (f : ℕ) (b : List ℕ) → length (heard_entries f b) ≤ f
unfolding heard_entries
heard_most zero b = omega arith
heard_most (suc f) b = by (eqb (length b) 0) (heard_most f (drop (length (packets (entry_in b))) b))
  where
    by : (t : Bool) → length (heard_entries f (drop (length (packets (entry_in b))) b)) ≤ f
        → length (cond t [] (entry_in b ∷ heard_entries f (drop (length (packets (entry_in b))) b))) ≤ suc f
    by true h = omega arith
    by false h = omega arith

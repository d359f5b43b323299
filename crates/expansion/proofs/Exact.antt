-- Both directions, exactly. A section's packets are read back as its entries without waits, outcomes and read data, repeaters as the demod writes that they
-- became; and bytes are accepted only if some section expands to them, and the answer is that section's.
-- Assumes nothing.
use Prim.Native.Nat.{ℕ, zero, suc, ◌*◌, ◌≤◌}
use mathlib.Core.Path.{◌≡◌, refl, sym, ap, ap₂, ◌∙◌, subst}
use mathlib.Core.List.{List, [], ◌∷◌, ◌++◌, map}
use mathlib.Core.Bool.{Bool, true, false, cond, ◌&&◌}
use native.Mathlib.Omega.{arith}
use lib.Dec.{eqb}
use borrow.Author.Tests.{ne_eqb, eqb-true, eqb-false}
use lib.ListN.{length, take, drop, length-append, length-drop}
use lib.Seq.{drop_at}
use Rattle.wire.specs.Bytes.{Bytes}
use Rattle.wire.proofs.Widths.{bytes_drop}
use Rattle.transcript.specs.declared.Entry.{Entry}
use Rattle.transcript.specs.Entries.{bare, entry_fits, zeros8}
use Rattle.transcript.specs.Sections.{AllFit, is_section, section_bytes}
use Rattle.transcript.specs.Table.{is_read}
use Rattle.transcript.proofs.Exact.{written_then_read}
use Rattle.transcript.proofs.Reading.{both, found}
use Rattle.packets.specs.Packets.{became, expands, w_index_of, is_demod, packets, packets_of, setup, sync, w_value_of}
use Rattle.packets.specs.Heard.{entry_in, packets_stand, sync_in}
use Rattle.packets.proofs.Units.{bare_core, core, no_stray, unit_read, unit_stands}
use Rattle.packets.proofs.Begins.{Transfer, became_transfer, entry_expands, entry_fits_lem, kind_within, most_bytes, own_packets, size_within, unit_begins}
use Rattle.packets.proofs.Written.{stays}
use Rattle.refusals.specs.Lent.{lent_to}
use Rattle.expansion.specs.Expansion.{all_expand, all_heard, expand_into, expanded, heard_entries, read_into, transfers}
use Rattle.expansion.proofs.Hearing.{heard_most}

-- ---- what packets tell of an entry has the same packets

data_same : (r : Bool) (n : ℕ) (bs : List ℕ) → take (cond r 0 n) (cond r zeros8 bs) ≡ take (cond r 0 n) bs
data_same true n bs = refl
data_same false n bs = refl

ended_same : (d : Bool) (o : ℕ) → cond (d && eqb (cond d o 0) 0) sync [] ≡ cond (d && eqb o 0) sync []
ended_same true o = refl
ended_same false o = refl

core_packets : (e : Entry) → packets (core e) ≡ packets e
unfolding packets setup w_value_of w_index_of
core_packets e =
    ap₂ (λ (x y : List ℕ). setup e ++ (x ++ y)) (data_same (is_read e.kind) e.n e.bytes) (ended_same (is_demod e.kind) e.outcome)

-- ---- expanded, then read

waiting : (e : Entry) → eqb e.kind 9 ≡ true → packets_of e ≡ []
unfolding packets_of
waiting e h = rw h

moving : (e : Entry) → eqb e.kind 9 ≡ false → packets_of e ≡ packets (became e)
unfolding packets_of
moving e h = rw h

transfer_of : (e : Entry) → eqb e.kind 9 ≡ false → entry_fits e ≡ true → expands e ≡ true → Transfer (became e)
transfer_of e h fit fine = became_transfer e fit fine (eqb-false e.kind 9 h)

-- no packet of an entry is the read of page 0x0a
clean_by : (e : Entry) (es : List Entry) (w : Bool) → eqb e.kind 9 ≡ w → entry_fits e ≡ true → expands e ≡ true → sync_in (expanded es) ≡ false
    → sync_in (packets_of e ++ expanded es) ≡ false
clean_by e es true h fit fine rest = rw (waiting e h) rest
clean_by e es false h fit fine rest =
    let t = transfer_of e h fit fine in
    rw (moving e h) (no_stray (became e) t.fit t.low t.high t.fine (expanded es))

clean : (es : List Entry) → AllFit es → all_expand es ≡ true → sync_in (expanded es) ≡ false
unfolding expanded all_expand sync_in
clean [] f x = refl
clean (e ∷ es) f x =
    let p = both (expands e) (all_expand es) x in
    clean_by e es (eqb e.kind 9) refl f.0 p.0 (clean es f.1 p.1)

pub record Read (f : ℕ) (b : List ℕ) (es : List Entry) : Type 0 where
  pub accepted : all_heard f b ≡ true
  pub entries : heard_entries f b ≡ map core (transfers es)

-- one entry's packets before those of others
more : (t : Entry) (f : ℕ) (es : List Entry) → Transfer t → sync_in (expanded es) ≡ false → Read f (expanded es) es
    → (all_heard (suc f) (packets t ++ expanded es) ≡ true) × (heard_entries (suc f) (packets t ++ expanded es) ≡ core t ∷ map core (transfers es))
unfolding all_heard heard_entries
more t f es h free r =
    let rest = expanded es in
    let all = packets t ++ rest in
    let there : packets_stand all ≡ true = unit_stands t h.fit h.low h.high h.fine rest in
    let one : entry_in all ≡ core t = unit_read t h.fit h.low h.high h.fine rest free in
    let size : length (packets (entry_in all)) ≡ length (packets t) = ap (λ (e : Entry). length (packets e)) one ∙ ap length (core_packets t) in
    let some : eqb (length all) 0 ≡ false = ne_eqb (length all) 0 (λ z. omega (arith, (size_within all there).0, (size_within all there).1, z)) in
    let past : drop (length (packets (entry_in all))) all ≡ rest = ap (λ (k : ℕ). drop k all) size ∙ drop_at (packets t) rest (length (packets t)) refl in
    rw (some, there, past, one) (r.accepted, ap (λ (x : List Entry). core t ∷ x) r.entries)

nothing_left : (f : ℕ) → Read f [] []
unfolding all_heard heard_entries transfers
nothing_left zero = record { accepted = refl; entries = refl }
nothing_left (suc f) = record { accepted = refl; entries = refl }

read_by : (e : Entry) (es : List Entry) (w : Bool) (f : ℕ) → eqb e.kind 9 ≡ w → entry_fits e ≡ true → expands e ≡ true → sync_in (expanded es) ≡ false
    → length (cond w (transfers es) (became e ∷ transfers es)) ≤ f → ((g : ℕ) → length (transfers es) ≤ g → Read g (expanded es) es)
    → (all_heard f (packets_of e ++ expanded es) ≡ true) × (heard_entries f (packets_of e ++ expanded es) ≡ map core (cond w (transfers es) (became e ∷ transfers es)))
read_by e es true f h fit fine free m r = rw (waiting e h) ((r f m).accepted, (r f m).entries)
read_by e es false zero h fit fine free m r = absurd (omega arith)
read_by e es false (suc f) h fit fine free m r =
    rw (moving e h) (more (became e) f es (transfer_of e h fit fine) free (r f (omega arith)))

read_all : (es : List Entry) (f : ℕ) → AllFit es → all_expand es ≡ true → length (transfers es) ≤ f → Read f (expanded es) es
unfolding expanded all_expand transfers
read_all [] f fit fine m = nothing_left f
read_all (e ∷ es) f fit fine m =
    let p = both (expands e) (all_expand es) fine in
    let q = read_by e es (eqb e.kind 9) f refl fit.0 p.0 (clean es fit.1 p.1) m (λ g n. read_all es g fit.1 p.1 n) in
    record { accepted = q.0; entries = q.1 }

fewer_transfers : (es : List Entry) → length (transfers es) ≤ length es
unfolding transfers
fewer_transfers [] = omega arith
fewer_transfers (e ∷ es) = by (eqb e.kind 9) (fewer_transfers es)
  where
    by : (w : Bool) → length (transfers es) ≤ length es → length (cond w (transfers es) (became e ∷ transfers es)) ≤ suc (length es)
    by true h = omega arith
    by false h = omega arith

bare_cores : (es : List Entry) → map bare (map core es) ≡ map bare es
bare_cores [] = refl
bare_cores (e ∷ es) = ap₂ ◌∷◌ (bare_core e) (bare_cores es)

-- "Reading the packets back gives the entries again": those of every section that expands, whatever its outcomes, and whatever room is lent
module _ (es : List Entry) (fit : AllFit es) (most : length es ≤ 4096) (fine : all_expand es ≡ true) where
  back : Read 4096 (expanded es) es
  back = read_all es 4096 fit fine (omega (arith, fewer_transfers es))

  pub expanded_then_read : (out : List ℕ)
      → read_into (expanded es) out ≡ lent_to 0 (length (section_bytes (map bare (transfers es)))) (section_bytes (map bare (transfers es))) out
  unfolding read_into
  expanded_then_read out =
      let same : map bare (heard_entries 4096 (expanded es)) ≡ map bare (transfers es) = ap (map bare) back.entries ∙ bare_cores (transfers es) in
      rw (back.accepted, same)

  -- and the call on a section of them, with bytes before it
  pub section_expanded : (p out : List ℕ) → expand_into (p ++ section_bytes es) out ≡ lent_to 0 (length (expanded es)) (expanded es) out
  unfolding expand_into
  section_expanded p out =
      let w = written_then_read p es fit most in
      let good : is_section (p ++ section_bytes es) ≡ true = (found (p ++ section_bytes es) (length p) (length es) (sym w.accepted)).0 in
      rw (good, w.entries, fine)

-- ---- read, then expanded

pub record Sound (b : List ℕ) (es : List Entry) : Type 0 where
  pub bytes : expanded es ≡ b
  pub fit : AllFit es
  pub fine : all_expand es ≡ true
  pub same : transfers es ≡ es
  pub few : 8 * length es ≤ length b

empty : (b : List ℕ) → length b ≡ 0 → Sound b []
unfolding expanded all_expand transfers
empty [] h = record { bytes = refl; fit = tt; fine = refl; same = refl; few = omega arith }
empty (x ∷ xs) h = absurd (omega arith)

-- an entry that is read is its own transfer
one_more : (b : List ℕ) (es : List Entry) → Bytes b → packets_stand b ≡ true → Sound (drop (length (packets (entry_in b))) b) es → Sound b (entry_in b ∷ es)
unfolding expanded all_expand transfers
one_more b es bytes there s =
    let k = kind_within b there in
    let own : packets_of (entry_in b) ≡ packets (entry_in b) = own_packets (entry_in b) k.0 k.1 in
    let moved : eqb (entry_in b).kind 9 ≡ false = ne_eqb (entry_in b).kind 9 (λ z. omega (arith, k.1, z)) in
    let kept : entry_in b ≡ became (entry_in b) = stays (entry_in b) (λ z. omega (arith, k.0, z)) in
    let size = size_within b there in
    record {
      bytes = ap₂ ◌++◌ own s.bytes ∙ unit_begins b there bytes;
      fit = (entry_fits_lem b there bytes, s.fit);
      fine = rw (entry_expands b there) s.fine;
      same = rw (moved, ← kept, s.same);
      few = omega (arith, s.few, size.0, size.1, length-drop (length (packets (entry_in b))) b);
    }

sound_all : (f : ℕ) (b : List ℕ) → Bytes b → all_heard f b ≡ true → Sound b (heard_entries f b)
unfolding all_heard heard_entries
sound_all zero b bytes h = empty b (eqb-true (length b) 0 h)
sound_all (suc f) b bytes h =
    by (eqb (length b) 0) refl h (λ q. sound_all f (drop (length (packets (entry_in b))) b) (bytes_drop (length (packets (entry_in b))) b bytes) q)
  where
    by : (t : Bool) → eqb (length b) 0 ≡ t → cond t true (packets_stand b && all_heard f (drop (length (packets (entry_in b))) b)) ≡ true
        → (all_heard f (drop (length (packets (entry_in b))) b) ≡ true → Sound (drop (length (packets (entry_in b))) b) (heard_entries f (drop (length (packets (entry_in b))) b)))
        → Sound b (cond t [] (entry_in b ∷ heard_entries f (drop (length (packets (entry_in b))) b)))
    by true e q rest = empty b (eqb-true (length b) 0 e)
    by false e q rest =
        let p = both (packets_stand b) (all_heard f (drop (length (packets (entry_in b))) b)) q in
        one_more b (heard_entries f (drop (length (packets (entry_in b))) b)) bytes p.0 (rest p.1)

-- a section's entries that expand to some bytes, and are read from them
pub record Expansion (b : List ℕ) (es : List Entry) : Type 0 where
  pub bytes : expanded es ≡ b
  pub fit : AllFit es
  pub most : length es ≤ 4096
  pub fine : all_expand es ≡ true
  pub answer : map bare (heard_entries 4096 b) ≡ map bare (transfers es)

-- "reading back, bytes that no section expands to" are refused, since what is accepted is what the entries read expand to, with the outcomes that the reads after
-- them tell. Their `bare` is the answer. The answer itself may expand to other bytes: in it a failed demod write is one that was done.
pub read_then_expanded : (b : List ℕ) → Bytes b → all_heard 4096 b ≡ true → Expansion b (heard_entries 4096 b)
read_then_expanded b bytes h =
    let s = sound_all 4096 b bytes h in
    record {
      bytes = s.bytes;
      fit = s.fit;
      most = heard_most 4096 b;
      fine = s.fine;
      answer = ap (map bare) (sym s.same);
    }

-- and the bytes of every section that expands are accepted: so exactly these are
pub accepted_all : (b : List ℕ) (es : List Entry) → AllFit es → length es ≤ 4096 → all_expand es ≡ true → expanded es ≡ b → all_heard 4096 b ≡ true
accepted_all b es fit most fine same = subst (λ (l : List ℕ). all_heard 4096 l ≡ true) same (back es fit most fine).accepted

-- ---- sizes for a host

-- at most 18 bytes an entry
pub bytes_most : (es : List Entry) → AllFit es → all_expand es ≡ true → length (expanded es) ≤ 18 * length es
unfolding expanded all_expand
bytes_most [] f x = omega arith
bytes_most (e ∷ es) f x =
    let p = both (expands e) (all_expand es) x in
    omega (arith, length-append (packets_of e) (expanded es), most_bytes e (eqb e.kind 9) refl f.0 p.0, bytes_most es f.1 p.1)

-- at most one entry for eight bytes
pub entries_most : (b : List ℕ) → Bytes b → all_heard 4096 b ≡ true → 8 * length (heard_entries 4096 b) ≤ length b
entries_most b bytes h = (sound_all 4096 b bytes h).few

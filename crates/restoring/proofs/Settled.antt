-- What is told after a walk is what the entries say: the list that is laid out is the one of the definition, and it fits the room.
-- Assumes nothing.
use Prim.Native.Nat.{ℕ, ◌+◌, ◌-◌, ◌*◌, ◌≤◌, ◌<◌}
use mathlib.Core.Path.{◌≡◌, refl, sym, ap, ap₂, ◌∙◌}
use mathlib.Core.Bool.{Bool, true, false, cond, not, ◌&&◌, and-false, false≢true}
use mathlib.Core.List.{List}
use native.Mathlib.Omega.{arith}
use borrow.Author.Tests.{ltb-true, ltb-false, le-ltb}
use lib.Dec.{leb, ltb}
use lib.ListN.{length, get_or, take, drop, replicate, length-map, get_or-replicate, get_or-eq_default}
use lib.Seq.{sets, sets-eq, take_at}
use Rattle.transcript.specs.declared.Entry.{Entry}
use Rattle.transcript.specs.Sections.{section_bytes}
use Rattle.transcript.proofs.Laid.{length-section_bytes}
use Rattle.refusals.specs.declared.Answer.TheVariants.{Refused}
use Rattle.refusals.specs.Lent.{given, lent_to}
use Rattle.refusals.proofs.Giving as giving
use Rattle.refusals.specs.Table.{SECTION}
use Rattle.attempts.specs.Attempts.{Last, byte_in, doubt_in, last_in}
use Rattle.attempts.specs.Namings.Last.{Never, Tried}
use Rattle.sections.specs.Chain.{chain, chain_entries}
use Rattle.restore.specs.Restore.{held_in, list_by, list_bytes, list_of, refused_by, runs, sure_in, write_of}
use Rattle.restore.proofs.Listed.{most}
use Rattle.restoring.specs.Standing.{Known, byte_of, counts, held_of, is_done, known_in, known_of, newer, over, restore_into, sure_of}
use Rattle.std.specs.Prelude.{None}
use Rattle.restoring.proofs.Overs.{over_at}
use Rattle.restoring.proofs.Laying.{eights}

abbrev pub blank : List Known
blank = replicate 32 None

tells_past : (address : ℕ) (es : List Entry) (r : ℕ) → 32 ≤ r → known_in address es r ≡ None
unfolding known_in counts
tells_past address es r h = rw (le-ltb r 32 h, and-false (leb 5 r))

alone : (t : Known) → newer None t ≡ t
unfolding newer
alone t = refl

-- what an array holds after a walk from nothing is what is told of each register
module _ (f : ℕ → Known) (far : (r : ℕ) → 32 ≤ r → f r ≡ None) (known : List Known) (lk : length known ≡ 32) (after : known ≡ over f 0 blank) where
  pub stands_by : (r : ℕ) → get_or known r None ≡ f r
  stands_by r = go (ltb r 32) refl
    where
      go : (b : Bool) → ltb r 32 ≡ b → get_or known r None ≡ f r
      go true e =
          let less = ltb-true r 32 e in
          let here : 0 + r ≡ r = omega arith in
          ap (λ (l : List Known). get_or l r None) after
          ∙ over_at f 0 r blank (omega arith)
          ∙ ap₂ (λ (t : Known) (k : ℕ). newer t (f k)) (get_or-replicate 32 r None None less) here
          ∙ alone (f r)
      go false e =
          let past = ltb-false r 32 e in
          get_or-eq_default known None (omega arith) ∙ sym (far r past)

module _ (address : ℕ) (es : List Entry) (known : List Known) (lk : length known ≡ 32) (after : known ≡ over (known_in address es) 0 blank) where
  pub stands : (r : ℕ) → get_or known r None ≡ known_in address es r
  stands r = stands_by (known_in address es) (tells_past address es) known lk after r

  sure_mark : (l : Last) (b : Bool) → is_done (cond b (known_of l) None) ≡ b && not (doubt_in l)
  sure_mark Never true = refl
  sure_mark (Tried byte true) true = refl
  sure_mark (Tried byte false) true = refl
  sure_mark l false = refl

  sures : (r : ℕ) → sure_of known r ≡ sure_in address es r
  unfolding sure_of sure_in known_in counts
  sures r = ap is_done (stands r) ∙ sure_mark (last_in address es r) (counts r)

  byte_told : (l : Last) (b : Bool) → b && not (doubt_in l) ≡ true → byte_of (cond b (known_of l) None) ≡ byte_in 0 l
  byte_told Never true h = refl
  byte_told (Tried byte ok) true h = refl
  byte_told l false h = absurd (false≢true h)

  helds : (r : ℕ) → held_of known r ≡ held_in address es r
  unfolding held_of sure_in known_in counts
  helds r = go (sure_in address es r) refl
    where
      go : (b : Bool) → sure_in address es r ≡ b → cond (sure_of known r) (byte_of (get_or known r None)) 0 ≡ cond (sure_in address es r) (byte_in 0 (last_in address es r)) 0
      go true e = rw (sures r, e) (ap byte_of (stands r) ∙ byte_told (last_in address es r) (counts r) e)
      go false e = rw (sures r, e)

  sure_same : sure_of known ≡ sure_in address es
  sure_same i r = sures r i

  held_same : held_of known ≡ held_in address es
  held_same i r = helds r i

  -- the list is the definition's
  list_same : list_by address (sure_of known) (held_of known) ≡ list_of address es
  unfolding list_of
  list_same = ap₂ (λ (f : ℕ → Bool) (g : ℕ → ℕ). list_by address f g) sure_same held_same

  pub bytes_same : section_bytes (list_by address (sure_of known) (held_of known)) ≡ section_bytes (list_of address es)
  bytes_same = ap section_bytes list_same

  pub count_same : length (runs (sure_of known) 32 0) ≡ length (list_of address es)
  count_same = sym (length-map (runs (sure_of known) 32 0) (write_of address (held_of known))) ∙ ap length list_same

  pub fourteen : length (runs (sure_of known) 32 0) ≤ 14
  fourteen = omega (arith, count_same, most address es)

  pub list_long : length (section_bytes (list_of address es)) ≡ 16 * length (runs (sure_of known) 32 0) + 8
  unfolding list_of
  list_long =
      let eight = length-section_bytes (list_of address es) (eights address (held_in address es) (runs (sure_in address es) 32 0)) in
      omega (arith, eight, count_same)

-- ---- the call

pub all_good : (s : List ℕ) (refusal : ℕ) → refusal ≡ refused_by s → refusal ≡ 0 → chain s ≡ true
all_good s refusal is h = go (chain s) refl
  where
    go : (b : Bool) → chain s ≡ b → chain s ≡ true
    go true e = e
    go false e =
        let twelve : refusal ≡ SECTION = is ∙ rw e in
        absurd (omega arith)

pub refuses : (s : List ℕ) (address : ℕ) (out : List ℕ) (refusal : ℕ) → refusal ≡ refused_by s → (refusal ≡ 0 → ⊥) → given (Refused refusal) out ≡ restore_into s address out
unfolding restore_into
refuses s address out refusal is h =
    let some : 0 < refusal = omega (arith, h) in
    giving.refused refusal (length (list_bytes address s)) (list_bytes address s) out some
    ∙ ap (λ (k : ℕ). lent_to k (length (list_bytes address s)) (list_bytes address s) out) is

laid_then_taken : (room bytes : List ℕ) (size : ℕ) → length bytes ≡ size → size ≤ length room → take (size - 0) (sets room 0 bytes) ≡ bytes
laid_then_taken room bytes size h k =
    let all : size - 0 ≡ size = omega arith in
    ap₂ (λ (n : ℕ) (l : List ℕ). take n l) all (sets-eq bytes room 0 (omega arith)) ∙ take_at bytes (drop (0 + length bytes) room) size h

module _ (s : List ℕ) (address : ℕ) (good : chain s ≡ true) (known : List Known) (lk : length known ≡ 32)
    (after : known ≡ over (known_in address (chain_entries s)) 0 blank) where
  pub lends : (room image out : List ℕ) (size : ℕ) → 232 ≤ length room → size ≡ 16 * length (runs (sure_of known) 32 0) + 8
      → image ≡ sets room 0 (section_bytes (list_by address (sure_of known) (held_of known)))
      → lent_to 0 size (take (size - 0) image) out ≡ restore_into s address out
  unfolding restore_into
  lends room image out size wide is laid =
      let es = chain_entries s in
      let long : length (list_bytes address s) ≡ size = list_long address es known lk after ∙ sym is in
      let few = fourteen address es known lk after in
      let bytes : take (size - 0) image ≡ list_bytes address s =
      ap (take (size - 0)) (laid ∙ ap (sets room 0) (bytes_same address es known lk after)) ∙ laid_then_taken room (list_bytes address s) size long (omega arith) in
      let done : refused_by s ≡ 0 = rw good in
      ap₂ (λ (n : ℕ) (l : List ℕ). lent_to 0 n l out) (sym long) bytes ∙ ap (λ (k : ℕ). lent_to k (length (list_bytes address s)) (list_bytes address s) out) (sym done)

-- "it never needs more than 14 writes": a slice of 232 bytes always does
pub always_room : (s : List ℕ) (address : ℕ) → length (list_bytes address s) ≤ 232
unfolding list_of
always_room s address =
    let es = chain_entries s in
    let long = length-section_bytes (list_of address es) (eights address (held_in address es) (runs (sure_in address es) 32 0)) in
    omega (arith, long, most address es)

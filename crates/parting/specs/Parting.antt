-- Where two sections part. Document 02, #114: "hand back the entries of the second from its first that differs from the first section's, or that the
-- first lacks; outcome and read data are left out of the comparison. If the second ends first, hand back the rest of the first section from there.
-- Equal ones give an empty part of the second."
-- Assumes nothing.
use Rattle.std.specs.Prelude.{ℕ, suc, ◌+◌, ◌-◌, ◌*◌, ◌≤◌, ◌≡◌, Bool, true, false, cond, ◌&&◌, List, [], ◌∷◌, map, eqb, leb, ltb, length, take, drop, Option, Some, None}
use Rattle.transcript.specs.declared.Entry.{Entry}
use Rattle.transcript.specs.Entries.{bare}
use Rattle.transcript.specs.Sections.{entries_bytes, refusal_of, section_entries, section_of}
use Rattle.transcript.specs.declared.Section.{Section}
use Rattle.parting.specs.declared.Place.{Place}

unfoldable pub equal_bytes : List ℕ → List ℕ → Bool
equal_bytes [] [] = true
equal_bytes [] (y ∷ ys) = false
equal_bytes (x ∷ xs) [] = false
equal_bytes (x ∷ xs) (y ∷ ys) = eqb x y && equal_bytes xs ys

unfoldable pub equal_entries : Entry → Entry → Bool
equal_entries e f =
    eqb e.kind f.kind
    && eqb e.outcome f.outcome
    && eqb e.target f.target
    && eqb e.n f.n
    && eqb e.address f.address
    && equal_bytes e.bytes f.bytes

-- "outcome and read data are left out of the comparison"
abbrev pub alike : Entry → Entry → Bool
alike e f = equal_entries (bare e) (bare f)

-- how many entries both sections begin with: the index of the first that differs, or that one of them lacks
unfoldable pub agree : List Entry → List Entry → ℕ
agree [] fs = 0
agree (e ∷ es) [] = 0
agree (e ∷ es) (f ∷ fs) = cond (alike e f) (suc (agree es fs)) 0

abbrev pub place : ℕ → ℕ → ℕ → ℕ → Place
place whose start count index = record { start = start; count = count; index = index; whose = whose; refusal = 0 }

-- "Refusals: 12 for either section": nobody's part, and empty
abbrev pub nowhere : Place
nowhere = record { start = 0; count = 0; index = 0; whose = 0; refusal = refusal_of None }

-- "the answer says whose part it is": 1 where "the second ends first", else 2. m and n entries, which begin at a and b, with k of them alike
unfoldable pub placed : ℕ → ℕ → ℕ → ℕ → ℕ → Place
placed a m b n k =
    cond (leb n k && ltb k m) (place 1 (a + 16 * k) (m - k) k) (place 2 (b + 16 * k) (n - k) k)

abbrev pub between : Option Section → Option Section → ℕ → Place
between (Some s) (Some t) k = placed s.start s.count t.start t.count k
between (Some s) None k = nowhere
between None t k = nowhere

unfoldable pub parting_of : List ℕ → List ℕ → Place
parting_of x y = between (section_of x) (section_of y) (agree (section_entries x) (section_entries y))

-- "Parts hold entries, no trailer": the bytes of `count` entries from `start`; none where they do not lie in the slice
unfoldable pub cut_of : ℕ → ℕ → List ℕ → List ℕ
cut_of start count s = cond (leb start (length s) && leb (16 * count) (length s - start)) (take (16 * count) (drop start s)) []

abbrev pub rest_of : List ℕ → List ℕ → Place → List ℕ
rest_of x y p = cond (eqb p.whose 1) (cut_of p.start p.count x) (cut_of p.start p.count y)

-- ---- what that means, without a test

-- what follows differs, or one of the two is at its end
abbrev pub Differ : List Entry → List Entry → Type 0
Differ [] fs = Unit {0}
Differ (e ∷ es) [] = Unit {0}
Differ (e ∷ es) (f ∷ fs) = bare e ≡ bare f → ⊥

-- the first k entries of both are the same steps, and there they part
pub record PartAt (es fs : List Entry) (k : ℕ) : Type 0 where
  pub within : (k ≤ length es) × (k ≤ length fs)
  pub same : map bare (take k es) ≡ map bare (take k fs)
  pub differ : Differ (drop k es) (drop k fs)

-- whose part, by what follows: the first's where it alone goes on
abbrev pub whose_of : List Entry → List Entry → ℕ
whose_of (e ∷ es) [] = 1
whose_of [] fs = 2
whose_of (e ∷ es) (f ∷ fs) = 2

-- the entries from a place on, of the section that it names
abbrev pub part_of : List Entry → List Entry → Place → List Entry
part_of es fs p = cond (eqb p.whose 1) (drop p.index es) (drop p.index fs)

-- a place in two sections, of es and of fs, and the bytes that are handed back
pub record Handed (es fs : List Entry) (p : Place) (bytes : List ℕ) : Type 0 where
  pub refusal : p.refusal ≡ 0
  pub parts : PartAt es fs p.index
  pub whose : p.whose ≡ whose_of (drop p.index es) (drop p.index fs)
  pub count : p.count ≡ length (part_of es fs p)
  pub part : bytes ≡ entries_bytes (part_of es fs p)

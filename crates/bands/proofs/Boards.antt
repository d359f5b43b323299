-- The boards that are built in, written as bands. Document 02, #113: "The V4 plan written as eight bands must give the built-in plan at every u64 frequency,
-- shown once." The plan changes at seven edges; a band with no edge inside it has the plan of its first frequency, and a band is right if it says that plan.
-- The eight bands are tested, not proved one by one. Assumes nothing.
use Prim.Native.Nat.{ℕ, zero, suc, ◌+◌, ◌<◌, ◌≤◌}
use mathlib.Core.Path.{◌≡◌, refl, sym, ap, ◌∙◌}
use mathlib.Core.Bool.{Bool, true, false, cond, ◌&&◌, ◌||◌, and-false}
use mathlib.Core.List.{List, [], ◌∷◌}
use native.Mathlib.Omega.{arith}
use borrow.Author.Tests.{eqb-true, le-leb, leb-false, leb-true, lt-leb, ltb-false, ltb-true, lt-ltb, le-ltb}
use lib.Dec.{eqb, leb, ltb, leb-suc-suc}
use native.Mathlib.Nat.{add-zero}
use lib.ListN.{length, get_or}
use Rattle.wire.specs.Bytes.{le_bytes, le_value}
use Rattle.board.specs.declared.Board.{Board}
use Rattle.board.specs.declared.Board.TheVariants.{Generic, V4}
use Rattle.board.specs.declared.Plan.{Plan}
use Rattle.board.specs.Numbers.{path_number, path_of}
use Rattle.board.specs.Plans.{below_up, in_notch, path_at, board_plan, tuner_hz}
use Rattle.board.proofs.Numbers.{path_of_number}
use Rattle.bands.specs.declared.Band.{Band}
use Rattle.bands.specs.Tables.{ascending, band, band_bytes, band_of, bands_in, bands_of, board_table, built_in, plan_at, plan_by, plan_in, plan, planned, table_bytes, table_ok}
use Rattle.bands.proofs.Laws.{shifted_up}
use Rattle.bands.proofs.Only.{both}

-- ---- bands that leave no gap

-- each begins where the one before ended, and the last ends at the last number of 64 bits
abbrev chained : ℕ → List Band → Bool
chained least [] = eqb least 18446744073709551616
chained least (b ∷ bs) = eqb b.first least && chained (suc b.last) bs

-- by this band the plan is f's
abbrev Right : (ℕ → Plan) → Band → Type 0
Right f b = (hz : ℕ) → b.first ≤ hz → hz ≤ b.last → hz < 18446744073709551616 → plan_at b hz ≡ planned 0 (f hz)

abbrev AllRight : (ℕ → Plan) → List Band → Type 0
AllRight f [] = Unit {0}
AllRight f (b ∷ bs) = Right f b × AllRight f bs

everywhere : (f : ℕ → Plan) (bs : List Band) (least : ℕ) → chained least bs ≡ true → AllRight f bs
    → (hz : ℕ) → least ≤ hz → hz < 18446744073709551616 → plan_in bs hz ≡ planned 0 (f hz)
unfolding plan_in
everywhere f [] least c h hz l m = absurd (omega (arith, eqb-true least 18446744073709551616 c, l, m))
everywhere f (b ∷ bs) least c h hz l m = go (leb hz b.last) refl (everywhere f bs (suc b.last) p.1 h.1 hz)
  where
    p : (eqb b.first least ≡ true) × (chained (suc b.last) bs ≡ true)
    p = both (eqb b.first least) (chained (suc b.last) bs) c

    from : b.first ≤ hz
    from = omega (arith, eqb-true b.first least p.0, l)

    go : (t : Bool) → leb hz b.last ≡ t → (suc b.last ≤ hz → hz < 18446744073709551616 → plan_in bs hz ≡ planned 0 (f hz))
        → plan_in (b ∷ bs) hz ≡ planned 0 (f hz)
    go true e next = rw (le-leb b.first hz from, e) (h.0 hz from (leb-true hz b.last e) m)
    go false e next = rw (e, and-false) (next (leb-false hz b.last e) m)

-- ---- an edge: something changes from c - 1 to c

abbrev steady : Band → ℕ → Bool
steady b c = ltb b.last c || leb c b.first

module _ (b : Band) (hz : ℕ) (from : b.first ≤ hz) (to : hz ≤ b.last) where
  same_below : (c : ℕ) → steady b c ≡ true → ltb hz c ≡ ltb b.first c
  same_below c h = go (ltb b.last c) refl h
    where
      go : (t : Bool) → ltb b.last c ≡ t → t || leb c b.first ≡ true → ltb hz c ≡ ltb b.first c
      go true e k =
          let under : b.last < c = ltb-true b.last c e in
          lt-ltb hz c (omega arith) ∙ sym (lt-ltb b.first c (omega arith))
      go false e k =
          let over : c ≤ b.first = leb-true c b.first k in
          le-ltb hz c (omega arith) ∙ sym (le-ltb b.first c over)

  same_to : (c : ℕ) → steady b (suc c) ≡ true → leb hz c ≡ leb b.first c
  same_to c h = sym (leb-suc-suc hz c) ∙ same_below (suc c) h ∙ leb-suc-suc b.first c

  same_from : (c : ℕ) → steady b c ≡ true → leb c hz ≡ leb c b.first
  same_from c h = go (ltb b.first c) refl (same_below c h)
    where
      go : (t : Bool) → ltb b.first c ≡ t → ltb hz c ≡ ltb b.first c → leb c hz ≡ leb c b.first
      go true e k =
          let under : b.first < c = ltb-true b.first c e in
          let under2 : hz < c = ltb-true hz c (k ∙ e) in
          lt-leb c hz under2 ∙ sym (lt-leb c b.first under)
      go false e k =
          let over : c ≤ b.first = ltb-false b.first c e in
          le-leb c hz (omega arith) ∙ sym (le-leb c b.first over)

-- ---- the V4

abbrev all : {A : Type 0} → (A → Bool) → List A → Bool
all f [] = true
all f (x ∷ xs) = f x && all f xs

each : (f : ℕ → Bool) (xs : List ℕ) → all f xs ≡ true → (i : ℕ) → i < length xs → f (get_or xs i 0) ≡ true
each f [] h i l = absurd (omega (arith, l))
each f (x ∷ xs) h zero l = (both (f x) (all f xs) h).0
each f (x ∷ xs) h (suc i) l = each f xs (both (f x) (all f xs) h).1 i (omega (arith, l))

abbrev bit : Bool → ℕ
bit true = 1
bit false = 0

-- where the upconverter's band and the VHF end, and where the notches begin and are past
abbrev edges : List ℕ
edges = 28_800_000 ∷ 250_000_000 ∷ 2_200_001 ∷ 85_000_000 ∷ 112_000_001 ∷ 172_000_000 ∷ 242_000_001 ∷ []

-- the band's numbers are those of the plan at its first frequency
abbrev says : Band → Bool
says b =
    eqb b.shift (cond (below_up b.first) 28_800_000 0)
    && eqb b.inverted (bit (below_up b.first))
    && eqb b.path (path_number (path_at b.first))
    && eqb b.notch (bit (in_notch b.first))

abbrev fine : Band → Bool
fine b = all (steady b) edges && says b

read_bit : (t : Bool) → eqb (bit t) 1 ≡ t
read_bit true = refl
read_bit false = refl

module _ (b : Band) (h : fine b ≡ true) (hz : ℕ) (from : b.first ≤ hz) (to : hz ≤ b.last) (word : hz < 18446744073709551616) where
  edge : (i : ℕ) → i < 7 → steady b (get_or edges i 0) ≡ true
  edge i l = each (steady b) edges (both (all (steady b) edges) (says b) h).0 i l

  up : below_up hz ≡ below_up b.first
  up = same_below b hz from to 28_800_000 (edge 0 (omega arith))

  way : path_at hz ≡ path_at b.first
  unfolding path_at
  way = rw (up, same_below b hz from to 250_000_000 (edge 1 (omega arith)))

  notch : in_notch hz ≡ in_notch b.first
  notch =
      rw (
        same_to b hz from to 2_200_000 (edge 2 (omega arith)),
        same_from b hz from to 85_000_000 (edge 3 (omega arith)),
        same_to b hz from to 112_000_000 (edge 4 (omega arith)),
        same_from b hz from to 172_000_000 (edge 5 (omega arith)),
        same_to b hz from to 242_000_000 (edge 6 (omega arith)),
      )

  -- what the band's numbers are
  numbers : (b.shift ≡ cond (below_up hz) 28_800_000 0) × (b.inverted ≡ bit (below_up hz)) × (b.path ≡ path_number (path_at hz)) × (b.notch ≡ bit (in_notch hz))
  numbers =
      let s = eqb b.shift (cond (below_up b.first) 28_800_000 0) in
      let i = eqb b.inverted (bit (below_up b.first)) in
      let p = eqb b.path (path_number (path_at b.first)) in
      let n = eqb b.notch (bit (in_notch b.first)) in
      let q = both (s && i && p) n (both (all (steady b) edges) (says b) h).1 in
      let r = both (s && i) p q.0 in
      let t = both s i r.0 in (
        eqb-true b.shift (cond (below_up b.first) 28_800_000 0) t.0 ∙ ap (λ (u : Bool). cond u 28_800_000 0) (sym up),
        eqb-true b.inverted (bit (below_up b.first)) t.1 ∙ ap bit (sym up),
        eqb-true b.path (path_number (path_at b.first)) r.1 ∙ ap path_number (sym way),
        eqb-true b.notch (bit (in_notch b.first)) q.1 ∙ ap bit (sym notch),
      )

  lands : (u : Bool) → below_up hz ≡ u → (b.shift < 9223372036854775808) × (hz + b.shift < 18446744073709551616) × (hz + b.shift ≡ cond u (hz + 28_800_000) hz)
  lands true e =
      let under : hz < 28_800_000 = ltb-true hz 28_800_000 e in
      let s : b.shift ≡ 28_800_000 = numbers.0 ∙ ap (λ (u : Bool). cond u 28_800_000 0) e in
      (omega arith, omega arith, omega arith)
  lands false e =
      let s : b.shift ≡ 0 = numbers.0 ∙ ap (λ (u : Bool). cond u 28_800_000 0) e in
      (omega arith, omega arith, omega arith)

  right : plan_at b hz ≡ planned 0 (board_plan V4 hz)
  unfolding board_plan tuner_hz
  right =
      let l = lands (below_up hz) refl in
      let inverted : eqb b.inverted 1 ≡ below_up hz = ap (λ (n : ℕ). eqb n 1) numbers.1 ∙ read_bit (below_up hz) in
      let path = ap path_of numbers.2 ∙ path_of_number (path_at hz) in
      let notches : eqb b.notch 1 ≡ in_notch hz = ap (λ (n : ℕ). eqb n 1) numbers.3 ∙ read_bit (in_notch hz) in
      sym (shifted_up b hz l.0 l.1) ∙ (λ i. planned 0 (plan (l.2 i) (inverted i) (path i) (notches i)))

all_right : (bs : List Band) → all fine bs ≡ true → AllRight (board_plan V4) bs
all_right [] h = tt
all_right (b ∷ bs) h =
    let p = both (fine b) (all fine bs) h in
    (right b p.0, all_right bs p.1)

all_fine : all fine (built_in V4) ≡ true
unfolding built_in path_at
all_fine = refl

-- ---- every built-in board

right_bands : (b : Board) → AllRight (board_plan b) (built_in b)
unfolding built_in board_plan
right_bands Generic = (λ hz from to word. sym (shifted_up (band 0 18446744073709551615 0 0 3 0) hz (omega arith) (omega arith)) ∙ ap (λ (n : ℕ). planned 0 (board_plan Generic n)) (add-zero hz), tt)
right_bands V4 = all_right (built_in V4) all_fine

gapless : (b : Board) → chained 0 (built_in b) ≡ true
unfolding built_in
gapless Generic = refl
gapless V4 = refl

-- what was written is read: computed
pub bands_back : (b : Board) → bands_of (board_table b) ≡ built_in b
unfolding built_in table_bytes band_bytes le_bytes bands_in band_of le_value
bands_back Generic = refl
bands_back V4 = refl

pub well_formed : (b : Board) → table_ok (board_table b) ≡ true
unfolding table_ok built_in table_bytes band_bytes le_bytes bands_in band_of le_value ascending
well_formed Generic = refl
well_formed V4 = refl

-- by the table of a built-in board the plan is the built-in plan, at every frequency of 64 bits
pub built_in_lem : (b : Board) (hz : ℕ) → hz < 18446744073709551616 → plan_by (board_table b) hz ≡ planned 0 (board_plan b hz)
unfolding plan_by
built_in_lem b hz h = rw (well_formed b, bands_back b) (everywhere (board_plan b) (built_in b) 0 (gapless b) (right_bands b) hz (omega arith) h)

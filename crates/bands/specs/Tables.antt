-- Boards from a table. Document 02, #113: "A board is up to 16 bands: first and last Hz, an i64 shift, inverted or not, input path or none, notch or
-- not. Bands ascend and don't overlap." A table is its bands' bytes end to end, 27 each.
-- Assumes nothing.
use Rattle.std.specs.Prelude.{ℕ, zero, suc, ◌/◌, ◌%◌, ◌^◌, Bool, true, false, cond, ◌&&◌, List, [], ◌∷◌, ◌++◌, eqb, leb, ltb, ℤ, pos, negsuc, ◌+ℤ◌, length, get_or, take, drop, Option, Some, None}
use Rattle.std.specs.Int.{w64}
use Rattle.std.proofs.Common.{to_z}
use Rattle.wire.specs.Bytes.{le_bytes, le_value}
use Rattle.board.specs.declared.Path.{Path}
use Rattle.board.specs.declared.Board.{Board}
use Rattle.board.specs.declared.Board.TheVariants.{Generic, V4}
use Rattle.board.specs.declared.Plan.{Plan}
use Rattle.board.specs.Numbers.{path_of}
use Rattle.refusals.specs.declared.Answer.TheVariants.{Refused}
use Rattle.refusals.specs.Lent.{Given, given, lent_to}
use Rattle.refusals.specs.Table.{SETUP, FREQUENCY, TABLE}
use Rattle.bands.specs.declared.Band.{Band}
use Rattle.bands.specs.declared.Planned.{Planned}

-- ---- a band in 27 bytes: first, last and shift of eight, low byte first, the shift by its bits; inverted, path and notch of one

abbrev pub band : ℕ → ℕ → ℕ → ℕ → ℕ → ℕ → Band
band first last shift inverted path notch =
    record { first = first; last = last; shift = shift; inverted = inverted; path = path; notch = notch }

unfoldable pub band_of : List ℕ → Band
band_of b = band (le_value (take 8 b)) (le_value (take 8 (drop 8 b))) (le_value (take 8 (drop 16 b))) (get_or b 24 0) (get_or b 25 0) (get_or b 26 0)

unfoldable pub band_bytes : Band → List ℕ
band_bytes b = le_bytes 8 b.first ++ (le_bytes 8 b.last ++ (le_bytes 8 b.shift ++ (b.inverted ∷ b.path ∷ b.notch ∷ [])))

-- the first k bands of some bytes
unfoldable pub bands_in : ℕ → List ℕ → List Band
bands_in zero s = []
bands_in (suc k) s = band_of s ∷ bands_in k (drop 27 s)

abbrev pub bands_of : List ℕ → List Band
bands_of s = bands_in (length s / 27) s

unfoldable pub table_bytes : List Band → List ℕ
table_bytes [] = []
table_bytes (b ∷ bs) = band_bytes b ++ table_bytes bs

-- ---- the tables that are taken. Refusal 19: "for a malformed table"

-- first above last, a flag that is neither 0 nor 1, a path above 3
abbrev pub fits_of : Band → Bool
fits_of b = leb b.first b.last && leb b.inverted 1 && leb b.path 3 && leb b.notch 1

-- "Bands ascend and don't overlap": each begins past the last of the one before, the first at `least` or above
unfoldable pub ascending : ℕ → List Band → Bool
ascending least [] = true
ascending least (b ∷ bs) = (fits_of b && leb least b.first) && ascending (suc b.last) bs

-- "up to 16 bands"
unfoldable pub table_ok : List ℕ → Bool
table_ok s = (eqb (length s % 27) 0 && leb (length s) 432) && ascending 0 (bands_of s)

-- ---- the plan by a table

abbrev pub plan : ℕ → Bool → Option Path → Bool → Plan
plan hz inverted path notch = record { hz = hz; inverted = inverted; path = path; notch = notch }

abbrev pub planned : ℕ → Plan → Planned
planned refusal p = record { refusal = refusal; plan = p }

-- no plan: not inverted, no path, no notch
abbrev pub refused : ℕ → Planned
refused number = planned number (plan 0 false None false)

abbrev pub holds : Band → ℕ → Bool
holds b hz = leb b.first hz && leb hz b.last

-- path 0 HF, 1 VHF, 2 UHF, 3 none
abbrev pub tuned : Band → ℕ → Planned
tuned b hz = planned 0 (plan hz (eqb b.inverted 1) (path_of b.path) (eqb b.notch 1))

-- "2 for a frequency .. shifted below 0 or past u64"
abbrev pub landed : Band → ℤ → Planned
landed b (pos hz) = cond (ltb hz (2 ^ 64)) (tuned b hz) (refused FREQUENCY)
landed b (negsuc n) = refused FREQUENCY

unfoldable pub plan_at : Band → ℕ → Planned
plan_at b hz = landed b (pos hz +ℤ to_z w64 b.shift)

-- "2 for a frequency in no band"
unfoldable pub plan_in : List Band → ℕ → Planned
plan_in [] hz = refused FREQUENCY
plan_in (b ∷ bs) hz = cond (holds b hz) (plan_at b hz) (plan_in bs hz)

-- "new 19 table, for a malformed table; then 2"
unfoldable pub plan_by : List ℕ → ℕ → Planned
plan_by s hz = cond (table_ok s) (plan_in (bands_of s) hz) (refused TABLE)

-- ---- the boards that are built in. "The V4 plan written as eight bands"

unfoldable pub built_in : Board → List Band
built_in Generic = band 0 18_446_744_073_709_551_615 0 0 3 0 ∷ []
built_in V4 =
    band 0 2_200_000 28_800_000 1 0 1
    ∷ band 2_200_001 28_799_999 28_800_000 1 0 0
    ∷ band 28_800_000 84_999_999 0 0 1 0
    ∷ band 85_000_000 112_000_000 0 0 1 1
    ∷ band 112_000_001 171_999_999 0 0 1 0
    ∷ band 172_000_000 242_000_000 0 0 1 1
    ∷ band 242_000_001 249_999_999 0 0 1 0
    ∷ band 250_000_000 18_446_744_073_709_551_615 0 0 2 0
    ∷ []

abbrev pub board_table : Board → List ℕ
board_table b = table_bytes (built_in b)

-- laid into a lent slice; the value is how many bytes were written. A number that names no board is refused 1
abbrev pub table_lent : Board → List ℕ → Given
table_lent b out = lent_to 0 (length (board_table b)) (board_table b) out

unfoldable pub table_into : Option Board → List ℕ → Given
table_into None out = given (Refused SETUP) out
table_into (Some b) out = table_lent b out

-- The technicians' worksheet. Document 02, #111: "a table of six lo ranges for the divider, and the fractional sum written out step by step".
-- Assumes nothing.
use Rattle.std.specs.Prelude.{ℕ, ◌+◌, ◌-◌, ◌*◌, ◌/◌, ◌%◌, Bool, true, false, cond, not, ◌&&◌, List, [], ◌∷◌, leb, ltb, eqb, Option, Some, None}
use Rattle.pll.specs.declared.Kind.{Kind}
use Rattle.pll.specs.declared.Plan.{Plan}
use Rattle.pll.specs.Plan.{cap_of}
use Rattle.worksheet.specs.declared.Band.{Band}
use Rattle.worksheet.specs.declared.Line.{Line}
use Rattle.worksheet.specs.declared.Sheet.{Sheet}
use Rattle.worksheet.specs.declared.Work.{Work}

-- the first lo, the last, and the divider
abbrev pub to : ℕ → ℕ → ℕ → Band
to first last m = record { 0 = first; 1 = last; 2 = m }

abbrev pub bands : List Band
bands =
    to 885_000_000 1_799_999_999 2
    ∷ to 442_500_000 884_999_999 4
    ∷ to 221_250_000 442_499_999 8
    ∷ to 110_625_000 221_249_999 16
    ∷ to 55_312_500 110_624_999 32
    ∷ to 27_656_250 55_312_499 64
    ∷ []

-- lo against one range, where m is what the ranges before it gave; 0 stands for none
unfoldable pub band_of : ℕ → ℕ → Band → ℕ
band_of lo m b = cond (leb b.0 lo && leb lo b.1) b.2 m

unfoldable pub bands_of : ℕ → ℕ → List Band → ℕ
bands_of lo m [] = m
bands_of lo m (b ∷ bs) = bands_of lo (band_of lo m b) bs

abbrev pub divider_on : ℕ → ℕ
divider_on lo = bands_of lo 0 bands

-- by what 2K is divided, what is added to S, whether the sum ends there
abbrev pub adds : ℕ → ℕ → Bool → Line
adds n weight ends = record { 0 = n; 1 = weight; 2 = ends }

abbrev pub lines : List Line
lines =
    adds 2 32_768 false
    ∷ adds 4 16_384 false
    ∷ adds 8 8_192 false
    ∷ adds 16 4_096 false
    ∷ adds 32 2_048 false
    ∷ adds 64 1_024 false
    ∷ adds 128 512 false
    ∷ adds 256 256 false
    ∷ adds 512 128 false
    ∷ adds 1_024 64 false
    ∷ adds 2_048 32 false
    ∷ adds 4_096 16 false
    ∷ adds 8_192 8 false
    ∷ adds 16_384 4 false
    ∷ adds 32_768 2 true
    ∷ adds 65_536 1 true
    ∷ []

-- one line, unless the sum has ended: where more than 1 and more than its share 2K/n is left of F, the share goes off F and the weight onto S
unfoldable pub line_of : ℕ → Work → Line → Work
line_of k w l =
    cond (not w.ended && (ltb 1 w.left && ltb (2 * k / l.0) w.left))
    (record { sum = w.sum + l.1; left = w.left - 2 * k / l.0; ended = l.2 })
    w

unfoldable pub lines_of : ℕ → Work → List Line → Work
lines_of k w [] = w
lines_of k w (l ∷ ls) = lines_of k (line_of k w l) ls

abbrev pub sum_on : ℕ → ℕ → Work
sum_on k f = lines_of k (record { sum = 0; left = f; ended = false }) lines

-- the byte for 0x14: how many fours are in N - 13 in its low six bits, and what is left of them in its top two
abbrev pub byte_of : ℕ → ℕ
byte_of n = (n - 13) % 4 * 64 + (n - 13) / 4

-- N and F: how often 2R goes into lo·m, and the thousands of what is left
abbrev pub filled_of : ℕ → ℕ → ℕ → Option Sheet
filled_of m vco r =
    Some (record {
      m = m;
      n = vco / (2 * r);
      setting = byte_of (vco / (2 * r));
      sum = (sum_on (r / 1000) (vco % (2 * r) / 1000)).sum;
      rest = (sum_on (r / 1000) (vco % (2 * r) / 1000)).left;
    })

-- "N below 13 is refused", and above the cap as by document 01
unfoldable pub sheet_with : Kind → ℕ → ℕ → ℕ → Option Sheet
sheet_with kind m vco r =
    cond (leb 13 (vco / (2 * r)) && leb (vco / (2 * r)) (cap_of kind)) (filled_of m vco r) None

unfoldable pub sheet_of : Kind → ℕ → ℕ → Option Sheet
sheet_of kind lo r =
    cond (eqb r 0) None (cond (eqb (divider_on lo) 0) None (sheet_with kind (divider_on lo) (lo * divider_on lo) r))

-- what of a plan of crate pll stands on a sheet
abbrev pub filled_by : Option Plan → Option Sheet
filled_by (Some p) = Some (record { m = p.m; n = p.n; setting = p.setting; sum = p.sum; rest = p.rest })
filled_by None = None

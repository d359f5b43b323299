-- The PLL's numbers as a host takes them, by either engine. Document 02, #111: "the same divider, N, S, rest and refusal".
-- Assumes nothing.
use Rattle.std.specs.Prelude.{ℕ, ◌/◌, ◌%◌, cond, List, [], ◌∷◌, eqb, ltb, Option, Some, None}
use Rattle.refusals.specs.Lent.{Given, lent_to}
use Rattle.refusals.specs.Table.{SETUP, FREQUENCY, CORRECTION}
use Rattle.pll.specs.declared.Kind.{Kind}
use Rattle.pll.specs.declared.Kind.TheVariants.{R820T, R828D}
use Rattle.pll.specs.Plan.{plan_of}
use Rattle.worksheet.specs.declared.Sheet.{Sheet}
use Rattle.worksheet.specs.Sheet.{sheet_of, filled_by}
use Rattle.answers.specs.declared.Laid.{Laid}

-- the kind of a number that names one
abbrev pub kind_named : ℕ → Kind
kind_named n = cond (eqb n 0) R820T R828D

-- the divider (2 to 64), N, the byte for 0x14, S with its low byte first
abbrev pub sheet_bytes : Sheet → List ℕ
sheet_bytes s = s.m % 256 ∷ s.n ∷ s.setting ∷ s.sum % 256 ∷ s.sum / 256 ∷ []

abbrev pub nothing : ℕ → Laid
nothing refusal = record { refusal = refusal; value = 0; bytes = 0 ∷ 0 ∷ 0 ∷ 0 ∷ 0 ∷ [] }

abbrev pub filled_in : Option Sheet → Laid
filled_in (Some s) = record { refusal = 0; value = s.rest; bytes = sheet_bytes s }
filled_in None = nothing FREQUENCY

-- a kind that is not valid is 1, a reference of 0 is 4, then 2
unfoldable pub laid_of : ℕ → ℕ → Option Sheet → Laid
laid_of kind r f = cond (ltb 1 kind) (nothing SETUP) (cond (eqb r 0) (nothing CORRECTION) (filled_in f))

abbrev pub laid_to : Laid → List ℕ → Given
laid_to l out = lent_to l.refusal l.value l.bytes out

abbrev pub pll_into : ℕ → ℕ → ℕ → List ℕ → Given
pll_into kind lo r out = laid_to (laid_of kind r (filled_by (plan_of (kind_named kind) lo r))) out

abbrev pub worksheet_into : ℕ → ℕ → ℕ → List ℕ → Given
worksheet_into kind lo r out = laid_to (laid_of kind r (sheet_of (kind_named kind) lo r)) out

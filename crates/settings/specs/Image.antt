-- Receiver settings and their image on file. Document 02, #108: "Store 19 bytes: kind (0 R820T, 1 R828D), board (0 generic, 1 V4), correction i32, rate
-- u32, frequency u64, gain index 0..28, numbers low byte first; then a 4-byte trailer: edition 1, a zero, and the distance back as u16, here 19."
-- Assumes nothing.
use Rattle.std.specs.Prelude.{ℕ, ◌^◌, ◌<◌, ◌≡◌, Bool, true, ◌&&◌, List, [], ◌∷◌, ◌++◌, eqb, leb}
use Rattle.std.specs.Int.{w32}
use Rattle.std.proofs.Common.{SFits, of_z}
use Rattle.wire.specs.Bytes.{le_bytes}
use Rattle.wire.specs.Parts.{joined, sum}
use Rattle.pll.specs.declared.Kind.TheVariants.{R828D}
use Rattle.pll.specs.Plan.{kind_number}
use Rattle.board.specs.declared.Board.TheVariants.{V4}
use Rattle.board.specs.Numbers.{board_number}
use Rattle.gain.specs.Steps.{clamped}
use Rattle.settings.specs.declared.Settings.{Settings}
use Rattle.settings.specs.declared.Settings2.{Settings2}

-- ---- an image of any edition: numbers of their widths, and the trailer

unfoldable pub parts_of : List ℕ → List ℕ → List (List ℕ)
parts_of [] ns = []
parts_of (k ∷ ks) [] = []
parts_of (k ∷ ks) (n ∷ ns) = le_bytes k n ∷ parts_of ks ns

-- "a 4-byte trailer: edition .., a zero, and the distance back as u16"
unfoldable pub trailer : ℕ → ℕ → List ℕ
trailer edition distance = edition ∷ 0 ∷ le_bytes 2 distance

unfoldable pub image_of : ℕ → List ℕ → List ℕ → List ℕ
image_of edition ks ns = joined (parts_of ks ns) ++ trailer edition (sum ks)

-- as many numbers as widths, each within its width
abbrev pub Within : List ℕ → List ℕ → Type 0
Within [] [] = Unit {0}
Within [] (n ∷ ns) = ⊥
Within (k ∷ ks) [] = ⊥
Within (k ∷ ks) (n ∷ ns) = (n < 256 ^ k) × Within ks ns

-- ---- edition 1

-- kind, board, correction, rate, frequency, gain index
abbrev pub widths1 : List ℕ
widths1 = 1 ∷ 1 ∷ 4 ∷ 4 ∷ 8 ∷ 1 ∷ []

abbrev pub numbers1 : Settings → List ℕ
numbers1 s = s.kind ∷ s.board ∷ of_z w32 s.ppm ∷ s.rate ∷ s.frequency ∷ s.gain ∷ []

abbrev pub image1 : Settings → List ℕ
image1 s = image_of 1 widths1 (numbers1 s)

-- "kind, board or gain out of range": the numbers by which kinds and boards cross to a host, and the indices that a call by index does not clamp
unfoldable pub fits_of : Settings → Bool
fits_of s = leb s.kind (kind_number R828D) && leb s.board (board_number V4) && eqb (clamped s.gain) s.gain

-- a settings record: every number in its type's range, and fitting
pub record Proper (s : Settings) : Type 0 where
  pub fits : fits_of s ≡ true
  pub ppm : SFits w32 s.ppm
  pub rate : s.rate < 256 ^ 4
  pub frequency : s.frequency < 256 ^ 8

-- ---- edition 2. Document 02, #112: "Edition 2 has 23 bytes: those of edition 1, then IF u32."

abbrev pub widths2 : List ℕ
widths2 = 1 ∷ 1 ∷ 4 ∷ 4 ∷ 8 ∷ 1 ∷ 4 ∷ []

abbrev pub numbers2 : Settings2 → List ℕ
numbers2 w =
    w.settings.kind
    ∷ w.settings.board
    ∷ of_z w32 w.settings.ppm
    ∷ w.settings.rate
    ∷ w.settings.frequency
    ∷ w.settings.gain
    ∷ w.ifreq
    ∷ []

abbrev pub image2 : Settings2 → List ℕ
image2 w = image_of 2 widths2 (numbers2 w)

abbrev pub wider : Settings → ℕ → Settings2
wider s ifreq = record { settings = s; ifreq = ifreq }

-- the IF that edition 1 stands for: "Move edition 1 to 2 with IF 2,300,000"
abbrev pub usual_if : ℕ
usual_if = 2300000

pub record Proper2 (w : Settings2) : Type 0 where
  pub first : Proper w.settings
  pub ifreq : w.ifreq < 256 ^ 4

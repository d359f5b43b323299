-- The corrected reference. Document 01, "The record": "Corrected reference: nominal + nominal·ppm / 1,000,000, the quotient cut toward zero."
-- "Refusal numbers", 4: "corrected reference not 1..4,294,967,295".
use Rattle.std.specs.Prelude.{ℕ, cond, ◌&&◌, leb, ℤ, pos, negsuc, ◌+ℤ◌, ◌*ℤ◌, Option, Some, None}
use Rattle.std.specs.Int.Signed.{quot_z}

abbrev pub accept_of : ℤ → Option ℕ
accept_of (pos v) = cond (leb 1 v && leb v 4_294_967_295) (Some v) None
accept_of (negsuc v) = None

unfoldable pub corrected_of : ℕ → ℤ → Option ℕ
corrected_of nominal ppm = accept_of (pos nominal +ℤ quot_z (pos nominal *ℤ ppm) (pos 1_000_000))

-- `settings::put_fields` meets its contract: the fields, stored one after the other, are their parts joined.
-- Assumes nothing.
use mathlib.Core.Path.{◌≡◌, ap, ◌∙◌}
use mir.Syntax.{w32}
use mir.Val.{SFits, of_z}
use mir.Facts.{to_z-of_z}
use Rattle.settings.proofs.Laws.{fields_laid}
use borrow.Author.Rules.{rules}
use Rattle.settings.proofs.put_fields.Goals as goal

pub returns : goal.returns
returns c =
    let a =
    c.args in
    let small : SFits w32 a.s.ppm = search rules in
    let to-bits = c.to_bits in
    let bits : to-bits.result ≡ of_z w32 a.s.ppm = to-bits.ensures ∙ ap (of_z w32) (to_z-of_z small) in
    rw (c.put-6.ensures, c.put-5.ensures, c.put-4.ensures, c.put-3.ensures, bits, c.put-2.ensures, c.put.ensures)
    (fields_laid a.image.now a.s)

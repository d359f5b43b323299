-- Images of any edition: numbers of any widths and their trailer, at the end of any bytes. What is written is read, and what is not refused was written.
-- Assumes nothing.
use Prim.Native.Nat.{ℕ, suc, ◌+◌, ◌-◌, ◌<◌, ◌≤◌}
use mathlib.Core.Path.{◌≡◌, refl, sym, ap, ap₂, ◌∙◌}
use mathlib.Core.List.{List, [], ◌∷◌, ◌++◌, map, append_assoc}
use native.Mathlib.Omega.{arith}
use lib.ListN.{length, get_or, take, drop, length-append, length-drop, take-append-drop}
use lib.Seq.{sets, drop-append-le, drop_at, drop-cons, drop-drop, get_or-drop, take_all, take-append-le}
use Rattle.wire.specs.Bytes.{Bytes, le_bytes, le_value}
use Rattle.wire.specs.Parts.{Sized, joined, parts_from, sum}
use Rattle.wire.proofs.Joins.{joined_parts, length_joined, parts_joined}
use Rattle.wire.proofs.Stores.{sets_append}
use Rattle.wire.proofs.Widths.{length-le_bytes, one_below, one_number, value_bytes}
use Rattle.refusals.proofs.Giving.{covered}
use Rattle.settings.specs.Image.{Within, image_of, parts_of, trailer}
use Rattle.settings.specs.Reading.{distance_of, edition_of, filler_of, values_in}

pub sized : (ks ns : List ℕ) → length ks ≡ length ns → Sized ks (parts_of ks ns)
unfolding parts_of
sized [] ns h = tt
sized (k ∷ ks) [] h = absurd (omega (arith, h))
sized (k ∷ ks) (n ∷ ns) h = (length-le_bytes k n, sized ks ns (omega (arith, h)))

as_many : (ks ns : List ℕ) → Within ks ns → length ks ≡ length ns
as_many [] [] h = refl
as_many [] (n ∷ ns) h = absurd h
as_many (k ∷ ks) [] h = absurd h
as_many (k ∷ ks) (n ∷ ns) h = ap suc (as_many ks ns h.1)

values_read : (ks ns : List ℕ) → Within ks ns → map le_value (parts_of ks ns) ≡ ns
unfolding parts_of
values_read [] [] h = refl
values_read [] (n ∷ ns) h = absurd h
values_read (k ∷ ks) [] h = absurd h
values_read (k ∷ ks) (n ∷ ns) h = ap₂ ◌∷◌ (value_bytes k n h.0) (values_read ks ns h.1)

pub length_trailer : (e d : ℕ) → length (trailer e d) ≡ 4
unfolding trailer le_bytes
length_trailer e d = refl

pub length_image : (edition : ℕ) (ks ns : List ℕ) → length ks ≡ length ns → length (image_of edition ks ns) ≡ sum ks + 4
unfolding image_of
length_image edition ks ns h =
    length-append (joined (parts_of ks ns)) (trailer edition (sum ks))
    ∙ ap₂ ◌+◌ (length_joined ks (parts_of ks ns) (sized ks ns h)) (length_trailer edition (sum ks))

-- fields and trailer, stored over as many bytes, are the image
pub image_laid : (edition : ℕ) (ks ns l : List ℕ) → length ks ≡ length ns → length l ≡ sum ks + 4
    → sets (sets l 0 (joined (parts_of ks ns))) (sum ks) (trailer edition (sum ks)) ≡ image_of edition ks ns
unfolding image_of
image_laid edition ks ns l h e =
    let fields : length (joined (parts_of ks ns)) ≡ sum ks = length_joined ks (parts_of ks ns) (sized ks ns h) in
    let all : length (image_of edition ks ns) ≡ length l = length_image edition ks ns h ∙ sym e in
    let here : 0 + length (joined (parts_of ks ns)) ≡ sum ks = omega arith in
    ap (λ (i : ℕ). sets (sets l 0 (joined (parts_of ks ns))) i (trailer edition (sum ks))) (sym here)
    ∙ sym (sets_append l 0 (joined (parts_of ks ns)) (trailer edition (sum ks)))
    ∙ covered l (image_of edition ks ns) all

-- parts do not look past their end
front : (at : ℕ) (ks l r : List ℕ) → at + sum ks ≤ length l → parts_from at ks (l ++ r) ≡ parts_from at ks l
front at [] l r h = refl
front at (k ∷ ks) l r h =
    let here : at ≤ length l = omega (arith, h) in
    let part : take k (drop at (l ++ r)) ≡ take k (drop at l) =
    ap (take k) (drop-append-le at l r here) ∙ take-append-le k (drop at l) r (omega (arith, h, length-drop at l)) in
    ap₂ ◌∷◌ part (front (at + k) ks l r (omega (arith, h)))

-- ---- written, then read: p stands before it

module _ (p : List ℕ) (edition : ℕ) (ks ns : List ℕ) (within : Within ks ns) where
  pub long : length (p ++ image_of edition ks ns) ≡ length p + (sum ks + 4)
  long = length-append p (image_of edition ks ns) ∙ ap (λ (n : ℕ). length p + n) (length_image edition ks ns (as_many ks ns within))

  fields : List ℕ
  fields = p ++ joined (parts_of ks ns)

  fields_long : length fields ≡ length p + sum ks
  unfolding fields
  fields_long = length-append p (joined (parts_of ks ns)) ∙ ap (λ (n : ℕ). length p + n) (length_joined ks (parts_of ks ns) (sized ks ns (as_many ks ns within)))

  parted : p ++ image_of edition ks ns ≡ fields ++ trailer edition (sum ks)
  unfolding fields image_of
  parted = sym (append_assoc p (joined (parts_of ks ns)) (trailer edition (sum ks)))

  last_four : drop (length (p ++ image_of edition ks ns) - 4) (p ++ image_of edition ks ns) ≡ trailer edition (sum ks)
  last_four =
      let here : length fields ≡ length (p ++ image_of edition ks ns) - 4 = omega (arith, fields_long, long) in
      ap (drop (length (p ++ image_of edition ks ns) - 4)) parted ∙ drop_at fields (trailer edition (sum ks)) (length (p ++ image_of edition ks ns) - 4) here

  pub edition_read : edition_of (p ++ image_of edition ks ns) ≡ edition
  unfolding trailer
  edition_read =
      let b = p ++ image_of edition ks ns in
      let here : length b - 4 + 0 ≡ length b - 4 = omega arith in
      ap (λ (i : ℕ). get_or b i 0) (sym here) ∙ sym (get_or-drop (length b - 4) b 0 0) ∙ ap (λ (l : List ℕ). get_or l 0 0) last_four

  pub filler_read : filler_of (p ++ image_of edition ks ns) ≡ 0
  unfolding trailer
  filler_read =
      let b = p ++ image_of edition ks ns in
      let here : length b - 4 + 1 ≡ length b - 3 = omega (arith, long) in
      ap (λ (i : ℕ). get_or b i 0) (sym here) ∙ sym (get_or-drop (length b - 4) b 1 0) ∙ ap (λ (l : List ℕ). get_or l 1 0) last_four

  pub distance_read : sum ks < 65536 → distance_of (p ++ image_of edition ks ns) ≡ sum ks
  unfolding trailer
  distance_read h =
      let b = p ++ image_of edition ks ns in
      let here : length b - 4 + 2 ≡ length b - 2 = omega (arith, long) in
      let two : drop (length b - 2) b ≡ le_bytes 2 (sum ks) =
      ap (λ (i : ℕ). drop i b) (sym here) ∙ sym (drop-drop 2 (length b - 4) b) ∙ ap (drop 2) last_four in
      let all : take 2 (le_bytes 2 (sum ks)) ≡ le_bytes 2 (sum ks) = take_all 2 (le_bytes 2 (sum ks)) (omega (arith, length-le_bytes 2 (sum ks))) in
      ap (λ (l : List ℕ). le_value (take 2 l)) two ∙ ap le_value all ∙ value_bytes 2 (sum ks) h

  pub numbers_read : values_in ks (p ++ image_of edition ks ns) ≡ ns
  unfolding fields
  numbers_read =
      let b = p ++ image_of edition ks ns in
      let here : length b - 4 - sum ks ≡ length p = omega (arith, long) in
      let parts : parts_from (length p) ks b ≡ parts_of ks ns =
      ap (parts_from (length p) ks) parted
      ∙ front (length p) ks fields (trailer edition (sum ks)) (omega (arith, fields_long))
      ∙ parts_joined p (length p) ks (parts_of ks ns) refl (sized ks ns (as_many ks ns within)) in
      ap (λ (i : ℕ). map le_value (parts_from i ks b)) here ∙ ap (map le_value) parts ∙ values_read ks ns within

-- ---- read, then written

parts_written : (at : ℕ) (ks b : List ℕ) → Bytes b → at + sum ks ≤ length b → parts_of ks (map le_value (parts_from at ks b)) ≡ parts_from at ks b
unfolding parts_of
parts_written at [] b bytes h = refl
parts_written at (k ∷ ks) b bytes h =
    ap₂ ◌∷◌ (one_number k at b bytes (omega (arith, h))) (parts_written (at + k) ks b bytes (omega (arith, h)))

values_within : (at : ℕ) (ks b : List ℕ) → Bytes b → at + sum ks ≤ length b → Within ks (map le_value (parts_from at ks b))
values_within at [] b bytes h = tt
values_within at (k ∷ ks) b bytes h = (one_below k at b bytes (omega (arith, h)), values_within (at + k) ks b bytes (omega (arith, h)))

module _ (b : List ℕ) (bytes : Bytes b) (edition : ℕ) (ks : List ℕ) (long : 4 ≤ length b) (room : sum ks ≤ length b - 4)
    (e : edition_of b ≡ edition) (f : filler_of b ≡ 0) (d : distance_of b ≡ sum ks) where
  abbrev at : ℕ
  at = length b - 4 - sum ks

  fits : at + sum ks ≤ length b
  fits = omega (arith, long, room)

  trailer_written : trailer edition (sum ks) ≡ drop (length b - 4) b
  unfolding trailer
  trailer_written =
      let one : drop (length b - 4) b ≡ get_or b (length b - 4) 0 ∷ drop (suc (length b - 4)) b = drop-cons b (length b - 4) 0 (omega (arith, long)) in
      let i3 : suc (length b - 4) ≡ length b - 3 = omega (arith, long) in
      let two : drop (length b - 3) b ≡ get_or b (length b - 3) 0 ∷ drop (suc (length b - 3)) b = drop-cons b (length b - 3) 0 (omega (arith, long)) in
      let i2 : suc (length b - 3) ≡ length b - 2 = omega (arith, long) in
      let end : take 2 (drop (length b - 2) b) ≡ drop (length b - 2) b = take_all 2 (drop (length b - 2) b) (omega (arith, length-drop (length b - 2) b)) in
      let four : le_bytes 2 (sum ks) ≡ drop (length b - 2) b =
      ap (le_bytes 2) (sym d) ∙ one_number 2 (length b - 2) b bytes (omega (arith, long)) ∙ end in
      sym (one ∙ ap₂ ◌∷◌ e (ap (λ (i : ℕ). drop i b) i3 ∙ two ∙ ap₂ ◌∷◌ f (ap (λ (i : ℕ). drop i b) i2 ∙ sym four)))

  pub within_read : Within ks (values_in ks b)
  within_read = values_within at ks b bytes fits

  pub whole : take at b ++ image_of edition ks (values_in ks b) ≡ b
  unfolding image_of
  whole =
      let here : at + sum ks ≡ length b - 4 = omega (arith, long, room) in
      let parts : joined (parts_of ks (values_in ks b)) ≡ take (sum ks) (drop at b) = ap joined (parts_written at ks b bytes fits) ∙ joined_parts b at ks in
      let end : trailer edition (sum ks) ≡ drop (sum ks) (drop at b) =
      trailer_written ∙ ap (λ (i : ℕ). drop i b) (sym here) ∙ sym (drop-drop (sum ks) at b) in
      ap (λ (l : List ℕ). take at b ++ l) (ap₂ ◌++◌ parts end ∙ take-append-drop (sum ks) (drop at b)) ∙ take-append-drop at b

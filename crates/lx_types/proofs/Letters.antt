-- Names agree in upper case exactly where they agree in lower case.
use Rattle.std.proofs.Common.{◌≡◌, ℕ, List, [], ◌∷◌, map, arith, ap, sym, ◌∙◌, refl}
use Rattle.std.specs.Char.{to_ascii_uppercase, to_ascii_lowercase}
use Rattle.std.proofs.lemmas.Str.Ascii.{lowercase-uppercase}

upper-of-lower : (c : ℕ) → to_ascii_uppercase (to_ascii_lowercase c) ≡ to_ascii_uppercase c
upper-of-lower c = grind arith

upper-lower : (xs : List ℕ) → map to_ascii_uppercase (map to_ascii_lowercase xs) ≡ map to_ascii_uppercase xs
upper-lower [] = refl
upper-lower (x ∷ xs) = rw (upper-of-lower x, upper-lower xs) refl

lower-upper : (xs : List ℕ) → map to_ascii_lowercase (map to_ascii_uppercase xs) ≡ map to_ascii_lowercase xs
lower-upper [] = refl
lower-upper (x ∷ xs) = rw (lowercase-uppercase x, lower-upper xs) refl

pub upper-from-lower : (xs ys : List ℕ) → map to_ascii_lowercase xs ≡ map to_ascii_lowercase ys → map to_ascii_uppercase xs ≡ map to_ascii_uppercase ys
upper-from-lower xs ys same = sym (upper-lower xs) ∙ ap (map to_ascii_uppercase) same ∙ upper-lower ys

pub lower-from-upper : (xs ys : List ℕ) → map to_ascii_uppercase xs ≡ map to_ascii_uppercase ys → map to_ascii_lowercase xs ≡ map to_ascii_lowercase ys
lower-from-upper xs ys same = sym (lower-upper xs) ∙ ap (map to_ascii_lowercase) same ∙ lower-upper ys

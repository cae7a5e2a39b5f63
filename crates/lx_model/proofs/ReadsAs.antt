-- A reading step that gives back what was written, and steps one after the other.
use Rattle.std.proofs.Common.{◌≡◌, ℕ, ◌+◌, ◌*◌, ◌<◌, ◌^◌, false, ltb, List, [], ◌∷◌, ◌++◌, length, Ok, refl, append_assoc, arith, length-append}
use Rattle.std.proofs.lemmas.Bool.{le-ltb}
use Rattle.std.proofs.lemmas.List.{take_at, drop_at}
use Rattle.lx_bytes.specs.Cursor.{Cursor}
use Rattle.lx_bytes.specs.LittleEndian.{little_bytes}
use Rattle.lx_bytes.proofs.Numbers.{length-little_bytes, little-little_bytes}
use Rattle.lx_model.specs.Reading.{cursor, text, number, Read, ◌>>=◌}

-- The step reads these bytes as a value, whatever follows them, and goes on after them.
abbrev pub ReadsAs : {A : Type 0} → (Cursor → Read A) → List ℕ → A → Type 0
ReadsAs step bytes value = (at : ℕ) (rest : List ℕ) → step (cursor at (bytes ++ rest)) ≡ Ok (value, cursor (at + length bytes) rest)

pub text_reads : (bytes : List ℕ) → ReadsAs (text (length bytes)) bytes bytes
text_reads bytes at rest =
    let there : ltb (length (bytes ++ rest)) (length bytes) ≡ false = le-ltb _ _ (omega (arith, length-append bytes rest)) in
    rw (there, take_at bytes rest (length bytes) refl, drop_at bytes rest (length bytes) refl) refl

pub number_reads : (n x : ℕ) → x < 256 ^ n → ReadsAs (number n) (little_bytes n x) x
number_reads n x fits at rest =
    let bytes = little_bytes n x in
    let len : length bytes ≡ n = length-little_bytes n x in
    let there : ltb (length (bytes ++ rest)) n ≡ false = le-ltb _ _ (omega (arith, length-append bytes rest, len)) in
    rw (len, there, take_at bytes rest n len, drop_at bytes rest n len, little-little_bytes n x fits) refl

pub byte_reads : (x : ℕ) → x < 256 → ReadsAs (number 1) (x ∷ []) x
byte_reads x fits at rest =
    let there : ltb (length (x ∷ rest)) 1 ≡ false = le-ltb _ _ (omega arith) in
    let value : x + 256 * 0 ≡ x = omega arith in
    rw (there, value) refl

pub bind_reads : {A B : Type 0} (s : Cursor → Read A) (f : A × Cursor → Read B) (xs ys : List ℕ) (a : A) (b : B) →
    ReadsAs s xs a → ReadsAs (λ d. f (a, d)) ys b → ReadsAs (λ c. s c >>= f) (xs ++ ys) b
bind_reads s f xs ys a b first second at rest =
    let end : at + length xs + length ys ≡ at + length (xs ++ ys) = omega (arith, length-append xs ys) in
    rw (append_assoc xs ys rest, first at (ys ++ rest), second (at + length xs) rest, end) refl

-- a step whose value is made of the one before, with nothing read after it
pub done_reads : {A B : Type 0} (s : Cursor → Read A) (h : A → B) (xs : List ℕ) (a : A) → ReadsAs s xs a → ReadsAs (λ c. s c >>= λ x. Ok (h x.0, x.1)) xs (h a)
done_reads s h xs a first at rest = rw (first at rest) refl

-- How long a library is, and that it is read as its modules.
use Rattle.std.proofs.Common.{◌≡◌, ℕ, zero, suc, ◌+◌, ◌-◌, ◌%◌, ◌<◌, ◌≤◌, List, [], ◌∷◌, ◌++◌, length, take, replicate, slice_index_or, ◌/◌, refl, sym, ap, append_assoc, length-append, arith}
use Rattle.std.specs.List.{flat_map}
use Rattle.lx_bytes.specs.LittleEndian.{little_bytes}
use Rattle.lx_bytes.proofs.Numbers.{length-little_bytes}
use Rattle.obj_types.specs.declared.object.ObjModule.{ObjModule}
use Rattle.omf_model.specs.Object.{IsModule}
use Rattle.omf_model.specs.Library.{Lib, IsPaged, ArePaged}
use Rattle.implib_model.specs.declared.library.TheConstants.{PAGE}
use Rattle.implib_model.specs.Library.{fill_of, page_up, pages_of, library_len, header_bytes, end_bytes, library_bytes, AreModules}

-- what some items before one give and what that one gives are no longer together than what all give
pub prefix_len : {A : Type 0} (f : A → List ℕ) (k : ℕ) (xs : List A) (d : A) → k < length xs → length (flat_map f (take k xs)) + length (f (slice_index_or xs k d)) ≤ length (flat_map f xs)
prefix_len f k [] d lt = absurd (omega arith)
prefix_len f zero (x ∷ xs) d lt = omega (arith, length-append (f x) (flat_map f xs))
prefix_len f (suc k) (x ∷ xs) d lt =
    let rest = prefix_len f k xs d (omega arith) in
    omega (arith, rest, length-append (f x) (flat_map f xs), length-append (f x) (flat_map f (take k xs)))

pub length-replicate : (n x : ℕ) → length (replicate n x) ≡ n
length-replicate zero x = refl
length-replicate (suc n) x = ap suc (length-replicate n x)

-- a module with its fill is whole pages
paged : (bytes : List ℕ) (m : ObjModule) → IsModule bytes m → IsPaged PAGE (page_up bytes) m
paged bytes m is =
    let n = length bytes in
    let fill = length-replicate ((PAGE - n % PAGE) % PAGE) 0 in
    let all = length-append bytes (fill_of n) in
    record {
      body = bytes;
      fill = fill_of n;
      joined = refl;
      is_module = is;
      fewer = omega (arith, fill);
      pages = (n + 15) / 16;
      whole = omega (arith, fill, all);
    }

pages_read : (bytes : List (List ℕ)) (ms : List ObjModule) → AreModules bytes ms → ArePaged PAGE ms (pages_of bytes ++ end_bytes)
pages_read [] [] are = refl
pages_read [] (m ∷ ms) are = absurd are
pages_read (b ∷ bytes) [] are = absurd are
pages_read (b ∷ bytes) (m ∷ ms) are = record {
  front = page_up b;
  back = pages_of bytes ++ end_bytes;
  joined = append_assoc (page_up b) (pages_of bytes) end_bytes;
  first_so = paged b m are.0;
  second_so = pages_read bytes ms are.1;
}

pub library_read : (bytes : List (List ℕ)) (ms : List ObjModule) → AreModules bytes ms → Lib (library_bytes bytes) ms
library_read bytes ms are =
    let len = library_len bytes in
    let four = length-little_bytes 4 len in
    record {
      size = PAGE;
      paged = record {
        front = header_bytes len;
        back = pages_of bytes ++ end_bytes;
        joined = refl;
        first_so = record { contents = little_bytes 4 len ++ 0 ∷ 0 ∷ 1 ∷ replicate 6 0; joined = refl; whole = omega (arith, four, length-append (little_bytes 4 len) (0 ∷ 0 ∷ 1 ∷ replicate 6 0)); page = refl };
        second_so = pages_read bytes ms are;
      };
    }

-- a library is too long where some of its modules are
pub too_long : (ms : List (List ℕ)) (k limit len size fill : ℕ) (own : List ℕ) → k < length ms → own ≡ slice_index_or ms k own → size ≡ length own → fill ≡ (16 - size % 16) % 16 → len ≡ 32 + length (pages_of (take k ms)) →
    limit < len + (size + fill) → limit < library_len ms
too_long ms k limit len size fill own lt is size_is fill_is len_is over =
    let whole : length (page_up own) ≡ size + fill = (let zeros = length-replicate ((PAGE - length own % PAGE) % PAGE) 0 in omega (arith, zeros, size_is, fill_is, length-append own (fill_of (length own)))) in
    let same : length (page_up (slice_index_or ms k own)) ≡ length (page_up own) = ap (λ (b : List ℕ). length (page_up b)) (sym is) in
    let front = prefix_len page_up k ms own lt in
    omega (arith, whole, same, front, len_is, over)

-- Libraries joined are the library of all their modules.
use Rattle.std.proofs.Common.{◌≡◌, ℕ, ◌+◌, ◌-◌, ◌*◌, ◌<◌, ◌≤◌, List, [], ◌∷◌, ◌++◌, length, take, drop, map, replicate, slice_index_or, Result, refl, sym, subst, ap, ◌∙◌, append_assoc, length-append, arith}
use Rattle.std.specs.List.{AllByRecursion as Each}
use Rattle.std.proofs.lemmas.List.{take_at, drop_at}
use Rattle.lx_bytes.specs.LittleEndian.{little_bytes}
use Rattle.lx_bytes.proofs.Numbers.{length-little_bytes}
use Rattle.lx_types.specs.Answers.{Answers}
use Rattle.lx_types.specs.declared.fail.Fail.{Fail}
use Rattle.omf_write.specs.declared.libraries.TheConstants.{LIBRARY_LIMIT}
use Rattle.implib_model.specs.declared.library.TheConstants.{PAGE}
use Rattle.implib_model.specs.Library.{page_up, pages_of, library_len, header_bytes, end_bytes, library_bytes}
use Rattle.omf_write.specs.Joined.{pages_in, joined_pages, joined_len, joined_bytes, HasEnds, modules_together}
use Rattle.omf_write.proofs.LibraryRead.{prefix_len}

header_length : (len : ℕ) → length (header_bytes len) ≡ PAGE
header_length len = omega (arith, length-little_bytes 4 len, length-append (little_bytes 4 len) (0 ∷ 0 ∷ 1 ∷ replicate 6 0))

library_length : (ms : List (List ℕ)) → length (library_bytes ms) ≡ library_len ms
library_length ms =
    let len = library_len ms in
    omega (arith, header_length len, length-append (header_bytes len) (pages_of ms ++ end_bytes), length-append (pages_of ms) end_bytes)

-- the pages of a library that was written
pages_back : (ms : List (List ℕ)) → pages_in (library_bytes ms) ≡ pages_of ms
pages_back ms =
    let len = library_len ms in
    let after : drop PAGE (library_bytes ms) ≡ pages_of ms ++ end_bytes = drop_at (header_bytes len) (pages_of ms ++ end_bytes) PAGE (header_length len) in
    let size : length (pages_of ms) ≡ length (library_bytes ms) - 2 * PAGE = (let whole = library_length ms in omega (arith, whole)) in
    ap (λ (bytes : List ℕ). take (length (library_bytes ms) - 2 * PAGE) bytes) after ∙ take_at (pages_of ms) end_bytes (length (library_bytes ms) - 2 * PAGE) size

pub all_ends : (each : List (List (List ℕ))) → Each HasEnds (map library_bytes each)
all_ends [] = tt
all_ends (ms ∷ each) = (let whole = library_length ms in omega (arith, whole), all_ends each)

pages_append : (xs ys : List (List ℕ)) → pages_of (xs ++ ys) ≡ pages_of xs ++ pages_of ys
pages_append [] ys = refl
pages_append (x ∷ xs) ys = ap (λ (rest : List ℕ). page_up x ++ rest) (pages_append xs ys) ∙ sym (append_assoc (page_up x) (pages_of xs) (pages_of ys))

pages_joined : (each : List (List (List ℕ))) → joined_pages (map library_bytes each) ≡ pages_of (modules_together each)
pages_joined [] = refl
pages_joined (ms ∷ each) =
    ap (λ (front : List ℕ). front ++ joined_pages (map library_bytes each)) (pages_back ms)
    ∙ ap (λ (rest : List ℕ). pages_of ms ++ rest) (pages_joined each)
    ∙ sym (pages_append ms (modules_together each))

-- what joined pages are, by the libraries' modules
record IsJoined (libraries : List (List ℕ)) (each : List (List (List ℕ))) : Type 0 where
  bytes : joined_bytes libraries ≡ library_bytes (modules_together each)
  len : joined_len libraries ≡ library_len (modules_together each)

are_joined : (libraries : List (List ℕ)) (each : List (List (List ℕ))) → libraries ≡ map library_bytes each → IsJoined libraries each
are_joined libraries each is =
    let pages : joined_pages libraries ≡ pages_of (modules_together each) = ap joined_pages is ∙ pages_joined each in
    record {
      bytes = ap (λ (p : List ℕ). header_bytes (2 * PAGE + length p) ++ (p ++ end_bytes)) pages;
      len = ap (λ (p : List ℕ). 2 * PAGE + length p) pages;
    }

abbrev tied : List ℕ → ℕ → List ℕ × ℕ
tied bytes len = (bytes, len)

pair : (a b : List ℕ) (m n : ℕ) → a ≡ b → m ≡ n → tied a m ≡ tied b n
pair a b m n p q = λ i. tied (p i) (q i)

pub joined_answer : {V R : Type 0} (items : V → List ℕ) (libraries : List (List ℕ)) (each : List (List (List ℕ))) (r : Result V (Fail R)) → libraries ≡ map library_bytes each →
    Answers r (λ v. (items v ≡ joined_bytes libraries) × (joined_len libraries ≤ LIBRARY_LIMIT)) (λ _. LIBRARY_LIMIT < joined_len libraries) →
    Answers r (λ v. (items v ≡ library_bytes (modules_together each)) × (library_len (modules_together each) ≤ LIBRARY_LIMIT)) (λ _. LIBRARY_LIMIT < library_len (modules_together each))
joined_answer items libraries each r is h =
    let j = are_joined libraries each is in
    subst (λ (p : List ℕ × ℕ). Answers r (λ v. (items v ≡ p.0) × (p.1 ≤ LIBRARY_LIMIT)) (λ _. LIBRARY_LIMIT < p.1)) (pair (joined_bytes libraries) (library_bytes (modules_together each)) (joined_len libraries) (library_len (modules_together each)) j.bytes j.len) h

pub too_long_together : (libraries : List (List ℕ)) (k len : ℕ) (library own : List ℕ) → k < length libraries → library ≡ slice_index_or libraries k library → own ≡ pages_in library → len ≡ 32 + length (joined_pages (take k libraries)) →
    LIBRARY_LIMIT < len + length own → LIBRARY_LIMIT < joined_len libraries
too_long_together libraries k len library own lt is own_is len_is over =
    let same : length (pages_in (slice_index_or libraries k library)) ≡ length own = ap (λ (b : List ℕ). length (pages_in b)) (sym is) ∙ ap length (sym own_is) in
    let front = prefix_len pages_in k libraries library lt in
    omega (arith, same, front, len_is, over)

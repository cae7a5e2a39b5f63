-- The data of a page has at most 4,096 bytes.
use Rattle.std.proofs.Common.{◌≡◌, ℕ, zero, suc, ◌+◌, ◌*◌, ◌^◌, ◌<◌, ◌≤◌, Bool, true, false, List, [], ◌∷◌, ◌++◌, length, map, drop, refl, cond, length-take, arith}
use Rattle.std.specs.Prelude.{All, nat_lt}
use Rattle.std.specs.List.{flat_map, AllByRecursion, range_with_len}
use Rattle.std.proofs.lemmas.List.{map-append}
use Rattle.std.proofs.lemmas.List.Elements.{All-nil, All-cons}
use Rattle.std.proofs.lemmas.List.Concat.{flat_map-cons}
use Rattle.std.proofs.lemmas.Bool.Decides.{nat_tests}
use Rattle.lx_iter.proofs.Unpacking.{data_few}
use Rattle.lx_types.specs.declared.object.PageHead.{PageHead}
use Rattle.link_model.specs.Records.{page_count}
use Rattle.lx_model.specs.Iterated.{groups_spelling}
use Rattle.lx_model.specs.Packed.{data_of, groups_of}
use Rattle.image_model.specs.Image.{PageForm, plain, iterated}
use Rattle.image_model.specs.PageForms.{pages_in, page_in, form_of_page, form_of_data}
use Rattle.image_model.specs.PageTables.{page_head, form_data, page_heads_from}

-- An entry of such a form has a size that fits its word.
record IsShort (form : PageForm) : Type 0 where
  len : (at : ℕ) → (page_head at form).len < 2 ^ 16

short_data : (d : List ℕ) → length d ≤ 4096 → IsShort (form_of_data d)
short_data [] le = record { len = λ at. omega arith }
short_data (b ∷ d) le = by_test (nat_lt (length (groups_spelling (groups_of (b ∷ d)))) (length (b ∷ d))) refl
  where
    by_test : (t : Bool) → nat_lt (length (groups_spelling (groups_of (b ∷ d)))) (length (b ∷ d)) ≡ t → IsShort (cond t (iterated (groups_of (b ∷ d))) (plain (b ∷ d)))
    by_test true e = record { len = λ at. let less : length (groups_spelling (groups_of (b ∷ d))) < length (b ∷ d) = grind (arith, nat_tests) in omega (arith, less, le) }
    by_test false e = record { len = λ at. omega (arith, le) }

short_page : (page : List ℕ) → length page ≤ 4096 → IsShort (form_of_page page)
unfolding form_of_page
short_page page le = let d = data_few page in short_data (data_of page) (omega (arith, d, le))

-- ---- all pages

short_append : (xs ys : List PageForm) → AllByRecursion IsShort xs → AllByRecursion IsShort ys → AllByRecursion IsShort (xs ++ ys)
short_append [] ys one other = other
short_append (x ∷ xs) ys one other = (one.0, short_append xs ys one.1 other)

short_pages : (bytes : List ℕ) (k n : ℕ) → AllByRecursion IsShort (map form_of_page (map (page_in bytes) (range_with_len k n)))
short_pages bytes k zero = tt
short_pages bytes k (suc n) = (short_page (page_in bytes k) (let l = length-take 4096 (drop (k * 4096) bytes) in omega (arith, l)), short_pages bytes (k + 1) n)

short_forms : (objects : List (List ℕ)) → AllByRecursion IsShort (map form_of_page (flat_map pages_in objects))
short_forms [] = tt
short_forms (bytes ∷ objects) =
    rw (flat_map-cons pages_in bytes objects, map-append form_of_page (pages_in bytes) (flat_map pages_in objects))
    (short_append (map form_of_page (pages_in bytes)) (map form_of_page (flat_map pages_in objects)) (short_pages bytes 0 (page_count (length bytes))) (short_forms objects))

short_heads : (forms : List PageForm) (at : ℕ) → AllByRecursion IsShort forms → All (λ p. p.len < 2 ^ 16) (page_heads_from at forms)
short_heads [] at short = All-nil (λ p. p.len < 2 ^ 16)
short_heads (f ∷ forms) at short =
    All-cons (λ p. p.len < 2 ^ 16) (page_head at f) (page_heads_from (at + length (form_data f)) forms) (short.0.len at) (short_heads forms (at + length (form_data f)) short.1)

pub all_short : (objects : List (List ℕ)) (heads : List PageHead) → heads ≡ page_heads_from 0 (map form_of_page (flat_map pages_in objects)) → All (λ p. p.len < 2 ^ 16) heads
all_short objects heads is = rw is (short_heads (map form_of_page (flat_map pages_in objects)) 0 (short_forms objects))

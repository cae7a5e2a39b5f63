-- The pages of a link have the room that a page has.
use Rattle.std.specs.Prelude.{◌≡◌, ℕ, ◌*◌, ◌≤◌, Bool, true, false, List, [], ◌∷◌, ◌++◌, cond, map, length, drop, find, nat_lt, refl}
use Rattle.std.specs.List.{AllByRecursion, flat_map, range_with_len}
use Rattle.std.proofs.Common.{ap, arith, length-take}
use Rattle.std.proofs.lemmas.Bool.{ltb-true}
use Rattle.lx_types.specs.declared.object.TheConstants.{PAGE_SIZE}
use Rattle.link_model.specs.Link.{Link}
use Rattle.link_model.specs.Patches.{object_bytes}
use Rattle.link_model.specs.Records.{page_count}
use Rattle.lx_model.specs.Iterated.{groups_spelling}
use Rattle.lx_model.specs.Packed.{data_of, repeats, periods, groups_of}
use Rattle.image_model.specs.Image.{plain, iterated}
use Rattle.image_model.specs.Linked.{page_forms}
use Rattle.image_model.specs.PageForms.{page_in, pages_in, form_of_data, form_of_page}
use Rattle.image_model.specs.ReadBack.{FormFits}
use Rattle.lx_iter.proofs.Unpacking.{groups_give, with_fits, data_few}

form_by : (d : List ℕ) (b : Bool) → length d ≤ PAGE_SIZE → nat_lt (length (groups_spelling (groups_of d))) (length d) ≡ b → FormFits (cond b (iterated (groups_of d)) (plain d))
form_by d true few shorter =
    let same = ap length (groups_give d) in
    let less = ltb-true (length (groups_spelling (groups_of d))) (length d) shorter in
    (with_fits d (find (repeats d) periods) few, omega (arith, same, few), omega (arith, less, few))
form_by d false few shorter = few

form_fits : (d : List ℕ) → length d ≤ PAGE_SIZE → FormFits (form_of_data d)
form_fits [] few = tt
form_fits (b ∷ d) few = form_by (b ∷ d) (nat_lt (length (groups_spelling (groups_of (b ∷ d)))) (length (b ∷ d))) few refl

page_fits : (page : List ℕ) → length page ≤ PAGE_SIZE → FormFits (form_of_page page)
unfolding form_of_page
page_fits page few = let less = data_few page in form_fits (data_of page) (omega (arith, less, few))

page_short : (bytes : List ℕ) (k : ℕ) → length (page_in bytes k) ≤ PAGE_SIZE
page_short bytes k = let size = length-take PAGE_SIZE (drop (k * PAGE_SIZE) bytes) in omega (arith, size)

-- ---- all pages

each_page : (bytes : List ℕ) (ks : List ℕ) (rest : List (List ℕ)) → AllByRecursion FormFits (map form_of_page rest) → AllByRecursion FormFits (map form_of_page (map (page_in bytes) ks ++ rest))
each_page bytes [] rest each = each
each_page bytes (k ∷ ks) rest each = (page_fits (page_in bytes k) (page_short bytes k), each_page bytes ks rest each)

each_object : (objects : List (List ℕ)) → AllByRecursion FormFits (map form_of_page (flat_map pages_in objects))
each_object [] = tt
each_object (bytes ∷ objects) =
    each_page bytes (range_with_len 0 (page_count (length bytes))) (flat_map pages_in objects) (each_object objects)

pub forms-fit : (l : Link) → AllByRecursion FormFits (page_forms l)
unfolding page_forms
forms-fit l = each_object (object_bytes l)

-- The bytes of a page, as the file of a link has them, are those that stand in the link's objects before the loader.
use Rattle.std.specs.Prelude.{◌≡◌, ℕ, zero, suc, ◌+◌, ◌-◌, ◌*◌, ◌/◌, ◌%◌, ◌<◌, ◌≤◌, nat_lt, Bool, true, false, cond, List, [], ◌∷◌, ◌++◌, Some, map, length, drop, get_or, slice_get, slice_index, refl}
use Rattle.std.specs.List.{AllByRecursion, flat_map, enumerate_from, range_with_len}
use Rattle.std.proofs.Common.{ap, sym, ◌∙◌, arith, subst, replicate}
use Rattle.std.proofs.Math.Nat.{mul-div-le, div-add-mod, mod-lt}
use Rattle.std.proofs.Math.ListN.{get_or-append, get_or-eq_default}
use Rattle.std.proofs.lemmas.Bool.Decides.{nat_tests}
use Rattle.std.proofs.lemmas.List.{length-map, get_or-map, get_or-take, get_or-drop, get_or-append_right}
use Rattle.std.proofs.lemmas.List.FromFn.{get_or-map-range_with_len, length-range_with_len}
use Rattle.std.proofs.lemmas.Bool.{lt-ltb}
use Rattle.lx_types.specs.Object.{zero_page, page_of}
use Rattle.lx_types.specs.Parts.{span, object_of}
use Rattle.lx_types.specs.declared.object.ObjHead.{ObjHead}
use Rattle.lx_types.specs.declared.object.PageHead.{PageHead}
use Rattle.lx_types.specs.declared.object.TheConstants.{PAGE_SIZE}
use Rattle.link_model.specs.declared.symbols.LaidObject.{LaidObject}
use Rattle.link_model.specs.Link.{Link}
use Rattle.link_model.specs.Layout.{objects}
use Rattle.link_model.specs.Patches.{page_byte, object_bytes}
use Rattle.link_model.specs.Records.{page_count}
use Rattle.lx_model.specs.Fixed.{kind_bytes, page_bytes, Raw}
use Rattle.lx_model.specs.Iterated.{groups_data, groups_spelling, expansion}
use Rattle.lx_model.specs.ModuleBytes.{page_with}
use Rattle.lx_model.specs.Packed.{data_of, groups_of}
use Rattle.lx_model.specs.Reading.{value_or}
use Rattle.lx_model.proofs.PagesRead.{groups_again}
use Rattle.image_model.specs.File.{file_of}
use Rattle.image_model.specs.Image.{Image, PageForm, plain, iterated, zeros}
use Rattle.image_model.specs.Linked.{page_forms, image_of}
use Rattle.image_model.specs.PageForms.{page_in, pages_in, form_of_data, form_of_page}
use Rattle.image_model.specs.PageTables.{form_data, page_head, page_heads_from}
use Rattle.image_model.specs.ReadBack.{FormFits, placed_page, ImageFits, parts_of_image}
use Rattle.image_model.specs.Sections as s
use Rattle.image_model.proofs.RecordsRead.{spanned, regrouped}
use Rattle.image_model.proofs.Standing.{HasFrom, standing, after, from_others}
use Rattle.lx_iter.proofs.Unpacking.{groups_give, data_filled}
use Rattle.layer_laws.proofs.TablePages.{all-of, Counts, object-found}

-- ---- the bytes of a page's form

abbrev form_bytes : PageForm → List ℕ
form_bytes (plain bytes) = bytes
form_bytes (iterated groups) = groups_data groups
form_bytes zeros = []

-- The bytes that a file gives for an entry of the page table.
abbrev bytes_at : List ℕ → PageHead → List ℕ
bytes_at file page = kind_bytes page.kind (span file page.at (page.at + page.len))

form_read : (file : List ℕ) (from at : ℕ) (form : PageForm) (rest : List ℕ) → FormFits form → HasFrom file (from + at) (form_data form ++ rest) → bytes_at file (placed_page from (page_head at form)) ≡ form_bytes form
form_read file from at (plain bytes) rest fits has = spanned file (from + at) bytes rest has
form_read file from at (iterated groups) rest fits has =
    ap (λ (ys : List ℕ). value_or [] (expansion ys)) (spanned file (from + at) (groups_spelling groups) rest has) ∙ ap (value_or []) (groups_again groups fits.0 fits.1)
form_read file from at zeros rest fits has = refl

forms_read : (file : List ℕ) (from : ℕ) (forms : List PageForm) (at : ℕ) (rest : List ℕ) → AllByRecursion FormFits forms → HasFrom file (from + at) (flat_map form_data forms ++ rest)
    → map (bytes_at file) (map (placed_page from) (page_heads_from at forms)) ≡ map form_bytes forms
forms_read file from [] at rest fits has = refl
forms_read file from (form ∷ forms) at rest fits has =
    let bytes = form_data form in
    let tail = flat_map form_data forms ++ rest in
    let here = regrouped file (from + at) bytes (flat_map form_data forms) rest has in
    let place : from + at + length bytes ≡ from + (at + length bytes) = omega arith in
    let next = subst (λ (n : ℕ). HasFrom file n tail) place (after file (from + at) bytes tail here) in
    ap (λ (xs : List ℕ). xs ∷ map (bytes_at file) (map (placed_page from) (page_heads_from (at + length bytes) forms))) (form_read file from at form tail fits.0 here)
    ∙ ap (λ (xss : List (List ℕ)). form_bytes form ∷ xss) (forms_read file from forms (at + length bytes) rest fits.1 next)

table_read : (m : Image) → ImageFits m → map (bytes_at (file_of m)) (parts_of_image m).pages ≡ map form_bytes m.pages
unfolding s.sections parts_of_image
table_read m fits =
    let from = s.data_at (s.sections m) in
    let none : from ≡ from + 0 = omega arith in
    forms_read (file_of m) from m.pages 0 (from_others (s.sections m)) fits.pages (subst (λ (n : ℕ). HasFrom (file_of m) n (flat_map form_data m.pages ++ from_others (s.sections m))) none (standing m).contents)

-- ---- the data of the pages of a link

give_by : (d : List ℕ) (b : Bool) → form_bytes (cond b (iterated (groups_of d)) (plain d)) ≡ d
give_by d true = groups_give d
give_by d false = refl

data_gives : (d : List ℕ) → form_bytes (form_of_data d) ≡ d
data_gives [] = refl
data_gives (b ∷ d) = give_by (b ∷ d) (nat_lt (length (groups_spelling (groups_of (b ∷ d)))) (length (b ∷ d)))

pages_give : (pages : List (List ℕ)) → map form_bytes (map form_of_page pages) ≡ map data_of pages
unfolding form_of_page
pages_give [] = refl
pages_give (page ∷ pages) =
    ap (λ (xs : List ℕ). xs ∷ map form_bytes (map form_of_page pages)) (data_gives (data_of page)) ∙ ap (λ (xss : List (List ℕ)). data_of page ∷ xss) (pages_give pages)

link_pages : (l : Link) → ImageFits (image_of l) → map (bytes_at (file_of (image_of l))) (parts_of_image (image_of l)).pages ≡ map data_of (flat_map pages_in (object_bytes l))
unfolding image_of page_forms
link_pages l fits = table_read (image_of l) fits ∙ pages_give (flat_map pages_in (object_bytes l))

-- ---- the pages of objects

abbrev bytes_of : Link → ℕ × LaidObject → List ℕ
bytes_of l q = map (page_byte l q.0) (range_with_len 0 q.1.size)

abbrev pages_of : Link → ℕ × LaidObject → List (List ℕ)
pages_of l q = pages_in (bytes_of l q)

object_long : (l : Link) (n : ℕ) (o : LaidObject) → length (bytes_of l (n, o)) ≡ o.size
object_long l n o = length-map (range_with_len 0 o.size) (page_byte l n) ∙ length-range_with_len 0 o.size

counted : (l : Link) → Counts (pages_of l)
counted l n o =
    let count = page_count (length (bytes_of l (n, o))) in
    length-map (range_with_len 0 count) (page_in (bytes_of l (n, o))) ∙ length-range_with_len 0 count ∙ ap page_count (object_long l n o)

regroup : (l : Link) (b : ℕ) (os : List LaidObject) → flat_map pages_in (map (λ q. map (page_byte l q.0) (range_with_len 0 q.1.size)) (enumerate_from b os)) ≡ all-of (pages_of l) b os
regroup l b [] = refl
regroup l b (o ∷ os) = ap (λ (xs : List (List ℕ)). pages_of l (b, o) ++ xs) (regroup l (b + 1) os)

all_pages : (l : Link) → flat_map pages_in (object_bytes l) ≡ all-of (pages_of l) 1 (objects l)
unfolding object_bytes
all_pages l = regroup l 1 (objects l)

-- ---- one byte

zero_after : (n j : ℕ) → slice_index (replicate n 0) j ≡ 0
zero_after zero j = refl
zero_after (suc n) zero = refl
zero_after (suc n) (suc j) = zero_after n j

-- Zeros follow the data of a page.
data_byte : (page : List ℕ) (i : ℕ) → slice_index (data_of page) i ≡ slice_index page i
data_byte page i =
    by (nat_lt i (length (data_of page))) refl
  where
    by : (b : Bool) → nat_lt i (length (data_of page)) ≡ b → slice_index (data_of page) i ≡ slice_index page i
    by true is =
        let inside : i < length (data_of page) = grind (arith, nat_tests) in
        sym (get_or-append (data_of page) (replicate (length page - length (data_of page)) 0) 0 i inside) ∙ ap (λ (xs : List ℕ). get_or xs i 0) (data_filled page)
    by false is =
        let past : length (data_of page) ≤ i = grind (arith, nat_tests) in
        get_or-eq_default (data_of page) 0 past
        ∙ sym (zero_after (length page - length (data_of page)) (i - length (data_of page)))
        ∙ sym (get_or-append_right (data_of page) (replicate (length page - length (data_of page)) 0) (length (data_of page)) i 0 refl past) ∙ ap (λ (xs : List ℕ). get_or xs i 0) (data_filled page)

-- Byte i of page k of an object's bytes.
page_item : (bytes : List ℕ) (k i : ℕ) → i < PAGE_SIZE → slice_index (page_in bytes k) i ≡ slice_index bytes (k * PAGE_SIZE + i)
page_item bytes k i below =
    get_or-take PAGE_SIZE (drop (k * PAGE_SIZE) bytes) i 0 below ∙ get_or-drop (k * PAGE_SIZE) bytes i 0

-- ---- a byte of an object

whole_file : (l : Link) (page : PageHead) → bytes_at (parts_of_image (image_of l)).file page ≡ bytes_at (file_of (image_of l)) page
unfolding parts_of_image
whole_file l page = refl

raw_bytes : (l : Link) → ImageFits (image_of l) → (i k : ℕ) (o : LaidObject) → slice_get (objects l) i ≡ Some o → k < page_count o.size
    → page_bytes (parts_of_image (image_of l)) (record { object = suc i; page = k }) ≡ data_of (page_in (bytes_of l (suc i, o)) k)
unfolding page_bytes
raw_bytes l fits i k o e below =
    let m = parts_of_image (image_of l) in
    let file = file_of (image_of l) in
    let pages = all-of (pages_of l) 1 (objects l) in
    let f = object-found (pages_of l) [] l i k o (counted l) e below in
    let all = link_pages l fits ∙ ap (map data_of) (all_pages l) in
    let count = f.count in
    let small : k < f.head.count = omega (arith, count, below) in
    let longs : length m.pages ≡ length pages = sym (length-map m.pages (bytes_at file)) ∙ ap length all ∙ length-map pages data_of in
    let inside = f.inside in
    let at = f.head.first - 1 + k in
    let there : at < length m.pages = omega (arith, longs, inside) in
    let entry : page_of m.pages (object_of m (suc i)) k ≡ get_or m.pages at zero_page =
    ap (λ (h : ObjHead). page_of m.pages h k) f.is ∙ ap (λ (b : Bool). cond b (get_or m.pages at zero_page) zero_page) (lt-ltb k f.head.count small) in
    let count_here : k < page_count (length (bytes_of l (suc i, o))) = (let size = ap page_count (object_long l (suc i) o) in omega (arith, size, below)) in
    whole_file l (page_of m.pages (object_of m (suc i)) k)
    ∙ ap (bytes_at file) entry
    ∙ sym (get_or-map (bytes_at file) m.pages at zero_page [] there)
    ∙ ap (λ (xss : List (List ℕ)). get_or xss at []) all
    ∙ get_or-map data_of pages at [] [] inside
    ∙ ap data_of f.page
    ∙ ap data_of (get_or-map-range_with_len (page_in (bytes_of l (suc i, o))) 0 (page_count (length (bytes_of l (suc i, o)))) k k [] count_here (omega arith))

pub pages-cover : (x size : ℕ) → x < size → x / PAGE_SIZE < page_count size
pages-cover x size below =
    let least = mul-div-le x PAGE_SIZE in
    let most = div-add-mod (size + (PAGE_SIZE - 1)) PAGE_SIZE in
    let rest : (size + (PAGE_SIZE - 1)) % PAGE_SIZE < PAGE_SIZE = mod-lt (size + (PAGE_SIZE - 1)) (omega arith) in
    omega (arith, least, most, rest, below)

-- Each byte of an object in the file is the one that stands there before the loader.
pub raw-byte : (l : Link) → ImageFits (image_of l) → (i x : ℕ) (o : LaidObject) → slice_get (objects l) i ≡ Some o → x < o.size
    → Raw (parts_of_image (image_of l)) (page_with (suc i) x) (x % PAGE_SIZE) ≡ page_byte l (suc i) x
unfolding Raw
raw-byte l fits i x o e below =
    let k = x / PAGE_SIZE in
    let r = x % PAGE_SIZE in
    let bytes = map (page_byte l (suc i)) (range_with_len 0 o.size) in
    let small : r < PAGE_SIZE = mod-lt x (omega arith) in
    let whole : k * PAGE_SIZE + r ≡ x = (let split = div-add-mod x PAGE_SIZE in omega (arith, split)) in
    ap (λ (xs : List ℕ). slice_index xs r) (raw_bytes l fits i k o e (pages-cover x o.size below))
    ∙ data_byte (page_in bytes k) r
    ∙ page_item bytes k r small
    ∙ ap (slice_index bytes) whole
    ∙ get_or-map-range_with_len (page_byte l (suc i)) 0 o.size x x 0 below (omega arith)

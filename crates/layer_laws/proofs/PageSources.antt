-- The sources of a page, as the file of a link has them, are the link's fixup records of that page.
use Rattle.std.specs.Prelude.{◌≡◌, ℕ, suc, ◌+◌, ◌-◌, ◌<◌, nat_lt, Bool, cond, List, [], ◌∷◌, ◌++◌, Some, map, length, get_or, slice_get, refl}
use Rattle.std.specs.List.{AllByRecursion, flat_map, enumerate_from, range_with_len}
use Rattle.std.proofs.Common.{ap, sym, ◌∙◌, arith}
use Rattle.std.proofs.lemmas.List.{length-map, get_or-map}
use Rattle.std.proofs.lemmas.List.FromFn.{get_or-map-range_with_len, length-range_with_len}
use Rattle.std.proofs.lemmas.Bool.{lt-ltb}
use Rattle.lx_types.specs.Parts.{fix_span_at}
use Rattle.lx_types.specs.declared.fix.Fix.{Fix}
use Rattle.lx_types.specs.declared.object.ObjHead.{ObjHead}
use Rattle.lx_types.specs.declared.object.PageId.{PageId}
use Rattle.link_model.specs.declared.symbols.LaidObject.{LaidObject}
use Rattle.link_model.specs.Link.{Link}
use Rattle.link_model.specs.Layout.{objects}
use Rattle.link_model.specs.Records.{page_count, page_records, object_records}
use Rattle.lx_model.specs.Fixed.{sources_of}
use Rattle.lx_model.specs.JoinedRecords.{records_for}
use Rattle.lx_model.specs.Records.{fixes_of}
use Rattle.lx_model.specs.RecordSpelling.{Written, fixes_written, RecordFits}
use Rattle.image_model.specs.File.{file_of}
use Rattle.image_model.specs.Image.{Image}
use Rattle.image_model.specs.Linked.{fix_in_file, page_fixes, fixup_records, image_of}
use Rattle.image_model.specs.PageTables as tables
use Rattle.image_model.specs.ReadBack.{spans_from, ImageFits, parts_of_image}
use Rattle.image_model.specs.Sections as s
use Rattle.image_model.proofs.RecordsRead.{records_in_span, page_means, regrouped}
use Rattle.image_model.proofs.Standing.{HasFrom, standing, after, from_imports}
use Rattle.layer_laws.proofs.TablePages.{all-of, Counts, object-found}

-- ---- the records of a page of the table

-- The sources that a file has in a span.
abbrev sources_in : List ℕ → ℕ × ℕ → List Fix
sources_in file span = fixes_of (records_in_span file span)

abbrev sources_written : List Written → List Fix
sources_written page = flat_map fixes_written page

spans_give : (file : List ℕ) (pages : List (List Written)) (at : ℕ) (rest : List ℕ) → HasFrom file at (flat_map tables.page_records pages ++ rest) → AllByRecursion (AllByRecursion RecordFits) pages
    → map (sources_in file) (spans_from at pages) ≡ map sources_written pages
spans_give file [] at rest has fits = refl
spans_give file (page ∷ pages) at rest has fits =
    let bytes = tables.page_records page in
    let tail = flat_map tables.page_records pages ++ rest in
    let here = regrouped file at bytes (flat_map tables.page_records pages) rest has in
    let means = page_means file at page tail here fits.0 in
    ap (λ (fs : List Fix). fs ∷ map (sources_in file) (spans_from (at + length bytes) pages)) means.fixes_are
    ∙ ap (λ (fss : List (List Fix)). sources_written page ∷ fss) (spans_give file pages (at + length bytes) rest (after file at bytes tail here) fits.1)

table_gives : (m : Image) → ImageFits m → map (sources_in (file_of m)) (parts_of_image m).fix_spans ≡ map sources_written m.records
unfolding s.sections parts_of_image
table_gives m fits = spans_give (file_of m) m.records (s.records_at (s.sections m)) (from_imports (s.sections m)) (standing m).records fits.records

-- ---- the records of a link

abbrev records_of : Link → ℕ × LaidObject → List (List Fix)
records_of l q = map (page_records l q.0) (range_with_len 0 (page_count q.1.size))

counted : (l : Link) → Counts (records_of l)
counted l n o = length-map (range_with_len 0 (page_count o.size)) (page_records l n) ∙ length-range_with_len 0 (page_count o.size)

regroup : (l : Link) (b : ℕ) (os : List LaidObject) → flat_map (λ pages. pages) (map (records_of l) (enumerate_from b os)) ≡ all-of (records_of l) b os
regroup l b [] = refl
regroup l b (o ∷ os) = ap (λ (xs : List (List Fix)). records_of l (b, o) ++ xs) (regroup l (b + 1) os)

all_records : (l : Link) → flat_map (λ pages. pages) (object_records l) ≡ all-of (records_of l) 1 (objects l)
unfolding object_records
all_records l = regroup l 1 (objects l)

-- The sources of a page with these fixups.
abbrev pub sources-for : Link → List Fix → List Fix
sources-for l fs = sources_written (records_for (map (fix_in_file l) fs))

composed : (l : Link) (pages : List (List Fix)) → map sources_written (map records_for (map (map (fix_in_file l)) pages)) ≡ map (sources-for l) pages
composed l [] = refl
composed l (fs ∷ pages) = ap (λ (xss : List (List Fix)). sources-for l fs ∷ xss) (composed l pages)

link_sources : (l : Link) → ImageFits (image_of l) → map (sources_in (file_of (image_of l))) (parts_of_image (image_of l)).fix_spans ≡ map (sources-for l) (all-of (records_of l) 1 (objects l))
unfolding image_of fixup_records page_fixes
link_sources l fits =
    table_gives (image_of l) fits ∙ composed l (flat_map (λ pages. pages) (object_records l)) ∙ ap (map (sources-for l)) (all_records l)

-- ---- a page of an object

sources_by : (l : Link) (p : PageId) → sources_of (parts_of_image (image_of l)) p ≡ sources_in (file_of (image_of l)) (fix_span_at (parts_of_image (image_of l)) p)
unfolding sources_of parts_of_image
sources_by l p = refl

pub sources-are : (l : Link) → ImageFits (image_of l) → (i k : ℕ) (o : LaidObject) → slice_get (objects l) i ≡ Some o → k < page_count o.size
    → sources_of (parts_of_image (image_of l)) (record { object = suc i; page = k }) ≡ sources-for l (page_records l (suc i) k)
sources-are l fits i k o e below =
    let m = parts_of_image (image_of l) in
    let file = file_of (image_of l) in
    let pages = all-of (records_of l) 1 (objects l) in
    let f = object-found (records_of l) [] l i k o (counted l) e below in
    let all = link_sources l fits in
    let count = f.count in
    let small : k < f.head.count = omega (arith, count, below) in
    let longs : length m.fix_spans ≡ length pages = sym (length-map m.fix_spans (sources_in file)) ∙ ap length all ∙ length-map pages (sources-for l) in
    let inside = f.inside in
    let at = f.head.first - 1 + k in
    let there : at < length m.fix_spans = omega (arith, longs, inside) in
    let span : fix_span_at m (record { object = suc i; page = k }) ≡ get_or m.fix_spans at (0, 0) =
    ap (λ (h : ObjHead). cond (nat_lt k h.count) (get_or m.fix_spans (h.first - 1 + k) (0, 0)) (0, 0)) f.is
    ∙ ap (λ (b : Bool). cond b (get_or m.fix_spans at (0, 0)) (0, 0)) (lt-ltb k f.head.count small) in
    sources_by l (record { object = suc i; page = k })
    ∙ ap (sources_in file) span
    ∙ sym (get_or-map (sources_in file) m.fix_spans at (0, 0) [] there)
    ∙ ap (λ (xss : List (List Fix)). get_or xss at []) all
    ∙ get_or-map (sources-for l) pages at [] [] inside
    ∙ ap (sources-for l) f.page
    ∙ ap (sources-for l) (get_or-map-range_with_len (page_records l (suc i)) 0 (page_count o.size) k k [] below (omega arith))

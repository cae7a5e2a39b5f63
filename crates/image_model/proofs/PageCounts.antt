-- How many pages and fixups a link's module has, by its fixups of each page of each object.
use Rattle.std.specs.Prelude.{◌≡◌, ℕ, ◌+◌, List, [], ◌∷◌, ◌++◌, map, length, sum_by, refl}
use Rattle.std.specs.List.{flat_map, fold}
use Rattle.std.proofs.Common.{ap, sym, ◌∙◌, arith}
use Rattle.std.proofs.lemmas.List.{length-map, length-append, map-append}
use Rattle.std.proofs.lemmas.List.Sums.{fold-append, sum_by_from}
use Rattle.lx_types.specs.declared.fix.Fix.{Fix}
use Rattle.link_model.specs.Link.{Link}
use Rattle.link_model.specs.Records.{object_records}
use Rattle.lx_model.specs.JoinedRecords.{records_for}
use Rattle.image_model.specs.Linked.{image_of, fix_in_file, page_forms, page_fixes, fixup_records}
use Rattle.image_model.specs.LinkedFile.{source_count}
use Rattle.image_model.proofs.LinkTables.{tables_fit}

pages_by : (xss : List (List (List Fix))) → length (flat_map (λ pages. pages) xss) ≡ sum_by length xss
pages_by [] = refl
pages_by (pages ∷ xss) =
    let rest = pages_by xss in
    let both = length-append pages (flat_map (λ pages. pages) xss) in
    let sum = sum_by_from (λ (ps : List (List Fix)). length ps) (0 + length pages) xss in
    omega (arith, rest, both, sum)

pub pages-are : (l : Link) → sum_by length (object_records l) ≡ length (page_forms l)
unfolding image_of page_fixes fixup_records
pages-are l =
    sym (pages_by (object_records l)) ∙ sym (length-map (flat_map (λ pages. pages) (object_records l)) (map (fix_in_file l))) ∙ sym (length-map (page_fixes l) records_for) ∙ (tables_fit l).each

page_sources : (g : Fix → Fix) (pages : List (List Fix)) (a : ℕ) → fold (λ a fs. a + length fs) a (map (map g) pages) ≡ a + sum_by length pages
page_sources g [] a = omega arith
page_sources g (fs ∷ pages) a =
    let rest = page_sources g pages (a + length (map g fs)) in
    let long = length-map fs g in
    let sum = sum_by_from (λ (fs : List Fix). length fs) (0 + length fs) pages in
    omega (arith, rest, long, sum)

sources_by : (g : Fix → Fix) (xss : List (List (List Fix))) (a : ℕ) → fold (λ a fs. a + length fs) a (map (map g) (flat_map (λ pages. pages) xss)) ≡ a + sum_by (λ pages. sum_by length pages) xss
sources_by g [] a = omega arith
sources_by g (pages ∷ xss) a =
    let F : ℕ → List Fix → ℕ = λ a fs. a + length fs in
    let rest = sources_by g xss (a + sum_by length pages) in
    let sum = sum_by_from (λ (ps : List (List Fix)). sum_by length ps) (0 + sum_by length pages) xss in
    let split : fold F a (map (map g) (pages ++ flat_map (λ pages. pages) xss)) ≡ fold F (a + sum_by length pages) (map (map g) (flat_map (λ pages. pages) xss)) =
    ap (fold F a) (map-append (map g) pages (flat_map (λ pages. pages) xss)) ∙ fold-append F a (map (map g) pages) (map (map g) (flat_map (λ pages. pages) xss)) ∙ ap (λ (n : ℕ). fold F n (map (map g) (flat_map (λ pages. pages) xss))) (page_sources g pages a) in
    omega (arith, split, rest, sum)

pub sources-are : (l : Link) → sum_by (λ pages. sum_by length pages) (object_records l) ≡ source_count l
unfolding page_fixes
sources-are l = let all = sources_by (fix_in_file l) (object_records l) 0 in omega (arith, all)

-- What the targets of a link's fixup records name is there.
use Rattle.std.specs.Prelude.{◌≡◌, ℕ, zero, suc, ◌+◌, ◌<◌, ◌&&◌, nat_lt, nat_le, Bool, true, cond, List, [], ◌∷◌, ◌++◌, Some, None, map, length, take, drop, slice_get, slice_index, is_some, refl}
use Rattle.std.specs.List.{AllByRecursion, flat_map}
use Rattle.std.proofs.Common.{ap, ◌∙◌, arith, subst, length-append, append_assoc}
use Rattle.std.proofs.lemmas.List.Elements.{All-from_recursion, recursion_from_All}
use Rattle.std.proofs.lemmas.List.Sorted.{All-permutation}
use Rattle.std.proofs.lemmas.Bool.{lt-ltb, le-leb, and_from}
use Rattle.lx_types.specs.Parts.{name_at, span}
use Rattle.lx_types.specs.Sound.{IsNumberOf}
use Rattle.lx_types.specs.declared.fix.Fix.{Fix}
use Rattle.lx_types.specs.declared.fix.FixTarget.{FixTarget}
use Rattle.lx_types.specs.declared.fix.FixTarget.TheVariants as leads
use Rattle.lx_types.proofs.Lists.{all_joined}
use Rattle.link_model.specs.declared.symbols.LaidObject.{LaidObject}
use Rattle.link_model.specs.Link.{Link}
use Rattle.link_model.specs.Layout.{objects}
use Rattle.link_model.specs.ImportTables.{link_pairs, modules_in, procs_in, name_bytes, name_table, name_offset, with_offset}
use Rattle.link_model.specs.Records.{page_count, page_records, object_records}
use Rattle.link_model.proofs.Members.{all_in, item_at}
use Rattle.link_model.proofs.NamesAtOffsets.{names_at_offsets}
use Rattle.lx_model.specs.EntryTable.{names_one_of}
use Rattle.lx_model.specs.Module.{is_target}
use Rattle.lx_model.specs.RecordSpelling.{fixes_written}
use Rattle.lx_model.specs.JoinedRecords.{records_for}
use Rattle.lx_fixrec.proofs.Permuted.{records_keep_fixes}
use Rattle.image_model.specs.File.{file_of}
use Rattle.image_model.specs.Linked.{fix_in_file, page_fixes, fixup_records, image_of}
use Rattle.image_model.specs.ObjectTable.{object_heads_from}
use Rattle.image_model.specs.ReadBack.{targets_of, targets_there}
use Rattle.image_model.specs.Sections.{sections, procs_at}
use Rattle.image_model.proofs.RecordsRead.{spanned}
use Rattle.image_model.proofs.Standing.{HasFrom, standing, after}
use Rattle.image_model.proofs.RecordsFit as core
use Rattle.layer_laws.proofs.Given.{Given}
use Rattle.layer_laws.proofs.Records.{all-pages, mapped-all}

-- ---- a name at its place in the file

item_after : (before : List ℕ) (x : ℕ) (rest : List ℕ) (at : ℕ) → length before ≡ at → slice_index (before ++ x ∷ rest) at ≡ x
item_after [] x rest zero e = refl
item_after [] x rest (suc at) e = absurd (omega (arith, e))
item_after (b ∷ before) x rest zero e = absurd (omega (arith, e))
item_after (b ∷ before) x rest (suc at) e = item_after before x rest at (omega (arith, e))

some_when : (b : Bool) (name : List ℕ) → b ≡ true → cond b (Some name) None ≡ Some name
some_when b name e = ap (λ (t : Bool). cond t (Some name) None) e

name_stands : (file : List ℕ) (at : ℕ) (name rest : List ℕ) → HasFrom file at (name_bytes name ++ rest) → name_at file at ≡ Some name
name_stands file at name rest has =
    let len : slice_index file at ≡ length name = ap (λ (f : List ℕ). slice_index f at) has.spelled ∙ item_after has.before (length name) (name ++ rest) at has.long in
    let size : length file ≡ at + (1 + (length name + length rest)) =
    ap length has.spelled ∙ length-append has.before (name_bytes name ++ rest) ∙ ap (λ (n : ℕ). n + length (name_bytes name ++ rest)) has.long
    ∙ (let inner = length-append name rest in omega (arith, inner)) in
    let n = slice_index file at in
    some_when (nat_lt at (length file) && nat_le (at + 1 + n) (length file)) (span file (at + 1) (at + 1 + n))
    (and_from (nat_lt at (length file)) (nat_le (at + 1 + n) (length file)) (lt-ltb at (length file) (omega (arith, size))) (le-leb (at + 1 + n) (length file) (omega (arith, len, size))))
    ∙ ap (λ (k : ℕ). Some (span file (at + 1) (at + 1 + k))) len
    ∙ ap Some (spanned file (at + 1) name rest (after file at (length name ∷ []) (name ++ rest) has))

-- The table of names, from a name's offset on.
split_at : (xs : List ℕ) (n : ℕ) (ys : List ℕ) → 0 < length ys → drop n xs ≡ ys → (xs ≡ take n xs ++ ys) × (length (take n xs) ≡ n)
split_at xs zero ys some e = (e, refl)
split_at [] (suc n) ys some e = absurd (let none : 0 ≡ length ys = ap length e in omega (arith, none, some))
split_at (x ∷ xs) (suc n) ys some e =
    let r = split_at xs n ys some e in (ap (λ (zs : List ℕ). x ∷ zs) r.0, omega (arith, r.1))

table_from : (file : List ℕ) (at : ℕ) (names : List (List ℕ)) (k : ℕ) (name rest : List ℕ) → slice_get names k ≡ Some name → HasFrom file at (name_table names ++ rest)
    → HasFrom file (at + name_offset names k) (name_bytes name ++ (flat_map name_bytes (drop (suc k) names) ++ rest))
table_from file at names k name rest is has =
    let tail = flat_map name_bytes (drop (suc k) names) in
    let cut = split_at (name_table names) (name_offset names k) (name_bytes name ++ tail) (omega arith) (names_at_offsets names k name is) in
    let whole : HasFrom file at (take (name_offset names k) (name_table names) ++ ((name_bytes name ++ tail) ++ rest)) =
    subst (HasFrom file at) (ap (λ (ys : List ℕ). ys ++ rest) cut.0 ∙ append_assoc (take (name_offset names k) (name_table names)) (name_bytes name ++ tail) rest) has in
    let moved = after file at (take (name_offset names k) (name_table names)) ((name_bytes name ++ tail) ++ rest) whole in
    subst (λ (n : ℕ). HasFrom file (at + n) (name_bytes name ++ (tail ++ rest))) cut.1
    (subst (HasFrom file (at + length (take (name_offset names k) (name_table names)))) (append_assoc (name_bytes name) tail rest) moved)

-- A procedure name of a link stands in its file.
pub proc-stands : (l : Link) (k : ℕ) (name : List ℕ) → slice_get (procs_in (link_pairs l)) k ≡ Some name → name_at (file_of (image_of l)) (procs_at (sections (image_of l)) + name_offset (procs_in (link_pairs l)) k) ≡ Some name
unfolding sections image_of
proc-stands l k name is =
    name_stands (file_of (image_of l)) (procs_at (sections (image_of l)) + name_offset (procs_in (link_pairs l)) k) name _
    (table_from (file_of (image_of l)) (procs_at (sections (image_of l))) (procs_in (link_pairs l)) k name _ is (standing (image_of l)).procs)

-- ---- one target

one_of : (count n : ℕ) → IsNumberOf n count → names_one_of count n ≡ true
one_of count n is = and_from (nat_le 1 n) (nat_le n count) (le-leb 1 n is.0) (le-leb n count is.1)

pub objects-counted : (os : List LaidObject) (first : ℕ) → length (object_heads_from first os) ≡ length os
objects-counted [] first = refl
objects-counted (o ∷ os) first = ap suc (objects-counted os (first + page_count o.size))

target_there : (l : Link) (t : FixTarget) → core.NamesThere l t → is_target (targets_there (image_of l)) (with_offset (procs_in (link_pairs l)) t) ≡ true
unfolding image_of
target_there l (leads.Internal o x) names =
    ap (λ (n : ℕ). names_one_of n o) (objects-counted (objects l) 1) ∙ one_of (length (objects l)) o names.number
target_there l (leads.Ordinal import n) names = one_of (length (modules_in (link_pairs l))) import names
target_there l (leads.Named import k) names =
    and_from (names_one_of (length (modules_in (link_pairs l))) import) _ (one_of (length (modules_in (link_pairs l))) import names.0) (let name = item_at (procs_in (link_pairs l)) k names.1 in ap is_some (proc-stands l k name.item name.is))
target_there l (leads.Own n) names = absurd names

-- ---- all targets

abbrev IsThere : Link → FixTarget → Type 0
IsThere l t = is_target (targets_there (image_of l)) t ≡ true

targets_of_fixes : (l : Link) (fs : List Fix) → AllByRecursion (λ f. IsThere l f.target) fs → AllByRecursion (IsThere l) (map (λ f. f.target) fs)
targets_of_fixes l [] each = tt
targets_of_fixes l (f ∷ fs) each = (each.0, targets_of_fixes l fs each.1)

abbrev PageThere : Link → List Fix → Type 0
PageThere l fs = AllByRecursion (IsThere l) (map (λ f. f.target) (flat_map fixes_written (records_for (map (fix_in_file l) fs))))

page_there : (l : Link) → Given l → (n k : ℕ) → PageThere l (page_records l n k)
page_there l g n k =
    let fs = page_records l n k in
    let file : List Fix = map (fix_in_file l) fs in
    let fits = core.page-fits l n k g.lay_none g.whole in
    let each = mapped-all l (λ f. IsThere l f.target) fs (λ f i. target_there l f.target (all_in (core.RecordFits l) fs fits i).names) in
    let written = flat_map fixes_written (records_for file) in
    let all = All-permutation (λ (f : Fix). IsThere l f.target) file written (records_keep_fixes file) (All-from_recursion (λ f. IsThere l f.target) file each) in
    targets_of_fixes l written (recursion_from_All (λ f. IsThere l f.target) written all)

pages_there : (l : Link) (pages : List (List Fix)) → AllByRecursion (PageThere l) pages → AllByRecursion (IsThere l) (flat_map (λ page. map (λ f. f.target) (flat_map fixes_written page)) (map records_for (map (map (fix_in_file l)) pages)))
pages_there l [] each = tt
pages_there l (fs ∷ pages) each =
    all_joined (IsThere l) (map (λ f. f.target) (flat_map fixes_written (records_for (map (fix_in_file l) fs)))) (flat_map (λ page. map (λ f. f.target) (flat_map fixes_written page)) (map records_for (map (map (fix_in_file l)) pages))) each.0 (pages_there l pages each.1)

by_records : (l : Link) → AllByRecursion (PageThere l) (flat_map (λ pages. pages) (object_records l)) → AllByRecursion (IsThere l) (flat_map (λ page. map (λ f. f.target) (flat_map fixes_written page)) (fixup_records l))
unfolding fixup_records page_fixes
by_records l each = pages_there l (flat_map (λ pages. pages) (object_records l)) each

pub targets-there : (l : Link) → Given l → AllByRecursion (λ target. is_target (targets_there (image_of l)) target ≡ true) (targets_of (image_of l))
unfolding image_of
targets-there l g = by_records l (all-pages l (PageThere l) (page_there l g))

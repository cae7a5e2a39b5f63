-- What holds of the targets of a link's records holds of the references of the module that is read from its file.
use Rattle.std.specs.Prelude.{ℕ, not, List, [], ◌∷◌, filter, map}
use Rattle.std.specs.List.{AllByRecursion, flat_map}
use Rattle.std.proofs.lemmas.List.Elements.{All-from_recursion, recursion_from_All}
use Rattle.std.proofs.lemmas.List.Sorted.{All-permutation}
use Rattle.lx_types.specs.declared.fix.Fix.{Fix}
use Rattle.lx_types.specs.declared.fix.FixTarget.{FixTarget}
use Rattle.link_model.specs.Link.{Link}
use Rattle.link_model.specs.Records.{page_records, object_records}
use Rattle.link_model.proofs.Members.{In, here, there, each_in, from_filter}
use Rattle.lx_model.specs.JoinedRecords.{records_for}
use Rattle.lx_model.specs.Module.{is_reference, once, same_target}
use Rattle.lx_model.specs.RecordSpelling.{fixes_written}
use Rattle.lx_model.proofs.Each.{each_flat_map, each_map}
use Rattle.lx_fixrec.proofs.Permuted.{records_keep_fixes}
use Rattle.image_model.specs.Linked.{fix_in_file, fixup_records, image_of, page_fixes}
use Rattle.image_model.specs.ReadBack.{parts_of_image, targets_of}
use Rattle.layer_laws.proofs.Records.{all-pages, mapped-all}

-- The targets that the records of a page name.
abbrev written_targets : Link → List Fix → List FixTarget
written_targets l fs = map (λ f. f.target) (flat_map fixes_written (records_for (map (fix_in_file l) fs)))

abbrev OnPage : (FixTarget → Type 0) → Link → List Fix → Type 0
OnPage P l fs = AllByRecursion P (written_targets l fs)

page_by : (P : FixTarget → Type 0) (l : Link) (fs : List Fix) → ((f : Fix) → In f fs → P (fix_in_file l f).target) → OnPage P l fs
page_by P l fs each =
    let file = map (fix_in_file l) fs in
    let written = flat_map fixes_written (records_for file) in
    let all = All-permutation (λ (f : Fix). P f.target) file written (records_keep_fixes file) (All-from_recursion (λ f. P f.target) file (mapped-all l (λ f. P f.target) fs each)) in
    each_map P (λ f. f.target) written (recursion_from_All (λ f. P f.target) written all)

by_pages : (P : FixTarget → Type 0) (l : Link) (pages : List (List Fix)) → AllByRecursion (OnPage P l) pages
    → AllByRecursion P (flat_map (λ page. map (λ f. f.target) (flat_map fixes_written page)) (map records_for (map (map (fix_in_file l)) pages)))
by_pages P l pages each =
    each_flat_map P (λ page. map (λ f. f.target) (flat_map fixes_written page)) (map records_for (map (map (fix_in_file l)) pages))
    (each_map (λ page. AllByRecursion P (map (λ f. f.target) (flat_map fixes_written page))) records_for (map (map (fix_in_file l)) pages)
    (each_map (λ fs. AllByRecursion P (map (λ f. f.target) (flat_map fixes_written (records_for fs)))) (map (fix_in_file l)) pages each))

all_targets : (P : FixTarget → Type 0) (l : Link) → ((n k : ℕ) (f : Fix) → In f (page_records l n k) → P (fix_in_file l f).target) → AllByRecursion P (targets_of (image_of l))
unfolding image_of fixup_records page_fixes
all_targets P l each =
    by_pages P l (flat_map (λ pages. pages) (object_records l)) (all-pages l (OnPage P l) (λ n k. page_by P l (page_records l n k) (each n k)))

from_once : (ts : List FixTarget) {t : FixTarget} → In t (once ts) → In t ts
from_once [] i = i
from_once (u ∷ ts) here = here
from_once (u ∷ ts) (there i) = there (from_once ts (from_filter (λ v. not (same_target u v)) (once ts) i))

pub each_reference : (P : FixTarget → Type 0) (l : Link) → ((n k : ℕ) (f : Fix) → In f (page_records l n k) → P (fix_in_file l f).target) → (t : FixTarget) → In t (parts_of_image (image_of l)).refs → P t
unfolding parts_of_image
each_reference P l each t i =
    each_in P (targets_of (image_of l)) (all_targets P l each) (from_filter is_reference (targets_of (image_of l)) (from_once (filter is_reference (targets_of (image_of l))) i))

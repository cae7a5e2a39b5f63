-- A link whose module imports no other leaves nothing to other modules: no fixup that stays has an import, and no record
-- names a target outside the module's own objects.
use Rattle.std.specs.Prelude.{◌≡◌, ℕ, ◌+◌, ◌==◌, Bool, true, false, cond, List, [], ◌∷◌, ◌++◌, Option, Some, None, filter, is_some, map, nat_le, slice_get, unwrap_or, refl}
use Rattle.std.specs.List.{AllByRecursion, filter_map, flat_map}
use Rattle.std.specs.Option.{option_and_then}
use Rattle.std.proofs.Common.{ap, sym, ◌∙◌, subst, true≢false}
use Rattle.std.proofs.lemmas.List.Elements.{All-from_recursion, recursion_from_All}
use Rattle.std.proofs.lemmas.List.Sorted.{All-permutation}
use Rattle.lx_types.specs.declared.limits.TheConstants.{BASE_UNIT}
use Rattle.lx_types.specs.declared.fix.Fix.{Fix}
use Rattle.lx_types.specs.declared.fix.FixTarget.{FixTarget}
use Rattle.lx_types.specs.declared.fix.FixTarget.TheVariants as leads
use Rattle.obj_types.specs.declared.symbol.Imp.{Imp}
use Rattle.link_model.specs.Exports.{Export, Out}
use Rattle.link_model.specs.Fixups.{Fixup}
use Rattle.link_model.specs.Goals.{Target, Internal, Constant, Entry}
use Rattle.link_model.specs.ImportTables.{forwarded, import_target, link_pairs, modules_in, pair_used, used_pairs, with_offset}
use Rattle.link_model.specs.Link.{Link}
use Rattle.link_model.specs.Patches.{recorded}
use Rattle.link_model.specs.Records.{has_alias, offset_on, object_records, page_records, record_on, source_of, stands_on, target_and_additive}
use Rattle.link_model.specs.Symbols.{imports}
use Rattle.link_model.specs.Words.{wrapped}
use Rattle.link_model.proofs.Members.{In, here, there, from_filter}
use Rattle.lx_fixrec.proofs.Permuted.{records_keep_fixes}
use Rattle.lx_model.specs.JoinedRecords.{records_for}
use Rattle.lx_model.specs.Module.{is_reference, once}
use Rattle.lx_model.specs.RecordSpelling.{fixes_written}
use Rattle.lx_model.proofs.Each.{each_flat_map, each_map}
use Rattle.image_model.specs.Linked.{fix_in_file, fixup_records, image_of, link_modules, link_procs, page_fixes}
use Rattle.image_model.specs.ReadBack.{parts_of_image, targets_of}
use Rattle.image_model.proofs.TargetsThere.{from_filter_map, mapped}
use Rattle.layer_laws.proofs.Records.{all-pages, mapped-all}

-- ---- fixups

no_pairs : (ps qs : List Imp) → modules_in (ps ++ qs) ≡ [] → ps ≡ []
no_pairs [] qs e = refl
no_pairs (p ∷ ps) qs e = cc

none_used : (l : Link) → link_modules l ≡ [] → used_pairs l ≡ []
unfolding link_pairs
none_used l none = no_pairs (used_pairs l) (filter_map (λ (x : Export). forwarded x.target) (Out l)) none

kept_none : {X Y : Type 0} (f : X → Option Y) (o : Option Y) (x : X) (xs : List X) → f x ≡ o → filter_map f (x ∷ xs) ≡ [] → (f x ≡ None) × (filter_map f xs ≡ [])
kept_none f None x xs is e = (is, sym (rw is refl) ∙ e)
kept_none f (Some y) x xs is e = let some : filter_map f (x ∷ xs) ≡ y ∷ filter_map f xs = rw is refl in cc

each_none : {X Y : Type 0} (f : X → Option Y) (xs : List X) {x : X} → filter_map f xs ≡ [] → In x xs → f x ≡ None
each_none f [] e i = elim i [ ]
each_none f (x ∷ xs) e here = (kept_none f (f x) x xs refl e).0
each_none f (x ∷ xs) e (there i) = each_none f xs (kept_none f (f x) x xs refl e).1 i

-- A fixup that is left to the loader has no import.
pub no_import : (l : Link) (q : Fixup) → link_modules l ≡ [] → In q (recorded l) → pair_used l q.target ≡ None
unfolding used_pairs
no_import l q none i = each_none (λ (q : Fixup). pair_used l q.target) (recorded l) (none_used l none) i

-- ---- records

abbrev IsOwn : FixTarget → Type 0
IsOwn t = is_reference t ≡ false

own_by : (b : Bool) (o x y z : ℕ) (t : FixTarget × ℕ) → Some (cond {A = FixTarget × ℕ} b (leads.Internal o x, y) (leads.Internal o z, 0)) ≡ Some t → IsOwn t.0
own_by true o x y z t e =
    subst IsOwn {x = leads.Internal o x} (ap (λ (p : Option (FixTarget × ℕ)). (unwrap_or p t).0) e) refl
own_by false o x y z t e =
    subst IsOwn {x = leads.Internal o z} (ap (λ (p : Option (FixTarget × ℕ)). (unwrap_or p t).0) e) refl

own_target : (l : Link) (q : Fixup) (goal : Target) (t : FixTarget × ℕ) → pair_used l goal ≡ None → target_and_additive l q goal ≡ Some t → IsOwn t.0
own_target l q (Internal o offset) t none e =
    let at = wrapped (offset + q.fix.disp) in
    own_by (q.fix.loc == 2) o 0 (cond (nat_le BASE_UNIT at) at 0) (wrapped (at + q.standing)) t e
own_target l q (Constant value) t none e = cc
own_target l q (Entry slot) t none e =
    let r = mapped (λ (u : FixTarget). (u, wrapped (q.fix.disp + q.standing))) (option_and_then (import_target (used_pairs l)) (slice_get (imports l) slot)) t e in
    absurd (true≢false (sym (ap is_some (sym (ap (option_and_then (import_target (used_pairs l))) none) ∙ r.is))))

own_in_file : (l : Link) (f : Fix) → IsOwn f.target → IsOwn (fix_in_file l f).target
own_in_file l f is = by f.target is
  where
    by : (t : FixTarget) → IsOwn t → IsOwn (with_offset (link_procs l) t)
    by (leads.Internal o x) e = refl
    by (leads.Ordinal i n) e = cc
    by (leads.Named i n) e = cc
    by (leads.Own n) e = cc

abbrev record_with : ℕ → Fixup → FixTarget × ℕ → Fix
record_with k q t = record { source = source_of q; alias = has_alias q; offset = offset_on k q; target = t.0; additive = t.1 }

own_record : (l : Link) → link_modules l ≡ [] → (n k : ℕ) (f : Fix) → In f (page_records l n k) → IsOwn (fix_in_file l f).target
unfolding page_records
own_record l none n k f i =
    let r = from_filter_map (record_on l k) (filter (stands_on n k) (recorded l)) i in
    let t = mapped (record_with k r.item) (target_and_additive l r.item r.item.target) f r.gives in
    let own = own_target l r.item r.item.target t.item (no_import l r.item none (from_filter (stands_on n k) (recorded l) r.inside)) t.is in
    own_in_file l f (subst (λ (g : Fix). IsOwn g.target) t.gives own)

-- ---- the references of the file

-- The targets that the records of a page name.
abbrev written_targets : Link → List Fix → List FixTarget
written_targets l fs = map (λ f. f.target) (flat_map fixes_written (records_for (map (fix_in_file l) fs)))

page_by : (P : FixTarget → Type 0) (l : Link) (fs : List Fix) → ((f : Fix) → In f fs → P (fix_in_file l f).target) → AllByRecursion P (written_targets l fs)
page_by P l fs each =
    let file = map (fix_in_file l) fs in
    let written = flat_map fixes_written (records_for file) in
    let all = All-permutation (λ (f : Fix). P f.target) file written (records_keep_fixes file) (All-from_recursion (λ f. P f.target) file (mapped-all l (λ f. P f.target) fs each)) in
    each_map P (λ f. f.target) written (recursion_from_All (λ f. P f.target) written all)

by_pages : (P : FixTarget → Type 0) (l : Link) (pages : List (List Fix)) → AllByRecursion (λ fs. AllByRecursion P (written_targets l fs)) pages
    → AllByRecursion P (flat_map (λ page. map (λ f. f.target) (flat_map fixes_written page)) (map records_for (map (map (fix_in_file l)) pages)))
by_pages P l pages each =
    each_flat_map P (λ page. map (λ f. f.target) (flat_map fixes_written page)) (map records_for (map (map (fix_in_file l)) pages))
    (each_map (λ page. AllByRecursion P (map (λ f. f.target) (flat_map fixes_written page))) records_for (map (map (fix_in_file l)) pages)
    (each_map (λ fs. AllByRecursion P (map (λ f. f.target) (flat_map fixes_written (records_for fs)))) (map (fix_in_file l)) pages each))

-- What holds of the target of each record holds of each target of the image.
pub all_targets : (P : FixTarget → Type 0) (l : Link) → ((n k : ℕ) (f : Fix) → In f (page_records l n k) → P (fix_in_file l f).target) → AllByRecursion P (targets_of (image_of l))
unfolding image_of fixup_records page_fixes
all_targets P l each =
    by_pages P l (flat_map (λ pages. pages) (object_records l)) (all-pages l (λ fs. AllByRecursion P (written_targets l fs)) (λ n k. page_by P l (page_records l n k) (each n k)))

none_kept : (ts : List FixTarget) → AllByRecursion IsOwn ts → filter is_reference ts ≡ []
none_kept [] each = refl
none_kept (t ∷ ts) each = rw each.0 (none_kept ts each.1)

pub no_references : (l : Link) → link_modules l ≡ [] → (parts_of_image (image_of l)).refs ≡ []
unfolding parts_of_image
no_references l none = ap once (none_kept (targets_of (image_of l)) (all_targets IsOwn l (own_record l none)))

pub same_imports : (l : Link) → (parts_of_image (image_of l)).imports ≡ link_modules l
unfolding parts_of_image image_of
same_imports l = refl

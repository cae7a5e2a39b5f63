-- The fixup records of a link fit the record table, and their targets are there.
use Rattle.std.specs.Prelude.{◌≡◌, ℕ, ◌+◌, ◌<◌, ◌≤◌, ◌^◌, ◌==◌, nat_le, Bool, true, false, cond, List, [], ◌∷◌, ◌++◌, Some, map, filter, length, slice_get, is_some, refl}
use Rattle.std.specs.List.{AllByRecursion, flat_map, enumerate_from, range_with_len}
use Rattle.std.specs.Option.{option_and_then}
use Rattle.std.proofs.Common.{ap, sym, arith, subst, true≢false}
use Rattle.std.proofs.lemmas.List.Elements.{All-from_recursion}
use Rattle.std.proofs.lemmas.Option.{same_Some}
use Rattle.lx_types.specs.declared.limits.TheConstants.{BASE_UNIT}
use Rattle.lx_types.specs.declared.fix.Fix.{Fix}
use Rattle.lx_types.specs.declared.fix.Source.{Source}
use Rattle.lx_types.specs.declared.fix.Source.TheVariants.{Byte, Sel, Far16, Off16, Far32, Off32, Self32}
use Rattle.lx_types.specs.declared.fix.FixTarget.{FixTarget}
use Rattle.lx_types.specs.declared.fix.FixTarget.TheVariants as leads
use Rattle.obj_types.specs.declared.symbol.Imp.{Imp}
use Rattle.link_model.specs.declared.limits.TheConstants.{MAX_NUMBER}
use Rattle.link_model.specs.declared.symbols.LaidObject.{LaidObject}
use Rattle.link_model.specs.Words.{wrapped}
use Rattle.link_model.specs.Link.{Link}
use Rattle.link_model.specs.Symbols.{imports}
use Rattle.link_model.specs.Layout.{objects}
use Rattle.link_model.specs.Goals.{Target, Internal, Constant, Entry}
use Rattle.link_model.specs.Fixups.{Fixup}
use Rattle.link_model.specs.Patches.{recorded}
use Rattle.link_model.specs.ImportTables.{used_pairs, link_pairs, modules_in, procs_in, import_target, name_table, with_offset}
use Rattle.link_model.specs.Records.{source_of, has_alias, target_and_additive, offset_on, record_on, stands_on, page_count, page_records, object_records}
use Rattle.link_model.proofs.Members.{In, here, there, all_in, in_at}
use Rattle.lx_model.specs.RecordSpelling.{RecordFits}
use Rattle.lx_model.specs.JoinedRecords.{records_for}
use Rattle.lx_fixrec.specs.Writable.{SelectorFits, NumbersFit, IsWritable}
use Rattle.lx_fixrec.proofs.RecordsFit.{records_fit}
use Rattle.image_model.specs.Linked.{fix_in_file, page_fixes, fixup_records}
use Rattle.image_model.proofs.TargetsThere.{through, mapped, from_filter_map}
use Rattle.image_model.proofs.FewImports.{few-modules}
use Rattle.image_model.proofs.RecordsFit as core
use Rattle.layer_laws.proofs.Given.{Given}
use Rattle.layer_laws.proofs.Known.{known-import, wrapped-small}
use Rattle.layer_laws.proofs.Exports.{OrdinalSmall, import-small}
use Rattle.layer_laws.proofs.NameOffsets.{offset-small}

-- ---- the numbers of a record

abbrev OffsetRanged : FixTarget → Type 0
OffsetRanged (leads.Internal o offset) = offset < 2 ^ 32
OffsetRanged (leads.Ordinal import n) = n < 2 ^ 32
OffsetRanged (leads.Named import k) = Unit {0}
OffsetRanged (leads.Own n) = Unit {0}

record Ranged (f : Fix) : Type 0 where
  additive : f.additive < 2 ^ 32
  target : OffsetRanged f.target

-- A target and an additive.
abbrev PairRanged : FixTarget × ℕ → Type 0
PairRanged t = OffsetRanged t.0 × (t.1 < 2 ^ 32)

additive_by : (b : Bool) (at : ℕ) → at < 2 ^ 32 → cond b at 0 < 2 ^ 32
additive_by true at small = small
additive_by false at small = omega arith

chosen_ranged : (b : Bool) (o at x y : ℕ) → y < 2 ^ 32 → x < 2 ^ 32 → PairRanged (cond {A = FixTarget × ℕ} b (leads.Internal o 0, y) (leads.Internal o x, 0))
chosen_ranged true o at x y small other = (omega arith, small)
chosen_ranged false o at x y small other = (other, omega arith)

ordinal_ranged : (pairs : List Imp) (t : FixTarget) → core.AmongPairs pairs t → OrdinalSmall t → OffsetRanged t
ordinal_ranged pairs (leads.Internal o offset) among small = absurd among
ordinal_ranged pairs (leads.Ordinal import n) among small = small
ordinal_ranged pairs (leads.Named import k) among small = tt
ordinal_ranged pairs (leads.Own n) among small = tt

target_ranged : (l : Link) → Given l → (q : Fixup) (t : Target) (f : FixTarget × ℕ) → target_and_additive l q t ≡ Some f → PairRanged f
target_ranged l g q (Internal o offset) f e =
    let at = wrapped (offset + q.fix.disp) in
    let small = wrapped-small (offset + q.fix.disp) in
    subst PairRanged (same_Some (cond {A = FixTarget × ℕ} (q.fix.loc == 2) (leads.Internal o 0, cond (nat_le BASE_UNIT at) at 0) (leads.Internal o (wrapped (at + q.standing)), 0)) f e)
    (chosen_ranged (q.fix.loc == 2) o at (wrapped (at + q.standing)) (cond (nat_le BASE_UNIT at) at 0) (additive_by (nat_le BASE_UNIT at) at small) (wrapped-small (at + q.standing)))
target_ranged l g q (Constant value) f e = absurd (true≢false (sym (ap is_some e)))
target_ranged l g q (Entry slot) f e =
    let r = mapped (λ (t : FixTarget). (t, wrapped (q.fix.disp + q.standing))) (option_and_then (import_target (used_pairs l)) (slice_get (imports l) slot)) f e in
    let pair = through (import_target (used_pairs l)) (slice_get (imports l) slot) r.item r.is in
    let known = known-import l g pair.item (in_at (imports l) slot pair.item pair.is) in
    let among = core.import-among (used_pairs l) pair.item r.item pair.gives in
    let small = import-small (used_pairs l) pair.item r.item known.range.entry pair.gives in
    subst PairRanged r.gives (ordinal_ranged (used_pairs l) r.item among small, wrapped-small (q.fix.disp + q.standing))

abbrev record_with : ℕ → Fixup → FixTarget × ℕ → Fix
record_with k q t = record { source = source_of q; alias = has_alias q; offset = offset_on k q; target = t.0; additive = t.1 }

record_ranged : (l : Link) → Given l → (k : ℕ) (q : Fixup) (f : Fix) → record_on l k q ≡ Some f → Ranged f
record_ranged l g k q f e =
    let r = mapped (record_with k q) (target_and_additive l q q.target) f e in
    let ranged = target_ranged l g q q.target r.item r.is in
    subst Ranged r.gives (record { additive = ranged.1; target = ranged.0 })

page_ranged : (l : Link) → Given l → (object k : ℕ) (f : Fix) → In f (page_records l object k) → Ranged f
unfolding page_records
page_ranged l g object k f i =
    let r = from_filter_map (record_on l k) (filter (stands_on object k) (recorded l)) i in record_ranged l g k r.item f r.gives

-- ---- one record can be written

alone_fits : (s : Source) (x : ℕ) → (core.is_sel s ≡ true → x ≡ 0) → SelectorFits s x
alone_fits Byte x h = tt
alone_fits Sel x h = h refl
alone_fits Far16 x h = tt
alone_fits Off16 x h = tt
alone_fits Far32 x h = tt
alone_fits Off32 x h = tt
alone_fits Self32 x h = tt

numbers_fit : (l : Link) (s : Source) (t : FixTarget) → length (modules_in (link_pairs l)) ≤ MAX_NUMBER → length (name_table (procs_in (link_pairs l))) < 2 ^ 32 → core.NamesThere l t → OffsetRanged t → (core.is_sel s ≡ true → core.offset_in_target t ≡ 0) → NumbersFit s (with_offset (procs_in (link_pairs l)) t)
numbers_fit l s (leads.Internal o x) few short names ranged alone =
    let small = names.small in (omega (arith, small), ranged, alone_fits s x alone)
numbers_fit l s (leads.Ordinal import n) few short names ranged alone = (omega (arith, names.1, few), ranged)
numbers_fit l s (leads.Named import k) few short names ranged alone =
    (omega (arith, names.0.1, few), offset-small (procs_in (link_pairs l)) k short)
numbers_fit l s (leads.Own n) few short names ranged alone = absurd names

writable : (l : Link) (f : Fix) → length (modules_in (link_pairs l)) ≤ MAX_NUMBER → length (name_table (procs_in (link_pairs l))) < 2 ^ 32 → core.RecordFits l f → Ranged f → IsWritable (fix_in_file l f)
writable l f few short fits ranged = record {
  source = fits.offset;
  alias = fits.alias;
  target = numbers_fit l f.source f.target few short fits.names ranged.target fits.alone;
  additive = ranged.additive;
}

-- ---- pages

-- What holds of the fixups of a page holds of its fixups in the file.
pub mapped-all : (l : Link) (P : Fix → Type 0) (fs : List Fix) → ((f : Fix) → In f fs → P (fix_in_file l f)) → AllByRecursion P (map (fix_in_file l) fs)
mapped-all l P [] all = tt
mapped-all l P (f ∷ fs) all = (all f here, mapped-all l P fs (λ x i. all x (there i)))

one_object : (P : List Fix → Type 0) (G : ℕ → List Fix) (ks : List ℕ) (rest : List (List Fix)) → ((k : ℕ) → P (G k)) → AllByRecursion P rest → AllByRecursion P (map G ks ++ rest)
one_object P G [] rest all each = each
one_object P G (k ∷ ks) rest all each = (all k, one_object P G ks rest all each)

all_objects : (P : List Fix → Type 0) (G : ℕ → ℕ → List Fix) (b : ℕ) (os : List LaidObject) → ((n k : ℕ) → P (G n k)) → AllByRecursion P (flat_map (λ pages. pages) (map (λ q. map (G q.0) (range_with_len 0 (page_count q.1.size))) (enumerate_from b os)))
all_objects P G b [] all = tt
all_objects P G b (o ∷ os) all =
    one_object P (G b) (range_with_len 0 (page_count o.size)) (flat_map (λ pages. pages) (map (λ q. map (G q.0) (range_with_len 0 (page_count q.1.size))) (enumerate_from (b + 1) os))) (λ k. all b k) (all_objects P G (b + 1) os all)

-- What holds of the fixups of each page of each object holds of all of them.
pub all-pages : (l : Link) (P : List Fix → Type 0) → ((n k : ℕ) → P (page_records l n k)) → AllByRecursion P (flat_map (λ pages. pages) (object_records l))
unfolding object_records
all-pages l P all = all_objects P (page_records l) 1 (objects l) all

page_fits : (l : Link) → Given l → length (name_table (procs_in (link_pairs l))) < 2 ^ 32 → (n k : ℕ) → AllByRecursion RecordFits (records_for (map (fix_in_file l) (page_records l n k)))
page_fits l g short n k =
    let few = few-modules l g.sym_none in
    let fits = core.page-fits l n k g.lay_none g.whole in
    let each = mapped-all l IsWritable (page_records l n k) (λ f i. writable l f few short (all_in (core.RecordFits l) (page_records l n k) fits i) (page_ranged l g n k f i)) in
    records_fit (map (fix_in_file l) (page_records l n k)) (All-from_recursion IsWritable (map (fix_in_file l) (page_records l n k)) each)

pages_fit : (l : Link) (pages : List (List Fix)) → AllByRecursion (λ fs. AllByRecursion RecordFits (records_for (map (fix_in_file l) fs))) pages → AllByRecursion (AllByRecursion RecordFits) (map records_for (map (map (fix_in_file l)) pages))
pages_fit l [] each = tt
pages_fit l (fs ∷ pages) each = (each.0, pages_fit l pages each.1)

pub records-fit : (l : Link) → Given l → length (name_table (procs_in (link_pairs l))) < 2 ^ 32 → AllByRecursion (AllByRecursion RecordFits) (fixup_records l)
unfolding fixup_records page_fixes
records-fit l g short =
    pages_fit l (flat_map (λ pages. pages) (object_records l)) (all-pages l (λ fs. AllByRecursion RecordFits (records_for (map (fix_in_file l) fs))) (page_fits l g short))

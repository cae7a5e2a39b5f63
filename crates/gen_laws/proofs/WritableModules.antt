-- The object modules can be written as object files.
use Rattle.std.proofs.Common.{◌≡◌, ◌≢◌, ℕ, zero, suc, ◌*◌, ◌<◌, ◌≤◌, Bool, true, false, ◌&&◌, List, [], ◌∷◌, map, length, replicate, refl, ap, sym, subst, arith, add-one}
use Rattle.std.specs.Prelude.{◌==◌, if◌then◌else◌}
use Rattle.std.specs.List.{AllByRecursion, range_with_len, sum_by}
use Rattle.std.proofs.Math.ListN.{length-replicate}
use Rattle.std.proofs.lemmas.List.Elements.{All-from_recursion, All-nil}
use Rattle.std.proofs.lemmas.List.FromFn.{length-map-range_with_len, sum_by-map-range_with_len_more}
use Rattle.obj_types.specs.Definition.{WholeDef, WholeExport, WholeImport}
use Rattle.obj_types.specs.Input.{counted}
use Rattle.obj_types.specs.Items.{IsIndex}
use Rattle.obj_types.specs.Whole.{IsPlainSeg, LiesIn, WholeComdat, WholeExp, WholeFix, WholeGoal, WholeGroup, WholeModule, WholePlace, WholeSeg}
use Rattle.obj_types.specs.declared.definition.SegAttrs.{SegAttrs}
use Rattle.obj_types.specs.declared.object.FixAt.{FixAt}
use Rattle.obj_types.specs.declared.object.Goal.TheVariants as goals
use Rattle.obj_types.specs.declared.object.ObjModule.{ObjModule}
use Rattle.obj_types.specs.declared.object.Piece.{Piece}
use Rattle.obj_types.specs.declared.symbol.Ext.{Ext}
use Rattle.obj_types.specs.declared.symbol.Imp.{Imp}
use Rattle.obj_types.specs.declared.symbol.Pub.{Pub}
use Rattle.implib_model.specs.ImportModule.{ImportFits}
use Rattle.omf_write.specs.Writable.{IsPlainExt, IsWritable}
use Rattle.gen_model.specs.Modules.{code_segment, externals_of, external_before, flat_group, gen_definition, gen_object, import_before, imports_of, own_export, own_public, reference, refers, zero_piece}
use Rattle.gen_laws.specs.Laws.{InputsAreWhole, ObjectsAreWritable}
use Rattle.gen_laws.proofs.FirstShape.{module_is, names_of, shape}
use Rattle.gen_laws.proofs.WritableRanges.{each_of_numbers, all_of_numbers}
use Rattle.gen_laws.proofs.WritableFixes.{references_follow, references_apart}

-- Module k with other data and references.
abbrev module_with : ℕ → List Piece → List FixAt → ObjModule
module_with k pieces fixes = shape (refers k) (names_of k) pieces fixes

-- ---- what refers to the module before it

pub of_either : {X : Type 0} (P : X → Type 0) (test : Bool) (x : X) → P x → AllByRecursion P (if test then x ∷ [] else [])
of_either P true x h = (h, tt)
of_either P false x h = tt

few_of_either : {X : Type 0} (test : Bool) (x : X) → length (if test then x ∷ [] else []) ≤ 1
few_of_either true x = omega arith
few_of_either false x = omega arith

own_externals : (k : ℕ) → AllByRecursion IsPlainExt (externals_of k)
own_externals k = of_either IsPlainExt (refers k) (external_before k) (refl, refl)

own_imports : (k : ℕ) → AllByRecursion ImportFits (imports_of k)
own_imports k = of_either ImportFits (refers k) (import_before k) (record { from = λ e. cc; entry = omega arith })

named_imports : (k : ℕ) → AllByRecursion (λ (i : Imp). i.module ≢ []) (imports_of k)
named_imports k = of_either (λ (i : Imp). i.module ≢ []) (refers k) (import_before k) (λ e. cc)

-- ---- the references

goal_there : (test first : Bool) (m : ObjModule) → (test ≡ true → IsIndex m.exts 1) → IsPlainSeg m 1
    → WholeGoal m (if test && first then goals.Ext 1 else goals.Seg 1)
goal_there true true m external segment = external refl
goal_there true false m external segment = segment
goal_there false first m external segment = segment

external_there : (test : Bool) (x : Ext) → test ≡ true → IsIndex (if test then x ∷ [] else []) 1
external_there true x e = (omega arith, omega arith)
external_there false x e = cc

its_reference : (k i : ℕ) (pieces : List Piece) (fixes : List FixAt) → i < 2048 → WholeFix (module_with k pieces fixes) (reference k i)
its_reference k i pieces fixes low = record {
  location = omega arith;
  relative = λ e. refl;
  place = (refl, omega arith);
  frame = (omega arith, omega arith);
  goal = goal_there (refers k) (i == 0) (module_with k pieces fixes) (external_there (refers k) (external_before k)) refl;
}

-- ---- the data

its_piece : (k j : ℕ) (pieces : List Piece) (fixes : List FixAt) → j < 8
    → LiesIn (module_with k pieces fixes) 1 (1024 * j) (length (replicate {A = ℕ} 1024 0))
its_piece k j pieces fixes low = rw (length-replicate {A = ℕ} 1024 0) (refl, omega arith)

abbrev size_of : Piece → ℕ
size_of p = length p.bytes

data_size : (n : ℕ) → sum_by size_of (map zero_piece (range_with_len 0 n)) ≡ 1024 * n
data_size zero = refl
data_size (suc n) =
    let last : length (replicate {A = ℕ} 1024 0) ≡ 1024 = length-replicate {A = ℕ} 1024 0 in
    let more = sum_by-map-range_with_len_more size_of zero_piece 0 n n (omega arith) in
    let before = data_size n in
    subst (λ c. sum_by size_of (map zero_piece (range_with_len 0 c)) ≡ 1024 * c) (add-one n) (omega arith)

-- ---- the module

its_segment : WholeSeg code_segment
its_segment = record { align = omega arith; combine = omega arith; not_reserved = (λ e. omega arith, λ e. omega arith) }

its_export : (k : ℕ) → WholeExp (own_export k)
its_export k = (λ e. cc, omega arith)

abbrev numbered : ℕ → ℕ → ℕ → ObjModule
numbered k pieces references = module_with k (map zero_piece (range_with_len 0 pieces)) (map (reference k) (range_with_len 0 references))

whole : (k n count : ℕ) → n ≡ 8 → count ≡ 2048 → WholeModule (numbered k n count)
whole k n count eight all =
    let m : ObjModule = numbered k n count in
    record {
      segs = All-from_recursion WholeSeg (code_segment ∷ []) (its_segment, tt);
      groups = All-from_recursion (WholeGroup m) (flat_group ∷ []) (record { members = All-nil (IsPlainSeg m); flat = λ e. refl }, tt);
      pubs = All-from_recursion (λ (p : Pub). WholePlace m p.place) (own_public k ∷ []) (refl, tt);
      pieces = all_of_numbers (λ (p : Piece). LiesIn m p.seg p.offset (length p.bytes)) zero_piece 0 n
          (λ j low high. its_piece k j m.pieces m.fixes (omega arith));
      fixes = all_of_numbers (WholeFix m) (reference k) 0 count (λ i low high. its_reference k i m.pieces m.fixes (omega arith));
      apart = references_apart k count;
      imports = All-from_recursion (λ (i : Imp). i.module ≢ []) (imports_of k) (named_imports k);
      exports = All-from_recursion WholeExp (own_export k ∷ []) (its_export k, tt);
      comdats = All-nil (WholeComdat m);
      comdats_apart = λ i j d less within. absurd (omega (arith, within));
      start = tt;
      data_limit = omega (arith, data_size n);
      fix_limit = omega (arith, length-map-range_with_len (reference k) 0 count);
    }

short_pieces : (n : ℕ) → AllByRecursion (λ (p : Piece). length p.bytes ≤ 1024) (map zero_piece (range_with_len 0 n))
short_pieces n = each_of_numbers (λ (p : Piece). length p.bytes ≤ 1024) zero_piece 0 n (λ j low high. rw (length-replicate {A = ℕ} 1024 0) (omega arith))

written : (k n count : ℕ) → n ≡ 8 → count ≡ 2048 → IsWritable (numbered k n count)
written k n count eight all = record {
  whole = whole k n count eight all;
  names = omega arith;
  segs = omega arith;
  groups = omega arith;
  exts = omega (arith, few_of_either (refers k) (external_before k));
  no_debug = ((refl, refl), tt);
  members = (omega arith, tt);
  plain_pubs = ((refl, tt), tt);
  plain_exts = own_externals k;
  fit_imports = own_imports k;
  internal = (λ e. cc, tt);
  short = short_pieces n;
  follow = references_follow k 256 0 n 0 count refl refl (omega arith);
  no_comdats = refl;
}

pub objects_written : ObjectsAreWritable
objects_written k one = subst IsWritable (sym (module_is k)) (written k 8 2048 refl refl)

-- ---- what is linked

its_definition : (k : ℕ) → WholeDef (gen_definition k)
its_definition k = record {
  name = λ e. cc;
  stack = omega arith;
  base = tt;
  segs = All-nil (λ (s : SegAttrs). s.name ≢ []);
  exports = All-nil WholeExport;
  imports = All-nil WholeImport;
}

few_named : (k : ℕ) (m : ObjModule) → m.exts ≡ externals_of k → m.imports ≡ imports_of k → counted m ≤ 3
few_named k m externals imports =
    let first : length m.exts ≤ 1 = rw externals (few_of_either (refers k) (external_before k)) in
    let second : length m.imports ≤ 1 = rw imports (few_of_either (refers k) (import_before k)) in
    omega arith

pub inputs_whole : InputsAreWhole
inputs_whole k one = record {
  objects = All-from_recursion WholeModule (gen_object k ∷ []) ((objects_written k one).whole, tt);
  libs = All-nil WholeModule;
  def = its_definition k;
  stem = λ e. cc;
  few = omega (arith, few_named k (gen_object k) (ap (λ (m : ObjModule). m.exts) (module_is k)) (ap (λ (m : ObjModule). m.imports) (module_is k)));
}

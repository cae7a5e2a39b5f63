-- What every link of a generated module is, whatever its names, its data and its fixups are.
use Rattle.std.specs.Prelude.{◌≡◌, ℕ, ◌-◌, Bool, true, false, List, [], ◌∷◌, Some, None, if◌then◌else◌, refl}
use Rattle.std.proofs.Common.{ap, ◌∙◌, arith}
use Rattle.std.proofs.lemmas.List.Elements.{All-from_recursion, All-nil}
use Rattle.std.proofs.lemmas.Slice.Eq.{bytes_eq-Decides}
use Rattle.lx_types.specs.declared.entry.EntryKey.TheVariants.{Ordinal}
use Rattle.obj_types.specs.Defaults.{default_def}
use Rattle.obj_types.specs.Fresh.{empty_module}
use Rattle.obj_types.specs.declared.definition.ModKind.TheVariants.{Library}
use Rattle.obj_types.specs.declared.object.FixAt.{FixAt}
use Rattle.obj_types.specs.declared.object.ObjModule.{ObjModule}
use Rattle.obj_types.specs.declared.object.Piece.{Piece}
use Rattle.obj_types.specs.declared.symbol.Ext.{Ext}
use Rattle.obj_types.specs.declared.symbol.Imp.{Imp}
use Rattle.obj_types.specs.declared.symbol.PubPlace.TheVariants.{In}
use Rattle.link_model.specs.declared.symbols.LaidObject.{LaidObject}
use Rattle.link_model.specs.Choosing.{Chosen}
use Rattle.link_model.specs.Exports.{Export, At, Out}
use Rattle.link_model.specs.KeptLaws.{HasNoComdats}
use Rattle.link_model.specs.Layout.{objects}
use Rattle.link_model.specs.Link.{Link, link_of, IsLinkOf}
use Rattle.link_model.specs.OneSegment.{only_pick}
use Rattle.link_model.specs.Symbols.{imports}
use Rattle.link_model.proofs.Rules.{rules}
use Rattle.gen_model.specs.Modules.{code_segment, flat_group, gen_fixes, gen_input, gen_object, gen_pieces, module_name, public_name, refers}
use Rattle.gen_laws.proofs.OneLink.{link_once, plain_link}

-- ---- the shape

-- The names of a module and of what it refers to.
pub record Names : Type 0 where
  pub own : List ℕ
  pub other : List ℕ
  pub from : List ℕ
  pub called : List ℕ

abbrev pub import_of : Names → Imp
import_of n = record { name = n.other; «module» = n.from; entry = Ordinal 1 }

abbrev external_of : Names → Ext
external_of n = record { name = n.other; local = false; common = None }

abbrev pub imports_if : Bool → Names → List Imp
imports_if b n = if b then import_of n ∷ [] else []

abbrev externals_if : Bool → Names → List Ext
externals_if b n = if b then external_of n ∷ [] else []

abbrev pub shape : Bool → Names → List Piece → List FixAt → ObjModule
shape b n pieces fixes = record empty_module {
  name = n.own;
  segs = code_segment ∷ [];
  groups = flat_group ∷ [];
  pubs = record { name = n.own; local = false; place = In 1 0 } ∷ [];
  exts = externals_if b n;
  pieces = pieces;
  fixes = fixes;
  imports = imports_if b n;
  exports = record { name = n.own; internal = n.own; ordinal = Some 1; resident = false; nodata = false; words = 0 } ∷ [];
}

abbrev pub shape_link : Bool → Names → List Piece → List FixAt → Link
shape_link b n pieces fixes = record { modules = shape b n pieces fixes ∷ []; def = record (default_def Library None) { name = Some n.called }; stem = n.called; clash = None }

abbrev pub names_of : ℕ → Names
names_of k = record { own = public_name k; other = public_name (k - 1); from = module_name (k - 1); called = module_name k }

-- ---- it is the link of each module

abbrev pub gen_link : ℕ → Link
gen_link k = link_of (gen_input k) only_pick

pub module_is : (k : ℕ) → gen_object k ≡ shape (refers k) (names_of k) gen_pieces (gen_fixes k)
unfolding gen_object
module_is k = refl

pub its_shape : (k : ℕ) → gen_link k ≡ shape_link (refers k) (names_of k) gen_pieces (gen_fixes k)
unfolding gen_object
its_shape k = refl

its_chosen : (k : ℕ) → Chosen (gen_input k) only_pick
its_chosen k = record { begins = refl; grows = λ i from below. absurd (omega arith); ends = refl }

no_comdats : (k : ℕ) → (gen_object k).comdats ≡ []
unfolding gen_object
no_comdats k = refl

has_no_comdats : (k : ℕ) → HasNoComdats (gen_input k)
has_no_comdats k = record {
  objects = All-from_recursion (λ (m : ObjModule). m.comdats ≡ []) (gen_object k ∷ []) (no_comdats k, tt);
  libs = All-nil (λ (m : ObjModule). m.comdats ≡ []);
}

pub its_link : (k : ℕ) → IsLinkOf (gen_input k) (gen_link k)
its_link k = plain_link (gen_input k) only_pick (has_no_comdats k) (its_chosen k)

pub link_is : (k : ℕ) (l : Link) → IsLinkOf (gen_input k) l → l ≡ gen_link k
link_is k l of = link_once (gen_input k) l (gen_link k) of (its_link k)

-- ---- one object

-- Two pages of code, from the first place of the shared arena on.
abbrev pub the_object : LaidObject
the_object = record { size = 8192; base = 0x1000_0000; flags = 0x2005 }

objects_by : (b : Bool) (n : Names) (pieces : List Piece) (fixes : List FixAt) → objects (shape_link b n pieces fixes) ≡ the_object ∷ []
unfolding rules
objects_by true n pieces fixes = refl
objects_by false n pieces fixes = refl

pub its_objects : (k : ℕ) → objects (gen_link k) ≡ the_object ∷ []
its_objects k = ap objects (its_shape k) ∙ objects_by (refers k) (names_of k) gen_pieces (gen_fixes k)

-- ---- what it imports

imports_by : (b : Bool) (n : Names) (pieces : List Piece) (fixes : List FixAt) → imports (shape_link b n pieces fixes) ≡ imports_if b n
unfolding rules
imports_by true n pieces fixes = refl
imports_by false n pieces fixes = refl

pub its_imports : (k : ℕ) → imports (gen_link k) ≡ imports_if (refers k) (names_of k)
its_imports k = ap imports (its_shape k) ∙ imports_by (refers k) (names_of k) gen_pieces (gen_fixes k)

-- ---- its export

abbrev pub the_export : List ℕ → Export
the_export name = record { ordinal = 1; name = name; resident = false; words = 0; wide = true; target = At 1 0 }

out_by : (b : Bool) (n : Names) (pieces : List Piece) (fixes : List FixAt) → Out (shape_link b n pieces fixes) ≡ the_export n.own ∷ []
unfolding rules
out_by true n pieces fixes = rw ((bytes_eq-Decides n.own n.own).1 refl) refl
out_by false n pieces fixes = rw ((bytes_eq-Decides n.own n.own).1 refl) refl

pub its_exports : (k : ℕ) → Out (gen_link k) ≡ the_export (public_name k) ∷ []
its_exports k = ap Out (its_shape k) ∙ out_by (refers k) (names_of k) gen_pieces (gen_fixes k)

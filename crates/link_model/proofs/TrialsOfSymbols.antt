-- Choosing and symbols, tried on small inputs: each line is a value that the rules give by hand.
use Rattle.std.specs.Prelude.{◌≡◌, ℕ, true, false, List, [], ◌∷◌, Some, None, refl, codes}
use Rattle.lx_types.specs.declared.entry.EntryKey.TheVariants.{Ordinal, Named}
use Rattle.obj_types.specs.declared.object.ObjModule.{ObjModule}
use Rattle.obj_types.specs.declared.definition.ModKind.TheVariants.{Library}
use Rattle.obj_types.specs.declared.input.LinkInput.{LinkInput}
use Rattle.obj_types.specs.Fresh.{empty_module}
use Rattle.link_model.specs.declared.symbols.Pick.{Pick}
use Rattle.link_model.specs.declared.symbols.SymDef.TheVariants as means
use Rattle.link_model.specs.declared.refusals.SymRefusal.TheVariants.{Twice, Missing, ImportsMany}
use Rattle.link_model.specs.Link.{Link}
use Rattle.link_model.specs.Choosing.{next_pick}
use Rattle.link_model.specs.Symbols.{commons, imports, global}
use Rattle.link_model.specs.SymbolRefusals.{sym_refusal, imports_past}
use Rattle.obj_types.specs.Defaults.{default_def}
use Rattle.link_model.proofs.Rules.{rules}
use Rattle.link_model.proofs.Samples.{linked, public, constant, extern, comdef, import, export, code32}

-- ---- choosing: object 0 wants `f`; library module 0 defines `g` and module 1 defines `f` and wants `h`

abbrev wants : List ℕ → ObjModule
wants name = record empty_module { exts = extern name ∷ [] }

abbrev has : List ℕ → ObjModule
has name = record empty_module { segs = code32 4 ∷ []; pubs = public name 1 0 ∷ [] }

abbrev with_library : List ℕ → LinkInput
with_library last =
    record {
      objects = wants (codes "f") ∷ [];
      libs = has (codes "g") ∷ record (has (codes "f")) { exts = extern (codes "h") ∷ [] } ∷ has last ∷ [];
      def = default_def Library None;
      stem = codes "S";
    }

abbrev object0 : Pick
object0 = record { lib = false; index = 0 }

abbrev library : ℕ → Pick
library k = record { lib = true; index = k }

-- The module that defines `f` is chosen; the one that defines `g`, which nobody wants, never is.
f_is_drawn : next_pick (with_library (codes "i")) (object0 ∷ []) ≡ Some (library 1)
unfolding rules
f_is_drawn = refl

nothing_more : next_pick (with_library (codes "i")) (object0 ∷ library 1 ∷ []) ≡ None
unfolding rules
nothing_more = refl

-- A chosen library module draws others.
h_is_drawn : next_pick (with_library (codes "h")) (object0 ∷ library 1 ∷ []) ≡ Some (library 2)
unfolding rules
h_is_drawn = refl

-- ---- refusals

abbrev x_and_y : Link
x_and_y = linked (default_def Library None) (record empty_module { exts = extern (codes "x") ∷ extern (codes "y") ∷ [] } ∷ [])

missing_x : sym_refusal x_and_y ≡ Some (Missing (codes "x"))
unfolding rules
missing_x = refl

abbrev m_and_m : Link
m_and_m = linked (default_def Library None) (has (codes "m") ∷ has (codes "m") ∷ [])

twice_m : sym_refusal m_and_m ≡ Some (Twice (codes "m") 1 2)
unfolding rules
twice_m = refl

-- An item of IMPORTS beside a public: the definition file is number 0.
abbrev m_and_import : Link
m_and_import =
    linked (record (default_def Library None) { imports = import (codes "m") (codes "LIB") (Ordinal 1) ∷ [] }) (has (codes "m") ∷ [])

twice_in_def : sym_refusal m_and_import ≡ Some (Twice (codes "m") 1 0)
unfolding rules
twice_in_def = refl

-- An export of a constant means nothing, and so does one of a name without definition.
abbrev exports_constant : Link
exports_constant =
    linked (default_def Library None)
    (record empty_module { pubs = constant (codes "k") 5 ∷ []; exports = export (codes "K") (codes "k") None ∷ [] } ∷ [])

missing_constant : sym_refusal exports_constant ≡ Some (Missing (codes "k"))
unfolding rules
missing_constant = refl

-- Two modules are one too many where one is allowed.
abbrev two_imports : Link
two_imports =
    linked (default_def Library None)
    (record empty_module { imports = import (codes "a") (codes "LIB") (Ordinal 1) ∷ import (codes "b") (codes "OTHER") (Ordinal 1) ∷ import (codes "c") (codes "lib") (Named (codes "c")) ∷ [] } ∷ [])

many_imports : imports_past 1 two_imports ≡ Some (ImportsMany 2)
unfolding rules
many_imports = refl

few_imports : sym_refusal two_imports ≡ None
unfolding rules
few_imports = refl

-- ---- meanings

-- COMDEFs of 4 and 12 near bytes make one communal of 12.
abbrev c_and_c : Link
c_and_c =
    linked (default_def Library None)
    (record empty_module { exts = comdef (codes "c") false 4 ∷ [] } ∷ record empty_module { exts = comdef (codes "c") true 12 ∷ [] } ∷ [])

one_communal : commons c_and_c ≡ (codes "c", record { far = false; len = 12 }) ∷ []
unfolding rules
one_communal = refl

communal_meaning : global c_and_c (codes "c") ≡ Some (means.Common 0)
unfolding rules
communal_meaning = refl

-- A public of the name takes the COMDEFs' place.
abbrev c_and_public : Link
c_and_public = linked (default_def Library None) (record empty_module { exts = comdef (codes "c") false 4 ∷ [] } ∷ has (codes "c") ∷ [])

no_communal : commons c_and_public ≡ []
unfolding rules
no_communal = refl

public_meaning : global c_and_public (codes "c") ≡ Some (means.In 2 1 0)
unfolding rules
public_meaning = refl

-- A local external means a local public of its own module alone.
abbrev local_names : Link
local_names =
    linked (default_def Library None)
    (record empty_module { exts = record (extern (codes "m")) { local = true } ∷ [] } ∷ has (codes "m") ∷ [])

local_is_missing : sym_refusal local_names ≡ Some (Missing (codes "m"))
unfolding rules
local_is_missing = refl

-- Equal pairs count once under one name, and the first spelling stays.
abbrev same_pairs : Link
same_pairs =
    linked (default_def Library None)
    (record empty_module { imports = import (codes "a") (codes "LIB") (Ordinal 1) ∷ import (codes "a") (codes "Lib") (Ordinal 1) ∷ import (codes "b") (codes "LIB") (Ordinal 1) ∷ [] } ∷ [])

two_slots : imports same_pairs ≡ import (codes "a") (codes "LIB") (Ordinal 1) ∷ import (codes "b") (codes "LIB") (Ordinal 1) ∷ []
unfolding rules
two_slots = refl

not_twice : sym_refusal same_pairs ≡ None
unfolding rules
not_twice = refl

second_slot : global same_pairs (codes "b") ≡ Some (means.Import 1)
unfolding rules
second_slot = refl

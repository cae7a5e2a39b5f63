-- The lists that are told of a file without fault, each by its heading and the number of its items.
use Rattle.std.specs.Prelude.{ℕ, ◌-◌, ◌/◌, Bool, true, false, List, [], ◌∷◌, Option, codes, count_by, is_some, length, min, if◌then◌else◌}
use Rattle.std.specs.List.{flat_map}
use Rattle.lx_types.specs.declared.fix.FixTarget.{FixTarget}
use Rattle.lx_types.specs.declared.fix.FixTarget.TheVariants.{Internal, Ordinal, Named, Own}
use Rattle.lx_types.specs.declared.parts.Parts.{Parts}
use Rattle.lx_model.specs.declared.lengths.TheConstants.{RESOURCE_ENTRY_LEN}
use Rattle.lx_model.specs.Resources.{resource_count, resource_table}
use Rattle.obj_types.specs.declared.object.ObjModule.{ObjModule}
use Rattle.obj_types.specs.declared.symbol.Ext.{Ext}
use Rattle.res_model.specs.declared.item.ResItem.{ResItem}
use Rattle.show_model.specs.Outlines.{Tally}

-- ---- a module

abbrev pub is_import : FixTarget → Bool
is_import (Internal object offset) = false
is_import (Ordinal import ordinal) = true
is_import (Named import name_at) = true
is_import (Own ordinal) = false

-- the entries of the resource table that lie whole in the file
abbrev pub whole_resources : List ℕ → ℕ
whole_resources file = min (resource_count file) ((length file - resource_table file) / RESOURCE_ENTRY_LEN)

-- Pages and fixups are told by their kinds: a line for each kind, with how many there are.
abbrev pub module_lists : Parts → List Tally
module_lists m =
    (codes "objects", length m.objects) ∷
    (codes "pages by kind", 4) ∷
    (codes "fixups by kind", 7) ∷
    (codes "fixups by target", 4) ∷
    (codes "import modules", length m.imports) ∷
    (codes "imported entry points", count_by is_import m.refs) ∷
    (codes "exports", length m.entries) ∷
    (codes "names of exports", length m.names) ∷
    (codes "resources", whole_resources m.file) ∷
    []

-- ---- an object module

abbrev pub is_communal : Ext → Bool
is_communal e = is_some e.common

abbrev pub how_many : {A : Type 0} → Option A → ℕ
how_many o = if is_some o then 1 else 0

abbrev pub object_lists : ObjModule → List Tally
object_lists m =
    (codes "object module", 1) ∷
    (codes "segments", length m.segs) ∷
    (codes "groups", length m.groups) ∷
    (codes "public names", length m.pubs) ∷
    (codes "external names", length m.exts) ∷
    (codes "communal names", count_by is_communal m.exts) ∷
    (codes "COMDATs", length m.comdats) ∷
    (codes "fixups by location", 8) ∷
    (codes "imports", length m.imports) ∷
    (codes "exports", length m.exports) ∷
    (codes "default libraries", length m.deflibs) ∷
    (codes "start", how_many m.start) ∷
    []

-- ---- a library, and a resource file

-- its modules, and then of each what is told of it
abbrev pub library_lists : List ObjModule → List Tally
library_lists modules = (codes "members", length modules) ∷ flat_map object_lists modules

abbrev pub resource_lists : List ResItem → List Tally
resource_lists items = (codes "resources", length items) ∷ []

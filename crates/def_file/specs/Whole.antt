-- What holds of all that is read: names are not empty, and numbers are in their ranges.
use Rattle.std.specs.Prelude.{◌≡◌, ◌≢◌, ◌≤◌, Bool, Option, Some, None, [], IfSome}
use Rattle.std.specs.List.{All}
use Rattle.obj_types.specs.declared.limits.TheConstants.{MAX_DATA}
use Rattle.obj_types.specs.declared.definition.ModKind.{ModKind}
use Rattle.obj_types.specs.declared.definition.ModKind.TheVariants as modules
use Rattle.obj_types.specs.Definition.{IsBase, WholeExport, WholeImport}
use Rattle.def_model.specs.declared.draft.SegDraft.{SegDraft}
use Rattle.def_model.specs.declared.draft.Draft.{Draft}
use Rattle.def_model.specs.declared.draft.Owner.{Owner}
use Rattle.def_model.specs.declared.draft.Owner.TheVariants as owners
use Rattle.def_model.specs.declared.draft.Place.{Place}
use Rattle.def_model.specs.declared.draft.Place.TheVariants as place
use Rattle.def_model.specs.declared.draft.Reading.{Reading}

-- Words on its calls stand after LIBRARY alone.
abbrev pub CallsFit : Option ModKind → Option Bool → Option Bool → Type 0
CallsFit None init term = (init ≡ None) × (term ≡ None)
CallsFit (Some modules.Program) init term = (init ≡ None) × (term ≡ None)
CallsFit (Some modules.Library) init term = Unit {0}

-- The module's kind is not given where NAME or LIBRARY is read, and is a library's where words on its calls may stand.
abbrev pub FitsKind : Place → Option ModKind → Type 0
FitsKind place.Program kind = kind ≡ None
FitsKind place.Library kind = kind ≡ None
FitsKind place.LibraryWords kind = kind ≡ Some modules.Library
FitsKind _ kind = Unit {0}

pub record WholeDraft (d : Draft) : Type 0 where
  pub calls : CallsFit d.kind d.init_each d.term_each
  pub name : IfSome d.name (λ n. n ≢ [])
  pub stack : IfSome d.stack (λ n. n ≤ MAX_DATA)
  pub base : IfSome d.base IsBase
  pub segs : All (λ (s : SegDraft). s.name ≢ []) d.segs
  pub exports : All WholeExport d.exports
  pub imports : All WholeImport d.imports

abbrev pub WholeOwner : Owner → Type 0
WholeOwner (owners.Segment name class) = name ≢ []
WholeOwner _ = Unit {0}

-- The item that is read so far.
abbrev pub WholePlace : Place → Type 0
WholePlace (place.Attributes of words) = WholeOwner of
WholePlace (place.Segment name) = name ≢ []
WholePlace (place.Class name) = name ≢ []
WholePlace (place.Export item part) = WholeExport item
WholePlace (place.Internal item) = WholeExport item
WholePlace (place.Ordinal item) = WholeExport item
WholePlace (place.Import name) = name ≢ []
WholePlace (place.ImportEquals name) = name ≢ []
WholePlace (place.ImportModule internal name) = (internal ≢ []) × (name ≢ [])
WholePlace (place.ImportDot internal name) = IfSome internal (λ n. n ≢ []) × (name ≢ [])
WholePlace _ = Unit {0}

pub record WholeReading (r : Reading) : Type 0 where
  pub draft : WholeDraft r.draft
  pub place : WholePlace r.place
  pub kind : FitsKind r.place r.draft.kind

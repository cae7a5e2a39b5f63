-- What a comment says, as the calls that read it answer it.
use Rattle.std.specs.Prelude.{◌<◌, length}
use Rattle.omf_model.specs.Record.{Record, comment, default_library, impdef, expdef, ImpEntry, by_ordinal, by_name, ImpDef, ExpDef}
use Rattle.omf_names.specs.declared.comments.EntryFields.{EntryFields}
use Rattle.omf_names.specs.declared.comments.EntryFields.TheVariants.{ByOrdinal, ByName}
use Rattle.omf_names.specs.declared.comments.ImpFields.{ImpFields}
use Rattle.omf_names.specs.declared.comments.ExpFields.{ExpFields}
use Rattle.omf_names.specs.declared.comments.Comment.{Comment}
use Rattle.omf_names.specs.declared.comments.Comment.TheVariants.{Library, Import, Export, Other}

abbrev pub imp_entry : EntryFields → ImpEntry
imp_entry (ByOrdinal n) = by_ordinal n
imp_entry (ByName name) = by_name name.now

abbrev pub imp_def : ImpFields → ImpDef
imp_def d = record { flag = d.flag; internal = d.internal.now; from = d.from.now; entry = imp_entry d.entry }

abbrev pub imp_record : ImpFields → Record
imp_record d = impdef (imp_def d)

abbrev pub exp_def : ExpFields → ExpDef
exp_def d = record { flag = d.flag; exported = d.exported.now; internal = d.internal.now; ordinal = d.ordinal }

abbrev pub exp_record : ExpFields → Record
exp_record d = expdef (exp_def d)

abbrev pub comment_record : Comment → Record
comment_record (Library name) = default_library name.now
comment_record (Import d) = imp_record d
comment_record (Export d) = exp_record d
comment_record Other = comment

-- The names were counted by a byte.
abbrev pub IsShortEntry : EntryFields → Type 0
IsShortEntry (ByOrdinal n) = Unit {0}
IsShortEntry (ByName name) = length name.now < 256

abbrev pub IsShortImport : ImpFields → Type 0
IsShortImport d = (length d.internal.now < 256) × (length d.from.now < 256) × IsShortEntry d.entry

abbrev pub IsShortExport : ExpFields → Type 0
IsShortExport d = (length d.exported.now < 256) × (length d.internal.now < 256)

abbrev pub IsShort : Comment → Type 0
IsShort (Library name) = length name.now < 256
IsShort (Import d) = IsShortImport d
IsShort (Export d) = IsShortExport d
IsShort Other = Unit {0}

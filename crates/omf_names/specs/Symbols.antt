-- The definitions of symbols, as the calls that read them answer them. No type is ever defined, so its index is 0.
use Rattle.std.specs.Prelude.{ℕ, List}
use Rattle.omf_model.specs.Record.{PubDef, ExtDef, ComDef, Communal, far, near}
use Rattle.omf_names.specs.declared.publics.PubFields.{PubFields}
use Rattle.omf_names.specs.declared.communals.ComFields.{ComFields}
use Rattle.omf_names.specs.declared.communals.Storage.{Storage}
use Rattle.omf_names.specs.declared.communals.Storage.TheVariants as storages

abbrev pub ext_named : List ℕ → ExtDef
ext_named name = record { name = name; type = 0 }

abbrev pub pub_def : PubFields → PubDef
pub_def d = record { name = d.name.now; offset = d.offset; type = 0 }

abbrev pub communal : Storage → Communal
communal (storages.Far count size) = far count size
communal (storages.Near size) = near size

abbrev pub com_def : ComFields → ComDef
com_def d = record { name = d.name.now; type = 0; communal = communal d.storage }

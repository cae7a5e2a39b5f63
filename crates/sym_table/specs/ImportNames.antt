-- Import pairs that are the same have one name.
use Rattle.std.specs.Prelude.{◌≡◌, ◌&&◌, true, bytes_eq}
use Rattle.std.proofs.lemmas.Bool.{and_parts}
use Rattle.std.proofs.lemmas.Slice.Eq.{bytes_eq-Decides}
use Rattle.obj_types.specs.declared.symbol.Imp.{Imp}
use Rattle.link_model.specs.Symbols.{import_key, same_import, same_entry, same_module}

pub same_names : (a b : Imp) → same_import (import_key a) (import_key b) ≡ true → a.name ≡ b.name
same_names a b same =
    let both = and_parts (bytes_eq a.name b.name && same_module a.module b.module) (same_entry a.entry b.entry) same in
    (bytes_eq-Decides a.name b.name).0 (and_parts (bytes_eq a.name b.name) (same_module a.module b.module) both.0).0

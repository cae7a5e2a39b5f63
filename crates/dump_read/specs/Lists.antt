-- The lists of a dump: the texts of their values by number, and what goes on after them.
use Rattle.std.specs.Prelude.{ℕ, List, [], ◌∷◌, codes}
use Rattle.lx_types.specs.declared.fix.Fix.{Fix}
use Rattle.lx_types.specs.declared.entry.EntryHead.{EntryHead}
use Rattle.dump_model.specs.declared.listing.ListedObject.{ListedObject}
use Rattle.dump_model.specs.declared.listing.ListedPage.{ListedPage}
use Rattle.dump_model.specs.Lines.{fix_line, entry_line, name_line}
use Rattle.dump_read.specs.Taken.{shut}
use Rattle.dump_read.specs.Sequences.{list_opens}

abbrev pub numbered_fix : ℕ → ℕ → ℕ × Fix → List ℕ
numbered_fix k i p = fix_line k i p.1

abbrev pub numbered_entry : ℕ × (ℕ × EntryHead) → List ℕ
numbered_entry p = entry_line p.1

abbrev pub numbered_name : ℕ × (List ℕ × ℕ) → List ℕ
numbered_name p = name_line p.1

abbrev pub fix_opens : List Fix → List (List ℕ)
fix_opens fixes = list_opens (codes "fix " ∷ []) shut fixes

abbrev pub page_opens : ListedPage → List (List ℕ)
page_opens p = fix_opens p.fixes

abbrev pub object_opens : ListedObject → List (List ℕ)
object_opens o = list_opens [] page_opens o.pages

abbrev pub objects_open : List ListedObject → List (List ℕ)
objects_open os = list_opens (codes "object " ∷ []) object_opens os

abbrev pub imports_open : List (List ℕ) → List (List ℕ)
imports_open names = list_opens (codes "import " ∷ []) shut names

abbrev pub entries_open : List (ℕ × EntryHead) → List (List ℕ)
entries_open es = list_opens (codes "entry " ∷ []) shut es

abbrev pub names_open : List (List ℕ × ℕ) → List (List ℕ)
names_open ns = list_opens (codes "name " ∷ []) shut ns

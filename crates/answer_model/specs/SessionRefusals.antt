-- How the first fault of a session is told, and why modules are no library.
use Rattle.std.specs.Prelude.{ℕ, List, ◌++◌, codes}
use Rattle.lx_model.specs.declared.library.LibraryRefusal.{LibraryRefusal}
use Rattle.lx_model.specs.declared.library.LibraryRefusal.TheVariants.{TooManyModules, NameTwice}
use Rattle.session_model.specs.declared.sessions.SessionKind.{SessionKind}
use Rattle.session_model.specs.declared.sessions.SessionKind.TheVariants as session
use Rattle.session_model.specs.declared.sessions.SessionRefusal.{SessionRefusal}
use Rattle.answer_model.specs.FileRefusals.{at_line, field}

abbrev pub session_kind : SessionKind → List ℕ
session_kind session.Byte = codes "Byte"
session_kind session.Statement = codes "Statement"
session_kind session.Count = codes "Count"
session_kind session.Number = codes "Number"
session_kind session.Hex = codes "Hex"
session_kind session.Order = codes "Order"
session_kind session.TooMany = codes "TooMany"

abbrev pub session_text : SessionRefusal → List ℕ
session_text r = at_line r.line (session_kind r.kind)

abbrev pub library_text : LibraryRefusal → List ℕ
library_text (TooManyModules count) = codes "TooManyModules" ++ field count
library_text (NameTwice first second) = codes "NameTwice" ++ (field first ++ field second)

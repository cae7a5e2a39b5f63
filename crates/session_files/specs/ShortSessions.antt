-- Bytes say no more modules than there are bytes.
use Rattle.std.specs.Prelude.{ℕ, ◌≤◌, List, length}
use Rattle.session_model.specs.declared.sessions.Session.{Session}
use Rattle.session_model.specs.Sessions.{Ses}

abbrev pub SessionsAreShort : Type 0
SessionsAreShort = (bytes : List ℕ) (s : Session) → Ses bytes s → length s.modules ≤ length bytes

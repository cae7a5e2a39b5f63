-- Commands in a transcript.
use Rattle.std.specs.Prelude.{◌≡◌, ℕ, ◌||◌, if◌then◌else◌, List, [], ◌∷◌, ◌++◌, codes, slice_get, Option, Some, None}
use Rattle.load_model.specs.declared.commands.Command.{Command}
use Rattle.session_model.specs.declared.sessions.Session.{Session}
use Rattle.session_model.specs.Text.{words}
use Rattle.session_model.specs.Transcript.{command_words}
use Rattle.check_model.specs.Told.{commands_at, IsSaid}
use Rattle.transcript_read.specs.Refusals.{is_word}

-- how many words a command has, by its first one
abbrev pub command_length : List ℕ → ℕ
command_length w =
    if is_word w (codes "exit") then 1
    else if is_word w (codes "start") || is_word w (codes "load") || is_word w (codes "free") then 2
    else if is_word w (codes "query") then 3
    else if is_word w (codes "getres") then 4
    else 5

-- a text is that of a command which some session has, or of none
abbrev pub IsCommandText : Option Command → List ℕ → Type 0
IsCommandText (Some c) text = IsSaid c × (text ≡ words (command_words c))
IsCommandText None text = (c : Command) → IsSaid c → text ≡ words (command_words c) → ⊥

-- the session of one script with one command, and the bytes that are written of it
abbrev pub of_one : Command → Session
of_one c = record { modules = []; failing = []; scripts = record { pid = 1; commands = c ∷ [] } ∷ [] }

abbrev pub one_bytes : List ℕ → List ℕ
one_bytes text = (codes "process 1" ++ 0x0A ∷ []) ++ (text ++ 0x0A ∷ [])

-- a session has a command
abbrev pub IsLast : Session → Command → Type 0
IsLast session c = (script : ℕ) × (place : ℕ) × (slice_get (commands_at (slice_get session.scripts script)) place ≡ Some c)

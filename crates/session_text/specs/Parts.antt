-- The text of a part of a history.
use Rattle.std.specs.Prelude.{ℕ, ◌+◌, List}
use Rattle.std.specs.List.{flat_map, enumerate_from}
use Rattle.load_model.specs.declared.deeds.Entry.{Entry}
use Rattle.load_model.specs.Modules.{Library}
use Rattle.session_model.specs.declared.sessions.ScriptLines.{ScriptLines}
use Rattle.session_model.specs.Merging.{numbers_of}
use Rattle.session_model.specs.Transcript.{entry_text}

-- The entries that come after so many others.
abbrev pub entries_text : Library → List ScriptLines → ℕ → List Entry → List ℕ
entries_text lib steady before entries = flat_map (entry_text lib (numbers_of steady)) (enumerate_from (before + 1) entries)

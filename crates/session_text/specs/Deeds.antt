-- The words of a deed that has bytes, each after a blank.
use Rattle.std.specs.Prelude.{ℕ, List, []}
use Rattle.load_model.specs.declared.deeds.Deed.{Deed}
use Rattle.load_model.specs.declared.deeds.Deed.TheVariants as deeds
use Rattle.load_model.specs.Modules.{Library}
use Rattle.session_model.specs.Transcript.{deed_words}
use Rattle.line_words.specs.Words.{spaced}

-- nothing, where it has none
abbrev pub bytes_deed_text : Library → Deed → List ℕ
bytes_deed_text lib (deeds.Write serial m object offset bytes) = spaced (deed_words lib (deeds.Write serial m object offset bytes))
bytes_deed_text lib (deeds.Debug serial m object offset bytes) = spaced (deed_words lib (deeds.Debug serial m object offset bytes))
bytes_deed_text lib (deeds.Shared serial m object offset bytes) = spaced (deed_words lib (deeds.Shared serial m object offset bytes))
bytes_deed_text lib (deeds.Enter how m fresh calls) = []
bytes_deed_text lib (deeds.Full how m of object size) = []
bytes_deed_text lib (deeds.Failed how m by fresh calls gone) = []
bytes_deed_text lib (deeds.Free m calls gone) = []
bytes_deed_text lib (deeds.Exit calls gone) = []
bytes_deed_text lib (deeds.Fault serial m p) = []

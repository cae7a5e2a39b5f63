-- The transcript of a run: the history, then each process's steady lines, then the counts.
use Rattle.std.specs.Prelude.{ℕ, zero, suc, List, [], ◌∷◌, ◌++◌, length, map, filter, flat_map, codes, decimal, slice_index}
use Rattle.std.specs.List.{enumerate_from}
use Rattle.lx_types.specs.declared.entry.EntryKey.{EntryKey}
use Rattle.lx_types.specs.declared.entry.EntryKey.TheVariants.{Ordinal, Named}
use Rattle.load_model.specs.declared.commands.Place.{Place}
use Rattle.load_model.specs.declared.commands.Command.{Command}
use Rattle.load_model.specs.declared.commands.Command.TheVariants as commands
use Rattle.load_model.specs.declared.commands.Refusal.{Refusal}
use Rattle.load_model.specs.declared.commands.Refusal.TheVariants as why
use Rattle.load_model.specs.declared.commands.Reply.{Reply}
use Rattle.load_model.specs.declared.commands.Reply.TheVariants as replies
use Rattle.load_model.specs.declared.deeds.How.{How}
use Rattle.load_model.specs.declared.deeds.How.TheVariants as ways
use Rattle.load_model.specs.declared.deeds.CallKind.{CallKind}
use Rattle.load_model.specs.declared.deeds.CallKind.TheVariants as kinds
use Rattle.load_model.specs.declared.deeds.Call.{Call}
use Rattle.load_model.specs.declared.deeds.Fresh.{Fresh}
use Rattle.load_model.specs.declared.deeds.Gone.{Gone}
use Rattle.load_model.specs.declared.deeds.Deed.{Deed}
use Rattle.load_model.specs.declared.deeds.Deed.TheVariants as deeds
use Rattle.load_model.specs.declared.deeds.Entry.{Entry}
use Rattle.load_model.specs.Modules.{Library, name_of}
use Rattle.session_model.specs.declared.sessions.Line.{Line}
use Rattle.session_model.specs.declared.sessions.ScriptLines.{ScriptLines}
use Rattle.session_model.specs.Merging.{is_fault, numbers_of}
use Rattle.lx_types.specs.Escaped.{escaped, hex_address}
use Rattle.session_model.specs.Text.{line_of, inner_line, bytes_words, bytes_word}

-- ---- entries

-- a module by its own name, with its escapes
abbrev pub module_text : Library → ℕ → List ℕ
module_text lib m = escaped (name_of lib m)

abbrev pub how_text : How → List ℕ
how_text ways.Start = codes "start"
how_text ways.Load = codes "load"

abbrev pub kind_text : CallKind → List ℕ
kind_text kinds.Init = codes "init"
kind_text kinds.Term = codes "term"
kind_text kinds.Main = codes "main"

-- the bases stand after the name; a module without objects has none
abbrev pub new_line : Library → Fresh → List ℕ
new_line lib f = inner_line (codes "new" ∷ decimal f.serial ∷ module_text lib f.«module» ∷ map hex_address f.bases)

abbrev pub call_line : Library → Call → List ℕ
call_line lib c = inner_line (codes "call" ∷ kind_text c.kind ∷ decimal c.serial ∷ module_text lib c.«module» ∷ hex_address c.address ∷ [])

abbrev pub gone_line : Library → Gone → List ℕ
gone_line lib g = inner_line (codes "gone" ∷ decimal g.serial ∷ module_text lib g.«module» ∷ [])

abbrev pub place_words : Library → ℕ → ℕ → ℕ → ℕ → List (List ℕ)
place_words lib serial m object offset = decimal serial ∷ module_text lib m ∷ decimal object ∷ decimal offset ∷ []

-- the words of an entry after its process, and the lines below it
abbrev pub deed_words : Library → Deed → List (List ℕ)
deed_words lib (deeds.Enter how m fresh calls) = how_text how ∷ module_text lib m ∷ []
deed_words lib (deeds.Full how m of object size) = how_text how ∷ module_text lib m ∷ codes "full" ∷ module_text lib of ∷ decimal object ∷ decimal size ∷ []
deed_words lib (deeds.Failed how m by fresh calls gone) = how_text how ∷ module_text lib m ∷ codes "failed" ∷ module_text lib by ∷ []
deed_words lib (deeds.Free m calls gone) = codes "free" ∷ module_text lib m ∷ []
deed_words lib (deeds.Exit calls gone) = codes "exit" ∷ []
deed_words lib (deeds.Fault serial m p) = codes "fault" ∷ place_words lib serial m p.object p.page
deed_words lib (deeds.Write serial m object offset bytes) = codes "write" ∷ place_words lib serial m object offset ++ codes "=" ∷ bytes_words bytes
deed_words lib (deeds.Debug serial m object offset bytes) = codes "debug" ∷ place_words lib serial m object offset ++ codes "=" ∷ bytes_words bytes
deed_words lib (deeds.Shared serial m object offset bytes) = codes "shared" ∷ place_words lib serial m object offset ++ codes "=" ∷ bytes_words bytes

abbrev pub deed_lines : Library → Deed → List ℕ
deed_lines lib (deeds.Enter how m fresh calls) = flat_map (new_line lib) fresh ++ flat_map (call_line lib) calls
deed_lines lib (deeds.Failed how m by fresh calls gone) = flat_map (new_line lib) fresh ++ flat_map (call_line lib) calls ++ flat_map (gone_line lib) gone
deed_lines lib (deeds.Free m calls gone) = flat_map (call_line lib) calls ++ flat_map (gone_line lib) gone
deed_lines lib (deeds.Exit calls gone) = flat_map (call_line lib) calls ++ flat_map (gone_line lib) gone
deed_lines lib deed = []

-- a process by its script's number, where it counts from 1 in the order of the scripts
abbrev pub process_text : List ℕ → ℕ → List ℕ
process_text numbers zero = codes "P" ++ decimal 0
process_text numbers (suc k) = codes "P" ++ decimal (slice_index numbers k)

unfoldable pub entry_text : Library → List ℕ → ℕ × Entry → List ℕ
entry_text lib numbers x = line_of (decimal x.0 ∷ process_text numbers x.1.pid ∷ deed_words lib x.1.deed) ++ deed_lines lib x.1.deed

-- ---- steady lines

abbrev pub span_words : Place → List (List ℕ)
span_words p = p.«module» ∷ decimal p.object ∷ decimal p.offset ∷ decimal p.len ∷ []

abbrev pub written_words : Place → List ℕ → List (List ℕ)
written_words p bytes = p.«module» ∷ decimal p.object ∷ decimal p.offset ∷ bytes_word bytes ∷ []

abbrev pub key_text : EntryKey → List ℕ
key_text (Ordinal ordinal) = codes "@" ++ decimal ordinal
key_text (Named name) = name

-- a command's words, with module names as the session wrote them
abbrev pub command_words : Command → List (List ℕ)
command_words (commands.Start name) = codes "start" ∷ name ∷ []
command_words (commands.Load name) = codes "load" ∷ name ∷ []
command_words (commands.Free name) = codes "free" ∷ name ∷ []
command_words (commands.Touch p) = codes "touch" ∷ span_words p
command_words (commands.Peek p) = codes "peek" ∷ span_words p
command_words (commands.Shared p) = codes "shared" ∷ span_words p
command_words (commands.Write p bytes) = codes "write" ∷ written_words p bytes
command_words (commands.Debug p bytes) = codes "debug" ∷ written_words p bytes
command_words (commands.Query name key) = codes "query" ∷ name ∷ key_text key ∷ []
command_words (commands.GetRes name ty id) = codes "getres" ∷ name ∷ decimal ty ∷ decimal id ∷ []
command_words commands.Exit = codes "exit" ∷ []

-- a refusal by its name, with its fields
abbrev pub refusal_words : Refusal → List (List ℕ)
refusal_words why.Ended = codes "Ended" ∷ []
refusal_words why.Worn = codes "Worn" ∷ []
refusal_words why.Started = codes "Started" ∷ []
refusal_words why.NoModule = codes "NoModule" ∷ []
refusal_words why.NotLibrary = codes "NotLibrary" ∷ []
refusal_words why.NotProgram = codes "NotProgram" ∷ []
refusal_words why.NoEntry = codes "NoEntry" ∷ []
refusal_words why.ForwardLoop = codes "ForwardLoop" ∷ []
refusal_words why.Gate286 = codes "Gate286" ∷ []
refusal_words why.CountFull = codes "CountFull" ∷ []
refusal_words (why.ArenaFull number of object size) = codes "ArenaFull" ∷ decimal number ∷ decimal of ∷ decimal object ∷ decimal size ∷ []
refusal_words (why.InitFailed number by) = codes "InitFailed" ∷ decimal number ∷ decimal by ∷ []
refusal_words why.NotHeld = codes "NotHeld" ∷ []
refusal_words why.NotAttached = codes "NotAttached" ∷ []
refusal_words why.Range = codes "Range" ∷ []
refusal_words why.ReadOnly = codes "ReadOnly" ∷ []
refusal_words why.IsShared = codes "IsShared" ∷ []
refusal_words why.NotShared = codes "NotShared" ∷ []
refusal_words why.NotCode = codes "NotCode" ∷ []
refusal_words why.Invalid = codes "Invalid" ∷ []
refusal_words (why.NotTouched p) = codes "NotTouched" ∷ decimal p ∷ []
refusal_words why.NoResource = codes "NoResource" ∷ []

abbrev pub reply_words : Reply → List (List ℕ)
reply_words replies.Fine = codes "ok" ∷ []
reply_words (replies.Bytes bytes) = codes "=" ∷ bytes_words bytes
reply_words (replies.Address a) = codes "=" ∷ hex_address a ∷ []
reply_words (replies.Spot spot) = codes "=" ∷ decimal spot.object ∷ decimal spot.offset ∷ decimal spot.len ∷ []
reply_words (replies.Refused refusal) = codes "refused" ∷ refusal_words refusal

unfoldable pub line_text : Line → List ℕ
line_text l = inner_line (codes "at" ∷ decimal l.front ∷ command_words l.command ++ reply_words l.reply)

abbrev pub script_text : ScriptLines → List ℕ
script_text s = line_of (codes "process" ∷ decimal s.pid ∷ []) ++ flat_map line_text s.lines

-- ---- all of it

abbrev pub summary_words : List Entry → List ScriptLines → List (List ℕ)
summary_words h s =
    codes "summary" ∷ codes "processes" ∷ decimal (length s) ∷ codes "entries" ∷ decimal (length h)
    ∷ codes "faults" ∷ decimal (length (filter (λ x. is_fault x.deed) h)) ∷ []

unfoldable pub Transcript : Library → List Entry → List ScriptLines → List ℕ
Transcript lib h s =
    line_of (codes "history" ∷ []) ++ flat_map (entry_text lib (numbers_of s)) (enumerate_from 1 h)
    ++ flat_map script_text s ++ line_of (summary_words h s)

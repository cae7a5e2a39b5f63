-- Steps of a reader of words, and the words of values.
use Rattle.std.specs.Prelude.{◌≡◌, ℕ, Bool, true, false, List, [], ◌∷◌, ◌++◌, map, codes, decimal, Option, Some, None}
use Rattle.lx_types.specs.Escaped.{hex_address}
use Rattle.lx_types.specs.declared.resource.ResSpot.{ResSpot}
use Rattle.load_model.specs.declared.commands.Refusal.{Refusal}
use Rattle.load_model.specs.declared.deeds.Call.{Call}
use Rattle.load_model.specs.declared.deeds.Fresh.{Fresh}
use Rattle.load_model.specs.declared.deeds.Gone.{Gone}
use Rattle.load_model.specs.Modules.{Library}
use Rattle.session_model.specs.declared.sessions.Line.{Line}
use Rattle.session_model.specs.Text.{bytes_words}
use Rattle.session_model.specs.Transcript.{module_text, how_text, kind_text, deed_words, command_words, refusal_words, reply_words}
use Rattle.transcript_read.specs.declared.deeds.Entered.{Entered}
use Rattle.transcript_read.specs.declared.deeds.FullAt.{FullAt}
use Rattle.transcript_read.specs.declared.deeds.FailedBy.{FailedBy}
use Rattle.transcript_read.specs.declared.deeds.FaultAt.{FaultAt}
use Rattle.transcript_read.specs.declared.deeds.BytesAt.{BytesAt}
use Rattle.transcript_read.specs.declared.lines.BareEntry.{BareEntry}
use Rattle.transcript_read.specs.Words.{Row}
use Rattle.transcript_read.specs.Taken.{Takes}

-- each value is in range
abbrev pub Any : {A : Type 0} → A → Type 0
Any a = Unit {0}

-- a word that is known is taken
abbrev pub TakesKnown : List ℕ → Option Row → Option Row → Type 0
TakesKnown text old new = Takes {A = Unit {0}} (λ _. text) (λ _. Unit {0}) tt old new

-- the next word is taken, where there is one
abbrev pub IsFront : Option Row → List ℕ → Option Row → Type 0
IsFront None w new = new ≡ None
IsFront (Some []) w new = new ≡ None
IsFront (Some (v ∷ vs)) w new = (w ≡ v) × (new ≡ Some vs)

abbrev pub held : Bool → Option Row → Option Row
held true s = s
held false s = None

abbrev pub has_word : Option Row → Bool
has_word None = false
has_word (Some []) = false
has_word (Some (w ∷ ws)) = true

abbrev pub next_word : Option Row → List ℕ
next_word None = []
next_word (Some []) = []
next_word (Some (w ∷ ws)) = w

-- a process by its script's number
abbrev pub process_word : ℕ → List ℕ
process_word pid = codes "P" ++ decimal pid

-- ---- the words of lines that are part of the one above: two blanks stand in front of them

abbrev pub inner : Row → Row
inner ws = [] ∷ [] ∷ ws

abbrev pub new_row : Library → Fresh → Row
new_row lib f = inner (codes "new" ∷ decimal f.serial ∷ module_text lib f.«module» ∷ map hex_address f.bases)

abbrev pub call_row : Library → Call → Row
call_row lib c = inner (codes "call" ∷ kind_text c.kind ∷ decimal c.serial ∷ module_text lib c.«module» ∷ hex_address c.address ∷ [])

abbrev pub gone_row : Library → Gone → Row
gone_row lib g = inner (codes "gone" ∷ decimal g.serial ∷ module_text lib g.«module» ∷ [])

abbrev pub steady_row : Line → Row
steady_row l = inner (codes "at" ∷ decimal l.front ∷ (command_words l.command ++ reply_words l.reply))

-- ---- the words of what was done

abbrev pub entered_row : Library → Entered → Row
entered_row lib x = how_text x.how ∷ module_text lib x.«module» ∷ []

abbrev pub full_row : Library → FullAt → Row
full_row lib x = how_text x.how ∷ module_text lib x.«module» ∷ codes "full" ∷ module_text lib x.of ∷ decimal x.object ∷ decimal x.size ∷ []

abbrev pub failed_row : Library → FailedBy → Row
failed_row lib x = how_text x.how ∷ module_text lib x.«module» ∷ codes "failed" ∷ module_text lib x.by ∷ []

abbrev pub free_row : Library → ℕ → Row
free_row lib m = codes "free" ∷ module_text lib m ∷ []

abbrev pub exit_row : Unit {0} → Row
exit_row _ = codes "exit" ∷ []

abbrev pub fault_row : Library → FaultAt → Row
fault_row lib x = codes "fault" ∷ decimal x.serial ∷ module_text lib x.«module» ∷ decimal x.page.object ∷ decimal x.page.page ∷ []

abbrev pub bytes_row : Library → List ℕ → BytesAt → Row
bytes_row lib verb x = verb ∷ decimal x.serial ∷ module_text lib x.«module» ∷ decimal x.object ∷ decimal x.offset ∷ codes "=" ∷ bytes_words x.bytes

-- ---- the words of replies

abbrev pub refused_row : Refusal → Row
refused_row r = codes "refused" ∷ refusal_words r

abbrev pub fine_row : Unit {0} → Row
fine_row _ = codes "ok" ∷ []

abbrev pub shown_row : List ℕ → Row
shown_row bytes = codes "=" ∷ bytes_words bytes

abbrev pub address_row : ℕ → Row
address_row a = codes "=" ∷ hex_address a ∷ []

abbrev pub spot_row : ResSpot → Row
spot_row spot = codes "=" ∷ decimal spot.object ∷ decimal spot.offset ∷ decimal spot.len ∷ []

-- ---- the words of other lines

abbrev pub history_row : Unit {0} → Row
history_row _ = codes "history" ∷ []

abbrev pub entry_row : Library → BareEntry → Row
entry_row lib x = decimal x.number ∷ process_word x.process ∷ deed_words lib x.deed

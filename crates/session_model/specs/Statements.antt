-- A line of a session by itself: the statement that its words make, or what is wrong with it.
use Rattle.std.specs.Prelude.{ℕ, ◌==◌, ◌&&◌, ◌||◌, not, Bool, false, List, [], ◌∷◌, length, drop, codes, bytes_eq, Option, Some, None, option_map, option_and_then, nat_lt, nat_le, if◌then◌else◌}
use Rattle.std.specs.List.{list_any, list_all}
use Rattle.lx_types.specs.declared.entry.EntryKey.{EntryKey}
use Rattle.lx_types.specs.declared.entry.EntryKey.TheVariants.{Ordinal, Named}
use Rattle.load_model.specs.declared.commands.Place.{Place}
use Rattle.load_model.specs.declared.commands.Command.{Command}
use Rattle.load_model.specs.declared.commands.Command.TheVariants.{Start, Load, Free, Touch, Peek, Shared, Write, Debug, Query, GetRes, Exit}
use Rattle.session_model.specs.declared.sessions.FailingLine.{FailingLine}
use Rattle.session_model.specs.declared.sessions.ModLine.{ModLine}
use Rattle.session_model.specs.declared.sessions.ModLine.TheVariants.{Take, Build}
use Rattle.session_model.specs.declared.sessions.SessionKind.{SessionKind}
use Rattle.session_model.specs.declared.sessions.SessionKind.TheVariants as kinds
use Rattle.session_model.specs.Lines.{is_allowed, words_in, number_in, hex_bytes}
use Rattle.lx_types.specs.declared.limits.TheConstants.{MAX_PROCESSES}
use Rattle.session_model.specs.declared.limits.TheConstants.{MAX_BYTES, MAX_WORD}

-- what a line says: a module, an initialisation that fails, the number of a script, or a command of the script above
pub data Statement : Type 0 where
  gives : ModLine → Statement
  fails : FailingLine → Statement
  process : ℕ → Statement
  command : Command → Statement

-- what a line comes to: nothing, where it is empty or a comment; a statement; or a fault
pub data Reading : Type 0 where
  nothing : Reading
  says : Statement → Reading
  wrong : SessionKind → Reading

abbrev pub or_wrong : SessionKind → Option Statement → Reading
or_wrong kind (Some statement) = says statement
or_wrong kind None = wrong kind

-- ---- numbers and places

abbrev pub place_of : List ℕ → ℕ → ℕ → ℕ → Place
place_of name object offset len = record { «module» = name; object = object; offset = offset; len = len }

-- a length is at least 1
abbrev pub length_in : Option ℕ → List ℕ → Option ℕ
length_in None word = option_and_then (λ n. if n == 0 then None else Some n) (number_in word)
length_in (Some most) word = option_and_then (λ n. if (n == 0) || nat_lt most n then None else Some n) (number_in word)

abbrev pub place_in : Option ℕ → List ℕ → List ℕ → List ℕ → List ℕ → Option Place
place_in most name object offset len =
    option_and_then (λ o. option_and_then (λ x. option_map (place_of name o x) (length_in most len)) (number_in offset)) (number_in object)

abbrev pub begins_with_at : List ℕ → Bool
begins_with_at [] = false
begins_with_at (b ∷ bytes) = b == 0x40

-- `@` and an ordinal, or a name
abbrev pub key_in : List ℕ → Option EntryKey
key_in word = if begins_with_at word then option_map Ordinal (number_in (drop 1 word)) else Some (Named word)

-- the number of a process
abbrev pub process_in : List ℕ → Option ℕ
process_in word = option_and_then (λ n. if nat_le 1 n && nat_le n MAX_PROCESSES then Some n else None) (number_in word)

-- a number of 16 bits: the type or the identifier of a resource
abbrev pub word_in : List ℕ → Option ℕ
word_in word = option_and_then (λ n. if nat_lt n 0x1_0000 then Some n else None) (number_in word)

-- the bytes of a write: one at least
abbrev pub hex_in : List ℕ → Option (List ℕ)
hex_in word = option_and_then (λ bytes. if (length bytes == 0) || nat_lt MAX_BYTES (length bytes) then None else Some bytes) (hex_bytes word)

-- a number that is wrong comes before bytes that are
abbrev pub write_of : (Place → List ℕ → Command) → List ℕ → Option ℕ → Option ℕ → Option (List ℕ) → Reading
write_of kind name (Some object) (Some offset) (Some bytes) = says (command (kind (place_of name object offset (length bytes)) bytes))
write_of kind name (Some object) (Some offset) None = wrong kinds.Hex
write_of kind name (Some object) None bytes = wrong kinds.Number
write_of kind name None offset bytes = wrong kinds.Number

-- ---- statements, by their first word

abbrev pub is_word : List ℕ → List ℕ → Bool
is_word a b = bytes_eq a b

-- a statement whose last word is bytes
abbrev pub has_bytes : List ℕ → Bool
has_bytes w = is_word w (codes "write") || is_word w (codes "debug")

-- how many words a statement has, from the least to the most; None where the first word is none
abbrev pub word_count : List ℕ → Option (ℕ × Option ℕ)
word_count w =
    if is_word w (codes "take") || is_word w (codes "process") || is_word w (codes "start") || is_word w (codes "load") || is_word w (codes "free")
    then Some (2, Some 2)
    else if is_word w (codes "exit") then Some (1, Some 1)
    else if is_word w (codes "query") || is_word w (codes "failing") then Some (3, Some 3)
    else if is_word w (codes "getres") then Some (4, Some 4)
    else if is_word w (codes "touch") || is_word w (codes "peek") || is_word w (codes "shared") || has_bytes w then Some (5, Some 5)
    else if is_word w (codes "build") then Some (4, None)
    else None

-- longer than a word may be; bytes to write are a word that may be longer
abbrev pub is_long : List ℕ → Bool
is_long w = nat_lt MAX_WORD (length w)

abbrev pub has_long : List (List ℕ) → Bool
has_long (w ∷ m ∷ o ∷ x ∷ hex ∷ ws) = list_any is_long (w ∷ m ∷ o ∷ x ∷ ws) || (is_long hex && not (has_bytes w))
has_long ws = list_any is_long ws

abbrev pub is_within : ℕ → ℕ × Option ℕ → Bool
is_within n (least, Some most) = nat_le least n && nat_le n most
is_within n (least, None) = nat_le least n

-- the statement of words whose number is right
abbrev pub one_word : List ℕ → Reading
one_word w = says (command Exit)

abbrev pub two_words : List ℕ → List ℕ → Reading
two_words w a =
    if is_word w (codes "take") then says (gives (Take a))
    else if is_word w (codes "start") then says (command (Start a))
    else if is_word w (codes "load") then says (command (Load a))
    else if is_word w (codes "free") then says (command (Free a))
    else or_wrong kinds.Number (option_map process (number_in a))

abbrev pub failing_of : List ℕ → ℕ → Statement
failing_of name pid = fails (record { «module» = name; pid = pid })

abbrev pub three_words : List ℕ → List ℕ → List ℕ → Reading
three_words w name last =
    if is_word w (codes "failing") then or_wrong kinds.Number (option_map (failing_of name) (process_in last))
    else or_wrong kinds.Number (option_map (λ k. command (Query name k)) (key_in last))

abbrev pub four_words : List ℕ → List ℕ → List ℕ → List ℕ → Reading
four_words w a b c =
    if is_word w (codes "getres") then or_wrong kinds.Number (option_and_then (λ ty. option_map (λ id. command (GetRes a ty id)) (word_in c)) (word_in b))
    else says (gives (Build a b (c ∷ [])))

abbrev pub five_words : List ℕ → List ℕ → List ℕ → List ℕ → List ℕ → Reading
five_words w name object offset last =
    if is_word w (codes "touch") then or_wrong kinds.Number (option_map (λ p. command (Touch p)) (place_in None name object offset last))
    else if is_word w (codes "peek") then or_wrong kinds.Number (option_map (λ p. command (Peek p)) (place_in (Some MAX_BYTES) name object offset last))
    else if is_word w (codes "shared") then or_wrong kinds.Number (option_map (λ p. command (Shared p)) (place_in (Some MAX_BYTES) name object offset last))
    else if is_word w (codes "debug") then write_of Debug name (number_in object) (number_in offset) (hex_in last)
    else write_of Write name (number_in object) (number_in offset) (hex_in last)

abbrev pub statement_of : List (List ℕ) → Reading
statement_of [] = nothing
statement_of (w ∷ []) = one_word w
statement_of (w ∷ a ∷ []) = two_words w a
statement_of (w ∷ a ∷ b ∷ []) = three_words w a b
statement_of (w ∷ a ∷ b ∷ c ∷ []) = four_words w a b c
statement_of (w ∷ a ∷ b ∷ c ∷ d ∷ ws) =
    if is_word w (codes "build") then says (gives (Build a b (c ∷ d ∷ ws))) else five_words w a b c d

abbrev pub by_count : Option (ℕ × Option ℕ) → List (List ℕ) → Reading
by_count None ws = wrong kinds.Statement
by_count (Some counts) ws = if not (is_within (length ws) counts) || has_long ws then wrong kinds.Count else statement_of ws

abbrev pub is_comment : List ℕ → Bool
is_comment [] = false
is_comment (b ∷ bytes) = b == 0x23

abbrev pub of_words : List (List ℕ) → Reading
of_words [] = nothing
of_words (w ∷ ws) = if is_comment w then nothing else by_count (word_count w) (w ∷ ws)

-- ---- the line: its bytes are judged first, in a comment too

unfoldable pub reading_of : List ℕ → Reading
reading_of line = if not (list_all is_allowed line) then wrong kinds.Byte else of_words (words_in line)

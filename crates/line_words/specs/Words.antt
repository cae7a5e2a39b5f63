-- The words of a line, as the code holds them.
use Rattle.std.specs.Prelude.{ℕ, List, [], ◌∷◌, ◌++◌, codes, decimal}
use Rattle.std.specs.Fmt.{signed_decimal}
use Rattle.std.specs.List.{flat_map}
use Rattle.lx_types.specs.Escaped.{escaped, hex_address}
use Rattle.session_model.specs.Text.{bytes_word}
use Rattle.dump_model.specs.Lines.{name_word}
use Rattle.line_words.specs.declared.words.Word.{Word}
use Rattle.line_words.specs.declared.words.Word.TheVariants.{Text, Number, Count, Signed, Hex, Ordinal, Process, Name, Module, Bytes}

abbrev pub word_text : Word → List ℕ
word_text (Text text) = text.now
word_text (Number n) = decimal n
word_text (Count n) = decimal n
word_text (Signed n) = signed_decimal n
word_text (Hex n) = hex_address n
word_text (Ordinal n) = codes "@" ++ decimal n
word_text (Process pid) = codes "P" ++ decimal pid
word_text (Name name) = name_word name.now
word_text (Module name) = escaped name.now
word_text (Bytes bytes) = bytes_word bytes.now

-- a word, and the blank in front of the next
abbrev pub before_blank : List ℕ → List ℕ
before_blank w = w ++ 0x20 ∷ []

abbrev pub leading : List (List ℕ) → List ℕ
leading ws = flat_map before_blank ws

-- a word, and the blank that it stands after
abbrev pub after_blank : List ℕ → List ℕ
after_blank w = 0x20 ∷ w

abbrev pub spaced : List (List ℕ) → List ℕ
spaced ws = flat_map after_blank ws

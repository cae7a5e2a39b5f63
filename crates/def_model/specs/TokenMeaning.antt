-- What a token may stand for: a name, a text, a number in a range.
use Rattle.std.specs.Prelude.{ℕ, ◌%◌, ◌&&◌, ◌==◌, nat_lt, nat_le, List, length, Option, Some, None, Result, Ok, Err, if◌then◌else◌}
use Rattle.std.specs.Option.{option_map_or}
use Rattle.def_model.specs.Lexemes.{Lexeme, name_of_lexeme, text_of_lexeme, number_of_lexeme}
use Rattle.def_model.specs.declared.refusal.DefKind.{DefKind}
use Rattle.def_model.specs.declared.refusal.DefKind.TheVariants as kinds
use Rattle.lx_types.specs.Answers.{◌>>=◌}
use Rattle.lx_types.specs.declared.limits.TheConstants.{BASE_UNIT}
use Rattle.obj_types.specs.declared.limits.TheConstants.{MAX_BASE, MIN_BASE}

-- A text has at most 255 bytes.
abbrev pub text_of : List ℕ → Result (List ℕ) DefKind
text_of bytes = if nat_lt 255 (length bytes) then Err kinds.TooLong else Ok bytes

-- A name has some besides.
abbrev pub name_of : List ℕ → Result (List ℕ) DefKind
name_of bytes = if length bytes == 0 then Err kinds.Expected else text_of bytes

-- Where a name may stand: one goes on so, another token is judged otherwise.
abbrev pub with_name : {A : Type 0} → Lexeme → (List ℕ → Result A DefKind) → Result A DefKind → Result A DefKind
with_name t go_on otherwise = option_map_or (λ bytes. name_of bytes >>= go_on) (name_of_lexeme t) otherwise

-- Where a text has to stand.
abbrev pub with_text : {A : Type 0} → Lexeme → (List ℕ → Result A DefKind) → Result A DefKind
with_text t go_on = option_map_or (λ bytes. text_of bytes >>= go_on) (text_of_lexeme t) (Err kinds.Expected)

-- A number from low to high. One of 2^32 or more has no value.
abbrev pub within : ℕ → ℕ → Option ℕ → Result ℕ DefKind
within low high None = Err kinds.Number
within low high (Some n) = if nat_le low n && nat_le n high then Ok n else Err kinds.Number

-- Where a number may stand.
abbrev pub with_number : {A : Type 0} → Lexeme → (Option ℕ → Result A DefKind) → Result A DefKind → Result A DefKind
with_number t go_on otherwise = option_map_or go_on (number_of_lexeme t) otherwise

-- A base is a multiple of 64 KiB in the two arenas.
abbrev pub base_of : Option ℕ → Result ℕ DefKind
base_of value = within MIN_BASE MAX_BASE value >>= (λ n. if n % BASE_UNIT == 0 then Ok n else Err kinds.Number)

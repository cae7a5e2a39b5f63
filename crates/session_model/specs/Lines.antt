-- The lines of a session, their words, and the numbers in them.
use Rattle.std.specs.Prelude.{ℕ, ◌+◌, ◌*◌, ◌-◌, ◌^◌, ◌==◌, ◌&&◌, ◌||◌, Bool, false, List, [], ◌∷◌, drop, fold, option_map, option_and_then, Option, Some, None, nat_lt, nat_le, if◌then◌else◌}

-- ---- lines: each ends with LF, with CR and LF, or with the file

-- a byte in front of the first of some lines
abbrev pub with_byte : ℕ → List (List ℕ) → List (List ℕ)
with_byte b [] = (b ∷ []) ∷ []
with_byte b (line ∷ others) = (b ∷ line) ∷ others

-- a CR right before an LF belongs to the line's end; any other is a byte of the line
abbrev pub is_cut : ℕ → List ℕ → Bool
is_cut b [] = false
is_cut b (next ∷ bytes) = (b == 0x0D) && (next == 0x0A)

unfoldable pub lines_in : List ℕ → List (List ℕ)
lines_in [] = []
lines_in (b ∷ bytes) =
    if is_cut b bytes then lines_in bytes
    else if b == 0x0A then [] ∷ lines_in bytes
    else with_byte b (lines_in bytes)

-- a visible character, a blank or a tab
abbrev pub is_allowed : ℕ → Bool
is_allowed b = (nat_le 0x20 b && nat_le b 0x7E) || (b == 0x09)

-- ---- words: what blanks and tabs separate

abbrev pub is_blank : ℕ → Bool
is_blank b = (b == 0x20) || (b == 0x09)

-- a byte that is a word by itself, or begins the word that follows it
abbrev pub onto_word : ℕ → List ℕ → List (List ℕ) → List (List ℕ)
onto_word b [] ws = (b ∷ []) ∷ ws
onto_word b (next ∷ bytes) [] = (b ∷ []) ∷ []
onto_word b (next ∷ bytes) (w ∷ ws) = if is_blank next then (b ∷ []) ∷ w ∷ ws else (b ∷ w) ∷ ws

unfoldable pub words_in : List ℕ → List (List ℕ)
words_in [] = []
words_in (b ∷ bytes) = if is_blank b then words_in bytes else onto_word b bytes (words_in bytes)

-- ---- numbers: decimal, or hexadecimal after `0x`

abbrev pub is_digit : ℕ → Bool
is_digit b = nat_le 0x30 b && nat_le b 0x39

-- the value of a hexadecimal digit, in either case
abbrev pub hex_value : ℕ → Option ℕ
hex_value b =
    if is_digit b then Some (b - 0x30)
    else if nat_le 0x41 b && nat_le b 0x46 then Some (b - 0x37)
    else if nat_le 0x61 b && nat_le b 0x66 then Some (b - 0x57)
    else None

abbrev pub decimal_value : ℕ → Option ℕ
decimal_value b = if is_digit b then Some (b - 0x30) else None

-- digits to a base after a number; each has to be one
abbrev pub digits_onto : ℕ → (ℕ → Option ℕ) → Option ℕ → List ℕ → Option ℕ
digits_onto base value so_far ds = fold (λ n d. option_and_then (λ v. option_map (λ digit. v * base + digit) (value d)) n) so_far ds

-- a number of one digit or more
abbrev pub number_to : ℕ → (ℕ → Option ℕ) → List ℕ → Option ℕ
number_to base value [] = None
number_to base value (d ∷ ds) = digits_onto base value (Some 0) (d ∷ ds)

-- the word begins with `0x`
abbrev pub is_hex : List ℕ → Bool
is_hex [] = false
is_hex (a ∷ []) = false
is_hex (a ∷ b ∷ ds) = (a == 0x30) && (b == 0x78)

abbrev pub any_number : List ℕ → Option ℕ
any_number word = if is_hex word then number_to 16 hex_value (drop 2 word) else number_to 10 decimal_value word

abbrev pub below : ℕ → ℕ → Option ℕ
below limit n = if nat_lt n limit then Some n else None

-- a number below 2 ^ 32
unfoldable pub number_in : List ℕ → Option ℕ
number_in word = option_and_then (below (2 ^ 32)) (any_number word)

-- ---- bytes: pairs of hexadecimal digits

unfoldable pub hex_bytes : List ℕ → Option (List ℕ)
hex_bytes [] = Some []
hex_bytes (high ∷ []) = None
hex_bytes (high ∷ low ∷ ds) =
    option_and_then (λ bytes. option_and_then (λ h. option_map (λ l. (h * 16 + l) ∷ bytes) (hex_value low)) (hex_value high)) (hex_bytes ds)

-- What the words of the command line ask for.
use Rattle.std.specs.Prelude.{ℕ, ◌%◌, ◌==◌, ◌&&◌, nat_le, if◌then◌else◌, List, [], ◌∷◌, codes, decimal, find, Option, Some, None, option_map, Result, Ok, Err}
use Rattle.std.specs.Int.{w32, from_be_bytes}
use Rattle.std.specs.List.{range_with_len}
use Rattle.std.specs.Str.{bytes_eq}
use Rattle.hex.specs.Hex.{decode_sized}
use Rattle.hex.specs.declared.error.FromHexError.{FromHexError}
use Rattle.lx_types.specs.declared.limits.TheConstants.{BASE_UNIT, MAX_MODULES}
use Rattle.obj_types.specs.declared.limits.TheConstants.{MAX_BASE, MIN_BASE}

-- A command with the names of its files. A link may have no definition file.
pub data Command : Type 0 where
  image : (object : List ℕ) → (base : ℕ) → Command
  link : (out : List ℕ) → (definition : Option (List ℕ)) → (inputs : List (List ℕ)) → Command
  implib : (out : List ℕ) → (inputs : List (List ℕ)) → Command
  bind : (out : List ℕ) → (target : List ℕ) → (resources : List ℕ) → Command
  gen : (count : ℕ) → (prefix : List ℕ) → Command
  dump : (file : List ℕ) → Command
  link_map : (definition : Option (List ℕ)) → (inputs : List (List ℕ)) → Command
  memory : (modules : List (List ℕ)) → Command
  show : (file : List ℕ) → Command

-- ---- `image OBJ BASE`

-- A base is a multiple of 64 KiB in the private or the shared arena.
abbrev pub in_arenas : ℕ → Option ℕ
in_arenas n = if n % BASE_UNIT == 0 && nat_le MIN_BASE n && nat_le n MAX_BASE then Some n else None

abbrev pub base_of_bytes : Result (List ℕ) FromHexError → Option ℕ
base_of_bytes (Ok bytes) = in_arenas (from_be_bytes w32 bytes)
base_of_bytes (Err _) = None

-- BASE is exactly eight hexadecimal digits of either case.
abbrev pub base_of : List ℕ → Option ℕ
base_of word = base_of_bytes (decode_sized word 4)

abbrev pub image_of : List (List ℕ) → Option Command
image_of (object ∷ base ∷ []) = option_map (image object) (base_of base)
image_of _ = None

-- ---- `link OUT DEF IN ..`

-- DEF `-` is none.
abbrev pub definition_of : List ℕ → Option (List ℕ)
definition_of word = if bytes_eq word (codes "-") then None else Some word

abbrev pub link_of : List (List ℕ) → Option Command
link_of (out ∷ definition ∷ input ∷ inputs) = Some (link out (definition_of definition) (input ∷ inputs))
link_of _ = None

-- ---- `implib OUT IN ..`

abbrev pub implib_of : List (List ℕ) → Option Command
implib_of (out ∷ input ∷ inputs) = Some (implib out (input ∷ inputs))
implib_of _ = None

-- ---- `bind OUT MODULE RES`

abbrev pub bind_of : List (List ℕ) → Option Command
bind_of (out ∷ target ∷ resources ∷ []) = Some (bind out target resources)
bind_of _ = None

-- ---- `gen N PREFIX`

-- N is a number of modules that a library may have, from 1, in decimal digits, without zeros in front of it.
unfoldable pub count_of : List ℕ → Option ℕ
count_of word = find (λ n. bytes_eq word (decimal n)) (range_with_len 1 MAX_MODULES)

-- PREFIX is any word.
abbrev pub gen_of : List (List ℕ) → Option Command
gen_of (count ∷ prefix ∷ []) = option_map (λ n. gen n prefix) (count_of count)
gen_of _ = None

-- ---- `dump FILE`

abbrev pub dump_of : List (List ℕ) → Option Command
dump_of (file ∷ []) = Some (dump file)
dump_of _ = None

-- ---- `map DEF IN ..`

abbrev pub map_of : List (List ℕ) → Option Command
map_of (definition ∷ input ∷ inputs) = Some (link_map (definition_of definition) (input ∷ inputs))
map_of _ = None

-- ---- `memory MODULE ..`

-- The first is the one that is loaded or started.
abbrev pub memory_of : List (List ℕ) → Option Command
memory_of (target ∷ others) = Some (memory (target ∷ others))
memory_of _ = None

-- ---- `show FILE`

abbrev pub show_of : List (List ℕ) → Option Command
show_of (file ∷ []) = Some (show file)
show_of _ = None

-- ---- all

-- All other words are no command.
abbrev pub command_of : List (List ℕ) → Option Command
command_of [] = None
command_of (word ∷ words) =
    if bytes_eq word (codes "image") then image_of words
    else if bytes_eq word (codes "link") then link_of words
    else if bytes_eq word (codes "implib") then implib_of words
    else if bytes_eq word (codes "bind") then bind_of words
    else if bytes_eq word (codes "gen") then gen_of words
    else if bytes_eq word (codes "dump") then dump_of words
    else if bytes_eq word (codes "map") then map_of words
    else if bytes_eq word (codes "memory") then memory_of words
    else if bytes_eq word (codes "show") then show_of words
    else None

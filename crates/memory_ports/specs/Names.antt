-- Entries of a name and its bytes.
use Rattle.std.specs.Prelude.{ℕ, Bool, List, Vec, String, find, option_map, string_bytes}
use Rattle.std.specs.Str.{bytes_eq}
use Rattle.std.specs.declared.alloc.Global.{Global}
use Rattle.lx_ports.specs.Files.{Contents}

abbrev pub Entry : Type 0
Entry = String Global × Vec ℕ Global

abbrev pub is_named : List ℕ → Entry → Bool
is_named name entry = bytes_eq name (string_bytes entry.0)

-- The bytes of the first entry of each name.
abbrev pub contents_in : List Entry → Contents
contents_in entries name = option_map (λ entry. entry.1.items) (find (is_named name) entries)

-- The words that are commands.
use Rattle.std.specs.Prelude.{ℕ, List, Bool, ◌||◌, bytes_eq, codes}

abbrev pub is_command : List ℕ → Bool
is_command word =
    bytes_eq word (codes "link")
    || (bytes_eq word (codes "implib")
    || (bytes_eq word (codes "image")
    || (bytes_eq word (codes "bind")
    || (bytes_eq word (codes "gen")
    || (bytes_eq word (codes "run")
    || (bytes_eq word (codes "check")
    || (bytes_eq word (codes "dump")
    || (bytes_eq word (codes "map")
    || (bytes_eq word (codes "memory")
    || bytes_eq word (codes "show"))))))))))

-- Libraries joined into one.
use Rattle.std.specs.Prelude.{ℕ, ◌+◌, ◌-◌, ◌*◌, List, ◌++◌, ◌≤◌, length, take, drop}
use Rattle.std.specs.List.{flat_map}
use Rattle.implib_model.specs.declared.library.TheConstants.{PAGE}
use Rattle.implib_model.specs.Library.{header_bytes, end_bytes}

-- what stands between a library's header and its end
abbrev pub pages_in : List ℕ → List ℕ
pages_in bytes = take (length bytes - 2 * PAGE) (drop PAGE bytes)

abbrev pub joined_pages : List (List ℕ) → List ℕ
joined_pages libraries = flat_map pages_in libraries

abbrev pub joined_len : List (List ℕ) → ℕ
joined_len libraries = 2 * PAGE + length (joined_pages libraries)

abbrev pub joined_bytes : List (List ℕ) → List ℕ
joined_bytes libraries = header_bytes (joined_len libraries) ++ (joined_pages libraries ++ end_bytes)

-- A library has its header and its end.
abbrev pub HasEnds : List ℕ → Type 0
HasEnds bytes = 2 * PAGE ≤ length bytes

-- the modules of all libraries, in their order
abbrev pub modules_together : List (List (List ℕ)) → List (List ℕ)
modules_together libraries = flat_map (λ modules. modules) libraries

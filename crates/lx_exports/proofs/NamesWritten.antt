-- The names of a table are written when no export, or no ordinal, is left.
use Rattle.std.proofs.Common.{◌≡◌, ℕ, Bool, List, [], ◌∷◌, ◌++◌, length, map, filter, sym, ◌∙◌, arith}
use Rattle.std.specs.List.{flat_map}
use Rattle.std.specs.Bool.{beq}
use Rattle.std.proofs.lemmas.List.{append-nil}
use Rattle.lx_model.specs.NameTables.{name_spelling}
use Rattle.lx_model.specs.ExportTables.{named}
use Rattle.lx_exports.specs.declared.exports.OutEntry.{OutEntry}
use Rattle.lx_exports.specs.Exports.{with_ordinals}

abbrev pub names_bytes : Bool → List OutEntry → List ℕ → List ℕ
names_bytes resident xs ns = flat_map name_spelling (map named (filter (λ x. beq x.resident resident) (with_ordinals xs ns)))

pub no_exports : (resident : Bool) (out all : List ℕ) (xs : List OutEntry) (ns : List ℕ) → length xs ≡ 0 → out ++ names_bytes resident xs ns ≡ all → out ≡ all
no_exports resident out all [] ns none is = sym (append-nil out) ∙ is
no_exports resident out all (x ∷ xs) ns none is = absurd (omega (arith, none))

pub no_ordinals : (resident : Bool) (out all : List ℕ) (xs : List OutEntry) (ns : List ℕ) → length ns ≡ 0 → out ++ names_bytes resident xs ns ≡ all → out ≡ all
no_ordinals resident out all [] ns none is = sym (append-nil out) ∙ is
no_ordinals resident out all (x ∷ xs) [] none is = sym (append-nil out) ∙ is
no_ordinals resident out all (x ∷ xs) (n ∷ ns) none is = absurd (omega (arith, none))

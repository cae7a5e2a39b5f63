-- Where names have no meaning, and which refusal is answered.
use Rattle.std.specs.Prelude.{ℕ, Bool, true, false, not, ◌&&◌, [], ◌∷◌, Option, Some, None, map, length, if◌then◌else◌, nat_lt, bytes_eq, is_none}
use Rattle.std.specs.List.{find}
use Rattle.std.specs.Option.{option_map, option_and_then}
use Rattle.link_model.specs.declared.symbols.SymDef.{SymDef}
use Rattle.link_model.specs.declared.symbols.SymDef.TheVariants as means
use Rattle.lx_types.specs.Names.{uppercase}
use Rattle.link_model.specs.declared.limits.TheConstants.{MAX_NUMBER}
use Rattle.link_model.specs.declared.refusals.SymRefusal.{SymRefusal}
use Rattle.link_model.specs.declared.refusals.SymRefusal.TheVariants.{Twice, Missing, ImportsMany}
use Rattle.link_model.specs.Words.{first_conflict, first_of}
use Rattle.link_model.specs.Appearance.{firsts}
use Rattle.link_model.specs.Link.{Link, externals, exports}
use Rattle.link_model.specs.Symbols.{Meaning, Public, Imported, Definition, definitions, definition_of, imports, same_pair, global, Sym}

-- Definitions count once where they are equal import pairs.
abbrev pub counts_once : Meaning → Meaning → Bool
counts_once (Imported a) (Imported b) = same_pair a b
counts_once (Public a) other = false
counts_once (Imported a) (Public b) = false

-- The second is a second definition of the first one's name.
abbrev pub conflicts : Definition → Definition → Bool
conflicts a b = bytes_eq a.name b.name && not (counts_once a.meaning b.meaning)

-- `Twice`: the first second definition, with the modules of the first definition of its name and of itself.
abbrev pub twice : Link → Option SymRefusal
twice l =
    option_and_then (λ second. option_map (λ first. Twice second.name first.by second.by) (definition_of l second.name))
    (first_conflict conflicts [] (definitions l))

-- `Missing`: the first external, in chosen order, that means nothing.
abbrev pub missing_external : Link → Option SymRefusal
missing_external l = option_map (λ q. Missing q.1.name) (find (λ q. is_none (Sym l q.0 q.1)) (externals l))

-- An export is a place or an entry point of another module.
abbrev pub is_exportable : Option SymDef → Bool
is_exportable None = false
is_exportable (Some (means.Const value)) = false
is_exportable (Some (means.In n seg offset)) = true
is_exportable (Some (means.Common slot)) = true
is_exportable (Some (means.Import slot)) = true

-- Else `Missing`: the first export whose internal name means nothing or a constant.
abbrev pub missing_export : Link → Option SymRefusal
missing_export l =
    option_map (λ x. Missing x.internal) (find (λ x. not (is_exportable (global l x.internal))) (exports l))

-- `ImportsMany`: more different modules are named than the format's 16-bit numbers count.
abbrev pub imports_past : ℕ → Link → Option SymRefusal
imports_past most l =
    let count = length (firsts bytes_eq (map (λ i. uppercase i.module) (imports l))) in
    if nat_lt most count then Some (ImportsMany count) else None

abbrev pub imports_many : Link → Option SymRefusal
imports_many l = imports_past MAX_NUMBER l

-- The refusal, in this order. Where there is none, every external has a meaning.
unfoldable pub sym_refusal : Link → Option SymRefusal
sym_refusal l = first_of (twice l ∷ missing_external l ∷ missing_export l ∷ imports_many l ∷ [])

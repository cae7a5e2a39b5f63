-- The symbols of a link, and its refusal, from those of its parts.
use Rattle.std.specs.Prelude.{◌≡◌, not, List, [], ◌∷◌, Option, Some, None, map}
use Rattle.std.specs.Borrow.{Bor}
use Rattle.std.specs.Option.{option_map, option_or}
use Rattle.std.proofs.Common.{ap, sym, ◌∙◌, subst}
use Rattle.lx_types.proofs.Lists.{find_agree}
use Rattle.obj_types.specs.declared.object.ObjModule.{ObjModule}
use Rattle.obj_types.specs.declared.input.LinkInput.{LinkInput}
use Rattle.obj_types.specs.declared.symbol.Exp.{Exp}
use Rattle.link_model.specs.declared.symbols.Pick.{Pick}
use Rattle.link_model.specs.declared.symbols.SymDef.{SymDef}
use Rattle.link_model.specs.declared.refusals.SymRefusal.{SymRefusal}
use Rattle.link_model.specs.declared.refusals.SymRefusal.TheVariants.{Missing}
use Rattle.link_model.specs.Words.{first_of}
use Rattle.link_model.specs.Choosing.{Chosen, modules_of}
use Rattle.link_model.specs.Link.{Link, link_of, exports}
use Rattle.link_model.specs.Symbols as rules
use Rattle.link_model.specs.SymbolRefusals.{twice, missing_external, missing_export, imports_many, is_exportable, sym_refusal}
use Rattle.link_model.proofs.Rules.{rules as opened}
use Rattle.link_types.specs.declared.symbols.GlobalNames.{GlobalNames}
use Rattle.sym_table.specs.Binding.{AreNamesOf, IsRefused}
use Rattle.link_types.specs.Binding.{AreSymbolsOf, IsBound}
use Rattle.sym_table.specs.Counting.{imports_many_of}
use Rattle.link_types.specs.Links.{link_with}
use Rattle.link_types.specs.Globals.{global_in}
use Rattle.sym_table.specs.Meanings.{rows_in, missing_export_in}
use Rattle.sym_table.specs.Refusing.{later_refusal}
use Rattle.link_types.specs.Symbols.{SymbolTable}
use Rattle.sym_table.proofs.Externals.{rows_are, missing_externals_are}

missing_exports_are : (l : Link) (names : GlobalNames) → AreNamesOf l names → missing_export_in names.globals (exports l) ≡ missing_export l
missing_exports_are l names are =
    ap (λ (o : Option Exp). option_map (λ (x : Exp). Missing x.internal) o)
    (find_agree (λ x. not (is_exportable (global_in names.globals x.internal))) (λ x. not (is_exportable (rules.global l x.internal))) (λ x. ap (λ m. not (is_exportable m)) (are.global x.internal)) (exports l))

-- What is refused after `Twice`.
later_is : (l : Link) (names : GlobalNames) → AreNamesOf l names → later_refusal names l ≡ first_of (missing_external l ∷ missing_export l ∷ imports_many l ∷ [])
later_is l names are =
    ap (λ (a : Option SymRefusal). first_of (a ∷ missing_export_in names.globals (exports l) ∷ imports_many_of names.imports ∷ [])) (missing_externals_are l names.globals are.global)
    ∙ ap (λ (b : Option SymRefusal). first_of (missing_external l ∷ b ∷ imports_many_of names.imports ∷ [])) (missing_exports_are l names are)
    ∙ ap (λ (is : List _). first_of (missing_external l ∷ missing_export l ∷ imports_many_of is ∷ [])) are.imports

after : (l : Link) (names : GlobalNames) → twice l ≡ None → AreNamesOf l names → sym_refusal l ≡ later_refusal names l
unfolding opened
after l names none are =
    ap (λ (o : Option SymRefusal). option_or o (first_of (missing_external l ∷ missing_export l ∷ imports_many l ∷ []))) none ∙ sym (later_is l names are)

before : (l : Link) (r : SymRefusal) → twice l ≡ Some r → sym_refusal l ≡ Some r
unfolding opened
before l r is =
    ap (λ (o : Option SymRefusal). option_or o (first_of (missing_external l ∷ missing_export l ∷ imports_many l ∷ []))) is

-- The modules that are lent are those of the picks.
one_link : (input : LinkInput) (mods : List (Bor ObjModule)) (picks : List Pick) → map (λ m. m.now) mods ≡ modules_of input picks → link_with input mods ≡ link_of input picks
one_link input mods picks e = ap (λ (ms : List ObjModule). let l : Link = record { modules = ms; def = input.def; stem = input.stem; clash = None } in l) e

abbrev table_of : List Pick → GlobalNames → List (List SymDef) → SymbolTable
table_of picks names rows = record { chosen = picks; globals = names.globals; commons = names.commons; imports = names.imports; meanings = rows }

pub is_bound : (input : LinkInput) (mods : List (Bor ObjModule)) (picks : List Pick) (names : GlobalNames) (rows : List (List SymDef)) → Chosen input picks → map (λ m. m.now) mods ≡ modules_of input picks →
    twice (link_with input mods) ≡ None → AreNamesOf (link_with input mods) names → map (map Some) rows ≡ rows_in names.globals (map (λ m. m.now) mods) → later_refusal names (link_with input mods) ≡ None →
    IsBound input (table_of picks names rows)
is_bound input mods picks names rows chosen e once are meant none =
    let l : Link = link_with input mods in
    let symbols : AreSymbolsOf l (table_of picks names rows) =
    record {
      accepted = after l names once are ∙ none;
      global = are.global;
      commons = are.commons;
      imports = are.imports;
      meanings = meant ∙ rows_are l names.globals are.global;
    } in
    record { chosen = chosen; symbols = subst (λ (k : Link). AreSymbolsOf k (table_of picks names rows)) (one_link input mods picks e) symbols }

pub is_twice : (input : LinkInput) (mods : List (Bor ObjModule)) (picks : List Pick) (r : SymRefusal) → Chosen input picks → map (λ m. m.now) mods ≡ modules_of input picks →
    twice (link_with input mods) ≡ Some r → IsRefused input r
is_twice input mods picks r chosen e is =
    record { picks = picks; chosen = chosen; is = ap sym_refusal (sym (one_link input mods picks e)) ∙ before (link_with input mods) r is }

pub is_later : (input : LinkInput) (mods : List (Bor ObjModule)) (picks : List Pick) (names : GlobalNames) (r : SymRefusal) → Chosen input picks → map (λ m. m.now) mods ≡ modules_of input picks →
    twice (link_with input mods) ≡ None → AreNamesOf (link_with input mods) names → later_refusal names (link_with input mods) ≡ Some r → IsRefused input r
is_later input mods picks names r chosen e once are is =
    record { picks = picks; chosen = chosen; is = ap sym_refusal (sym (one_link input mods picks e)) ∙ (after (link_with input mods) names once are ∙ is) }

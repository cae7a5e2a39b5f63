use Rattle.std.proofs.Common.{◌≡◌, ◌∙◌, ◌++◌, ◌∷◌, [], ap, sym, cond, refl, List, Bool, true, false, Option, is_some}
use Rattle.std.specs.List.{list_any}
use Rattle.std.specs.Map.{lookup}
use Rattle.obj_types.specs.declared.symbol.Imp.{Imp}
use Rattle.link_model.specs.Symbols.{import_key, same_import}
use Rattle.sym_table.specs.ImportLists.{with_import}
use Rattle.sym_table.specs.declared.import_keys.PairKey.{PairKey}
use Rattle.sym_table.proofs.ImportTables.{viewed, insert_viewed, some_viewed}
use Rattle.sym_table.proofs.imports.add_import.Goals as goal

abbrev shown : PairKey → Imp
shown k = k.pair.now

abbrev is_pair : Imp → Imp → Bool
is_pair pair known = same_import (import_key pair) (import_key known)

had_pair : (es : List (PairKey × Unit {0})) (list : List Imp) (pair : Imp) (had : Option (Unit {0})) (b : Bool) → viewed shown es ≡ list →
    had ≡ lookup (λ k. is_pair pair (shown k)) es → is_some had ≡ b → with_import list pair ≡ cond b list (list ++ pair ∷ [])
had_pair es list pair had b listed is at =
    let known : list_any (is_pair pair) list ≡ b =
    ap (list_any (is_pair pair)) (sym listed) ∙ sym (some_viewed shown _ (is_pair pair) (λ k. refl) es) ∙ ap is_some (sym is) ∙ at in
    ap (λ (t : Bool). cond t list (list ++ pair ∷ [])) known

pub returns-in_ok-push-clause-listed : goal.returns-in_ok-push-clause-listed
returns-in_ok-push-clause-listed c =
    let list = c.args.imports.now.list in
    let pair = c.args.import.now in
    let es = c.args.imports.now.places.entries in
    ap (viewed shown) c.in_ok-had.ensures.entries
    ∙ insert_viewed shown _ (is_pair pair) _ tt (λ k. refl) es
    ∙ ap (λ (t : List Imp). with_import t pair) c.requires
    ∙ had_pair es list pair _ false c.requires c.in_ok-had.ensures.old c.if-is_none.ensures
    ∙ sym (c.in_ok-push.ensures ∙ ap (λ (i : Imp). list ++ i ∷ []) c.in_ok-copied_import.ensures)

pub returns-in_ok-push-clause-list : goal.returns-in_ok-push-clause-list
returns-in_ok-push-clause-list c =
    let list = c.args.imports.now.list in
    c.in_ok-push.ensures ∙ ap (λ (i : Imp). list ++ i ∷ []) c.in_ok-copied_import.ensures
    ∙ sym (had_pair c.args.imports.now.places.entries list c.args.import.now _ false c.requires c.in_ok-had.ensures.old c.if-is_none.ensures)

pub returns-else-is_none-clause-listed : goal.returns-else-is_none-clause-listed
returns-else-is_none-clause-listed c =
    let pair = c.args.import.now in
    let es = c.args.imports.now.places.entries in
    ap (viewed shown) c.in_ok-had.ensures.entries
    ∙ insert_viewed shown _ (is_pair pair) _ tt (λ k. refl) es
    ∙ ap (λ (t : List Imp). with_import t pair) c.requires
    ∙ had_pair es c.args.imports.now.list pair _ true c.requires c.in_ok-had.ensures.old c.if-is_none.ensures

pub returns-else-is_none-clause-list : goal.returns-else-is_none-clause-list
returns-else-is_none-clause-list c =
    sym (had_pair c.args.imports.now.places.entries c.args.imports.now.list c.args.import.now _ true c.requires c.in_ok-had.ensures.old c.if-is_none.ensures)

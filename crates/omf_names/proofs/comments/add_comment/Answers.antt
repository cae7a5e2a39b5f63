use Rattle.std.proofs.Common.{ℕ, List, [], ◌∷◌, ◌++◌, refl, ap, ◌∙◌}
use Rattle.obj_types.specs.declared.symbol.Imp.{Imp}
use Rattle.obj_types.specs.declared.symbol.Exp.{Exp}
use Rattle.omf_model.specs.Add.{add}
use Rattle.omf_names.proofs.comments.add_comment.Goals as goal

pub returns-in_ok-push-in-Library : goal.returns-in_ok-push-in-Library
unfolding add
returns-in_ok-push-in-Library c =
    rw c.in-Library.is
    (ap (λ (names : List (List ℕ)). record c.args.into.now { «module» = record c.args.into.now.module { deflibs = names } })
    (c.in_ok-push-in-Library.ensures ∙ ap (λ (name : List ℕ). c.args.into.now.module.deflibs ++ name ∷ []) c.in_ok-name-in-Library.ensures))

pub returns-in_ok-add_import-in-Import : goal.returns-in_ok-add_import-in-Import
unfolding add
returns-in_ok-add_import-in-Import c =
    rw c.in-Import.is
    (ap (λ (imports : List Imp). record c.args.into.now { «module» = record c.args.into.now.module { imports = imports } })
    (c.in_ok-add_import-in-Import.ensures ∙ ap (λ (i : Imp). c.args.into.now.module.imports ++ i ∷ []) c.in_ok-import-in-Import.ensures))

pub returns-in_ok-push-in-Export : goal.returns-in_ok-push-in-Export
unfolding add
returns-in_ok-push-in-Export c =
    rw c.in-Export.is
    (ap (λ (exports : List Exp). record c.args.into.now { «module» = record c.args.into.now.module { exports = exports } })
    (c.in_ok-push-in-Export.ensures ∙ ap (λ (e : Exp). c.args.into.now.module.exports ++ e ∷ []) c.in_ok-export-in-Export.ensures))

pub returns-in-Other : goal.returns-in-Other
unfolding add
returns-in-Other c = rw c.in-Other.is refl

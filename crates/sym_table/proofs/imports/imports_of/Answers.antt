use Rattle.std.proofs.Common.{◌≡◌, ◌+◌, ◌∙◌, ◌++◌, ◌∷◌, [], ap, sym, subst, map, take, List, Some, None, refl}
use Rattle.link_model.specs.Symbols.{pair_of}
use Rattle.sym_table.specs.Definitions.{shown, meaning_shown, imports_among}
use Rattle.sym_table.specs.declared.imports.Imports.{Imports}
use Rattle.sym_table.specs.ImportLists.{AreListed, with_import}
use Rattle.sym_table.proofs.ImportPairs.{public-push, import-push}
use Rattle.link_types.proofs.Lists.{map-more}
use Rattle.std.specs.Borrow.{Bor}
use Rattle.obj_types.specs.declared.symbol.Imp.{Imp}
use Rattle.sym_table.specs.declared.definitions.Meaning.{Meaning}
use Rattle.sym_table.specs.declared.definitions.Meaning.TheVariants.{Public, Imported}
use Rattle.sym_table.proofs.imports.imports_of.Goals as goal
use Rattle.sym_table.proofs.imports.imports_of.Goals.{in-Imported+in_ok-add_import, in_default}

no_pair : (m : Meaning) → ((x : Bor Imp) → m ≡ Imported x → ⊥) → pair_of (meaning_shown m) ≡ None
no_pair (Public place) not = refl
no_pair (Imported pair) not = absurd (not pair refl)

pub loop-definition-preserved : goal.loop-definition-preserved
loop-definition-preserved c =
    let found = c.args.found.now in
    let i = c.loop-definition.definition-index in
    let d = c.definition-item.result in
    let before = map shown (take i found) in
    let more : imports_among (map shown (take (i + 1) found)) ≡ imports_among (before ++ shown d ∷ []) =
    ap imports_among (map-more shown found i d c.loop-definition-test.true c.definition-item.is) in
    elim c.match-definition.branch [
      | in-Imported+in_ok-add_import w ↦
          let pair = w.in-Imported.import.now in
          let is : pair_of (meaning_shown d.meaning) ≡ Some pair = ap (λ m. pair_of (meaning_shown m)) w.in-Imported.is in (
            subst (λ (t : Imports). AreListed t) (sym w.imports-is) w.in_ok-add_import.ensures.listed,
            ap (λ (t : Imports). t.list) w.imports-is ∙ w.in_ok-add_import.ensures.list
                ∙ ap (λ (known : List Imp). with_import known pair) c.loop-definition.invariant.1
                ∙ sym (more ∙ import-push before (shown d) pair is),
          )
      | in_default w ↦ (
        subst (λ (t : Imports). AreListed t) (sym w.imports-is) c.loop-definition.invariant.0,
        ap (λ (t : Imports). t.list) w.imports-is ∙ c.loop-definition.invariant.1 ∙ sym (more ∙ public-push before (shown d) (no_pair d.meaning w.in_default.not-Imported)),
      )
    ]

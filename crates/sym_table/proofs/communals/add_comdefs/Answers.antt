use Rattle.std.proofs.Common.{◌∙◌, ◌∷◌, [], ap, sym, map}
use Rattle.std.specs.Option.{option_map}
use Rattle.std.proofs.lemmas.List.{map-append}
use Rattle.link_model.specs.Symbols.{comdef_of}
use Rattle.sym_table.specs.Communals.{comdef_shown}
use Rattle.sym_table.proofs.CommunalOnes.{added, passed}
use Rattle.sym_table.proofs.communals.add_comdefs.Goals as goal
use Rattle.sym_table.proofs.communals.add_comdefs.Goals.{in-Some+in_ok-push, in_default}

pub loop-external-preserved : goal.loop-external-preserved
loop-external-preserved c =
    let base = map comdef_shown c.args.found.now.items in
    let before = map comdef_shown c.loop-external.found.items in
    let xs = c.args.externals.now in
    let i = c.loop-external.external-index in
    let x = c.external-item.result in
    elim c.match-comdef_in.branch [
      | in-Some+in_ok-push w ↦
          ap (λ v. map comdef_shown v.items) w.found-is
          ∙ added comdef_of base before (map comdef_shown w.push.new.self.items) xs i x (comdef_shown w.in-Some.comdef) c.loop-external-test.true c.external-item.is
          (sym c.comdef_in.ensures ∙ ap (option_map comdef_shown) w.in-Some.is) c.loop-external.invariant
          (ap (map comdef_shown) w.in_ok-push.ensures.items ∙ map-append comdef_shown c.loop-external.found.items (w.in-Some.comdef ∷ []))
      | in_default w ↦
          ap (λ v. map comdef_shown v.items) w.found-is
          ∙ passed comdef_of base before xs i x c.loop-external-test.true c.external-item.is
          (sym c.comdef_in.ensures ∙ ap (option_map comdef_shown) w.in_default.is) c.loop-external.invariant
    ]

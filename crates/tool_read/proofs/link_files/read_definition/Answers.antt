use Rattle.std.proofs.Common.{◌≡◌, sym, subst, refl, Option, List, Bor, [], ◌∷◌, ℕ}
use Rattle.std.specs.Prelude.{option_map}
use Rattle.obj_types.specs.declared.definition.DefFile.{DefFile}
use Rattle.answer_model.specs.Items.{Item, definition, definition_file}
use Rattle.answer_model.specs.AskedFiles.{asked_definition}
use Rattle.tool_read.specs.Readings.{asked}
use Rattle.tool_read.specs.Steps.{GivesDefinition, ReadsInTurn}
use Rattle.tool_read.proofs.Walk.{one_load, reads_as, reads_one}
use Rattle.tool_read.proofs.link_files.read_definition.Goals as goal

pub returns-in-Some-clause-read : goal.returns-in-Some-clause-read
returns-in-Some-clause-read g c =
    let P : Option (Bor (List ℕ)) → Type 0 = λ o. ReadsInTurn GivesDefinition (asked_definition (option_map (λ name. name.now) o)) (g.F.Files.state c.args.files.now) (g.F.Files.state c.load-loaded.new.self) c.read_definition_file.result in
    subst P (sym c.in-Some.is) (record {
      calls = _;
      loads = one_load c.in-Some.name.now _ _ _ (record { files = c.load-loaded.ensures.call; told = c.load-loaded.ensures.answer });
      reads = reads_as _ GivesDefinition (asked definition_file c.in-Some.name.now ∷ []) _ c.read_definition_file.result (reads_one definition definition_file c.in-Some.name.now _ c.read_definition_file.result c.read_definition_file.ensures.read) (λ v js is. given v js is);
    })
  where
    given : (v : DefFile) (js : List Item) → js ≡ definition v ∷ [] → GivesDefinition v js
    given v js is =
        let Q : List Item → Type 0 = λ l. GivesDefinition v l in
        subst Q (sym is) refl

use Rattle.std.proofs.Common.{sym, subst, List}
use Rattle.std.proofs.lemmas.List.Elements.{All-append, All-push}
use Rattle.std.specs.List.{All}
use Rattle.obj_types.specs.declared.object.ObjModule.{ObjModule}
use Rattle.obj_types.specs.Whole.{WholeModule}
use Rattle.tool_read.specs.declared.inputs.Input.{Input}
use Rattle.tool_read.specs.Readings.{WholeInputFile}
use Rattle.tool_read.proofs.modules.Modules.add.Goals as goal

pub returns-in_ok-push-in-Object-clause-whole : goal.returns-in_ok-push-in-Object-clause-whole
returns-in_ok-push-in-Object-clause-whole c =
    let P : List ObjModule → Type 0 = λ ms. All WholeModule ms in
    let Q : Input → Type 0 = λ i. WholeInputFile i in
    record {
      objects = subst P (sym c.in_ok-push-in-Object.ensures.items) (All-push WholeModule _ c.in-Object.module c.requires.whole.objects (subst Q c.in-Object.is c.requires.input));
      libs = c.requires.whole.libs;
    }

pub returns-in_ok-append-in-Library-clause-whole : goal.returns-in_ok-append-in-Library-clause-whole
returns-in_ok-append-in-Library-clause-whole c =
    let P : List ObjModule → Type 0 = λ ms. All WholeModule ms in
    let Q : Input → Type 0 = λ i. WholeInputFile i in
    record {
      objects = c.requires.whole.objects;
      libs = subst P (sym c.in_ok-append-in-Library.ensures.items) (All-append WholeModule _ _ c.requires.whole.libs (subst P (sym c.into_vec-modules.ensures) (subst Q c.in-Library.is c.requires.input)));
    }

use Rattle.link_model.specs.declared.refusals.LinkRefusal.TheVariants.{Fixing}
use Rattle.link_model.specs.ImportTables.{used_pairs}
use Rattle.link_model.specs.Link.{Link, link_of}
use Rattle.link_place.proofs.AnswersMapped.{answers-value}
use Rattle.link_core.proofs.Assembled.{failed-by, place-refused}
use Rattle.link_core.proofs.planning.parts_of.Goals as goal

pub returns-in-Err : goal.returns-in-Err
returns-in-Err c =
    failed-by c.place_fixes.result c.in-Err.fail c.failed_as.result Fixing _ _ _ _ c.failed_as.ensures c.in-Err.is (λ e h. place-refused c.args.input.now c.args.syms.now e c.requires.bound c.requires.lay h) c.place_fixes.ensures

pub returns-in_ok-tables-in-Ok : goal.returns-in_ok-tables-in-Ok
returns-in_ok-tables-in-Ok c =
    let l : Link = link_of c.args.input.now c.args.syms.now.chosen in
    let told = answers-value c.place_fixes.result c.in-Ok.placed _ _ c.in-Ok.is c.place_fixes.ensures in
    record {
      place = told.0;
      placed = told.1;
      tables = c.in_ok-tables-in-Ok.ensures.tables (used_pairs l) told.1.imports told.1.procs;
      auto = c.in_ok-tables-in-Ok.ensures.auto c.requires.laid.places;
    }

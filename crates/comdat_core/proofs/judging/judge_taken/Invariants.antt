use Rattle.std.proofs.Common.{◌≡◌, List, map, drop}
use Rattle.std.specs.List.{AllByRecursion}
use Rattle.obj_types.specs.declared.input.LinkInput.{LinkInput}
use Rattle.link_model.specs.declared.symbols.Pick.{Pick}
use Rattle.link_model.specs.Words.{first_of}
use Rattle.link_model.specs.Clash.{all_modules}
use Rattle.comdat_core.specs.Judging.{HasNumbers, clash_by}
use Rattle.comdat_core.specs.ModuleData.{AreAt, HasData}
use Rattle.comdat_core.proofs.judging.judge_taken.Given as goal

abbrev pub invariant-loop-one : goal.invariant-loop-one
invariant-loop-one l =
    (input : LinkInput) (picks : List Pick) → HasNumbers input picks l.numbers → HasData (all_modules input) l.initial.kept → AllByRecursion (AreAt (all_modules input) l.chosen.place) l.taken
    → (first_of (map (clash_by input picks l.chosen.number) (drop l.one-index l.taken)) ≡ first_of (map (clash_by input picks l.chosen.number) l.taken)) × HasData (all_modules input) l.kept

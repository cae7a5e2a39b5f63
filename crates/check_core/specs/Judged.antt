-- What is said of places that were judged, and how places are judged part by part.
use Rattle.std.specs.Prelude.{List, ◌++◌, Option, Some, None}
use Rattle.std.specs.List.{AllByRecursion}
use Rattle.check_model.specs.declared.kinds.CheckFault.{CheckFault}
use Rattle.check_model.specs.Told.{Told}
use Rattle.check_model.specs.Places.{Place}
use Rattle.check_model.specs.Checks.{Judge, IsFine, FirstWrongIn}

-- Nothing is wrong at these places, or this is wrong first.
abbrev pub IsJudged : Judge → Told → List Place → Option CheckFault → Type 0
IsJudged j t ps None = AllByRecursion (IsFine j t) ps
IsJudged j t ps (Some fault) = FirstWrongIn j t ps fault.line fault.kind

-- What is wrong first at some places is so at these and more; and where nothing is wrong at some, more decide.
pub record JudgedInTurn : Type 0 where
  pub here : (j : Judge) (t : Told) (first more : List Place) (fault : CheckFault) → IsJudged j t first (Some fault) → IsJudged j t (first ++ more) (Some fault)
  pub later :
      (j : Judge) (t : Told) (first more : List Place) (answer : Option CheckFault) → IsJudged j t first None → IsJudged j t more answer →
      IsJudged j t (first ++ more) answer

-- A refusal that is handed on.
use Rattle.std.specs.Prelude.{Result, Ok, Err}
use Rattle.lx_types.specs.Answers.{Answers}
use Rattle.lx_types.specs.declared.fail.Fail.{Fail}
use Rattle.lx_types.specs.declared.fail.Fail.TheVariants.{Said, NoMemory}

pub handed_on : {A B R : Type 0} (fail : Fail R) (P : A → Type 0) (S : B → Type 0) (Q T : R → Type 0) → ((refusal : R) → Q refusal → T refusal) → Answers (Err fail) P Q → Answers (Err fail) S T
handed_on (Said refusal) P S Q T f h = f refusal h
handed_on NoMemory P S Q T f h = tt

pub answered : {A R : Type 0} (result : Result A (Fail R)) (P S : A → Type 0) (Q T : R → Type 0) → ((value : A) → P value → S value) → ((refusal : R) → Q refusal → T refusal) → Answers result P Q → Answers result S T
answered (Ok value) P S Q T f g h = f value h
answered (Err (Said refusal)) P S Q T f g h = g refusal h
answered (Err NoMemory) P S Q T f g h = tt

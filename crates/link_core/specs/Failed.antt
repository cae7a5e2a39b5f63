-- A failure of a step as its caller's.
use Rattle.lx_types.specs.declared.fail.Fail.{Fail}
use Rattle.lx_types.specs.declared.fail.Fail.TheVariants.{Said, NoMemory}

-- A refusal is told so, and want of memory stays want of memory.
abbrev pub IsFailedAs : {E R : Type 0} → (E → R → Type 0) → Fail E → Fail R → Type 0
IsFailedAs IsTold (Said refusal) (Said told) = IsTold refusal told
IsFailedAs IsTold NoMemory NoMemory = Unit {0}
IsFailedAs IsTold (Said refusal) NoMemory = ⊥
IsFailedAs IsTold NoMemory (Said told) = ⊥

-- A list that is read on after the items that were read already.
use Rattle.std.specs.Prelude.{List, ◌++◌, Result, Ok}
use Rattle.obj_types.specs.declared.refusal.OmfRefusal.{OmfRefusal}
use Rattle.lx_types.specs.Answers.{◌>>=◌}

-- The items, and after them those that are read.
abbrev pub onto : {A : Type 0} → List A → Result (List A) OmfRefusal → Result (List A) OmfRefusal
onto items read = read >>= λ others. Ok (items ++ others)

use Rattle.std.proofs.Common.{◌≡◌, ◌⊎◌, Result, Ok, Err, refl, inl, inr}
use Rattle.obj_types.specs.declared.definition.DefFile.{DefFile}
use Rattle.def_model.specs.declared.refusal.DefRefusal.{DefRefusal}
use Rattle.def_model.specs.Reading.{read_of}
use Rattle.def_file.proofs.laws.file_is_one.Goals as goal

one-value : (answer : Result DefFile DefRefusal) (d e : DefFile) → answer ≡ Ok d → answer ≡ Ok e → d ≡ e
one-value answer d e h k = cc

one-fault : (answer : Result DefFile DefRefusal) (f g : DefRefusal) → answer ≡ Err f → answer ≡ Err g → f ≡ g
one-fault answer f g h k = cc

not-both : (answer : Result DefFile DefRefusal) (d : DefFile) (f : DefRefusal) → answer ≡ Ok d → answer ≡ Err f → ⊥
not-both answer d f h k = cc

some-answer : (answer : Result DefFile DefRefusal) → ((d : DefFile) × (answer ≡ Ok d)) ⊎ ((f : DefRefusal) × (answer ≡ Err f))
some-answer (Ok d) = inl (d, refl)
some-answer (Err f) = inr (f, refl)

pub returns-clause-file : goal.returns-clause-file
returns-clause-file c = λ bytes d e h k. one-value (read_of bytes) d e h k

pub returns-clause-fault : goal.returns-clause-fault
returns-clause-fault c = λ bytes f g h k. one-fault (read_of bytes) f g h k

pub returns-clause-either : goal.returns-clause-either
returns-clause-either c = λ bytes. some-answer (read_of bytes)

pub returns-clause-apart : goal.returns-clause-apart
returns-clause-apart c = λ bytes d f h k. not-both (read_of bytes) d f h k

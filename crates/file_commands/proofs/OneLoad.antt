-- A command that loads one file.
use Rattle.std.proofs.Common.{◌≡◌, ℕ, List, [], ◌∷◌, Result, Err, refl}
use Rattle.lx_types.specs.declared.fail.Fail.{Fail}
use Rattle.lx_types.specs.declared.fail.Fail.TheVariants as fail
use Rattle.lx_ports.specs.Calls.{load}
use Rattle.lx_ports.specs.declared.files.LoadFault.{LoadFault}
use Rattle.answer_model.specs.Loading.{ReadsAnswer, RefusesAnswer}
use Rattle.answer_model.specs.AskedFiles.{Asked}
use Rattle.answer_model.specs.Items.{Item}
use Rattle.tool_read.specs.Readings.{RefusedSo}
use Rattle.refusal_text.specs.declared.refused.Refused.{Refused}
use Rattle.refusal_text.specs.Refusals.{said_of}
use Rattle.tool_read.specs.Steps.{GivesAll, ReadsAll}

pub one_read : {T : Type 0} (item : T → Item) (a : Asked) (answer : Result (List ℕ) LoadFault) (m : T) → ReadsAnswer a answer (item m) → GivesAll (λ v items. items ≡ item v ∷ []) (a ∷ []) (load a.name answer ∷ []) m
one_read item a answer m reads = record { items = item m ∷ []; read = ((refl, reads), tt); given = refl }

pub one_refused : {T : Type 0} (P : T → List Item → Type 0) (a : Asked) (answer : Result (List ℕ) LoadFault) (why : Fail Refused)
    → RefusedSo (RefusesAnswer a answer) why → ReadsAll P (a ∷ []) (load a.name answer ∷ []) (Err why)
one_refused P a answer (fail.Said refused) refuses = record {
  before = [];
  here = a;
  after = [];
  are = refl;
  earlier = [];
  items = [];
  read = tt;
  call = load a.name answer;
  refused = (refl, refuses);
  calls_are = refl;
}
one_refused P a answer fail.NoMemory refuses = (refl, tt)

-- What a refusal of an entry is of a table of names.
use Rattle.std.proofs.Common.{◌≡◌, List, Result}
use Rattle.std.specs.Prelude.{IsErrAnd}
use Rattle.lx_bytes.specs.Cursor.{Cursor}
use Rattle.lx_types.specs.Answers.{Tells, Gives, if_said_as}
use Rattle.lx_types.specs.declared.refusal.LxKind.TheVariants.{NameTable}
use Rattle.lx_types.specs.declared.fail.Fail.{Fail}
use Rattle.lx_types.specs.declared.fail.Fail.TheVariants.{Said, NoMemory}
use Rattle.lx_model.specs.NameTables.{Named, name_entry}
use Rattle.lx_model.specs.Reading.{Many, many, front, whole}
use Rattle.lx_model.proofs.Many.{front_wrong}
use Rattle.lx_entry.specs.declared.refusal.TableRefusal.{TableRefusal}
use Rattle.lx_entry.specs.Refusals.{refusal}
use Rattle.lx_entry.proofs.Refusals.{gives_failed}

wrong : (c : Cursor) (before : List Named) (all : Many Named) (f : Fail TableRefusal) → Tells (if_said_as (refusal NameTable) f) (name_entry tt c) → front before (many name_entry tt c) ≡ all → Tells (if_said_as (refusal NameTable) f) (whole all)
wrong c before all (Said r) told kept = front_wrong name_entry tt c (refusal NameTable r) before all told kept
wrong c before all NoMemory told kept = tt

pub refuse : (c : Cursor) (before : List Named) (all : Many Named) (f : Fail TableRefusal) (answer : Result (List Named) (Fail TableRefusal)) → Tells (if_said_as (refusal NameTable) f) (name_entry tt c) → IsErrAnd answer (λ e. e ≡ f) →
    front before (many name_entry tt c) ≡ all → Gives (λ (ns : List Named). ns) (if_said_as (refusal NameTable)) answer (whole all)
refuse c before all f answer told e kept = gives_failed NameTable (λ (ns : List Named). ns) answer (whole all) f e (wrong c before all f told kept)

-- From what the bytes of a file mean to what the load of the file is read as.
use Rattle.std.proofs.Common.{◌≡◌, ℕ, ◌≤◌, List, length, Result, Ok, sym, subst}
use Rattle.lx_types.specs.declared.fail.Fail.{Fail}
use Rattle.lx_types.specs.declared.fail.Fail.TheVariants as fail
use Rattle.lx_ports.specs.declared.files.LoadFault.{LoadFault}
use Rattle.refusal_text.specs.declared.refused.FileFault.{FileFault}
use Rattle.refusal_text.specs.declared.refused.Refused.{Refused}
use Rattle.refusal_text.specs.Refusals.{fault_text, said_of}
use Rattle.answer_model.specs.Loading.{ReadsAnswer, RefusesAnswer, file_limit}
use Rattle.answer_model.specs.Reading.{IsFault, IsItem}
use Rattle.answer_model.specs.Items.{Item, Kind, form_of}
use Rattle.tool_read.specs.Readings.{Tells, asked, Faults, RefusedSo}

module _ (kind : Kind) (name : List ℕ) (answer : Result (List ℕ) LoadFault) (bytes lent : List ℕ) (is : answer ≡ Ok bytes) (short : length bytes ≤ file_limit) (same : lent ≡ bytes) where
  pub ok_read : (item : Item) → IsItem (form_of kind lent) lent item → ReadsAnswer (asked kind name) answer item
  ok_read item means =
      let P : Result (List ℕ) LoadFault → Type 0 = λ a. ReadsAnswer (asked kind name) a item in
      let Q : List ℕ → Type 0 = λ l. IsItem (form_of kind l) l item in
      subst P (sym is) (short, subst Q same means)

  told_said : (own : FileFault) (told : Fail Refused) → IsFault (form_of kind lent) lent (fault_text own) → Tells name (fail.Said own) told → RefusedSo (RefusesAnswer (asked kind name) answer) told
  told_said own (fail.Said refused) fault tells =
      let P : Result (List ℕ) LoadFault → Type 0 = λ a. RefusesAnswer (asked kind name) a (said_of refused) in
      let Q : List ℕ → Type 0 = λ l. IsFault (form_of kind l) l (fault_text own) in
      subst P (sym is) (record { short = short; text = fault_text own; fault = subst Q same fault; line = tells })
  told_said own fail.NoMemory fault tells = tt

  pub err_read : (why : Fail FileFault) (told : Fail Refused) → Faults (form_of kind lent) lent why → Tells name why told → RefusedSo (RefusesAnswer (asked kind name) answer) told
  err_read (fail.Said own) told fault tells = told_said own told fault tells
  err_read fail.NoMemory told fault tells =
      let P : Fail Refused → Type 0 = λ f. RefusedSo (RefusesAnswer (asked kind name) answer) f in
      subst P (sym tells) tt

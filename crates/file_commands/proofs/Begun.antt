-- What holds of the loads of a command.
use Rattle.std.proofs.Common.{◌≡◌, ℕ, List, [], ◌∷◌, ◌++◌, Option, Result, Ok, Err, sym, subst, refl}
use Rattle.lx_ports.specs.Calls.{Call, load, save}
use Rattle.lx_ports.specs.Files.{Contents}
use Rattle.lx_ports.specs.declared.files.LoadFault.{LoadFault}
use Rattle.lx_ports.specs.declared.files.LoadFault.TheVariants as fault
use Rattle.std.specs.List.{AllByRecursion}
use Rattle.answer_model.specs.declared.said.Said.{Said}
use Rattle.answer_model.specs.Answer.{saves_in}
use Rattle.answer_model.specs.Ends.{Holds}
use Rattle.answer_model.specs.Loading.{AreBegun, AreRead, IsLoadWith, IsRead, IsRefused, IsStopped}
use Rattle.answer_model.specs.AskedFiles.{Asked}
use Rattle.answer_model.specs.Items.{Item}

-- ---- the calls are loads

abbrev pub IsLoad : Call → Type 0
IsLoad (load name answer) = Unit {0}
IsLoad (save name bytes answer) = ⊥

pub load_of : (a : Asked) (call : Call) (P : Result (List ℕ) LoadFault → Type 0) → IsLoadWith a call P → IsLoad call
load_of a (load name answer) P is = tt
load_of a (save name bytes answer) P is = absurd is

pub begun_loads : (asked : List Asked) (calls : List Call) → AreBegun asked calls → AllByRecursion IsLoad calls
begun_loads asked [] begun = tt
begun_loads [] (call ∷ calls) begun = absurd begun
begun_loads (a ∷ asked) (call ∷ []) begun = (load_of a call _ begun, tt)
begun_loads (a ∷ asked) (call ∷ next ∷ calls) begun = (load_of a call _ begun.0.1, begun_loads asked (next ∷ calls) begun.1)

pub no_saves : (loads saves : List Call) → AllByRecursion IsLoad loads → saves_in (loads ++ saves) ≡ saves_in saves
no_saves [] saves are = refl
no_saves (load name answer ∷ loads) saves are = no_saves loads saves are.1
no_saves (save name bytes answer ∷ loads) saves are = absurd are.0

pub holds_later : (loads saves : List Call) (had now : Option Contents) → AllByRecursion IsLoad loads → Holds had saves now → Holds had (loads ++ saves) now
holds_later [] saves had now are held = held
holds_later (load name answer ∷ loads) saves had now are held = holds_later loads saves had now are.1 held
holds_later (save name bytes answer ∷ loads) saves had now are held = absurd are.0

-- ---- no load found no memory

abbrev pub IsPlain : Call → Type 0
IsPlain (load name (Err fault.NoMemory)) = ⊥
IsPlain _ = Unit {0}

pub plain_joined : (xs ys : List Call) → AllByRecursion IsPlain xs → AllByRecursion IsPlain ys → AllByRecursion IsPlain (xs ++ ys)
plain_joined [] ys one two = two
plain_joined (x ∷ xs) ys one two = (one.0, plain_joined xs ys one.1 two)

pub one_plain : (a : Asked) (call : Call) (item : Item) → IsRead a call item → IsPlain call
one_plain a (load name (Ok bytes)) item is = tt
one_plain a (load name (Err why)) item is = absurd is.1
one_plain a (save name bytes answer) item is = absurd is

pub plain_refused : (a : Asked) (call : Call) (said : Said) → IsRefused a call said → IsPlain call
plain_refused a (load name (Ok bytes)) said is = tt
plain_refused a (load name (Err fault.Absent)) said is = tt
plain_refused a (load name (Err fault.TooLong)) said is = tt
plain_refused a (load name (Err fault.Failed)) said is = tt
plain_refused a (load name (Err fault.NoMemory)) said is = absurd is.1
plain_refused a (save name bytes answer) said is = absurd is

pub read_plain : (asked : List Asked) (calls : List Call) (items : List Item) → AreRead asked calls items → AllByRecursion IsPlain calls
read_plain [] [] [] are = tt
read_plain [] [] (i ∷ is) are = absurd are
read_plain [] (x ∷ xs) is are = absurd are
read_plain (a ∷ f) [] is are = absurd are
read_plain (a ∷ f) (x ∷ xs) [] are = absurd are
read_plain (a ∷ f) (x ∷ xs) (i ∷ is) are = (one_plain a x i are.0, read_plain f xs is are.1)

pub stopped_plain : (asked : List Asked) (calls : List Call) (said : Said) → IsStopped asked calls said → AllByRecursion IsPlain calls
stopped_plain asked calls said is =
    let P : List Call → Type 0 = λ xs. AllByRecursion IsPlain xs in
    subst P (sym is.calls_are) (plain_joined is.earlier (is.call ∷ []) (read_plain is.before is.earlier is.items is.read) (plain_refused is.here is.call said is.refused, tt))

use Rattle.std.proofs.Common.{◌<◌, ◌∙◌, List, length, ap, subst, sym}
use Rattle.std.specs.Prelude.{All}
use Rattle.load_model.specs.declared.deeds.Fresh.{Fresh}
use Rattle.load_model.specs.Modules.{Library}
use Rattle.memory_model.specs.declared.held.ModuleMemory.{ModuleMemory}
use Rattle.memory_model.specs.Memory.{IsMemory}
use Rattle.memory_core.specs.Addresses.{AreAddressed}
use Rattle.memory_core.specs.Brought.{memory_of}
use Rattle.memory_core.proofs.Addressed.{all_addressed}
use Rattle.memory_core.proofs.HeldModules.{memory_is}
use Rattle.memory_core.proofs.brought.memory.Goals as goal

pub all_held-requires-clause-within : goal.all_held-requires-clause-within
all_held-requires-clause-within c =
    let F : List Fresh → Type 0 = λ fs. All (λ f. f.«module» < length c.of-own.result) fs in
    let L : Library → Type 0 = λ l. All (λ f. f.«module» < length l) c.in-Ok.fresh in
    subst F (sym c.as_slice.ensures) (subst L (sym c.of-own.ensures) c.in-Ok.ensures.within)

pub returns-in_ok-all_held-in-Ok-clause-answer : goal.returns-in_ok-all_held-in-Ok-clause-answer
returns-in_ok-all_held-in-Ok-clause-answer c =
    let P : List ModuleMemory → Type 0 = λ held. IsMemory c.args.library held in
    subst P (sym (c.in_ok-all_held-in-Ok.ensures ∙ ap (λ (l : Library). memory_of l c.as_slice.result.now) c.of-own.ensures ∙ ap (memory_of c.args.library) c.as_slice.ensures))
    (memory_is c.args.library c.in-Ok.fresh c.order_is_reach.ensures.once c.in-Ok.ensures)

pub returns-in_ok-all_held-in-Ok-clause-addressed : goal.returns-in_ok-all_held-in-Ok-clause-addressed
returns-in_ok-all_held-in-Ok-clause-addressed c =
    let P : List ModuleMemory → Type 0 = λ held. All AreAddressed held in
    subst P (sym (c.in_ok-all_held-in-Ok.ensures ∙ ap (λ (l : Library). memory_of l c.as_slice.result.now) c.of-own.ensures ∙ ap (memory_of c.args.library) c.as_slice.ensures))
    (all_addressed c.args.library c.in-Ok.fresh c.in-Ok.ensures.stand)

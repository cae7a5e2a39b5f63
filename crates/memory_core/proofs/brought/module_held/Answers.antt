use Rattle.std.proofs.Common.{◌≡◌, ◌∙◌, ℕ, List, ap, sym}
use Rattle.lx_types.specs.declared.bases.Bases.{Bases}
use Rattle.lx_types.specs.declared.parts.Parts.{Parts}
use Rattle.lx_model.specs.Library.{module_of}
use Rattle.load_model.specs.Memory.{bases_seen}
use Rattle.load_model.specs.Modules.{Library, name_of}
use Rattle.memory_model.specs.declared.held.ModuleMemory.{ModuleMemory}
use Rattle.memory_model.specs.declared.held.ObjectMemory.{ObjectMemory}
use Rattle.module_pages.specs.Placed.{PlacedModule}
use Rattle.memory_core.specs.Brought.{standing}
use Rattle.memory_core.specs.Objects.{objects_held}
use Rattle.memory_core.proofs.HeldModules.{module_is, placed}
use Rattle.memory_core.proofs.brought.module_held.Goals as goal

pub returns : goal.returns
returns g c =
    let lib = c.args.lib.now in
    let fresh = c.args.fresh.now in
    let one = c.args.one.now in
    let m = one.«module» in
    let own = c.as_slice.result.now in
    let made : List ℕ → List ObjectMemory → ModuleMemory = λ name objects. record { name = name; objects = objects } in
    let name : c.in_ok-copied.field-0 ≡ name_of lib m =
    c.in_ok-copied.ensures ∙ c.name.ensures ∙ ap (λ (p : Parts). p.name) c.module-module.ensures ∙ ap (λ (l : Library). (module_of l m).name) c.library.ensures in
    let objects : c.in_ok-objects_held.field-0 ≡ objects_held (placed lib fresh one) one.bases =
    c.in_ok-objects_held.ensures
    ∙ ap (λ (p : PlacedModule). objects_held p own) c.of.ensures
    ∙ ap (λ (b : Bases). objects_held (record { library = lib; «module» = m; bases = b }) own) (c.in_ok-bases.ensures ∙ ap (λ (l : Library). bases_seen l (standing fresh) m) c.library-2.ensures)
    ∙ ap (objects_held (placed lib fresh one)) c.as_slice.ensures in
    ap (λ (n : List ℕ). made n c.in_ok-objects_held.field-0) name ∙ ap (made (name_of lib m)) objects ∙ sym (module_is lib fresh one)

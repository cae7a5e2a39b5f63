-- What is told of a file, and its first fault.
use Rattle.std.specs.Prelude.{◌≡◌, ℕ, List, [], Option, Some, None, MatchBool}
use Rattle.lx_types.specs.declared.parts.Parts.{Parts}
use Rattle.lx_model.specs.Module.{Lx, LxFault}
use Rattle.obj_types.specs.declared.object.ObjModule.{ObjModule}
use Rattle.omf_model.specs.Object as objects
use Rattle.omf_model.specs.Library as libraries
use Rattle.res_model.specs.declared.item.ResItem.{ResItem}
use Rattle.res_model.specs.ResFile.{IsResFile}
use Rattle.res_model.specs.Faults as resources
use Rattle.show_model.specs.Kinds.{is_module, is_library, is_resource}
use Rattle.show_model.specs.Lists.{module_lists, object_lists, library_lists, resource_lists}
use Rattle.show_model.specs.Outlines.{IsOutline}
use Rattle.show_model.specs.declared.fault.ShowFault.{ShowFault}
use Rattle.show_model.specs.declared.fault.ShowFault.TheVariants.{Object, Module, Resources}

-- Without fault the file means something, and each list of that is told. Of a file with a fault parts are told of what stands
-- before it.
abbrev pub ShowsModule : List ℕ → List ℕ → Option ShowFault → Type 0
ShowsModule file text None = (m : Parts) × Lx file m × IsOutline text (module_lists m)
ShowsModule file text (Some (Module refusal)) = (LxFault file ≡ Some refusal) × IsOutline text []
ShowsModule file text (Some _) = ⊥

abbrev pub ShowsObject : List ℕ → List ℕ → Option ShowFault → Type 0
ShowsObject file text None = (m : ObjModule) × objects.Obj file m × IsOutline text (object_lists m)
ShowsObject file text (Some (Object refusal)) = objects.FirstFault file refusal × IsOutline text []
ShowsObject file text (Some _) = ⊥

abbrev pub ShowsLibrary : List ℕ → List ℕ → Option ShowFault → Type 0
ShowsLibrary file text None = (modules : List ObjModule) × libraries.Lib file modules × IsOutline text (library_lists modules)
ShowsLibrary file text (Some (Object refusal)) = libraries.LibraryFault file refusal × IsOutline text []
ShowsLibrary file text (Some _) = ⊥

abbrev pub ShowsResources : List ℕ → List ℕ → Option ShowFault → Type 0
ShowsResources file text None = (items : List ResItem) × IsResFile file items × IsOutline text (resource_lists items)
ShowsResources file text (Some (Resources refusal)) = resources.FirstFault file refusal × IsOutline text []
ShowsResources file text (Some _) = ⊥

-- The text is what is told of the file, and the fault its first one, if it has any.
abbrev pub IsShown : List ℕ → List ℕ → Option ShowFault → Type 0
IsShown file text fault =
    MatchBool (is_module file) (ShowsModule file text fault)
    (MatchBool (is_library file) (ShowsLibrary file text fault)
    (MatchBool (is_resource file) (ShowsResources file text fault) (ShowsObject file text fault)))

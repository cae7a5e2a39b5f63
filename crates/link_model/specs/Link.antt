-- A link, as the pages on symbols, layout and values see it.
use Rattle.std.specs.Prelude.{◌≡◌, ℕ, List, ◌++◌, Option, None, map}
use Rattle.std.specs.List.{flat_map, enumerate_from}
use Rattle.obj_types.specs.declared.object.ObjModule.{ObjModule}
use Rattle.obj_types.specs.declared.symbol.Ext.{Ext}
use Rattle.obj_types.specs.declared.symbol.Exp.{Exp}
use Rattle.obj_types.specs.declared.definition.DefFile.{DefFile}
use Rattle.obj_types.specs.declared.input.LinkInput.{LinkInput}
use Rattle.link_model.specs.declared.symbols.Pick.{Pick}
use Rattle.link_model.specs.declared.refusals.ComdatRefusal.{ComdatRefusal}
use Rattle.obj_types.specs.Items.{item}
use Rattle.link_model.specs.Kept.{Kept}
use Rattle.link_model.specs.Clash.{comdat_refusal}
use Rattle.link_model.specs.Choosing.{modules_of, Chosen}

-- The chosen modules in order, the definition file, the stem of the module to be written, and the clash of their COMDATs
-- where there is one.
pub record Link : Type 0 where
  pub modules : List ObjModule
  pub def : DefFile
  pub stem : List ℕ
  pub clash : Option ComdatRefusal

-- The link of modules without COMDATs.
abbrev pub link_of : LinkInput → List Pick → Link
link_of input picks = record { modules = modules_of input picks; def = input.def; stem = input.stem; clash = None }

-- The link of what is kept of an input.
abbrev pub kept_link : LinkInput → List Pick → Link
kept_link input picks = record (link_of (Kept input) picks) { clash = comdat_refusal input picks }

-- The link of an input is that of the modules that what is kept of it chooses. There is one (`ChosenOnce`).
pub record IsLinkOf (input : LinkInput) (l : Link) : Type 0 where
  pub picks : List Pick
  pub chosen : Chosen (Kept input) picks
  pub same : l ≡ kept_link input picks

-- Chosen modules are numbered from 1.
abbrev pub chosen_module : Link → ℕ → Option ObjModule
chosen_module l n = item l.modules n

-- What a function gives of each chosen module with its number, in order.
abbrev pub of_modules : {X : Type 0} → Link → (ℕ → ObjModule → List X) → List X
of_modules l f = flat_map (λ q. f q.0 q.1) (enumerate_from 1 l.modules)

-- The externals of all chosen modules, each with its module's number.
abbrev pub externals : Link → List (ℕ × Ext)
externals l = of_modules l (λ n m. map (λ e. (n, e)) m.exts)

-- The exports: EXPDEF records in chosen order, then EXPORTS.
abbrev pub exports : Link → List Exp
exports l = flat_map (λ m. m.exports) l.modules ++ l.def.exports

-- Worked values of the modules: what stands in them by the description, word for word.
use Rattle.std.specs.Prelude.{◌≡◌, ℕ, false, [], ◌∷◌, ◌++◌, codes, length, None}
use Rattle.lx_types.specs.declared.entry.EntryKey.TheVariants.{Ordinal}
use Rattle.obj_types.specs.declared.location.TheConstants.{LOCATION_OFFSET_32}
use Rattle.obj_types.specs.declared.object.FixAt.{FixAt}
use Rattle.obj_types.specs.declared.object.Frame.TheVariants as frames
use Rattle.obj_types.specs.declared.object.Goal.{Goal}
use Rattle.obj_types.specs.declared.object.Goal.TheVariants as goals
use Rattle.gen_model.specs.Modules.{reference, gen_pieces, gen_object, definition_text}

-- a reference of 32 bits at an offset
abbrev pub offset_32 : ℕ → Goal → FixAt
offset_32 offset goal = record { seg = 1; offset = offset; loc = LOCATION_OFFSET_32; selfrel = false; frame = frames.Group 1; goal = goal; disp = offset }

pub record WorkedModules : Type 0 where
  -- the first doubleword of the first module refers to itself, and that of the second to the module before it
  pub first : reference 1 0 ≡ offset_32 0 (goals.Seg 1)
  pub before : reference 2 0 ≡ offset_32 0 (goals.Ext 1)
  pub own : reference 2 1 ≡ offset_32 4 (goals.Seg 1)
  pub last : reference 64 2047 ≡ offset_32 8188 (goals.Seg 1)
  -- the first module asks for nothing
  pub no_externals : (gen_object 1).exts ≡ []
  pub no_imports : (gen_object 1).imports ≡ []
  pub externals : (gen_object 12).exts ≡ record { name = codes "g11"; local = false; common = None } ∷ []
  pub imports : (gen_object 12).imports ≡ record { name = codes "g11"; «module» = codes "G11"; entry = Ordinal 1 } ∷ []
  pub publics : (gen_object 12).name ≡ codes "g12"
  pub pieces : length gen_pieces ≡ 8
  pub definition : definition_text 64 ≡ codes "LIBRARY G64" ++ 10 ∷ []

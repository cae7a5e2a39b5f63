-- A COMDAT record's fields, as the definitions see them.
use Rattle.std.specs.Prelude.{◌≡◌, length}
use Rattle.std.specs.Option.{option_map}
use Rattle.obj_types.specs.declared.parts.ObjParts.{ObjParts}
use Rattle.omf_model.specs.Comdat as meant
use Rattle.omf_comdat.specs.declared.fields.Base.{Base}
use Rattle.omf_comdat.specs.declared.fields.Have.{Have}
use Rattle.omf_comdat.specs.declared.fields.ComdatFields.{ComdatFields}

abbrev pub base_of : Base → meant.Base
base_of base = record { group = base.group; segment = base.segment }

-- The type's index is 0.
abbrev pub comdat_of : ComdatFields → meant.ComDat
comdat_of d = record {
  flags = d.flags;
  attributes = d.attributes;
  align = d.align;
  offset = d.offset;
  type = 0;
  base = option_map base_of d.base;
  name = d.name;
  content = d.bytes.now;
}

-- These are the numbers of an unfinished module.
pub record Counted (have : Have) (p : ObjParts) : Type 0 where
  pub names : have.names ≡ length p.names
  pub segs : have.segs ≡ length p.module.segs
  pub groups : have.groups ≡ length p.module.groups

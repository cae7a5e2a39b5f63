-- The attributes and the flags of a part under a definition file.
use Rattle.std.specs.Prelude.{ℕ, if◌then◌else◌}
use Rattle.std.specs.List.{find}
use Rattle.std.specs.Option.{option_map_or}
use Rattle.obj_types.specs.declared.definition.Attrs.{Attrs}
use Rattle.obj_types.specs.declared.definition.DefFile.{DefFile}
use Rattle.link_model.specs.Parts.{Part}
use Rattle.link_model.specs.Flags.{is_for, is_code_class, flags_with}

abbrev pub attributes_in : DefFile → Part → Attrs
attributes_in def p =
    option_map_or (λ item. item.attrs) (find (is_for p) def.segs) (if is_code_class p.class then def.code else def.plain)

abbrev pub flags_in : DefFile → Part → ℕ
flags_in def p = flags_with (attributes_in def p) p.wide

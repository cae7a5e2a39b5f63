-- The attributes of segments, and the flags of objects ("32-bit Linear eXecutable Module Format": "Object
-- Table").
use Rattle.std.specs.Prelude.{ℕ, ◌+◌, ◌-◌, Bool, true, ◌&&◌, List, length, drop, if◌then◌else◌, bytes_eq, codes}
use Rattle.std.specs.List.{find}
use Rattle.std.specs.Option.{option_map_or}
use Rattle.lx_types.specs.Names.{uppercase}
use Rattle.lx_types.specs.declared.object.TheConstants.{OBJECT_READABLE, OBJECT_WRITABLE, OBJECT_EXECUTABLE, OBJECT_SHARED, OBJECT_PRELOAD, OBJECT_ALIAS, OBJECT_BIG, OBJECT_CONFORMING, OBJECT_IOPL}
use Rattle.obj_types.specs.declared.definition.Attrs.{Attrs}
use Rattle.obj_types.specs.declared.definition.SegAttrs.{SegAttrs}
use Rattle.link_model.specs.Link.{Link}
use Rattle.link_model.specs.Parts.{Part}
pub use Rattle.lx_types.specs.Addresses.{is_big, is_executable}

-- The class of a code segment ends in CODE, in any case.
abbrev pub is_code_class : List ℕ → Bool
is_code_class class = bytes_eq (drop (length class - 4) (uppercase class)) (codes "CODE")

-- An item of SEGMENTS is for the segments of its name and class; one without a class is for every class.
abbrev pub is_for : Part → SegAttrs → Bool
is_for p item = bytes_eq item.name p.name && option_map_or (λ class. bytes_eq class p.class) item.class true

-- The first item of SEGMENTS that is for the segment, else CODE for code classes and DATA for others.
abbrev pub attrs_of : Link → Part → Attrs
attrs_of l p =
    option_map_or (λ item. item.attrs) (find (is_for p) l.def.segs)
    (if is_code_class p.class then l.def.code else l.def.plain)

abbrev pub flag : Bool → ℕ → ℕ
flag b value = if b then value else 0

-- An object's flags: one for each attribute, big for use32, and the 16:16 alias for others.
abbrev pub flags_with : Attrs → Bool → ℕ
flags_with a wide =
    flag a.read OBJECT_READABLE + flag a.write OBJECT_WRITABLE + flag a.exec OBJECT_EXECUTABLE
    + flag a.shared OBJECT_SHARED + flag a.preload OBJECT_PRELOAD + flag a.conforming OBJECT_CONFORMING + flag a.iopl OBJECT_IOPL
    + (if wide then OBJECT_BIG else OBJECT_ALIAS)

abbrev pub flags_of : Link → Part → ℕ
flags_of l p = flags_with (attrs_of l p) p.wide

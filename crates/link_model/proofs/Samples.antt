-- Small inputs on which the definitions are tried.
use Rattle.std.specs.Prelude.{ℕ, Bool, true, false, List, [], ◌∷◌, Option, Some, None, length, codes}
use Rattle.obj_types.specs.declared.object.Seg.{Seg}
use Rattle.obj_types.specs.declared.object.Piece.{Piece}
use Rattle.obj_types.specs.declared.object.FixAt.{FixAt}
use Rattle.obj_types.specs.declared.object.Frame.{Frame}
use Rattle.obj_types.specs.declared.object.Goal.{Goal}
use Rattle.obj_types.specs.declared.object.ObjModule.{ObjModule}
use Rattle.obj_types.specs.declared.symbol.Pub.{Pub}
use Rattle.obj_types.specs.declared.symbol.PubPlace.TheVariants as places
use Rattle.obj_types.specs.declared.symbol.Ext.{Ext}
use Rattle.obj_types.specs.declared.symbol.Imp.{Imp}
use Rattle.obj_types.specs.declared.symbol.Exp.{Exp}
use Rattle.lx_types.specs.declared.entry.EntryKey.{EntryKey}
use Rattle.obj_types.specs.declared.definition.DefFile.{DefFile}
use Rattle.obj_types.specs.Fresh.{empty_module}
use Rattle.link_model.specs.Link.{Link}
use Rattle.link_model.specs.Value.{World}

-- ---- segments and modules

abbrev pub seg : List ℕ → List ℕ → ℕ → ℕ → Bool → ℕ → Seg
seg name class align combine wide len =
    record { name = name; class = class; align = align; combine = combine; wide = wide; len = len; debug = false }

abbrev pub piece : ℕ → ℕ → List ℕ → Piece
piece seg offset bytes = record { seg = seg; offset = offset; bytes = bytes }

abbrev pub fix : ℕ → ℕ → ℕ → Bool → Frame → Goal → ℕ → FixAt
fix seg offset loc selfrel frame goal disp =
    record { seg = seg; offset = offset; loc = loc; selfrel = selfrel; frame = frame; goal = goal; disp = disp }

abbrev pub with_segs : List Seg → ObjModule
with_segs segs = record empty_module { segs = segs }

abbrev pub linked : DefFile → List ObjModule → Link
linked def modules = record { modules = modules; def = def; stem = codes "S"; clash = None }

-- A world of these bases in which imports lead to 10000h.
abbrev pub at_bases : List ℕ → World
at_bases bases = record { bases = bases; imp = λ from entry. record { address = 65536; flags = 8197 } }

-- ---- names

abbrev pub public : List ℕ → ℕ → ℕ → Pub
public name seg offset = record { name = name; local = false; place = places.In seg offset }

abbrev pub constant : List ℕ → ℕ → Pub
constant name value = record { name = name; local = false; place = places.Const value }

abbrev pub extern : List ℕ → Ext
extern name = record { name = name; local = false; common = None }

abbrev pub comdef : List ℕ → Bool → ℕ → Ext
comdef name far len = record { name = name; local = false; common = Some (record { far = far; len = len }) }

abbrev pub import : List ℕ → List ℕ → EntryKey → Imp
import name from entry = record { name = name; «module» = from; entry = entry }

abbrev pub export : List ℕ → List ℕ → Option ℕ → Exp
export name internal ordinal =
    record { name = name; internal = internal; ordinal = ordinal; resident = false; nodata = false; words = 0 }

-- ---- segments of every day

abbrev pub code32 : ℕ → Seg
code32 len = seg (codes "CODE32") (codes "CODE") 5 2 true len

abbrev pub data32 : ℕ → Seg
data32 len = seg (codes "DATA32") (codes "DATA") 5 2 true len

abbrev pub code16 : List ℕ → ℕ → Seg
code16 name len = seg name (codes "CODE") 2 0 false len

abbrev pub common32 : ℕ → Seg
common32 len = seg (codes "SHARED") (codes "DATA") 5 6 true len

-- A module of one 32-bit code segment with this data and these fixups.
abbrev pub code_module : List ℕ → List FixAt → ObjModule
code_module bytes fixes =
    record empty_module {
      segs = code32 (length bytes) ∷ [];
      groups = record { name = codes "FLAT"; members = [] } ∷ [];
      pieces = piece 1 0 bytes ∷ [];
      fixes = fixes;
    }

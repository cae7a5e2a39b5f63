-- Short words for the object modules of worked links.
use Rattle.std.specs.Prelude.{ℕ, Bool, false, List, Option, None}
use Rattle.lx_types.specs.declared.entry.EntryKey.{EntryKey}
use Rattle.obj_types.specs.declared.object.Seg.{Seg}
use Rattle.obj_types.specs.declared.object.Piece.{Piece}
use Rattle.obj_types.specs.declared.object.FixAt.{FixAt}
use Rattle.obj_types.specs.declared.object.Frame.{Frame}
use Rattle.obj_types.specs.declared.object.Goal.{Goal}
use Rattle.obj_types.specs.declared.symbol.Pub.{Pub}
use Rattle.obj_types.specs.declared.symbol.PubPlace.TheVariants as places
use Rattle.obj_types.specs.declared.symbol.Ext.{Ext}
use Rattle.obj_types.specs.declared.symbol.Imp.{Imp}
use Rattle.obj_types.specs.declared.symbol.Exp.{Exp}

abbrev pub seg : List ℕ → List ℕ → ℕ → ℕ → Bool → ℕ → Seg
seg name class align combine wide len =
    record { name = name; class = class; align = align; combine = combine; wide = wide; len = len; debug = false }

abbrev pub piece : ℕ → ℕ → List ℕ → Piece
piece seg offset bytes = record { seg = seg; offset = offset; bytes = bytes }

abbrev pub fix : ℕ → ℕ → ℕ → Bool → Frame → Goal → ℕ → FixAt
fix seg offset loc selfrel frame goal disp =
    record { seg = seg; offset = offset; loc = loc; selfrel = selfrel; frame = frame; goal = goal; disp = disp }

abbrev pub public : List ℕ → Bool → ℕ → ℕ → Pub
public name local seg offset = record { name = name; local = local; place = places.In seg offset }

abbrev pub constant : List ℕ → Bool → ℕ → Pub
constant name local value = record { name = name; local = local; place = places.Const value }

abbrev pub extern : List ℕ → Bool → Ext
extern name local = record { name = name; local = local; common = None }

abbrev pub import : List ℕ → List ℕ → EntryKey → Imp
import name from entry = record { name = name; «module» = from; entry = entry }

abbrev pub export : List ℕ → List ℕ → Option ℕ → Bool → ℕ → Exp
export name internal ordinal resident words =
    record { name = name; internal = internal; ordinal = ordinal; resident = resident; nodata = false; words = words }

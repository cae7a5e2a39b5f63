-- What the header and the name tables of a linked module have beside its objects and exports.
use Rattle.std.specs.Prelude.{ℕ, List, if◌then◌else◌, length, ◌==◌, unwrap_or}
use Rattle.lx_types.specs.Names.{uppercase}
use Rattle.link_model.specs.Link.{Link}
use Rattle.link_model.specs.Groups.{DGROUP}
use Rattle.link_model.specs.Goals.{object_of_group}

-- The name of NAME or LIBRARY, else the stem; in upper case, as all names of modules are written.
unfoldable pub module_name : Link → List ℕ
module_name l = uppercase (unwrap_or l.def.name l.stem)

-- The text of DESCRIPTION, in its own case, else the module's name.
unfoldable pub description : Link → List ℕ
description l = if length l.def.about == 0 then module_name l else l.def.about

-- The automatic data object: that of DGROUP, or 0 where no module declares that group or it has no members.
unfoldable pub auto_data : Link → ℕ
auto_data l = unwrap_or (object_of_group l DGROUP) 0

-- Where the modules of a session are from, and what their objects hold.
use Rattle.std.specs.Prelude.{List, map, Option, Some, None, slice_get}
use Rattle.lx_types.specs.declared.parts.Parts.{Parts}
use Rattle.lx_model.specs.Module.{parts_of}
use Rattle.link_model.specs.Link.{Link}
use Rattle.link_model.specs.Mean.{Mean}
use Rattle.image_model.specs.File.{file_of}
use Rattle.image_model.specs.Linked.{image_of}
use Rattle.image_model.specs.World.{world_of}
use Rattle.load_model.specs.Modules.{Library, Held, fixed_bytes}

-- A module is taken from a file, or the session builds it by a link.
pub data Source : Type 0 where
  taken : Parts → Source
  built : Link → Source

-- The module itself: that of the file, or of the file that the link writes.
abbrev pub module_from : Source → Parts
module_from (taken m) = m
module_from (built l) = parts_of (file_of (image_of l))

abbrev pub library_of : List Source → Library
library_of sources = map module_from sources

-- What the objects of a module hold where they stand. Of one that was built it is what the link means: the object files'
-- bytes, with each reference resolved by symbol. Of one that was taken it is what its file and its fixups give.
abbrev pub held_by : Option Source → Library → Held
held_by (Some (built l)) lib m bases object x = Mean l (world_of lib m bases) object x
held_by (Some (taken parts)) lib m bases object x = fixed_bytes lib m bases object x
held_by None lib m bases object x = fixed_bytes lib m bases object x

unfoldable pub held : List Source → Held
held sources m bases object x = held_by (slice_get sources m) (library_of sources) m bases object x

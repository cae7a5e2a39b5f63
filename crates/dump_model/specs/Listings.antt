-- The listing of a module that was read from a file.
use Rattle.std.specs.Prelude.{ℕ, length, map}
use Rattle.std.specs.List.{range_with_len}
use Rattle.lx_types.specs.Parts.{is_library_of, object_of, page_at}
use Rattle.lx_types.specs.declared.object.PageId.{PageId}
use Rattle.lx_types.specs.declared.parts.Parts.{Parts}
use Rattle.lx_model.specs.Fixed.{sources_of}
use Rattle.dump_model.specs.declared.listing.ListedObject.{ListedObject}
use Rattle.dump_model.specs.declared.listing.ListedPage.{ListedPage}
use Rattle.dump_model.specs.declared.listing.Listing.{Listing}

-- a page: its entry of the page table, and the sources of its fixup records
abbrev pub listed_page : Parts → PageId → ListedPage
listed_page m p = record { kind = (page_at m p).kind; at = (page_at m p).at; len = (page_at m p).len; fixes = sources_of m p }

-- page i of object k
abbrev pub page_id : ℕ → ℕ → PageId
page_id k i = record { object = k; page = i }

-- Object k, from 1. Its pages are those that its entry counts: some may lie past its size, and are never loaded.
abbrev pub listed_object : Parts → ℕ → ListedObject
listed_object m k = record {
  size = (object_of m k).size;
  base = (object_of m k).base;
  flags = (object_of m k).flags;
  pages = map (λ i. listed_page m (page_id k i)) (range_with_len 0 (object_of m k).count);
}

unfoldable pub listing_of : Parts → Listing
listing_of m = record {
  name = m.name;
  library = is_library_of m;
  flags = m.flags;
  start = m.start;
  objects = map (listed_object m) (range_with_len 1 (length m.objects));
  imports = m.imports;
  entries = m.entries;
  names = m.names;
}

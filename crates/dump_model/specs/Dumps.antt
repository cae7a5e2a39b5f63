-- The dump of a listing, what it means that bytes are a dump, and where bytes are none.
use Rattle.std.specs.Prelude.{◌≡◌, ℕ, zero, suc, ◌-◌, ◌<◌, ◌≤◌, ◌==◌, ◌⊎◌, List, [], ◌∷◌, ◌++◌, length, if◌then◌else◌}
use Rattle.std.specs.List.{flat_map, enumerate_from}
use Rattle.dump_model.specs.declared.listing.ListedObject.{ListedObject}
use Rattle.dump_model.specs.declared.listing.ListedPage.{ListedPage}
use Rattle.dump_model.specs.declared.listing.Listing.{Listing}
use Rattle.dump_model.specs.Lines.{module_line, object_line, page_line, fix_line, import_line, entry_line, name_line, end_line}
use Rattle.dump_model.specs.Bounds.{IsListing}

-- ---- the text

-- a page's line, and the lines of its fixups
unfoldable pub page_lines : ℕ → ℕ × ListedPage → List ℕ
page_lines k p = page_line k p.0 p.1 ++ flat_map (fix_line k p.0) p.1.fixes

-- an object's line, and those of its pages
unfoldable pub object_lines : ℕ × ListedObject → List ℕ
object_lines o = object_line o.0 o.1 ++ flat_map (page_lines o.0) (enumerate_from 0 o.1.pages)

abbrev pub numbered_import_line : ℕ × List ℕ → List ℕ
numbered_import_line i = import_line i.0 i.1

-- The module, its objects with their pages and fixups, its import modules, its entries, its names, and the end.
unfoldable pub Dump : Listing → List ℕ
Dump l =
    module_line l
    ++ (flat_map object_lines (enumerate_from 1 l.objects)
    ++ (flat_map numbered_import_line (enumerate_from 1 l.imports) ++ (flat_map entry_line l.entries ++ (flat_map name_line l.names ++ end_line))))

-- ---- its reading

-- Bytes are the dump of a listing whose numbers and names are in range.
pub record IsDump (bytes : List ℕ) (l : Listing) : Type 0 where
  pub bounds : IsListing l
  pub text : bytes ≡ Dump l

-- Some dump begins with these bytes.
pub record BeginsDump (bytes : List ℕ) : Type 0 where
  pub listing : Listing
  pub rest : List ℕ
  pub dump : IsDump (bytes ++ rest) listing

-- the first lines of bytes, each with its end, which the last may lack
abbrev pub first_lines : ℕ → List ℕ → List ℕ
first_lines zero bytes = []
first_lines (suc n) [] = []
first_lines (suc n) (b ∷ bytes) = b ∷ first_lines (if b == 0x0A then n else suc n) bytes

-- Line `line`, from 1, is the first with which no dump begins, or the one after the last where a dump begins with all of
-- the bytes, which then lack something.
pub record RefusesAt (bytes : List ℕ) (line : ℕ) : Type 0 where
  pub none : (l : Listing) → IsDump bytes l → ⊥
  pub from_one : 1 ≤ line
  pub before : BeginsDump (first_lines (line - 1) bytes)
  pub first : (first_lines (line - 1) bytes ≡ bytes) ⊎ (BeginsDump (first_lines line bytes) → ⊥)
  -- no earlier line is after the last
  pub some : 2 ≤ line → length (first_lines (line - 2) bytes) < length bytes

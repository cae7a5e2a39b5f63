-- Worked values: dumps and their lines, as they are to be printed.
use Rattle.std.specs.Prelude.{◌≡◌, ℕ, true, false, List, [], ◌∷◌, ◌++◌, codes, None, pos, negsuc}
use Rattle.lx_types.specs.declared.object.PageKind.{PageKind}
use Rattle.lx_types.specs.declared.object.PageKind.TheVariants as kinds
use Rattle.lx_types.specs.declared.fix.Source.TheVariants as sources
use Rattle.lx_types.specs.declared.fix.FixTarget.TheVariants as targets
use Rattle.lx_types.specs.declared.entry.EntryHead.TheVariants as heads
use Rattle.lx_types.specs.declared.entry.FwdKey.TheVariants as keys
use Rattle.dump_model.specs.declared.listing.Listing.{Listing}
use Rattle.dump_model.specs.declared.listing.ListedPage.{ListedPage}
use Rattle.dump_model.specs.Lines.{name_word, page_line, fix_line, import_line, entry_line, name_line}
use Rattle.dump_model.specs.Dumps.{Dump}

-- a text, and the end of its line
abbrev ln : List ℕ → List ℕ
ln text = text ++ 0x0A ∷ []

-- ---- a library with one page of zeros, in which the address of its own start stands

abbrev its_page : ListedPage
its_page = record {
  kind = kinds.Zero;
  at = 0;
  len = 0;
  fixes = record { source = sources.Off32; alias = false; offset = pos 4; target = targets.Internal 1 0; additive = 0 } ∷ [];
}

abbrev library : Listing
library = record {
  name = codes "D";
  library = true;
  flags = 0x8000;
  start = None;
  objects = record { size = 8; base = 0x10000000; flags = 0x2005; pages = its_page ∷ [] } ∷ [];
  imports = [];
  entries = [];
  names = [];
}

abbrev pub WorkedDump : Type 0
WorkedDump =
    Dump library
    ≡ ln (codes "module D library flags 00008000 start none")
    ++ ln (codes "object 1 size 8 base 10000000 flags 00002005 pages 1")
    ++ ln (codes "page 1 0 zero")
    ++ ln (codes "fix 1 0 4 off32 internal 1 0 add 0")
    ++ ln (codes "end")

-- ---- a line of each kind

abbrev page : PageKind → ListedPage
page kind = record { kind = kind; at = 512; len = 77; fixes = [] }

pub record WorkedLines : Type 0 where
  pub plain : page_line 2 3 (page kinds.Plain) ≡ ln (codes "page 2 3 plain 512 77")
  pub iterated : page_line 2 3 (page kinds.Iterated) ≡ ln (codes "page 2 3 iterated 512 77")
  pub invalid : page_line 2 3 (page kinds.Invalid) ≡ ln (codes "page 2 3 invalid")
  pub alias : fix_line 1 0 (record { source = sources.Far16; alias = true; offset = negsuc 1; target = targets.Ordinal 2 7; additive = 5 })
      ≡ ln (codes "fix 1 0 -2 far16 alias ordinal 2 7 add 5")
  pub named : fix_line 1 0 (record { source = sources.Self32; alias = false; offset = pos 0; target = targets.Named 2 7; additive = 0 })
      ≡ ln (codes "fix 1 0 0 self32 name 2 7 add 0")
  pub own : fix_line 1 0 (record { source = sources.Byte; alias = false; offset = pos 10; target = targets.Own 3; additive = 0 })
      ≡ ln (codes "fix 1 0 10 byte own 3 add 0")
  pub import : import_line 1 (codes "DOSCALLS") ≡ ln (codes "import 1 DOSCALLS")
  pub at : entry_line (1, heads.At 2 16) ≡ ln (codes "entry 1 at 2 16")
  pub gate : entry_line (2, heads.Gate286 2 16) ≡ ln (codes "entry 2 gate 2 16")
  pub by_ordinal : entry_line (3, heads.Forward 1 (keys.Ordinal 9)) ≡ ln (codes "entry 3 forward 1 ordinal 9")
  pub by_name : entry_line (4, heads.Forward 1 (keys.NameAt 0)) ≡ ln (codes "entry 4 forward 1 name 0")
  pub name : name_line (codes "f", 1) ≡ ln (codes "name f 1")

-- ---- names

pub record WorkedNames : Type 0 where
  pub empty : name_word [] ≡ codes "%"
  pub percent : name_word (codes "%") ≡ codes "%25"
  pub blank : name_word (codes "a b") ≡ codes "a%20b"
  pub end : name_word (0x0A ∷ 0xFF ∷ []) ≡ codes "%0A%FF"

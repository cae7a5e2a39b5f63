-- Patches and records, tried on small inputs: each line is a value that the rules give by hand.
use Rattle.std.specs.Prelude.{◌≡◌, ℕ, ℤ, pos, negsuc, true, false, List, [], ◌∷◌, Some, None, refl, codes}
use Rattle.lx_types.specs.declared.entry.EntryKey.TheVariants as keys
use Rattle.lx_types.specs.declared.fix.Fix.{Fix}
use Rattle.lx_types.specs.declared.fix.Source.{Source}
use Rattle.lx_types.specs.declared.fix.Source.TheVariants.{Sel, Far16, Off32, Self32}
use Rattle.lx_types.specs.declared.fix.FixTarget.{FixTarget}
use Rattle.lx_types.specs.declared.fix.FixTarget.TheVariants as leads
use Rattle.obj_types.specs.declared.object.Frame.TheVariants as frames
use Rattle.obj_types.specs.declared.object.Goal.TheVariants as goals
use Rattle.obj_types.specs.declared.object.ObjModule.{ObjModule}
use Rattle.obj_types.specs.declared.definition.DefFile.{DefFile}
use Rattle.obj_types.specs.declared.definition.ModKind.TheVariants.{Library}
use Rattle.obj_types.specs.Fresh.{empty_module}
use Rattle.link_model.specs.Link.{Link}
use Rattle.link_model.specs.Patches.{object_bytes}
use Rattle.link_model.specs.ImportTables.{used_pairs, link_pairs, modules_in, procs_in, name_table, with_offset}
use Rattle.link_model.specs.Records.{object_records, page_records}
use Rattle.link_model.specs.Header.{module_name, description}
use Rattle.obj_types.specs.Defaults.{default_def}
use Rattle.link_model.proofs.Rules.{rules}
use Rattle.link_model.proofs.Samples.{linked, fix, constant, extern, export, import, code32, data32, code16, code_module}

abbrev library : List ObjModule → Link
library modules = linked (default_def Library None) modules

abbrev plain : Source → ℤ → FixTarget → ℕ → Fix
plain source offset target additive = record { source = source; alias = false; offset = offset; target = target; additive = additive }

-- ---- patches

-- A call within the object is patched and has no record.
abbrev call : Link
call =
    library (record (code_module (0xE8 ∷ 0 ∷ 0 ∷ 0 ∷ 0 ∷ []) (fix 1 1 9 true frames.Here (goals.Seg 1) 3 ∷ [])) { segs = code32 6 ∷ [] } ∷ [])

call_bytes : object_bytes call ≡ (0xE8 ∷ 0xFE ∷ 0xFF ∷ 0xFF ∷ 0xFF ∷ 0 ∷ []) ∷ []
unfolding rules
call_bytes = refl

call_records : object_records call ≡ ([] ∷ []) ∷ []
unfolding rules
call_records = refl

-- A constant is patched, with what stands there.
abbrev to_constant : Link
to_constant =
    library (record (code_module (1 ∷ 0 ∷ 0 ∷ 0 ∷ []) (fix 1 0 9 false frames.OfTarget (goals.Ext 1) 0x100 ∷ [])) { pubs = constant (codes "k") 5 ∷ []; exts = extern (codes "k") ∷ [] } ∷ [])

constant_bytes : object_bytes to_constant ≡ (6 ∷ 1 ∷ 0 ∷ 0 ∷ []) ∷ []
unfolding rules
constant_bytes = refl

-- ---- records

-- Zeros stand where a record's field is; what stood there is in the target.
abbrev to_itself : Link
to_itself = library (code_module (7 ∷ 0 ∷ 0 ∷ 0 ∷ 8 ∷ 0 ∷ 0 ∷ 0 ∷ []) (fix 1 4 9 false (frames.Group 1) (goals.Seg 1) 0 ∷ []) ∷ [])

itself_bytes : object_bytes to_itself ≡ (7 ∷ 0 ∷ 0 ∷ 0 ∷ 0 ∷ 0 ∷ 0 ∷ 0 ∷ []) ∷ []
unfolding rules
itself_bytes = refl

itself_records : object_records to_itself ≡ ((plain Off32 (pos 4) (leads.Internal 1 8) 0 ∷ []) ∷ []) ∷ []
unfolding rules
itself_records = refl

-- A field that crosses a page's end has a record on both pages.
abbrev crossing : Link
crossing =
    library (record empty_module { segs = code32 8192 ∷ []; fixes = fix 1 4094 9 false frames.OfTarget (goals.Seg 1) 0 ∷ [] } ∷ [])

first_page : page_records crossing 1 0 ≡ plain Off32 (pos 4094) (leads.Internal 1 0) 0 ∷ []
unfolding rules
first_page = refl

second_page : page_records crossing 1 1 ≡ plain Off32 (negsuc 1) (leads.Internal 1 0) 0 ∷ []
unfolding rules
second_page = refl

-- A call of another object is a self-relative record.
abbrev far_call : Link
far_call =
    library (record empty_module { segs = code32 5 ∷ data32 8 ∷ []; fixes = fix 1 1 9 true frames.Here (goals.Seg 2) 4 ∷ [] } ∷ [])

far_call_records : page_records far_call 1 0 ≡ plain Self32 (pos 1) (leads.Internal 2 4) 0 ∷ []
unfolding rules
far_call_records = refl

-- 16:16 pointers and selectors of a 16-bit segment are the alias's; a selector has no offset, and an additive from
-- 64 KiB on.
abbrev selectors : Link
selectors =
    library
    (record empty_module { segs = code16 (codes "A") 8 ∷ code32 0x30000 ∷ []; fixes = fix 1 0 3 false frames.OfTarget (goals.Seg 1) 2 ∷ fix 1 4 2 false frames.OfTarget (goals.Seg 2) 0xFFFF ∷ fix 2 0 2 false frames.OfTarget (goals.Seg 2) 0x10000 ∷ [] } ∷ [])

alias_records :
    page_records selectors 1 0 ≡ record (plain Far16 (pos 0) (leads.Internal 1 2) 0) { alias = true } ∷ record (plain Sel (pos 4) (leads.Internal 2 0) 0) { alias = true } ∷ []
unfolding rules
alias_records = refl

flat_records : page_records selectors 2 0 ≡ plain Sel (pos 0) (leads.Internal 2 0) 0x10000 ∷ []
unfolding rules
flat_records = refl

-- ---- imports

-- Modules and procedure names stand in order of first use, and what no fixup names has no place. The additive has
-- the displacement and what stands there.
abbrev importing : Link
importing =
    library
    (record (code_module (4 ∷ 0 ∷ 0 ∷ 0 ∷ []) (fix 1 0 9 false frames.OfTarget (goals.Ext 3) 1 ∷ fix 1 4 9 false frames.OfTarget (goals.Ext 1) 0 ∷ [])) {
      segs = code32 8 ∷ [];
      exts = extern (codes "a") ∷ extern (codes "b") ∷ extern (codes "c") ∷ [];
      imports = import (codes "a") (codes "One") (keys.Named (codes "Proc")) ∷ import (codes "b") (codes "Two") (keys.Ordinal 2) ∷ import (codes "c") (codes "Three") (keys.Ordinal 3) ∷ [];
    } ∷ [])

import_records :
    page_records importing 1 0 ≡ plain Off32 (pos 0) (leads.Ordinal 1 3) 5 ∷ plain Off32 (pos 4) (leads.Named 2 0) 0 ∷ []
unfolding rules
import_records = refl

import_modules : modules_in (used_pairs importing) ≡ codes "THREE" ∷ codes "ONE" ∷ []
unfolding rules
import_modules = refl

import_procs : procs_in (used_pairs importing) ≡ codes "Proc" ∷ []
unfolding rules
import_procs = refl

-- Forwarders use import pairs too, after the records.
abbrev forwarding : Link
forwarding =
    library
    (record (code_module (0 ∷ 0 ∷ 0 ∷ 0 ∷ []) (fix 1 0 9 false frames.OfTarget (goals.Ext 1) 0 ∷ [])) {
      exts = extern (codes "a") ∷ [];
      imports = import (codes "a") (codes "One") (keys.Ordinal 1) ∷ import (codes "b") (codes "Two") (keys.Ordinal 2) ∷ [];
      exports = export (codes "B") (codes "b") None ∷ [];
    } ∷ [])

forwarder_modules : modules_in (link_pairs forwarding) ≡ codes "ONE" ∷ codes "TWO" ∷ []
unfolding rules
forwarder_modules = refl

-- ---- names

-- A name's place in the table of procedure names, which begins with an empty one.
two_names : name_table (codes "One" ∷ codes "Second" ∷ []) ≡ 0 ∷ 3 ∷ 79 ∷ 110 ∷ 101 ∷ 6 ∷ 83 ∷ 101 ∷ 99 ∷ 111 ∷ 110 ∷ 100 ∷ []
unfolding rules
two_names = refl

second_offset : with_offset (codes "One" ∷ codes "Second" ∷ []) (leads.Named 2 1) ≡ leads.Named 2 5
unfolding rules
second_offset = refl

-- The stem names the module in upper case, and the name describes it, where the definition file does neither.
abbrev named : DefFile → Link
named def = record (linked def []) { stem = codes "stem" }

named_by_stem : module_name (named (default_def Library None)) ≡ codes "STEM"
unfolding rules
named_by_stem = refl

described_by_name : description (named (default_def Library None)) ≡ codes "STEM"
unfolding rules
described_by_name = refl

named_by_library : module_name (named (record (default_def Library None) { name = Some (codes "Lib") })) ≡ codes "LIB"
unfolding rules
named_by_library = refl

described : description (named (record (default_def Library None) { about = codes "Text" })) ≡ codes "Text"
unfolding rules
described = refl

-- Values and bytes, tried on small inputs: each line is a value that the rules give by hand.
use Rattle.std.specs.Prelude.{◌≡◌, ℕ, true, false, List, [], ◌∷◌, Some, None, refl, codes, map, if◌then◌else◌, bytes_eq}
use Rattle.std.specs.List.{range_with_len}
use Rattle.lx_types.specs.declared.entry.EntryKey.TheVariants.{Ordinal}
use Rattle.obj_types.specs.declared.object.FixAt.{FixAt}
use Rattle.obj_types.specs.declared.object.Frame.TheVariants as frames
use Rattle.obj_types.specs.declared.object.Goal.TheVariants as goals
use Rattle.obj_types.specs.declared.object.ObjModule.{ObjModule}
use Rattle.obj_types.specs.declared.definition.ModKind.TheVariants.{Program, Library}
use Rattle.obj_types.specs.Fresh.{empty_module}
use Rattle.link_model.specs.declared.refusals.FixRefusal.TheVariants.{FarSelf, FrameApart, ConstSelector, StartOutside}
use Rattle.link_model.specs.Link.{Link}
use Rattle.link_model.specs.Layout.{objects}
use Rattle.link_model.specs.Fixups.{fixups}
use Rattle.link_model.specs.Value.{World}
use Rattle.link_model.specs.Mean.{live_fixups, Mean}
use Rattle.link_model.specs.Start.{Start}
use Rattle.link_model.specs.Refusal.{place_refusal}
use Rattle.obj_types.specs.Defaults.{default_def}
use Rattle.link_model.proofs.Rules.{rules}
use Rattle.link_model.proofs.Samples.{linked, piece, fix, at_bases, constant, extern, import, code32, data32, code16, common32, code_module}

abbrev library : List ObjModule → Link
library modules = linked (default_def Library None) modules

abbrev linked_bases : Link → List ℕ
linked_bases l = map (λ o. o.base) (objects l)

-- The first n bytes of an object at the linked bases.
abbrev bytes : Link → ℕ → ℕ → List ℕ
bytes l object n = map (Mean l (at_bases (linked_bases l)) object) (range_with_len 0 n)

-- ---- one segment

-- Its own address, plus what stands there.
abbrev to_itself : ℕ → FixAt
to_itself offset = fix 1 offset 9 false (frames.Group 1) (goals.Seg 1) 0

first_path : bytes (library (code_module (0 ∷ 0 ∷ 0 ∷ 0 ∷ 0 ∷ 0 ∷ 0 ∷ 0 ∷ []) (to_itself 4 ∷ []) ∷ [])) 1 8 ≡ 0 ∷ 0 ∷ 0 ∷ 0 ∷ 0 ∷ 0 ∷ 0 ∷ 0x10 ∷ []
unfolding rules
first_path = refl

with_8_standing : bytes (library (code_module (0 ∷ 0 ∷ 0 ∷ 0 ∷ 8 ∷ 0 ∷ 0 ∷ 0 ∷ []) (to_itself 4 ∷ []) ∷ [])) 1 8 ≡ 0 ∷ 0 ∷ 0 ∷ 0 ∷ 8 ∷ 0 ∷ 0 ∷ 0x10 ∷ []
unfolding rules
with_8_standing = refl

-- A call of offset 20h of its own segment.
abbrev call : Link
call =
    library (record (code_module (0xE8 ∷ 0 ∷ 0 ∷ 0 ∷ 0 ∷ []) (fix 1 1 9 true frames.Here (goals.Seg 1) 0x20 ∷ [])) { segs = code32 0x30 ∷ [] } ∷ [])

call_bytes : bytes call 1 5 ≡ 0xE8 ∷ 0x1B ∷ 0 ∷ 0 ∷ 0 ∷ []
unfolding rules
call_bytes = refl

-- ---- far pointers

-- A 16:16 pointer from one 16-bit segment to offset 10h of another, in a program.
abbrev far_pointer : Link
far_pointer =
    linked (default_def Program None)
    (record empty_module { segs = code16 (codes "A") 4 ∷ code16 (codes "B") 0x20 ∷ []; fixes = fix 1 0 3 false frames.OfTarget (goals.Seg 2) 0x10 ∷ [] } ∷ [])

pointer_bytes : bytes far_pointer 1 4 ≡ 0x10 ∷ 0 ∷ 0x17 ∷ 0 ∷ []
unfolding rules
pointer_bytes = refl

-- 16:32 pointers into wide objects have the flat selectors: 5Bh for code, 53h for data.
abbrev flat_pointers : Link
flat_pointers =
    library
    (record empty_module { segs = code32 12 ∷ data32 4 ∷ []; fixes = fix 1 0 11 false frames.OfTarget (goals.Seg 1) 1 ∷ fix 1 6 11 false frames.OfTarget (goals.Seg 2) 2 ∷ [] } ∷ [])

flat_bytes : bytes flat_pointers 1 12 ≡ 1 ∷ 0 ∷ 0 ∷ 0x10 ∷ 0x5B ∷ 0 ∷ 2 ∷ 0 ∷ 1 ∷ 0x10 ∷ 0x53 ∷ 0 ∷ []
unfolding rules
flat_bytes = refl

-- ---- imports: they lead to 10000h here

abbrev imported : Link
imported =
    library
    (record (code_module (1 ∷ 0 ∷ 0 ∷ 0 ∷ []) (fix 1 0 9 false frames.OfTarget (goals.Ext 1) 4 ∷ [])) { exts = extern (codes "f") ∷ []; imports = import (codes "f") (codes "LIB") (Ordinal 1) ∷ [] } ∷ [])

imported_bytes : bytes imported 1 4 ≡ 5 ∷ 0 ∷ 1 ∷ 0 ∷ []
unfolding rules
imported_bytes = refl

-- A world is asked by the module's name in upper case, however a module spells it.
abbrev with_lib : World
with_lib =
    record { bases = 0x10000000 ∷ []; imp = λ from entry. if bytes_eq from (codes "LIB") then record { address = 0x20000; flags = 0x2005 } else record { address = 0; flags = 0 } }

abbrev spelled : List ℕ → Link
spelled from =
    library
    (record (code_module (0 ∷ 0 ∷ 0 ∷ 0 ∷ []) (fix 1 0 9 false frames.OfTarget (goals.Ext 1) 0 ∷ [])) { exts = extern (codes "f") ∷ []; imports = import (codes "f") from (Ordinal 1) ∷ [] } ∷ [])

lower_case : map (Mean (spelled (codes "lib")) with_lib 1) (range_with_len 0 4) ≡ 0 ∷ 0 ∷ 2 ∷ 0 ∷ []
unfolding rules
lower_case = refl

mixed_case : map (Mean (spelled (codes "Lib")) with_lib 1) (range_with_len 0 4) ≡ 0 ∷ 0 ∷ 2 ∷ 0 ∷ []
unfolding rules
mixed_case = refl

-- ---- live fixups

-- Two modules fix one common block; they overlap, so the later one is live, and where only the earlier one was the
-- data stands.
abbrev shared : List ℕ → ℕ → ObjModule
shared data_there offset =
    record empty_module { segs = common32 8 ∷ []; pieces = piece 1 0 data_there ∷ []; fixes = fix 1 offset 9 false frames.OfTarget (goals.Seg 1) 0x44 ∷ [] }

abbrev overlapping : Link
overlapping = library (shared (1 ∷ 2 ∷ 3 ∷ 4 ∷ []) 0 ∷ shared (5 ∷ []) 2 ∷ [])

two_fixups : map (λ q. q.by) (fixups overlapping) ≡ 1 ∷ 2 ∷ []
unfolding rules
two_fixups = refl

later_is_live : map (λ q. q.by) (live_fixups overlapping) ≡ 2 ∷ []
unfolding rules
later_is_live = refl

overlapping_bytes : bytes overlapping 1 8 ≡ 5 ∷ 2 ∷ 0x44 ∷ 0 ∷ 0 ∷ 0x10 ∷ 0 ∷ 0 ∷ []
unfolding rules
overlapping_bytes = refl

-- ---- refusals

abbrev refused : FixAt → List ObjModule
refused f = record empty_module { segs = code32 0x1000 ∷ data32 8 ∷ []; pubs = constant (codes "k") 5 ∷ []; exts = extern (codes "k") ∷ []; fixes = f ∷ [] } ∷ []

far_self : place_refusal (library (refused (fix 1 0 0 true frames.Here (goals.Seg 1) 129))) ≡ Some (FarSelf 1 1 0)
unfolding rules
far_self = refl

near_self : place_refusal (library (refused (fix 1 0 0 true frames.Here (goals.Seg 1) 128))) ≡ None
unfolding rules
near_self = refl

near_back : place_refusal (library (refused (fix 1 0x100 0 true frames.Here (goals.Seg 1) 0x81))) ≡ None
unfolding rules
near_back = refl

far_back : place_refusal (library (refused (fix 1 0x100 0 true frames.Here (goals.Seg 1) 0x80))) ≡ Some (FarSelf 1 1 0x100)
unfolding rules
far_back = refl

other_object : place_refusal (library (refused (fix 1 4 1 true frames.Here (goals.Seg 2) 0))) ≡ Some (FarSelf 1 1 4)
unfolding rules
other_object = refl

self_to_constant : place_refusal (library (refused (fix 1 4 9 true frames.Here (goals.Ext 1) 0))) ≡ Some (FarSelf 1 1 4)
unfolding rules
self_to_constant = refl

frame_apart : place_refusal (library (refused (fix 1 4 5 false (frames.Seg 1) (goals.Seg 2) 0))) ≡ Some (FrameApart 1 1 4)
unfolding rules
frame_apart = refl

wide_never_apart : place_refusal (library (refused (fix 1 4 9 false (frames.Seg 1) (goals.Seg 2) 0))) ≡ None
unfolding rules
wide_never_apart = refl

const_selector : place_refusal (library (refused (fix 1 4 2 false frames.OfTarget (goals.Ext 1) 0))) ≡ Some (ConstSelector 1 1 4)
unfolding rules
const_selector = refl

-- ---- the start

abbrev starts_at : ℕ → Link
starts_at disp =
    library
    (empty_module ∷ record empty_module { segs = code32 8 ∷ []; start = Some (record { frame = frames.OfTarget; goal = goals.Seg 1; disp = disp }) } ∷ [])

start : Start (starts_at 7) ≡ Some (1, 7)
unfolding rules
start = refl

start_outside : place_refusal (starts_at 8) ≡ Some (StartOutside 2)
unfolding rules
start_outside = refl

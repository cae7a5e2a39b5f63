-- That nothing is dropped, computed on a small input: a 32-bit code segment, a 16-bit segment and a debug segment, one
-- external of each kind, and fixups to all of them.
use Rattle.std.specs.Prelude.{◌≡◌, ℕ, pos, true, false, List, [], ◌∷◌, Some, None, map, length, is_some, refl, codes}
use Rattle.lx_types.specs.declared.entry.EntryKey.TheVariants as keys
use Rattle.obj_types.specs.declared.object.Frame.TheVariants as frames
use Rattle.obj_types.specs.declared.object.Goal.TheVariants as goals
use Rattle.obj_types.specs.declared.object.FixAt.{FixAt}
use Rattle.obj_types.specs.declared.object.ObjModule.{ObjModule}
use Rattle.obj_types.specs.declared.definition.ModKind.TheVariants.{Library}
use Rattle.obj_types.specs.Fresh.{empty_module}
use Rattle.link_model.specs.Link.{Link, externals}
use Rattle.link_model.specs.Symbols.{Sym}
use Rattle.link_model.specs.Layout.{objects, spot, common_spot}
use Rattle.link_model.specs.Fixups.{fixups}
use Rattle.link_model.specs.Value.{value_bytes}
use Rattle.link_model.specs.Mean.{pieces, Mean}
use Rattle.link_model.specs.Records.{page_records}
use Rattle.link_model.specs.Exports.{Out}
use Rattle.link_model.specs.Refusal.{link_refusal}
use Rattle.obj_types.specs.Defaults.{default_def}
use Rattle.link_model.proofs.Rules.{rules}
use Rattle.link_model.proofs.Samples.{linked, seg, piece, fix, at_bases, public, constant, extern, comdef, import, export, code32, code16}

abbrev debug_segment : ObjModule
debug_segment = record empty_module { segs = record (seg (codes "$$TYPES") (codes "DEBTYP") 1 0 true 9) { debug = true } ∷ code16 (codes "B") 6 ∷ [] }

abbrev fixes : List FixAt
fixes =
    fix 1 0 9 false frames.OfTarget (goals.Ext 1) 0 ∷ fix 1 4 9 false frames.OfTarget (goals.Ext 2) 0 ∷ fix 1 8 9 false frames.OfTarget (goals.Ext 3) 0
    ∷ fix 1 12 9 false frames.OfTarget (goals.Ext 4) 0 ∷ fix 1 16 1 false frames.OfTarget (goals.Group 1) 0 ∷ fix 1 18 3 false frames.OfTarget (goals.Seg 1) 0 ∷ []

abbrev of_all_kinds : Link
of_all_kinds =
    linked (default_def Library None)
    (record empty_module {
      segs = code32 24 ∷ [];
      groups = record { name = codes "FLAT"; members = [] } ∷ [];
      pubs = constant (codes "k") 5 ∷ public (codes "p") 1 2 ∷ [];
      exts = extern (codes "k") ∷ extern (codes "p") ∷ extern (codes "i") ∷ comdef (codes "c") false 12 ∷ [];
      pieces = piece 1 0 (1 ∷ 1 ∷ 1 ∷ 1 ∷ []) ∷ piece 1 22 (0 ∷ 0 ∷ []) ∷ [];
      fixes = fixes;
      imports = import (codes "i") (codes "LIB") (keys.Ordinal 1) ∷ [];
      exports = export (codes "P") (codes "p") None ∷ export (codes "I") (codes "i") None ∷ export (codes "C") (codes "c") (Some 1) ∷ [];
    } ∷ debug_segment ∷ [])

is_accepted : link_refusal of_all_kinds ≡ None
unfolding rules
is_accepted = refl

externals_mean : map (λ q. is_some (Sym of_all_kinds q.0 q.1)) (externals of_all_kinds) ≡ true ∷ true ∷ true ∷ true ∷ []
unfolding rules
externals_mean = refl

-- The second object has the 16-bit segment alone, the third the communal.
sizes : map (λ o. o.size) (objects of_all_kinds) ≡ 24 ∷ 6 ∷ 12 ∷ []
unfolding rules
sizes = refl

segments_stand : spot of_all_kinds 1 1 ∷ spot of_all_kinds 2 2 ∷ common_spot of_all_kinds 0 ∷ [] ≡ Some (1, 0) ∷ Some (2, 0) ∷ Some (3, 0) ∷ []
unfolding rules
segments_stand = refl

-- A debug segment has no spot.
debug_has_none : spot of_all_kinds 2 1 ≡ None
unfolding rules
debug_has_none = refl

fixups_stay : map (λ q. q.fix) (fixups of_all_kinds) ≡ fixes
unfolding rules
fixups_stay = refl

data_stays : map (λ p. p.bytes) (pieces of_all_kinds) ≡ (1 ∷ 1 ∷ 1 ∷ 1 ∷ []) ∷ (0 ∷ 0 ∷ []) ∷ []
unfolding rules
data_stays = refl

-- The constant and the offset in FLAT are patched; each other fixup has a record.
records_stay : map (λ r. r.offset) (page_records of_all_kinds 1 0) ≡ pos 4 ∷ pos 8 ∷ pos 12 ∷ pos 18 ∷ []
unfolding rules
records_stay = refl

values_fit : map (λ q. length (value_bytes of_all_kinds (at_bases (0x10000 ∷ 0x20000 ∷ 0x30000 ∷ [])) q)) (fixups of_all_kinds) ≡ 4 ∷ 4 ∷ 4 ∷ 4 ∷ 2 ∷ 4 ∷ []
unfolding rules
values_fit = refl

exports_stay : map {B = ℕ × List ℕ} (λ x. (x.ordinal, x.name)) (Out of_all_kinds) ≡ (2, codes "P") ∷ (3, codes "I") ∷ (1, codes "C") ∷ []
unfolding rules
exports_stay = refl

-- The bytes of each live fixup, at other bases than the linked ones: 5 and what stands there, the public, the import,
-- the communal, 0, and a tiled pointer.
live_bytes : map (λ x. Mean of_all_kinds (at_bases (0x10000 ∷ 0x20000 ∷ 0x30000 ∷ [])) 1 x) (0 ∷ 1 ∷ 4 ∷ 6 ∷ 10 ∷ 14 ∷ 16 ∷ 18 ∷ 20 ∷ []) ≡ 6 ∷ 1 ∷ 2 ∷ 1 ∷ 1 ∷ 3 ∷ 0 ∷ 0 ∷ 15 ∷ []
unfolding rules
live_bytes = refl

-- Nothing is dropped silently: of a whole input without refusal each external, segment, fixup and export is there.
--
-- `fixups`, `pieces` and `Out` leave out what has no place, and `Mean` has the data where a value is missing. These
-- laws say that none is left out and none is missing.
use Rattle.std.specs.Prelude.{◌≡◌, ℕ, ◌+◌, ◌-◌, ◌<◌, ◌≤◌, false, List, Some, None, IsSome, map, filter, length, slice_get, slice_index}
use Rattle.std.specs.List.{All, Contains, flat_map}
use Rattle.std.specs.Option.{IsSomeAnd}
use Rattle.obj_types.specs.declared.object.ObjModule.{ObjModule}
use Rattle.obj_types.specs.declared.object.Seg.{Seg}
use Rattle.obj_types.specs.declared.symbol.Common.{Common}
use Rattle.obj_types.specs.declared.input.LinkInput.{LinkInput}
use Rattle.obj_types.specs.Items.{item}
use Rattle.obj_types.specs.Location.{location_len}
use Rattle.obj_types.specs.Whole.{WholeModule}
use Rattle.obj_types.specs.Input.{WholeInput}
use Rattle.link_model.specs.declared.symbols.Pick.{Pick}
use Rattle.link_model.specs.Link.{Link, link_of, chosen_module, externals, exports}
use Rattle.link_model.specs.Symbols.{Sym, commons}
use Rattle.link_model.specs.SymbolRefusals.{sym_refusal}
use Rattle.link_model.specs.Layout.{objects, spot, common_spot}
use Rattle.link_model.specs.Fixups.{Fixup, fixups}
use Rattle.link_model.specs.Value.{World, value_bytes, Value}
use Rattle.link_model.specs.Mean.{fixup_end, live_fixups, pieces, Mean}
use Rattle.link_model.specs.Exports.{asked_ordinals, ordinals, Out}
use Rattle.link_model.specs.Refusal.{place_refusal}
use Rattle.link_model.specs.Patches.{recorded}
use Rattle.link_model.specs.Records.{offset_on, stands_on, page_records}

-- The chosen modules are whole, as the readers of object files make sure.
abbrev pub WholeLink : Link → Type 0
WholeLink l = All WholeModule l.modules

abbrev pub ChosenAreWhole : Type 0
ChosenAreWhole = (input : LinkInput) (picks : List Pick) → WholeInput input → WholeLink (link_of input picks)

-- Each external has a meaning.
abbrev pub ExternalsMean : Type 0
ExternalsMean = (l : Link) → sym_refusal l ≡ None → All (λ q. IsSome (Sym l q.0 q.1)) (externals l)

-- So many bytes from a place on lie in its object.
abbrev pub LiesInObject : Link → ℕ → ℕ × ℕ → Type 0
LiesInObject l len q = IsSomeAnd (item (objects l) q.0) (λ o. q.1 + len ≤ o.size)

-- Each segment outside debug and each communal stands in an object, and all of it lies there.
abbrev pub SegmentsStand : Type 0
SegmentsStand =
    (l : Link) (n index : ℕ) (m : ObjModule) (s : Seg) → chosen_module l n ≡ Some m → item m.segs index ≡ Some s
    → s.debug ≡ false → IsSomeAnd (spot l n index) (LiesInObject l s.len)

abbrev pub CommunalsStand : Type 0
CommunalsStand =
    (l : Link) (slot : ℕ) (c : List ℕ × Common) → slice_get (commons l) slot ≡ Some c
    → IsSomeAnd (common_spot l slot) (LiesInObject l c.1.len)

-- All fixups of the chosen modules are there, in chosen order and in file order.
abbrev pub FixupsStay : Type 0
FixupsStay =
    (l : Link) → WholeLink l → sym_refusal l ≡ None → map (λ q. q.fix) (fixups l) ≡ flat_map (λ m. m.fixes) l.modules

-- So is all their data.
abbrev pub PiecesStay : Type 0
PiecesStay =
    (l : Link) → WholeLink l → map (λ p. p.bytes) (pieces l) ≡ flat_map (λ m. map (λ p. p.bytes) m.pieces) l.modules

-- A value has as many bytes as its location.
abbrev pub ValuesFit : Type 0
ValuesFit =
    (l : Link) (w : World) (q : Fixup) (bytes : List ℕ) → 0 < location_len q.fix.loc
    → Value l w q ≡ Some bytes → length bytes ≡ location_len q.fix.loc

-- The bytes of a live fixup's location are those of its value.
abbrev pub LiveFixupsMean : Type 0
LiveFixupsMean =
    (l : Link) (w : World) (q : Fixup) (x : ℕ) → place_refusal l ≡ None → Contains (live_fixups l) q
    → q.offset ≤ x → x < fixup_end q
    → Mean l w q.object x ≡ slice_index (value_bytes l w q) (x - q.offset)

-- Each live fixup that is not patched has a record on each page on which it stands, in order.
abbrev pub RecordsStay : Type 0
RecordsStay =
    (l : Link) (object k : ℕ) → WholeLink l → sym_refusal l ≡ None
    → map (λ r. r.offset) (page_records l object k) ≡ map (offset_on k) (filter (stands_on object k) (recorded l))

-- There is one export for each that is asked, in order, by its name and with its ordinal.
pub record ExportsOf (l : Link) : Type 0 where
  pub names : map (λ x. x.name) (Out l) ≡ map (λ x. x.name) (exports l)
  pub ordinals : map (λ x. x.ordinal) (Out l) ≡ ordinals (asked_ordinals l)

abbrev pub ExportsStay : Type 0
ExportsStay = (l : Link) → WholeLink l → sym_refusal l ≡ None → ExportsOf l

-- Which records the fixups of a page get: their order, which sources are one list, and the sizes of fields.
-- "32-bit Linear eXecutable Module Format": "Fixup Record Table".
use Rattle.std.specs.Prelude.{ℕ, ◌-◌, ◌^◌, ◌%◌, ◌==◌, ◌&&◌, ◌||◌, not, Bool, false, List, [], ◌∷◌, ◌++◌, length, map, take, filter, nat_lt, nat_le, int_lt, int_le, if◌then◌else◌, pos, ◌+ℤ◌}
use Rattle.lx_types.specs.declared.fix.Fix.{Fix}
use Rattle.lx_types.specs.declared.fix.FixTarget.{FixTarget}
use Rattle.lx_types.specs.declared.fix.FixTarget.TheVariants.{Internal, Ordinal, Named, Own}
use Rattle.lx_types.specs.declared.object.TheConstants.{PAGE_SIZE}
use Rattle.lx_model.specs.Module.{same_target}
use Rattle.lx_model.specs.Sources.{code_of, source_size}
use Rattle.lx_model.specs.RecordSpelling.{Sizes, Written}
use Rattle.lx_model.specs.declared.record_fields.TheConstants.{MAX_LISTED}

-- ---- order: sources stand by their offsets

abbrev pub inserted : Fix → List Fix → List Fix
inserted f [] = f ∷ []
inserted f (g ∷ gs) = if int_le f.offset g.offset then f ∷ g ∷ gs else g ∷ inserted f gs

abbrev pub by_offset : List Fix → List Fix
by_offset [] = []
by_offset (f ∷ fs) = inserted f (by_offset fs)

-- ---- lists

-- A source begins before its page or ends past it.
abbrev pub crosses : Fix → Bool
crosses f = int_lt f.offset (pos 0) || int_lt (pos PAGE_SIZE) (f.offset +ℤ pos (source_size f.source))

abbrev pub same_alias : Bool → Bool → Bool
same_alias a b = if a then b else not b

-- Sources may stand in one list: they differ in their offsets alone, and lie within the page.
abbrev pub joins : Fix → Fix → Bool
joins f g =
    code_of f.source == code_of g.source && same_alias f.alias g.alias && same_target f.target g.target && f.additive == g.additive
    && not (crosses f) && not (crosses g)

-- After earlier sources, one begins a record unless a record that began before has room for it.
abbrev pub begins : List Fix → Fix → Bool
begins earlier f = length (filter (joins f) earlier) % MAX_LISTED == 0

-- A source, and those that its record lists after it. Records stand by their first sources.
pub record Listed : Type 0 where
  pub first : Fix
  pub others : List Fix

abbrev pub listed_after : List Fix → List Fix → List Listed
listed_after earlier [] = []
listed_after earlier (f ∷ fs) =
    if begins earlier f
    then record { first = f; others = take (MAX_LISTED - 1) (filter (joins f) fs) } ∷ listed_after (earlier ++ f ∷ []) fs
    else listed_after (earlier ++ f ∷ []) fs

-- ---- sizes: the shortest that the numbers have room in

abbrev pub passes : ℕ → ℕ → Bool
passes width n = nat_le (256 ^ width) n

abbrev pub sizes_with : ℕ → Bool → Bool → Bool → Sizes
sizes_with additive target number ordinal = record {
  additive = not (additive == 0);
  wide_target = target;
  wide_additive = passes 2 additive;
  wide_number = number;
  byte_ordinal = ordinal;
}

abbrev pub shortest : FixTarget → ℕ → Sizes
shortest (Internal object offset) additive = sizes_with additive (passes 2 offset) (passes 1 object) false
shortest (Ordinal import ordinal) additive = sizes_with additive (passes 2 ordinal) (passes 1 import) (not (passes 1 ordinal))
shortest (Named import name_at) additive = sizes_with additive (passes 2 name_at) (passes 1 import) false
shortest (Own ordinal) additive = sizes_with additive false (passes 1 ordinal) false

-- ---- records

abbrev pub record_of : Listed → Written
record_of r = record {
  kind = record { source = r.first.source; alias = r.first.alias; listed = nat_lt 0 (length r.others) };
  sizes = shortest r.first.target r.first.additive;
  target = r.first.target;
  additive = r.first.additive;
  offsets = map (λ f. f.offset) (r.first ∷ r.others);
}

-- the records of a page with these fixups
unfoldable pub records_for : List Fix → List Written
records_for fixes = map record_of (listed_after [] (by_offset fixes))

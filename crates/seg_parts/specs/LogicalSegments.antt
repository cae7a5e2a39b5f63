-- The numbers of logical segments.
use Rattle.std.specs.Prelude.{◌≡◌, ℕ, Bool, List, map}
use Rattle.std.specs.List.{position_or_len}
use Rattle.link_model.specs.Appearance.{firsts, firsts_by}
use Rattle.link_model.specs.Parts as rules
use Rattle.link_model.specs.declared.keys.Origin.TheVariants as origins
use Rattle.link_model.specs.declared.keys.SegmentKey.{SegmentKey}
use Rattle.link_model.specs.declared.keys.SegmentKey.TheVariants as keys
use Rattle.seg_parts.specs.declared.parts.Part.{Part}
use Rattle.seg_parts.specs.declared.logical_segments.SegmentName.{SegmentName}
use Rattle.seg_parts.specs.declared.logical_segments.SegmentName.TheVariants as names
use Rattle.seg_parts.specs.Parts.{shown}

abbrev pub name_shown : SegmentName → SegmentKey
name_shown (names.InModule n i) = keys.Private (origins.Segment n i)
name_shown (names.OfCommunal slot) = keys.Private (origins.Communal slot)
name_shown names.OwnStack = keys.Private origins.OwnStack
name_shown (names.Public name class) = keys.Public name.now class.now
name_shown (names.Common name class) = keys.Common name.now class.now

-- The place of each key in the table of these keys.
abbrev pub places : {K : Type 0} → (K → K → Bool) → List K → List ℕ
places same keys = map (λ k. position_or_len (same k) (firsts same keys)) keys

-- The first part of each logical segment of these parts.
abbrev pub heads_of : List rules.Part → List rules.Part
heads_of ps = firsts_by rules.same_segment rules.segment_key ps

-- The number, from 0, of each part's logical segment.
abbrev pub numbers_of : List rules.Part → List ℕ
numbers_of ps = places rules.same_segment (map rules.segment_key ps)

-- The key of each logical segment of these parts.
abbrev pub segment_keys_of : List rules.Part → List SegmentKey
segment_keys_of ps = firsts rules.same_segment (map rules.segment_key ps)

pub record AreSegmentsOf (names : List SegmentName) (ps hs : List Part) (ns : List ℕ) : Type 0 where
  pub names_are : map name_shown names ≡ firsts rules.same_segment (map rules.segment_key (map shown ps))
  pub heads_are : map shown hs ≡ heads_of (map shown ps)
  pub numbers_are : ns ≡ numbers_of (map shown ps)

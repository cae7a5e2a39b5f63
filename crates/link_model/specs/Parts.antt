-- Contributions, and which of them make one logical segment.
--
-- Private contributions stand alone. Public and stack contributions of one name and class join, and
-- common ones of one name and class join among themselves.
use Rattle.std.specs.Prelude.{ℕ, Bool, true, false, not, ◌&&◌, ◌||◌, List, map, if◌then◌else◌, ◌==◌, bytes_eq, filter}
use Rattle.std.specs.List.{enumerate_from}
pub use Rattle.link_model.specs.declared.keys.Origin.{Origin}
pub use Rattle.link_model.specs.declared.keys.Origin.TheVariants.{Segment, Communal, OwnStack}
pub use Rattle.link_model.specs.declared.keys.SegmentKey.{SegmentKey}
pub use Rattle.link_model.specs.declared.keys.SegmentKey.TheVariants.{Private, Public, Common}
use Rattle.obj_types.specs.declared.object.TheConstants.{ALIGN_WORD, ALIGN_PARAGRAPH, ALIGN_PAGE, ALIGN_DOUBLEWORD, COMBINE_PRIVATE, COMBINE_STACK, COMBINE_COMMON}
use Rattle.obj_types.specs.declared.object.Seg.{Seg}
use Rattle.obj_types.specs.declared.object.ObjModule.{ObjModule}
use Rattle.link_model.specs.Link.{Link, of_modules}

abbrev pub same_origin : Origin → Origin → Bool
same_origin (Segment n i) (Segment m j) = n == m && i == j
same_origin (Communal a) (Communal b) = a == b
same_origin OwnStack OwnStack = true
same_origin (Segment n i) (Communal b) = false
same_origin (Segment n i) OwnStack = false
same_origin (Communal a) (Segment m j) = false
same_origin (Communal a) OwnStack = false
same_origin OwnStack (Segment m j) = false
same_origin OwnStack (Communal b) = false

pub record Part : Type 0 where
  pub origin : Origin
  pub name : List ℕ
  pub class : List ℕ
  pub align : ℕ  -- as in SEGDEF
  pub combine : ℕ  -- as in SEGDEF
  pub wide : Bool
  pub len : ℕ

-- "98h SEGDEF": the alignment in bytes. An absolute one is refused.
abbrev pub alignment : ℕ → ℕ
alignment align =
    if align == ALIGN_WORD then 2
    else if align == ALIGN_PARAGRAPH then 16
    else if align == ALIGN_PAGE then 4096
    else if align == ALIGN_DOUBLEWORD then 4
    else 1

-- "98h SEGDEF": the combine type.
abbrev pub is_private : Part → Bool
is_private p = p.combine == COMBINE_PRIVATE

abbrev pub is_common : Part → Bool
is_common p = p.combine == COMBINE_COMMON

abbrev pub is_joint : Part → Bool
is_joint p = not (is_private p || is_common p)

abbrev pub is_stack : Part → Bool
is_stack p = p.combine == COMBINE_STACK || same_origin p.origin OwnStack

-- ---- logical segments

-- The logical segment of a part: its own where it is private, else that of its name and class, of which there are a
-- public and a common one.
abbrev pub segment_key : Part → SegmentKey
segment_key p =
    if is_private p then Private p.origin else if is_common p then Common p.name p.class else Public p.name p.class

abbrev pub same_segment : SegmentKey → SegmentKey → Bool
same_segment (Private a) (Private b) = same_origin a b
same_segment (Public name class) (Public other in_class) = bytes_eq name other && bytes_eq class in_class
same_segment (Common name class) (Common other in_class) = bytes_eq name other && bytes_eq class in_class
same_segment (Private a) (Public name class) = false
same_segment (Private a) (Common name class) = false
same_segment (Public name class) (Private b) = false
same_segment (Public name class) (Common other in_class) = false
same_segment (Common name class) (Private b) = false
same_segment (Common name class) (Public other in_class) = false

-- Two parts are of one logical segment.
abbrev pub joins : Part → Part → Bool
joins a b = same_segment (segment_key a) (segment_key b)

-- ---- contributions

abbrev pub of_seg : ℕ → ℕ → Seg → Part
of_seg n i s =
    record { origin = Segment n i; name = s.name; class = s.class; align = s.align; combine = s.combine; wide = s.wide; len = s.len }

-- The contributions of a module: its segments, the debug segments dropped.
abbrev pub contributions_in : ℕ → ObjModule → List Part
contributions_in n m = map (λ q. of_seg n q.0 q.1) (filter (λ q. not q.1.debug) (enumerate_from 1 m.segs))

abbrev pub contributions : Link → List Part
contributions l = of_modules l contributions_in

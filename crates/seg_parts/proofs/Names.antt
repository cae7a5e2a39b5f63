-- Names of logical segments are equal where the rules' keys are the same.
use Rattle.std.specs.Prelude.{◌≡◌, refl}
use Rattle.link_model.specs.Parts as rules
use Rattle.seg_parts.specs.declared.logical_segments.SegmentName.{SegmentName}
use Rattle.seg_parts.specs.declared.logical_segments.SegmentName.TheVariants as names
use Rattle.seg_parts.specs.contracts.logical_segments.SegmentNamePartialEq.TheImpl.{eq-value}
use Rattle.seg_parts.specs.LogicalSegments.{name_shown}

pub names-shown : (x y : SegmentName) → eq-value.it x y ≡ rules.same_segment (name_shown x) (name_shown y)
names-shown (names.InModule n i) (names.InModule n2 i2) = refl
names-shown (names.InModule n i) (names.OfCommunal s2) = refl
names-shown (names.InModule n i) names.OwnStack = refl
names-shown (names.InModule n i) (names.Public a2 b2) = refl
names-shown (names.InModule n i) (names.Common a2 b2) = refl
names-shown (names.OfCommunal s) (names.InModule n2 i2) = refl
names-shown (names.OfCommunal s) (names.OfCommunal s2) = refl
names-shown (names.OfCommunal s) names.OwnStack = refl
names-shown (names.OfCommunal s) (names.Public a2 b2) = refl
names-shown (names.OfCommunal s) (names.Common a2 b2) = refl
names-shown names.OwnStack (names.InModule n2 i2) = refl
names-shown names.OwnStack (names.OfCommunal s2) = refl
names-shown names.OwnStack names.OwnStack = refl
names-shown names.OwnStack (names.Public a2 b2) = refl
names-shown names.OwnStack (names.Common a2 b2) = refl
names-shown (names.Public a b) (names.InModule n2 i2) = refl
names-shown (names.Public a b) (names.OfCommunal s2) = refl
names-shown (names.Public a b) names.OwnStack = refl
names-shown (names.Public a b) (names.Public a2 b2) = refl
names-shown (names.Public a b) (names.Common a2 b2) = refl
names-shown (names.Common a b) (names.InModule n2 i2) = refl
names-shown (names.Common a b) (names.OfCommunal s2) = refl
names-shown (names.Common a b) names.OwnStack = refl
names-shown (names.Common a b) (names.Public a2 b2) = refl
names-shown (names.Common a b) (names.Common a2 b2) = refl

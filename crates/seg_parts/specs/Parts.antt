-- Parts that are lent, as the rules see them.
use Rattle.seg_parts.specs.declared.parts.Part.{Part}
use Rattle.link_model.specs.Parts as rules

abbrev pub shown : Part → rules.Part
shown p =
    record {
      origin = p.origin;
      name = p.name.now;
      class = p.class.now;
      align = p.align;
      combine = p.combine;
      wide = p.wide;
      len = p.len;
    }

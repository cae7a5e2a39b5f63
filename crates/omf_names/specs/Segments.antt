-- A SEGDEF record's fields, as the definitions see them.
use Rattle.omf_model.specs.Record.{Record, segdef, SegDef}
use Rattle.omf_names.specs.declared.segment.SegFields.{SegFields}

abbrev pub def_of : SegFields → SegDef
def_of d = record {
  attributes = d.attributes;
  frame = d.frame;
  offset = d.offset;
  len = d.len;
  name = d.name;
  class = d.class;
  overlay = d.overlay;
}

abbrev pub segdef_record : SegFields → Record
segdef_record d = segdef (def_of d)

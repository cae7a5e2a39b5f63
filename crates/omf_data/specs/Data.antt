-- A data record's fields, as the definitions see them.
use Rattle.omf_model.specs.ReadBlocks.{blocks_in}
use Rattle.omf_model.specs.Record.{Record, ledata, lidata}
use Rattle.omf_data.specs.declared.iterated.Iterated.{Iterated}
use Rattle.omf_data.specs.declared.straight.Straight.{Straight}

abbrev pub ledata_record : Straight → Record
ledata_record d = ledata d.place.seg d.place.offset d.bytes.now

abbrev pub lidata_record : Iterated → Record
lidata_record d = lidata d.wide d.place.seg d.place.offset (blocks_in d.wide d.body.now)

-- Files in memory of which no load fails.
use Rattle.lx_ports.specs.Files.{Contents}
use Rattle.memory_ports.specs.Memory.{contents_of}
use Rattle.memory_ports.specs.declared.sure.SureFiles.{SureFiles}

abbrev pub contents_of_sure : SureFiles → Contents
contents_of_sure sure = contents_of sure.files

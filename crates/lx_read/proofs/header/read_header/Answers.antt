use Rattle.lx_read.proofs.Headers.{shift_fits}
use Rattle.lx_read.proofs.header.read_header.Goals as goal

pub returns : goal.returns
returns c =
    let file = c.args.file.now in
    let read = c.in_ok-head.ensures in
    (read.0, c.header_of.ensures file (record { short = c.requires; place = read.1; fields = read.2; shift = shift_fits file read.0 }))

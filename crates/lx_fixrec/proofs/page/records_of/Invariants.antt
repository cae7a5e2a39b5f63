use Rattle.std.proofs.Common.{◌≡◌, [], ◌++◌, take, drop}
use Rattle.lx_model.specs.JoinedRecords.{listed_after}
use Rattle.lx_fixrec.specs.Links.{AreCounted}
use Rattle.lx_fixrec.specs.Writes.{spelled}
use Rattle.lx_fixrec.proofs.page.records_of.Given as goal

-- the records that the sources so far begin, and those that come
abbrev pub invariant-loop-place : goal.invariant-loop-place
invariant-loop-place l = record {
  written : l.out.items ++ spelled (listed_after (take l.place l.sources) (drop l.place l.sources)) ≡ spelled (listed_after [] l.sources);
  counted : AreCounted l.sources l.place l.counts.items;
}

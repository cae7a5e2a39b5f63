use Rattle.std.proofs.Common.{◌<◌, List, sym, subst, ◌∙◌}
use Rattle.std.specs.Prelude.{AllPairs}
use Rattle.lx_model.specs.EntryTable.{Numbered}
use Rattle.lx_read.proofs.WholeFiles.{entries_rise}
use Rattle.lx_read.proofs.reading.read_links.Goals as goal

pub read_references-requires-clause-within : goal.read_references-requires-clause-within
read_references-requires-clause-within c =
    let entries = c.in_ok-entries.ensures in
    record {
      short = c.requires.short;
      near = c.requires.import_procedures.1;
      rising = subst (λ (es : List Numbered). AllPairs (λ a b. a.0 < b.0) es) (sym (c.as_slice.ensures ∙ entries.1)) (entries_rise c.args.file.now entries.0);
    }

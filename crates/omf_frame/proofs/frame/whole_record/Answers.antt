use Rattle.std.proofs.Common.{◌%◌, ◌++◌, sum, ap, ◌∙◌}
use Rattle.omf_frame.proofs.Records.{record_bytes-from_delimited}
use Rattle.omf_frame.proofs.frame.whole_record.Goals as goal

pub returns-clause-whole : goal.returns-clause-whole
returns-clause-whole c =
    let parts = record_bytes-from_delimited c.in-Ok.bytes.now c.in-Ok.ensures.bytes c.in-Ok.ensures.delimited c.in-len4-up.len_at_least in
    record {
      joined = c.in-Ok.ensures.taken ∙ ap (λ front. front ++ c.delimited.new.cur.left) parts.0;
      counted = parts.1;
    }

pub returns-clause-sum : goal.returns-clause-sum
returns-clause-sum c =
    let parts = record_bytes-from_delimited c.in-Ok.bytes.now c.in-Ok.ensures.bytes c.in-Ok.ensures.delimited c.in-len4-up.len_at_least in
    c.sum_of.ensures ∙ ap (λ bytes. sum bytes % 256) parts.0

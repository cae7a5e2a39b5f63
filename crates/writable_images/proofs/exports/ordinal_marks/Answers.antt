use Rattle.std.proofs.Common.{◌==◌, ap, ◌∙◌}
use Rattle.std.specs.List.{list_any}
use Rattle.writable_images.proofs.ExportMarks.{exports_told}
use Rattle.writable_images.proofs.exports.ordinal_marks.Goals as goal

pub returns : goal.returns
returns c = λ k.
    c.in_ok-marked.ensures k
    ∙ ap (λ ns. list_any (λ n. n == k) ns) (c.as_slice.ensures ∙ c.in_ok-ordinals.ensures.0)
    ∙ exports_told c.args.exports.now k

use Rattle.std.proofs.Common.{◌≡◌, ◌∙◌, ap, rules, ℕ, length, map, slice_index}
use Rattle.std.specs.Global.{Vec}
use Rattle.std.specs.List.{range_with_len}
use Rattle.std.specs.Result.{IsOk}
use Rattle.link_fix.proofs.ImageRows.{of_len}
use Rattle.link_fix.proofs.images.take_bytes.Goals as goal

pub returns-clause-bytes : goal.returns-clause-bytes
returns-clause-bytes c =
    let ok : IsOk c.resize.result = search rules in
    let long : length c.resize.new.self.items ≡ c.args.len = search rules in
    of_len c.replace-bytes.result.items c.resize.new.self.items c.args.len long (λ k h below. c.resize.ensures.by_index.0 k 0 h (search rules))
    (λ k past h. c.resize.ensures.by_index.1 k 0 ok (search rules) h)
    ∙ ap (λ (row : Vec ℕ). map (slice_index row.items) (range_with_len 0 c.args.len)) c.replace-bytes.ensures.value

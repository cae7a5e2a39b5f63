use Rattle.std.proofs.Common.{◌≡◌, rules, length, min, take}
use Rattle.std.specs.Result.{IsOk}
use Rattle.link_fix.proofs.ImageRows.{filled}
use Rattle.link_fix.proofs.images.first_bytes.Goals as goal

pub returns : goal.returns
returns c =
    let known : c.in_ok-bytes.bytes.items ≡ take (min (length c.args.held.now) c.args.len) c.args.held.now = search rules in
    let ok : IsOk c.resize.result = search rules in
    let long : length c.resize.new.self.items ≡ c.args.len = search rules in
    filled c.args.held.now c.in_ok-bytes.bytes.items c.resize.new.self.items c.args.len known long (λ k h below. c.resize.ensures.by_index.0 k 0 h (search rules))
    (λ k past h. c.resize.ensures.by_index.1 k 0 ok (search rules) h)

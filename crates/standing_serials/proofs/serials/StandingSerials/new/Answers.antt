use Rattle.std.proofs.Common.{rules, ◌≡◌, length, sym, ◌∙◌}
use Rattle.standing_serials.proofs.Standing.{none_stand}
use Rattle.standing_serials.proofs.serials.StandingSerials.new.Goals as goal

pub returns : goal.returns
returns c lib failing long =
    let count : length c.in_ok-vec.field-0.items ≡ c.args.modules = search rules in
    none_stand lib failing c.in_ok-vec.field-0.items (count ∙ sym long)

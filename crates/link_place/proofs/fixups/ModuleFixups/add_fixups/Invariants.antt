use Rattle.std.proofs.Common.{◌≡◌, ◌≤◌, ◌-◌, ◌++◌, map, take, drop, length}
use Rattle.std.specs.List.{filter_map}
use Rattle.link_model.specs.Fixups.{standing_in}
use Rattle.link_fix.specs.Bare.{bare}
use Rattle.link_fix.specs.Shown.{shown}
use Rattle.link_place.specs.Fixed.{fixup_at}
use Rattle.link_place.specs.Judged.{first_refusal}
use Rattle.link_place.proofs.fixups.ModuleFixups.add_fixups.Given as goal

abbrev pub invariant-fixes : goal.invariant-fixes
invariant-fixes l = record {
  within : l.next ≤ length l.self.object.now.fixes;
  found : map shown l.found.items ≡ map shown l.fn.found.items ++ map bare (filter_map (λ f. fixup_at l.self.places.now l.self.syms.now l.self.number l.self.object.now f (standing_in l.self.object.now f)) (take l.next l.self.object.now.fixes));
  judged : first_refusal (filter_map (λ f. fixup_at l.self.places.now l.self.syms.now l.self.number l.self.object.now f (standing_in l.self.object.now f)) (drop l.next l.self.object.now.fixes))
      ≡ first_refusal (filter_map (λ f. fixup_at l.self.places.now l.self.syms.now l.self.number l.self.object.now f (standing_in l.self.object.now f)) l.self.object.now.fixes);
}

abbrev pub decreases-fixes : goal.decreases-fixes
decreases-fixes l = length l.self.object.now.fixes - l.next

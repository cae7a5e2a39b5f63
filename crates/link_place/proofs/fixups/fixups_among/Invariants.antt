use Rattle.std.proofs.Common.{◌≡◌, ◌+◌, map, take, drop}
use Rattle.std.specs.List.{flat_map, enumerate_from}
use Rattle.link_fix.specs.Bare.{bare}
use Rattle.link_fix.specs.Shown.{shown}
use Rattle.link_place.specs.Fixed.{fixups_in, fixups_by}
use Rattle.link_place.specs.Judged.{first_refusal}
use Rattle.link_place.proofs.fixups.fixups_among.Given as goal

abbrev pub invariant-loop-index : goal.invariant-loop-index
invariant-loop-index l = record {
  found : map shown l.found.items ≡ flat_map (λ q. map bare (fixups_in l.places l.syms q.0 q.1)) (enumerate_from 1 (map (λ m. m.now) (take l.index l.modules)));
  judged : first_refusal (flat_map (λ q. fixups_in l.places l.syms q.0 q.1) (enumerate_from (1 + l.index) (map (λ m. m.now) (drop l.index l.modules))))
      ≡ first_refusal (fixups_by l.places l.syms (map (λ m. m.now) l.modules));
}

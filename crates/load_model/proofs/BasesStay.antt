-- While a residence stands, the bases of all that it reaches stay.
use Rattle.std.proofs.Common.{ℕ, List, ap}
use Rattle.lx_types.specs.declared.bases.Bases.{Bases}
use Rattle.lx_types.specs.declared.bases.ModBases.{ModBases}
use Rattle.load_model.specs.Modules.{order_of}
use Rattle.load_model.specs.State.{residence_of}
use Rattle.load_model.specs.Memory.{bases_seen}
use Rattle.load_model.specs.Histories.{after_entry, state_after}
use Rattle.load_model.specs.Alike.{BasesSeenStay}
use Rattle.load_model.proofs.Orders.{OrdersNest}
use Rattle.load_model.proofs.Stays.{reach_stays}
use Rattle.load_model.proofs.Bytes.{map_member, one_bases, bases_stay}

pub bases_seen_stay : OrdersNest → BasesSeenStay
unfolding bases_seen
bases_seen_stay nest lib failing contents h x m legal follows before after =
    let B : List ModBases → Bases = λ mods. record { mods = mods } in
    let M : ℕ → List ℕ → ModBases = λ k bases. record { «module» = k; objects = bases } in
    ap B (map_member (one_bases (after_entry lib (state_after lib failing h) x)) (one_bases (state_after lib failing h)) (order_of lib m)
    (λ k member.
    ap (M k)
    (bases_stay (residence_of (after_entry lib (state_after lib failing h) x) k) (residence_of (state_after lib failing h) k)
    (reach_stays nest lib failing contents h x m k legal follows before after member).1)))

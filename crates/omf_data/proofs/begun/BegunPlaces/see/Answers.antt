use Rattle.std.proofs.Common.{◌≡◌, List, ℕ, sym, ap, ◌∙◌}
use Rattle.name_table.specs.Entries.{with_entry}
use Rattle.omf_data.proofs.Places.{place-seen}
use Rattle.omf_data.proofs.begun.BegunPlaces.see.Goals as goal

pub begun-preserved : goal.begun-preserved
begun-preserved c =
    let own = c.index-begun-place.result in
    let name : c.bytes.result.now ≡ own.name = c.bytes.ensures.same ∙ ap (λ x. x.name) (sym c.index-begun-place.is) in
    place-seen c.begun.self c.args.begun.now own c.push.new.self c.begun-test.true c.index-begun-place.is c.begun.invariant
    (c.in_ok-_first.ensures.entries ∙ ap (λ (n : List ℕ). with_entry c.begun.self.places n c.begun.self.seen) name)

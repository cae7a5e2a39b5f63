use Rattle.std.proofs.Common.{◌≡◌, ◌⊎◌, inl, inr, ℕ, List, Some, ap}
use Rattle.load_model.specs.declared.deeds.Deed.{Deed}
use Rattle.load_model.specs.declared.deeds.Deed.TheVariants as deeds
use Rattle.load_model.specs.Asks.{ask_in}
use Rattle.check_play.proofs.PlayedEntries.{module_in, module_within}
use Rattle.check_play.proofs.deeds.is_reached.Goals as goal

-- the module that an entry of a place names
named_by : (d : Deed) (serial m : ℕ) →
    ((object : ℕ) × (offset : ℕ) × (bytes : List ℕ) × (d ≡ deeds.Write serial m object offset bytes))
    ⊎ (((object : ℕ) × (offset : ℕ) × (bytes : List ℕ) × (d ≡ deeds.Debug serial m object offset bytes))
    ⊎ ((object : ℕ) × (offset : ℕ) × (bytes : List ℕ) × (d ≡ deeds.Shared serial m object offset bytes))) → module_in (ask_in d) ≡ Some m
named_by d serial m (inl (object, offset, bytes, is)) = ap (λ (e : Deed). module_in (ask_in e)) is
named_by d serial m (inr (inl (object, offset, bytes, is))) = ap (λ (e : Deed). module_in (ask_in e)) is
named_by d serial m (inr (inr (object, offset, bytes, is))) = ap (λ (e : Deed). module_in (ask_in e)) is

pub is_attached-requires-clause-module : goal.is_attached-requires-clause-module
is_attached-requires-clause-module c =
    module_within c.args.standing.now.board.library c.args.entry.1.now (ask_in c.args.entry.0.now.deed) c.in-Write.module c.requires.asks
    (named_by c.args.entry.0.now.deed c.in-Write.serial c.in-Write.module c.in-Write.is)

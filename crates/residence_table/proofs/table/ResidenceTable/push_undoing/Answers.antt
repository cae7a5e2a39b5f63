use Rattle.std.proofs.Common.{◌≡◌, ℕ, ◌<◌, List, [], ◌∷◌, ◌++◌, Option, Bor, length, map, get_or, take, ap, sym, ◌∙◌}
use Rattle.std.specs.Prelude.{filter_map, option_to_list, reverse}
use Rattle.std.proofs.lemmas.List.{length_push, get_or_default}
use Rattle.std.proofs.lemmas.Iterator.Adapters.{YieldsList-from_rev_slice}
use Rattle.std.proofs.lemmas.Iterator.Consumers.{YieldsList-turn}
use Rattle.load_model.specs.declared.deeds.Call.{Call}
use Rattle.load_model.specs.declared.deeds.Fresh.{Fresh}
use Rattle.load_model.specs.Leaving.{term_of}
use Rattle.residence_table.specs.Placing.{residences_with, state_with}
use Rattle.residence_table.proofs.CallLists.{push_more}
use Rattle.residence_table.proofs.table.ResidenceTable.push_undoing.Goals as goal

-- one turn more, of the next module from the end
turn_more : (f : ℕ → Option Call) (xs : List ℕ) (before : List (Bor ℕ)) (m : Bor ℕ) (start now new : List Call) (o : Option Call) →
    (length before < length xs) × (m.now ≡ get_or xs (length before) m.now) → now ≡ start ++ filter_map f (take (length before) xs) →
    new ≡ now ++ option_to_list o → o ≡ f m.now → new ≡ start ++ filter_map f (take (length (before ++ m ∷ [])) xs)
turn_more f xs before m start now new o turn so_far is call =
    push_more f xs (length before) start now new o turn.0 so_far is (call ∙ ap f (turn.1 ∙ get_or_default xs (length before) m.now 0 turn.0))
    ∙ ap (λ n. start ++ filter_map f (take n xs)) (sym (length_push before m))

pub loop-m-preserved : goal.loop-m-preserved
loop-m-preserved g c =
    turn_more (term_of c.args.lib.now (state_with (residences_with c.args.self.now c.args.fresh.now)) (map (λ (f : Fresh). f.«module») c.args.fresh.now)) (reverse c.args.modules.now)
    c.loop-m.yielded c.in-Some.m c.args.calls.now.items c.loop-m.calls.items _ c.term_call.result
    (YieldsList-turn (YieldsList-from_rev_slice c.args.modules.now cc) c.loop-m.yielded _ c.loop-m.yielded_by _ _ c.in-Some.m c.in-Some.is c.next.ensures.steps)
    c.loop-m.invariant c.in_ok-push_call.ensures (c.term_call.ensures (map (λ (f : Fresh). f.«module») c.args.fresh.now) c.is_new.ensures)

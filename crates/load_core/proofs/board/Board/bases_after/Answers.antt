-- The bases after a module are those of its order.
use Rattle.std.proofs.Common.{◌≡◌, ℕ, ◌<◌, List, length, map, get_or, ◌∙◌, ap, sym, subst}
use Rattle.std.specs.Prelude.{All}
use Rattle.std.proofs.lemmas.List.FromFn.{length-map-range_with_len}
use Rattle.lx_types.specs.declared.bases.Bases.{Bases}
use Rattle.lx_types.specs.declared.bases.ModBases.{ModBases}
use Rattle.lx_model.specs.Reach.{Order}
use Rattle.load_model.specs.Entering.{with_fresh_residences}
use Rattle.load_model.specs.Modules.{Library}
use Rattle.load_core.specs.BoardState.{BoardState, state_of}
use Rattle.load_core.specs.Enters.{bases_at, nowhere}
use Rattle.load_core.proofs.Beginning.{bases_are, order_within}
use Rattle.load_core.proofs.board.Board.bases_after.Goals as goal

pub bases_among-requires : goal.bases_among-requires
bases_among-requires c =
    let Of : Library → List ℕ = λ lib. Order lib c.args.m in
    let L : BoardState → Library = λ b. b.library in
    let order = c.order.ensures ∙ ap Of (c.deref-2.ensures ∙ ap L c.self.view_is) in
    let lib = c.args.self.now.library in
    let P : List ℕ → Type 0 = λ ks. All (λ k. k < length c.deref.result.now) ks in
    let N : ℕ → Type 0 = λ n. All (λ k. k < n) (Order lib c.args.m) in
    let count : length c.deref.result.now ≡ length lib =
    ap length c.deref.ensures.value ∙ ap length c.requires.bases
    ∙ length-map-range_with_len (bases_at (with_fresh_residences (state_of c.args.self.now) c.args.with.now.fresh.now)) 0 (length lib)
    in
    subst P (sym order) (subst N (sym count) (order_within c.order_is_reach.ensures.within lib c.args.m c.requires.«module»))

pub returns : goal.returns
returns c =
    let Of : Library → List ℕ = λ lib. Order lib c.args.m in
    let L : BoardState → Library = λ b. b.library in
    let order = c.order.ensures ∙ ap Of (c.deref-2.ensures ∙ ap L c.self.view_is) in
    let B : List ModBases → Bases = λ mods. record { mods = mods } in
    let A : List ModBases → Bases = λ all. record { mods = map (λ k. get_or all k nowhere) c.order.result.now } in
    let O : List ℕ → Bases = λ ks. record { mods = map (λ k. get_or c.args.with.now.bases.items k nowhere) ks } in
    ap B (c.from_vec.ensures ∙ c.in_ok-mods.ensures) ∙ ap A c.deref.ensures.value ∙ ap O order
    ∙ bases_are c.order_is_reach.ensures.within c.args.self.now c.args.with.now.fresh.now c.args.with.now.bases.items c.args.m c.requires.«module» c.requires.bases

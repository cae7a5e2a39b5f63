use Rattle.process_pages.proofs.Words.{AreRight, arith, get_or, get_or_default, IsRight, KnownPosition, Nowhere, subst, Unknown, ℕ, [], ◌++◌, ◌∷◌}
use Rattle.process_pages.proofs.Positions.{joined_right, past_right}
use Rattle.process_pages.proofs.residence_finder.ResidenceFinder.join.Goals as goal

pub returns-then-m-lt-MAX_MODULES_LEN : goal.returns-then-m-lt-MAX_MODULES_LEN
returns-then-m-lt-MAX_MODULES_LEN c = λ r rs number long all.
    let ss = c.self.inside.positions in
    let before : AreRight ss rs = rw (← c.self.view_is) at all in
    let S : KnownPosition → Type 0 = λ s. IsRight s r.«module» rs in
    let M : ℕ → Type 0 = λ k. IsRight (get_or ss k Unknown) r.«module» rs in
    let is : IsRight c.joined_at.result r.«module» (rs ++ r ∷ []) = c.joined_at.ensures r rs long (subst S (get_or_default ss c.args.m Unknown Nowhere (omega (arith, c.self.invariant, c.if-m-lt-MAX_MODULES_LEN.true))) (subst M number (before r.«module»))) in
    rw (← number) (joined_right ss c.joined_at.result r rs (omega (arith, c.self.invariant, number, c.if-m-lt-MAX_MODULES_LEN.true)) before is)

pub returns-else-m-lt-MAX_MODULES_LEN : goal.returns-else-m-lt-MAX_MODULES_LEN
returns-else-m-lt-MAX_MODULES_LEN c = λ r rs number long all.
    let ss = c.self.inside.positions in
    rw (← c.self.view_is) (past_right ss r rs (omega (arith, c.self.invariant, number, c.if-m-lt-MAX_MODULES_LEN.false)) (rw (← c.self.view_is) at all))

use Rattle.std.proofs.Common.{◌≡◌, ◌≤◌, ◌-◌, ◌∙◌, ⊎_elim, inl, inr, Bool, List, [], false, get_or, set, sym, ap, arith}
use Rattle.std.proofs.lemmas.List.{get_or_default}
use Rattle.page_fix.specs.Rights.{is_marked, marked_pages}
use Rattle.page_fix.proofs.Marked.{any_marked, mark_at, mark_is_taken, no_row, unmarked_stays}
use Rattle.page_fix.proofs.marks.take_mark.Goals as goal

outside : (c : goal.Joined-then-number-eq0) → is_marked c.args.rows.now c.args.p ≡ false
outside c = no_row c.args.rows.now c.args.p (⊎_elim inl (λ past. inr past.1) c.then-number-eq0.either)

pub returns-then-number-eq0-clause-had : goal.returns-then-number-eq0-clause-had
returns-then-number-eq0-clause-had c = sym (any_marked c.args.rows.now c.args.p ∙ outside c)

pub returns-then-number-eq0-clause-taken : goal.returns-then-number-eq0-clause-taken
returns-then-number-eq0-clause-taken c = unmarked_stays c.args.rows.now c.args.p (outside c)

low : (c : goal.After-take) → 1 ≤ c.args.p.object
low c = let some = c.if-number-eq0.false in omega (arith, some)

-- the row, whatever stands for none
row_is : (c : goal.After-take) → get_or c.args.rows.now (c.args.p.object - 1) c.index-rows-number.result ≡ get_or c.args.rows.now (c.args.p.object - 1) []
row_is c = get_or_default c.args.rows.now (c.args.p.object - 1) c.index-rows-number.result [] (let some = low c in let high = c.if-number-rows.false in omega (arith, some, high))

pub returns-clause-had : goal.returns-clause-had
returns-clause-had c =
    c.take.ensures.had
    ∙ ap (λ (row : List Bool). get_or row c.args.p.page false) (row_is c)
    ∙ mark_at c.args.rows.now c.args.p (low c)
    ∙ sym (any_marked c.args.rows.now c.args.p)

pub returns-clause-taken : goal.returns-clause-taken
returns-clause-taken c =
    let rows = c.args.rows.now in
    let place = c.args.p.object - 1 in
    ap (λ (row : List Bool). marked_pages (set rows place row)) (c.take.ensures.taken ∙ ap (λ (row : List Bool). set row c.args.p.page false) (row_is c))
    ∙ mark_is_taken rows c.args.p (low c) c.if-number-rows.false

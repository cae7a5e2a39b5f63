use Rattle.std.proofs.Common.{◌≡◌, ◌<◌, List, [], Option, Some, None, Ok, ap, subst, length, arith}
use Rattle.lx_fixrec.specs.Reads.{refusal}
use Rattle.lx_fixrec.specs.Left.{Left, Placed, left_of, count_of, end_count, Finds}
use Rattle.lx_fixrec.specs.declared.reader.Found.{Found}
use Rattle.lx_fixrec.proofs.Steps.{left_none, left_refused}
use Rattle.lx_fixrec.proofs.reader.RecordsIterator.next.Goals as goal

pub returns-in-Ok-None-clause-steps : goal.returns-in-Ok-None-clause-steps
returns-in-Ok-None-clause-steps c =
    let s = c.self.inside in
    let new = c.next_record.new.fields in
    let found = subst (λ (o : Option Found). Finds (Ok o) s.fields new) c.in-Ok-None.field-0-is c.in-Ok-None.ensures in
    subst (λ (l : Left). (l.items ≡ []) × (l.end ≡ None) × (left_of s.at None new ≡ l)) c.self.view_is (left_none s.at s.current s.fields new c.in_default.ensures.0 found.0 found.1 found.2)

pub returns-in-Err-clause-steps : goal.returns-in-Err-clause-steps
returns-in-Err-clause-steps c =
    let s = c.self.inside in
    let new = c.of-self-inside.result in
    let found = c.in-Err.ensures in
    let r = refusal c.in-Err.refusal in
    subst (λ (l : Left). (l.items ≡ []) × (l.end ≡ Some r) × (left_of s.at None new ≡ record { at = l.at; items = []; end = None })) c.self.view_is
    (left_refused s.at s.current s.fields new r c.in_default.ensures.0 found.0 found.1 (ap length c.of-self-inside.ensures.bytes))

pub returns-in-Err-clause-goes : goal.returns-in-Err-clause-goes
returns-in-Err-clause-goes c =
    let steps = returns-in-Err-clause-steps c in
    let items : length c.args.self.now.items ≡ 0 = ap (λ (xs : List Placed). length xs) steps.0 in
    let end : end_count c.args.self.now.end ≡ 1 = ap end_count steps.1 in
    let after : count_of (left_of c.self.inside.at None c.of-self-inside.result) ≡ 0 = ap count_of steps.2 in
    let less : count_of (left_of c.self.inside.at None c.of-self-inside.result) < count_of c.args.self.now = omega (arith, items, end, after) in
    record { on = λ f. (tt, tt, less); keeps = tt; rests = λ f. tt }

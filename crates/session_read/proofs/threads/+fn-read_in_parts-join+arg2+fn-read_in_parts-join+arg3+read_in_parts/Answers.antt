use Rattle.session_read.proofs.Joining.{session_of_parts}
use Rattle.session_read.proofs.threads.+fn-read_in_parts-join+arg2+fn-read_in_parts-join+arg3+read_in_parts.Goals as goal

pub returns : goal.returns
returns g t c =
    session_of_parts c.args.bytes.now c.in-Some.at c.split_at.result.0.now c.split_at.result.1.now c.join-front.result.0 c.join-front.result.1 c.joined.result
    c.in_ok-front.field-0 c.in_ok-back.field-0 c.split_at.ensures.front c.split_at.ensures.back c.in-Some.ensures.whole c.in_ok-front.was c.in_ok-back.was
    c.join-front.ensures.first c.join-front.ensures.second c.joined.ensures

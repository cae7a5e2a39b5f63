use Rattle.process_view.proofs.Words.{ap, byte_by, List, map, Mapped, range_with_len, ◌∙◌}
use Rattle.process_view.proofs.Asking.{is_readable, readable_there, readable_bytes}
use Rattle.process_view.proofs.view.View.copy_place.Goals as goal

pub copy_out-requires-clause-there : goal.copy_out-requires-clause-there
copy_out-requires-clause-there c =
    let v = c.args.self.now in
    let at = c.args.place.now in
    let s = c.reached_at.result.now in
    rw c.mapped.ensures (readable_there v at c.args.k s c.reached_at.ensures (is_readable v at c.args.k s c.requires.named c.reached_at.ensures c.requires.used))

pub returns : goal.returns
returns c =
    let v = c.args.self.now in
    let at = c.args.place.now in
    let s = c.reached_at.result.now in
    c.copy_out.ensures ∙ ap (λ (pages : List Mapped). map (byte_by s.places pages at.object) (range_with_len at.offset at.len)) c.mapped.ensures
    ∙ readable_bytes v at c.args.k s c.requires.named c.reached_at.ensures (is_readable v at c.args.k s c.requires.named c.reached_at.ensures c.requires.used)

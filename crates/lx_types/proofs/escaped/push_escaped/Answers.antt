use Rattle.std.proofs.Common.{◌≡◌, ℕ, ◌+◌, ◌++◌, List, [], drop, get_or, sym, ap, ◌∙◌, append_assoc, append-nil}
use Rattle.std.proofs.lemmas.List.{drop_more, drop_all}
use Rattle.lx_types.specs.Escaped.{escaped_byte, escaped}
use Rattle.lx_types.proofs.escaped.push_escaped.Goals as goal

pub loop-byte-preserved : goal.loop-byte-preserved
loop-byte-preserved c =
    let name = c.args.name.now in
    let at = c.loop-byte.byte-index in
    let out = c.loop-byte.out.items in
    ap (λ (bytes : List ℕ). bytes ++ escaped (drop (at + 1) name)) c.in_ok-push_byte.ensures ∙ append_assoc out (escaped_byte (get_or name at 0)) (escaped (drop (at + 1) name))
    ∙ ap (λ (left : List ℕ). out ++ escaped left) (sym (drop_more name at 0 c.loop-byte-test.true)) ∙ c.loop-byte.invariant

pub returns : goal.returns
returns c =
    let out = c.loop-byte.out.items in
    let done : drop c.loop-byte.byte-index c.args.name.now ≡ [] = drop_all c.loop-byte.byte-index c.args.name.now c.loop-byte-test.false in
    sym (append-nil out) ∙ ap (λ (left : List ℕ). out ++ escaped left) (sym done) ∙ c.loop-byte.invariant

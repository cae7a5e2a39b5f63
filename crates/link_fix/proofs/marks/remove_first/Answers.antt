use Rattle.std.proofs.Common.{◌≡◌, ◌+◌, ◌-◌, length, ap, sym, ◌∙◌, arith, drop, take, length-drop}
use Rattle.std.proofs.Math.Seq.{paste}
use Rattle.std.proofs.lemmas.List.{take_all}
use Rattle.std.proofs.lemmas.List.Edits.{take-paste}
use Rattle.link_fix.proofs.marks.remove_first.Goals as goal

pub returns : goal.returns
returns c =
    let qs = c.args.fixups.now.items in
    let n = c.args.count in
    let m = c.len-len.result - n in
    let long : length (drop n qs) ≡ length qs - n = length-drop n qs in
    let same : m ≡ length (drop n qs) = omega (arith, long) in
    let none : 0 + m ≡ m = omega arith in
    c.truncate.ensures.items
    ∙ ap (take m) c.copy_within.ensures.items
    ∙ sym (ap (λ k. take k (paste qs 0 (drop n qs) m)) none)
    ∙ take-paste qs 0 (drop n qs) m (omega arith) (omega (arith, same))
    ∙ take_all m (drop n qs) (omega (arith, same))

use Rattle.std.proofs.Common.{◌≡◌, Bool, true, false, refl, sym, ap, ◌∙◌}
use Rattle.std.specs.Prelude.{◌||◌}
use Rattle.std.specs.List.{list_any}
use Rattle.byte_marks.specs.Marks.{is_marked}
use Rattle.omf_data.specs.Marks.{is_inside, touches_bare}
use Rattle.omf_data.proofs.Touched.{all-located, all-bare, any-touched}
use Rattle.omf_data.proofs.marks.Marks.is_on_marked.Goals as goal

true-or : (a b : Bool) → a ≡ true → a ≡ (a || b)
true-or true b e = refl
true-or false b e = absurd cc

pub returns-then-has_any : goal.returns-then-has_any
returns-then-has_any c = λ fixes have all.
    let bare = list_any (touches_bare c.args.seg c.args.start c.args.len) fixes in
    true-or c.has_any.result bare c.if-has_any.true
    ∙ any-touched c.args.seg c.args.start c.args.len (is_marked c.args.self.now.located) fixes c.has_any.result bare (all-located c.args.self.now fixes have all) c.has_any.ensures refl

pub returns-else-has_any : goal.returns-else-has_any
returns-else-has_any c = λ fixes have all.
    let bare = c.is_around.ensures ∙ ap (list_any (is_inside c.args.seg c.args.start c.args.len)) c.as_slice.ensures.value ∙ all-bare c.args.self.now fixes have all c.args.seg c.args.start c.args.len in
    ap (λ (b : Bool). b || c.is_around.result) (sym c.if-has_any.false)
    ∙ any-touched c.args.seg c.args.start c.args.len (is_marked c.args.self.now.located) fixes c.has_any.result c.is_around.result (all-located c.args.self.now fixes have all) c.has_any.ensures bare

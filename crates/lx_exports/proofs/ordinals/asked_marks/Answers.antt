use Rattle.std.proofs.Common.{◌≡◌, ◌∙◌, ap, sym, refl, subst, Bool, List, ℕ, Option, Some, None, Result, Ok, Err}
use Rattle.std.specs.Option.{option_map}
use Rattle.lx_types.specs.Answers.{Answers}
use Rattle.lx_types.specs.declared.fail.Fail.{Fail}
use Rattle.lx_types.specs.declared.fail.Fail.TheVariants.{Said, NoMemory}
use Rattle.link_model.specs.declared.refusals.EntryRefusal.{EntryRefusal}
use Rattle.link_model.specs.declared.refusals.EntryRefusal.TheVariants.{Ordinal}
use Rattle.link_model.specs.Exports.{given, wrong_ordinal}
use Rattle.lx_exports.specs.Exports.{asked}
use Rattle.lx_exports.specs.Marks.{AreMarksOf, wrong_among, IsWrong}
use Rattle.lx_exports.proofs.ordinals.asked_marks.Goals as goal

answers_follow : {A R : Type 0} (P Q : A → Type 0) (V W : R → Type 0) (r : Result A (Fail R)) → ((a : A) → P a → Q a) → ((e : R) → V e → W e) → Answers r P V → Answers r Q W
answers_follow P Q V W (Ok a) f g h = f a h
answers_follow P Q V W (Err (Said e)) f g h = g e h
answers_follow P Q V W (Err NoMemory) f g h = tt

pub returns : goal.returns
returns c =
    let os = asked c.args.exports.now in
    let ns = c.deref.result.now in
    let same : ns ≡ given os = c.deref.ensures.value ∙ c.in_ok-asked_for.ensures in
    let found : wrong_among ns 0 ns ≡ wrong_among (given os) 0 (given os) = ap (λ ms. wrong_among ms 0 ms) same in
    answers_follow
    (λ marks. AreMarksOf marks.items ns × (wrong_among ns 0 ns ≡ None))
    (λ marks. AreMarksOf marks.items (given os) × (wrong_ordinal os ≡ None))
    (λ refusal. IsWrong refusal (wrong_among ns 0 ns))
    (λ refusal. wrong_ordinal os ≡ Some refusal)
    c.marks_of.result
    (λ marks good. (subst (AreMarksOf marks.items) same good.0, ap (option_map (λ q. Ordinal q.1)) (sym found ∙ good.1)))
    (λ refusal wrong. ap (option_map (λ q. Ordinal q.1)) (sym found) ∙ wrong)
    c.marks_of.ensures

-- An input of which nothing is taken out is linked as the one without its lists of COMDATs.
use Rattle.std.specs.Prelude.{◌≡◌, Result, Ok, Err, IsErrAnd}
use Rattle.std.proofs.Common.{ap, sym, subst, ◌∙◌}
use Rattle.lx_types.specs.declared.fail.Fail.{Fail}
use Rattle.lx_types.specs.declared.fail.Fail.TheVariants.{Said, NoMemory}
use Rattle.lx_types.specs.Answers.{Answers}
use Rattle.obj_types.specs.declared.input.LinkInput.{LinkInput}
use Rattle.obj_types.specs.Input.{WholeInput}
use Rattle.link_model.specs.declared.refusals.LinkRefusal.{LinkRefusal}
use Rattle.link_model.specs.Kept.{Kept}
use Rattle.link_model.specs.KeptLaws.{KeptIsWhole}
use Rattle.link_place.proofs.AnswersMapped.{answers-map}
use Rattle.comdat_core.specs.declared.taking.TakenOut.{TakenOut}
use Rattle.comdat_core.specs.Aside.{bare}
use Rattle.comdat_core.specs.Nothing.{IsNothing, BareIsKept, KeptIsBare, LinksAlike}
use Rattle.comdat_core.specs.TakenOut.{IsTakenOut}
use Rattle.link_core.specs.declared.linking.Linked.{Linked}
use Rattle.link_core.specs.Links.{IsLinked, RefusesLink}

-- It is whole where the input is.
pub bare-whole : (input : LinkInput) (out : TakenOut) → KeptIsWhole → KeptIsBare → IsTakenOut input out → IsNothing out → WholeInput input → WholeInput (bare input)
bare-whole input out whole kept is none h = subst WholeInput (kept input out is none) (whole input h)

linked-whole : (input : LinkInput) (out : TakenOut) (linked : Linked) → LinksAlike → IsTakenOut input out → IsNothing out → IsLinked (bare input) linked → IsLinked input linked
linked-whole input out linked alike is none h =
    record {
      link = h.link;
      of_input = alike input out is none h.link h.of_input;
      accepted = h.accepted;
      file = h.file;
      name = h.name;
      objects = h.objects;
      pages = h.pages;
      sources = h.sources;
    }

pub refused-whole : (input : LinkInput) (out : TakenOut) (refusal : LinkRefusal) → LinksAlike → IsTakenOut input out → IsNothing out → RefusesLink (bare input) refusal → RefusesLink input refusal
refused-whole input out refusal alike is none h =
    record { link = h.link; of_input = alike input out is none h.link h.of_input; refused = h.refused }

-- What is answered of it is answered of the input.
pub answers-whole : (input : LinkInput) (out : TakenOut) (r : Result Linked (Fail LinkRefusal)) → LinksAlike → IsTakenOut input out → IsNothing out → Answers r (IsLinked (bare input)) (RefusesLink (bare input)) → Answers r (IsLinked input) (RefusesLink input)
answers-whole input out r alike is none =
    answers-map r _ _ _ _ (λ linked h. linked-whole input out linked alike is none h) (λ refusal h. refused-whole input out refusal alike is none h)

-- What holds however it is answered.
pub answers-any : {A R : Type 0} (r : Result A (Fail R)) (P : Type 0) → P → Answers r (λ _. P) (λ _. P)
answers-any (Ok a) P h = h
answers-any (Err (Said e)) P h = h
answers-any (Err NoMemory) P h = tt

-- What is kept of a bare input is all of it.
pub kept-bare : (input bared : LinkInput) → BareIsKept → bared ≡ bare input → bared ≡ Kept bared
kept-bare input bared kept is = is ∙ sym (kept input) ∙ ap Kept (sym is)

-- Where memory is wanted nothing is said.
failed-none : {A R : Type 0} (fail : Fail R) (P : A → Type 0) (Q : R → Type 0) → fail ≡ NoMemory → Answers {A = A} (Err fail) P Q
failed-none {A} fail P Q is = subst (λ f. Answers {A = A} (Err f) P Q) (sym is) tt

pub answers-none : {A R : Type 0} (r : Result A (Fail R)) (P : A → Type 0) (Q : R → Type 0) → IsErrAnd r (λ fail. fail ≡ NoMemory) → Answers r P Q
answers-none (Ok a) P Q h = absurd h
answers-none (Err fail) P Q h = failed-none fail P Q h

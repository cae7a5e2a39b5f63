-- An input of which nothing is taken out has the map of the one without its lists of COMDATs.
use Rattle.std.specs.Prelude.{Result, List, ℕ}
use Rattle.std.specs.Global.{Vec}
use Rattle.lx_types.specs.declared.fail.Fail.{Fail}
use Rattle.lx_types.specs.Answers.{Answers}
use Rattle.obj_types.specs.declared.input.LinkInput.{LinkInput}
use Rattle.link_model.specs.declared.refusals.LinkRefusal.{LinkRefusal}
use Rattle.link_place.proofs.AnswersMapped.{answers-map}
use Rattle.comdat_core.specs.declared.taking.TakenOut.{TakenOut}
use Rattle.comdat_core.specs.Aside.{bare}
use Rattle.comdat_core.specs.Nothing.{IsNothing, LinksAlike}
use Rattle.comdat_core.specs.TakenOut.{IsTakenOut}
use Rattle.link_core.specs.Links.{RefusesLink}
use Rattle.link_core.proofs.Bare.{refused-whole}
use Rattle.map_core.specs.Mapped.{IsMapped}

pub mapped-whole : (input : LinkInput) (out : TakenOut) (text : List ℕ) → LinksAlike → IsTakenOut input out → IsNothing out → IsMapped (bare input) text → IsMapped input text
mapped-whole input out text alike is none h =
    record { link = h.link; of_input = alike input out is none h.link h.of_input; accepted = h.accepted; map = h.map }

pub answers-whole : (input : LinkInput) (out : TakenOut) (r : Result (Vec ℕ) (Fail LinkRefusal)) → LinksAlike → IsTakenOut input out → IsNothing out → Answers r (λ text. IsMapped (bare input) text.items) (RefusesLink (bare input)) → Answers r (λ text. IsMapped input text.items) (RefusesLink input)
answers-whole input out r alike is none =
    answers-map r _ _ _ _ (λ text h. mapped-whole input out text.items alike is none h) (λ refusal h. refused-whole input out refusal alike is none h)

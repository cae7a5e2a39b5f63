-- An input has one link; that of an input without COMDATs is the link of all its modules.
use Rattle.std.proofs.Common.{◌≡◌, List, ap, sym, ◌∙◌, subst}
use Rattle.obj_types.specs.declared.input.LinkInput.{LinkInput}
use Rattle.link_model.specs.declared.symbols.Pick.{Pick}
use Rattle.link_model.specs.Choosing.{Chosen}
use Rattle.link_model.specs.Kept.{Kept}
use Rattle.link_model.specs.KeptLaws.{HasNoComdats}
use Rattle.link_model.specs.Link.{Link, IsLinkOf, kept_link, link_of}
use Rattle.link_model.proofs.AllKept.{all_is_kept, none_clash}
use Rattle.link_model.proofs.OneChoice.{chosen_once}

pub link_once : (input : LinkInput) (l m : Link) → IsLinkOf input l → IsLinkOf input m → l ≡ m
link_once input l m h k = h.same ∙ (ap (kept_link input) (chosen_once (Kept input) h.picks k.picks h.chosen k.chosen) ∙ sym k.same)

kept_is : (input : LinkInput) (picks : List Pick) → HasNoComdats input → kept_link input picks ≡ link_of input picks
kept_is input picks none = λ i. record (link_of (all_is_kept input none i) picks) { clash = none_clash input picks none i }

pub plain_link : (input : LinkInput) (picks : List Pick) → HasNoComdats input → Chosen input picks → IsLinkOf input (link_of input picks)
plain_link input picks none chosen = record {
  picks = picks;
  chosen = subst (λ (x : LinkInput). Chosen x picks) (sym (all_is_kept input none)) chosen;
  same = sym (kept_is input picks none);
}

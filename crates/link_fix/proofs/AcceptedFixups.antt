-- No refusal is each fixup's acceptance.
use Rattle.std.specs.Prelude.{◌≡◌, ◌<◌, List, [], ◌∷◌, Option, Some, None, map, refl}
use Rattle.std.specs.List.{All}
use Rattle.std.proofs.Common.{sym, subst}
use Rattle.obj_types.specs.Location.{location_len}
use Rattle.std.proofs.lemmas.List.Elements.{All-nil, All-cons, All-head, All-tail, All-map}
use Rattle.link_model.specs.declared.refusals.FixRefusal.{FixRefusal}
use Rattle.link_model.specs.Words.{first_of}
use Rattle.link_model.specs.Fixups as rules
use Rattle.std.specs.Option.{option_or}
use Rattle.link_fix.specs.declared.fixup.Fixup.{Fixup}
use Rattle.link_fix.specs.Bare.{bare}
use Rattle.link_fix.specs.Shown.{shown}
use Rattle.link_fix.specs.Values.{IsAccepted}
use Rattle.link_fix.proofs.LinkPages.{Accepts, accepted}
use Rattle.link_fix.proofs.BareFixups.{bare-accepted}

neither : (a b : Option FixRefusal) → option_or a b ≡ None → (a ≡ None) × (b ≡ None)
neither None b e = (refl, e)
neither (Some x) b e = absurd cc

abbrev pub OnLocation : rules.Fixup → Type 0
OnLocation q = 0 < location_len q.fix.loc

none_accepts : (qs : List rules.Fixup) → first_of (map rules.fix_refusal qs) ≡ None → All OnLocation qs → All (λ q. Accepts (bare q)) qs
none_accepts [] e all = All-nil (λ q. Accepts (bare q))
none_accepts (q ∷ qs) e all =
    let two : (rules.fix_refusal q ≡ None) × (first_of (map rules.fix_refusal qs) ≡ None) = neither (rules.fix_refusal q) (first_of (map rules.fix_refusal qs)) e in
    All-cons (λ q. Accepts (bare q)) q qs (bare-accepted q two.0, All-head OnLocation q qs all) (none_accepts qs two.1 (All-tail OnLocation q qs all))

-- What is left of fixups of which none is refused.
pub bare-accepts : (qs : List rules.Fixup) (kept : List Fixup) → first_of (map rules.fix_refusal qs) ≡ None → All OnLocation qs → map shown kept ≡ map bare qs → All IsAccepted kept
bare-accepts qs kept none all is =
    accepted kept (subst (λ (rs : List rules.Fixup). All Accepts rs) (sym is) (All-map Accepts bare qs (none_accepts qs none all)))

-- The index of one more module.
use Rattle.std.proofs.Common.{◌≡◌, ℕ, ◌+◌, ◌<◌, ◌∙◌, List, [], ◌∷◌, ◌++◌, length, take, get_or, ap, sym, subst, arith, length-append, inl, inr}
use Rattle.std.proofs.lemmas.Bool.{cases_lt}
use Rattle.std.proofs.lemmas.List.{get_or_append_left, get_or_push, take_more}
use Rattle.lx_types.specs.declared.parts.Parts.{Parts}
use Rattle.lx_types.specs.Parts.{ordinal_named}
use Rattle.lx_model.specs.Library.{no_module}
use Rattle.mod_graph.specs.Names.{AreIndexed}

pub AreIndexed-push : (mods : List Parts) (names : List (List (List ℕ × ℕ))) (m : Parts) (index : List (List ℕ × ℕ)) → AreIndexed mods names →
    ((q : List ℕ) → ordinal_named index q ≡ ordinal_named m.names q) → AreIndexed (mods ++ m ∷ []) (names ++ index ∷ [])
AreIndexed-push mods names m index indexed same = record {
  count = length-append names (index ∷ []) ∙ ap (λ n. n + 1) indexed.count ∙ sym (length-append mods (m ∷ []));
  same = λ k there q. elim (cases_lt k (length mods)) [
    | inl before ↦ ap (λ ns. ordinal_named ns q) (get_or_append_left names (index ∷ []) [] k (omega (arith, before, indexed.count)))
        ∙ indexed.same k before q
        ∙ ap (λ (p : Parts). ordinal_named p.names q) (sym (get_or_append_left mods (m ∷ []) no_module k before))
    | inr last ↦ let at_end : length mods ≡ k = omega (arith, last, there, length-append mods (m ∷ [])) in
        ap (λ ns. ordinal_named ns q) (get_or_push names index [] k (indexed.count ∙ at_end))
        ∙ same q
        ∙ ap (λ (p : Parts). ordinal_named p.names q) (sym (get_or_push mods m no_module k at_end))
  ];
}

pub AreIndexed-more : (mods : List Parts) (names more : List (List (List ℕ × ℕ))) (i : ℕ) (d m : Parts) (index : List (List ℕ × ℕ)) → AreIndexed (take i mods) names →
    i < length mods → m ≡ get_or mods i d → ((q : List ℕ) → ordinal_named index q ≡ ordinal_named m.names q) → more ≡ names ++ index ∷ [] → AreIndexed (take (i + 1) mods) more
AreIndexed-more mods names more i d m index indexed in_list is same pushed =
    subst (λ ns. AreIndexed (take (i + 1) mods) ns) (sym pushed)
    (subst (λ ms. AreIndexed ms (names ++ index ∷ [])) (ap (λ x. take i mods ++ x ∷ []) is ∙ sym (take_more mods i d in_list))
    (AreIndexed-push (take i mods) names m index indexed same))

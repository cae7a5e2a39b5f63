-- The records of a page have its fixups in another order.
use Rattle.std.proofs.Common.{◌≡◌, Bool, true, false, cond, List, [], ◌∷◌, ◌++◌, refl, sym, subst, ap, ◌∙◌}
use Rattle.std.specs.Prelude.{filter, int_le}
use Rattle.std.specs.List.Sorted.{IsPermutation}
use Rattle.std.proofs.lemmas.List.Elements.{filter-append, filter_agree}
use Rattle.std.proofs.lemmas.List.Sorted.{IsPermutation-refl, IsPermutation-sym, IsPermutation-cons, IsPermutation-trans, IsPermutation-middle}
use Rattle.lx_types.specs.declared.fix.Fix.{Fix}
use Rattle.lx_model.specs.JoinedRecords.{crosses, joins, inserted, by_offset, records_for}
use Rattle.lx_fixrec.specs.Laws.{RecordsKeepFixes}
use Rattle.lx_fixrec.proofs.Filters.{dropped, passed, without, Parted, parted}
use Rattle.lx_fixrec.proofs.Joined.{joined, joins_alike}
use Rattle.lx_fixrec.proofs.Kept.{all_listed, written_are, joins_itself, joined_kept, none_joins, crossing_kept}

-- two lists of sources have the same ones, those of each list and those that cross an end of the page
record Agree (fs gs : List Fix) : Type 0 where
  crossing : filter crosses gs ≡ filter crosses fs
  lists : (f : Fix) → filter (joins f) gs ≡ filter (joins f) fs

cut : (p : Fix → Bool) (f : Fix) (fs gs before after : List Fix) → gs ≡ before ++ f ∷ after → p f ≡ false → filter p gs ≡ filter p (f ∷ fs) → filter p (before ++ after) ≡ filter p fs
cut p f fs gs before after parts is same = sym (without p before after f is) ∙ ap (filter p) (sym parts) ∙ same ∙ dropped p f fs is

front : (p : Fix → Bool) (before after fs : List Fix) → filter p before ≡ [] → filter p after ≡ filter p fs → filter p (before ++ after) ≡ filter p fs
front p before after fs none rest = filter-append p before after ∙ ap (λ (xs : List Fix). xs ++ filter p after) none ∙ rest

-- both without a source that crosses an end
agree_crossing : (f : Fix) (fs gs : List Fix) → crosses f ≡ true → Agree (f ∷ fs) gs → (h : Parted crosses gs f (filter crosses fs)) → Agree fs (h.before ++ h.after)
agree_crossing f fs gs is agree h = record {
  crossing = front crosses h.before h.after fs h.none h.rest;
  lists = λ g. cut (joins g) f fs gs h.before h.after h.parts (none_joins g f is) (agree.lists g);
}

-- both without a source within the page
agree_within : (f : Fix) (fs gs : List Fix) → crosses f ≡ false → Agree (f ∷ fs) gs → (h : Parted (joins f) gs f (filter (joins f) fs)) → Agree fs (h.before ++ h.after)
agree_within f fs gs is agree h = record {
  crossing = cut crosses f fs gs h.before h.after h.parts is agree.crossing;
  lists = λ g. by g (joins g f) refl;
}
  where
    by : (g : Fix) (b : Bool) → joins g f ≡ b → filter (joins g) (h.before ++ h.after) ≡ filter (joins g) fs
    by g false at = cut (joins g) f fs gs h.before h.after h.parts at (agree.lists g)
    by g true at =
        let same : (x : Fix) → joins g x ≡ joins f x = λ x. joins_alike g f x (joined g f at) in
        filter_agree (joins g) (joins f) same (h.before ++ h.after) ∙ front (joins f) h.before h.after fs h.none h.rest ∙ sym (filter_agree (joins g) (joins f) same fs)

nothing_agrees : (gs : List Fix) → Agree [] gs → gs ≡ []
nothing_agrees [] agree = refl
nothing_agrees (g ∷ gs) agree = by (crosses g) refl
  where
    by : (b : Bool) → crosses g ≡ b → g ∷ gs ≡ []
    by true is = absurd (let e = sym (passed crosses g gs is) ∙ agree.crossing in cc)
    by false is = absurd (let e = sym (passed (joins g) g gs (joins_itself g is)) ∙ agree.lists g in cc)

one_more : (f : Fix) (fs gs before after : List Fix) → gs ≡ before ++ f ∷ after → IsPermutation fs (before ++ after) → IsPermutation (f ∷ fs) gs
one_more f fs gs before after parts moved =
    subst (IsPermutation (f ∷ fs)) (sym parts)
    (IsPermutation-trans (f ∷ fs) (f ∷ (before ++ after)) (before ++ f ∷ after) (IsPermutation-cons f fs (before ++ after) moved) (IsPermutation-sym (before ++ f ∷ after) (f ∷ (before ++ after)) (IsPermutation-middle before f after)))

agree_moved : (fs gs : List Fix) → Agree fs gs → IsPermutation fs gs
agree_moved [] gs agree = subst (IsPermutation []) (sym (nothing_agrees gs agree)) (IsPermutation-refl [])
agree_moved (f ∷ fs) gs agree = by (crosses f) refl (agree_moved fs)
  where
    by : (b : Bool) → crosses f ≡ b → ((hs : List Fix) → Agree fs hs → IsPermutation fs hs) → IsPermutation (f ∷ fs) gs
    by true is again =
        let h = parted crosses gs f (filter crosses fs) (agree.crossing ∙ passed crosses f fs is) in
        one_more f fs gs h.before h.after h.parts (again (h.before ++ h.after) (agree_crossing f fs gs is agree h))
    by false is again =
        let h = parted (joins f) gs f (filter (joins f) fs) (agree.lists f ∙ passed (joins f) f fs (joins_itself f is)) in
        one_more f fs gs h.before h.after h.parts (again (h.before ++ h.after) (agree_within f fs gs is agree h))

-- ---- the order by offset

inserted_moved : (f : Fix) (gs : List Fix) → IsPermutation (f ∷ gs) (inserted f gs)
inserted_moved f [] = IsPermutation-refl (f ∷ [])
inserted_moved f (g ∷ gs) = by (int_le f.offset g.offset) (inserted_moved f gs)
  where
    by : (b : Bool) → IsPermutation (f ∷ gs) (inserted f gs) → IsPermutation (f ∷ g ∷ gs) (cond b (f ∷ g ∷ gs) (g ∷ inserted f gs))
    by true rest = IsPermutation-refl (f ∷ g ∷ gs)
    by false rest =
        IsPermutation-trans (f ∷ g ∷ gs) (g ∷ f ∷ gs) (g ∷ inserted f gs)
        (IsPermutation-sym (g ∷ f ∷ gs) (f ∷ g ∷ gs) (IsPermutation-middle (g ∷ []) f gs)) (IsPermutation-cons g (f ∷ gs) (inserted f gs) rest)

pub ordered_moved : (fs : List Fix) → IsPermutation fs (by_offset fs)
ordered_moved [] = IsPermutation-refl []
ordered_moved (f ∷ fs) = IsPermutation-trans (f ∷ fs) (f ∷ by_offset fs) (inserted f (by_offset fs)) (IsPermutation-cons f fs (by_offset fs) (ordered_moved fs)) (inserted_moved f (by_offset fs))

pub records_keep_fixes : RecordsKeepFixes
unfolding records_for
records_keep_fixes fixes =
    let s = by_offset fixes in
    let kept = agree_moved s (all_listed [] s) (record { crossing = crossing_kept [] s; lists = λ f. joined_kept f s }) in
    subst (IsPermutation fixes) (sym (written_are [] s)) (IsPermutation-trans fixes s (all_listed [] s) (ordered_moved fixes) kept)

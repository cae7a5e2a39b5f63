-- The records of fixups that can be written fit, so that they are read again.
use Rattle.std.proofs.Common.{◌≡◌, ℕ, suc, ◌<◌, ◌^◌, ◌==◌, Bool, true, false, cond, not, List, [], ◌∷◌, ◌++◌, length, map, take, ℤ, refl, sym, subst, arith, length-take}
use Rattle.std.specs.Prelude.{All, filter, nat_lt}
use Rattle.std.specs.List.{AllByRecursion as Each}
use Rattle.std.proofs.lemmas.Bool.Decides.{nat_tests}
use Rattle.std.proofs.lemmas.List.{length-map}
use Rattle.lx_fixrec.proofs.Filters.{each_take}
use Rattle.lx_types.specs.declared.fix.Source.{Source}
use Rattle.lx_types.specs.declared.fix.FixTarget.{FixTarget}
use Rattle.lx_types.specs.declared.fix.FixTarget.TheVariants.{Internal, Ordinal, Named, Own}
use Rattle.lx_types.specs.declared.fix.Fix.{Fix}
use Rattle.lx_model.specs.RecordFields.{additive_width}
use Rattle.lx_model.specs.RecordSpelling.{OffsetFits, AdditiveFits, CountFits, RecordFits}
use Rattle.lx_model.specs.JoinedRecords.{joins, begins, Listed, listed_after, by_offset, record_of, records_for, shortest}
use Rattle.lx_fixrec.specs.Writable.{IsWritable}
use Rattle.lx_fixrec.specs.Writes.{shortest_flags}
use Rattle.lx_fixrec.proofs.Fits.{target_fits, additive_room}
use Rattle.lx_fixrec.proofs.Joined.{joined}
use Rattle.lx_fixrec.proofs.Sorting.{each_ordered, to_each}

pub record IsGood (r : Listed) : Type 0 where
  pub first : IsWritable r.first
  pub others : Each (λ g. OffsetFits r.first.source g.offset) r.others
  pub few : length r.others < 255

-- those that join a source have a byte in the page
joined_fit : (f : Fix) (gs : List Fix) → Each IsWritable gs → Each (λ g. OffsetFits f.source g.offset) (filter (joins f) gs)
joined_fit f [] each = tt
joined_fit f (g ∷ gs) each = by (joins f g) refl (joined_fit f gs each.1)
  where
    by : (b : Bool) → joins f g ≡ b → Each (λ x. OffsetFits f.source x.offset) (filter (joins f) gs) → Each (λ x. OffsetFits f.source x.offset) (cond b (g ∷ filter (joins f) gs) (filter (joins f) gs))
    by true is rest = (subst (λ (s : Source). OffsetFits s g.offset) (sym (joined f g is).source) each.0.source, rest)
    by false is rest = rest

few : (xs : List Fix) → length (take 254 xs) < 255
few xs = let total = length-take 254 xs in omega (arith, total)

listed_good : (earlier fs : List Fix) → Each IsWritable fs → Each IsGood (listed_after earlier fs)
listed_good earlier [] each = tt
listed_good earlier (f ∷ fs) each = by (begins earlier f) (listed_good (earlier ++ f ∷ []) fs each.1)
  where
    one : Listed
    one = record { first = f; others = take 254 (filter (joins f) fs) }

    by : (b : Bool) → Each IsGood (listed_after (earlier ++ f ∷ []) fs) → Each IsGood (cond b (one ∷ listed_after (earlier ++ f ∷ []) fs) (listed_after (earlier ++ f ∷ []) fs))
    by true rest = (
      record {
        first = each.0;
        others = each_take (λ g. OffsetFits f.source g.offset) 254 (filter (joins f) fs) (joined_fit f fs each.1);
        few = few (filter (joins f) fs);
      },
      rest,
    )
    by false rest = rest

-- ---- one record

additive_fits : (n flags : ℕ) → n < 256 ^ additive_width flags → AdditiveFits (not (n == 0)) flags n
additive_fits n flags room = by (n == 0) refl
  where
    by : (b : Bool) → (n == 0) ≡ b → AdditiveFits (not b) flags n
    by true is = grind (arith, nat_tests)
    by false is = room

shortest_additive : (t : FixTarget) (n flags : ℕ) → n < 256 ^ additive_width flags → AdditiveFits (shortest t n).additive flags n
shortest_additive (Internal o x) n flags room = additive_fits n flags room
shortest_additive (Ordinal i x) n flags room = additive_fits n flags room
shortest_additive (Named i x) n flags room = additive_fits n flags room
shortest_additive (Own x) n flags room = additive_fits n flags room

count_fits : (first : ℤ) (others : List Fix) → length others < 255 → CountFits (nat_lt 0 (length others)) (first ∷ map (λ f. f.offset) others)
count_fits first [] small = refl
count_fits first (g ∷ gs) small =
    let total = length-map gs (λ (f : Fix). f.offset) in
    let more : nat_lt 0 (suc (length gs)) ≡ true = grind (arith, nat_tests) in
    let counted : length (first ∷ g.offset ∷ map (λ (f : Fix). f.offset) gs) < 256 = omega (arith, total, small) in
    subst (λ (b : Bool). CountFits b (first ∷ g.offset ∷ map (λ f. f.offset) gs)) (sym more) counted

each_map : (P : ℤ → Type 0) (gs : List Fix) → Each (λ g. P g.offset) gs → Each P (map (λ g. g.offset) gs)
each_map P [] each = tt
each_map P (g ∷ gs) each = (each.0, each_map P gs each.1)

record_fits : (r : Listed) → IsGood r → RecordFits (record_of r)
record_fits r good = record {
  alias = good.first.alias;
  target = target_fits r.first.source r.first.target r.first.additive good.first.target;
  additive = shortest_additive r.first.target r.first.additive (shortest_flags r.first.target r.first.additive) (additive_room r.first.target r.first.additive good.first.additive);
  count = count_fits r.first.offset r.others good.few;
  offsets = (good.first.source, each_map (OffsetFits r.first.source) r.others good.others);
}

each_fits : (rs : List Listed) → Each IsGood rs → Each RecordFits (map record_of rs)
each_fits [] each = tt
each_fits (r ∷ rs) each = (record_fits r each.0, each_fits rs each.1)

pub records_fit : (fixes : List Fix) → All IsWritable fixes → Each RecordFits (records_for fixes)
unfolding records_for
records_fit fixes all = each_fits (listed_after [] (by_offset fixes)) (listed_good [] (by_offset fixes) (each_ordered IsWritable fixes (to_each IsWritable fixes all)))

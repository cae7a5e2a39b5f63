-- Fixups with offsets of names can be written as those with places of names.
use Rattle.std.proofs.Common.{◌≡◌, ℕ, ◌<◌, ◌^◌, List, [], ◌∷◌, map, length, refl, ap, sym, ◌∙◌, subst, arith}
use Rattle.std.specs.Prelude.{All, AllPairs, slice_index, slice_index_or}
use Rattle.std.proofs.lemmas.List.{get_or-map, length-map}
use Rattle.std.proofs.lemmas.List.Elements.{All-head, All-map, All-tail}
use Rattle.lx_types.specs.declared.fix.Fix.{Fix}
use Rattle.lx_types.specs.declared.fix.FixTarget.{FixTarget}
use Rattle.lx_types.specs.declared.fix.FixTarget.TheVariants.{Internal, Ordinal, Named, Own}
use Rattle.lx_types.specs.declared.fix.Source.{Source}
use Rattle.lx_fixrec.specs.Writable.{IsWritable, NumbersFit, AreApart, MayBeWritten}
use Rattle.lx_write.specs.Offsets.{NameIsThere, target_at, fix_at}

numbers_fit : (offsets : List ℕ) (source : Source) (t : FixTarget) → ((i : ℕ) → slice_index offsets i < 2 ^ 32) → NumbersFit source t → NumbersFit source (target_at offsets t)
numbers_fit offsets source (Internal object offset) small fit = fit
numbers_fit offsets source (Ordinal import ordinal) small fit = fit
numbers_fit offsets source (Named import k) small fit = (fit.0, small k)
numbers_fit offsets source (Own ordinal) small fit = fit

writable_at : (offsets : List ℕ) (f : Fix) → ((i : ℕ) → slice_index offsets i < 2 ^ 32) → IsWritable f → IsWritable (fix_at offsets f)
writable_at offsets f small w = record {
  source = w.source;
  alias = w.alias;
  target = numbers_fit offsets f.source f.target small w.target;
  additive = w.additive;
}

apart_at : (offsets : List ℕ) (fixes : List Fix) → AllPairs AreApart fixes → AllPairs AreApart (map (fix_at offsets) fixes)
apart_at offsets fixes apart i j d less there =
    let within : j < length fixes = subst (λ n. j < n) (length-map fixes (fix_at offsets)) there in
    let one = get_or-map (fix_at offsets) fixes i d d (omega (arith, less, within)) in
    let other = get_or-map (fix_at offsets) fixes j d d within in
    rw (one, other) (apart i j d less within)

pub written_at : (offsets : List ℕ) (fixes : List Fix) → ((i : ℕ) → slice_index offsets i < 2 ^ 32) → MayBeWritten fixes → MayBeWritten (map (fix_at offsets) fixes)
written_at offsets fixes small may = record {
  each = All-map IsWritable (fix_at offsets) fixes (λ k d there. writable_at offsets (slice_index_or fixes k d) small (may.each k d there));
  apart = apart_at offsets fixes may.apart;
}

pub item_written : (P : List Fix → Type 0) (all : List (List Fix)) (i : ℕ) (x y : List Fix) → All P all → i < length all → x ≡ slice_index_or all i x → y ≡ x → P y
item_written P all i x y each there is same = subst P (sym (same ∙ is)) (each i x there)

-- Where no procedure has a name, no fixup names one, and all stay as they are.
unnamed_target : (t : FixTarget) → NameIsThere 0 t → target_at [] t ≡ t
unnamed_target (Internal object offset) there = refl
unnamed_target (Ordinal import ordinal) there = refl
unnamed_target (Named import k) there = absurd (omega (arith, there))
unnamed_target (Own ordinal) there = refl

unnamed_fixes : (fixes : List Fix) → All (λ f. NameIsThere 0 f.target) fixes → map (fix_at []) fixes ≡ fixes
unnamed_fixes [] each = refl
unnamed_fixes (f ∷ fs) each =
    ap (λ (t : FixTarget). record f { target = t } ∷ map (fix_at []) fs) (unnamed_target f.target (All-head (λ (x : Fix). NameIsThere 0 x.target) f fs each))
    ∙ ap (λ (gs : List Fix). f ∷ gs) (unnamed_fixes fs (All-tail (λ (x : Fix). NameIsThere 0 x.target) f fs each))

pub unnamed_same : (offsets : List ℕ) (fixes : List Fix) → length offsets ≡ 0 → All (λ f. NameIsThere (length offsets) f.target) fixes → map (fix_at offsets) fixes ≡ fixes
unnamed_same [] fixes none each = unnamed_fixes fixes each
unnamed_same (offset ∷ offsets) fixes none each = absurd (omega (arith, none))

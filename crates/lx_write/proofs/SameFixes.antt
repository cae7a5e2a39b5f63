-- Fixups with the offsets of names are those of the image's module.
use Rattle.std.proofs.Common.{◌≡◌, ℕ, List, [], ◌∷◌, ◌++◌, length, map, refl, sym, ap, ◌∙◌, subst}
use Rattle.std.specs.Prelude.{All, slice_index_or}
use Rattle.std.specs.List.{flat_map, range_with_len}
use Rattle.std.proofs.lemmas.List.{map-append}
use Rattle.std.proofs.lemmas.List.FromFn.{length-map-range_with_len}
use Rattle.std.proofs.lemmas.List.Concat.{flat_map-cons}
use Rattle.std.proofs.lemmas.List.Elements.{All-tail, All-head}
use Rattle.lx_types.specs.declared.fix.FixTarget.{FixTarget}
use Rattle.lx_types.specs.declared.fix.FixTarget.TheVariants.{Internal, Ordinal, Named, Own}
use Rattle.link_model.specs.ImportTables.{name_offset, with_offset}
use Rattle.lx_write.specs.declared.image.Image.{Image}
use Rattle.lx_write.specs.Offsets.{NameIsThere, target_at, fix_at}
use Rattle.lx_write.specs.Value.{TargetIsThere, fix_in_file, page_fixes}
use Rattle.lx_write.proofs.NameOffsets.{offset_at}

-- ---- lists of which each item has a property

same_map : {A B : Type 0} (P : A → Type 0) (f g : A → B) → ((x : A) → P x → f x ≡ g x) → (xs : List A) → All P xs → map f xs ≡ map g xs
same_map P f g same [] each = refl
same_map P f g same (x ∷ xs) each =
    let here = same x (All-head P x xs each) in
    let after = same_map P f g same xs (All-tail P x xs each) in
    rw (here, after) refl

same_flat : {A B : Type 0} (P : A → Type 0) (f g : A → B) → ((x : A) → P x → f x ≡ g x) → (xs : List (List A)) → All (All P) xs → map f (flat_map (λ ys. ys) xs) ≡ map g (flat_map (λ ys. ys) xs)
same_flat P f g same [] each = refl
same_flat P f g same (x ∷ xs) each =
    ap (map f) (flat_map-cons (λ ys. ys) x xs) ∙ map-append f x (flat_map (λ ys. ys) xs)
    ∙ ap (λ zs. zs ++ map f (flat_map (λ ys. ys) xs)) (same_map P f g same x (All-head (All P) x xs each))
    ∙ ap (λ zs. map g x ++ zs) (same_flat P f g same xs (All-tail (All P) x xs each))
    ∙ sym (map-append g x (flat_map (λ ys. ys) xs)) ∙ ap (map g) (sym (flat_map-cons (λ ys. ys) x xs))

-- ---- fixups

target_same : (names : List (List ℕ)) (offsets : List ℕ) → offsets ≡ map (name_offset names) (range_with_len 0 (length names)) →
    (t : FixTarget) → NameIsThere (length names) t → target_at offsets t ≡ with_offset names t
target_same names offsets are (Internal object offset) there = refl
target_same names offsets are (Ordinal import ordinal) there = refl
target_same names offsets are (Named import k) there = ap (Named import) (offset_at names offsets k are there)
target_same names offsets are (Own ordinal) there = refl

name_there : (m : Image) (t : FixTarget) → TargetIsThere m t → NameIsThere (length m.procs) t
name_there m (Internal object offset) there = tt
name_there m (Ordinal import ordinal) there = tt
name_there m (Named import k) there = there.1
name_there m (Own ordinal) there = tt

pub fixes_same : (m : Image) (offsets : List ℕ) → offsets ≡ map (name_offset m.procs) (range_with_len 0 (length m.procs)) → All (All (All (λ f. TargetIsThere m f.target))) m.fixes →
    map (map (fix_at offsets)) (flat_map (λ pages. pages) m.fixes) ≡ page_fixes m
unfolding page_fixes
fixes_same m offsets are there =
    same_flat (All (λ f. TargetIsThere m f.target)) (map (fix_at offsets)) (map (fix_in_file m))
    (λ page each. same_map (λ f. TargetIsThere m f.target) (fix_at offsets) (fix_in_file m) (λ f here. ap (λ t. record f { target = t }) (target_same m.procs offsets are f.target (name_there m f.target here))) page each)
    m.fixes there

pub names_there : (m : Image) (offsets : List ℕ) → offsets ≡ map (name_offset m.procs) (range_with_len 0 (length m.procs)) → All (All (All (λ f. TargetIsThere m f.target))) m.fixes →
    All (All (All (λ f. NameIsThere (length offsets) f.target))) m.fixes
names_there m offsets are there k d in_k i e in_i j f in_j =
    let count : length m.procs ≡ length offsets = sym (ap length are ∙ length-map-range_with_len (name_offset m.procs) 0 (length m.procs)) in
    let t = slice_index_or (slice_index_or (slice_index_or m.fixes k d) i e) j f in
    subst (λ n. NameIsThere n t.target) count (name_there m t.target (there k d in_k i e in_i j f in_j))

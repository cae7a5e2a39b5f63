-- What is asked of an image, part by part.
use Rattle.std.proofs.Common.{◌≡◌, ℕ, ◌+◌, ◌<◌, ◌≤◌, List, [], ◌∷◌, ◌++◌, length, map, take, get_or, sym, subst, ap, ◌∙◌}
use Rattle.std.specs.Prelude.{All, slice_index_or}
use Rattle.std.proofs.lemmas.List.{length-map, get_or-map, take_more, take_all}
use Rattle.std.proofs.lemmas.List.Elements.{All-push, All-get_or}
use Rattle.lx_types.specs.Sound.{IsNumberOf}
use Rattle.lx_types.specs.declared.fix.FixTarget.{FixTarget}
use Rattle.lx_types.specs.declared.fix.FixTarget.TheVariants.{Internal, Ordinal, Named as ByName, Own}
use Rattle.lx_write.specs.declared.image.Image.{Image}
use Rattle.writable_images.specs.declared.images.Named.{Named}
use Rattle.writable_images.specs.Named.{AreNamed, NamesOne, PageFits, PartsFit}
use Rattle.lx_write.specs.Value.{TargetIsThere, CanBeWritten}

-- ---- targets

there : (m : Image) (n : Named) (t : FixTarget) → AreNamed m n → NamesOne n t → TargetIsThere m t
there m n (Internal object offset) are one = subst (IsNumberOf object) are.objects one
there m n (Ordinal import ordinal) are one = subst (IsNumberOf import) are.imports one
there m n (ByName import k) are one = (subst (IsNumberOf import) are.imports one.0, subst (λ (count : ℕ). k < count) are.procs one.1)
there m n (Own ordinal) are one = sym (are.ordinals ordinal) ∙ one

named : (m : Image) (n : Named) (t : FixTarget) → AreNamed m n → TargetIsThere m t → NamesOne n t
named m n (Internal object offset) are one = subst (IsNumberOf object) (sym are.objects) one
named m n (Ordinal import ordinal) are one = subst (IsNumberOf import) (sym are.imports) one
named m n (ByName import k) are one = (subst (IsNumberOf import) (sym are.imports) one.0, subst (λ (count : ℕ). k < count) (sym are.procs) one.1)
named m n (Own ordinal) are one = are.ordinals ordinal ∙ one

-- ---- the image

pub by_parts : (m : Image) (n : Named) → AreNamed m n → PartsFit m → All (All (PageFits n)) m.fixes → CanBeWritten m
by_parts m n are parts fit = record {
  sizes = parts.sizes;
  pages = parts.pages;
  fixes = λ i a p j b q. (fit i a p j b q).records;
  targets = λ i a p j b q k c r. there m n (get_or (get_or (get_or m.fixes i a) j b) k c).target are ((fit i a p j b q).targets k c r);
  start = parts.start;
  stack = parts.stack;
  named = parts.named;
  exports = parts.exports;
}

pub parts_of : (m : Image) → CanBeWritten m → PartsFit m
parts_of m can = record {
  sizes = can.sizes;
  pages = can.pages;
  start = can.start;
  stack = can.stack;
  named = can.named;
  exports = can.exports;
}

pub fixes_of : (m : Image) (n : Named) → AreNamed m n → CanBeWritten m → All (All (PageFits n)) m.fixes
fixes_of m n are can = λ i a p j b q. record {
  records = can.fixes i a p j b q;
  targets = λ k c r. named m n (get_or (get_or (get_or m.fixes i a) j b) k c).target are (can.targets i a p j b q k c r);
}

-- ---- two lists, item by item

pub as_many : {A B : Type 0} (f : A → ℕ) (g : B → ℕ) (xs : List A) (ys : List B) → map f xs ≡ map g ys → length xs ≡ length ys
as_many f g xs ys same = sym (length-map xs f) ∙ ap length same ∙ length-map ys g

pub alike_at : {A B : Type 0} (f : A → ℕ) (g : B → ℕ) (xs : List A) (ys : List B) (i : ℕ) (a : A) (b : B) → i < length xs → i < length ys → map f xs ≡ map g ys → f (get_or xs i a) ≡ g (get_or ys i b)
alike_at f g xs ys i a b p q same =
    sym (get_or-map f xs i a 0 p) ∙ ap (λ ns. get_or ns i 0) same ∙ get_or-map g ys i b 0 q

-- ---- each item so far

pub more : {A : Type 0} (P : A → Type 0) (xs : List A) (i : ℕ) (d x : A) → i < length xs → x ≡ slice_index_or xs i d → All P (take i xs) → P x → All P (take (i + 1) xs)
more P xs i d x there is each here =
    let front : take (i + 1) xs ≡ take i xs ++ x ∷ [] = take_more xs i d there ∙ ap (λ y. take i xs ++ y ∷ []) (sym is) in
    subst (All P) (sym front) (All-push P (take i xs) x each here)

pub ended : {A : Type 0} (P : A → Type 0) (xs : List A) (i : ℕ) → length xs ≤ i → All P (take i xs) → All P xs
ended P xs i end each = subst (All P) (take_all i xs end) each

pub item : {A : Type 0} (P : A → Type 0) (xs : List A) (i : ℕ) (d x : A) → i < length xs → x ≡ slice_index_or xs i d → All P xs → P x
item P xs i d x there is each = subst P (sym is) (All-get_or P xs i d there each)

-- The first object that ends past the arenas, found one object after the other.
use Rattle.std.specs.Prelude.{◌≡◌, ℕ, ◌+◌, ◌<◌, Bool, true, false, cond, nat_lt, List, ◌∷◌, Option, Some, map, drop, length, find, refl}
use Rattle.std.specs.Option.{option_map}
use Rattle.std.specs.List.{enumerate_from}
use Rattle.std.proofs.Common.{ap, sym, ◌∙◌, arith, get_or}
use Rattle.std.proofs.lemmas.List.{drop_more}
use Rattle.lx_types.specs.declared.limits.TheConstants.{SHARED_END}
use Rattle.lx_types.specs.declared.object.ObjHead.{ObjHead}
use Rattle.link_model.specs.declared.symbols.LaidObject.{LaidObject}
use Rattle.image_model.specs.LinkLaws.{laid}
use Rattle.image_pages.specs.declared.refusals.ImageRefusal.{ImageRefusal}
use Rattle.image_pages.specs.declared.refusals.ImageRefusal.TheVariants.{ArenaFull}
use Rattle.image_pages.specs.Memory.{full_from}

abbrev pub past : ObjHead → Bool
past o = nat_lt SHARED_END (o.base + o.size)

abbrev pub full_at : List ObjHead → ℕ → Option ImageRefusal
full_at os i = full_from (1 + i) (map laid (drop i os))

begins : (os : List ObjHead) (i : ℕ) (o : ObjHead) → i < length os → o ≡ get_or os i o → full_at os i ≡ full_from (1 + i) (laid o ∷ map laid (drop (i + 1) os))
begins os i o h is =
    ap (λ (xs : List ObjHead). full_from (1 + i) (map laid xs)) (drop_more os i o h ∙ ap (λ (x : ObjHead). x ∷ drop (i + 1) os) (sym is))

full_by : (b : Bool) (i : ℕ) (o : LaidObject) (rest : Option (ℕ × LaidObject)) → option_map (λ q. ArenaFull q.0 q.1.size) (cond b (Some (1 + i, o)) rest) ≡ cond b (Some (ArenaFull (1 + i) o.size)) (option_map (λ q. ArenaFull q.0 q.1.size) rest)
full_by true i o rest = refl
full_by false i o rest = refl

abbrev after : List ObjHead → ℕ → Option (ℕ × LaidObject)
after os i = find (λ q. nat_lt SHARED_END (q.1.base + q.1.size)) (enumerate_from (1 + i + 1) (map laid (drop (i + 1) os)))

pub full_more : (os : List ObjHead) (i : ℕ) (o : ObjHead) (r : Option ImageRefusal) → i < length os → o ≡ get_or os i o → past o ≡ false → full_at os i ≡ r → full_at os (i + 1) ≡ r
full_more os i o r h is apart was =
    let next : 1 + i + 1 ≡ 1 + (i + 1) = omega arith in
    sym (begins os i o h is ∙ full_by (past o) i (laid o) (after os i) ∙ ap (λ (b : Bool). cond b (Some (ArenaFull (1 + i) o.size)) (option_map (λ q. ArenaFull q.0 q.1.size) (after os i))) apart ∙ ap (λ (n : ℕ). full_from n (map laid (drop (i + 1) os))) next) ∙ was

pub full_here : (os : List ObjHead) (i number : ℕ) (o : ObjHead) (r : Option ImageRefusal) → i < length os → o ≡ get_or os i o → past o ≡ true → number ≡ i + 1 → full_at os i ≡ r → Some (ArenaFull number o.size) ≡ r
full_here os i number o r h is met counted was =
    let place : number ≡ 1 + i = omega (arith, counted) in
    ap (λ (n : ℕ). Some (ArenaFull n o.size)) place
    ∙ sym (begins os i o h is ∙ full_by (past o) i (laid o) (after os i) ∙ ap (λ (b : Bool). cond b (Some (ArenaFull (1 + i) o.size)) (option_map (λ q. ArenaFull q.0 q.1.size) (after os i))) met) ∙ was

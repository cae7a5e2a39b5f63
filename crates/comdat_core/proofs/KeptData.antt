-- The data of modules that is kept, and that of one more.
use Rattle.std.specs.Prelude.{◌≡◌, ℕ, Bool, true, false, cond, ◌==◌, List, [], Some, map, slice_get, refl}
use Rattle.std.specs.List.{range_with_len}
use Rattle.std.specs.Ordering.{nat_cmp, is_eq}
use Rattle.std.specs.BTreeMap.{BTreeMap, get, is_at}
use Rattle.std.specs.Map.{lookup}
use Rattle.std.proofs.Common.{ap, sym, ◌∙◌, arith, subst}
use Rattle.std.proofs.lemmas.Bool.{eqb-true}
use Rattle.std.proofs.lemmas.Bool.Decides.{nat_tests}
use Rattle.std.proofs.lemmas.Option.{none-some, same_Some}
use Rattle.obj_types.specs.declared.object.ObjModule.{ObjModule}
use Rattle.link_fix.specs.declared.images.Images.{Images}
use Rattle.link_fix.specs.Images.{byte_of}
use Rattle.link_model.specs.Clash as rules
use Rattle.comdat_core.specs.declared.taking.Placed.{Placed}
use Rattle.comdat_core.specs.Taking.{shown}
use Rattle.comdat_core.specs.ModuleData.{IsAt, IsDataOf, HasData}

-- Rows that are the data of its module have the bytes of a COMDAT.
pub row_bytes : (x : Placed) (rows : Images) (len : ℕ) → IsDataOf x.own.owner.now rows → map (byte_of rows x.own.comdat.now.seg) (range_with_len 0 len) ≡ map (rules.byte_of (shown x.own)) (range_with_len 0 len)
row_bytes x rows len are = ap (λ (f : ℕ → ℕ). map f (range_with_len 0 len)) (λ j o. are x.own.comdat.now.seg o j)

equal_places : (p q : ℕ) → is_eq (nat_cmp p q) ≡ (p == q)
equal_places p q = grind (arith, nat_tests)

-- The data of one more module.
pub data_put : (modules : List ObjModule) (x : Placed) (old new : BTreeMap ℕ Images) (rows : Images) → HasData modules old → IsAt modules x → IsDataOf x.own.owner.now rows
    → ((q : ℕ) → get nat_cmp new q ≡ cond (is_at (nat_cmp x.place) q) (Some rows) (get nat_cmp old q)) → HasData modules new
data_put modules x old new rows has at are puts = λ place found m held there.
    by place found m there (x.place == place) refl (sym (puts place ∙ ap (λ (b : Bool). cond b (Some rows) (get nat_cmp old place)) (equal_places x.place place)) ∙ held)
  where
    by : (place : ℕ) (found : Images) (m : ObjModule) → slice_get modules place ≡ Some m → (b : Bool) → (x.place == place) ≡ b → cond b (Some rows) (get nat_cmp old place) ≡ Some found → IsDataOf m found
    by place found m there true e held =
        let owner : x.own.owner.now ≡ m = same_Some x.own.owner.now m (sym at ∙ ap (slice_get modules) (eqb-true x.place place e) ∙ there) in
        subst (λ (o : ObjModule). IsDataOf o found) owner (subst (IsDataOf x.own.owner.now) (same_Some rows found held) are)
    by place found m there false e held = has place found m held there

pub none_kept : (modules : List ObjModule) (kept : BTreeMap ℕ Images) → kept.entries ≡ [] → HasData modules kept
none_kept modules kept empty = λ place rows m held there. absurd (none-some rows (sym (ap (lookup (is_at (nat_cmp place))) empty) ∙ held))

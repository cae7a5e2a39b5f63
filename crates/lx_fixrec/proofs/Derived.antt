-- The derived comparison is that by fields.
use Rattle.std.proofs.Common.{◌≡◌, ℕ, Bool, true, false, eqb, ◌&&◌, Option, Some, refl, ap, sym, subst, ◌∙◌}
use Rattle.std.specs.Cmp.{IsEquivalence}
use Rattle.indexmap.specs.IndexMap.{get}
use Rattle.lx_types.specs.declared.fix.FixTarget.{FixTarget}
use Rattle.lx_types.specs.declared.fix.FixTarget.TheVariants.{Internal, Ordinal, Named, Own}
use Rattle.lx_model.specs.Module.{same_target}
use Rattle.lx_model.specs.JoinedRecords.{same_alias}
use Rattle.lx_fixrec.specs.declared.lists.Shared.{Shared}
use Rattle.lx_fixrec.specs.declared.lists.Firsts.{Firsts}
use Rattle.lx_fixrec.specs.Lists.{same_shared, first_in, Puts}
use Rattle.lx_fixrec.proofs.Shared.{shared_is, shared_self, shared_turned}
use Rattle.lx_fixrec.specs.contracts.lists.SharedPartialEq.TheImpl as derived
use Rattle.lx_types.specs.contracts.fix.FixTargetPartialEq.TheImpl as target

target_same : (t u : FixTarget) → target.eq-value.it t u ≡ same_target t u
target_same (Internal o x) (Internal p y) = refl
target_same (Internal o x) (Ordinal p y) = refl
target_same (Internal o x) (Named p y) = refl
target_same (Internal o x) (Own y) = refl
target_same (Ordinal o x) (Internal p y) = refl
target_same (Ordinal o x) (Ordinal p y) = refl
target_same (Ordinal o x) (Named p y) = refl
target_same (Ordinal o x) (Own y) = refl
target_same (Named o x) (Internal p y) = refl
target_same (Named o x) (Ordinal p y) = refl
target_same (Named o x) (Named p y) = refl
target_same (Named o x) (Own y) = refl
target_same (Own x) (Internal p y) = refl
target_same (Own x) (Ordinal p y) = refl
target_same (Own x) (Named p y) = refl
target_same (Own x) (Own y) = refl

by_fields : (c d : ℕ) (a b : Bool) (t u : FixTarget) (m n : ℕ) →
    derived.eq-value.it (record { code = c; alias = a; target = t; additive = m }) (record { code = d; alias = b; target = u; additive = n }) ≡ (eqb c d && (same_alias a b && (target.eq-value.it t u && eqb m n)))
by_fields c d true true t u m n = refl
by_fields c d true false t u m n = refl
by_fields c d false true t u m n = refl
by_fields c d false false t u m n = refl

pub derived_at : (a b : Shared) → derived.eq-value.it a b ≡ same_shared a b
derived_at a b =
    by_fields a.code b.code a.alias b.alias a.target b.target a.additive b.additive
    ∙ ap (λ (t : Bool). eqb a.code b.code && (same_alias a.alias b.alias && (t && eqb a.additive b.additive))) (target_same a.target b.target)

pub derived_is : derived.eq-value.it ≡ same_shared
derived_is = λ i a b. derived_at a b i

pub first_is : (l : Firsts) (k : Shared) → get derived.eq-value.it l.places k ≡ first_in l k
first_is l k = ap (λ (e : Shared → Shared → Bool). get e l.places k) derived_is

-- what a call says by the derived comparison
pub puts_by : (old : Firsts) (k : Shared) (place : ℕ) (before : Option ℕ) (new : Firsts) → before ≡ first_in old k → get derived.eq-value.it new.places k ≡ Some place →
    ((q : Shared) → derived.eq-value.it k q ≡ false → get derived.eq-value.it new.places q ≡ get derived.eq-value.it old.places q) → Puts old k place before new
puts_by old k place before new had put others = record {
  before_is = had;
  put = sym (first_is new k) ∙ put;
  others = λ q apart. sym (first_is new q) ∙ others q (derived_at k q ∙ apart) ∙ first_is old q;
}

pub derived_equiv : IsEquivalence derived.eq-value.it
derived_equiv = subst (λ (e : Shared → Shared → Bool). IsEquivalence e) (sym derived_is) (record {
  refl = shared_self;
  symm = λ a b. sym (shared_turned a b (same_shared a b) refl);
  congr = λ a b d e. ap (λ (k : Shared). same_shared k d) (shared_is a b e);
})

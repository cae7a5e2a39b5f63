-- What the sources of a list share is compared by its fields.
use Rattle.std.proofs.Common.{◌≡◌, Bool, true, false, eqb, ◌&&◌, refl, sym, subst}
use Rattle.std.proofs.lemmas.Bool.{and_parts, eq-eqb, eqb-true}
use Rattle.lx_model.proofs.Once.{same_is}
use Rattle.lx_types.specs.declared.fix.FixTarget.{FixTarget}
use Rattle.lx_types.specs.declared.fix.FixTarget.TheVariants.{Internal, Ordinal, Named, Own}
use Rattle.lx_model.specs.Module.{same_target}
use Rattle.lx_model.specs.JoinedRecords.{same_alias}
use Rattle.lx_fixrec.specs.declared.lists.Shared.{Shared}
use Rattle.lx_fixrec.specs.Lists.{same_shared}

pub target_self : (t : FixTarget) → same_target t t ≡ true
target_self (Internal o x) = rw (eq-eqb o o refl, eq-eqb x x refl) refl
target_self (Ordinal o x) = rw (eq-eqb o o refl, eq-eqb x x refl) refl
target_self (Named o x) = rw (eq-eqb o o refl, eq-eqb x x refl) refl
target_self (Own x) = eq-eqb x x refl

pub alias_is : (a b : Bool) → same_alias a b ≡ true → a ≡ b
alias_is true true e = refl
alias_is true false e = absurd cc
alias_is false true e = absurd cc
alias_is false false e = refl

pub alias_self : (a : Bool) → same_alias a a ≡ true
alias_self true = refl
alias_self false = refl

pub shared_is : (a b : Shared) → same_shared a b ≡ true → a ≡ b
shared_is a b e =
    let last : (same_target a.target b.target && eqb a.additive b.additive) ≡ true = (and_parts (same_alias a.alias b.alias) _ (and_parts (eqb a.code b.code) _ e).1).1 in
    let code = eqb-true a.code b.code (and_parts (eqb a.code b.code) _ e).0 in
    let alias = alias_is a.alias b.alias (and_parts (same_alias a.alias b.alias) _ (and_parts (eqb a.code b.code) _ e).1).0 in
    let target = same_is a.target b.target (and_parts (same_target a.target b.target) _ last).0 in
    let additive = eqb-true a.additive b.additive (and_parts (same_target a.target b.target) _ last).1 in
    λ i. record { code = code i; alias = alias i; target = target i; additive = additive i }

pub shared_self : (a : Shared) → same_shared a a ≡ true
shared_self a = rw (eq-eqb a.code a.code refl, alias_self a.alias, target_self a.target, eq-eqb a.additive a.additive refl) refl

pub shared_turned : (a b : Shared) (t : Bool) → same_shared a b ≡ t → same_shared b a ≡ t
shared_turned a b true e = subst (λ (x : Shared). same_shared x a ≡ true) (shared_is a b e) (shared_self a)
shared_turned a b false e = by (same_shared b a) refl
  where
    by : (t : Bool) → same_shared b a ≡ t → same_shared b a ≡ false
    by false is = is
    by true is = subst (λ (x : Shared). same_shared x a ≡ false) (sym (shared_is b a is)) (absurd (let h : same_shared a b ≡ true = subst (λ (x : Shared). same_shared a x ≡ true) (sym (shared_is b a is)) (shared_self a) in cc))

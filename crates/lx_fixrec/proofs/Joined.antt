-- Sources that join differ in their offsets alone.
use Rattle.std.proofs.Common.{◌≡◌, ℕ, Bool, true, false, eqb, ◌&&◌, not, sym, ◌∙◌}
use Rattle.std.proofs.lemmas.Bool.{not-true, and_parts, eqb-true}
use Rattle.lx_model.proofs.Once.{same_is}
use Rattle.lx_types.specs.declared.fix.Source.{Source}
use Rattle.lx_types.specs.declared.fix.FixTarget.{FixTarget}
use Rattle.lx_types.specs.declared.fix.Fix.{Fix}
use Rattle.lx_model.specs.Sources.{code_of}
use Rattle.lx_model.specs.Module.{same_target}
use Rattle.lx_model.specs.JoinedRecords.{crosses, same_alias, joins}
use Rattle.lx_fixrec.proofs.Shared.{alias_is}
use Rattle.lx_fixrec.proofs.Others.{source_is}

pub record Joined (f g : Fix) : Type 0 where
  pub source : f.source ≡ g.source
  pub alias : f.alias ≡ g.alias
  pub target : f.target ≡ g.target
  pub additive : f.additive ≡ g.additive
  pub first_within : crosses f ≡ false
  pub within : crosses g ≡ false

pub joined : (f g : Fix) → joins f g ≡ true → Joined f g
joined f g h =
    let code = eqb (code_of f.source) (code_of g.source) in
    let alias = same_alias f.alias g.alias in
    let target = same_target f.target g.target in
    let additive = eqb f.additive g.additive in
    let five = (and_parts (code && alias && target && additive && not (crosses f)) (not (crosses g)) h).0 in
    let four = (and_parts (code && alias && target && additive) (not (crosses f)) five).0 in
    let three = (and_parts (code && alias && target) additive four).0 in
    let two = (and_parts (code && alias) target three).0 in
    record {
      source = source_is f.source g.source (eqb-true (code_of f.source) (code_of g.source) (and_parts code alias two).0);
      alias = alias_is f.alias g.alias (and_parts code alias two).1;
      target = same_is f.target g.target (and_parts (code && alias) target three).1;
      additive = eqb-true f.additive g.additive (and_parts (code && alias && target) additive four).1;
      first_within = not-true (crosses f) (and_parts (code && alias && target && additive) (not (crosses f)) five).1;
      within = not-true (crosses g) (and_parts (code && alias && target && additive && not (crosses f)) (not (crosses g)) h).1;
    }

-- a source is that of its record at its own offset
pub same_fix : (f g : Fix) → Joined f g → record { source = f.source; alias = f.alias; offset = g.offset; target = f.target; additive = f.additive } ≡ g
same_fix f g j = λ i. record { source = j.source i; alias = j.alias i; offset = g.offset; target = j.target i; additive = j.additive i }

-- sources that join are joined by the same ones, and join the same ones
pub joins_alike : (f g x : Fix) → Joined f g → joins f x ≡ joins g x
joins_alike f g x j =
    let bits : Source → Bool → FixTarget → ℕ → Bool → Bool = λ s a t n c. eqb (code_of s) (code_of x.source) && same_alias a x.alias && same_target t x.target && eqb n x.additive && not c && not (crosses x) in
    λ i. bits (j.source i) (j.alias i) (j.target i) (j.additive i) ((j.first_within ∙ sym j.within) i)

pub joined_alike : (f g x : Fix) → Joined f g → joins x f ≡ joins x g
joined_alike f g x j =
    let bits : Source → Bool → FixTarget → ℕ → Bool → Bool = λ s a t n c. eqb (code_of x.source) (code_of s) && same_alias x.alias a && same_target x.target t && eqb x.additive n && not (crosses x) && not c in
    λ i. bits (j.source i) (j.alias i) (j.target i) (j.additive i) ((j.first_within ∙ sym j.within) i)

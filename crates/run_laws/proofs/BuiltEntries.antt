-- Asked for a key, a module that was built answers by the exports of its link.
use Rattle.std.proofs.Common.{◌≡◌, ◌≢◌, ℕ, suc, ◌==◌, Bool, true, false, cond, List, [], ◌∷◌, find, bytes_eq, Option, Some, None, refl, sym, ◌∙◌, ap, arith}
use Rattle.std.specs.Prelude.{Contains}
use Rattle.std.specs.List.{AllByRecursion}
use Rattle.std.proofs.lemmas.Bool.{eqb-true, eq-eqb}
use Rattle.std.proofs.lemmas.List.Elements.{All-from_recursion}
use Rattle.std.proofs.lemmas.Slice.Eq.{bytes_eq-Decides}
use Rattle.lx_types.specs.declared.entry.EntryKey.{EntryKey}
use Rattle.lx_types.specs.declared.entry.EntryKey.TheVariants.{Ordinal, Named}
use Rattle.link_model.proofs.Members.{In, here, there, found_as}
use Rattle.link_model.specs.Exports.{ExportTarget, At, Forward, Export, Out}
use Rattle.link_model.specs.Link.{Link}
use Rattle.lx_model.specs.Entries.{EntryOf}
use Rattle.layer_laws.specs.EntryLaws as laws
use Rattle.load_model.specs.Modules.{Library}
use Rattle.run_model.specs.BuiltModules.{is_asked, leads_to, leads_or_none, entry_among}

contained : {X : Type 0} {x : X} {xs : List X} → In x xs → Contains xs x
contained here = (0, omega arith, refl)
contained (there i) = let r = contained i in (suc r.0, omega (arith, r.1), r.2)

none_passes : {X : Type 0} (P : X → Type 0) (test : X → Bool) → ((x : X) → test x ≡ false → P x) → (xs : List X) → find test xs ≡ None → AllByRecursion P xs
none_passes P test holds [] e = tt
none_passes P test holds (x ∷ xs) e = step (test x) refl e (λ h. none_passes P test holds xs h)
  where
    step : (b : Bool) → test x ≡ b → cond b (Some x) (find test xs) ≡ None → (find test xs ≡ None → AllByRecursion P xs) → P x × AllByRecursion P xs
    step true is e rest = cc
    step false is e rest = (holds x is, rest e)

leads_alike : (lib : Library) (m : ℕ) (t : ExportTarget) → laws.leads_to lib m t ≡ leads_to lib m t
leads_alike lib m (At object offset) = refl
leads_alike lib m (Forward pair) = refl

other_number : (n k : ℕ) → (n == k) ≡ false → n ≢ k
other_number n k is e = let same = eq-eqb n k e in cc

other_name : (a b : List ℕ) → bytes_eq a b ≡ false → a ≢ b
other_name a b is e = let same = (bytes_eq-Decides a b).1 e in cc

module _ (l : Link) (lib : Library) (m : ℕ) (are : laws.AreEntries l lib m) where
  by_ordinal : (n : ℕ) → EntryOf lib m (Ordinal n) ≡ entry_among lib m (Out l) (Ordinal n)
  by_ordinal n = step (find (is_asked (Ordinal n)) (Out l)) refl
    where
      test : Export → Bool
      test = is_asked (Ordinal n)

      step : (o : Option Export) → find test (Out l) ≡ o → EntryOf lib m (Ordinal n) ≡ leads_or_none lib m (find test (Out l))
      step None is =
          are.no_other_ordinal n (All-from_recursion (λ (x : Export). x.ordinal ≢ n) (Out l) (none_passes (λ (x : Export). x.ordinal ≢ n) test (λ x e. other_number x.ordinal n e) (Out l) is))
          ∙ ap (leads_or_none lib m) (sym is)
      step (Some x) is =
          let found = found_as test (Out l) x is in
          ap (λ k. EntryOf lib m (Ordinal k)) (sym (eqb-true x.ordinal n found.passes)) ∙ are.by_ordinal x (contained found.inside) ∙ leads_alike lib m x.target
          ∙ ap (leads_or_none lib m) (sym is)

  by_name : (name : List ℕ) → EntryOf lib m (Named name) ≡ entry_among lib m (Out l) (Named name)
  by_name name = step (find (is_asked (Named name)) (Out l)) refl
    where
      test : Export → Bool
      test = is_asked (Named name)

      step : (o : Option Export) → find test (Out l) ≡ o → EntryOf lib m (Named name) ≡ leads_or_none lib m (find test (Out l))
      step None is =
          are.no_other_name name (All-from_recursion (λ (x : Export). x.name ≢ name) (Out l) (none_passes (λ (x : Export). x.name ≢ name) test (λ x e. other_name x.name name e) (Out l) is))
          ∙ ap (leads_or_none lib m) (sym is)
      step (Some x) is =
          let found = found_as test (Out l) x is in
          ap (λ k. EntryOf lib m (Named k)) (sym ((bytes_eq-Decides x.name name).0 found.passes)) ∙ are.by_name x (contained found.inside) ∙ leads_alike lib m x.target
          ∙ ap (leads_or_none lib m) (sym is)

  pub by_key : (key : EntryKey) → EntryOf lib m key ≡ entry_among lib m (Out l) key
  by_key (Ordinal n) = by_ordinal n
  by_key (Named name) = by_name name

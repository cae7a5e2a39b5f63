-- No link of a module is refused.
use Rattle.std.proofs.Common.{◌≡◌, ◌≢◌, ℕ, zero, suc, ◌+◌, ◌-◌, ◌^◌, ◌<◌, Bool, true, false, List, [], ◌∷◌, ◌++◌, decimal, map, Option, Some, None, refl, ap, sym, ◌∙◌, subst, arith}
use Rattle.std.specs.Prelude.{IfSome, bytes_eq}
use Rattle.std.specs.List.{range_with_len, filter_map, cons_option}
use Rattle.std.specs.Option.{option_map, option_and_then}
use Rattle.std.proofs.lemmas.Bool.{ltb-true, false_from_ne_true}
use Rattle.std.proofs.lemmas.Fmt.{decimal_injective}
use Rattle.std.proofs.lemmas.List.{append-nil}
use Rattle.std.proofs.lemmas.Slice.Eq.{bytes_eq-Decides}
use Rattle.lx_types.specs.Names.{uppercase}
use Rattle.obj_types.specs.declared.object.FixAt.{FixAt}
use Rattle.obj_types.specs.declared.object.ObjModule.{ObjModule}
use Rattle.obj_types.specs.declared.object.Piece.{Piece}
use Rattle.link_model.specs.Words.{first_of}
use Rattle.link_model.specs.Link.{Link}
use Rattle.link_model.specs.SymbolRefusals.{sym_refusal}
use Rattle.link_model.specs.LayoutRefusals.{lay_refusal}
use Rattle.link_model.specs.Goals.{Target, location, target_of}
use Rattle.link_model.specs.Fixups.{Fixup, fixup_at, fixup_of, fixups, fix_refusal}
use Rattle.link_model.specs.Exports.{entry_refusal}
use Rattle.link_model.specs.Start.{start_outside}
use Rattle.link_model.specs.Refusal.{place_refusal, link_refusal}
use Rattle.link_model.proofs.Rules.{rules}
use Rattle.link_model.proofs.KeyTests.{name_itself}
use Rattle.gen_model.specs.Modules.{public_name, reference, refers, gen_pieces, gen_fixes}
use Rattle.gen_laws.specs.Laws.{InputsLink, IsOne}
use Rattle.gen_laws.proofs.FirstShape.{Names, its_shape, link_is, names_of, shape, shape_link}

-- ---- fixups

put : (l : Link) (n k i : ℕ) (m : ObjModule) (target : Option Target) (place : Option (ℕ × ℕ))
    → IfSome (option_and_then (λ t. option_map (fixup_at l n m (reference k i) t) place) target) (λ q. fix_refusal q ≡ None)
unfolding fix_refusal
put l n k i m None place = tt
put l n k i m (Some t) None = tt
put l n k i m (Some t) (Some q) = refl

not_refused : (l : Link) (n k i : ℕ) (m : ObjModule) → IfSome (fixup_of l n m (reference k i)) (λ q. fix_refusal q ≡ None)
not_refused l n k i m = put l n k i m (target_of l n (reference k i).goal) (location l n (reference k i))

after : (o : Option Fixup) (rest : List Fixup) → IfSome o (λ q. fix_refusal q ≡ None)
    → first_of (map fix_refusal rest ++ None ∷ []) ≡ None → first_of (map fix_refusal (cons_option o rest) ++ None ∷ []) ≡ None
after None rest first others = others
after (Some q) rest first others = rw first others

none_refused : (l : Link) (m : ObjModule) (k a n : ℕ)
    → first_of (map fix_refusal (filter_map (fixup_of l 1 m) (map (reference k) (range_with_len a n))) ++ None ∷ []) ≡ None
none_refused l m k a zero = refl
none_refused l m k a (suc n) =
    after (fixup_of l 1 m (reference k a)) (filter_map (fixup_of l 1 m) (map (reference k) (range_with_len (a + 1) n)))
    (not_refused l 1 k a m) (none_refused l m k (a + 1) n)

its_places : (b : Bool) (names : Names) (k n : ℕ) (pieces : List Piece) → place_refusal (shape_link b names pieces (map (reference k) (range_with_len 0 n))) ≡ None
unfolding place_refusal fixups start_outside
its_places b names k n pieces =
    let fixes : List FixAt = map (reference k) (range_with_len 0 n) in
    let m : ObjModule = shape b names pieces fixes in
    let l : Link = shape_link b names pieces fixes in
    ap (λ fs. first_of (map fix_refusal fs ++ None ∷ [])) (append-nil (filter_map (fixup_of l 1 m) fixes)) ∙ none_refused l m k 0 n

-- ---- names, layout and exports, whatever the names are

its_names : (b : Bool) (n : Names) (pieces : List Piece) (fixes : List FixAt) → (b ≡ true → bytes_eq n.own n.other ≡ false)
    → sym_refusal (shape_link b n pieces fixes) ≡ None
unfolding rules
its_names true n pieces fixes apart = rw (apart refl, name_itself n.own, name_itself n.other, name_itself (uppercase n.from), name_itself n.other) refl
its_names false n pieces fixes apart = rw (name_itself n.own) refl

its_layout : (b : Bool) (n : Names) (pieces : List Piece) (fixes : List FixAt) → lay_refusal (shape_link b n pieces fixes) ≡ None
unfolding rules
its_layout true n pieces fixes = refl
its_layout false n pieces fixes = refl

its_entries : (b : Bool) (n : Names) (pieces : List Piece) (fixes : List FixAt) → entry_refusal (shape_link b n pieces fixes) ≡ None
unfolding rules
its_entries true n pieces fixes = refl
its_entries false n pieces fixes = refl

-- ---- the links

publics_differ : (m n : ℕ) → m ≢ n → m < 2 ^ 64 → n < 2 ^ 64 → bytes_eq (public_name m) (public_name n) ≡ false
publics_differ m n other hm hn =
    false_from_ne_true _ (λ e. let same : public_name m ≡ public_name n = (bytes_eq-Decides (public_name m) (public_name n)).0 e in
    let digits : decimal m ≡ decimal n = cc in other (decimal_injective m n hm hn digits))

no_refusal : (k n : ℕ) (pieces : List Piece) (fixes : List FixAt) → IsOne k → fixes ≡ map (reference k) (range_with_len 0 n)
    → link_refusal (shape_link (refers k) (names_of k) pieces fixes) ≡ None
unfolding link_refusal
no_refusal k n pieces fixes one are =
    let l : Link = shape_link (refers k) (names_of k) pieces fixes in
    let apart = λ (e : refers k ≡ true). publics_differ k (k - 1) (λ same. omega (arith, ltb-true 1 k e)) (omega arith) (omega arith) in
    let names : sym_refusal l ≡ None = its_names (refers k) (names_of k) pieces fixes apart in
    let layout : lay_refusal l ≡ None = its_layout (refers k) (names_of k) pieces fixes in
    let places : place_refusal l ≡ None =
    subst (λ xs. place_refusal (shape_link (refers k) (names_of k) pieces xs) ≡ None) (sym are) (its_places (refers k) (names_of k) k n pieces) in
    let entries : entry_refusal l ≡ None = its_entries (refers k) (names_of k) pieces fixes in
    rw (names, layout, places, entries) refl

pub inputs_linked : InputsLink
inputs_linked k l one is =
    subst (λ x. link_refusal x ≡ None) (sym (link_is k l is ∙ its_shape k)) (no_refusal k 2048 gen_pieces (gen_fixes k) one refl)

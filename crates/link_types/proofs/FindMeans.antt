-- The rows of meanings, external by external.
use Rattle.std.specs.Prelude.{◌≡◌, ℕ, zero, suc, ◌+◌, List, [], ◌∷◌, Option, Some, None, map, slice_get, is_some, refl}
use Rattle.std.specs.List.{enumerate_from}
use Rattle.std.specs.Option.{option_map, option_and_then}
use Rattle.std.proofs.Common.{ap, sym, ◌∙◌, arith, true≢false}
use Rattle.std.proofs.lemmas.Option.{slice_get-map}
use Rattle.obj_types.specs.declared.object.ObjModule.{ObjModule}
use Rattle.obj_types.specs.declared.symbol.Ext.{Ext}
use Rattle.link_model.specs.declared.symbols.SymDef.{SymDef}
use Rattle.link_model.specs.Link.{Link, link_of}
use Rattle.link_model.specs.Symbols.{Sym}
use Rattle.link_types.specs.Finding.{FindsMeanings}

get_numbered : {X : Type 0} (s : ℕ) (xs : List X) (i : ℕ) → slice_get (enumerate_from s xs) i ≡ option_map (λ (x : X). (s + i, x)) (slice_get xs i)
get_numbered s [] i = refl
get_numbered {X} s (x ∷ xs) zero = ap (λ (n : ℕ). let o : Option (ℕ × X) = Some (n, x) in o) (omega arith)
get_numbered {X} s (x ∷ xs) (suc i) = get_numbered (s + 1) xs i ∙ ap (λ (n : ℕ). option_map (λ (y : X). (n, y)) (slice_get xs i)) (omega arith)

-- An external's place in a row of meanings.
in_row : (f : Ext → Option SymDef) (row : List SymDef) (es : List Ext) (j : ℕ) (x : Ext) (o : Option SymDef) → map Some row ≡ map f es → slice_get es j ≡ Some x → slice_get row j ≡ o → o ≡ f x
in_row f row es j x o same at is =
    by o (f x) (ap (option_map (λ (d : SymDef). Some d)) (sym is) ∙ sym (slice_get-map (λ (d : SymDef). Some d) row j) ∙ ap (λ (t : List (Option SymDef)). slice_get t j) same ∙ slice_get-map f es j ∙ ap (option_map f) at)
  where
    by : (o m : Option SymDef) → option_map (λ (d : SymDef). Some d) o ≡ Some m → o ≡ m
    by None m e = absurd (true≢false (sym (ap is_some e)))
    by (Some d) m e = cc

in_rows : (l : Link) (rows : List (List SymDef)) (i j : ℕ) (m : ObjModule) (x : Ext) (r : Option (List SymDef)) → map (map Some) rows ≡ map (λ q. map (Sym l q.0) q.1.exts) (enumerate_from 1 l.modules) → slice_get l.modules i ≡ Some m → slice_get m.exts j ≡ Some x → slice_get rows i ≡ r →
    option_and_then (λ row. slice_get row j) r ≡ Sym l (suc i) x
in_rows l rows i j m x r same at_m at_x is = by r (ap (option_map (map (λ (d : SymDef). Some d))) (sym is) ∙ whole)
  where
    next : 1 + i ≡ suc i
    next = omega arith

    whole : option_map (map (λ (d : SymDef). Some d)) (slice_get rows i) ≡ Some (map (Sym l (suc i)) m.exts)
    whole =
        sym (slice_get-map (map (λ (d : SymDef). Some d)) rows i) ∙ ap (λ (t : List (List (Option SymDef))). slice_get t i) same
        ∙ slice_get-map (λ (q : ℕ × ObjModule). map (Sym l q.0) q.1.exts) (enumerate_from 1 l.modules) i
        ∙ ap (option_map (λ (q : ℕ × ObjModule). map (Sym l q.0) q.1.exts)) (get_numbered 1 l.modules i)
        ∙ ap (λ (o : Option ObjModule). option_map (λ (q : ℕ × ObjModule). map (Sym l q.0) q.1.exts) (option_map (λ (y : ObjModule). (1 + i, y)) o)) at_m
        ∙ ap (λ (n : ℕ). let o : Option (List (Option SymDef)) = Some (map (Sym l n) m.exts) in o) next

    by : (r : Option (List SymDef)) → option_map (map (λ (d : SymDef). Some d)) r ≡ Some (map (Sym l (suc i)) m.exts) → option_and_then (λ row. slice_get row j) r ≡ Sym l (suc i) x
    by None e = absurd (true≢false (sym (ap is_some e)))
    by (Some row) e = let inner : map (λ (d : SymDef). Some d) row ≡ map (Sym l (suc i)) m.exts = cc in in_row (Sym l (suc i)) row m.exts j x (slice_get row j) inner at_x refl

pub finds_meanings : FindsMeanings
finds_meanings input s zero e m x bound at_m at_x = absurd (true≢false (sym (ap is_some at_m)))
finds_meanings input s (suc i) zero m x bound at_m at_x = absurd (true≢false (sym (ap is_some at_x)))
finds_meanings input s (suc i) (suc j) m x bound at_m at_x =
    in_rows (link_of input s.chosen) s.meanings i j m x (slice_get s.meanings i) bound.symbols.meanings at_m at_x refl

-- The meanings of externals by module and index.
use Rattle.std.specs.Prelude.{◌≡◌, ℕ, zero, suc, ◌+◌, List, [], ◌∷◌, Option, Some, None, map, slice_get, refl}
use Rattle.std.specs.Option.{option_map, option_and_then}
use Rattle.std.specs.List.{enumerate_from}
use Rattle.std.proofs.Common.{ap, sym, ◌∙◌, arith}
use Rattle.obj_types.specs.Items.{item}
use Rattle.obj_types.specs.declared.object.ObjModule.{ObjModule}
use Rattle.obj_types.specs.declared.symbol.Ext.{Ext}
use Rattle.link_model.specs.declared.symbols.SymDef.{SymDef}
use Rattle.link_model.specs.Link.{Link, chosen_module}
use Rattle.link_model.specs.Symbols.{Sym}
use Rattle.link_types.specs.Symbols.{SymbolTable}
use Rattle.link_types.proofs.Numbered.{item-mapped}
use Rattle.link_place.specs.Meanings.{HasMeanings}

get_numbered : {X Y : Type 0} (g : ℕ × X → Y) (b : ℕ) (ms : List X) (i : ℕ) → slice_get (map g (enumerate_from b ms)) i ≡ option_map (λ m. g (b + i, m)) (slice_get ms i)
get_numbered g b [] i = refl
get_numbered {X} {Y} g b (m ∷ ms) zero = let e : b ≡ b + 0 = omega arith in ap (λ (k : ℕ). Some (g (k, m))) e
get_numbered {X} {Y} g b (m ∷ ms) (suc i) =
    let e : b + 1 + i ≡ b + suc i = omega arith in
    get_numbered g (b + 1) ms i ∙ ap (λ (k : ℕ). option_map (λ (x : X). g (k, x)) (slice_get ms i)) e

item_numbered : {X Y : Type 0} (g : ℕ × X → Y) (ms : List X) (n : ℕ) → item (map g (enumerate_from 1 ms)) n ≡ option_map (λ m. g (n, m)) (item ms n)
item_numbered g ms zero = refl
item_numbered {X} g ms (suc i) =
    let e : 1 + i ≡ suc i = omega arith in
    get_numbered g 1 ms i ∙ ap (λ (k : ℕ). option_map (λ (x : X). g (k, x)) (slice_get ms i)) e

-- The value in a row of values that may be none.
abbrev told : ℕ → Option (List (Option SymDef)) → Option SymDef
told index o = option_and_then (λ row. option_and_then (λ (x : Option SymDef). x) (item row index)) o

flat_some : (o : Option SymDef) → option_and_then (λ (x : Option SymDef). x) (option_map Some o) ≡ o
flat_some None = refl
flat_some (Some d) = refl

flat_map_of : (f : Ext → Option SymDef) (o : Option Ext) → option_and_then (λ (x : Option SymDef). x) (option_map f o) ≡ option_and_then f o
flat_map_of f None = refl
flat_map_of f (Some e) = refl

in_rows : (index : ℕ) (o : Option (List SymDef)) → told index (option_map (map Some) o) ≡ option_and_then (λ row. item row index) o
in_rows index None = refl
in_rows index (Some row) = ap (option_and_then (λ (x : Option SymDef). x)) (item-mapped Some row index) ∙ flat_some (item row index)

in_module : (l : Link) (n index : ℕ) (o : Option ObjModule) → told index (option_map (λ m. map (Sym l n) m.exts) o) ≡ option_and_then (λ m. option_and_then (Sym l n) (item m.exts index)) o
in_module l n index None = refl
in_module l n index (Some m) = ap (option_and_then (λ (x : Option SymDef). x)) (item-mapped (Sym l n) m.exts index) ∙ flat_map_of (Sym l n) (item m.exts index)

pub has-meanings : (l : Link) (s : SymbolTable) → map (map Some) s.meanings ≡ map (λ q. map (Sym l q.0) q.1.exts) (enumerate_from 1 l.modules) → HasMeanings l s
has-meanings l s e = λ n index.
    sym (in_rows index (item s.meanings n))
    ∙ ap (told index) (sym (item-mapped (map Some) s.meanings n) ∙ ap (λ (rows : List (List (Option SymDef))). item rows n) e ∙ item_numbered (λ (q : ℕ × ObjModule). map (Sym l q.0) q.1.exts) l.modules n)
    ∙ in_module l n index (chosen_module l n)

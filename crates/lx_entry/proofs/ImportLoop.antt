-- One import module's name after another.
use Rattle.std.proofs.Common.{◌≡◌, ℕ, suc, ◌+◌, ◌-◌, ◌<◌, List, [], ◌∷◌, ◌++◌, Some, Ok, Err, refl, subst}
use Rattle.lx_bytes.specs.Cursor.{Cursor}
use Rattle.lx_types.specs.declared.refusal.LxRefusal.{LxRefusal}
use Rattle.lx_model.specs.NameTables.{import_name, import_entry}
use Rattle.lx_model.specs.Reading.{Many, many, front, whole}
use Rattle.lx_model.proofs.Many.{front_none, front_wrong, front_more}
use Rattle.lx_model.proofs.Shortening.{import_shortens}
use Rattle.lx_model.proofs.ImportsRead.{names_end}
use Rattle.lx_entry.proofs.EntryLoop.{left_more}

step_more : (n : ℕ) (c d : Cursor) (name : List ℕ) → import_name c ≡ Ok (name, d) → import_entry (suc n) c ≡ Ok (Some (name, n), d)
unfolding import_entry
step_more n c d name e = rw e refl

step_wrong : (n : ℕ) (c : Cursor) (f : LxRefusal) → import_name c ≡ Err f → import_entry (suc n) c ≡ Err f
unfolding import_entry
step_wrong n c f e = rw e refl

pub one_more : (count i : ℕ) (c d : Cursor) (names : List (List ℕ)) (name : List ℕ) (all : Many (List ℕ)) → i < count → import_name c ≡ Ok (name, d) →
    front names (many import_entry (count - i) c) ≡ all → front (names ++ name ∷ []) (many import_entry (count - (i + 1)) d) ≡ all
one_more count i c d names name all lt e kept =
    let n = count - (i + 1) in
    let here : front names (many import_entry (suc n) c) ≡ all = subst (λ (k : ℕ). front names (many import_entry k c) ≡ all) (left_more count i lt) kept in
    front_more import_entry import_shortens (suc n) c d (name, n) names all (step_more n c d name e) here

pub wrong : (count i : ℕ) (c : Cursor) (names : List (List ℕ)) (all : Many (List ℕ)) (f : LxRefusal) → i < count → import_name c ≡ Err f →
    front names (many import_entry (count - i) c) ≡ all → whole all ≡ Err f
wrong count i c names all f lt e kept =
    let n = count - (i + 1) in
    let here : front names (many import_entry (suc n) c) ≡ all = subst (λ (k : ℕ). front names (many import_entry k c) ≡ all) (left_more count i lt) kept in
    front_wrong import_entry (suc n) c f names all (step_wrong n c f e) here

pub all_read : (count i : ℕ) (c : Cursor) (names : List (List ℕ)) (all : Many (List ℕ)) → count - i ≡ 0 → front names (many import_entry (count - i) c) ≡ all → whole all ≡ Ok names
all_read count i c names all none kept =
    let here : front names (many import_entry 0 c) ≡ all = subst (λ (k : ℕ). front names (many import_entry k c) ≡ all) none kept in
    front_none import_entry 0 c c names all (names_end c) here

-- What a clear file says, part by part; and what its header says once more is set.
use Rattle.std.proofs.Common.{◌≡◌, ℕ, ◌*◌, Bool, true, List, [], ◌∷◌, ◌++◌, map, sym, ◌∙◌}
use Rattle.std.specs.List.{list_all}
use Rattle.std.proofs.lemmas.List.Folds.{list_all-append}
use Rattle.std.proofs.lemmas.Bool.{and_parts}
use Rattle.lx_model.specs.declared.lengths.TheConstants.{OBJECT_ENTRY_LEN, PAGE_ENTRY_LEN}
use Rattle.lx_model.specs.declared.header_fields.TheConstants.{OBJECT_TABLE, OBJECT_PAGE_TABLE}
use Rattle.lx_model.specs.Header.{table, page_count, object_count}
use Rattle.lx_model.specs.Tables.{page_heads}
use Rattle.res_model.specs.Clear.{Part, part, are_apart, set_parts, place_parts, resident_part, import_part, entry_part, other_parts, fixup_parts, data_part, procedure_parts, read_parts, is_clear}

pub split_all : {X : Type 0} (p : X → Bool) (xs ys : List X) → list_all p (xs ++ ys) ≡ true → (list_all p xs ≡ true) × (list_all p ys ≡ true)
split_all p xs ys e = and_parts (list_all p xs) (list_all p ys) (sym (list_all-append p xs ys) ∙ e)

-- a part has no byte of the fields that are set
abbrev pub is_free : List ℕ → Part → Bool
is_free file p = list_all (are_apart p) (set_parts file)

pub record Frees (file : List ℕ) : Type 0 where
  pub place : list_all (is_free file) (place_parts file) ≡ true
  pub objects : is_free file (part (table file OBJECT_TABLE) (OBJECT_ENTRY_LEN * object_count file)) ≡ true
  pub heads : is_free file (part (table file OBJECT_PAGE_TABLE) (PAGE_ENTRY_LEN * page_count file)) ≡ true
  pub residents : is_free file (resident_part file) ≡ true
  pub imports : is_free file (import_part file) ≡ true
  pub entries : is_free file (entry_part file) ≡ true
  pub others : list_all (is_free file) (other_parts file) ≡ true
  pub fixups : list_all (is_free file) (fixup_parts file) ≡ true
  pub contents : list_all (is_free file) (map data_part (page_heads file)) ≡ true
  pub names : list_all (is_free file) (procedure_parts file) ≡ true

pub frees : (file : List ℕ) → is_clear file ≡ true → Frees file
unfolding is_clear read_parts
frees file e =
    let q = is_free file in
    let objects = part (table file OBJECT_TABLE) (OBJECT_ENTRY_LEN * object_count file) in
    let heads = part (table file OBJECT_PAGE_TABLE) (PAGE_ENTRY_LEN * page_count file) in
    let two = objects ∷ heads ∷ [] in
    let three = resident_part file ∷ import_part file ∷ entry_part file ∷ [] in
    let contents = map data_part (page_heads file) in
    let a = split_all q (place_parts file ++ two ++ three ++ other_parts file ++ fixup_parts file ++ contents) (procedure_parts file) e in
    let b = split_all q (place_parts file ++ two ++ three ++ other_parts file ++ fixup_parts file) contents a.0 in
    let c = split_all q (place_parts file ++ two ++ three ++ other_parts file) (fixup_parts file) b.0 in
    let d = split_all q (place_parts file ++ two ++ three) (other_parts file) c.0 in
    let f = split_all q (place_parts file ++ two) three d.0 in
    let g = split_all q (place_parts file) two f.0 in
    let h = and_parts (q objects) (list_all q (heads ∷ [])) g.1 in
    let i = and_parts (q heads) (list_all q []) h.1 in
    let j = and_parts (q (resident_part file)) (list_all q (import_part file ∷ entry_part file ∷ [])) f.1 in
    let k = and_parts (q (import_part file)) (list_all q (entry_part file ∷ [])) j.1 in
    let l = and_parts (q (entry_part file)) (list_all q []) k.1 in
    record { place = g.0; objects = h.0; heads = i.0; residents = j.0; imports = k.0; entries = l.0; others = d.1; fixups = c.1; contents = b.1; names = a.1 }

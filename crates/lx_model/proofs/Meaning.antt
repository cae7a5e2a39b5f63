-- The laws of what a file means.
use Rattle.std.proofs.Common.{◌≡◌, ℕ, ◌+◌, ◌<◌, ◌^◌, ◌⊎◌, inl, inr, List, [], length, drop, Option, Some, None, Result, Ok, Err, refl, sym, subst, ◌∙◌}
use Rattle.std.proofs.lemmas.List.FromFn.{length-map-range_with_len}
use Rattle.lx_types.specs.declared.refusal.LxRefusal.{LxRefusal}
use Rattle.lx_types.specs.Sound.{Sound}
use Rattle.lx_model.specs.declared.header_fields.TheConstants.{ENTRY_TABLE, IMPORT_MODULE_TABLE}
use Rattle.lx_model.specs.Reading.{first_of, ◌then◌, placed, fault_of, value_or}
use Rattle.lx_model.specs.Header.{table, page_count, object_count, import_count, header_fault, start_fault}
use Rattle.lx_model.specs.Tables.{object_entry, object_place, objects_of, objects_fault, page_entry, page_place, page_or_zero, page_heads, pages_fault}
use Rattle.lx_model.specs.NameTables.{import_names, imports_in, resident_fault, others_fault, imports_fault}
use Rattle.lx_model.specs.EntryTable.{entries_in, entries_of, entries_fault}
use Rattle.lx_model.specs.declared.limits.TheConstants.{MAX_ORDINAL}
use Rattle.lx_model.specs.FixupPages.{records_span, spans_of, spans_fault}
use Rattle.lx_model.specs.Module.{parts_of, page_records_fault, Lx, LxFault}
use Rattle.lx_model.specs.Laws.{MeansOne, MeansOrFails, FaultMeansNone, MeansSound}
use Rattle.lx_model.proofs.Firsts.{then_none}
use Rattle.lx_model.proofs.Entries.{Run, Run-pairs, Run-heads, run_of_table}
use Rattle.lx_model.proofs.ImportsRead.{names_counted}
use Rattle.lx_model.proofs.References.{refs_fit}
use Rattle.lx_model.proofs.Soundness.{objects_fit, pages_fit, spans_fit, start_fits}

pub one : MeansOne
one file m n p q = p.parts ∙ sym q.parts

pub not_both : FaultMeansNone
not_both file m e is lx = let none : LxFault file ≡ None = lx.faultless in cc

pub either : MeansOrFails
either file = by_fault (LxFault file) refl
  where
    by_fault : (o : Option LxRefusal) → LxFault file ≡ o → Lx file (parts_of file) ⊎ ((e : LxRefusal) × (LxFault file ≡ Some e))
    by_fault None is = inl (record { faultless = is; parts = refl })
    by_fault (Some e) is = inr (e, is)

-- ---- tables that were read

pub read_ok : {A : Type 0} (at : ℕ) (other : A) (r : Result A LxRefusal) → fault_of (placed at r) ≡ None → r ≡ Ok (value_or other (placed at r))
read_ok at other (Ok x) e = refl
read_ok at other (Err f) e = absurd cc

entries_run : (file : List ℕ) → entries_fault file ≡ None → Run (object_count file) (import_count file) 1 (MAX_ORDINAL + 1) (value_or [] (entries_of file))
entries_run file e =
    let bytes = drop (table file ENTRY_TABLE) file in
    let read = read_ok (table file ENTRY_TABLE) [] (entries_in (object_count file) (import_count file) bytes) e in
    run_of_table (object_count file) (import_count file) bytes (value_or [] (entries_of file)) read

imports_count : (file : List ℕ) → imports_fault file ≡ None → length (value_or [] (import_names file)) ≡ import_count file
imports_count file e =
    let bytes = drop (table file IMPORT_MODULE_TABLE) file in
    let read = read_ok (table file IMPORT_MODULE_TABLE) [] (imports_in (import_count file) bytes) e in
    names_counted (import_count file) bytes (value_or [] (import_names file)) read

-- ---- the parts

pub record Judged (file : List ℕ) : Type 0 where
  pub objects : objects_fault file ≡ None
  pub pages : pages_fault file ≡ None
  pub residents : resident_fault file ≡ None
  pub imports : imports_fault file ≡ None
  pub entries : entries_fault file ≡ None
  pub start : start_fault file ≡ None
  pub spans : spans_fault file ≡ None
  pub records : first_of (page_count file) (page_records_fault file) ≡ None

pub judged : (file : List ℕ) → LxFault file ≡ None → Judged file
unfolding LxFault
judged file e =
    let a = then_none (header_fault file) (objects_fault file then pages_fault file then resident_fault file then others_fault file
    then imports_fault file then entries_fault file then start_fault file then spans_fault file then first_of (page_count file) (page_records_fault file)) e in
    let b = then_none (objects_fault file) (pages_fault file then resident_fault file then others_fault file then imports_fault file
    then entries_fault file then start_fault file then spans_fault file then first_of (page_count file) (page_records_fault file)) a.1 in
    let c = then_none (pages_fault file) (resident_fault file then others_fault file then imports_fault file
    then entries_fault file then start_fault file then spans_fault file then first_of (page_count file) (page_records_fault file)) b.1 in
    let d = then_none (resident_fault file) (others_fault file then imports_fault file then entries_fault file then start_fault file then spans_fault file then first_of (page_count file) (page_records_fault file)) c.1 in
    let f = then_none (others_fault file) (imports_fault file then entries_fault file then start_fault file then spans_fault file then first_of (page_count file) (page_records_fault file)) d.1 in
    let g = then_none (imports_fault file) (entries_fault file then start_fault file then spans_fault file then first_of (page_count file) (page_records_fault file)) f.1 in
    let h = then_none (entries_fault file) (start_fault file then spans_fault file then first_of (page_count file) (page_records_fault file)) g.1 in
    let i = then_none (start_fault file) (spans_fault file then first_of (page_count file) (page_records_fault file)) h.1 in
    let j = then_none (spans_fault file) (first_of (page_count file) (page_records_fault file)) i.1 in
    record { objects = b.0; pages = c.0; residents = d.0; imports = g.0; entries = h.0; start = i.0; spans = j.0; records = j.1 }

sound_parts : (file : List ℕ) → length file < 2 ^ 32 → Judged file → Sound (parts_of file)
unfolding parts_of objects_of page_heads spans_of
sound_parts file short j =
    let objects-are : length (objects_of file) ≡ object_count file = length-map-range_with_len (λ k. object_entry file (object_place file k)) 0 (object_count file) in
    let pages-are : length (page_heads file) ≡ page_count file = length-map-range_with_len (λ k. page_or_zero (page_entry file (page_place file k))) 0 (page_count file) in
    let spans-are : length (spans_of file) ≡ page_count file = length-map-range_with_len (records_span file) 0 (page_count file) in
    let imports-are = imports_count file j.imports in
    let run = entries_run file j.entries in
    record {
      short = short;
      start = rw objects-are (start_fits file j.start);
      objects = rw pages-are (objects_fit file j.objects);
      pages = pages_fit file j.pages;
      spans = spans-are ∙ sym pages-are;
      records = spans_fit file j.spans;
      ordinals = Run-pairs (object_count file) (import_count file) 1 (MAX_ORDINAL + 1) (value_or [] (entries_of file)) run;
      entries = rw (objects-are, imports-are) (Run-heads (object_count file) (import_count file) 1 (MAX_ORDINAL + 1) (value_or [] (entries_of file)) run);
      refs = rw imports-are (refs_fit file j.records);
    }

pub sound : MeansSound
sound file m short lx = subst Sound (sym lx.parts) (sound_parts file short (judged file lx.faultless))

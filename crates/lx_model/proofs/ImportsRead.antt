-- The names of import modules are read as they were written, and spelled as they are read.
use Rattle.std.proofs.Common.{◌≡◌, ℕ, zero, suc, ◌+◌, ◌<◌, cond, eqb, Option, Some, None, List, [], ◌∷◌, ◌++◌, length, Ok, Err, refl, sym, subst, ap, append_assoc, arith}
use Rattle.std.specs.List.{flat_map, AllByRecursion as Each}
use Rattle.lx_bytes.specs.Cursor.{Cursor}
use Rattle.lx_bytes.specs.LittleEndian.{AreBytes}
use Rattle.lx_types.specs.declared.refusal.LxKind.TheVariants as kinds
use Rattle.lx_model.specs.Reading.{fault, cursor, text, number, Read, ends, Many, many}
use Rattle.lx_model.specs.NameTables.{import_name, import_entry, imports_in, import_spelling, ImportFits}
use Rattle.lx_model.specs.TableLaws.{ImportsReadAgain}
use Rattle.lx_model.proofs.Many.{Whole, none_whole, more_whole, whole_is, whole_ends, Cases, many_holds}
use Rattle.lx_model.proofs.NamesRead.{not_zero}
use Rattle.lx_model.proofs.ReadsAs.{ReadsAs, text_reads, byte_reads, bind_reads, done_reads}
use Rattle.lx_model.proofs.Shortening.{import_shortens}
use Rattle.lx_model.proofs.Steps.{bind_ok, guard_ok, done, never, at_item}
use Rattle.lx_model.proofs.TablesTaken.{positive}
use Rattle.lx_model.proofs.Takes.{Takes, Takes-then, takes_nothing, number_takes, text_takes}
use Rattle.lx_model.proofs.RecordsTaken.{byte_taken}

abbrev item : ℕ → List ℕ → Option (List ℕ × ℕ)
item n name = Some (name, n)

abbrev after_length : ℕ → ℕ × Cursor → Read (List ℕ)
after_length at len = cond (eqb len.0 0) (Err (fault kinds.ImportTable at)) (text len.0 len.1)

alone_reads : (name : List ℕ) → ImportFits name → ReadsAs import_name (import_spelling name) name
unfolding import_name
alone_reads name fits at rest =
    bind_reads (number 1) (after_length at) (length name ∷ []) name (length name) name (byte_reads (length name) fits.short)
    (λ at' rest'. rw (not_zero (length name) fits.some) (text_reads name at' rest')) at rest

pub name_reads : (n : ℕ) (name : List ℕ) → ImportFits name → ReadsAs (import_entry (suc n)) (import_spelling name) (item n name)
unfolding import_entry
name_reads n name fits = done_reads import_name (item n) (import_spelling name) name (alone_reads name fits)

pub names_end : (c : Cursor) → import_entry 0 c ≡ Ok (None, c)
unfolding import_entry
names_end c = refl

pub names_read : (names : List (List ℕ)) (at : ℕ) (rest : List ℕ) → Each ImportFits names → Whole (many import_entry (length names) (cursor at (flat_map import_spelling names ++ rest))) names rest
names_read [] at rest fits = none_whole import_entry 0 (cursor at rest) at rest (names_end (cursor at rest))
names_read (name ∷ names) at rest fits =
    let bytes = import_spelling name in
    let tail = flat_map import_spelling names ++ rest in
    let together = more_whole import_entry import_shortens (suc (length names))
    (cursor at (bytes ++ tail)) (cursor (at + length bytes) tail) (name, length names) names rest (name_reads (length names) name fits.0 at tail)
    (names_read names (at + length bytes) rest fits.1) in
    let same : bytes ++ tail ≡ flat_map import_spelling (name ∷ names) ++ rest = sym (append_assoc bytes (flat_map import_spelling names) rest) in
    subst (λ (x : List ℕ). Whole (many import_entry (suc (length names)) (cursor at x)) (name ∷ names) rest) same together

pub imports_again : ImportsReadAgain
imports_again names rest fits = whole_is (many import_entry (length names) (cursor 0 (flat_map import_spelling names ++ rest))) names rest (names_read names 0 rest fits)

-- ---- what was taken

pub record AloneTaken (c : Cursor) (name : List ℕ) (d : Cursor) : Type 0 where
  pub fits : ImportFits name
  pub taken : Takes c (import_spelling name) d

pub alone_taken : (c d : Cursor) (name : List ℕ) → AreBytes c.left → import_name c ≡ Ok (name, d) → AloneTaken c name d
unfolding import_name
alone_taken c d name h e =
    let first = bind_ok (number 1 c) (after_length c.at) (name, d) e in
    let len = first.0 in
    let a = number_takes 1 c len.1 len.0 h first.1 in
    let guard = guard_ok (eqb len.0 0) (fault kinds.ImportTable c.at) (text len.0 len.1) (name, d) first.2 in
    let b = text_takes len.0 len.1 d name a.taken.rest guard.1 in
    let size = b.len in
    let byte : Takes c (length name ∷ []) len.1 = subst (λ (k : ℕ). Takes c (k ∷ []) len.1) (sym size) (byte_taken c len.1 len.0 a.below a.taken) in
    let some : 0 < length name = rw size (positive len.0 guard.0) in
    let short : length name < 256 = rw size a.below in
    record { fits = record { some = some; short = short }; taken = Takes-then c len.1 d (length name ∷ []) name byte b.taken }

-- a name that is there, and as many after it
pub record NameTaken (n : ℕ) (c : Cursor) (x : List ℕ × ℕ) (d : Cursor) : Type 0 where
  pub count : n ≡ suc x.1
  pub alone : AloneTaken c x.0 d

pub name_taken : (n : ℕ) (c d : Cursor) (x : List ℕ × ℕ) → AreBytes c.left → import_entry n c ≡ Ok (Some x, d) → NameTaken n c x d
unfolding import_entry
name_taken zero c d x h e = absurd (never c d x (ends c) refl e)
name_taken (suc n) c d x h e =
    let first = bind_ok (import_name c) (λ name. done (item n name.0, name.1)) (Some x, d) e in
    let name = first.0 in
    at_item (NameTaken (suc n) c) (name.0, n) x name.1 d first.2 (record { count = refl; alone = alone_taken c name.1 name.0 h first.1 })

abbrev no_name : Option (List ℕ × ℕ)
no_name = None

ends_at_zero : (n : ℕ) (c d : Cursor) → import_entry n c ≡ Ok (None, d) → (n ≡ 0) × (c ≡ d)
unfolding import_entry
ends_at_zero zero c d e =
    let pair : (no_name, c) ≡ (no_name, d) = cc in
    (refl, ap (λ (p : Option (List ℕ × ℕ) × Cursor). p.1) pair)
ends_at_zero (suc n) c d e =
    let first = bind_ok (import_name c) (λ name. done (item n name.0, name.1)) (None, d) e in
    absurd (never d first.0.1 (first.0.0, n) (done (item n first.0.0, first.0.1)) first.2 refl)

-- how many names there are, and how they stand there
pub record ImportsTaken (n : ℕ) (c : Cursor) (names : List (List ℕ)) (d : Cursor) : Type 0 where
  pub count : length names ≡ n
  pub fits : Each ImportFits names
  pub taken : Takes c (flat_map import_spelling names) d

abbrev AreTaken : ℕ → Cursor → Many (List ℕ) → Type 0
AreTaken n c m = AreBytes c.left → (d : Cursor) → m.end ≡ Ok d → ImportsTaken n c m.items d

imports_taken : Cases import_entry AreTaken
imports_taken = record {
  none = λ n c d e h end is.
      let zero = ends_at_zero n c d e in
      let same : c ≡ end = (let a = zero.1 in let b : d ≡ end = cc in cc) in
      let here : ImportsTaken n c [] c = record { count = sym zero.0; fits = tt; taken = takes_nothing c h } in
      subst (λ (x : Cursor). ImportsTaken n c [] x) same here;
  wrong = λ n c e is h end ok. absurd cc;
  more = λ n c d x m e again h end is.
      let first = name_taken n c d x h e in
      let rest = again first.alone.taken.rest end is in
      let size = first.count in
      let others = rest.count in
      let sum : suc (length m.items) ≡ n = (omega (arith, size, others)) in
      record { count = sum; fits = (first.alone.fits, rest.fits); taken = Takes-then c d end (import_spelling x.0) (flat_map import_spelling m.items) first.alone.taken rest.taken };
}

pub record TableTaken (n : ℕ) (bytes : List ℕ) (names : List (List ℕ)) : Type 0 where
  pub end : Cursor
  pub all : ImportsTaken n (cursor 0 bytes) names end

pub names_taken : (n : ℕ) (bytes : List ℕ) (names : List (List ℕ)) → AreBytes bytes → imports_in n bytes ≡ Ok names → TableTaken n bytes names
names_taken n bytes names h e =
    let m = many import_entry n (cursor 0 bytes) in
    let ok = whole_ends m names e in
    record { end = ok.0; all = subst (λ (x : List (List ℕ)). ImportsTaken n (cursor 0 bytes) x ok.0) ok.2 (many_holds import_entry AreTaken import_shortens imports_taken n (cursor 0 bytes) h ok.0 ok.1) }

-- ---- how many there are

abbrev AreCounted : ℕ → Cursor → Many (List ℕ) → Type 0
AreCounted n c m = (d : Cursor) → m.end ≡ Ok d → length m.items ≡ n

count_of_step : (n : ℕ) (c d : Cursor) (x : List ℕ × ℕ) → import_entry n c ≡ Ok (Some x, d) → n ≡ suc x.1
unfolding import_entry
count_of_step zero c d x e = absurd (never c d x (ends c) refl e)
count_of_step (suc n) c d x e =
    let first = bind_ok (import_name c) (λ name. done (item n name.0, name.1)) (Some x, d) e in
    at_item (λ y _. suc n ≡ suc y.1) (first.0.0, n) x first.0.1 d first.2 refl

counted : Cases import_entry AreCounted
counted = record {
  none = λ n c d e end is. sym (ends_at_zero n c d e).0;
  wrong = λ n c e is end ok. absurd cc;
  more = λ n c d x m e again end is. let size = count_of_step n c d x e in let others = again end is in (omega (arith, size, others));
}

pub names_counted : (n : ℕ) (bytes : List ℕ) (names : List (List ℕ)) → imports_in n bytes ≡ Ok names → length names ≡ n
names_counted n bytes names e =
    let m = many import_entry n (cursor 0 bytes) in
    let ok = whole_ends m names e in
    subst (λ (x : List (List ℕ)). length x ≡ n) ok.2 (many_holds import_entry AreCounted import_shortens counted n (cursor 0 bytes) ok.0 ok.1)

-- Name tables that were written are read again.
use Rattle.std.proofs.Common.{◌≡◌, ℕ, ◌+◌, ◌<◌, false, cond, eqb, Option, List, [], ◌∷◌, ◌++◌, length, Some, None, Ok, refl, sym, subst, append_assoc, arith}
use Rattle.std.specs.List.{flat_map, AllByRecursion as Each}
use Rattle.std.proofs.lemmas.Bool.Decides.{nat_tests}
use Rattle.lx_bytes.specs.Cursor.{Cursor}
use Rattle.lx_bytes.specs.LittleEndian.{little_bytes}
use Rattle.lx_model.specs.Reading.{cursor, text, number, Read, ◌>>=◌, ends, many}
use Rattle.lx_model.specs.NameTables.{Named, name_entry, names_in, name_spelling, names_spelling, NameFits}
use Rattle.lx_model.proofs.Many.{Whole, none_whole, more_whole, whole_is}
use Rattle.lx_model.proofs.ReadsAs.{ReadsAs, text_reads, number_reads, byte_reads, bind_reads, done_reads}
use Rattle.lx_model.proofs.Shortening.{name_shortens}

pub not_zero : (n : ℕ) → 0 < n → eqb n 0 ≡ false
not_zero n lt = grind (arith, nat_tests)

abbrev item : Named → Option (Named × Unit {0})
item n = Some (n, tt)

abbrev after_text : List ℕ × Cursor → Read (Option (Named × Unit {0}))
after_text name = number 2 name.1 >>= λ ordinal. Ok (item (name.0, ordinal.0), ordinal.1)

pub entry_reads : (n : Named) → NameFits n → ReadsAs (name_entry tt) (name_spelling n) (item n)
unfolding name_entry
entry_reads n fits =
    let last : ReadsAs (λ d. after_text (n.0, d)) (little_bytes 2 n.1) (item n) = done_reads (number 2) (λ ordinal. item (n.0, ordinal)) (little_bytes 2 n.1) n.1 (number_reads 2 n.1 fits.ordinal) in
    let after_len : ReadsAs (λ d. text (length n.0) d >>= after_text) (n.0 ++ little_bytes 2 n.1) (item n)
    = bind_reads (text (length n.0)) after_text n.0 (little_bytes 2 n.1) n.0 (item n) (text_reads n.0) last in
    bind_reads (number 1) (λ len. cond (eqb len.0 0) (ends len.1) (text len.0 len.1 >>= after_text))
    (length n.0 ∷ []) (n.0 ++ little_bytes 2 n.1) (length n.0) (item n) (byte_reads (length n.0) fits.short) (λ at rest. rw (not_zero (length n.0) fits.some) (after_len at rest))

end_reads : ReadsAs (name_entry tt) (0 ∷ []) None
unfolding name_entry
end_reads at rest = rw (byte_reads 0 (omega arith) at rest) refl

regroup : (a b c d : List ℕ) → ((a ++ b) ++ c) ++ d ≡ a ++ ((b ++ c) ++ d)
regroup a b c d = simp append_assoc

pub names_read : (ns : List Named) (at : ℕ) (rest : List ℕ) → Each NameFits ns → Whole (many name_entry tt (cursor at (names_spelling ns ++ rest))) ns rest
names_read [] at rest fits = none_whole name_entry tt (cursor at (0 ∷ rest)) (at + 1) rest (end_reads at rest)
names_read (n ∷ ns) at rest fits =
    let bytes = name_spelling n in
    let tail = names_spelling ns ++ rest in
    let together = more_whole name_entry name_shortens tt (cursor at (bytes ++ tail)) (cursor (at + length bytes) tail) (n, tt) ns rest (entry_reads n fits.0 at tail) (names_read ns (at + length bytes) rest fits.1) in
    subst (λ (x : List ℕ). Whole (many name_entry tt (cursor at x)) (n ∷ ns) rest) (sym (regroup bytes (flat_map name_spelling ns) (0 ∷ []) rest)) together

pub table_reads : (ns : List Named) (rest : List ℕ) → Each NameFits ns → names_in (names_spelling ns ++ rest) ≡ Ok ns
table_reads ns rest fits = whole_is (many name_entry tt (cursor 0 (names_spelling ns ++ rest))) ns rest (names_read ns 0 rest fits)

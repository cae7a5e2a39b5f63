-- Sections lie in the file: their places and sizes have 32 bits where the file's length has.
use Rattle.std.proofs.Common.{◌≡◌, ℕ, ◌+◌, List, ◌++◌, length, refl, ap, ◌∙◌, length-append}
use Rattle.lx_model.specs.declared.lengths.TheConstants.{HEADER_LEN}
use Rattle.lx_model.specs.TableSpelling.{header_spelling}
use Rattle.image_model.specs.Image.{Image}
use Rattle.image_model.specs.Sections.{Sections, sections}
use Rattle.image_model.specs.File.{header_fields_of, sections_bytes, file_of}

-- The lengths of all sections.
abbrev pub sections_length : Sections → ℕ
sections_length s =
    length s.objects + (length s.pages + (length s.residents + (length s.entries + (length s.spans + (length s.records
    + (length s.imports + (length s.procs + (length s.contents + length s.others))))))))

after : (xs ys : List ℕ) (n : ℕ) → length ys ≡ n → length (xs ++ ys) ≡ length xs + n
after xs ys n is = length-append xs ys ∙ ap (λ (k : ℕ). length xs + k) is

sections_long : (s : Sections) → length (sections_bytes s) ≡ sections_length s
sections_long s =
    let contents = after s.contents s.others (length s.others) refl in
    let procs = after s.procs _ _ contents in
    let imports = after s.imports _ _ procs in
    let records = after s.records _ _ imports in
    let spans = after s.spans _ _ records in
    let entries = after s.entries _ _ spans in
    let residents = after s.residents _ _ entries in
    let pages = after s.pages _ _ residents in
    after s.objects _ _ pages

header_long : (m : Image) (s : Sections) → length (header_spelling (header_fields_of m s)) ≡ HEADER_LEN
unfolding header_fields_of
header_long m s = refl

-- The file is as long as its header and its sections.
pub file_long : (m : Image) → length (file_of m) ≡ HEADER_LEN + sections_length (sections m)
unfolding file_of
file_long m =
    length-append (header_spelling (header_fields_of m (sections m))) (sections_bytes (sections m))
    ∙ ap (λ (n : ℕ). n + length (sections_bytes (sections m))) (header_long m (sections m))
    ∙ ap (λ (n : ℕ). HEADER_LEN + n) (sections_long (sections m))

-- The items of IMPORTS and the sizes, read again.
use Rattle.std.proofs.Common.{◌≡◌, ℕ, ◌≤◌, ◌<◌, ◌^◌, ◌%◌, List, [], ◌∷◌, ◌++◌, map, refl, ap, sym, ◌∙◌, append_assoc, append-nil, arith, true, cond, Result, Ok, Err, Option, Some, None}
use Rattle.std.specs.Prelude.{IfSome, ◌==◌}
use Rattle.std.specs.List.{All}
use Rattle.std.proofs.lemmas.List.Elements.{All-head, All-tail}
use Rattle.lx_types.specs.declared.entry.EntryKey.{EntryKey}
use Rattle.lx_types.specs.declared.entry.EntryKey.TheVariants.{Ordinal, Named}
use Rattle.lx_types.specs.Names.{IsName}
use Rattle.obj_types.specs.declared.limits.TheConstants.{MAX_DATA}
use Rattle.obj_types.specs.Definition.{WholeImport, IsEntry, IsBase}
use Rattle.obj_types.specs.declared.symbol.Imp.{Imp}
use Rattle.def_model.specs.declared.keyword.Keyword.TheVariants as kw
use Rattle.def_model.specs.Lexemes.{Lexeme, number, equals, keyword, ending}
use Rattle.def_tokens.proofs.TokenLaws.{if-first}
use Rattle.def_model.specs.declared.refusal.DefKind.{DefKind}
use Rattle.def_model.specs.declared.refusal.DefKind.TheVariants as kinds
use Rattle.lx_types.specs.Answers.{◌>>=◌}
use Rattle.def_model.specs.declared.draft.Draft.{Draft}
use Rattle.def_model.specs.declared.draft.Place.TheVariants as place
use Rattle.def_write.specs.Names.{ImportNames, EntryName}
use Rattle.def_model.specs.Meaning.{file_of}
use Rattle.def_model.specs.TokenMeaning.{base_of}
use Rattle.def_write.specs.Writing.{entry_token, import_tokens}
use Rattle.def_file.proofs.Compute.{computed}
use Rattle.def_file.proofs.SaysLaws.{says, name-is, within-is, goes-on}
use Rattle.def_write.proofs.ReadSegments.{joined}

abbrev pub with_imports : Draft → List Imp → Draft
with_imports d imports = record d { imports = imports }

entry-read : (entry : EntryKey) (d : Draft) (name module_name : List ℕ) (ts : List Lexeme) → IsEntry entry → EntryName IsName entry
    → says (record { draft = d; place = place.ImportDot (Some name) module_name }) (entry_token entry ∷ ts)
    ≡ says (record { draft = record d { imports = d.imports ++ record { name = name; «module» = module_name; entry = entry } ∷ [] }; place = place.Imports }) ts
unfolding computed
entry-read (Ordinal n) d name module_name ts h short = goes-on _ n _ _ (within-is 1 65535 n h.0 h.1)
entry-read (Named entry) d name module_name ts h short = goes-on _ entry _ _ (name-is entry h short)

import-read : (i : Imp) (d : Draft) (ts : List Lexeme) → WholeImport i → ImportNames IsName i
    → says (record { draft = d; place = place.Imports }) (import_tokens i ++ ts)
    ≡ says (record { draft = record d { imports = d.imports ++ i ∷ [] }; place = place.Imports }) ts
unfolding computed
import-read i d ts whole short =
    goes-on _ i.name _ _ (name-is i.name whole.name short.name)
    ∙ goes-on _ i.module _ _ (name-is i.module whole.module short.module)
    ∙ entry-read i.entry d i.name i.module ts whole.entry short.entry

pub imports-read : (imports : List Imp) (d : Draft) (done : List Imp) (ts : List Lexeme)
    → All WholeImport imports → All (λ (i : Imp). ImportNames IsName i) imports
    → says (record { draft = with_imports d done; place = place.Imports }) (joined (map import_tokens imports) ++ ts)
    ≡ says (record { draft = with_imports d (done ++ imports); place = place.Imports }) ts
imports-read [] d done ts whole short =
    ap (λ xs. says (record { draft = with_imports d xs; place = place.Imports }) ts) (sym (append-nil done))
imports-read (i ∷ imports) d done ts whole short =
    ap (λ us. says (record { draft = with_imports d done; place = place.Imports }) us) (append_assoc (import_tokens i) (joined (map import_tokens imports)) ts)
    ∙ import-read i (with_imports d done) (joined (map import_tokens imports) ++ ts) (All-head WholeImport i imports whole) (All-head (λ (i : Imp). ImportNames IsName i) i imports short)
    ∙ imports-read imports d (done ++ i ∷ []) ts (All-tail WholeImport i imports whole) (All-tail (λ (i : Imp). ImportNames IsName i) i imports short)
    ∙ ap (λ xs. says (record { draft = with_imports d xs; place = place.Imports }) ts) (append_assoc done (i ∷ []) imports)

-- ---- STACKSIZE, HEAPSIZE and BASE

abbrev pub base_tokens : Option ℕ → List Lexeme
base_tokens None = []
base_tokens (Some base) = keyword kw.Base ∷ equals ∷ number (Some base) ∷ []

base-is : (base : ℕ) → IsBase base → base_of (Some base) ≡ Ok base
base-is base h =
    let even : (base % 65536 == 0) ≡ true = ap (λ n. n == 0) h.0 in
    ap (λ (a : Result ℕ DefKind). a >>= (λ n. cond (n % 65536 == 0) (Ok n) (Err kinds.Number))) (within-is 0x10000 0x1FFF0000 base h.1 h.2)
    ∙ if-first (base % 65536 == 0) _ _ even

-- A draft whose sizes are not given yet.
abbrev pub unsized : Draft → Draft
unsized d = record d { stack = None; heap = None; base = None }

sized-read : (d : Draft) (stack heap : ℕ) (ts : List Lexeme) → stack ≤ MAX_DATA → heap < 2 ^ 32
    → says (record { draft = unsized d; place = place.Imports }) (keyword kw.StackSize ∷ number (Some stack) ∷ keyword kw.HeapSize ∷ number (Some heap) ∷ ts)
    ≡ says (record { draft = record (unsized d) { stack = Some stack; heap = Some heap }; place = place.Statement }) ts
unfolding computed
sized-read d stack heap ts h k =
    goes-on _ stack _ _ (within-is 0 MAX_DATA stack (omega arith) h)
    ∙ goes-on _ heap _ _ (within-is 0 4294967295 heap (omega arith) (omega arith))

based-read : (base : Option ℕ) (d : Draft) (stack heap : ℕ) → IfSome base IsBase
    → says (record { draft = record (unsized d) { stack = Some stack; heap = Some heap }; place = place.Statement }) (base_tokens base ++ ending ∷ [])
    ≡ Ok (file_of (record d { stack = Some stack; heap = Some heap; base = base }))
unfolding computed
based-read None d stack heap h = refl
based-read (Some base) d stack heap h = goes-on _ base _ _ (base-is base h)

pub sizes-read : (base : Option ℕ) (d : Draft) (stack heap : ℕ) → stack ≤ MAX_DATA → heap < 2 ^ 32 → IfSome base IsBase
    → says (record { draft = unsized d; place = place.Imports })
    (keyword kw.StackSize ∷ number (Some stack) ∷ keyword kw.HeapSize ∷ number (Some heap) ∷ (base_tokens base ++ ending ∷ []))
    ≡ Ok (file_of (record d { stack = Some stack; heap = Some heap; base = base }))
sizes-read base d stack heap h k b = sized-read d stack heap (base_tokens base ++ ending ∷ []) h k ∙ based-read base d stack heap b

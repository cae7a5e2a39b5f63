-- What is wrong in a comment: a line a field or a condition, in their order. "88h COMENT".
use Rattle.std.specs.Prelude.{◌≡◌, ◌≢◌, ℕ, ◌≤◌, ◌⊎◌, List, [], length, nat_le}
use Rattle.obj_types.specs.declared.refusal.OmfRefusal.TheVariants.{BadField}
use Rattle.omf_frame.specs.declared.comment_class.TheConstants.{DEFAULT_LIBRARY, EXTENSION, IMPDEF, EXPDEF}
use Rattle.omf_fields.specs.Forms.{name}
use Rattle.omf_faults.specs.Parts.{Part, Wrong, PartThen, Breaks, only}
use Rattle.omf_faults.specs.FieldParts.{a_byte, a_number, a_name}

-- A name that may not be empty: this is told at its length byte.
abbrev pub given_name : Part (List ℕ)
given_name = record {
  form = name;
  good = λ text. text ≢ [];
  wrong = λ c e.
      PartThen a_name c e λ text _.
      Breaks (text ≢ []) (BadField c.at) e;
}

-- An ordinal where the flag is not 0, and otherwise a name.
abbrev pub WrongEntry : ℕ → Wrong
WrongEntry flag c e = ((flag ≡ 0) × a_name.wrong c e) ⊎ ((flag ≢ 0) × (a_number 2).wrong c e)

abbrev pub WrongImpdef : Wrong
WrongImpdef c e =
    PartThen a_byte c e λ flag c1.
    PartThen a_name c1 e λ internal c2.
    PartThen given_name c2 e λ from c3.
    WrongEntry flag c3 e

abbrev pub WrongExpdef : Wrong
WrongExpdef c e =
    PartThen a_byte c e λ flag c1.
    PartThen given_name c1 e λ exported c2.
    PartThen a_name c2 e λ internal c3.
    (only (nat_le 128 flag) (a_number 2)).wrong c3 e

-- The text of the class of default libraries is a name without a length byte.
abbrev pub WrongLibrary : Wrong
WrongLibrary c e = Breaks (length c.left ≤ 255) (BadField c.at) e

abbrev pub WrongExtension : Wrong
WrongExtension c e =
    PartThen a_byte c e λ subtype d.
    ((subtype ≡ IMPDEF) × WrongImpdef d e) ⊎ ((subtype ≡ EXPDEF) × WrongExpdef d e)

abbrev pub WrongComent : Wrong
WrongComent c e =
    PartThen a_byte c e λ flags c1.
    PartThen a_byte c1 e λ class c2.
    ((class ≡ DEFAULT_LIBRARY) × WrongLibrary c2 e) ⊎ ((class ≡ EXTENSION) × WrongExtension c2 e)

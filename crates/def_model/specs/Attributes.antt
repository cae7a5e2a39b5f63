-- The words of attributes.
use Rattle.std.specs.Prelude.{Bool, true, false, ◌||◌, Option, Some, None, is_some, unwrap_or, Result, Ok, Err}
use Rattle.obj_types.specs.declared.definition.Attrs.{Attrs}
use Rattle.def_model.specs.declared.keyword.Pair.{Pair}
use Rattle.def_model.specs.declared.keyword.Pair.TheVariants as pairs
use Rattle.def_model.specs.declared.refusal.DefKind.{DefKind}
use Rattle.def_model.specs.declared.refusal.DefKind.TheVariants as kinds
use Rattle.def_model.specs.declared.draft.Words.{Words}
use Rattle.lx_types.specs.Answers.{◌>>=◌}

-- A word may be repeated, and the other word of its pair may not stand beside it.
abbrev pub agreed : Option Bool → Bool → Result (Option Bool) DefKind
agreed None on = Ok (Some on)
agreed (Some true) true = Ok (Some true)
agreed (Some true) false = Err kinds.Conflict
agreed (Some false) true = Err kinds.Conflict
agreed (Some false) false = Ok (Some false)

-- The words with one more.
unfoldable pub with_word : Words → Pair → Bool → Result Words DefKind
with_word w pairs.Write on = agreed w.write on >>= (λ x. Ok (record w { write = x }))
with_word w pairs.Read on = agreed w.read on >>= (λ x. Ok (record w { read = x }))
with_word w pairs.Shared on = agreed w.shared on >>= (λ x. Ok (record w { shared = x }))
with_word w pairs.Preload on = agreed w.preload on >>= (λ x. Ok (record w { preload = x }))
with_word w pairs.Conforming on = agreed w.conforming on >>= (λ x. Ok (record w { conforming = x }))
with_word w pairs.Iopl on = agreed w.iopl on >>= (λ x. Ok (record w { iopl = x }))

-- Attributes as the words change them. A word of the pair for reading makes a segment executable.
abbrev pub attrs_with : Attrs → Words → Attrs
attrs_with a w =
    record {
      read = unwrap_or w.read a.read;
      write = unwrap_or w.write a.write;
      exec = is_some w.read || a.exec;
      shared = unwrap_or w.shared a.shared;
      preload = unwrap_or w.preload a.preload;
      conforming = unwrap_or w.conforming a.conforming;
      iopl = unwrap_or w.iopl a.iopl;
    }

-- A target is a number, and after it what its kind has besides.
use Rattle.std.proofs.Common.{◌≡◌, ℕ, zero, suc, Ok, refl}
use Rattle.lx_bytes.specs.Cursor.{Cursor}
use Rattle.lx_types.specs.declared.fix.Source.{Source}
use Rattle.lx_types.specs.declared.fix.Source.TheVariants.{Byte, Sel, Far16, Off16, Far32, Off32, Self32}
use Rattle.lx_types.specs.declared.fix.FixTarget.{FixTarget}
use Rattle.lx_types.specs.declared.fix.FixTarget.TheVariants as targets
use Rattle.lx_model.specs.Reading.{number, Read, ◌>>=◌}
use Rattle.lx_model.specs.RecordFields.{number_width, target_width, ordinal_width, internal_at, target_of_kind}
use Rattle.lx_fixrec.specs.Reads.{internal_offset_at}

-- a target of a kind, from its number on
abbrev pub target_from : ℕ → Source → ℕ → ℕ → Cursor → Read FixTarget
target_from zero source flags n c = internal_offset_at source flags c >>= λ offset. Ok (targets.Internal n offset.0, offset.1)
target_from (suc zero) source flags n c = number (ordinal_width flags) c >>= λ ordinal. Ok (targets.Ordinal n ordinal.0, ordinal.1)
target_from (suc (suc zero)) source flags n c = number (target_width flags) c >>= λ name. Ok (targets.Named n name.0, name.1)
target_from (suc (suc (suc k))) source flags n c = Ok (targets.Own n, c)

internal_is : (source : Source) (flags : ℕ) (c : Cursor) → internal_at source flags c ≡ (number (number_width flags) c >>= λ n. target_from 0 source flags n.0 n.1)
unfolding internal_at
internal_is Byte flags c = refl
internal_is Sel flags c = refl
internal_is Far16 flags c = refl
internal_is Off16 flags c = refl
internal_is Far32 flags c = refl
internal_is Off32 flags c = refl
internal_is Self32 flags c = refl

pub target_is : (k : ℕ) (source : Source) (flags : ℕ) (c : Cursor) → target_of_kind k source flags c ≡ (number (number_width flags) c >>= λ n. target_from k source flags n.0 n.1)
unfolding target_of_kind
target_is zero source flags c = internal_is source flags c
target_is (suc zero) source flags c = refl
target_is (suc (suc zero)) source flags c = refl
target_is (suc (suc (suc k))) source flags c = refl

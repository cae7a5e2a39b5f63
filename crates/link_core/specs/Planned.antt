-- What is known of a link before its file is written.
use Rattle.std.specs.Prelude.{◌≡◌, None}
use Rattle.obj_types.specs.declared.input.LinkInput.{LinkInput}
use Rattle.link_model.specs.Link.{Link, link_of}
use Rattle.link_model.specs.Kept.{Kept}
use Rattle.link_model.specs.Clash.{comdat_refusal}
use Rattle.link_model.specs.LayoutRefusals.{lay_refusal}
use Rattle.link_model.specs.Refusal.{place_refusal}
use Rattle.link_model.specs.Exports.{entry_refusal}
use Rattle.lx_exports.specs.Exports.{export_refusal}
use Rattle.lx_write.specs.LinkImages.{IsImageOfLink}
use Rattle.lx_write.specs.Value.{CanBeWritten}
use Rattle.link_types.specs.Binding.{IsBound}
use Rattle.link_types.specs.Symbols.{SymbolTable}
use Rattle.link_types.specs.Layout.{IsLaidOut}
use Rattle.link_core.specs.declared.image.PlacedImage.{PlacedImage}
use Rattle.link_core.specs.declared.planning.Plan.{Plan}

-- The link is not refused before its exports are tried, and this is its image, which can be written.
pub record IsPlannedLink (l : Link) (p : Plan) : Type 0 where
  pub lay : lay_refusal l ≡ None
  pub place : place_refusal l ≡ None
  pub laid : IsLaidOut l p.layout
  pub image : IsImageOfLink l p.image
  pub writable : CanBeWritten p.image
  -- what the tables of exports refuse is what the link refuses
  pub entries : export_refusal p.image.exports ≡ entry_refusal l

-- The plan that these symbols and this image make.
abbrev pub plan_with : SymbolTable → PlacedImage → Plan
plan_with s made = record { syms = s; layout = made.layout; image = made.image }

-- No COMDATs clash, and this is the plan of the link of what is kept.
pub record IsPlanned (input : LinkInput) (p : Plan) : Type 0 where
  pub bound : IsBound (Kept input) p.syms
  pub joined : comdat_refusal input p.syms.chosen ≡ None
  pub planned : IsPlannedLink (link_of (Kept input) p.syms.chosen) p

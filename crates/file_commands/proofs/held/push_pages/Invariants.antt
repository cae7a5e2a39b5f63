use Rattle.std.proofs.Common.{◌≡◌, ◌+◌, ◌*◌, ◌++◌, drop}
use Rattle.std.specs.List.{flat_map, enumerate_from}
use Rattle.answer_model.specs.MemoryAnswer.{numbered_page_text}
use Rattle.file_commands.proofs.held.push_pages.Given as goal

abbrev pub invariant-loop-page : goal.invariant-loop-page
invariant-loop-page l = record {
  at : l.at ≡ l.base + l.page-index * 4096;
  text : l.text.items ++ flat_map (numbered_page_text l.base) (enumerate_from l.page-index (drop l.page-index l.pages))
      ≡ l.initial.text.items ++ flat_map (numbered_page_text l.base) (enumerate_from 0 l.pages);
}

use Rattle.std.proofs.Common.{ℕ, List, map, string_bytes}
use Rattle.std.specs.Global.{Global}
use Rattle.lx_tool.proofs.Headline.{headline_by, loads_by, main_headline, main_loads}
use Rattle.lx_tool.proofs.RunEndings.{ends_by, main_ends, main_shows, shows_by}
use Rattle.lx_tool.proofs.main_call.lx_main.Goals as goal

pub returns-in-Ok-clause-ends : goal.returns-in-Ok-clause-ends
returns-in-Ok-clause-ends g c =
    let words : List (List ℕ) = map (string_bytes {Z = Global}) c.args.words.now in
    main_ends words c.in-Some.file.now _ _ _ _ _ _ c.in-Some.ensures (ends_by c.in-Some.file.now _ _ _ _ c.in-Ok.end c.put_end.result c.in-Ok.ensures c.put_end.ensures.puts)

pub returns-in-Ok-clause-headline : goal.returns-in-Ok-clause-headline
returns-in-Ok-clause-headline g c =
    let words : List (List ℕ) = map (string_bytes {Z = Global}) c.args.words.now in
    main_headline words c.in-Some.file.now _ _ c.in-Some.ensures (headline_by c.in-Some.file.now _ _ c.in-Ok.end c.put_end.result.ran c.in-Ok.ensures c.put_end.ensures.puts.ran_is)

pub returns-in-Ok-clause-loads : goal.returns-in-Ok-clause-loads
returns-in-Ok-clause-loads g c =
    let words : List (List ℕ) = map (string_bytes {Z = Global}) c.args.words.now in
    main_loads words c.in-Some.file.now _ _ _ c.in-Some.ensures (loads_by c.in-Some.file.now _ _ c.in-Ok.end c.put_end.result.ran c.in-Ok.ensures c.put_end.ensures.puts.ran_is)

pub returns-in-Ok-clause-shows : goal.returns-in-Ok-clause-shows
returns-in-Ok-clause-shows g c =
    let words : List (List ℕ) = map (string_bytes {Z = Global}) c.args.words.now in
    main_shows words c.in-Some.file.now _ _ c.put_end.result c.in-Some.ensures (shows_by c.in-Some.file.now _ _ _ _ c.in-Ok.end c.put_end.result c.in-Ok.ensures c.put_end.ensures.puts)

use Rattle.std.proofs.Common.{◌≡◌, ◌++◌, map, drop}
use Rattle.lx_types.specs.Escaped.{hex_address}
use Rattle.line_words.specs.Words.{spaced}
use Rattle.session_text.proofs.entries.push_addresses.Given as goal

abbrev pub invariant-loop-address : goal.invariant-loop-address
invariant-loop-address l =
    l.out.items ++ spaced (map hex_address (drop l.address-index l.addresses)) ≡ l.initial.out.items ++ spaced (map hex_address l.addresses)

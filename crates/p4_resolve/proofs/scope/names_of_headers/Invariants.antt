use Rattle.std.proofs.Common.{map, take}
use Rattle.p4_texts.specs.TreeOf.{header_of}
use Rattle.p4_resolve.specs.Scopes.{EachNumbers}
use Rattle.p4_resolve.proofs.scope.names_of_headers.Given as goal

abbrev pub invariant-loop-header : goal.invariant-loop-header
invariant-loop-header l = EachNumbers l.names.items (map header_of (take l.header-index l.headers))

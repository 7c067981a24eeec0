use Rattle.std.proofs.Common.{[], ◌+◌, map, take}
use Rattle.cocoon_num.specs.Tree.{HeaderDecl}
use Rattle.cocoon_syntax.specs.TreeOf.{header_of}
use Rattle.cocoon_types.specs.Rules.{twice}
use Rattle.name_rules.specs.Among.{header_names}
use Rattle.name_rules.proofs.AmongFacts.{taken-twice}
use Rattle.name_rules.proofs.AgainFacts.{notes-again, seen-again}
use Rattle.name_rules.proofs.again.note_headers.Goals as goal

pub loop-header-init : goal.loop-header-init
loop-header-init c = record { kept = c.new-table.ensures; notes = c.among_laws.ensures.none twice c.args.noted.now }

pub loop-header-preserved : goal.loop-header-preserved
loop-header-preserved c = record {
  kept = seen-again c.note_again.new.table (header_names (map header_of (take c.loop-header.header-index c.args.headers.now))) (header_names (map header_of (take (c.loop-header.header-index + 1) c.args.headers.now))) (header_of c.header-item.result).name (taken-twice (λ (h : HeaderDecl). h.name) header_of c.args.headers.now c.loop-header.header-index c.header-item.result c.loop-header-test.true c.header-item.is) (c.in_ok-note_again.ensures.kept (header_names (map header_of (take c.loop-header.header-index c.args.headers.now))) c.loop-header.invariant.kept);
  notes = notes-again c.among_laws.ensures twice [] (header_names (map header_of (take c.loop-header.header-index c.args.headers.now))) (header_names (map header_of (take (c.loop-header.header-index + 1) c.args.headers.now))) (header_of c.header-item.result).name c.args.noted.now c.loop-header.noted c.note_again.new.noted (taken-twice (λ (h : HeaderDecl). h.name) header_of c.args.headers.now c.loop-header.header-index c.header-item.result c.loop-header-test.true c.header-item.is) c.loop-header.invariant.notes (c.in_ok-note_again.ensures.notes (header_names (map header_of (take c.loop-header.header-index c.args.headers.now))) c.loop-header.invariant.kept);
}

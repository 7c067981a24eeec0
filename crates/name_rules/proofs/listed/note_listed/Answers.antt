use Rattle.std.proofs.Common.{[], ◌+◌, map, take}
use Rattle.cocoon_syntax.specs.TreeOf.{name_of}
use Rattle.cocoon_types.specs.Rules.{not_refinable}
use Rattle.name_rules.proofs.AmongFacts.{taken}
use Rattle.name_rules.proofs.AgainFacts.{notes-again, seen-again}
use Rattle.name_rules.proofs.listed.note_listed.Goals as goal

pub loop-role-init : goal.loop-role-init
loop-role-init c = record { kept = c.new-table.ensures; notes = c.among_laws.ensures.none not_refinable c.args.noted.now }

pub loop-role-preserved : goal.loop-role-preserved
loop-role-preserved c = record {
  kept = seen-again c.note_again.new.table (map name_of (take c.loop-role.role-index c.args.roles.now)) (map name_of (take (c.loop-role.role-index + 1) c.args.roles.now)) (name_of c.role-item.result) (taken name_of c.args.roles.now c.loop-role.role-index c.role-item.result c.loop-role-test.true c.role-item.is) (c.in_ok-note_again.ensures.kept (map name_of (take c.loop-role.role-index c.args.roles.now)) c.loop-role.invariant.kept);
  notes = notes-again c.among_laws.ensures not_refinable [] (map name_of (take c.loop-role.role-index c.args.roles.now)) (map name_of (take (c.loop-role.role-index + 1) c.args.roles.now)) (name_of c.role-item.result) c.args.noted.now c.loop-role.noted c.note_again.new.noted (taken name_of c.args.roles.now c.loop-role.role-index c.role-item.result c.loop-role-test.true c.role-item.is) c.loop-role.invariant.notes (c.in_ok-note_again.ensures.notes (map name_of (take c.loop-role.role-index c.args.roles.now)) c.loop-role.invariant.kept);
}

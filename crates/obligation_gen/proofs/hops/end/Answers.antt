use Rattle.obligation_gen.proofs.Ends.{numbered}
use Rattle.obligation_gen.specs.Bodies.{design_in}
use Rattle.obligation_gen.proofs.hops.end.Goals as goal

pub unwrap-role-requires : goal.unwrap-role-requires
unwrap-role-requires c =
    numbered c.names-names.result.now (design_in c.args.hops.now) c.names-names.ensures c.args.hops.now.world.level c.args.place.role.now c.requires.role c.role_of.result c.role_of.ensures

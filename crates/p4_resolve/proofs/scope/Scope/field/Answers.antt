use Rattle.p4_resolve.proofs.ScopeFacts.{no_field, some_field}
use Rattle.p4_resolve.proofs.scope.Scope.field.Goals as goal

pub returns-in-Some : goal.returns-in-Some
returns-in-Some c = λ t d k. some_field c.args.self.now.fields.items t c.args.header c.in-Some.names.now c.args.name.now c.place.result k.fields c.in-Some.ensures c.place.ensures

pub returns-in-None : goal.returns-in-None
returns-in-None c = λ t d k. no_field c.args.self.now.fields.items t c.args.header c.args.name.now k.fields c.in-None.ensures

use Rattle.std.proofs.Common.{◌<◌, length, sym, subst}
use Rattle.p4_run.proofs.running.apply.Goals as goal

pub look-found-requires-clause-some : goal.look-found-requires-clause-some
look-found-requires-clause-some c = subst (λ ks. 0 < length ks) (sym c.deref.ensures.value) c.args.table.now.some

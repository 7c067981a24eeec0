use Rattle.std.proofs.Common.{rules, ◌≡◌, [], ap, length, refl, subst, sym}
use Rattle.cnf_core.specs.Deriving.{known}
use Rattle.cdcl.specs.Watching.{IsWatched}
use Rattle.cdcl.proofs.Attaching.{watched-none}
use Rattle.cdcl.proofs.search.Search.empty.Goals as goal

pub returns-clause-begun : goal.returns-clause-begun
returns-clause-begun c =
    let steps = c.new-steps.result in
    let starts = c.new-starts.result in
    let w = c.in_ok-watches.watches in
    let vars = c.args.cnf.now.vars in
    let cs = known c.args.cnf.now steps.items in
    let no_steps : steps.items ≡ [] = search rules in
    let no_starts : starts.items ≡ [] = search rules in
    record {
      count = ap length c.in_ok-watches.ensures.none;
      watched = subst (λ ts. IsWatched vars cs ts 0 starts.items w) (sym c.in_ok-trail.ensures.trues)
          (subst (λ bs. IsWatched vars cs [] 0 bs w) (sym no_starts) (watched-none vars cs w c.in_ok-watches.ensures.none c.in_ok-watches.ensures.rooms));
      steps = no_steps;
      starts = no_starts;
      propagated = refl;
    }

use Rattle.std.proofs.Common.{length, ap, sym, subst, ◌∙◌}
use Rattle.net_run.specs.Ascending.{Ascending}
use Rattle.net_run.proofs.OneOrder.{map_same, one_order}
use Rattle.net_run.proofs.laws.one_travelling.Goals as goal

pub returns : goal.returns
returns c = λ net a bytes n k m t u.
    t.counted
    ∙ ap length (one_order (λ cs. cs) t.lists u.lists (subst Ascending (sym (map_same t.lists)) t.ascending) (subst Ascending (sym (map_same u.lists)) u.ascending)
    (λ z h. (u.exact z).1 ((t.exact z).0 h)) (λ z h. (t.exact z).1 ((u.exact z).0 h)))
    ∙ sym u.counted

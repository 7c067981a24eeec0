use Rattle.net_run.specs.Outcomes.{Delivery}
use Rattle.net_run.proofs.OneOrder.{one_order}
use Rattle.net_run.proofs.laws.one_delivered.Goals as goal

pub returns : goal.returns
returns c = λ net a bytes n ds es d e.
    one_order (λ (x : Delivery). x.choices) ds es d.ascending e.ascending (λ z h. (e.exact z).1 ((d.exact z).0 h)) (λ z h. (d.exact z).1 ((e.exact z).0 h))

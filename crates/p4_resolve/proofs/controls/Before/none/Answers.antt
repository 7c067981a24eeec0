use Rattle.std.proofs.Common.{[], refl, subst, sym}
use Rattle.p4_resolve.specs.Judged.{Sees}
use Rattle.p4_resolve.proofs.NameFacts.{none_seen}
use Rattle.p4_resolve.proofs.controls.Before.none.Goals as goal

pub returns : goal.returns
returns c = λ t. record { actions = subst (λ ks. Sees ks []) (sym c.new.ensures.empty) none_seen; least = refl }

use Rattle.std.proofs.Common.{inl, inr, sym, subst}
use Rattle.p4_ir.specs.NetRuns.{Visits}
use Rattle.net_run.proofs.Leading.{goes_on, kept, parted, plus_is}
use Rattle.net_run.proofs.laws.travellers_go_on.Goals as goal

pub returns : goal.returns
returns c = λ net m n b out s p bytes rids. (
  λ v. parted net m n b out s p bytes rids (subst (λ k. Visits net k b out s p bytes rids) (sym (plus_is n m)) v),
  λ h. subst (λ k. Visits net k b out s p bytes rids) (plus_is n m)
      (elim h [ inl v ↦ kept net m n b out s p bytes rids v | inr g ↦ goes_on net m n b out s p bytes rids g ]),
)

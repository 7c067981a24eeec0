use Rattle.std.proofs.Common.{◌≡◌, ◌∙◌, ap, refl, sym, subst, Some, None}
use Rattle.cocoon_syntax.specs.TreeOf.{design_of}
use Rattle.cocoon_types.specs.Runs.{world}
use Rattle.role_meaning.specs.Leading.{Leads}
use Rattle.role_meaning.specs.Located.{loc_of, sent_of}
use Rattle.role_values.specs.Flat.{packet_of}
use Rattle.step_cases.proofs.Cased.{located, moved}
use Rattle.step_cases.proofs.running.run_case.Goals as goal

pub returns-in-Some : goal.returns-in-Some
returns-in-Some c defined stands of is =
    let d = design_of c.args.checked.now in
    let leads = subst (λ to. Leads d (world c.args.level d defined) (record { role = c.args.case.role; values = c.from.result }) (record { fields = c.from-2.result }) c.deref.result.now to)
    c.in-Some.is (c.in_ok-to.ensures.goes defined stands) in (
      loc_of d c.in-Some.to,
      sent_of d c.in-Some.sent,
      moved (world c.args.level d defined) _ of.at _ (packet_of d.headers of.fields) _ of.choices
          (located d (record { role = c.args.case.role; values = c.from.result }) _ _ of.at refl c.from.ensures is.at)
          (ap (packet_of d.headers) (c.from-2.ensures ∙ is.fields)) (c.deref.ensures.value ∙ is.choices) _ _ leads,
      c.in_ok-told-in-Some.ensures,
    )

pub returns : goal.returns
returns c defined stands of is to sent goes =
    let d = design_of c.args.checked.now in
    let none = subst (λ to. Leads d (world c.args.level d defined) (record { role = c.args.case.role; values = c.from.result }) (record { fields = c.from-2.result }) c.deref.result.now to)
    c.in-None.is (c.in_ok-to.ensures.goes defined stands) in
    none to sent (moved (world c.args.level d defined) of.at _ (packet_of d.headers of.fields) _ of.choices _
    (sym (located d (record { role = c.args.case.role; values = c.from.result }) _ _ of.at refl c.from.ensures is.at))
    (sym (ap (packet_of d.headers) (c.from-2.ensures ∙ is.fields))) (sym (c.deref.ensures.value ∙ is.choices)) to sent goes)

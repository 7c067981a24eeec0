use Rattle.std.proofs.Common.{subst}
use Rattle.cocoon_num.specs.Tree.{Role, HostDecl}
use Rattle.cocoon_syntax.specs.TreeOf.{design_of, host_of, role_of}
use Rattle.cocoon_types.specs.Noting.{Notes}
use Rattle.cocoon_types.specs.Rules.{sink_form}
use Rattle.cocoon_types.specs.RuleParts.{roles_of}
use Rattle.cocoon_types.specs.Among.{among}
use Rattle.form_rules.specs.Parts.{host_faults}
use Rattle.form_rules.proofs.RoleLists.{of_some, of_none}
use Rattle.form_rules.proofs.roles.note_sink_form.Goals as goal

pub returns-in-Some : goal.returns-in-Some
returns-in-Some c =
    let h : HostDecl = host_of c.in-Some.host.now in
    let e : Role = role_of c.in-Some.entry.now in
    let s : Role = role_of c.in-Some.sink.now in
    subst (λ l. Notes (among sink_form l) c.args.noted.now c.note_hosts.new.noted)
    (of_some (design_of c.args.design.now) (λ x y z. host_faults x y z (roles_of (design_of c.args.design.now))) h e s c.in-Some.ensures)
    (subst (λ rs. Notes (among sink_form (host_faults h e s rs)) c.args.noted.now c.note_hosts.new.noted) c.requires.all c.note_hosts.ensures)

pub returns-in-None : goal.returns-in-None
returns-in-None c =
    subst (λ l. Notes (among sink_form l) c.args.noted.now c.args.noted.now)
    (of_none (design_of c.args.design.now) (λ x y z. host_faults x y z (roles_of (design_of c.args.design.now))) c.in-None.ensures)
    (c.among_laws.ensures.none sink_form c.args.noted.now)

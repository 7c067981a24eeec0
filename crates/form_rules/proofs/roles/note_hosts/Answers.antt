use Rattle.std.proofs.Common.{◌∙◌, map, not, ap, ap₂, subst}
use Rattle.std.specs.Prelude.{flat_map}
use Rattle.cocoon_num.specs.Names.{same_name}
use Rattle.cocoon_syntax.specs.TreeOf.{host_of, param_of, role_of}
use Rattle.cocoon_types.specs.Noting.{Notes}
use Rattle.cocoon_types.specs.RuleParts.{unless}
use Rattle.cocoon_types.specs.Rules.{sink_form}
use Rattle.cocoon_types.specs.SameTrees.{same_params}
use Rattle.cocoon_types.specs.Among.{among}
use Rattle.form_rules.specs.Parts.{bodiless}
use Rattle.form_rules.proofs.Joined.{noted-as}
use Rattle.form_rules.proofs.RoleLists.{hosts_noted}
use Rattle.form_rules.proofs.roles.note_hosts.Goals as goal

pub returns : goal.returns
returns c =
    hosts_noted c.among_laws.ensures (host_of c.args.host.now) (role_of c.args.entry.now) (role_of c.args.sink.now) (map (λ r. role_of r.now) c.args.roles.now)
    c.args.noted.now c.note_unless.new.noted c.note_bodiless.new.noted c.note_unless-2.new.noted c.note_unless-3.new.noted c.note_unless-4.new.noted
    (noted-as sink_form c.args.entry.now.name.at c.args.noted.now c.note_unless.new.noted (ap not (c.is_named-apart.ensures ∙ ap₂ same_name c.bytes.ensures c.bytes-2.ensures)) c.note_unless.ensures)
    (subst (λ x. Notes (among sink_form (flat_map (bodiless x) (map (λ r. role_of r.now) c.args.roles.now))) c.note_unless.new.noted c.note_bodiless.new.noted) c.bytes-3.ensures c.note_bodiless.ensures)
    (noted-as sink_form c.args.entry.now.name.at c.note_bodiless.new.noted c.note_unless-2.new.noted c.has_one_param.ensures c.note_unless-2.ensures)
    (noted-as sink_form c.args.sink.now.name.at c.note_unless-2.new.noted c.note_unless-3.new.noted c.has_one_param-2.ensures c.note_unless-3.ensures)
    (subst (λ at. Notes (among sink_form (unless (same_params (map param_of c.args.entry.now.params.items) (map param_of c.args.sink.now.params.items)) at)) c.note_unless-3.new.noted c.note_unless-4.new.noted) c.lesser.ensures
    (noted-as sink_form c.lesser.result c.note_unless-3.new.noted c.note_unless-4.new.noted
    (c.same_params-same.ensures ∙ ap₂ (λ ps qs. same_params (map param_of ps) (map param_of qs)) c.deref.ensures.value c.deref-2.ensures.value) c.note_unless-4.ensures))

use Rattle.std.proofs.Common.{[], ◌++◌, map, subst}
use Rattle.std.specs.Prelude.{flat_map}
use Rattle.cocoon_syntax.specs.TreeOf.{design_of, header_of}
use Rattle.cocoon_types.specs.Noting.{Notes}
use Rattle.cocoon_types.specs.RuleParts.{repeated}
use Rattle.cocoon_types.specs.Rules.{twice}
use Rattle.cocoon_types.specs.Among.{among}
use Rattle.name_rules.specs.Among.{design_functions, header_names, hosts_twice, params_twice, repeated_fields, roles_twice, switches_twice}
use Rattle.name_rules.proofs.names.note_twice.Goals as goal

pub returns : goal.returns
returns c =
    let laws = c.among_laws.ensures in
    let d = design_of c.args.design.now in
    let start = c.args.noted.now in
    let headers = repeated [] (header_names d.headers) in
    let fields = headers ++ flat_map repeated_fields d.headers in
    let functions = fields ++ repeated [] (design_functions d) in
    let params = functions ++ params_twice d in
    let roles = params ++ roles_twice d in
    let hosts = roles ++ hosts_twice d in
    let by_headers = subst (λ l. Notes (among twice (repeated [] (header_names (map header_of l)))) start c.note_headers.new.noted) c.deref.ensures.value c.in_ok-note_headers.ensures in
    let by_fields = subst (λ l. Notes (among twice (flat_map repeated_fields (map header_of l))) c.note_headers.new.noted c.note_fields.new.noted) c.deref-2.ensures.value c.in_ok-note_fields.ensures in
    laws.append twice hosts (switches_twice d) start c.note_hosts.new.noted c.note_switches.new.noted
    (laws.append twice roles (hosts_twice d) start c.note_roles_again.new.noted c.note_hosts.new.noted
    (laws.append twice params (roles_twice d) start c.note_all_params.new.noted c.note_roles_again.new.noted
    (laws.append twice functions (params_twice d) start c.note_functions.new.noted c.note_all_params.new.noted
    (laws.append twice fields (repeated [] (design_functions d)) start c.note_fields.new.noted c.note_functions.new.noted
    (laws.append twice headers (flat_map repeated_fields d.headers) start c.note_headers.new.noted c.note_fields.new.noted by_headers by_fields)
    c.in_ok-note_functions.ensures) c.in_ok-note_all_params.ensures) c.in_ok-note_roles_again.ensures) c.note_hosts.ensures) c.note_switches.ensures

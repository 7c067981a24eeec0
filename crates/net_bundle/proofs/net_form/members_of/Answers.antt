use Rattle.std.proofs.Common.{◌∙◌}
use Rattle.serde_json.specs.View.{view}
use Rattle.net_bundle.proofs.Sought.{same_option, hosts_from, links_from}
use Rattle.net_bundle.proofs.net_form.members_of.Goals as goal

pub returns-clause-links : goal.returns-clause-links
returns-clause-links c =
    let d = view c.args.value.now in
    let ports = same_option c.in_ok-ports.ports _ c.in_ok-ports.ensures in
    let switches = c.in_ok-numbers.ensures ∙ c.in_ok-switches.ensures in
    let hosts = hosts_from d _ _ _ ports switches c.in_ok-hosts.ensures in
    links_from d _ _ _ _ _ ports switches hosts c.in_ok-host_numbers.ensures c.in_ok-links.ensures

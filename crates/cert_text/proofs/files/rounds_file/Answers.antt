use Rattle.std.proofs.Common.{ap, codes, map}
use Rattle.cnf_core.specs.CertsOf.{instance_of}
use Rattle.cert_text.specs.LogsJson.{instances_data}
use Rattle.serde_json.specs.Data.{member, no_members}
use Rattle.serde_json.specs.View.{members_view}
use Rattle.cert_text.specs.Spent.{rounds}
use Rattle.cert_text.proofs.files.rounds_file.Goals as goal

pub returns : goal.returns
returns c =
    let is = map instance_of c.args.instances.now in
    let one = member (codes "instances") (instances_data is) no_members in
    c.written.ensures (rounds c.args.obligation is) (c.with_obligation-file.ensures one (c.with_instances-file.ensures no_members (ap members_view c.new.ensures.empty)))

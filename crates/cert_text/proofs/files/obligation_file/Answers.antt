use Rattle.std.proofs.Common.{ap, codes, map}
use Rattle.cnf_core.specs.CertsOf.{instance_of, log_of}
use Rattle.cert_text.specs.LogsJson.{instances_data, log_data}
use Rattle.serde_json.specs.Data.{member, no_members}
use Rattle.serde_json.specs.View.{members_view}
use Rattle.cert_text.specs.Spent.{asked}
use Rattle.cert_text.proofs.files.obligation_file.Goals as goal

pub returns : goal.returns
returns c =
    let is = map instance_of c.args.instances.now in
    let log = log_of c.args.log.now in
    let one = member (codes "instances") (instances_data is) no_members in
    let two = member (codes "instances") (instances_data is) (member (codes "log") (log_data log) no_members) in
    c.written.ensures (asked c.args.obligation is log)
    (c.with_obligation-file.ensures two (c.with_log-file.ensures one (c.with_instances-file.ensures no_members (ap members_view c.new.ensures.empty))))

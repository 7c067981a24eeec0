use Rattle.std.proofs.Common.{codes, map}
use Rattle.cnf_core.specs.CertsOf.{instance_of, log_of}
use Rattle.cocoon_syntax.specs.TreeOf.{design_of}
use Rattle.runtime_defs.specs.EntryPlaces.{defs_text}
use Rattle.json_forms.specs.Values.{number_data}
use Rattle.cert_text.specs.LogsJson.{instances_data, log_data}
use Rattle.serde_json.specs.Data.{Members, member, no_members, string}
use Rattle.cert_text.specs.Spent.{tried}
use Rattle.cert_text.proofs.files.candidate_file.Goals as goal

pub returns : goal.returns
returns c =
    let text = defs_text (design_of c.args.checked.now) c.args.defs.now in
    let is = map instance_of c.args.instances.now in
    let log = log_of c.args.log.now in
    let begun : Members → Members = λ more. member (codes "assumption") (number_data c.args.number) (member (codes "defs") (string text) more) in
    let with_is : Members → Members = λ more. begun (member (codes "instances") (instances_data is) more) in
    c.written.ensures (tried c.args.number text c.args.obligation is log)
    (c.with_obligation-file.ensures (with_is (member (codes "log") (log_data log) no_members))
    (c.with_log-file.ensures (with_is no_members) (c.with_instances-file.ensures (begun no_members) c.assumed-file.ensures)))

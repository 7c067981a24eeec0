use Rattle.std.proofs.Common.{codes}
use Rattle.cnf_core.specs.CertsOf.{log_of}
use Rattle.cocoon_syntax.specs.TreeOf.{design_of}
use Rattle.runtime_defs.specs.EntryPlaces.{defs_text}
use Rattle.json_forms.specs.Values.{number_data}
use Rattle.serde_json.specs.Data.{member, no_members, string}
use Rattle.cert_text.specs.Spent.{given}
use Rattle.cert_text.proofs.files.given_file.Goals as goal

pub returns : goal.returns
returns c =
    let text = defs_text (design_of c.args.checked.now) c.args.defs.now in
    let begun = member (codes "assumption") (number_data c.args.number) (member (codes "defs") (string text) no_members) in
    c.written.ensures (given c.args.number text (log_of c.args.log.now)) (c.with_log-file.ensures begun c.assumed-file.ensures)

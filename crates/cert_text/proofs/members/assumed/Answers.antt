use Rattle.std.proofs.Common.{ap, codes}
use Rattle.cocoon_syntax.specs.TreeOf.{design_of}
use Rattle.runtime_defs.specs.EntryPlaces.{defs_text}
use Rattle.json_forms.specs.Values.{number_data}
use Rattle.serde_json.specs.Data.{member, no_members, string}
use Rattle.serde_json.specs.View.{members_view}
use Rattle.cert_text.proofs.members.assumed.Goals as goal

pub returns : goal.returns
returns c =
    let number = number_data c.args.number in
    c.with.ensures (member (codes "assumption") number no_members) (string (defs_text (design_of c.args.checked.now) c.args.defs.now))
    (c.with-object.ensures no_members number (ap members_view c.new.ensures.empty) c.from.ensures) c.defs_value-text.ensures

-- Cited by the clause of `LimitName::text`: the names of limits in reports.
use Rattle.std.specs.Prelude.{ℕ, List, codes}
use Rattle.cocoon_num.specs.declared.limit_name.LimitName.{LimitName}
use Rattle.cocoon_num.specs.declared.limit_name.LimitName.TheVariants as limit

abbrev pub limit_text : LimitName → List ℕ
limit_text limit.File = codes "file"
limit_text limit.Refines = codes "refines"
limit_text limit.Within = codes "within"
limit_text limit.Ports = codes "ports"
limit_text limit.Roles = codes "roles"
limit_text limit.Functions = codes "functions"
limit_text limit.Assumptions = codes "assumptions"
limit_text limit.Params = codes "params"
limit_text limit.Headers = codes "headers"
limit_text limit.Fields = codes "fields"
limit_text limit.Paths = codes "paths"
limit_text limit.Expanded = codes "expanded"
limit_text limit.Leaves = codes "leaves"
limit_text limit.Clauses = codes "clauses"
limit_text limit.Rows = codes "rows"
limit_text limit.Switches = codes "switches"
limit_text limit.Hosts = codes "hosts"
limit_text limit.Tables = codes "tables"
limit_text limit.Sites = codes "sites"
limit_text limit.Members = codes "members"
limit_text limit.Level = codes "level"
limit_text limit.Copies = codes "copies"
limit_text limit.Packet = codes "packet"

use Rattle.std.proofs.Common.{◌≡◌, Some, slice_get, rules}
use Rattle.cocoon_syntax.specs.TreeOf.{design_of, function_of}
use Rattle.cocoon_types.specs.Design.{functions}
use Rattle.lower_rows.proofs.groups.push_place.Goals as goal

pub push_groups-requires : goal.push_groups-requires
push_groups-requires c =
    let there : slice_get (functions (design_of c.args.checked.now)) c.args.number ≡ Some (function_of c.in-Some-function.function.now) = search rules in
    c.requires (function_of c.in-Some-function.function.now) c.in-Some.table there c.in-Some.is

-- Cited by the clause of `note_uses`: the faults of names where they are used, and of variables where they are bound.
use Rattle.std.specs.Prelude.{◌||◌, Bool, flat_map}
use Rattle.cocoon_num.specs.Tree.{Design}
use Rattle.cocoon_types.specs.Rules.{twice, unknown_name, late_function, unknown_role, fails_at}
use Rattle.cocoon_types.specs.NameRules.{bound_again, unknown_role_in_stmt}
use Rattle.cocoon_types.specs.Sites.{all_stmts}
use Rattle.cocoon_types.specs.FirstFault.{Fault}
use Rattle.cocoon_types.specs.Among.{among}

-- a fault of names where they are used, or of variables where they are bound
abbrev pub is_use_fault : Design → Fault → Bool
is_use_fault d f =
    among twice (flat_map bound_again (all_stmts d)) f || among unknown_name (fails_at unknown_name d) f
    || among late_function (fails_at late_function d) f
    || among unknown_role (flat_map unknown_role_in_stmt (all_stmts d)) f

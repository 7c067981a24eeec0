-- Cited by the clause of `note_bodies`: the faults of the bodies of the last level, which are by the `send`s of the first
-- switch role, and by wires, choices and forks.
use Rattle.std.specs.Prelude.{◌||◌, Bool, [], Some, None}
use Rattle.cocoon_num.specs.Tree.{Design}
use Rattle.cocoon_types.specs.Design.{switch_decl}
use Rattle.cocoon_types.specs.FormRules.{switch_sends}
use Rattle.cocoon_types.specs.Rules.{not_switch_form, not_wire, last_choice, fork_form, fails_at}
use Rattle.cocoon_types.specs.FirstFault.{Fault}
use Rattle.cocoon_types.specs.Among.{among}

-- a fault of the bodies of the last level
abbrev pub is_body_fault : Design → Fault → Bool
is_body_fault d f =
    among not_switch_form (elim (switch_decl d) [ None ↦ [] | Some s ↦ switch_sends d s ]) f
    || among not_wire (fails_at not_wire d) f
    || among last_choice (fails_at last_choice d) f
    || among fork_form (fails_at fork_form d) f

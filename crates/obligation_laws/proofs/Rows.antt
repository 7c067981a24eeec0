-- Under the definitions of a text, functions that are defined at run time have values of their types.
use Rattle.std.proofs.Common.{◌≡◌, subst}
use Rattle.cocoon_num.specs.Tree.{Design}
use Rattle.cocoon_types.specs.Tables.{Defs}
use Rattle.cocoon_types.specs.Typing.{result_sort}
use Rattle.cocoon_types.specs.Val.{context}
use Rattle.cocoon_types.specs.Design.{functions}
use Rattle.sound_types.specs.Matching.{HasValue}
use Rattle.sound_types.specs.Soundness.{IsSound}
use Rattle.sound_types.proofs.Functions.{NamesDiffer}
use Rattle.obligation_laws.proofs.Typings.{in_place}
use Rattle.obligation_laws.proofs.ExprValues.{RowsFit, looked_up}

pub rows_fit : (d : Design) (defs : Defs) → NamesDiffer d → IsSound d (context d defs) → RowsFit d defs
rows_fit d defs differ sound = λ g i none ns fit.
    let at = in_place g (functions d) i in
    subst (HasValue (result_sort g.result)) (looked_up d defs differ g i none ns) (sound.functions at.0 g at.1 ns fit)

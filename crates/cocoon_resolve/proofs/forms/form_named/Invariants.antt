use Rattle.std.proofs.Common.{◌≡◌, ◌≤◌, length, reverse, take}
use Rattle.cocoon_resolve.specs.Forms.{known_form}
use Rattle.cocoon_resolve.proofs.forms.form_named.Given as goal

abbrev pub invariant-loop-left : goal.invariant-loop-left
invariant-loop-left l = record {
  within : l.left ≤ length l.known;
  rest : known_form (reverse (take l.left l.known)) l.name ≡ known_form (reverse l.known) l.name;
}

abbrev pub decreases-loop-left : goal.decreases-loop-left
decreases-loop-left l = l.left

-- Cited by the clause of the law `tried_choices_send`, and by that of `can_send`: what a body can send.
use Rattle.std.specs.Prelude.{◌≡◌, ℕ, Bool, true, false, List, [], ◌∷◌, ◌++◌}
use Rattle.cocoon_num.specs.Packets.{Packet}
use Rattle.cocoon_num.specs.Tree.{Block, Design}
use Rattle.cocoon_types.specs.Runs.{Go, Loc, World}
use Rattle.refinement.specs.Trails.{finds_in, first_marks}

-- some choices give that send
abbrev pub CanSend : World → Loc → Packet → Loc → Packet → Type 0
CanSend w from packet to sent = (choices : List ℕ) × Go w from packet choices to sent

-- the numbers of the fields, header by header
abbrev pub flat : Packet → List ℕ
flat [] = []
flat (ns ∷ packet) = ns ++ flat packet

-- some choices are tried where a path of the body sends
abbrev pub AreTried : Design → Block → Loc → Packet → List ℕ → Type 0
AreTried d body to sent choices =
    (passes : List ℕ → Bool) → passes choices ≡ true
    → finds_in to.values (flat sent) body (λ m. false) passes (first_marks d.headers) ≡ true

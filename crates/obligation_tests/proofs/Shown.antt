-- Obligations of the code by their numbers.
use Rattle.std.proofs.Common.{◌≡◌, ℕ, zero, suc, ◌<◌, List, [], ◌∷◌, length, get_or, Option, Some, None, IfSome, nat_lt, is_some, Bor, ap, sym, arith}
use Rattle.std.specs.Prelude.{slice_get}
use Rattle.std.proofs.lemmas.Bool.Decides.{nat_tests}
use Rattle.cocoon_num.specs.Tree.{Design}
use Rattle.bv_terms.specs.declared.node.Node.{Node}
use Rattle.cert_text.proofs.SideBySide.{beside}
use Rattle.obligation_gen.specs.Owed.{IsOwed}
use Rattle.obligation_gen.specs.Shown.{ShowsObligation, ShowsObligations}
use Rattle.obligation_gen.specs.declared.obligation.Obligation.{Obligation}
use Rattle.obligation_laws.specs.Obligations.{all_obligations}

at_index : {A : Type 0} (xs : List A) (n : ℕ) (x : A) → n < length xs → x ≡ get_or xs n x → slice_get xs n ≡ Some x
at_index [] n x l e = absurd (omega (arith, l))
at_index (y ∷ xs) zero x l e = ap Some (sym e)
at_index (y ∷ xs) (suc n) x l e = at_index xs n x (omega (arith, l)) e

pub owed_at : (d : Design) (nodes : List Node) (all : List Obligation) (n : ℕ) (o : Obligation) → ShowsObligations d nodes all (all_obligations d) → n < length all → o ≡ get_or all n o → IsOwed d nodes o
owed_at d nodes all n o shows l is =
    let it = beside (ShowsObligation d nodes) all (all_obligations d) shows n o (at_index all n o l is) in
    record { number = n; owed = it.0; there = it.1; shown = it.2 }

-- what is found there is owed
pub found_owed : (d : Design) (nodes : List Node) (all : List Obligation) (n : ℕ) (found : Option (Bor Obligation)) → ShowsObligations d nodes all (all_obligations d)
    → is_some found ≡ nat_lt n (length all) → IfSome found (λ o. o.now ≡ get_or all n o.now) → IfSome found (λ o. IsOwed d nodes o.now)
found_owed d nodes all n None shows some is = tt
found_owed d nodes all n (Some o) shows some is = owed_at d nodes all n o.now shows (grind (arith, some)) is

-- The first limit that is exceeded, part by part.
use Rattle.std.proofs.Common.{◌≡◌, ℕ, suc, nat_lt, Bool, true, false, List, [], ◌∷◌, ◌++◌, length, if◌then◌else◌, Option, Some, None, refl, sym, ap, ◌∙◌}
use Rattle.std.specs.List.{AllZip}
use Rattle.std.specs.Option.{option_or}
use Rattle.cocoon_num.specs.Tree.{Design}
use Rattle.cocoon_num.specs.declared.limit_name.LimitName.{LimitName}
use Rattle.lowering.specs.Whole.{SwitchRole}
use Rattle.lowering.specs.Roles.{NetParts, net_parts}
use Rattle.lowering_correct.specs.Counts.{Counted, FirstOver, counts, first_over, program_counts}
use Rattle.lowering_correct.specs.Network.{HasNumbers}
use Rattle.runtime_defs.specs.Places.{Places}
use Rattle.lower_net.specs.Limits.{of_network}

pick : (b : Bool) (x : LimitName × ℕ) (o p : Option (LimitName × ℕ)) → (if b then Some x else option_or o p) ≡ option_or (if b then Some x else o) p
pick true x o p = refl
pick false x o p = refl

-- of two lists of counts, that of the first, else that of the second
pub over_both : (xs ys : List Counted) → first_over (xs ++ ys) ≡ option_or (first_over xs) (first_over ys)
over_both [] ys = refl
over_both (c ∷ cs) ys = ap (λ o. if nat_lt c.most c.count then Some (c.limit, c.count) else o) (over_both cs ys) ∙ pick (nat_lt c.most c.count) (c.limit, c.count) (first_over cs) (first_over ys)

abbrev pub first_number : List ℕ → ℕ
first_number [] = 0
first_number (n ∷ ns) = n

-- where there is a switch and the network is within its limits, the limits of programs decide
pub over_there : (d : Design) (places : Places) (r : SwitchRole) (switches hosts : List ℕ) (over : Option (LimitName × ℕ))
    → first_over (of_network (length switches) (length hosts)) ≡ None → (switches ≡ [] → ⊥) → over ≡ first_over (program_counts d places r (first_number switches))
    → over ≡ first_over (counts d places r switches hosts)
over_there d places r [] hosts over none some h = absurd (some refl)
over_there d places r (s ∷ switches) hosts over none some h =
    h ∙ sym (over_both (of_network (length (s ∷ switches)) (length hosts)) (program_counts d places r s)
    ∙ ap (λ o. option_or o (first_over (program_counts d places r s))) none)

pub zip_count : {A B : Type 0} (R : A → B → Type 0) (xs : List A) (ys : List B) → AllZip R xs ys → length ys ≡ length xs
zip_count R [] [] h = refl
zip_count R [] (y ∷ ys) h = absurd h
zip_count R (x ∷ xs) [] h = absurd h
zip_count R (x ∷ xs) (y ∷ ys) h = ap suc (zip_count R xs ys h.1)

-- these are the parts and the numbers of the network, and no limit is exceeded
abbrev pub within_by : (d : Design) (places : Places) (parts : NetParts) (switches hosts : List ℕ) → net_parts d ≡ Some parts → HasNumbers d places switches hosts
    → None ≡ first_over (counts d places parts.role switches hosts) → FirstOver d places None
within_by d places parts switches hosts are numbers over = record {
  parts = parts;
  parts_are = are;
  switches = switches;
  hosts = hosts;
  numbers = numbers;
  over_is = over;
}

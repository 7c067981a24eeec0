-- Locations that a name and values are.
use Rattle.std.proofs.Common.{◌≡◌, ℕ, Bool, true, false, List, Option, Some, None, option_and_then, refl}
use Rattle.cocoon_num.specs.Tokens.{kept_if}
use Rattle.cocoon_num.specs.Tree.{Role}
use Rattle.cocoon_types.specs.Runs.{Loc}
use Rattle.step_cases.specs.Cases.{may_act}

-- the name, where the role may act
abbrev pub acts : List ℕ → List ℕ → Option Role → Option (List ℕ)
acts name values role = option_and_then (λ r. kept_if (may_act r values) name) role

-- its location, where there are values
abbrev pub located : List ℕ → Option (List ℕ) → Option Role → Option Loc
located name values role = option_and_then (λ r. option_and_then (λ vs. kept_if (may_act r vs) (record { role = name; values = vs })) values) role

kept : {A B : Type 0} (b : Bool) (x : A) (y : B) → kept_if b x ≡ Some x → kept_if b y ≡ Some y
kept true x y e = refl
kept false x y e = cc

not_kept : {A B : Type 0} (b : Bool) (x : A) (y : B) → kept_if b x ≡ None → kept_if b y ≡ None
not_kept true x y e = cc
not_kept false x y e = refl

pub is_located : (name values : List ℕ) (role : Option Role) → acts name values role ≡ Some name → located name (Some values) role ≡ Some (record { role = name; values = values })
is_located name values None e = cc
is_located name values (Some r) e = kept (may_act r values) name (record { role = name; values = values }) e

pub not_located : (name values : List ℕ) (role : Option Role) → acts name values role ≡ None → located name (Some values) role ≡ None
not_located name values None e = refl
not_located name values (Some r) e = not_kept (may_act r values) name (record { role = name; values = values }) e

pub no_values : (name : List ℕ) (role : Option Role) → located name None role ≡ None
no_values name None = refl
no_values name (Some r) = refl

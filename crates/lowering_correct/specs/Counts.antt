-- Cited by the clauses of `lower`: the limits of lowering, each with its counts, in order, and the first that is exceeded. It
-- follows the section "Limits" of docs/LANGUAGE.md. Where there is no switch there is no program, so those on programs hold.
use Rattle.std.specs.Prelude.{◌≡◌, ℕ, nat_lt, List, [], ◌∷◌, ◌++◌, map, length, if◌then◌else◌, Option, Some, None}
use Rattle.cocoon_num.specs.Tree.{Design}
use Rattle.cocoon_num.specs.declared.limit_name.LimitName.{LimitName}
use Rattle.cocoon_num.specs.declared.limit_name.LimitName.TheVariants as limit
use Rattle.runtime_defs.specs.Places.{Places}
use Rattle.lowering.specs.Log.{tables_in}
use Rattle.lowering.specs.Whole.{SwitchRole, role_lowered}
use Rattle.lowering_correct.specs.Groups.{ForkGroup, fork_groups}
use Rattle.lowering_correct.specs.Network.{HasNumbers}
use Rattle.lowering.specs.Roles.{NetParts, net_parts}
use Rattle.lowering.specs.SwitchProgram.{switch_made}

-- ---- the most of each

abbrev pub most_switches : ℕ
most_switches = 64

abbrev pub most_hosts : ℕ
most_hosts = 1024

abbrev pub most_tables : ℕ
most_tables = 256

abbrev pub most_sites : ℕ
most_sites = 255

abbrev pub most_members : ℕ
most_members = 256

-- ---- the counts

-- a count and the most that it may be
pub record Counted : Type 0 where
  pub limit : LimitName
  pub count : ℕ
  pub most : ℕ

-- the tables and the forks of a program, which are as many for each switch, and the members of each group
abbrev pub program_counts : Design → Places → SwitchRole → (switch : ℕ) → List Counted
program_counts d places r s =
    record { limit = limit.Tables; count = length (tables_in (switch_made r s)); most = most_tables }
    ∷ record { limit = limit.Sites; count = length (role_lowered r s).sites; most = most_sites }
    ∷ map (λ (g : ForkGroup). record { limit = limit.Members; count = length g.grouped.members; most = most_members }) (fork_groups d places)

-- those of the first switch
abbrev pub first_program : Design → Places → SwitchRole → List ℕ → List Counted
first_program d places r [] = []
first_program d places r (s ∷ switches) = program_counts d places r s

abbrev pub counts : Design → Places → SwitchRole → (switches hosts : List ℕ) → List Counted
counts d places r switches hosts =
    record { limit = limit.Switches; count = length switches; most = most_switches }
    ∷ record { limit = limit.Hosts; count = length hosts; most = most_hosts }
    ∷ first_program d places r switches

-- the first count that is over its limit
abbrev pub first_over : List Counted → Option (LimitName × ℕ)
first_over [] = None
first_over (c ∷ cs) = if nat_lt c.most c.count then Some (c.limit, c.count) else first_over cs

-- what the first limit is that the network of a design exceeds, with the count, if there is one
pub record FirstOver (d : Design) (places : Places) (over : Option (LimitName × ℕ)) : Type 0 where
  pub parts : NetParts
  pub parts_are : net_parts d ≡ Some parts
  pub switches : List ℕ
  pub hosts : List ℕ
  pub numbers : HasNumbers d places switches hosts
  pub over_is : over ≡ first_over (counts d places parts.role switches hosts)

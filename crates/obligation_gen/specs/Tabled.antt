-- Private clauses of `counts` cite it: tables of new roles with the leaves behind them.
use Rattle.std.specs.Prelude.{◌≡◌, ℕ, suc, Bool, List, filter_map, map, if◌then◌else◌, Option}
use Rattle.cocoon_num.specs.Tree.{Decl, Design, Role}
use Rattle.cocoon_types.specs.Design.{as_role, role_at}
use Rattle.cocoon_types.specs.Limits.{reported}
use Rattle.obligation_laws.specs.Counts.{leaf_count, sends_of, sum_of}
use Rattle.obligation_gen.specs.declared.ways.RoleLeaves.{RoleLeaves}
use Rattle.obligation_gen.specs.Weighed.{leaves_in}

-- the names and the leaves of a table
abbrev pub entries : List RoleLeaves → List (List ℕ × ℕ)
entries table = map (λ (r : RoleLeaves). (r.name.now, r.leaves)) table

-- the table tells how many leaves stand behind each new role with so many bodies, as they are reported
abbrev pub Tells : (List ℕ → Option Role) → (new : List ℕ → Bool) → (bodies : ℕ) → List RoleLeaves → Type 0
Tells roles new bodies table = (name : List ℕ) → leaves_in table name ≡ (if new name then reported (leaf_count roles new bodies name) else 1)

-- the texts of the roles among some declarations
abbrev pub role_texts : List Decl → List (List ℕ)
role_texts ds = map (λ (r : Role). r.name.text) (filter_map as_role ds)

-- the leaves behind a role's body, by those behind the roles that it sends to
abbrev pub value_of : Design → (above : ℕ) → List RoleLeaves → List ℕ → ℕ
value_of d above table name = reported (sum_of (map (leaves_in table) (sends_of (role_at (suc above) d) name)))

-- those of some roles
abbrev pub valued : Design → (above : ℕ) → List RoleLeaves → List (List ℕ) → List (List ℕ × ℕ)
valued d above table names = map (λ n. (n, value_of d above table n)) names

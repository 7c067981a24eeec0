-- What the rules are made of: token indices where a test fails, tests on names, and the blocks with the level above each.
-- It follows the section "Rules of a design" of docs/LANGUAGE.md; a fault there is at the index of its token.
use Rattle.std.specs.Prelude.{ℕ, suc, Bool, true, false, not, List, [], ◌∷◌, ◌++◌, map, filter_map}
use Rattle.std.specs.List.{list_any}
use Rattle.cocoon_num.specs.Tree.{Name, Param, Stmt, let_, set_field, if_, filter, havoc_var, havoc_field, assume, fork, send, Role, Decl, Refine, Design}
use Rattle.cocoon_num.specs.Names.{same_name}
use Rattle.cocoon_types.specs.Design.{as_role, all_decls}

-- a token index, if a test fails
abbrev pub unless : Bool → ℕ → List ℕ
unless true at = []
unless false at = at ∷ []

-- that of a name, if a test fails
abbrev pub unless_named : Bool → Name → List ℕ
unless_named b n = unless b n.at

-- the token index of a statement
abbrev pub stmt_at : Stmt → ℕ
stmt_at (let_ at x w e) = at
stmt_at (set_field at h f e) = at
stmt_at (if_ at e a b) = at
stmt_at (filter at e) = at
stmt_at (havoc_var at x w) = at
stmt_at (havoc_field at h f) = at
stmt_at (assume at e) = at
stmt_at (fork at x w e b) = at
stmt_at (send at r es) = at

-- the name is among these
abbrev pub has_name : List ℕ → List Name → Bool
has_name x ns = list_any (λ (n : Name). same_name x n.text) ns

-- those of the names that stand earlier among them, or are among those seen
abbrev pub repeated : (seen : List Name) → List Name → List ℕ
repeated seen [] = []
repeated seen (n ∷ ns) = unless_named (not (has_name n.text seen)) n ++ repeated (n ∷ seen) ns

-- the names of some parameters or fields
abbrev pub param_names : List Param → List Name
param_names ps = map (λ (p : Param). p.name) ps

-- the roles among some declarations, by name
abbrev pub role_names : List Decl → List Name
role_names ds = map (λ (r : Role). r.name) (filter_map as_role ds)

-- all declarations of roles
abbrev pub roles_of : Design → List Role
roles_of d = filter_map as_role (all_decls d)

-- what a rule gives of some blocks, each with the number of the level above it
abbrev pub blocks_from : (ℕ → Refine → List ℕ) → (above : ℕ) → List Refine → List ℕ
blocks_from rule above [] = []
blocks_from rule above (b ∷ bs) = rule above b ++ blocks_from rule (suc above) bs

-- the same of all blocks of a design
abbrev pub each_block : (ℕ → Refine → List ℕ) → Design → List ℕ
each_block rule d = blocks_from rule 0 d.refines

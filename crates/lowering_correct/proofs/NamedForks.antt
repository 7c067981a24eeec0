-- The functions of forks are those that the rules of definitions speak of.
use Rattle.std.proofs.Common.{◌≡◌, inl, inr, ℕ, ◌||◌, List, [], ◌∷◌, Bool, true, false, Some, refl, sym, ap, subst, ◌∙◌}
use Rattle.cocoon_num.specs.Lists.{is_one_of}
use Rattle.cocoon_num.specs.Names.{same_name}
use Rattle.cocoon_num.specs.Tree.{Expr, name, field, lit, true_or_false, call, unary, binary, slice, pick, Stmt, let_, set_field, if_, filter, havoc_var, havoc_field, assume, fork, send, Block, no_stmts, stmt, Design}
use Rattle.cocoon_types.specs.DefsRules.{fork_calls}
use Rattle.cocoon_types.specs.Design.{last_level}
use Rattle.cocoon_types.specs.LastLevel.{called, into_stmts}
use Rattle.cocoon_types.specs.Rules.{WellFormed}
use Rattle.cocoon_types.specs.Sites.{StmtSite, after_stmt, stmt_ends, stmts_at, stmts_in}
use Rattle.cocoon_types.specs.Typing.{Scope}
use Rattle.lowering.specs.LowerBlock.{fork_function}
use Rattle.lowering.specs.Roles.{NetParts, net_parts}
use Rattle.lowering.specs.Forks.{AllForks, StmtForks}
use Rattle.sound_types.specs.WellTyped.{scope_at}
use Rattle.sound_types.proofs.Members.{In, in_flat, in_left, in_right}
use Rattle.sound_types.proofs.Options.{text_self}
use Rattle.lowering_correct.proofs.Formed.{any_in}
use Rattle.lowering_correct.proofs.NetParts.{into_are, parts_ingress}

abbrev pub IsNamed : List (List ℕ) → List ℕ → ℕ → Expr → Type 0
IsNamed names x width e = is_one_of names (fork_function e) ≡ true

-- the names that a statement's fork calls
abbrev fork_names : StmtSite → List (List ℕ)
fork_names site = elim site.s [ fork at x w e b ↦ called e ∷ [] | _ ↦ [] ]

-- of these statements those that are forks call functions of these names
abbrev AllNamed : List (List ℕ) → List StmtSite → Type 0
AllNamed names sites = (x : StmtSite) → In x sites → (f : List ℕ) → In f (fork_names x) → is_one_of names f ≡ true

called_same : (e : Expr) → called e ≡ fork_function e
called_same (name at y) = refl
called_same (field at y f) = refl
called_same (lit at w n) = refl
called_same (true_or_false at b) = refl
called_same (call at f es) = refl
called_same (unary at op a) = refl
called_same (binary at op a b) = refl
called_same (slice at a high low) = refl
called_same (pick at c a b) = refl

mutual
  stmt_named : (names : List (List ℕ)) (s : Stmt) (a : Scope) (ended : Bool) → AllNamed names (stmts_at a ended s) → StmtForks (IsNamed names) s
  stmt_named names (let_ at x w e) a ended h = tt
  stmt_named names (set_field at x f e) a ended h = tt
  stmt_named names (if_ at e x y) a ended h = (
    block_named names x a false (λ z j. h z (inr (in_left z (stmts_in a false x) (stmts_in a false y) j))),
    block_named names y a false (λ z j. h z (inr (in_right z (stmts_in a false x) (stmts_in a false y) j))),
  )
  stmt_named names (filter at e) a ended h = tt
  stmt_named names (havoc_var at x w) a ended h = tt
  stmt_named names (havoc_field at x f) a ended h = tt
  stmt_named names (assume at e) a ended h = tt
  stmt_named names (fork at x w e b) a ended h =
      ap (is_one_of names) (sym (called_same e)) ∙ h (record { scope = a; ended = ended; s = fork at x w e b }) (inl refl) (called e) (inl refl)
  stmt_named names (send at r es) a ended h = tt

  block_named : (names : List (List ℕ)) (b : Block) (a : Scope) (ended : Bool) → AllNamed names (stmts_in a ended b) → AllForks (IsNamed names) b
  block_named names no_stmts a ended h = tt
  block_named names (stmt first rest) a ended h =
      let more = ended || stmt_ends first in (
        stmt_named names first a ended (λ z j. h z (in_left z (stmts_at a ended first) (stmts_in (after_stmt first a) more rest) j)),
        block_named names rest (after_stmt first a) more (λ z j. h z (in_right z (stmts_at a ended first) (stmts_in (after_stmt first a) more rest) j)),
      )

pub forks_named : (d : Design) → WellFormed d → (parts : NetParts) → net_parts d ≡ Some parts → AllForks (IsNamed (fork_calls d)) parts.role.body
forks_named d w parts is =
    let g = parts_ingress d w parts is in
    let sites = stmts_in (scope_at d (last_level d) g.role.params true) false g.body in
    let same = into_are d parts g in
    subst (λ r. AllForks (IsNamed (fork_calls d)) r.body) (sym g.role_with_is)
    (block_named (fork_calls d) g.body (scope_at d (last_level d) g.role.params true) false
    (λ x j f k. any_in (λ y. same_name y f) (fork_calls d) f (in_flat fork_names x (into_stmts d) f (subst (In x) (sym same) j) k) (text_self f)))

-- Every declaration, statement and expression of a design, each with what is in scope there. It follows the section
-- "Rules of a design" of docs/LANGUAGE.md. Optional headers are absent.
use Rattle.std.specs.Prelude.{ℕ, suc, ◌&&◌, ◌||◌, Bool, true, false, List, [], ◌∷◌, ◌++◌, map, flat_map, filter_map, Some, None, option_to_list}
use Rattle.cocoon_num.specs.Tree.{Expr, Stmt, let_, set_field, if_, filter, havoc_var, assume, fork, send, Block, no_stmts, stmt, Param, FunctionDecl, Decl, a_function, an_assumption, a_role, Refine, Design}
use Rattle.cocoon_types.specs.Design.{as_function}
use Rattle.cocoon_types.specs.Parts.{parts, list_of}
use Rattle.cocoon_types.specs.Typing.{Scope, with_var, with_vars}

-- an expression with what is in scope at it
pub record ExprSite : Type 0 where
  pub scope : Scope
  pub e : Expr

-- a statement with what is in scope before it, and whether a statement that ends stands before it in its block
pub record StmtSite : Type 0 where
  pub scope : Scope
  pub ended : Bool
  pub s : Stmt

-- a declaration with what is in scope before it
pub record DeclSite : Type 0 where
  pub scope : Scope
  pub decl : Decl

-- ---- declarations

-- some declarations of one level, each with the functions before it
abbrev pub sites_of : Design → (level : ℕ) → (before : List FunctionDecl) → List Decl → List DeclSite
sites_of design level before [] = []
sites_of design level before (d ∷ ds) =
    record { scope = record { design = design; vars = []; before = before; level = level; packet = false }; decl = d }
    ∷ sites_of design level (before ++ option_to_list (as_function d)) ds

-- those of the blocks, numbered from a level on
abbrev pub sites_from : Design → (level : ℕ) → (before : List FunctionDecl) → List Refine → List DeclSite
sites_from design level before [] = []
sites_from design level before (b ∷ bs) =
    sites_of design level before b.decls
    ++ sites_from design (suc level) (before ++ filter_map as_function b.decls) bs

-- all declarations of the design, in the order of the text
abbrev pub decl_sites : Design → List DeclSite
decl_sites design =
    sites_of design 0 [] design.decls ++ sites_from design 1 (filter_map as_function design.decls) design.refines

-- the parameters of a declaration
abbrev pub params_of : Decl → List Param
params_of d = elim d [ a_function f ↦ f.params | an_assumption a ↦ a.params | a_role r ↦ r.params | _ ↦ [] ]

-- what is in scope inside a declaration
abbrev pub inner : DeclSite → Scope
inner site = with_vars (params_of site.decl) site.scope

-- ---- statements

-- the variables that a statement brings into scope, for what follows it or for its block
abbrev pub bound_by : Stmt → List Param
bound_by (let_ at x w e) = record { name = x; width = w } ∷ []
bound_by (havoc_var at x w) = record { name = x; width = w } ∷ []
bound_by (fork at x w e b) = record { name = x; width = w } ∷ []
bound_by _ = []

-- the scope after a statement
abbrev pub after_stmt : Stmt → Scope → Scope
after_stmt (let_ at x w e) s = with_var x w s
after_stmt (havoc_var at x w) s = with_var x w s
after_stmt _ s = s

abbrev mutual
  -- `send` and `fork` end; an `if` ends where both branches do
  pub stmt_ends : Stmt → Bool
  stmt_ends (if_ at e a b) = block_ends a && block_ends b
  stmt_ends (fork at x w e b) = true
  stmt_ends (send at r es) = true
  stmt_ends _ = false

  -- a statement of the block ends
  pub block_ends : Block → Bool
  block_ends no_stmts = false
  block_ends (stmt first rest) = stmt_ends first || block_ends rest

abbrev mutual
  -- a statement and all those in its blocks
  pub stmts_at : Scope → (ended : Bool) → Stmt → List StmtSite
  stmts_at s ended (if_ at e a b) =
      record { scope = s; ended = ended; s = if_ at e a b } ∷ stmts_in s false a ++ stmts_in s false b
  stmts_at s ended (fork at x w e b) =
      record { scope = s; ended = ended; s = fork at x w e b } ∷ stmts_in (with_var x w s) false b
  stmts_at s ended other = record { scope = s; ended = ended; s = other } ∷ []

  -- those of a block, or of its rest after a statement that ends, and of the blocks in it
  pub stmts_in : Scope → (ended : Bool) → Block → List StmtSite
  stmts_in s ended no_stmts = []
  stmts_in s ended (stmt first rest) =
      stmts_at s ended first ++ stmts_in (after_stmt first s) (ended || stmt_ends first) rest

-- the statements of a role's body, with those of its blocks
abbrev pub stmts_of_decl : DeclSite → List StmtSite
stmts_of_decl site = elim site.decl [
  | a_role r ↦ elim r.body [ None ↦ [] | Some b ↦ stmts_in (record (inner site) { packet = true }) false b ]
  | _ ↦ []
]

-- all statements of the design
abbrev pub all_stmts : Design → List StmtSite
all_stmts design = flat_map stmts_of_decl (decl_sites design)

-- ---- expressions

-- an expression and all its parts
abbrev pub parts_at : Scope → Expr → List ExprSite
parts_at s e = map (λ a. record { scope = s; e = a }) (parts e)

-- the expressions that stand in a statement itself
abbrev pub exprs_of_stmt : StmtSite → List ExprSite
exprs_of_stmt site = elim site.s [
  | let_ at x w e ↦ parts_at site.scope e
  | set_field at h f e ↦ parts_at site.scope e
  | if_ at e a b ↦ parts_at site.scope e
  | filter at e ↦ parts_at site.scope e
  | assume at e ↦ parts_at site.scope e
  | fork at x w e b ↦ parts_at (with_var x w site.scope) e
  | send at r es ↦ flat_map (parts_at site.scope) (list_of es)
  | _ ↦ []
]

-- the expressions that stand in a declaration itself
abbrev pub exprs_of_decl : DeclSite → List ExprSite
exprs_of_decl site = elim site.decl [
  | a_function f ↦ flat_map (parts_at (inner site)) (option_to_list f.body)
  | an_assumption a ↦ parts_at (inner site) a.body
  | a_role r ↦ parts_at (inner site) r.guard
  | _ ↦ []
]

-- all expressions of the design and their parts
abbrev pub all_exprs : Design → List ExprSite
all_exprs design = flat_map exprs_of_decl (decl_sites design) ++ flat_map exprs_of_stmt (all_stmts design)

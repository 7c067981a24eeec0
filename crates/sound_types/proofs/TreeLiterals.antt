-- The literals of a design fit, where those of each declaration do.
use Rattle.std.proofs.Common.{◌≡◌, inl, inr, ℕ, suc, ◌||◌, List, [], ◌∷◌, ◌++◌, Bool, true, false, Option, Some, None, sym, ap, subst, ◌∙◌}
use Rattle.std.specs.Prelude.{flat_map, filter_map, option_to_list}
use Rattle.cocoon_num.specs.Tree.{Expr, Exprs, no_exprs, expr, Stmt, let_, set_field, if_, filter, havoc_var, havoc_field, assume, fork, send, Block, no_stmts, stmt, FunctionDecl, Decl, a_function, an_assumption, a_role, a_host, a_switch, Refine, Design}
use Rattle.cocoon_types.specs.Design.{as_function}
use Rattle.cocoon_types.specs.Parts.{list_of, parts}
use Rattle.cocoon_types.specs.Sites.{ExprSite, StmtSite, DeclSite, after_stmt, all_exprs, all_stmts, decl_sites, exprs_of_decl, exprs_of_stmt, inner, parts_at, sites_from, sites_of, stmt_ends, stmts_at, stmts_in, stmts_of_decl}
use Rattle.cocoon_types.specs.Typing.{Scope, with_var}
use Rattle.sound_types.specs.Literals.{DesignLiteralsFit, LiteralsFit, literal_fits}
use Rattle.sound_types.proofs.Levels.{block_decls}
use Rattle.sound_types.proofs.Members.{In, all_at, at_all, flat_in, in_either, in_left, in_right, map_in}

-- the literals of some expressions fit
abbrev pub ExprsFit : Exprs → Type 0
ExprsFit no_exprs = Unit {0}
ExprsFit (expr e es) = LiteralsFit e × ExprsFit es

abbrev mutual
  -- those of a statement
  pub StmtFits : Stmt → Type 0
  StmtFits (let_ at x w e) = LiteralsFit e
  StmtFits (set_field at h f e) = LiteralsFit e
  StmtFits (if_ at e a b) = LiteralsFit e × BlockFits a × BlockFits b
  StmtFits (filter at e) = LiteralsFit e
  StmtFits (havoc_var at x w) = Unit {0}
  StmtFits (havoc_field at h f) = Unit {0}
  StmtFits (assume at e) = LiteralsFit e
  StmtFits (fork at x w e b) = LiteralsFit e × BlockFits b
  StmtFits (send at r es) = ExprsFit es

  -- and of a block
  pub BlockFits : Block → Type 0
  BlockFits no_stmts = Unit {0}
  BlockFits (stmt first rest) = StmtFits first × BlockFits rest

-- what is there has it
abbrev pub IfThere : {A : Type 0} → (A → Type 0) → Option A → Type 0
IfThere P None = Unit {0}
IfThere P (Some a) = P a

-- those of a declaration
abbrev pub DeclFits : Decl → Type 0
DeclFits (a_function f) = IfThere LiteralsFit f.body
DeclFits (an_assumption a) = LiteralsFit a.body
DeclFits (a_role r) = LiteralsFit r.guard × IfThere BlockFits r.body
DeclFits (a_host h) = Unit {0}
DeclFits (a_switch s) = Unit {0}

-- ---- from each to all

abbrev Fits : ExprSite → Type 0
Fits x = literal_fits x.e ≡ true

at_part : (s : Scope) (e : Expr) → LiteralsFit e → (x : ExprSite) → In x (parts_at s e) → Fits x
at_part s e h x i =
    let t = map_in (λ a. record { scope = s; e = a }) x (parts e) i in
    ap (λ (y : ExprSite). literal_fits y.e) t.2 ∙ all_at literal_fits (parts e) h t.0 t.1

at_args : (s : Scope) (es : Exprs) → ExprsFit es → (x : ExprSite) → In x (flat_map (parts_at s) (list_of es)) → Fits x
at_args s no_exprs h x i = absurd i
at_args s (expr e es) h x i = elim (in_either x (parts_at s e) (flat_map (parts_at s) (list_of es)) i) [
  | inl k ↦ at_part s e h.0 x k
  | inr k ↦ at_args s es h.1 x k
]

at_stmt : (st : Stmt) (s : Scope) (ended : Bool) → StmtFits st → (x : ExprSite) → In x (exprs_of_stmt (record { scope = s; ended = ended; s = st })) → Fits x
at_stmt (let_ at y w e) s ended h x i = at_part s e h x i
at_stmt (set_field at y f e) s ended h x i = at_part s e h x i
at_stmt (if_ at e a b) s ended h x i = at_part s e h.0 x i
at_stmt (filter at e) s ended h x i = at_part s e h x i
at_stmt (havoc_var at y w) s ended h x i = absurd i
at_stmt (havoc_field at y f) s ended h x i = absurd i
at_stmt (assume at e) s ended h x i = at_part s e h x i
at_stmt (fork at y w e b) s ended h x i = at_part (with_var y w s) e h.0 x i
at_stmt (send at r es) s ended h x i = at_args s es h x i

-- a statement that stands alone
alone : (st : Stmt) (s : Scope) (ended : Bool) → StmtFits st → (x : StmtSite) → In x (record { scope = s; ended = ended; s = st } ∷ []) → StmtFits x.s
alone st s ended h x i = elim i [ inl e ↦ subst (λ (y : StmtSite). StmtFits y.s) (sym e) h | inr n ↦ absurd n ]

mutual
  in_stmt : (st : Stmt) (s : Scope) (ended : Bool) → StmtFits st → (x : StmtSite) → In x (stmts_at s ended st) → StmtFits x.s
  in_stmt (let_ at y w e) s ended h x i = alone (let_ at y w e) s ended h x i
  in_stmt (set_field at y f e) s ended h x i = alone (set_field at y f e) s ended h x i
  in_stmt (if_ at e a b) s ended h x i = elim i [
    | inl p ↦ subst (λ (y : StmtSite). StmtFits y.s) (sym p) h
    | inr k ↦ elim (in_either x (stmts_in s false a) (stmts_in s false b) k) [ inl l ↦ in_block a s false h.1 x l | inr r ↦ in_block b s false h.2 x r ]
  ]
  in_stmt (filter at e) s ended h x i = alone (filter at e) s ended h x i
  in_stmt (havoc_var at y w) s ended h x i = alone (havoc_var at y w) s ended h x i
  in_stmt (havoc_field at y f) s ended h x i = alone (havoc_field at y f) s ended h x i
  in_stmt (assume at e) s ended h x i = alone (assume at e) s ended h x i
  in_stmt (fork at y w e b) s ended h x i = elim i [
    | inl p ↦ subst (λ (z : StmtSite). StmtFits z.s) (sym p) h
    | inr k ↦ in_block b (with_var y w s) false h.1 x k
  ]
  in_stmt (send at r es) s ended h x i = alone (send at r es) s ended h x i

  in_block : (b : Block) (s : Scope) (ended : Bool) → BlockFits b → (x : StmtSite) → In x (stmts_in s ended b) → StmtFits x.s
  in_block no_stmts s ended h x i = absurd i
  in_block (stmt first rest) s ended h x i =
      elim (in_either x (stmts_at s ended first) (stmts_in (after_stmt first s) (ended || stmt_ends first) rest) i) [
        | inl k ↦ in_stmt first s ended h.0 x k
        | inr k ↦ in_block rest (after_stmt first s) (ended || stmt_ends first) h.1 x k
      ]

-- ---- declarations

at_body : (s : Scope) (o : Option Expr) → IfThere LiteralsFit o → (x : ExprSite) → In x (flat_map (parts_at s) (option_to_list o)) → Fits x
at_body s None h x i = absurd i
at_body s (Some e) h x i = elim (in_either x (parts_at s e) [] i) [ inl k ↦ at_part s e h x k | inr n ↦ absurd n ]

at_decl : (s : Scope) (d : Decl) → DeclFits d → (x : ExprSite) → In x (exprs_of_decl (record { scope = s; decl = d })) → Fits x
at_decl s (a_function f) h x i = at_body (inner (record { scope = s; decl = a_function f })) f.body h x i
at_decl s (an_assumption a) h x i = at_part (inner (record { scope = s; decl = an_assumption a })) a.body h x i
at_decl s (a_role r) h x i = at_part (inner (record { scope = s; decl = a_role r })) r.guard h.0 x i
at_decl s (a_host y) h x i = absurd i
at_decl s (a_switch y) h x i = absurd i

in_role : (s : Scope) (o : Option Block) → IfThere BlockFits o → (x : StmtSite) → In x (elim o as (λ y. List StmtSite) [ None ↦ [] | Some b ↦ stmts_in s false b ]) → StmtFits x.s
in_role s None h x i = absurd i
in_role s (Some b) h x i = in_block b s false h x i

in_decl : (s : Scope) (d : Decl) → DeclFits d → (x : StmtSite) → In x (stmts_of_decl (record { scope = s; decl = d })) → StmtFits x.s
in_decl s (a_function f) h x i = absurd i
in_decl s (an_assumption a) h x i = absurd i
in_decl s (a_role r) h x i = in_role (record (inner (record { scope = s; decl = a_role r })) { packet = true }) r.body h.1 x i
in_decl s (a_host y) h x i = absurd i
in_decl s (a_switch y) h x i = absurd i

site_in : (d : Design) (level : ℕ) (before : List FunctionDecl) (ds : List Decl) (x : DeclSite) → In x (sites_of d level before ds) → In x.decl ds
site_in d level before [] x i = absurd i
site_in d level before (y ∷ ds) x i = elim i [
  | inl e ↦ inl (ap (λ (z : DeclSite). z.decl) e)
  | inr k ↦ inr (site_in d level (before ++ option_to_list (as_function y)) ds x k)
]

sites_in : (d : Design) (level : ℕ) (before : List FunctionDecl) (bs : List Refine) (x : DeclSite) → In x (sites_from d level before bs) → In x.decl (block_decls bs)
sites_in d level before [] x i = absurd i
sites_in d level before (b ∷ bs) x i =
    let next = before ++ filter_map as_function b.decls in
    elim (in_either x (sites_of d level before b.decls) (sites_from d (suc level) next bs) i) [
      | inl k ↦ in_left x.decl b.decls (block_decls bs) (site_in d level before b.decls x k)
      | inr k ↦ in_right x.decl b.decls (block_decls bs) (sites_in d (suc level) next bs x k)
    ]

decl_in : (d : Design) (x : DeclSite) → In x (decl_sites d) → In x.decl (d.decls ++ block_decls d.refines)
decl_in d x i = elim (in_either x (sites_of d 0 [] d.decls) (sites_from d 1 (filter_map as_function d.decls) d.refines) i) [
  | inl k ↦ in_left x.decl d.decls (block_decls d.refines) (site_in d 0 [] d.decls x k)
  | inr k ↦ in_right x.decl d.decls (block_decls d.refines) (sites_in d 1 (filter_map as_function d.decls) d.refines x k)
]

pub design_fits : (d : Design) → ((x : Decl) → In x (d.decls ++ block_decls d.refines) → DeclFits x) → DesignLiteralsFit d
design_fits d h = at_all (λ (x : ExprSite). literal_fits x.e) (all_exprs d) (λ x i.
    elim (in_either x (flat_map exprs_of_decl (decl_sites d)) (flat_map exprs_of_stmt (all_stmts d)) i) [
      | inl k ↦ let t = flat_in exprs_of_decl x (decl_sites d) k in at_decl t.0.scope t.0.decl (h t.0.decl (decl_in d t.0 t.1)) x t.2
      | inr k ↦
          let t = flat_in exprs_of_stmt x (all_stmts d) k in
          let u = flat_in stmts_of_decl t.0 (decl_sites d) t.1 in
          at_stmt t.0.s t.0.scope t.0.ended (in_decl u.0.scope u.0.decl (h u.0.decl (decl_in d u.0 u.1)) t.0 u.2) x t.2
    ])

-- Of which form the condition of a fork is.
use Rattle.std.proofs.Common.{◌≡◌, ℕ, ◌<◌, ◌≤◌, nat_le, List, [], ◌∷◌, ◌++◌, length, Bool, true, false, Some, None, refl, sym, ap, ◌∙◌, arith}
use Rattle.cocoon_num.specs.Names.{same_name, named}
use Rattle.cocoon_num.specs.Sorts.{is_declared_width}
use Rattle.cocoon_num.specs.Tree.{Name, Param, Expr, name, field, lit, true_or_false, call, unary, binary, slice, pick, Exprs, no_exprs, expr, FunctionDecl, of_truth}
use Rattle.lowering.specs.Lower.{params_before_last}
use Rattle.lowering.specs.LowerBlock.{in_expr}
use Rattle.lowering.specs.Forks.{EndsIn, ForkIs, IsName, last_width}
use Rattle.sound_types.proofs.Options.{both_true, same_text}

-- the expression is this variable
abbrev pub is_variable : List ℕ → Expr → Bool
is_variable x e = elim e [ name at y ↦ same_name x y | _ ↦ false ]

-- the last of the values is the variable, and it does not stand in the others
abbrev pub EndsWith : List ℕ → Exprs → Type 0
EndsWith x no_exprs = ⊥
EndsWith x (expr e no_exprs) = is_variable x e ≡ true
EndsWith x (expr e (expr a es)) = (in_expr x e ≡ false) × EndsWith x (expr a es)

-- The condition of a fork over a variable: a call of a run-time function, by the first of these of its name. Its last
-- parameter takes the variable, and there are others.
pub record IsForkCall (functions : List FunctionDecl) (x : List ℕ) (width : ℕ) (e : Expr) : Type 0 where
  pub at : ℕ
  pub callee : Name
  pub values : Exprs
  pub function : FunctionDecl
  pub last : Param
  pub call_is : e ≡ call at callee values
  pub function_is : named (λ (f : FunctionDecl). f.name) callee.text functions ≡ Some function
  pub is_runtime : function.body ≡ None
  pub is_truth : function.result ≡ of_truth
  pub params_are : function.params ≡ params_before_last function.params ++ (last ∷ [])
  pub last_width : last.width ≡ width
  pub has_before_last : 0 < length (params_before_last function.params)
  pub values_end : EndsWith x values

name_is : (x : List ℕ) (e : Expr) → is_variable x e ≡ true → IsName x e
name_is x (name at y) h = sym (same_text x y h)
name_is x (field at y f) h = absurd (cc)
name_is x (lit at w n) h = absurd (cc)
name_is x (true_or_false at b) h = absurd (cc)
name_is x (call at f es) h = absurd (cc)
name_is x (unary at op a) h = absurd (cc)
name_is x (binary at op a b) h = absurd (cc)
name_is x (slice at a high low) h = absurd (cc)
name_is x (pick at c a b) h = absurd (cc)

ends_in : (x : List ℕ) (es : Exprs) → EndsWith x es → EndsIn x es
ends_in x no_exprs h = h
ends_in x (expr e no_exprs) h = name_is x e h
ends_in x (expr e (expr a es)) h = (h.0, ends_in x (expr a es) h.1)

last_is : (ps : List Param) (l : Param) → last_width (ps ++ (l ∷ [])) ≡ Some l.width
last_is [] l = refl
last_is (p ∷ []) l = refl
last_is (p ∷ q ∷ ps) l = last_is (q ∷ ps) l

at_least : (w : ℕ) → nat_le 1 w ≡ true → 1 ≤ w
at_least w h = grind (arith, h)

at_most : (w : ℕ) → nat_le w 64 ≡ true → w ≤ 64
at_most w h = grind (arith, h)

pub width_least : (w : ℕ) → is_declared_width w ≡ true → 1 ≤ w
width_least w d = at_least w (both_true (nat_le 1 w) (nat_le w 64) d).0

pub width_most : (w : ℕ) → is_declared_width w ≡ true → w ≤ 64
width_most w d = at_most w (both_true (nat_le 1 w) (nat_le w 64) d).1

pub fork_is : (fs : List FunctionDecl) (x : List ℕ) (w : ℕ) (e : Expr) → is_declared_width w ≡ true → IsForkCall fs x w e → ForkIs fs x w e
fork_is fs x w e d h =
    record {
      at = h.at;
      function = h.callee;
      args = h.values;
      is_call = h.call_is;
      ends = ends_in x h.values h.values_end;
      decl = h.function;
      declared = h.function_is;
      runtime = h.is_runtime;
      width_is = ap last_width h.params_are ∙ last_is (params_before_last h.function.params) h.last ∙ ap Some h.last_width;
      least = width_least w d;
      most = width_most w d;
    }

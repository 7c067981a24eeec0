-- Expressions of a type pass fitting numbers to the functions that they call.
use Rattle.std.proofs.Common.{◌≡◌, inl, inr, ℕ, List, [], ◌∷◌, ◌++◌, ◌||◌, Bool, true, false, Some, None, if◌then◌else◌, refl, sym, ap, subst, ◌∙◌}
use Rattle.cocoon_num.specs.Names.{same_name}
use Rattle.cocoon_num.specs.PacketForms.{FieldsFit}
use Rattle.cocoon_num.specs.Packets.{Packet}
use Rattle.cocoon_num.specs.Sorts.{Sort, bits_sort, has_sort, unary_sort, binary_sort, slice_sort, pick_sort}
use Rattle.cocoon_num.specs.Tree.{Param, Expr, name, field, lit, true_or_false, call, unary, binary, slice, pick, Exprs, no_exprs, expr, FunctionDecl, Design}
use Rattle.cocoon_types.specs.Design.{functions, widths_of}
use Rattle.cocoon_types.specs.Parts.{parts, parts_of}
use Rattle.cocoon_types.specs.Typing.{Scope, function_named, result_sort, args_fit, sort_of, sorts_of}
use Rattle.cocoon_types.specs.Val.{Context, Env}
use Rattle.sound_types.proofs.Functions.{NamesDiffer}
use Rattle.sound_types.proofs.Members.{In, in_left, in_right}
use Rattle.sound_types.proofs.Options.{then_there, both_there, all_there, if_there, both_true, same_text, text_self}
use Rattle.sound_types.proofs.Values.{AllFine, Sees, has_sort_there, sounds}
use Rattle.lowering.specs.Agrees.{EitherOf, FitAll, Takes, TakesAll, TakesIn}
use Rattle.lowering.specs.LowerBlock.{in_expr, in_exprs}

pub fit_all : (ps : List Param) (ns : List ℕ) → FieldsFit (widths_of ps) ns → FitAll ps ns
fit_all [] [] h = tt
fit_all [] (n ∷ ns) h = absurd h
fit_all (p ∷ ps) [] h = absurd h
fit_all (p ∷ ps) (n ∷ ns) h = (h.0, fit_all ps ns h.1)

pub arguments_fit : (ps : List Param) (ns : List ℕ) → FitAll ps ns → FieldsFit (widths_of ps) ns
arguments_fit [] [] h = tt
arguments_fit [] (n ∷ ns) h = absurd h
arguments_fit (p ∷ ps) [] h = absurd h
arguments_fit (p ∷ ps) (n ∷ ns) h = (h.0, arguments_fit ps ns h.1)

pub by_name : (b : Bool) (A B : Type 0) → (b ≡ true → A) → (b ≡ false → B) → EitherOf b A B
by_name true A B f g = f refl
by_name false A B f g = g refl

-- ---- names in expressions

pub left_in : (a b : Bool) → a ≡ true → (a || b) ≡ true
left_in true b h = refl
left_in false b h = absurd (cc)

pub right_in : (a b : Bool) → b ≡ true → (a || b) ≡ true
right_in true b h = refl
right_in false b h = h

-- ---- calls

pub some_same : {A : Type 0} (x y : A) → Some x ≡ Some y → x ≡ y
some_same x y h = cc

-- the functions of a design take what fits, among some of them with that of the name
pub takes_in : (d : Design) (fs : List FunctionDecl) (f : List ℕ) (g : FunctionDecl) → NamesDiffer d → ((h : FunctionDecl) → In h fs → In h (functions d)) → In g fs → f ≡ g.name.text
    → (ns : List ℕ) → FieldsFit (widths_of g.params) ns → TakesIn fs f ns
takes_in d [] f g differ within i is ns fit = absurd i
takes_in d (h ∷ fs) f g differ within i is ns fit =
    by_name (same_name f h.name.text) (FitAll h.params ns) (TakesIn fs f ns)
    (λ same. let one : g ≡ h = differ g h (within g i) (within h (inl refl)) (sym is ∙ same_text f h.name.text same) in subst (λ (x : FunctionDecl). FitAll x.params ns) one (fit_all g.params ns fit))
    (λ other. elim i [
      | inl e ↦ absurd (clash (same_name f h.name.text) (ap (λ x. same_name x h.name.text) (is ∙ ap (λ (x : FunctionDecl). x.name.text) e) ∙ text_self h.name.text) other)
      | inr k ↦ takes_in d fs f g differ (λ x j. within x (inr j)) k is ns fit
    ])
  where
    clash : (b : Bool) → b ≡ true → b ≡ false → ⊥
    clash b p q = let k : true ≡ false = sym p ∙ q in absurd (cc)

-- the functions of these names take what fits
abbrev pub Accepts : (List ℕ → Type 0) → Scope → (List ℕ → List ℕ → Type 0) → Type 0
Accepts P s T = (f : List ℕ) (g : FunctionDecl) → P f → function_named s f ≡ Some g → (ns : List ℕ) → FieldsFit (widths_of g.params) ns → T f ns

mutual
  pub takes : (T : List ℕ → List ℕ → Type 0) (W P : List ℕ → Type 0) (s : Scope) (c : Context) (env : Env) (packet : Packet) → Sees P s c env packet → Accepts P s T
      → (e : Expr) (t : Sort) → AllFine P (parts e) → sort_of s e ≡ Some t → ((x : List ℕ) → in_expr x e ≡ true → W x) → Takes T W c env packet e
  takes T W P s c env packet sees accepts (name at x) t fine h wanted = wanted x (text_self x)
  takes T W P s c env packet sees accepts (field at x f) t fine h wanted = tt
  takes T W P s c env packet sees accepts (lit at w n) t fine h wanted = tt
  takes T W P s c env packet sees accepts (true_or_false at b) t fine h wanted = tt
  takes T W P s c env packet sees accepts (call at f es) t fine h wanted =
      let d = then_there (λ (g : FunctionDecl). if args_fit (widths_of g.params) (sorts_of s es) then Some (result_sort g.result) else None) (function_named s f.text) t h in
      let k = if_there (args_fit (widths_of d.0.params) (sorts_of s es)) (result_sort d.0.result) t d.2 in
      let ns = sounds P s c env packet sees es (widths_of d.0.params) (λ a i. fine a (inr i)) k.0 in (
        takes_all T W P s c env packet sees accepts es (widths_of d.0.params) (λ a i. fine a (inr i)) k.0 wanted,
        λ ms is. accepts f.text d.0 (fine (call at f es) (inl refl)) d.1 ms (subst (FieldsFit (widths_of d.0.params)) (some_same ns.0 ms (sym ns.1 ∙ is)) ns.2),
      )
  takes T W P s c env packet sees accepts (unary at op a) t fine h wanted =
      let d = then_there (unary_sort op) (sort_of s a) t h in takes T W P s c env packet sees accepts a d.0 (λ x i. fine x (inr i)) d.1 wanted
  takes T W P s c env packet sees accepts (binary at op a b) t fine h wanted =
      let d = both_there (binary_sort op) (sort_of s a) (sort_of s b) t h in (
        takes T W P s c env packet sees accepts a d.0 (λ x i. fine x (inr (in_left x (parts a) (parts b) i))) d.2 (λ x i. wanted x (left_in (in_expr x a) (in_expr x b) i)),
        takes T W P s c env packet sees accepts b d.1 (λ x i. fine x (inr (in_right x (parts a) (parts b) i))) d.3 (λ x i. wanted x (right_in (in_expr x a) (in_expr x b) i)),
      )
  takes T W P s c env packet sees accepts (slice at a high low) t fine h wanted =
      let d = then_there (λ u. slice_sort u high low) (sort_of s a) t h in takes T W P s c env packet sees accepts a d.0 (λ x i. fine x (inr i)) d.1 wanted
  takes T W P s c env packet sees accepts (pick at k a b) t fine h wanted =
      let d = all_there pick_sort (sort_of s k) (sort_of s a) (sort_of s b) t h in (
        takes T W P s c env packet sees accepts k d.0 (λ x i. fine x (inr (in_left x (parts k ++ parts a) (parts b) (in_left x (parts k) (parts a) i)))) d.3
            (λ x i. wanted x (left_in (in_expr x k || in_expr x a) (in_expr x b) (left_in (in_expr x k) (in_expr x a) i))),
        takes T W P s c env packet sees accepts a d.1 (λ x i. fine x (inr (in_left x (parts k ++ parts a) (parts b) (in_right x (parts k) (parts a) i)))) d.4
            (λ x i. wanted x (left_in (in_expr x k || in_expr x a) (in_expr x b) (right_in (in_expr x k) (in_expr x a) i))),
        takes T W P s c env packet sees accepts b d.2 (λ x i. fine x (inr (in_right x (parts k ++ parts a) (parts b) i))) d.5
            (λ x i. wanted x (right_in (in_expr x k || in_expr x a) (in_expr x b) i)),
      )

  pub takes_all : (T : List ℕ → List ℕ → Type 0) (W P : List ℕ → Type 0) (s : Scope) (c : Context) (env : Env) (packet : Packet) → Sees P s c env packet → Accepts P s T
      → (es : Exprs) (ws : List ℕ) → AllFine P (parts_of es) → args_fit ws (sorts_of s es) ≡ true → ((x : List ℕ) → in_exprs x es ≡ true → W x) → TakesAll T W c env packet es
  takes_all T W P s c env packet sees accepts no_exprs ws fine h wanted = tt
  takes_all T W P s c env packet sees accepts (expr e es) [] fine h wanted = absurd (cc)
  takes_all T W P s c env packet sees accepts (expr e es) (w ∷ ws) fine h wanted =
      let both = both_true (has_sort (bits_sort w) (sort_of s e)) (args_fit ws (sorts_of s es)) h in (
        takes T W P s c env packet sees accepts e (bits_sort w) (λ a i. fine a (in_left a (parts e) (parts_of es) i)) (has_sort_there (bits_sort w) (sort_of s e) both.0) (λ x i. wanted x (left_in (in_expr x e) (in_exprs x es) i)),
        takes_all T W P s c env packet sees accepts es ws (λ a i. fine a (in_right a (parts e) (parts_of es) i)) both.1 (λ x i. wanted x (right_in (in_expr x e) (in_exprs x es) i)),
      )

-- Functions by their names, the last first.
use Rattle.std.proofs.Common.{◌≡◌, ℕ, zero, suc, ◌+◌, ◌<◌, ◌≤◌, List, [], ◌∷◌, ◌++◌, take, length, reverse, slice_get, Bool, true, false, Some, None, if◌then◌else◌, refl, sym, ap, subst, ◌∙◌, arith}
use Rattle.std.proofs.lemmas.List.{take_more, reverse-append, length-reverse, length-take-le}
use Rattle.std.proofs.lemmas.Option.{slice_get_within, get_or_from_slice_get}
use Rattle.cocoon_num.specs.Names.{same_name}
use Rattle.cocoon_num.specs.Tree.{FunctionDecl, Design}
use Rattle.cocoon_types.specs.Design.{functions}
use Rattle.bv_terms.specs.TermTrees.{Term}
use Rattle.sound_types.proofs.Options.{same_text}
use Rattle.obligation_laws.specs.TermOf.{call_in, no_term}
use Rattle.expr_terms.specs.Finds.{called, called_in, number_in}
use Rattle.expr_terms.specs.Sizes.{body_nodes, call_nodes, functions_before}

pub before_more : (d : Design) (n : ℕ) (g : FunctionDecl) → slice_get (functions d) n ≡ Some g → functions_before d (n + 1) ≡ g ∷ functions_before d n
before_more d n g h =
    let l : n < length (functions d) = slice_get_within (functions d) n g h in
    ap reverse (take_more (functions d) n g l ∙ ap (λ x. take n (functions d) ++ x ∷ []) (get_or_from_slice_get (functions d) n g g h))
    ∙ reverse-append (take n (functions d)) (g ∷ [])

pub before_count : (d : Design) (n : ℕ) (g : FunctionDecl) → slice_get (functions d) n ≡ Some g → length (functions_before d n) ≡ n
before_count d n g h =
    let l : n < length (functions d) = slice_get_within (functions d) n g h in
    length-reverse (take n (functions d)) ∙ length-take-le n (functions d) (omega arith)

pub find_here : (d : Design) (n at : ℕ) (g : FunctionDecl) (f : List ℕ) → at ≡ n + 1 → slice_get (functions d) n ≡ Some g → same_name f g.name.text ≡ true
    → number_in (functions_before d at) f ≡ Some n
find_here d n at g f e h is =
    ap (λ m. number_in (functions_before d m) f) e ∙ ap (λ fs. number_in fs f) (before_more d n g h)
    ∙ ap (λ b. if b then Some (length (functions_before d n)) else number_in (functions_before d n) f) is
    ∙ ap Some (before_count d n g h)

pub find_past : (d : Design) (n at : ℕ) (g : FunctionDecl) (f : List ℕ) → at ≡ n + 1 → slice_get (functions d) n ≡ Some g → same_name f g.name.text ≡ false
    → number_in (functions_before d at) f ≡ number_in (functions_before d n) f
find_past d n at g f e h other =
    ap (λ m. number_in (functions_before d m) f) e ∙ ap (λ fs. number_in fs f) (before_more d n g h)
    ∙ ap (λ b. if b then Some (length (functions_before d n)) else number_in (functions_before d n) f) other

pub there : (fs : List FunctionDecl) (n : ℕ) → n < length fs → (g : FunctionDecl) × (slice_get fs n ≡ Some g)
there [] n l = absurd (omega arith)
there (f ∷ fs) zero l = (f, refl)
there (f ∷ fs) (suc n) l = there fs n (omega arith)

-- what a call of the function of this number is, by its name
pub record CallsAt (d : Design) (before : ℕ) (f : List ℕ) (k : ℕ) : Type 0 where
  pub within : k < before
  pub function : FunctionDecl
  pub is : slice_get (functions d) k ≡ Some function
  pub name : f ≡ function.name.text
  pub call : (ts : List Term) → call_in (functions_before d before) f ts ≡ called d k function ts function.body
  pub nodes : call_nodes (functions_before d before) f ≡ body_nodes (call_nodes (functions_before d k)) function.body

one_more : (d : Design) (before : ℕ) (f : List ℕ) (k : ℕ) (g : FunctionDecl) (b : Bool) → slice_get (functions d) before ≡ Some g → same_name f g.name.text ≡ b
    → (if b then Some (length (functions_before d before)) else number_in (functions_before d before) f) ≡ Some k
    → (number_in (functions_before d before) f ≡ Some k → CallsAt d before f k) → CallsAt d (before + 1) f k
one_more d before f k g true h e is inner =
    let fs = functions_before d before in
    let counted : length fs ≡ k = cc in
    let same : before ≡ k = sym (before_count d before g h) ∙ counted in
    subst (λ m. CallsAt d (before + 1) f m) same (record {
      within = omega arith;
      function = g;
      is = h;
      name = same_text f g.name.text e;
      call = λ ts.
          ap (λ gs. call_in gs f ts) (before_more d before g h)
          ∙ ap (λ b. if b then called_in fs (length fs) g ts g.body else call_in fs f ts) e
          ∙ ap (λ n. called_in fs n g ts g.body) (before_count d before g h);
      nodes =
          ap (λ gs. call_nodes gs f) (before_more d before g h)
          ∙ ap (λ b. if b then body_nodes (call_nodes fs) g.body else call_nodes fs f) e;
    })
one_more d before f k g false h e is inner =
    let fs = functions_before d before in
    let r = inner is in
    let l : k < before = r.within in
    record {
      within = omega arith;
      function = r.function;
      is = r.is;
      name = r.name;
      call = λ ts.
          ap (λ gs. call_in gs f ts) (before_more d before g h)
          ∙ ap (λ b. if b then called_in fs (length fs) g ts g.body else call_in fs f ts) e
          ∙ r.call ts;
      nodes =
          ap (λ gs. call_nodes gs f) (before_more d before g h)
          ∙ ap (λ b. if b then body_nodes (call_nodes fs) g.body else call_nodes fs f) e
          ∙ r.nodes;
    }

plus_one : (n : ℕ) → n + 1 ≡ suc n
plus_one n = omega arith

pub calls_at : (d : Design) (before : ℕ) (f : List ℕ) (k : ℕ) → before ≤ length (functions d) → number_in (functions_before d before) f ≡ Some k → CallsAt d before f k
calls_at d zero f k l is = absurd (cc)
calls_at d (suc n) f k l is =
    let g = there (functions d) n (omega arith) in
    subst (λ m. CallsAt d m f k) (plus_one n)
    (one_more d n f k g.0 (same_name f g.0.name.text) g.1 refl
    (sym (ap (λ fs. number_in fs f) (before_more d n g.0 g.1)) ∙ ap (λ m. number_in (functions_before d m) f) (plus_one n) ∙ is)
    (λ h. calls_at d n f k (omega arith) h))

-- a name that stands for none
abbrev pub NoneCalled : List FunctionDecl → List ℕ → Type 0
NoneCalled fs f = ((ts : List Term) → call_in fs f ts ≡ no_term) × (call_nodes fs f ≡ 0)

past_one : (g : FunctionDecl) (fs : List FunctionDecl) (f : List ℕ) (b : Bool) → same_name f g.name.text ≡ b
    → (if b then Some (length fs) else number_in fs f) ≡ None → (number_in fs f ≡ None → NoneCalled fs f) → NoneCalled (g ∷ fs) f
past_one g fs f true e k inner = absurd (cc)
past_one g fs f false e k inner =
    let r = inner k in (
      λ ts. ap (λ b. if b then called_in fs (length fs) g ts g.body else call_in fs f ts) e ∙ r.0 ts,
      ap (λ b. if b then body_nodes (call_nodes fs) g.body else call_nodes fs f) e ∙ r.1,
    )

pub none_called : (fs : List FunctionDecl) (f : List ℕ) → number_in fs f ≡ None → NoneCalled fs f
none_called [] f h = (λ ts. refl, refl)
none_called (g ∷ fs) f h = past_one g fs f (same_name f g.name.text) refl h (λ k. none_called fs f k)

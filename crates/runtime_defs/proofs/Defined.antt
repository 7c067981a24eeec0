-- Entries without a fault have, for each function that is defined at run time, what its table is made of.
use Rattle.std.proofs.Common.{◌≡◌, ℕ, zero, suc, ◌<◌, ◌≤◌, ◌==◌, true, List, [], ◌∷◌, ◌++◌, All, map, length, get_or, slice_get, Some, None, if◌then◌else◌, arith, sym, ap, subst}
use Rattle.std.proofs.lemmas.List.Elements.{All-nil, All-cons, All-head, All-tail}
use Rattle.cocoon_num.specs.Names.{same_name}
use Rattle.cocoon_num.specs.Tree.{Name, FunctionDecl, Pattern, literal, masked, any, Entry, a_default, a_row, DefsText, Design}
use Rattle.cocoon_num.specs.Values.{Value}
use Rattle.cocoon_resolve.specs.Resolved.{Resolves}
use Rattle.cocoon_types.specs.DefsRules.{DefsFit, entries_faults, fork_calls, fork_rows, guard_calls, guard_rows, missing_defaults, other_entries, pattern_fits, patterns_fit, runtime_named, value_fits}
use Rattle.cocoon_types.specs.Design.{functions, widths_of}
use Rattle.cocoon_types.specs.Tables.{Row}
use Rattle.runtime_defs.specs.Places.{AllDeclared}
use Rattle.runtime_defs.specs.Steps.{IsByte, IsDefined, IsNarrow, RowIsNarrow}
use Rattle.runtime_defs.proofs.Chosen.{AllRight, all-right, default-is, if-row, IsRight, own-function}
use Rattle.runtime_defs.proofs.Distinct.{nil-both, runtime-self}
use Rattle.runtime_defs.proofs.Looking.{both-true, number-is}
use Rattle.runtime_defs.proofs.ParamWidths.{params_declared}

-- what holds of all that is made of some items holds of what is made of one
pub mapped-at : {A B : Type 0} (P : B → Type 0) (g : A → B) (xs : List A) (i : ℕ) (x : A) → All P (map g xs) → i < length xs → x ≡ get_or xs i x → P (g x)
mapped-at P g [] i x h l e = absurd (omega (arith, l))
mapped-at P g (a ∷ xs) zero x h l e = subst (λ y. P (g y)) (sym e) (All-head P (g a) (map g xs) h)
mapped-at P g (a ∷ xs) (suc i) x h l e = mapped-at P g xs i x (All-tail P (g a) (map g xs) h) (omega (arith, l)) e

pub mapped-twice : {A B C : Type 0} (P : C → Type 0) (h : B → C) (g : A → B) (xs : List A) (i : ℕ) (x : A) → All P (map h (map g xs)) → i < length xs → x ≡ get_or xs i x → P (h (g x))
mapped-twice P h g [] i x a l e = absurd (omega (arith, l))
mapped-twice P h g (b ∷ xs) zero x a l e = subst (λ y. P (h (g y))) (sym e) (All-head P (h (g b)) (map h (map g xs)) a)
mapped-twice P h g (b ∷ xs) (suc i) x a l e = mapped-twice P h g xs i x (All-tail P (h (g b)) (map h (map g xs)) a) (omega (arith, l)) e

-- the patterns of a row of the function
pub row-narrow : (f : List ℕ) (g : Name) (ps : List Pattern) (v : Value) → same_name f g.text ≡ true → RowIsNarrow f (a_row g ps v) → All IsNarrow ps
row-narrow f g ps v s h = h (record { patterns = ps; value = v }) (ap (λ b. if b then Some (record { patterns = ps; value = v }) else None) s)

same-width : (v w : ℕ) → (v == w) ≡ true → w ≤ 64 → v ≤ 64
same-width v w h l = subst (λ u. u ≤ 64) (sym (number-is v w h)) l

narrow-pattern : (p : Pattern) (w : ℕ) → w ≤ 64 → pattern_fits p w ≡ true → IsNarrow p
narrow-pattern (literal v n) w l f = same-width v w f l
narrow-pattern (masked v n u m) w l f = let both = both-true (v == w) (u == w) f in (same-width v w both.0 l, same-width u w both.1 l)
narrow-pattern any w l f = tt

narrow-patterns : (ps : List Pattern) (ws : List ℕ) → AllDeclared ws → patterns_fit ps ws ≡ true → All IsNarrow ps
narrow-patterns [] ws d f = All-nil IsNarrow
narrow-patterns (p ∷ ps) [] d f = absurd cc
narrow-patterns (p ∷ ps) (w ∷ ws) d f =
    let both = both-true (pattern_fits p w) (patterns_fit ps ws) f in
    All-cons IsNarrow p ps (narrow-pattern p w d.1 both.0) (narrow-patterns ps ws d.2 both.1)

narrow-row : (d : Design) (f : FunctionDecl) → runtime_named d f.name.text ≡ Some f → AllDeclared (widths_of f.params) → (e : Entry) → IsRight d e → RowIsNarrow f.name.text e
narrow-row d f h w (a_default g v) i r c = absurd cc
narrow-row d f h w (a_row g ps v) i r c =
    let is = if-row (same_name f.name.text g.text) (record { patterns = ps; value = v }) r c in
    let fits = both-true (patterns_fit ps (widths_of f.params)) (value_fits f v) (own-function d f (a_row g ps v) i h is.0) in
    subst (λ (r : Row). All IsNarrow r.patterns) is.1 (narrow-patterns ps (widths_of f.params) w fits.0)

narrow-rows : (d : Design) (f : FunctionDecl) → runtime_named d f.name.text ≡ Some f → AllDeclared (widths_of f.params) → (es : DefsText) → AllRight d es → All (RowIsNarrow f.name.text) es
narrow-rows d f h w [] r = All-nil (RowIsNarrow f.name.text)
narrow-rows d f h w (e ∷ es) r = All-cons (RowIsNarrow f.name.text) e es (narrow-row d f h w e r.0) (narrow-rows d f h w es r.1)

all-bytes : (ws : List ℕ) → AllDeclared ws → All IsByte ws
all-bytes [] d = All-nil IsByte
all-bytes (w ∷ ws) d = All-cons IsByte w ws (let l = d.1 in omega (arith, l)) (all-bytes ws d.2)

declared-at : (fs : List FunctionDecl) (k : ℕ) (f : FunctionDecl) → All (λ (f : FunctionDecl). AllDeclared (widths_of f.params)) fs → slice_get fs k ≡ Some f → AllDeclared (widths_of f.params)
declared-at [] k f h g = absurd cc
declared-at (e ∷ fs) zero f h g = let same : e ≡ f = cc in subst (λ (f : FunctionDecl). AllDeclared (widths_of f.params)) same (All-head (λ (f : FunctionDecl). AllDeclared (widths_of f.params)) e fs h)
declared-at (e ∷ fs) (suc k) f h g = declared-at fs k f (All-tail (λ (f : FunctionDecl). AllDeclared (widths_of f.params)) e fs h) g

pub defined : (d : Design) (es : DefsText) → Resolves d → DefsFit d es → (k : ℕ) (f : FunctionDecl) → slice_get (functions d) k ≡ Some f → f.body ≡ None → IsDefined f es
defined d es r z k f g b =
    let three = nil-both (entries_faults d [] es ++ missing_defaults d es ++ other_entries (guard_calls d) guard_rows es) (other_entries (fork_calls d) fork_rows es) z in
    let two = nil-both (entries_faults d [] es ++ missing_defaults d es) (other_entries (guard_calls d) guard_rows es) three.0 in
    let one = nil-both (entries_faults d [] es) (missing_defaults d es) two.0 in
    let widths = declared-at (functions d) k f (params_declared d r) g in
    record {
      default = default-is d es one.1 k f g b;
      rows = narrow-rows d f (runtime-self d r.rules k f g b) widths es (all-right d [] es one.0);
      widths = all-bytes (widths_of f.params) widths;
    }

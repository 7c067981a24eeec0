-- Functions, one by one.
use Rattle.std.proofs.Common.{◌≡◌, ℕ, zero, suc, ◌+◌, ◌<◌, ◌≤◌, List, [], ◌∷◌, ◌++◌, take, length, get_or, reverse, slice_get, All, Bool, true, false, ◌&&◌, ◌^◌, Option, Some, None, if◌then◌else◌, refl, ap, subst, ◌∙◌, arith}
use Rattle.std.proofs.lemmas.List.{take_more, reverse-append, length-reverse, length-take-le}
use Rattle.std.proofs.lemmas.Option.{slice_get_within, get_or_from_slice_get}
use Rattle.std.proofs.lemmas.Bool.{ltb-true}
use Rattle.std.proofs.Math.Pow.{pow_mono}
use Rattle.cocoon_num.specs.Names.{same_name}
use Rattle.cocoon_num.specs.Values.{fits_width}
use Rattle.cocoon_num.specs.Tree.{FunctionDecl, Design}
use Rattle.cocoon_num.specs.declared.fun_table.FunTable.{FunTable}
use Rattle.cocoon_types.specs.Design.{functions}
use Rattle.role_values.specs.ByTables.{all_fit_widths, apply_by, called, earlier, HasShape, MayHaveShape, table_at}
use Rattle.role_values.specs.DeclaredWidths.{AllDeclared}

pub earlier_more : (design : Design) (n : ℕ) (g : FunctionDecl) → slice_get (functions design) n ≡ Some g → earlier design (n + 1) ≡ g ∷ earlier design n
earlier_more design n g h =
    let l : n < length (functions design) = slice_get_within (functions design) n g h in
    ap reverse (take_more (functions design) n g l ∙ ap (λ x. take n (functions design) ++ x ∷ []) (get_or_from_slice_get (functions design) n g g h))
    ∙ reverse-append (take n (functions design)) (g ∷ [])

pub earlier_count : (design : Design) (n : ℕ) → n ≤ length (functions design) → length (earlier design n) ≡ n
earlier_count design n l = length-reverse (take n (functions design)) ∙ length-take-le n (functions design) l

pub find_step : (design : Design) (tables : List (Option FunTable)) (n : ℕ) (g : FunctionDecl) (f ns : List ℕ) → slice_get (functions design) n ≡ Some g
    → apply_by tables (earlier design (n + 1)) f ns
    ≡ (if same_name f g.name.text then called (apply_by tables (earlier design n)) (table_at tables n) g ns else apply_by tables (earlier design n) f ns)
find_step design tables n g f ns h =
    let l : n < length (functions design) = slice_get_within (functions design) n g h in
    ap (λ fs. apply_by tables fs f ns) (earlier_more design n g h)
    ∙ (λ i. if same_name f g.name.text then called (apply_by tables (earlier design n)) (table_at tables (earlier_count design n (omega arith) i)) g ns else apply_by tables (earlier design n) f ns)

pub find_here : (design : Design) (tables : List (Option FunTable)) (n at : ℕ) (g : FunctionDecl) (f ns : List ℕ) → at ≡ n + 1 → slice_get (functions design) n ≡ Some g
    → same_name f g.name.text ≡ true → apply_by tables (earlier design at) f ns ≡ called (apply_by tables (earlier design n)) (table_at tables n) g ns
find_here design tables n at g f ns e h is =
    ap (λ m. apply_by tables (earlier design m) f ns) e ∙ find_step design tables n g f ns h
    ∙ ap (λ b. if b then called (apply_by tables (earlier design n)) (table_at tables n) g ns else apply_by tables (earlier design n) f ns) is

pub find_past : (design : Design) (tables : List (Option FunTable)) (n at : ℕ) (g : FunctionDecl) (f ns : List ℕ) → at ≡ n + 1 → slice_get (functions design) n ≡ Some g
    → same_name f g.name.text ≡ false → apply_by tables (earlier design at) f ns ≡ apply_by tables (earlier design n) f ns
find_past design tables n at g f ns e h other =
    ap (λ m. apply_by tables (earlier design m) f ns) e ∙ find_step design tables n g f ns h
    ∙ ap (λ b. if b then called (apply_by tables (earlier design n)) (table_at tables n) g ns else apply_by tables (earlier design n) f ns) other

-- ---- tables

never : (b : Bool) → (b && false) ≡ false
never true = refl
never false = refl

second_of : (a b : Bool) → (a && b) ≡ true → b ≡ true
second_of true b h = h
second_of false b h = absurd (cc)

fit_counts : (ws ns : List ℕ) → all_fit_widths ws ns ≡ true → length ns ≡ length ws
fit_counts [] [] h = refl
fit_counts [] (n ∷ ns) h = absurd (cc)
fit_counts (w ∷ ws) [] h = absurd (cc)
fit_counts (w ∷ ws) (n ∷ ns) h = ap suc (fit_counts ws ns (second_of (fits_width w n) (all_fit_widths ws ns) h))

count_if : (ws ns vs : List ℕ) (b : Bool) → all_fit_widths ws ns ≡ b → Some vs ≡ (if b then Some ns else None) → length vs ≡ length ws
count_if ws ns vs true e h = let same : vs ≡ ns = cc in ap length same ∙ fit_counts ws ns e
count_if ws ns vs false e h = absurd (cc)

pub uneven_widths : (ws ns : List ℕ) → (length ws ≡ length ns → ⊥) → all_fit_widths ws ns ≡ false
uneven_widths [] [] h = absurd (h refl)
uneven_widths [] (n ∷ ns) h = refl
uneven_widths (w ∷ ws) [] h = refl
uneven_widths (w ∷ ws) (n ∷ ns) h = ap (λ b. fits_width w n && b) (uneven_widths ws ns (λ e. h (ap suc e))) ∙ never (fits_width w n)

pub declared_width : (ws : List ℕ) (i : ℕ) → AllDeclared ws → i < length ws → get_or ws i 0 ≤ 64
declared_width [] i h l = absurd (omega arith)
declared_width (w ∷ ws) zero h l = h.1
declared_width (w ∷ ws) (suc i) h l = declared_width ws i h.2 (omega arith)

pub word_of : (w n : ℕ) → w ≤ 64 → fits_width w n ≡ true → n < 2 ^ 64
word_of w n l h =
    let a : n < 2 ^ w = ltb-true n (2 ^ w) h in
    let b : 2 ^ w ≤ 2 ^ 64 = pow_mono {i = w} {j = 64} l in
    omega arith

pub narrowed_count : (ws ns vs : List ℕ) → Some vs ≡ (if all_fit_widths ws ns then Some ns else None) → length vs ≡ length ws
narrowed_count ws ns vs h = count_if ws ns vs (all_fit_widths ws ns) refl h

pub there : (fs : List FunctionDecl) (n : ℕ) → n < length fs → (g : FunctionDecl) × (slice_get fs n ≡ Some g)
there [] n l = absurd (omega arith)
there (f ∷ fs) zero l = (f, refl)
there (f ∷ fs) (suc n) l = there fs n (omega arith)

pub shape_at : (tables : List (Option FunTable)) (n : ℕ) (t : FunTable) → All MayHaveShape tables → table_at tables n ≡ Some t → HasShape t
shape_at [] n t h e = absurd (cc)
shape_at (p ∷ ps) zero t h e = subst MayHaveShape e (h 0 p (omega arith))
shape_at (p ∷ ps) (suc n) t h e = shape_at ps n t (λ k d l. h (suc k) d (omega arith)) e

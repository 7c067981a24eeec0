-- What is chosen of the entries for one function, where they have no fault: rows and a default that fit it.
use Rattle.std.proofs.Common.{◌≡◌, ℕ, zero, suc, ◌<◌, ◌≤◌, ◌-◌, ◌^◌, ◌==◌, ◌&&◌, ◌||◌, bit_and, Bool, true, false, not, List, [], ◌∷◌, ◌++◌, All, map, slice_get, Option, Some, None, is_some, if◌then◌else◌, arith, refl, sym, ap, subst, ◌∙◌}
use Rattle.std.specs.Prelude.{filter_map, flat_map, option_to_list}
use Rattle.std.specs.List.{list_all}
use Rattle.std.proofs.lemmas.Bool.Decides.{nat_tests}
use Rattle.std.proofs.lemmas.List.Elements.{All-nil, All-cons, All-head}
use Rattle.std.proofs.lemmas.Nat.{and_le_l, pow_pos}
use Rattle.cocoon_num.specs.Lists.{first_of, is_one_of}
use Rattle.cocoon_num.specs.Names.{same_name}
use Rattle.cocoon_num.specs.Tree.{Name, FunctionDecl, Pattern, literal, masked, any, Entry, a_default, a_row, DefsText, Design}
use Rattle.cocoon_num.specs.Values.{Value, fits_width}
use Rattle.cocoon_syntax.specs.TreeOf.{entry_of, pattern_of}
use Rattle.cocoon_syntax.specs.declared.defs.Entry.{Entry as CodeEntry}
use Rattle.cocoon_syntax.specs.declared.defs.Entry.TheVariants.{Default, Define}
use Rattle.cocoon_syntax.specs.declared.defs.Pattern.{Pattern as CodePattern}
use Rattle.cocoon_syntax.specs.declared.defs.Pattern.TheVariants.{Literal, Masked, Any}
use Rattle.cocoon_types.specs.DefsRules as rules
use Rattle.cocoon_types.specs.DefsRules.{default_faults, default_function, defaulted, entries_faults, entry_faults, entry_fits, entry_function, is_false, is_literal, is_literal_entry, missing_defaults, other_entries, pattern_fits, patterns_fit, row_faults, runtime_named, value_fits}
use Rattle.cocoon_types.specs.Design.{functions, widths_of}
use Rattle.cocoon_types.specs.Tables.{Row, default_of, row_of}
use Rattle.runtime_defs.specs.Bound.{pattern_mask, pattern_value}
use Rattle.runtime_defs.specs.Places.{all_fit_widths}
use Rattle.runtime_defs.proofs.Distinct.{nil-both}
use Rattle.runtime_defs.proofs.Looking.{both-true, number-is, RowFits}
use Rattle.runtime_defs.proofs.Numbers.{same-refl, same-true}

-- ---- entries

-- an entry of a function that is defined at run time, which it fits
pub record IsRight (d : Design) (e : Entry) : Type 0 where
  pub function : FunctionDecl
  pub named : runtime_named d (entry_function e).text ≡ Some function
  pub fits : entry_fits function e ≡ true

abbrev pub AllRight : Design → DefsText → Type 0
AllRight d [] = Unit {0}
AllRight d (e ∷ es) = IsRight d e × AllRight d es

abbrev faults-by : (at : ℕ) → List rules.DefsFault → Entry → Option FunctionDecl → List rules.DefsFault
faults-by at second e f = elim f [ None ↦ rules.unknown_function at ∷ [] | Some f ↦ row_faults at (entry_fits f e) ++ second ]

fits-by : (at : ℕ) (b : Bool) → row_faults at b ≡ [] → b ≡ true
fits-by at true h = refl
fits-by at false h = absurd cc

right-by : (d : Design) (seen : List (List ℕ)) (e : Entry) (o : Option FunctionDecl) → runtime_named d (entry_function e).text ≡ o
    → faults-by (entry_function e).at (default_faults seen e) e o ≡ [] → IsRight d e
right-by d seen e None h k = absurd cc
right-by d seen e (Some f) h k = record {
  function = f;
  named = h;
  fits = fits-by (entry_function e).at (entry_fits f e) (nil-both (row_faults (entry_function e).at (entry_fits f e)) (default_faults seen e) k).0;
}

pub all-right : (d : Design) (seen : List (List ℕ)) (es : DefsText) → entries_faults d seen es ≡ [] → AllRight d es
all-right d seen [] h = tt
all-right d seen (e ∷ es) h =
    let both = nil-both (entry_faults d seen e) (entries_faults d (option_to_list (default_function e) ++ seen) es) h in
    (right-by d seen e (runtime_named d (entry_function e).text) refl both.0, all-right d (option_to_list (default_function e) ++ seen) es both.1)

-- the entry of a function's name is one of it
pub own-function : (d : Design) (f : FunctionDecl) (e : Entry) (r : IsRight d e) → runtime_named d f.name.text ≡ Some f → same_name f.name.text (entry_function e).text ≡ true → entry_fits f e ≡ true
own-function d f e r h s =
    let same : Some f ≡ Some r.function = sym h ∙ ap (runtime_named d) (same-true f.name.text (entry_function e).text s) ∙ r.named in
    let is : f ≡ r.function = cc in
    ap (λ (g : FunctionDecl). entry_fits g e) is ∙ r.fits

-- ---- what is chosen

pub chosen-step : {A B : Type 0} (h : A → Option B) (P : B → Type 0) (x : A) (xs : List A) → All P (filter_map h xs) → ((y : B) → h x ≡ Some y → P y) → All P (filter_map h (x ∷ xs))
chosen-step h P x xs rest one = by (h x) refl
  where
    by : (o : Option _) → h x ≡ o → All P (filter_map h (x ∷ xs))
    by None e = rw e rest
    by (Some y) e = rw e (All-cons P y (filter_map h xs) (one y e) rest)

pub if-row : (b : Bool) (x y : Row) → (if b then Some x else None) ≡ Some y → (b ≡ true) × (x ≡ y)
if-row true x y h = (refl, cc)
if-row false x y h = absurd cc

if-value : (b : Bool) (x y : Value) → (if b then Some x else None) ≡ Some y → (b ≡ true) × (x ≡ y)
if-value true x y h = (refl, cc)
if-value false x y h = absurd cc

-- ---- values of patterns

-- the numbers of a pattern fit the widths that it gives them
abbrev pub OwnFits : Pattern → Type 0
OwnFits (literal w n) = n < 2 ^ w
OwnFits (masked w n v m) = (n < 2 ^ w) × (m < 2 ^ v)
OwnFits any = Unit {0}

abbrev pub AllOwn : List Pattern → Type 0
AllOwn [] = Unit {0}
AllOwn (p ∷ ps) = OwnFits p × AllOwn ps

abbrev pub EntryOwn : Entry → Type 0
EntryOwn (a_default f v) = Unit {0}
EntryOwn (a_row f ps v) = AllOwn ps

abbrev pub EntriesOwn : DefsText → Type 0
EntriesOwn [] = Unit {0}
EntriesOwn (e ∷ es) = EntryOwn e × EntriesOwn es

own-pattern : (p : CodePattern) → OwnFits (pattern_of p)
own-pattern (Literal b) = b.fits
own-pattern (Masked b m) = (b.fits, m.fits)
own-pattern Any = tt

own-patterns : (ps : List CodePattern) → AllOwn (map pattern_of ps)
own-patterns [] = tt
own-patterns (p ∷ ps) = (own-pattern p, own-patterns ps)

own-entry : (e : CodeEntry) → EntryOwn (entry_of e)
own-entry (Default f v) = tt
own-entry (Define f ps v) = own-patterns ps.items

-- the entries of the code have numbers that fit
pub own-entries : (es : List CodeEntry) → EntriesOwn (map entry_of es)
own-entries [] = tt
own-entries (e ∷ es) = (own-entry e, own-entries es)

fits-lt : (w n : ℕ) → n < 2 ^ w → fits_width w n ≡ true
fits-lt w n h = grind (arith, nat_tests, h)

ones-lt : (v : ℕ) → 2 ^ v - 1 < 2 ^ v
ones-lt v = let h : 0 < 2 ^ v = pow_pos v in omega (arith, h)

between : (a b c : ℕ) → a ≤ b → b < c → a < c
between a b c h k = omega (arith, h, k)

value-fits : (p : Pattern) (w : ℕ) → pattern_fits p w ≡ true → OwnFits p → fits_width w (pattern_value p) ≡ true
value-fits (literal v n) w f h = fits-lt w n (subst (λ u. n < 2 ^ u) (number-is v w f) h)
value-fits (masked v n u m) w f h =
    let e : v ≡ w = number-is v w (both-true (v == w) (u == w) f).0 in
    fits-lt w (bit_and n m) (subst (λ u. bit_and n m < 2 ^ u) e (between (bit_and n m) n (2 ^ v) (and_le_l n m) h.0))
value-fits any w f h = fits-lt w 0 (pow_pos w)

mask-fits : (p : Pattern) (w : ℕ) → pattern_fits p w ≡ true → OwnFits p → fits_width w (pattern_mask p) ≡ true
mask-fits (literal v n) w f h = fits-lt w (2 ^ v - 1) (subst (λ u. 2 ^ v - 1 < 2 ^ u) (number-is v w f) (ones-lt v))
mask-fits (masked v n u m) w f h = fits-lt w m (subst (λ x. m < 2 ^ x) (number-is u w (both-true (v == w) (u == w) f).1) h.1)
mask-fits any w f h = fits-lt w 0 (pow_pos w)

both-are : (a b : Bool) → a ≡ true → b ≡ true → (a && b) ≡ true
both-are a b x y = ap (λ c. c && b) x ∙ y

masks-fit : (ps : List Pattern) (ws : List ℕ) → patterns_fit ps ws ≡ true → AllOwn ps → all_fit_widths ws (map pattern_mask ps) ≡ true
masks-fit [] [] f h = refl
masks-fit [] (w ∷ ws) f h = absurd cc
masks-fit (p ∷ ps) [] f h = absurd cc
masks-fit (p ∷ ps) (w ∷ ws) f h =
    let fs = both-true (pattern_fits p w) (patterns_fit ps ws) f in
    both-are (fits_width w (pattern_mask p)) (all_fit_widths ws (map pattern_mask ps)) (mask-fits p w fs.0 h.0) (masks-fit ps ws fs.1 h.1)

values-fit : (ps : List Pattern) (ws : List ℕ) → patterns_fit ps ws ≡ true → AllOwn ps → all_fit_widths ws (map pattern_value ps) ≡ true
values-fit [] [] f h = refl
values-fit [] (w ∷ ws) f h = absurd cc
values-fit (p ∷ ps) [] f h = absurd cc
values-fit (p ∷ ps) (w ∷ ws) f h =
    let fs = both-true (pattern_fits p w) (patterns_fit ps ws) f in
    both-are (fits_width w (pattern_value p)) (all_fit_widths ws (map pattern_value ps)) (value-fits p w fs.0 h.0) (values-fit ps ws fs.1 h.1)

-- ---- rows and defaults

row-right : (d : Design) (f : FunctionDecl) (e : Entry) (r : Row) → IsRight d e → EntryOwn e → runtime_named d f.name.text ≡ Some f → row_of f.name.text e ≡ Some r → RowFits (widths_of f.params) f.result r
row-right d f (a_default g v) r i o h c = absurd cc
row-right d f (a_row g ps v) r i o h c =
    let is = if-row (same_name f.name.text g.text) (record { patterns = ps; value = v }) r c in
    let fits = both-true (patterns_fit ps (widths_of f.params)) (value_fits f v) (own-function d f (a_row g ps v) i h is.0) in
    subst (RowFits (widths_of f.params) f.result) is.1 (record { widths = fits.0; values = values-fit ps (widths_of f.params) fits.0 o; masks = masks-fit ps (widths_of f.params) fits.0 o; sort = fits.1 })

-- the rows of a function fit it
pub rows-right : (d : Design) (f : FunctionDecl) → runtime_named d f.name.text ≡ Some f → (es : DefsText) → AllRight d es → EntriesOwn es → All (RowFits (widths_of f.params) f.result) (filter_map (row_of f.name.text) es)
rows-right d f h [] r o = All-nil (RowFits (widths_of f.params) f.result)
rows-right d f h (e ∷ es) r o = chosen-step (row_of f.name.text) (RowFits (widths_of f.params) f.result) e es (rows-right d f h es r.1 o.1) (λ y c. row-right d f e y r.0 o.0 h c)

default-right : (d : Design) (f : FunctionDecl) (e : Entry) (v : Value) → IsRight d e → runtime_named d f.name.text ≡ Some f → default_of f.name.text e ≡ Some v → value_fits f v ≡ true
default-right d f (a_default g u) v i h c =
    let is = if-value (same_name f.name.text g.text) u v c in
    ap (value_fits f) (sym is.1) ∙ own-function d f (a_default g u) i h is.0
default-right d f (a_row g ps u) v i h c = absurd cc

defaults-right : (d : Design) (f : FunctionDecl) → runtime_named d f.name.text ≡ Some f → (es : DefsText) → AllRight d es → All (λ v. value_fits f v ≡ true) (filter_map (default_of f.name.text) es)
defaults-right d f h [] r = All-nil (λ v. value_fits f v ≡ true)
defaults-right d f h (e ∷ es) r = chosen-step (default_of f.name.text) (λ v. value_fits f v ≡ true) e es (defaults-right d f h es r.1) (λ y c. default-right d f e y r.0 h c)

first-has : {A : Type 0} (P : A → Type 0) (xs : List A) (x : A) → All P xs → first_of xs ≡ Some x → P x
first-has P [] x h e = absurd cc
first-has P (y ∷ xs) x h e = let is : y ≡ x = cc in subst P is (All-head P y xs h)

-- its default fits it
pub first-right : (d : Design) (f : FunctionDecl) → runtime_named d f.name.text ≡ Some f → (es : DefsText) → AllRight d es → (v : Value) → first_of (filter_map (default_of f.name.text) es) ≡ Some v → value_fits f v ≡ true
first-right d f h es r v e = first-has (λ v. value_fits f v ≡ true) (filter_map (default_of f.name.text) es) v (defaults-right d f h es r) e

-- ---- literal entries

abbrev pub RowLiteral : Row → Type 0
RowLiteral r = list_all is_literal r.patterns ≡ true

literal-by : (fs : List (List ℕ)) (fault : ℕ → rules.DefsFault) (e : Entry) (a b : Bool) → (if a && not b then fault (entry_function e).at ∷ [] else []) ≡ [] → a ≡ true → b ≡ true
literal-by fs fault e true true h k = refl
literal-by fs fault e true false h k = absurd cc
literal-by fs fault e false b h k = absurd cc

-- the entries of these functions are literal
abbrev pub LiteralOf : List (List ℕ) → DefsText → Type 0
LiteralOf fs [] = Unit {0}
LiteralOf fs (e ∷ es) = (is_one_of fs (entry_function e).text ≡ true → is_literal_entry e ≡ true) × LiteralOf fs es

pub all-literal : (fs : List (List ℕ)) (fault : ℕ → rules.DefsFault) (es : DefsText) → other_entries fs fault es ≡ [] → LiteralOf fs es
all-literal fs fault [] h = tt
all-literal fs fault (e ∷ es) h =
    let both = nil-both (if is_one_of fs (entry_function e).text && not (is_literal_entry e) then fault (entry_function e).at ∷ [] else []) (other_entries fs fault es) h in
    (literal-by fs fault e (is_one_of fs (entry_function e).text) (is_literal_entry e) both.0, all-literal fs fault es both.1)

row-literal : (fs : List (List ℕ)) (f : List ℕ) (e : Entry) (r : Row) → (is_one_of fs (entry_function e).text ≡ true → is_literal_entry e ≡ true) → is_one_of fs f ≡ true → row_of f e ≡ Some r → RowLiteral r
row-literal fs f (a_default g v) r l o c = absurd cc
row-literal fs f (a_row g ps v) r l o c =
    let is = if-row (same_name f g.text) (record { patterns = ps; value = v }) r c in
    subst RowLiteral is.1 (l (ap (is_one_of fs) (sym (same-true f g.text is.0)) ∙ o))

pub rows-literal : (fs : List (List ℕ)) (f : List ℕ) → is_one_of fs f ≡ true → (es : DefsText) → LiteralOf fs es → All RowLiteral (filter_map (row_of f) es)
rows-literal fs f o [] l = All-nil RowLiteral
rows-literal fs f o (e ∷ es) l = chosen-step (row_of f) RowLiteral e es (rows-literal fs f o es l.1) (λ y c. row-literal fs f e y l.0 o c)

default-literal : (fs : List (List ℕ)) (f : List ℕ) (e : Entry) (v : Value) → (is_one_of fs (entry_function e).text ≡ true → is_literal_entry e ≡ true) → is_one_of fs f ≡ true → default_of f e ≡ Some v → is_false v ≡ true
default-literal fs f (a_default g u) v l o c =
    let is = if-value (same_name f g.text) u v c in
    ap is_false (sym is.1) ∙ l (ap (is_one_of fs) (sym (same-true f g.text is.0)) ∙ o)
default-literal fs f (a_row g ps u) v l o c = absurd cc

defaults-literal : (fs : List (List ℕ)) (f : List ℕ) → is_one_of fs f ≡ true → (es : DefsText) → LiteralOf fs es → All (λ v. is_false v ≡ true) (filter_map (default_of f) es)
defaults-literal fs f o [] l = All-nil (λ v. is_false v ≡ true)
defaults-literal fs f o (e ∷ es) l = chosen-step (default_of f) (λ v. is_false v ≡ true) e es (defaults-literal fs f o es l.1) (λ y c. default-literal fs f e y l.0 o c)

pub first-literal : (fs : List (List ℕ)) (f : List ℕ) → is_one_of fs f ≡ true → (es : DefsText) → LiteralOf fs es → (v : Value) → first_of (filter_map (default_of f) es) ≡ Some v → is_false v ≡ true
first-literal fs f o es l v e = first-has (λ v. is_false v ≡ true) (filter_map (default_of f) es) v (defaults-literal fs f o es l) e

-- ---- a default for each

some-here : {A B : Type 0} (h : A → Option B) (x : A) (xs : List A) (y : B) → h x ≡ Some y → is_some (first_of (filter_map h (x ∷ xs))) ≡ true
some-here h x xs y e = rw e refl

some-later : {A B : Type 0} (h : A → Option B) (x : A) (xs : List A) → is_some (first_of (filter_map h xs)) ≡ true → is_some (first_of (filter_map h (x ∷ xs))) ≡ true
some-later h x xs k = by (h x) refl
  where
    by : (o : Option _) → h x ≡ o → is_some (first_of (filter_map h (x ∷ xs))) ≡ true
    by None e = rw e k
    by (Some y) e = rw e refl

default-step : (f : List ℕ) (g : Name) (v : Value) (es : DefsText) → (is_one_of (defaulted es) f ≡ true → is_some (first_of (filter_map (default_of f) es)) ≡ true)
    → (b : Bool) → same_name g.text f ≡ b → (b || is_one_of (defaulted es) f) ≡ true → is_some (first_of (filter_map (default_of f) (a_default g v ∷ es))) ≡ true
default-step f g v es ih true s h =
    let turned : same_name f g.text ≡ true = ap (same_name f) (same-true g.text f s) ∙ same-refl f in
    some-here (default_of f) (a_default g v) es v (ap (λ c. if c then Some v else None) turned)
default-step f g v es ih false s h = some-later (default_of f) (a_default g v) es (ih h)

default-there : (f : List ℕ) (es : DefsText) → is_one_of (defaulted es) f ≡ true → is_some (first_of (filter_map (default_of f) es)) ≡ true
default-there f [] h = absurd cc
default-there f (a_row g ps v ∷ es) h = default-there f es h
default-there f (a_default g v ∷ es) h = default-step f g v es (default-there f es) (same_name g.text f) refl h

missing-by : (f : FunctionDecl) (a b : Bool) → (if a || b then [] else rules.no_default f.name.text ∷ []) ≡ [] → a ≡ false → b ≡ true
missing-by f true b h k = absurd cc
missing-by f false true h k = refl
missing-by f false false h k = absurd cc

abbrev missing-in : List (List ℕ) → FunctionDecl → List rules.DefsFault
missing-in fs g = if is_some g.body || is_one_of fs g.name.text then [] else rules.no_default g.name.text ∷ []

missing-at : (fs : List (List ℕ)) (gs : List FunctionDecl) (k : ℕ) (f : FunctionDecl) → flat_map (λ (g : FunctionDecl). if is_some g.body || is_one_of fs g.name.text then [] else rules.no_default g.name.text ∷ []) gs ≡ []
    → slice_get gs k ≡ Some f → f.body ≡ None → is_one_of fs f.name.text ≡ true
missing-at fs [] k f h g b = absurd cc
missing-at fs (e ∷ gs) zero f h g b =
    let same : e ≡ f = cc in
    let none : is_some e.body ≡ false = ap (λ (x : FunctionDecl). is_some x.body) same ∙ ap is_some b in
    ap (λ (x : FunctionDecl). is_one_of fs x.name.text) (sym same) ∙ missing-by e (is_some e.body) (is_one_of fs e.name.text) (nil-both (missing-in fs e) _ h).0 none
missing-at fs (e ∷ gs) (suc k) f h g b = missing-at fs gs k f (nil-both (missing-in fs e) _ h).1 g b

-- each function that is defined at run time has a default
pub default-is : (d : Design) (es : DefsText) → missing_defaults d es ≡ [] → (k : ℕ) (f : FunctionDecl) → slice_get (functions d) k ≡ Some f → f.body ≡ None
    → is_some (first_of (filter_map (default_of f.name.text) es)) ≡ true
default-is d es h k f g b = default-there f.name.text es (missing-at (defaulted es) (functions d) k f h g b)

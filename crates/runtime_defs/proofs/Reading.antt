-- The entries, one by one.
use Rattle.std.proofs.Common.{◌≡◌, slice_get, ℕ, suc, ◌+◌, ◌<◌, ◌&&◌, ◌||◌, Bool, true, false, not, List, [], ◌∷◌, ◌++◌, map, drop, length, get_or, Option, Some, None, is_some, if◌then◌else◌, refl, sym, ap, subst, ◌∙◌}
use Rattle.std.specs.Prelude.{flat_map, option_map, option_to_list}
use Rattle.std.proofs.lemmas.List.{drop_more}
use Rattle.std.proofs.lemmas.Option.{get_or_from_slice_get, slice_get_within}
use Rattle.cocoon_types.specs.Design.{functions}
use Rattle.cocoon_num.specs.Tree.{Name, FunctionDecl, Pattern, Entry, a_default, a_row, DefsText, Design}
use Rattle.cocoon_num.specs.Names.{same_name}
use Rattle.cocoon_num.specs.Lists.{is_one_of, first_of}
use Rattle.cocoon_types.specs.DefsRules as rules
use Rattle.cocoon_types.specs.DefsRules.{default_function, defaulted, entries_faults, entry_faults, entry_fits, default_faults, entry_function, is_literal_entry, pattern_fits, patterns_fit, other_entries, row_faults, runtime_named}
use Rattle.declarations.specs.Declares.{function_number}
use Rattle.runtime_defs.specs.declared.fault.DefsFault.{DefsFault}
use Rattle.runtime_defs.specs.declared.fault.DefsFault.TheVariants.{TwoDefaults, NoDefault}
use Rattle.runtime_defs.specs.declared.function_set.FunctionSet.{FunctionSet}
use Rattle.runtime_defs.specs.Faults.{IsFirst}
use Rattle.runtime_defs.specs.Sets.{AreKnown, EntriesRead, Holds, if_second, is_missing, missing_of}
use Rattle.runtime_defs.proofs.Firsts.{first-there, first-behind}
use Rattle.runtime_defs.proofs.Members.{holds-alike}
use Rattle.runtime_defs.proofs.Numbers.{runtime-numbered}

-- ---- one entry

-- its faults by what its function is
abbrev faults-by : (at : ℕ) → List rules.DefsFault → Entry → Option FunctionDecl → List rules.DefsFault
faults-by at second e f = elim f [ None ↦ rules.unknown_function at ∷ [] | Some f ↦ row_faults at (entry_fits f e) ++ second ]

-- an entry that fits, by what it says of defaults
fits-entry : (d : Design) (fs : List (List ℕ)) (e : Entry) (f : FunctionDecl) (second : Bool) → runtime_named d (entry_function e).text ≡ Some f → entry_fits f e ≡ true
    → default_faults fs e ≡ if_second second (entry_function e).at → first_of (entry_faults d fs e) ≡ first_of (if_second second (entry_function e).at)
fits-entry d fs e f second h k s =
    ap (λ o. first_of (faults-by (entry_function e).at (default_faults fs e) e o)) h
    ∙ ap (λ b. first_of (row_faults (entry_function e).at b ++ default_faults fs e)) k
    ∙ ap first_of s

-- what the code found of an entry's function
pub record Found (d : Design) (e : Entry) (f : FunctionDecl) (n : Name) (t : List ℕ) : Type 0 where
  pub name : n ≡ entry_function e
  pub text : t ≡ n.text
  pub function : Some f ≡ runtime_named d t
  pub fits : entry_fits f e ≡ true

function-is : (d : Design) (e : Entry) (f : FunctionDecl) (n : Name) (t : List ℕ) → Found d e f n t → runtime_named d (entry_function e).text ≡ Some f
function-is d e f n t h = ap (λ (m : Name). runtime_named d m.text) (sym h.name) ∙ ap (runtime_named d) (sym h.text) ∙ sym h.function

pub fits-known : (d : Design) (e : Entry) (f : FunctionDecl) (n : Name) (t : List ℕ) → Found d e f n t → is_some (function_number d (entry_function e).text) ≡ true
fits-known d e f n t h = runtime-numbered d (entry_function e).text f (function-is d e f n t h)

pub second-entry : (d : Design) (fs : List (List ℕ)) (e : Entry) (f : FunctionDecl) (n : Name) (t : List ℕ) → Found d e f n t
    → default_faults fs e ≡ if_second true (entry_function e).at → IsFirst d (entry_faults d fs e) (Some (TwoDefaults n.at))
second-entry d fs e f n t h s = ap (λ (m : Name). Some (Some (rules.two_defaults m.at))) h.name
    ∙ sym (ap (option_map Some) (fits-entry d fs e f true (function-is d e f n t h) h.fits s))

pub right-entry : (d : Design) (fs : List (List ℕ)) (e : Entry) (f : FunctionDecl) (n : Name) (t : List ℕ) → Found d e f n t
    → default_faults fs e ≡ if_second false (entry_function e).at → IsFirst d (entry_faults d fs e) None
right-entry d fs e f n t h s = sym (ap (option_map Some) (fits-entry d fs e f false (function-is d e f n t h) h.fits s))

-- an entry without a fault is of a function of the design
known-by : (d : Design) (fs : List (List ℕ)) (e : Entry) (o : Option FunctionDecl) → runtime_named d (entry_function e).text ≡ o
    → faults-by (entry_function e).at (default_faults fs e) e o ≡ [] → is_some (function_number d (entry_function e).text) ≡ true
known-by d fs e None h k = absurd cc
known-by d fs e (Some f) h k = runtime-numbered d (entry_function e).text f h

nothing-before : {A : Type 0} (xs ys : List A) → xs ++ ys ≡ [] → xs ≡ []
nothing-before [] ys e = refl
nothing-before (x ∷ xs) ys e = absurd cc

nothing-behind : {A : Type 0} (xs ys : List A) → xs ++ ys ≡ [] → ys ≡ []
nothing-behind [] ys e = e
nothing-behind (x ∷ xs) ys e = absurd cc

pub all-known : (d : Design) (fs : List (List ℕ)) (es : DefsText) → entries_faults d fs es ≡ [] → AreKnown d es
all-known d fs [] h = tt
all-known d fs (e ∷ es) h = (
  known-by d fs e (runtime_named d (entry_function e).text) refl (nothing-before (entry_faults d fs e) (entries_faults d (option_to_list (default_function e) ++ fs) es) h),
  all-known d (option_to_list (default_function e) ++ fs) es (nothing-behind (entry_faults d fs e) (entries_faults d (option_to_list (default_function e) ++ fs) es) h),
)

-- ---- entry by entry

-- some entries are read without a fault, and these functions have a default; the rest are still to be read
pub record Begun (d : Design) (es rest : DefsText) (set : FunctionSet) : Type 0 where
  pub seen : List (List ℕ)
  pub holds : Holds d seen set
  pub further : (r : Option DefsFault) → IsFirst d (entries_faults d seen rest) r → IsFirst d (entries_faults d [] es) r
  pub same : (x : List ℕ) → (is_one_of (defaulted rest) x || is_one_of seen x) ≡ is_one_of (defaulted es) x

pub begin : (d : Design) (es : DefsText) (set : FunctionSet) → Holds d [] set → Begun d es es set
begin d es set h = record {
  seen = [];
  holds = h;
  further = λ r k. k;
  same = λ x. or-false (is_one_of (defaulted es) x);
}
  where
    or-false : (b : Bool) → (b || false) ≡ b
    or-false true = refl
    or-false false = refl

-- the default of one entry among those of all
default-more : (e : Entry) (es : DefsText) (seen : List (List ℕ)) (x : List ℕ)
    → (is_one_of (defaulted es) x || is_one_of (option_to_list (default_function e) ++ seen) x) ≡ (is_one_of (defaulted (e ∷ es)) x || is_one_of seen x)
default-more (a_default f v) es seen x = turn (is_one_of (defaulted es) x) (same_name f.text x) (is_one_of seen x)
  where
    turn : (a b c : Bool) → (a || (b || c)) ≡ ((b || a) || c)
    turn true true c = refl
    turn true false c = refl
    turn false true c = refl
    turn false false c = refl
default-more (a_row f ps v) es seen x = refl

pub one-more : (d : Design) (es rest more : DefsText) (e : Entry) (old new : FunctionSet) (b : Begun d es rest old) → rest ≡ e ∷ more → IsFirst d (entry_faults d b.seen e) None
    → Holds d (option_to_list (default_function e) ++ b.seen) new → Begun d es more new
one-more d es rest more e old new b p h k = record {
  seen = option_to_list (default_function e) ++ b.seen;
  holds = k;
  further = λ r l. b.further r (subst (λ es. IsFirst d (entries_faults d b.seen es) r) (sym p) (first-behind d (entry_faults d b.seen e) (entries_faults d (option_to_list (default_function e) ++ b.seen) more) r h l));
  same = λ x. default-more e more b.seen x ∙ ap (λ es. is_one_of (defaulted es) x || is_one_of b.seen x) (sym p) ∙ b.same x;
}

-- no fault of an entry
pub no-fault : (o : Option DefsFault) → is_some o ≡ false → o ≡ None
no-fault None h = refl
no-fault (Some f) h = absurd cc

pub stopped-at : (d : Design) (es rest more : DefsText) (e : Entry) (set : FunctionSet) (b : Begun d es rest set) (o : Option DefsFault) → rest ≡ e ∷ more → is_some o ≡ true
    → IsFirst d (entry_faults d b.seen e) o → EntriesRead d es set o
stopped-at d es rest more e set b None p s h = absurd cc
stopped-at d es rest more e set b (Some f) p s h = record {
  first = b.further (Some f) (subst (λ es. IsFirst d (entries_faults d b.seen es) (Some f)) (sym p) (first-there d (entry_faults d b.seen e) (entries_faults d (option_to_list (default_function e) ++ b.seen) more) f h));
  defaults = λ k. absurd cc;
}

pub read-through : (d : Design) (es rest : DefsText) (set : FunctionSet) → Begun d es rest set → rest ≡ [] → EntriesRead d es set None
read-through d es rest set b p = record {
  first = b.further None (ap (λ es. option_map Some (first_of (entries_faults d b.seen es))) (sym p));
  defaults = λ h. holds-alike d set b.seen (defaulted es) (λ x. ap (λ es. is_one_of (defaulted es) x || is_one_of b.seen x) (sym p) ∙ b.same x) b.holds;
}

-- the next entry, and the rest
pub next-is : {A B : Type 0} (g : A → B) (xs : List A) (i : ℕ) (x : A) → i < length xs → x ≡ get_or xs i x → map g (drop i xs) ≡ g x ∷ map g (drop (i + 1) xs)
next-is g xs i x l h = ap (map g) (drop_more xs i x l ∙ ap (λ y. y ∷ drop (i + 1) xs) (sym h))

-- ---- functions without a default

-- the functions from one on
pub list-from : {A : Type 0} (xs : List A) (k : ℕ) (x : A) → slice_get xs k ≡ Some x → drop k xs ≡ x ∷ drop (k + 1) xs
list-from xs k x h = drop_more xs k x (slice_get_within xs k x h) ∙ ap (λ y. y ∷ drop (k + 1) xs) (get_or_from_slice_get xs k x x h)

-- one that is missing
missing-by : (d : Design) (fs : List (List ℕ)) (f : FunctionDecl) (rest : List FunctionDecl) (b m : Bool) → (is_some f.body || is_one_of fs f.name.text) ≡ b → not b ≡ m
    → flat_map (missing_of fs) (f ∷ rest) ≡ (if m then rules.no_default f.name.text ∷ flat_map (missing_of fs) rest else flat_map (missing_of fs) rest)
missing-by d fs f rest true true h n = absurd cc
missing-by d fs f rest true false h n = ap (λ b. (if b then [] else rules.no_default f.name.text ∷ []) ++ flat_map (missing_of fs) rest) h
missing-by d fs f rest false true h n = ap (λ b. (if b then [] else rules.no_default f.name.text ∷ []) ++ flat_map (missing_of fs) rest) h
missing-by d fs f rest false false h n = absurd cc

pub missing-first : (d : Design) (fs : List (List ℕ)) (k : ℕ) (f : FunctionDecl) (all : List FunctionDecl) → all ≡ functions d → slice_get all k ≡ Some f
    → is_missing fs f ≡ true → IsFirst d (flat_map (missing_of fs) (drop k all)) (Some (NoDefault k))
missing-first d fs k f all e h m = ap (λ o. Some (option_map (λ (f : FunctionDecl). rules.no_default f.name.text) o)) (ap (λ xs. slice_get xs k) (sym e) ∙ h)
    ∙ sym (ap (λ xs. option_map Some (first_of (flat_map (missing_of fs) xs))) (list-from all k f h)
    ∙ ap (λ xs. option_map Some (first_of xs)) (missing-by d fs f (drop (k + 1) all) (is_some f.body || is_one_of fs f.name.text) true refl m))

pub missing-further : (d : Design) (fs : List (List ℕ)) (k : ℕ) (f : FunctionDecl) (all : List FunctionDecl) (r : Option DefsFault) → slice_get all k ≡ Some f
    → is_missing fs f ≡ false → IsFirst d (flat_map (missing_of fs) (drop (k + 1) all)) r → IsFirst d (flat_map (missing_of fs) (drop k all)) r
missing-further d fs k f all r h m l = l
    ∙ sym (ap (λ xs. option_map Some (first_of (flat_map (missing_of fs) xs))) (list-from all k f h)
    ∙ ap (λ xs. option_map Some (first_of xs)) (missing-by d fs f (drop (k + 1) all) (is_some f.body || is_one_of fs f.name.text) false refl m))

-- ---- patterns

-- as many patterns as parameters
pub counts-differ : (ps : List Pattern) (ws : List ℕ) → (length ps ≡ length ws → ⊥) → false ≡ patterns_fit ps ws
counts-differ [] [] h = absurd (h refl)
counts-differ [] (w ∷ ws) h = refl
counts-differ (p ∷ ps) [] h = refl
counts-differ (p ∷ ps) (w ∷ ws) h = and-false (pattern_fits p w) (patterns_fit ps ws) (counts-differ ps ws (λ e. h (ap suc e)))
  where
    and-false : (a b : Bool) → false ≡ b → false ≡ (a && b)
    and-false true b h = h
    and-false false b h = refl

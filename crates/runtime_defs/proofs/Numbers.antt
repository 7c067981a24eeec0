-- Numbers of functions: which names have one, and that no two names have the same.
use Rattle.std.proofs.Common.{◌≡◌, ℕ, zero, suc, ◌==◌, Bool, true, false, cond, ◌&&◌, List, [], ◌∷◌, slice_get, Option, Some, None, if◌then◌else◌, is_some, refl, sym, ap, ◌∙◌}
use Rattle.std.specs.Prelude.{option_map, option_and_then, bytes_eq}
use Rattle.std.specs.Cmp.Lexicographic.{bytes_decides}
use Rattle.cocoon_num.specs.Tree.{Name, FunctionDecl, Design}
use Rattle.cocoon_num.specs.Names.{same_name, named}
use Rattle.cocoon_types.specs.Design.{functions}
use Rattle.cocoon_types.specs.DefsRules.{runtime_named}
use Rattle.declarations.specs.NameNumbers.{index_of}
use Rattle.declarations.specs.Declares.{function_number, function_texts}

-- ---- the same name

pub bytes-same : (x y : List ℕ) → bytes_eq x y ≡ same_name x y
bytes-same [] [] = refl
bytes-same [] (b ∷ y) = refl
bytes-same (a ∷ x) [] = refl
bytes-same (a ∷ x) (b ∷ y) = ap (λ t. (a == b) && t) (bytes-same x y)

pub same-refl : (x : List ℕ) → same_name x x ≡ true
same-refl x = sym (bytes-same x x) ∙ (bytes_decides x x).1 refl

pub same-true : (x y : List ℕ) → same_name x y ≡ true → x ≡ y
same-true x y h = (bytes_decides x y).0 (bytes-same x y ∙ h)

-- ---- numbers

index-cons : (x n : List ℕ) (ns : List (List ℕ)) (b : Bool) → same_name x n ≡ b → index_of x (n ∷ ns) ≡ (if b then Some 0 else option_map suc (index_of x ns))
index-cons x n ns b e = ap (λ c. if c then Some 0 else option_map suc (index_of x ns)) e

-- the number of a name below one more
lower : (o : Option ℕ) (k : ℕ) → option_map suc o ≡ Some (suc k) → o ≡ Some k
lower None k h = absurd cc
lower (Some i) k h = cc

not-zero : (o : Option ℕ) → option_map suc o ≡ Some zero → ⊥
not-zero None h = cc
not-zero (Some i) h = cc

zero-suc : (n : ℕ) → Some zero ≡ Some (suc n) → ⊥
zero-suc n h = cc

abbrev SameAt : List (List ℕ) → (x y : List ℕ) → Type 0
SameAt ns x y = (n : ℕ) → index_of x ns ≡ Some n → index_of y ns ≡ Some n → x ≡ y

same-step : (m : List ℕ) (ns : List (List ℕ)) (x y : List ℕ) → SameAt ns x y → (a b : Bool) → same_name x m ≡ a → same_name y m ≡ b → SameAt (m ∷ ns) x y
same-step m ns x y ih true true e f n h k = same-true x m e ∙ sym (same-true y m f)
same-step m ns x y ih true false e f zero h k = absurd (not-zero (index_of y ns) (sym (index-cons y m ns false f) ∙ k))
same-step m ns x y ih true false e f (suc n) h k = absurd (zero-suc n (sym (index-cons x m ns true e) ∙ h))
same-step m ns x y ih false true e f zero h k = absurd (not-zero (index_of x ns) (sym (index-cons x m ns false e) ∙ h))
same-step m ns x y ih false true e f (suc n) h k = absurd (zero-suc n (sym (index-cons y m ns true f) ∙ k))
same-step m ns x y ih false false e f zero h k = absurd (not-zero (index_of x ns) (sym (index-cons x m ns false e) ∙ h))
same-step m ns x y ih false false e f (suc n) h k =
    ih n (lower (index_of x ns) n (sym (index-cons x m ns false e) ∙ h)) (lower (index_of y ns) n (sym (index-cons y m ns false f) ∙ k))

-- two names of one number are one
pub index-same : (ns : List (List ℕ)) (x y : List ℕ) → SameAt ns x y
index-same [] x y n h k = absurd cc
index-same (m ∷ ns) x y n h k = same-step m ns x y (index-same ns x y) (same_name x m) (same_name y m) refl refl n h k

is-some-suc : (o : Option ℕ) → is_some (option_map suc o) ≡ is_some o
is-some-suc None = refl
is-some-suc (Some i) = refl

number-step : (g : FunctionDecl) (fs : List FunctionDecl) (f : FunctionDecl) → is_some (index_of f.name.text (function_texts fs)) ≡ true
    → (b : Bool) → same_name f.name.text g.name.text ≡ b → is_some (index_of f.name.text (function_texts (g ∷ fs))) ≡ true
number-step g fs f ih true e = ap is_some (index-cons f.name.text g.name.text (function_texts fs) true e)
number-step g fs f ih false e = ap is_some (index-cons f.name.text g.name.text (function_texts fs) false e) ∙ is-some-suc (index_of f.name.text (function_texts fs)) ∙ ih

-- what a list has a name of has a number
pub number-there : (fs : List FunctionDecl) (k : ℕ) (f : FunctionDecl) → slice_get fs k ≡ Some f → is_some (index_of f.name.text (function_texts fs)) ≡ true
number-there [] k f h = absurd cc
number-there (g ∷ fs) zero f h =
    let e : g ≡ f = cc in
    ap is_some (index-cons f.name.text g.name.text (function_texts fs) true (ap (λ (y : FunctionDecl). same_name y.name.text g.name.text) (sym e) ∙ same-refl g.name.text))
number-there (g ∷ fs) (suc k) f h = number-step g fs f (number-there fs k f h) (same_name f.name.text g.name.text) refl

abbrev name-of : FunctionDecl → Name
name-of f = f.name

named-step : (g : FunctionDecl) (fs : List FunctionDecl) (x : List ℕ) → is_some (named name-of x fs) ≡ is_some (index_of x (function_texts fs))
    → (b : Bool) → same_name x g.name.text ≡ b → is_some (named name-of x (g ∷ fs)) ≡ is_some (index_of x (function_texts (g ∷ fs)))
named-step g fs x ih true e = ap (λ c. is_some (cond c (Some g) (named name-of x fs))) e ∙ sym (ap is_some (index-cons x g.name.text (function_texts fs) true e))
named-step g fs x ih false e = ap (λ c. is_some (cond c (Some g) (named name-of x fs))) e ∙ ih
    ∙ sym (is-some-suc (index_of x (function_texts fs))) ∙ sym (ap is_some (index-cons x g.name.text (function_texts fs) false e))

-- a name that stands for a function has a number
named-numbered : (fs : List FunctionDecl) (x : List ℕ) → is_some (named name-of x fs) ≡ is_some (index_of x (function_texts fs))
named-numbered [] x = refl
named-numbered (g ∷ fs) x = named-step g fs x (named-numbered fs x) (same_name x g.name.text) refl

some-before : {A B : Type 0} (o : Option A) (f : A → Option B) (b : B) → option_and_then f o ≡ Some b → is_some o ≡ true
some-before None f b h = absurd cc
some-before (Some a) f b h = refl

-- a function that is defined at run time has a number
pub runtime-numbered : (d : Design) (x : List ℕ) (f : FunctionDecl) → runtime_named d x ≡ Some f → is_some (function_number d x) ≡ true
runtime-numbered d x f h = sym (named-numbered (functions d) x)
    ∙ some-before (named name-of x (functions d)) (λ (y : FunctionDecl). elim y.body [ None ↦ Some y | Some e ↦ None ]) f h

pub function-numbered : (d : Design) (k : ℕ) (f : FunctionDecl) → slice_get (functions d) k ≡ Some f → is_some (function_number d f.name.text) ≡ true
function-numbered d k f h = number-there (functions d) k f h

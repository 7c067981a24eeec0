-- Where the terms of fields lie, and what setting one of them does.
use Rattle.std.proofs.Common.{◌≡◌, ℕ, zero, suc, ◌+◌, ◌<◌, ◌≤◌, List, [], ◌∷◌, ◌++◌, map, take, drop, set, length, get_or, Bool, true, false, cond, Option, Some, None, option_map, option_and_then, if◌then◌else◌, refl, sym, ap, subst, ◌∙◌, arith}
use Rattle.std.specs.List.{AllZip}
use Rattle.std.proofs.lemmas.List.{drop-set-add, take-set-le, take-append-drop, drop_more, length-append}
use Rattle.cocoon_num.specs.Names.{same_name, named}
use Rattle.cocoon_num.specs.Tree.{HeaderDecl, Param}
use Rattle.cocoon_resolve.specs.Readers.{all_widths}
use Rattle.cocoon_types.specs.Design.{field_width, widths_of}
use Rattle.bv_terms.specs.declared.node.TermOp.{TermOp}
use Rattle.bv_terms.specs.declared.node.TermOp.TheVariants.{Add, Sub, And, Or, Xor, Concat, Equal, Less}
use Rattle.bv_terms.specs.TermTrees.{Term, constant, input, apply, not_, binary, slice, pick, width, joined_width, IsTerm, IsWidth, OperandsFit}
use Rattle.obligation_laws.specs.Shown.{HasWidth}
use Rattle.role_values.proofs.FieldSteps.{counted}
use Rattle.sound_types.proofs.Variables.{width_among}
use Rattle.symbolic_runs.specs.Places.{later, place_in, place_of}
use Rattle.obligation_laws.specs.States.{choice_width, set_in, set_term}

-- ---- the width of a term is a width

joined_is : (op : TermOp) (v w : ℕ) → IsWidth v → OperandsFit op v w → IsWidth (joined_width op v w)
joined_is Add v w h f = h
joined_is Sub v w h f = h
joined_is And v w h f = h
joined_is Or v w h f = h
joined_is Xor v w h f = h
joined_is Concat v w h f = ((let a = h.0 in omega arith), f)
joined_is Equal v w h f = (omega arith, omega arith)
joined_is Less v w h f = (omega arith, omega arith)

pub is_width : (t : Term) → IsTerm t → IsWidth (width t)
is_width (constant w n) h = h.0
is_width (input i w) h = h
is_width (apply f args w) h = h.1
is_width (not_ a) h = is_width a h
is_width (binary op a b) h = joined_is op (width a) (width b) (is_width a h.0) h.2
is_width (slice a high low) h = (omega arith, (let w = is_width a h.0 in let l = w.1 in let p = h.2 in omega arith))
is_width (pick c a b) h = is_width a h.1

-- ---- places

mapped : (a : ℕ) (x : Option ℕ) (z : ℕ) → option_map (later a) x ≡ Some z → (p : ℕ) × (x ≡ Some p) × (a + p ≡ z)
mapped a None z h = absurd (cc)
mapped a (Some p) z h = (p, refl, cc)

none_mapped : (a : ℕ) (x : Option ℕ) → option_map (later a) x ≡ None → x ≡ None
none_mapped a None h = refl
none_mapped a (Some p) h = absurd (cc)

set_nil : {A : Type 0} (i : ℕ) (x : A) → set [] i x ≡ []
set_nil zero x = refl
set_nil (suc i) x = refl

-- ---- one header

set_in_at : (ps : List Param) (ts : List Term) (f : List ℕ) (u : Term) (p : ℕ) → place_in ps f ≡ Some p → set ts p u ≡ set_in ps ts f u
set_in_at [] ts f u p e = absurd (cc)
set_in_at (q ∷ ps) [] f u p e = set_nil p u
set_in_at (q ∷ ps) (t ∷ ts) f u p e = by (same_name f q.name.text) e (λ w k. set_in_at ps ts f u w k)
  where
    by : (b : Bool) → (if b then Some 0 else option_map (later 1) (place_in ps f)) ≡ Some p
        → ((w : ℕ) → place_in ps f ≡ Some w → set ts w u ≡ set_in ps ts f u)
        → set (t ∷ ts) p u ≡ (if b then u ∷ ts else t ∷ set_in ps ts f u)
    by true e next =
        let is : 0 ≡ p = cc in
        subst (λ r. set (t ∷ ts) r u ≡ u ∷ ts) is refl
    by false e next =
        let found = mapped 1 (place_in ps f) p e in
        let one : 1 + found.0 ≡ suc found.0 = omega arith in
        subst (λ r. set (t ∷ ts) r u ≡ t ∷ set_in ps ts f u) found.2
        (ap (λ k. set (t ∷ ts) k u) one ∙ ap (λ r. t ∷ r) (next found.0 found.1))

set_in_none : (ps : List Param) (ts : List Term) (f : List ℕ) (u : Term) → place_in ps f ≡ None → ts ≡ set_in ps ts f u
set_in_none [] ts f u e = refl
set_in_none (q ∷ ps) [] f u e = refl
set_in_none (q ∷ ps) (t ∷ ts) f u e = by (same_name f q.name.text) e (λ k. set_in_none ps ts f u k)
  where
    by : (b : Bool) → (if b then Some 0 else option_map (later 1) (place_in ps f)) ≡ None
        → (place_in ps f ≡ None → ts ≡ set_in ps ts f u) → t ∷ ts ≡ (if b then u ∷ ts else t ∷ set_in ps ts f u)
    by true e next = absurd (cc)
    by false e next = ap (λ r. t ∷ r) (next (none_mapped 1 (place_in ps f) e))

-- the term at the place of a field has the field's width
width_in : (num : ℕ → Term) (ps : List Param) (ws ids : List ℕ) (f : List ℕ) (p w k : ℕ) → place_in ps f ≡ Some p → width_among ps f ≡ Some w → AllZip HasWidth (widths_of ps ++ ws) (map num ids) → HasWidth w (num (get_or ids p k))
width_in num [] ws ids f p w k e o h = absurd (cc)
width_in num (q ∷ ps) ws [] f p w k e o h = absurd h
width_in num (q ∷ ps) ws (i ∷ ids) f p w k e o h = by (same_name f q.name.text) e o (λ r x y. width_in num ps ws ids f r w k x y h.1)
  where
    by : (b : Bool) → (if b then Some 0 else option_map (later 1) (place_in ps f)) ≡ Some p
        → option_map (λ (z : Param). z.width) (cond b (Some q) (named (λ (z : Param). z.name) f ps)) ≡ Some w
        → ((r : ℕ) → place_in ps f ≡ Some r → width_among ps f ≡ Some w → HasWidth w (num (get_or ids r k))) → HasWidth w (num (get_or (i ∷ ids) p k))
    by true e o next =
        let is : q.width ≡ w = cc in
        let first : 0 ≡ p = cc in
        subst (λ r. HasWidth w (num (get_or (i ∷ ids) r k))) first (subst (λ v. HasWidth v (num i)) is h.0)
    by false e o next =
        let found = mapped 1 (place_in ps f) p e in
        let one : suc found.0 ≡ 1 + found.0 = omega arith in
        subst (λ r. HasWidth w (num (get_or (i ∷ ids) r k))) (one ∙ found.2) (next found.0 found.1 o)

none_in : (ps : List Param) (f : List ℕ) (w : ℕ) → place_in ps f ≡ None → width_among ps f ≡ Some w → ⊥
none_in [] f w e o = cc
none_in (q ∷ ps) f w e o = by (same_name f q.name.text) e o (none_in ps f w)
  where
    by : (b : Bool) → (if b then Some 0 else option_map (later 1) (place_in ps f)) ≡ None
        → option_map (λ (z : Param). z.width) (cond b (Some q) (named (λ (z : Param). z.name) f ps)) ≡ Some w
        → (place_in ps f ≡ None → width_among ps f ≡ Some w → ⊥) → ⊥
    by true e o next = cc
    by false e o next = next (none_mapped 1 (place_in ps f) e) o

pub within_in : (ps : List Param) (f : List ℕ) (p : ℕ) → place_in ps f ≡ Some p → p < length ps
within_in [] f p e = absurd (cc)
within_in (q ∷ ps) f p e = by (same_name f q.name.text) e (within_in ps f)
  where
    by : (b : Bool) → (if b then Some 0 else option_map (later 1) (place_in ps f)) ≡ Some p → ((r : ℕ) → place_in ps f ≡ Some r → r < length ps) → p < length (q ∷ ps)
    by true e next = let first : 0 ≡ p = cc in omega (arith, first)
    by false e next =
        let found = mapped 1 (place_in ps f) p e in
        let l : found.0 < length ps = next found.0 found.1 in
        let is = found.2 in
        omega (arith, l, is)

-- ---- all headers

moved : (n : ℕ) (ts : List Term) (i : ℕ) (u : Term) → set ts (n + i) u ≡ take n ts ++ set (drop n ts) i u
moved n ts i u =
    sym (take-append-drop n (set ts (n + i) u))
    ∙ (λ j. take-set-le n ts (n + i) u (omega arith) j ++ drop-set-add n ts i u j)

-- setting the term at the place of a field sets the field
pub set_at : (hs : List HeaderDecl) (ts : List Term) (h f : List ℕ) (u : Term) (p : ℕ) → place_of hs h f ≡ Some p → set ts p u ≡ set_term hs ts h f u
set_at [] ts h f u p e = absurd (cc)
set_at (d ∷ ds) ts h f u p e = by (same_name h d.name.text) e (λ w k. set_at ds (drop (length d.fields) ts) h f u w k)
  where
    by : (b : Bool) → (if b then place_in d.fields f else option_map (later (length d.fields)) (place_of ds h f)) ≡ Some p
        → ((w : ℕ) → place_of ds h f ≡ Some w → set (drop (length d.fields) ts) w u ≡ set_term ds (drop (length d.fields) ts) h f u)
        → set ts p u ≡ (if b then set_in d.fields ts f u else take (length d.fields) ts ++ set_term ds (drop (length d.fields) ts) h f u)
    by true e next = set_in_at d.fields ts f u p e
    by false e next =
        let found = mapped (length d.fields) (place_of ds h f) p e in
        subst (λ r. set ts r u ≡ take (length d.fields) ts ++ set_term ds (drop (length d.fields) ts) h f u) found.2
        (moved (length d.fields) ts found.0 u ∙ ap (λ r. take (length d.fields) ts ++ r) (next found.0 found.1))

pub set_none : (hs : List HeaderDecl) (ts : List Term) (h f : List ℕ) (u : Term) → place_of hs h f ≡ None → ts ≡ set_term hs ts h f u
set_none [] ts h f u e = refl
set_none (d ∷ ds) ts h f u e = by (same_name h d.name.text) e (λ k. set_none ds (drop (length d.fields) ts) h f u k)
  where
    by : (b : Bool) → (if b then place_in d.fields f else option_map (later (length d.fields)) (place_of ds h f)) ≡ None
        → (place_of ds h f ≡ None → drop (length d.fields) ts ≡ set_term ds (drop (length d.fields) ts) h f u)
        → ts ≡ (if b then set_in d.fields ts f u else take (length d.fields) ts ++ set_term ds (drop (length d.fields) ts) h f u)
    by true e next = set_in_none d.fields ts f u e
    by false e next = sym (take-append-drop (length d.fields) ts) ∙ ap (λ r. take (length d.fields) ts ++ r) (next (none_mapped (length d.fields) (place_of ds h f) e))

-- the place is among those of all fields
pub place_low : (hs : List HeaderDecl) (h f : List ℕ) (p : ℕ) → place_of hs h f ≡ Some p → p < length (all_widths hs)
place_low [] h f p e = absurd (cc)
place_low (d ∷ ds) h f p e = by (same_name h d.name.text) e (λ w k. place_low ds h f w k)
  where
    by : (b : Bool) → (if b then place_in d.fields f else option_map (later (length d.fields)) (place_of ds h f)) ≡ Some p
        → ((w : ℕ) → place_of ds h f ≡ Some w → w < length (all_widths ds)) → p < length (all_widths (d ∷ ds))
    by true e next =
        let l : p < length d.fields = within_in d.fields f p e in
        let many : length (widths_of d.fields) ≡ length d.fields = counted d.fields in
        let sum : length (widths_of d.fields ++ all_widths ds) ≡ length (widths_of d.fields) + length (all_widths ds) = length-append (widths_of d.fields) (all_widths ds) in
        omega (arith, l, many, sum)
    by false e next =
        let found = mapped (length d.fields) (place_of ds h f) p e in
        let l : found.0 < length (all_widths ds) = next found.0 found.1 in
        let many : length (widths_of d.fields) ≡ length d.fields = counted d.fields in
        let sum : length (widths_of d.fields ++ all_widths ds) ≡ length (widths_of d.fields) + length (all_widths ds) = length-append (widths_of d.fields) (all_widths ds) in
        subst (λ r. r < length (widths_of d.fields ++ all_widths ds)) found.2 (omega (arith, l, many, sum))

rest_wide : (num : ℕ → Term) (ws vs ids : List ℕ) → AllZip HasWidth (ws ++ vs) (map num ids) → AllZip HasWidth vs (map num (drop (length ws) ids))
rest_wide num [] vs ids h = h
rest_wide num (w ∷ ws) vs [] h = absurd h
rest_wide num (w ∷ ws) vs (i ∷ ids) h = rest_wide num ws vs ids h.1

get_later : (n : ℕ) (ids : List ℕ) (i k : ℕ) → get_or (drop n ids) i k ≡ get_or ids (n + i) k
get_later zero ids i k = let e : i ≡ 0 + i = omega arith in ap (λ j. get_or ids j k) e
get_later (suc n) [] i k = refl
get_later (suc n) (x ∷ ids) i k = let e : suc (n + i) ≡ suc n + i = omega arith in get_later n ids i k ∙ ap (λ j. get_or (x ∷ ids) j k) e

-- the term there has the field's width
pub width_of : (num : ℕ → Term) (hs : List HeaderDecl) (ids : List ℕ) (h f : List ℕ) (p w k : ℕ) → place_of hs h f ≡ Some p → field_width hs h f ≡ Some w → AllZip HasWidth (all_widths hs) (map num ids) → HasWidth w (num (get_or ids p k))
width_of num [] ids h f p w k e o z = absurd (cc)
width_of num (d ∷ ds) ids h f p w k e o z =
    by (same_name h d.name.text) e o (λ r x y. width_of num ds (drop (length (widths_of d.fields)) ids) h f r w k x y (rest_wide num (widths_of d.fields) (all_widths ds) ids z))
  where
    by : (b : Bool) → (if b then place_in d.fields f else option_map (later (length d.fields)) (place_of ds h f)) ≡ Some p
        → option_and_then (λ (c : HeaderDecl). width_among c.fields f) (cond b (Some d) (named (λ (c : HeaderDecl). c.name) h ds)) ≡ Some w
        → ((r : ℕ) → place_of ds h f ≡ Some r → field_width ds h f ≡ Some w → HasWidth w (num (get_or (drop (length (widths_of d.fields)) ids) r k))) → HasWidth w (num (get_or ids p k))
    by true e o next = width_in num d.fields (all_widths ds) ids f p w k e o z
    by false e o next =
        let found = mapped (length d.fields) (place_of ds h f) p e in
        subst (λ r. HasWidth w (num (get_or ids r k))) found.2
        (subst (λ j. HasWidth w (num j))
        (ap (λ n. get_or (drop n ids) found.0 k) (counted d.fields) ∙ get_later (length d.fields) ids found.0 k)
        (next found.0 found.1 o))

pub width_is : (hs : List HeaderDecl) (h f : List ℕ) (w : ℕ) → field_width hs h f ≡ Some w → w ≡ choice_width hs h f
width_is hs h f w e = sym (ap (λ (o : Option ℕ). elim o as (λ y. ℕ) [ None ↦ 1 | Some w ↦ w ]) e)

-- a field that is declared has a place
pub declared_place : (hs : List HeaderDecl) (h f : List ℕ) (w : ℕ) → field_width hs h f ≡ Some w → place_of hs h f ≡ None → ⊥
declared_place [] h f w o e = cc
declared_place (d ∷ ds) h f w o e = by (same_name h d.name.text) e o (λ x y. declared_place ds h f w y x)
  where
    by : (b : Bool) → (if b then place_in d.fields f else option_map (later (length d.fields)) (place_of ds h f)) ≡ None
        → option_and_then (λ (c : HeaderDecl). width_among c.fields f) (cond b (Some d) (named (λ (c : HeaderDecl). c.name) h ds)) ≡ Some w
        → (place_of ds h f ≡ None → field_width ds h f ≡ Some w → ⊥) → ⊥
    by true e o next = none_in d.fields f w e o
    by false e o next = next (none_mapped (length d.fields) (place_of ds h f) e) o

pub fields_long : (num : ℕ → Term) (ws ids : List ℕ) → AllZip HasWidth ws (map num ids) → length ws ≤ length ids
fields_long num [] ids h = omega arith
fields_long num (w ∷ ws) [] h = absurd h
fields_long num (w ∷ ws) (i ∷ ids) h = let l = fields_long num ws ids h.1 in omega (arith, l)

-- ---- steps of the loops

from_here : {A : Type 0} (xs : List A) (i : ℕ) (x : A) → i < length xs → x ≡ get_or xs i x → drop i xs ≡ x ∷ drop (i + 1) xs
from_here xs i x l e = drop_more xs i x l ∙ ap (λ z. z ∷ drop (i + 1) xs) (sym e)

later_more : (a b : ℕ) (x : Option ℕ) → option_map (later a) (option_map (later b) x) ≡ option_map (later (a + b)) x
later_more a b None = refl
later_more a b (Some p) = let e : a + (b + p) ≡ a + b + p = omega arith in ap Some e

pub later_none : (x : Option ℕ) → option_map (later 0) x ≡ x
later_none None = refl
later_none (Some p) = let e : 0 + p ≡ p = omega arith in ap Some e

pub place_here : {A : Type 0} (g : A → Param) (xs : List A) (i : ℕ) (x : A) (f : List ℕ) → i < length xs → x ≡ get_or xs i x → same_name f (g x).name.text ≡ true → option_map (later i) (place_in (map g (drop i xs)) f) ≡ Some i
place_here g xs i x f l e h =
    (λ j. option_map (later i) (place_in (map g (from_here xs i x l e j)) f)) ∙ ap (λ b. option_map (later i) (if b then Some 0 else option_map (later 1) (place_in (map g (drop (i + 1) xs)) f))) h
    ∙ (let z : i + 0 ≡ i = omega arith in ap Some z)

pub place_past : {A : Type 0} (g : A → Param) (xs : List A) (i : ℕ) (x : A) (f : List ℕ) → i < length xs → x ≡ get_or xs i x → same_name f (g x).name.text ≡ false
    → option_map (later i) (place_in (map g (drop i xs)) f) ≡ option_map (later (i + 1)) (place_in (map g (drop (i + 1) xs)) f)
place_past g xs i x f l e h =
    (λ j. option_map (later i) (place_in (map g (from_here xs i x l e j)) f)) ∙ ap (λ b. option_map (later i) (if b then Some 0 else option_map (later 1) (place_in (map g (drop (i + 1) xs)) f))) h
    ∙ later_more i 1 (place_in (map g (drop (i + 1) xs)) f)

pub header_here : {A : Type 0} (g : A → HeaderDecl) (xs : List A) (i before : ℕ) (x : A) (h f : List ℕ) → i < length xs → x ≡ get_or xs i x → same_name h (g x).name.text ≡ true
    → option_map (later before) (place_of (map g (drop i xs)) h f) ≡ option_map (later before) (place_in (g x).fields f)
header_here g xs i before x h f l e y =
    (λ j. option_map (later before) (place_of (map g (from_here xs i x l e j)) h f))
    ∙ ap (λ b. option_map (later before) (if b then place_in (g x).fields f else option_map (later (length (g x).fields)) (place_of (map g (drop (i + 1) xs)) h f))) y

pub header_past : {A : Type 0} (g : A → HeaderDecl) (xs : List A) (i before : ℕ) (x : A) (h f : List ℕ) → i < length xs → x ≡ get_or xs i x → same_name h (g x).name.text ≡ false
    → option_map (later before) (place_of (map g (drop i xs)) h f) ≡ option_map (later (before + length (g x).fields)) (place_of (map g (drop (i + 1) xs)) h f)
header_past g xs i before x h f l e y =
    (λ j. option_map (later before) (place_of (map g (from_here xs i x l e j)) h f))
    ∙ ap (λ b. option_map (later before) (if b then place_in (g x).fields f else option_map (later (length (g x).fields)) (place_of (map g (drop (i + 1) xs)) h f))) y
    ∙ later_more before (length (g x).fields) (place_of (map g (drop (i + 1) xs)) h f)

-- so many fields are left
pub header_room : {A : Type 0} (g : A → HeaderDecl) (xs : List A) (i : ℕ) (x : A) → i < length xs → x ≡ get_or xs i x
    → length (all_widths (map g (drop i xs))) ≡ length (g x).fields + length (all_widths (map g (drop (i + 1) xs)))
header_room g xs i x l e =
    (λ j. length (all_widths (map g (from_here xs i x l e j)))) ∙ length-append (widths_of (g x).fields) (all_widths (map g (drop (i + 1) xs)))
    ∙ ap (λ n. n + length (all_widths (map g (drop (i + 1) xs)))) (counted (g x).fields)

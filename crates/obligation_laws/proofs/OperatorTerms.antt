-- What operators make of terms: widths and values.
use Rattle.std.proofs.Common.{◌≡◌, ℕ, ◌+◌, ◌-◌, ◌≤◌, ◌<◌, ◌==◌, ◌&&◌, ◌||◌, nat_le, nat_lt, not, Bool, true, false, Option, Some, None, if◌then◌else◌, refl, sym, ap, subst, ◌∙◌, arith}
use Rattle.cocoon_num.specs.Sorts.{Sort, bits_sort, truth_sort, same_sort, unary_sort, binary_sort, work_sort, slice_sort, pick_sort}
use Rattle.cocoon_num.specs.Values.{Value, number, truth, UnaryOp, flip, not_, BinaryOp, add, sub, bits_and, bits_or, bits_xor, concat, equal, unequal, less, less_equal, greater, greater_equal, and_, or_, implies, Work, computes, compares, combines, joins, work, apply_unary, apply_binary, apply_slice, apply_pick}
use Rattle.bv_terms.specs.declared.node.TermOp.TheVariants as ops
use Rattle.bv_terms.specs.TermTrees as term
use Rattle.bv_terms.specs.TermTrees.{Term, width}
use Rattle.bv_terms.specs.TermValues.{Functions, Inputs, number_in, operated, term_number, term_value}
use Rattle.sound_types.specs.Matching.{IsOfSort}
use Rattle.sound_types.proofs.Options.{if_there}
use Rattle.obligation_laws.specs.TermOf.{binary_term}
use Rattle.obligation_laws.specs.Shown.{HasWidth, WidthsFit, sort_width}

-- ---- widths

same_number : (v w : ℕ) → (v == w) ≡ true → v ≡ w
same_number v w h = grind (arith, h)

some_sort : (a b : Sort) → Some a ≡ Some b → a ≡ b
some_sort a b h = cc

-- the sorts that the operands of an operator have
abbrev SortsFit : Work → Sort → Sort → Sort → Type 0
SortsFit (computes f) s u t = (w : ℕ) × (s ≡ bits_sort w) × (u ≡ bits_sort w) × (t ≡ bits_sort w)
SortsFit (compares f) s u t = (w : ℕ) × (s ≡ bits_sort w) × (u ≡ bits_sort w) × (t ≡ truth_sort)
SortsFit (combines f) s u t = (s ≡ truth_sort) × (u ≡ truth_sort) × (t ≡ truth_sort)
SortsFit joins s u t = (v w : ℕ) × (s ≡ bits_sort v) × (u ≡ bits_sort w) × (t ≡ bits_sort (v + w)) × (v + w ≤ 128)

within : (n : ℕ) → nat_le n 128 ≡ true → n ≤ 128
within n h = grind (arith, h)

sorts_fit : (k : Work) (s u t : Sort) → work_sort k s u ≡ Some t → SortsFit k s u t
sorts_fit (computes f) (bits_sort v) (bits_sort w) t h = let e = if_there (v == w) (bits_sort w) t h in (w, ap bits_sort (same_number v w e.0), refl, sym e.1)
sorts_fit (computes f) (bits_sort v) truth_sort t h = absurd (cc)
sorts_fit (computes f) truth_sort u t h = absurd (cc)
sorts_fit (compares f) (bits_sort v) (bits_sort w) t h = let e = if_there (v == w) truth_sort t h in (w, ap bits_sort (same_number v w e.0), refl, sym e.1)
sorts_fit (compares f) (bits_sort v) truth_sort t h = absurd (cc)
sorts_fit (compares f) truth_sort u t h = absurd (cc)
sorts_fit (combines f) (bits_sort v) u t h = absurd (cc)
sorts_fit (combines f) truth_sort (bits_sort w) t h = absurd (cc)
sorts_fit (combines f) truth_sort truth_sort t h = (refl, refl, sym (some_sort truth_sort t h))
sorts_fit joins (bits_sort v) (bits_sort w) t h = let e = if_there (nat_le (v + w) 128) (bits_sort (v + w)) t h in (v, w, refl, refl, sym e.1, within (v + w) e.0)
sorts_fit joins (bits_sort v) truth_sort t h = absurd (cc)
sorts_fit joins truth_sort u t h = absurd (cc)

alike : (v w k : ℕ) → v ≡ k → w ≡ k → v ≡ w
alike v w k p q = p ∙ sym q

-- the widths of both operands are those of their sorts
pub operands_fit : (op : BinaryOp) (s u t : Sort) (v w : ℕ) → binary_sort op s u ≡ Some t → v ≡ sort_width s → w ≡ sort_width u → WidthsFit op v w
operands_fit add s u t v w h p q = let e = sorts_fit (work add) s u t h in alike v w e.0 (p ∙ ap sort_width e.1) (q ∙ ap sort_width e.2)
operands_fit sub s u t v w h p q = let e = sorts_fit (work sub) s u t h in alike v w e.0 (p ∙ ap sort_width e.1) (q ∙ ap sort_width e.2)
operands_fit bits_and s u t v w h p q = let e = sorts_fit (work bits_and) s u t h in alike v w e.0 (p ∙ ap sort_width e.1) (q ∙ ap sort_width e.2)
operands_fit bits_or s u t v w h p q = let e = sorts_fit (work bits_or) s u t h in alike v w e.0 (p ∙ ap sort_width e.1) (q ∙ ap sort_width e.2)
operands_fit bits_xor s u t v w h p q = let e = sorts_fit (work bits_xor) s u t h in alike v w e.0 (p ∙ ap sort_width e.1) (q ∙ ap sort_width e.2)
operands_fit concat s u t v w h p q =
    let e = sorts_fit (work concat) s u t h in
    let l : v ≡ e.0 = p ∙ ap sort_width e.2 in
    let r : w ≡ e.1 = q ∙ ap sort_width e.3 in
    omega (arith, e.5)
operands_fit equal s u t v w h p q = let e = sorts_fit (work equal) s u t h in alike v w e.0 (p ∙ ap sort_width e.1) (q ∙ ap sort_width e.2)
operands_fit unequal s u t v w h p q = let e = sorts_fit (work unequal) s u t h in alike v w e.0 (p ∙ ap sort_width e.1) (q ∙ ap sort_width e.2)
operands_fit less s u t v w h p q = let e = sorts_fit (work less) s u t h in alike v w e.0 (p ∙ ap sort_width e.1) (q ∙ ap sort_width e.2)
operands_fit less_equal s u t v w h p q = let e = sorts_fit (work less_equal) s u t h in alike v w e.0 (p ∙ ap sort_width e.1) (q ∙ ap sort_width e.2)
operands_fit greater s u t v w h p q = let e = sorts_fit (work greater) s u t h in alike v w e.0 (p ∙ ap sort_width e.1) (q ∙ ap sort_width e.2)
operands_fit greater_equal s u t v w h p q = let e = sorts_fit (work greater_equal) s u t h in alike v w e.0 (p ∙ ap sort_width e.1) (q ∙ ap sort_width e.2)
operands_fit and_ s u t v w h p q = let e = sorts_fit (work and_) s u t h in alike v w 1 (p ∙ ap sort_width e.0) (q ∙ ap sort_width e.1)
operands_fit or_ s u t v w h p q = let e = sorts_fit (work or_) s u t h in alike v w 1 (p ∙ ap sort_width e.0) (q ∙ ap sort_width e.1)
operands_fit implies s u t v w h p q = let e = sorts_fit (work implies) s u t h in alike v w 1 (p ∙ ap sort_width e.0) (q ∙ ap sort_width e.1)

pub binary_width : (op : BinaryOp) (s u t : Sort) (a b : Term) → binary_sort op s u ≡ Some t → HasWidth (sort_width s) a → HasWidth (sort_width u) b → HasWidth (sort_width t) (binary_term op a b)
binary_width add s u t a b h p q = let e = sorts_fit (work add) s u t h in p ∙ ap sort_width (e.1 ∙ sym e.3)
binary_width sub s u t a b h p q = let e = sorts_fit (work sub) s u t h in p ∙ ap sort_width (e.1 ∙ sym e.3)
binary_width bits_and s u t a b h p q = let e = sorts_fit (work bits_and) s u t h in p ∙ ap sort_width (e.1 ∙ sym e.3)
binary_width bits_or s u t a b h p q = let e = sorts_fit (work bits_or) s u t h in p ∙ ap sort_width (e.1 ∙ sym e.3)
binary_width bits_xor s u t a b h p q = let e = sorts_fit (work bits_xor) s u t h in p ∙ ap sort_width (e.1 ∙ sym e.3)
binary_width concat s u t a b h p q =
    let e = sorts_fit (work concat) s u t h in
    (λ i. (p ∙ ap sort_width e.2) i + (q ∙ ap sort_width e.3) i) ∙ sym (ap sort_width e.4)
binary_width equal s u t a b h p q = let e = sorts_fit (work equal) s u t h in sym (ap sort_width e.3)
binary_width unequal s u t a b h p q = let e = sorts_fit (work unequal) s u t h in sym (ap sort_width e.3)
binary_width less s u t a b h p q = let e = sorts_fit (work less) s u t h in sym (ap sort_width e.3)
binary_width less_equal s u t a b h p q = let e = sorts_fit (work less_equal) s u t h in sym (ap sort_width e.3)
binary_width greater s u t a b h p q = let e = sorts_fit (work greater) s u t h in sym (ap sort_width e.3)
binary_width greater_equal s u t a b h p q = let e = sorts_fit (work greater_equal) s u t h in sym (ap sort_width e.3)
binary_width and_ s u t a b h p q = let e = sorts_fit (work and_) s u t h in p ∙ ap sort_width (e.0 ∙ sym e.2)
binary_width or_ s u t a b h p q = let e = sorts_fit (work or_) s u t h in p ∙ ap sort_width (e.0 ∙ sym e.2)
binary_width implies s u t a b h p q = let e = sorts_fit (work implies) s u t h in p ∙ ap sort_width (e.0 ∙ sym e.2)

pub unary_width : (op : UnaryOp) (u t : Sort) (a : Term) → unary_sort op u ≡ Some t → HasWidth (sort_width u) a → HasWidth (sort_width t) (term.not_ a)
unary_width flip (bits_sort w) t a h p = p ∙ ap sort_width (some_sort (bits_sort w) t h)
unary_width flip truth_sort t a h p = absurd (cc)
unary_width not_ (bits_sort w) t a h p = absurd (cc)
unary_width not_ truth_sort t a h p = p ∙ ap sort_width (some_sort truth_sort t h)

both : (a b : Bool) → (a && b) ≡ true → (a ≡ true) × (b ≡ true)
both true b h = (refl, h)
both false b h = absurd (cc)

places_of : (low high w : ℕ) → nat_le low high ≡ true → nat_lt high w ≡ true → (low ≤ high) × (high < w)
places_of low high w h k = (grind (arith, h), grind (arith, k))

-- the bits of a slice are there
pub slice_fits : (u t : Sort) (high low v : ℕ) → slice_sort u high low ≡ Some t → v ≡ sort_width u → (low ≤ high) × (high < v)
slice_fits (bits_sort w) t high low v h e =
    let i = if_there (nat_le low high && nat_lt high w) (bits_sort (high - low + 1)) t h in
    let b = both (nat_le low high) (nat_lt high w) i.0 in
    let p = places_of low high w b.0 b.1 in
    (p.0, subst (λ x. high < x) (sym e) p.1)
slice_fits truth_sort t high low v h e = absurd (cc)

pub slice_width : (u t : Sort) (high low : ℕ) (a : Term) → slice_sort u high low ≡ Some t → HasWidth (sort_width t) (term.slice a high low)
slice_width (bits_sort w) t high low a h = ap sort_width (if_there (nat_le low high && nat_lt high w) (bits_sort (high - low + 1)) t h).1
slice_width truth_sort t high low a h = absurd (cc)

-- ---- values

-- the value is that of the operands, where truth is a number of width 1
abbrev pub shown : Value → Value
shown v = term_number (Some v)

-- the operands of an operator
abbrev Operands : Work → Value → Value → Type 0
Operands (computes f) x y = (w a b : ℕ) × (x ≡ number w a) × (y ≡ number w b)
Operands (compares f) x y = (w a b : ℕ) × (x ≡ number w a) × (y ≡ number w b)
Operands (combines f) x y = (a b : Bool) × (x ≡ truth a) × (y ≡ truth b)
Operands joins x y = (v a w b : ℕ) × (x ≡ number v a) × (y ≡ number w b)

-- a value of a type has its form
abbrev Form : Sort → Value → Type 0
Form (bits_sort w) x = (n : ℕ) × (x ≡ number w n)
Form truth_sort x = (b : Bool) × (x ≡ truth b)

form : (s : Sort) (x : Value) → IsOfSort s x → Form s x
form (bits_sort w) (number v n) h = (n, ap (λ u. number u n) h.0)
form (bits_sort w) (truth b) h = absurd h
form truth_sort (number v n) h = absurd h
form truth_sort (truth b) h = (b, refl)

operands : (k : Work) (s u t : Sort) (x y : Value) → SortsFit k s u t → IsOfSort s x → IsOfSort u y → Operands k x y
operands (computes f) s u t x y e p q =
    let m = form (bits_sort e.0) x (subst (λ z. IsOfSort z x) e.1 p) in
    let n = form (bits_sort e.0) y (subst (λ z. IsOfSort z y) e.2 q) in (e.0, m.0, n.0, m.1, n.1)
operands (compares f) s u t x y e p q =
    let m = form (bits_sort e.0) x (subst (λ z. IsOfSort z x) e.1 p) in
    let n = form (bits_sort e.0) y (subst (λ z. IsOfSort z y) e.2 q) in (e.0, m.0, n.0, m.1, n.1)
operands (combines f) s u t x y e p q =
    let m = form truth_sort x (subst (λ z. IsOfSort z x) e.0 p) in
    let n = form truth_sort y (subst (λ z. IsOfSort z y) e.1 q) in (m.0, n.0, m.1, n.1)
operands joins s u t x y e p q =
    let m = form (bits_sort e.0) x (subst (λ z. IsOfSort z x) e.2 p) in
    let n = form (bits_sort e.1) y (subst (λ z. IsOfSort z y) e.3 q) in (e.0, m.0, e.1, n.0, m.1, n.1)

-- what the term of an operator makes of the values of its operands
abbrev pub of_values : BinaryOp → Value → Value → Value
of_values add x y = operated ops.Add x y
of_values sub x y = operated ops.Sub x y
of_values bits_and x y = operated ops.And x y
of_values bits_or x y = operated ops.Or x y
of_values bits_xor x y = operated ops.Xor x y
of_values concat x y = operated ops.Concat x y
of_values equal x y = operated ops.Equal x y
of_values unequal x y = term_number (apply_unary flip (operated ops.Equal x y))
of_values less x y = operated ops.Less x y
of_values less_equal x y = term_number (apply_unary flip (operated ops.Less y x))
of_values greater x y = operated ops.Less y x
of_values greater_equal x y = term_number (apply_unary flip (operated ops.Less x y))
of_values and_ x y = operated ops.And x y
of_values or_ x y = operated ops.Or x y
of_values implies x y = operated ops.Or (term_number (apply_unary flip x)) y

pub term_values : (F : Functions) (ins : Inputs) (op : BinaryOp) (a b : Term) → term_value F ins (binary_term op a b) ≡ of_values op (term_value F ins a) (term_value F ins b)
term_values F ins add a b = refl
term_values F ins sub a b = refl
term_values F ins bits_and a b = refl
term_values F ins bits_or a b = refl
term_values F ins bits_xor a b = refl
term_values F ins concat a b = refl
term_values F ins equal a b = refl
term_values F ins unequal a b = refl
term_values F ins less a b = refl
term_values F ins less_equal a b = refl
term_values F ins greater a b = refl
term_values F ins greater_equal a b = refl
term_values F ins and_ a b = refl
term_values F ins or_ a b = refl
term_values F ins implies a b = refl

flipped : (b : Bool) → term_number (apply_unary flip (number 1 (number_in (truth b)))) ≡ shown (truth (not b))
flipped true = refl
flipped false = refl

same_self : (n : ℕ) → (n == n) ≡ true
same_self n = grind arith

-- of numbers of one width a comparison is there
compared : (w : ℕ) (b : Bool) → term_number (if w == w then Some (truth b) else None) ≡ shown (truth b)
compared w b = ap (λ z. term_number (if z then Some (truth b) else None)) (same_self w)

flip_compared : (w : ℕ) (b : Bool) → term_number (apply_unary flip (term_number (if w == w then Some (truth b) else None))) ≡ shown (truth (not b))
flip_compared w b = ap (λ v. term_number (apply_unary flip v)) (compared w b) ∙ flipped b

not_less : (a b : ℕ) → not (nat_lt b a) ≡ nat_le a b
not_less a b = grind arith

moved : (op : BinaryOp) (x y u v : Value) → x ≡ u → y ≡ v → of_values op (shown u) (shown v) ≡ term_number (apply_binary op u v) → of_values op (shown x) (shown y) ≡ term_number (apply_binary op x y)
moved op x y u v p q h = (λ i. of_values op (shown (p i)) (shown (q i))) ∙ h ∙ sym (λ i. term_number (apply_binary op (p i) (q i)))

and_shown : (a b : Bool) → of_values and_ (shown (truth a)) (shown (truth b)) ≡ shown (truth (a && b))
and_shown true true = refl
and_shown true false = refl
and_shown false true = refl
and_shown false false = refl

or_shown : (a b : Bool) → of_values or_ (shown (truth a)) (shown (truth b)) ≡ shown (truth (a || b))
or_shown true true = refl
or_shown true false = refl
or_shown false true = refl
or_shown false false = refl

implies_shown : (a b : Bool) → of_values implies (shown (truth a)) (shown (truth b)) ≡ shown (truth (not a || b))
implies_shown true true = refl
implies_shown true false = refl
implies_shown false true = refl
implies_shown false false = refl

pub values_shown : (op : BinaryOp) (s u t : Sort) (x y : Value) → binary_sort op s u ≡ Some t → IsOfSort s x → IsOfSort u y → of_values op (shown x) (shown y) ≡ term_number (apply_binary op x y)
values_shown add s u t x y h p q = let o = operands (work add) s u t x y (sorts_fit (work add) s u t h) p q in moved add x y (number o.0 o.1) (number o.0 o.2) o.3 o.4 refl
values_shown sub s u t x y h p q = let o = operands (work sub) s u t x y (sorts_fit (work sub) s u t h) p q in moved sub x y (number o.0 o.1) (number o.0 o.2) o.3 o.4 refl
values_shown bits_and s u t x y h p q = let o = operands (work bits_and) s u t x y (sorts_fit (work bits_and) s u t h) p q in moved bits_and x y (number o.0 o.1) (number o.0 o.2) o.3 o.4 refl
values_shown bits_or s u t x y h p q = let o = operands (work bits_or) s u t x y (sorts_fit (work bits_or) s u t h) p q in moved bits_or x y (number o.0 o.1) (number o.0 o.2) o.3 o.4 refl
values_shown bits_xor s u t x y h p q = let o = operands (work bits_xor) s u t x y (sorts_fit (work bits_xor) s u t h) p q in moved bits_xor x y (number o.0 o.1) (number o.0 o.2) o.3 o.4 refl
values_shown concat s u t x y h p q = let o = operands (work concat) s u t x y (sorts_fit (work concat) s u t h) p q in moved concat x y (number o.0 o.1) (number o.2 o.3) o.4 o.5 refl
values_shown equal s u t x y h p q = let o = operands (work equal) s u t x y (sorts_fit (work equal) s u t h) p q in moved equal x y (number o.0 o.1) (number o.0 o.2) o.3 o.4 refl
values_shown unequal s u t x y h p q = let o = operands (work unequal) s u t x y (sorts_fit (work unequal) s u t h) p q in moved unequal x y (number o.0 o.1) (number o.0 o.2) o.3 o.4 (flip_compared o.0 (o.1 == o.2) ∙ sym (compared o.0 (not (o.1 == o.2))))
values_shown less s u t x y h p q = let o = operands (work less) s u t x y (sorts_fit (work less) s u t h) p q in moved less x y (number o.0 o.1) (number o.0 o.2) o.3 o.4 refl
values_shown less_equal s u t x y h p q = let o = operands (work less_equal) s u t x y (sorts_fit (work less_equal) s u t h) p q in moved less_equal x y (number o.0 o.1) (number o.0 o.2) o.3 o.4 (flip_compared o.0 (nat_lt o.2 o.1) ∙ ap (λ b. shown (truth b)) (not_less o.1 o.2) ∙ sym (compared o.0 (nat_le o.1 o.2)))
values_shown greater s u t x y h p q = let o = operands (work greater) s u t x y (sorts_fit (work greater) s u t h) p q in moved greater x y (number o.0 o.1) (number o.0 o.2) o.3 o.4 refl
values_shown greater_equal s u t x y h p q = let o = operands (work greater_equal) s u t x y (sorts_fit (work greater_equal) s u t h) p q in moved greater_equal x y (number o.0 o.1) (number o.0 o.2) o.3 o.4 (flip_compared o.0 (nat_lt o.1 o.2) ∙ ap (λ b. shown (truth b)) (not_less o.2 o.1) ∙ sym (compared o.0 (nat_le o.2 o.1)))
values_shown and_ s u t x y h p q = let o = operands (work and_) s u t x y (sorts_fit (work and_) s u t h) p q in moved and_ x y (truth o.0) (truth o.1) o.2 o.3 (and_shown o.0 o.1)
values_shown or_ s u t x y h p q = let o = operands (work or_) s u t x y (sorts_fit (work or_) s u t h) p q in moved or_ x y (truth o.0) (truth o.1) o.2 o.3 (or_shown o.0 o.1)
values_shown implies s u t x y h p q = let o = operands (work implies) s u t x y (sorts_fit (work implies) s u t h) p q in moved implies x y (truth o.0) (truth o.1) o.2 o.3 (implies_shown o.0 o.1)

unary_form : (op : UnaryOp) (u t : Sort) (x : Value) → unary_sort op u ≡ Some t → IsOfSort u x → term_number (apply_unary flip (shown x)) ≡ term_number (apply_unary op x)
unary_form flip (bits_sort w) t (number v n) h p = refl
unary_form flip (bits_sort w) t (truth b) h p = absurd p
unary_form flip truth_sort t x h p = absurd (cc)
unary_form not_ (bits_sort w) t x h p = absurd (cc)
unary_form not_ truth_sort t (number v n) h p = absurd p
unary_form not_ truth_sort t (truth b) h p = flipped b

pub unary_shown : (F : Functions) (ins : Inputs) (op : UnaryOp) (u t : Sort) (a : Term) (x : Value) → unary_sort op u ≡ Some t → IsOfSort u x → term_value F ins a ≡ shown x → term_value F ins (term.not_ a) ≡ term_number (apply_unary op x)
unary_shown F ins op u t a x h p e = ap (λ v. term_number (apply_unary flip v)) e ∙ unary_form op u t x h p

pub binary_shown : (F : Functions) (ins : Inputs) (op : BinaryOp) (s u t : Sort) (a b : Term) (x y : Value) → binary_sort op s u ≡ Some t → IsOfSort s x → IsOfSort u y → term_value F ins a ≡ shown x → term_value F ins b ≡ shown y
    → term_value F ins (binary_term op a b) ≡ term_number (apply_binary op x y)
binary_shown F ins op s u t a b x y h p q e k = term_values F ins op a b ∙ (λ i. of_values op (e i) (k i)) ∙ values_shown op s u t x y h p q

slice_form : (u t : Sort) (high low : ℕ) (x : Value) → slice_sort u high low ≡ Some t → IsOfSort u x → term_number (apply_slice (shown x) high low) ≡ term_number (apply_slice x high low)
slice_form (bits_sort w) t high low (number v n) h p = refl
slice_form (bits_sort w) t high low (truth b) h p = absurd p
slice_form truth_sort t high low x h p = absurd (cc)

pub slice_shown : (F : Functions) (ins : Inputs) (u t : Sort) (high low : ℕ) (a : Term) (x : Value) → slice_sort u high low ≡ Some t → IsOfSort u x → term_value F ins a ≡ shown x → term_value F ins (term.slice a high low) ≡ term_number (apply_slice x high low)
slice_shown F ins u t high low a x h p e = ap (λ v. term_number (apply_slice v high low)) e ∙ slice_form u t high low x h p

chosen : (b : Bool) (x y : Value) → (if number_in (shown (truth b)) == 1 then shown x else shown y) ≡ shown (if b then x else y)
chosen true x y = refl
chosen false x y = refl

pub pick_shown : (F : Functions) (ins : Inputs) (c a b : Term) (z x y : Value) → IsOfSort truth_sort z → term_value F ins c ≡ shown z → term_value F ins a ≡ shown x → term_value F ins b ≡ shown y
    → term_value F ins (term.pick c a b) ≡ term_number (apply_pick z x y)
pick_shown F ins c a b (number w n) x y o e f g = absurd o
pick_shown F ins c a b (truth t) x y o e f g = (λ i. if number_in (e i) == 1 then f i else g i) ∙ chosen t x y

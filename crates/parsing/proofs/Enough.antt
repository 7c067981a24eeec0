-- A reading with enough depth: from some depth on it gives a tree and the index after it.
use Rattle.std.specs.Prelude.{◌≡◌, ℕ, zero, suc, ◌+◌, ◌≤◌, Bool, true, false, List, [], ◌∷◌, slice_get, Option, Some, codes, refl}
use Rattle.std.proofs.Common.{sym, ◌∙◌, subst, arith}
use Rattle.std.proofs.lemmas.Bool.{eq-eqb}
use Rattle.cocoon_num.specs.Tree.{Name}
use Rattle.cocoon_num.specs.Names.{same_name}
use Rattle.cocoon_num.specs.Tokens.{Kind, plain, mark}
use Rattle.cocoon_num.specs.Reads.{Is, Mark, Reserved, Named, Many, no_more, one_more, Commas, last, then_comma}
use Rattle.parsing.specs.PlainParser.{Outcome, good, after, is_mark, marked, reserved, named, numbered, many_from, some_from, commas_from}

pub record Enough {A : Type 0} (F : ℕ → Outcome A) (x : A) (j : ℕ) : Type 0 where
  pub depth : ℕ
  pub equal : (n : ℕ) → depth ≤ n → F n ≡ good x j

pub always : {A : Type 0} (x : A) (j : ℕ) → Enough (λ n. good x j) x j
always x j = record { depth = 0; equal = λ n h. refl }

-- one call deeper
pub later : {A : Type 0} {F : ℕ → Outcome A} {x : A} {j : ℕ} → Enough (λ n. F (suc n)) x j → Enough F x j
later {F = F} {x = x} {j = j} p = record { depth = suc p.depth; equal = from }
  where
    from : (n : ℕ) → suc p.depth ≤ n → F n ≡ good x j
    from zero h = absurd (omega arith)
    from (suc n) h = p.equal n (omega arith)

pub ends_at : {A : Type 0} {F : ℕ → Outcome A} {x : A} {j : ℕ} (k : ℕ) → j ≡ k → Enough F x j → Enough F x k
ends_at {F = F} {x = x} k e p = subst (λ z. Enough F x z) e p

-- a phrase, and what follows it
pub chain : {A B : Type 0} {F : ℕ → Outcome A} (K : ℕ → A → ℕ → Outcome B) {a : A} {j : ℕ} {x : B} {k : ℕ} → Enough F a j → Enough (λ n. K n a j) x k → Enough (λ n. after (F n) (K n)) x k
unfolding after
chain K p q = record { depth = p.depth + q.depth; equal = λ n h. rw (p.equal n (omega arith)) (q.equal n (omega arith)) }

-- ---- tokens

pub same : (x : List ℕ) → same_name x x ≡ true
same [] = refl
same (b ∷ bs) = rw (eq-eqb b b refl) (same bs)

pub marks : {A : Type 0} (ts : List Kind) (m : List ℕ) (i : ℕ) {F : ℕ → Outcome A} {x : A} {k : ℕ} → Mark ts i m → Enough F x k → Enough (λ n. marked ts m i (F n)) x k
unfolding marked
marks ts m i t p = record { depth = p.depth; equal = λ n h. rw (t, same m) (p.equal n h) }

pub reserved_words : {A : Type 0} (ts : List Kind) (m : List ℕ) (i : ℕ) {F : ℕ → Outcome A} {x : A} {k : ℕ} → Reserved ts i m → Enough F x k → Enough (λ n. reserved ts m i (F n)) x k
unfolding reserved
reserved_words ts m i t p = record { depth = p.depth; equal = λ n h. rw (t, same m) (p.equal n h) }

pub names : {A : Type 0} (ts : List Kind) (i : ℕ) (F : ℕ → Name → Outcome A) (y : Name) {x : A} {k : ℕ} → Named ts i y → Enough (λ n. F n y) x k → Enough (λ n. named ts i (F n)) x k
unfolding named
names ts i F y {x = x} {k = k} t p = record { depth = p.depth; equal = λ n h. rw t.0 (subst (λ at. F n (record { at = at; text = y.text }) ≡ good x k) t.1 (p.equal n h)) }

pub numbers : {A : Type 0} (ts : List Kind) (i : ℕ) (F : ℕ → ℕ → Outcome A) {number : ℕ} {x : A} {k : ℕ} → Is ts i (plain number) → Enough (λ n. F n number) x k → Enough (λ n. numbered ts i (F n)) x k
unfolding numbered
numbers ts i F t p = record { depth = p.depth; equal = λ n h. rw t (p.equal n h) }

-- ---- lists

-- phrases of which none begins with a token that stops, up to one that does
pub many_read : {A : Type 0} {P : ℕ → A → ℕ → Type 0} (one : ℕ → ℕ → Outcome A) (stops : ℕ → Bool) → ((i : ℕ) (x : A) (j : ℕ) → P i x j → Enough (λ n. one n i) x j) → ((i : ℕ) (x : A) (j : ℕ) → P i x j → stops i ≡ false) → {i : ℕ} {xs : List A} {k : ℕ} → Many P i xs k → stops k ≡ true → Enough (λ n. many_from one stops n i) xs k
many_read one stops each goes (no_more {i = i}) e = later (rw e (always [] i))
many_read one stops each goes (one_more {i = i} {j = j} {k = k} {x = x} {xs = xs} d ds) e = later (rw (goes i x j d) (chain _ (each i x j d) (chain _ (many_read one stops each goes ds e) (always _ _))))

pub some_read : {A : Type 0} {P : ℕ → A → ℕ → Type 0} (one : ℕ → ℕ → Outcome A) (stops : ℕ → Bool) → ((i : ℕ) (x : A) (j : ℕ) → P i x j → Enough (λ n. one n i) x j) → ((i : ℕ) (x : A) (j : ℕ) → P i x j → stops i ≡ false) → {i : ℕ} {xs : List A} {y : A} {ys : List A} {k : ℕ} → xs ≡ y ∷ ys → Many P i xs k → stops k ≡ true → Enough (λ n. some_from one stops n i) xs k
some_read one stops each goes q no_more e = cc
some_read one stops each goes q (one_more {i = i} {j = j} {k = k} {x = x} {xs = xs} d ds) e = chain _ (each i x j d) (chain _ (many_read one stops each goes ds e) (always _ _))

-- phrases of which each ends before a token that Ends allows, as a comma is
pub commas_read : {A : Type 0} {P : ℕ → A → ℕ → Type 0} (ts : List Kind) (one : ℕ → ℕ → Outcome A) (Ends : Option Kind → Type 0) → Ends (Some (mark (codes ","))) → ((i : ℕ) (x : A) (j : ℕ) → P i x j → Ends (slice_get ts j) → Enough (λ n. one n i) x j) → {i : ℕ} {xs : List A} {k : ℕ} → Commas ts P i xs k → Ends (slice_get ts k) → is_mark (codes ",") (slice_get ts k) ≡ false → Enough (λ n. commas_from ts one n i) xs k
commas_read ts one Ends c each (last {i = i} {j = j} {x = x} d) e f = later (chain _ (each i x j d e) (rw f (always _ _)))
commas_read ts one Ends c each (then_comma {i = i} {j = j} {k = k} {x = x} {xs = xs} d t ds) e f = later (chain _ (each i x j d (rw t c)) (rw t (chain _ (commas_read ts one Ends c each ds e f) (always _ _))))

pub same_tree : {A : Type 0} {F : ℕ → Outcome A} {x y : A} {j k : ℕ} → Enough F x j → Enough F y k → x ≡ y
same_tree {x = x} {y = y} {j = j} {k = k} p q = let e : good x j ≡ good y k = sym (p.equal (p.depth + q.depth) (omega arith)) ∙ q.equal (p.depth + q.depth) (omega arith) in cc

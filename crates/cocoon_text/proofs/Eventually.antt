-- What a reading gives from some depth on: how the reading of a phrase is that of its parts.
use Rattle.std.specs.Prelude.{◌≡◌, ℕ, zero, suc, ◌+◌, ◌<◌, ◌≤◌, Bool, true, false, List, [], ◌∷◌, ◌++◌, length, map, slice_get, Option, Some, None, Result, Ok, Err, if◌then◌else◌, codes, refl}
use Rattle.std.proofs.Common.{sym, ◌∙◌, ap, subst, add-one, arith}
use Rattle.std.proofs.lemmas.List.{append_assoc, append-nil, map-append}
use Rattle.std.proofs.lemmas.Option.{slice_get_within}
use Rattle.cocoon_num.specs.Tokens.{Kind}
use Rattle.parsing.specs.PlainParser.{Outcome, good, bad, spent, after, marked, is_mark, many_from, some_from, commas_from}
use Rattle.cocoon_text.specs.ExprPhrases.{then_mark}
use Rattle.cocoon_text.specs.Agrees.{Agrees, AgreesDeep, Moves, Advances, TokenAt, with_mark}
use Rattle.parsing.specs.Joins.{Makes, with_first}
use Rattle.parsing.specs.declared.stop.Stop.{Stop}
use Rattle.parsing.specs.declared.stop.Stop.TheVariants.{Unexpected, NoMemory}

-- from some depth on a reading gives this
pub record Eventually {A : Type 0} (F : ℕ → Outcome A) (r : Outcome A) : Type 0 where
  pub depth : ℕ
  pub equal : (n : ℕ) → depth ≤ n → F n ≡ r

-- the same at every depth
pub flat : {A : Type 0} {F : ℕ → Outcome A} {r : Outcome A} → ((n : ℕ) → F n ≡ r) → Eventually F r
flat f = record { depth = 0; equal = λ n h. f n }

-- by one reading of a part, or by two
pub by_one : {A C : Type 0} {F : ℕ → Outcome A} {a : Outcome A} {H : ℕ → Outcome C} {r : Outcome C} → Eventually F a → ((n : ℕ) → F n ≡ a → H n ≡ r) → Eventually H r
by_one p f = record { depth = p.depth; equal = λ n h. f n (p.equal n h) }

pub by_two : {A B C : Type 0} {F : ℕ → Outcome A} {a : Outcome A} {G : ℕ → Outcome B} {b : Outcome B} {H : ℕ → Outcome C} {r : Outcome C} → Eventually F a → Eventually G b → ((n : ℕ) → F n ≡ a → G n ≡ b → H n ≡ r) → Eventually H r
by_two p q f = record { depth = p.depth + q.depth; equal = λ n h. f n (p.equal n (omega arith)) (q.equal n (omega arith)) }

-- one call deeper
pub deeper : {A : Type 0} {F : ℕ → Outcome A} {r : Outcome A} → Eventually (λ n. F (suc n)) r → Eventually F r
deeper {F = F} {r = r} p = record { depth = suc p.depth; equal = from }
  where
    from : (n : ℕ) → suc p.depth ≤ n → F n ≡ r
    from zero h = absurd (omega arith)
    from (suc n) h = p.equal n (omega arith)

pub agrees_deeper : {A B : Type 0} {F : ℕ → Outcome B} {f : A → B} {result : Result (A × ℕ) Stop} → AgreesDeep (λ n. F (suc n)) f result → AgreesDeep F f result
agrees_deeper {F = F} {f = f} {result = result} p = record { depth = suc p.depth; agrees = from }
  where
    from : (n : ℕ) → suc p.depth ≤ n → Agrees (F n) f result
    from zero h = absurd (omega arith)
    from (suc n) h = p.agrees n (omega arith)

mark_within : (m : List ℕ) (ts : List Kind) (i : ℕ) → is_mark m (slice_get ts i) ≡ true → i < length ts
mark_within m ts i t = by (slice_get ts i) refl t
  where
    by : (k : Option Kind) → slice_get ts i ≡ k → is_mark m k ≡ true → i < length ts
    by None q t = absurd cc
    by (Some k) q t = slice_get_within ts i k q

-- what agrees with a phrase that was read
pub eventual_read : {A B : Type 0} {F : ℕ → Outcome B} (f : A → B) {x : A} {j : ℕ} → AgreesDeep F f (Ok (x, j)) → Eventually F (good (f x) j)
eventual_read f p = record { depth = p.depth; equal = p.agrees }

pub agrees_read : {A B : Type 0} {F : ℕ → Outcome B} (f : A → B) {x : A} {j : ℕ} → Eventually F (good (f x) j) → AgreesDeep F f (Ok (x, j))
agrees_read f p = record { depth = p.depth; agrees = p.equal }

-- one reading fails where another does
pub fails_as : {A B C D : Type 0} {F : ℕ → Outcome B} {G : ℕ → Outcome D} (f : A → B) (g : C → D) (stop : Stop) {result : Result (C × ℕ) Stop} → result ≡ Err stop → ((i : ℕ) → Eventually F (bad i) → Eventually G (bad i)) → AgreesDeep F f (Err stop) → AgreesDeep G g result
fails_as {F = F} {G = G} f g stop {result = result} e k p = subst (λ r. AgreesDeep G g r) (sym e) (by stop p)
  where
    by : (s : Stop) → AgreesDeep F f (Err s) → AgreesDeep G g (Err s)
    by (Unexpected i) t = let q = k i (record { depth = t.depth; equal = t.agrees }) in record { depth = q.depth; agrees = q.equal }
    by NoMemory t = record { depth = 0; agrees = λ n h. tt }

-- what follows a phrase is read where the phrase ends
pub first_reads : {A B : Type 0} {F : ℕ → Outcome A} (K : ℕ → A → ℕ → Outcome B) {x : A} {j : ℕ} {r : Outcome B} → Eventually F (good x j) → Eventually (λ n. K n x j) r → Eventually (λ n. after (F n) (K n)) r
unfolding after
first_reads K p q = by_two p q (λ n e f. ap (λ z. after z (K n)) e ∙ f)

pub first_fails : {A B : Type 0} {F : ℕ → Outcome A} (K : ℕ → A → ℕ → Outcome B) {i : ℕ} → Eventually F (bad i) → Eventually (λ n. after (F n) (K n)) (bad i)
unfolding after
first_fails K p = by_one p (λ n e. ap (λ z. after z (K n)) e)

-- a token that another stands for
pub token_stops : {A B : Type 0} (f : A → B) {r : Outcome B} (pos : ℕ) (b : Bool) (s : Stop) {result : Result (A × ℕ) Stop} → TokenAt pos b (Err s) → result ≡ Err s → (b ≡ false → r ≡ bad pos) → Agrees r f result
token_stops f {r = r} pos b s t e k = subst (Agrees r f) (sym e) (by s t)
  where
    by : (s : Stop) → TokenAt pos b (Err s) → Agrees r f (Err s)
    by (Unexpected i) t = k t.0 ∙ ap bad (sym t.1)
    by NoMemory t = tt

-- what agrees at every depth
pub at_once : {A B : Type 0} {r : Outcome B} {f : A → B} {result : Result (A × ℕ) Stop} → Agrees r f result → AgreesDeep (λ n. r) f result
at_once p = record { depth = 0; agrees = λ n h. p }

-- the same reading, put in other words
pub agrees_as : {A B : Type 0} {F G : ℕ → Outcome B} {f : A → B} {result : Result (A × ℕ) Stop} → ((n : ℕ) → G n ≡ F n) → AgreesDeep F f result → AgreesDeep G f result
agrees_as {f = f} {result = result} e p = record { depth = p.depth; agrees = λ n h. subst (λ r. Agrees r f result) (sym (e n)) (p.agrees n h) }

-- what agrees after a phrase that was read
pub after_read : {A B C : Type 0} {F : ℕ → Outcome A} (K : ℕ → A → ℕ → Outcome B) (g : C → B) {x : A} {j : ℕ} {result : Result (C × ℕ) Stop} → Eventually F (good x j) → AgreesDeep (λ n. K n x j) g result → AgreesDeep (λ n. after (F n) (K n)) g result
unfolding after
after_read K g {result = result} p q = record { depth = p.depth + q.depth; agrees = λ n h. subst (λ r. Agrees r g result) (sym (ap (λ z. after z (K n)) (p.equal n (omega arith)))) (q.agrees n (omega arith)) }

-- a phrase, and the mark after it
pub agrees_marked : {A B : Type 0} (ts : List Kind) (m : List ℕ) (F : ℕ → Outcome B) (f : A → B) (read result : Result (A × ℕ) Stop) → AgreesDeep F f read → result ≡ with_mark ts m read → AgreesDeep (λ n. then_mark ts m (F n)) f result
unfolding after marked
agrees_marked {A} ts m F f read result p e = subst (AgreesDeep (λ n. then_mark ts m (F n)) f) (sym e) (by read p)
  where
    by : (read : Result (A × ℕ) Stop) → AgreesDeep F f read → AgreesDeep (λ n. then_mark ts m (F n)) f (with_mark ts m read)
    by (Ok found) p = at (is_mark m (slice_get ts found.1)) refl
      where
        at : (b : Bool) → is_mark m (slice_get ts found.1) ≡ b → AgreesDeep (λ n. then_mark ts m (F n)) f (if b then Ok (found.0, found.1 + 1) else Err (Unexpected found.1))
        at true t = record { depth = p.depth; agrees = λ n h. rw (p.agrees n h, t) (ap (good (f found.0)) (sym (add-one found.1))) }
        at false t = record { depth = p.depth; agrees = λ n h. rw (p.agrees n h, t) refl }
    by (Err (Unexpected i)) p = record { depth = p.depth; agrees = λ n h. rw (p.agrees n h) refl }
    by (Err NoMemory) p = record { depth = 0; agrees = λ n h. tt }

-- the tree that is made of a phrase
pub agrees_made : {A B C D : Type 0} (F : ℕ → Outcome C) (f : A → C) (g : B → D) (make : C → D) (read : Result (A × ℕ) Stop) (result : Result (B × ℕ) Stop) → AgreesDeep F f read → Makes f g make read result → AgreesDeep (λ n. after (F n) (λ x j. good (make x) j)) g result
unfolding after
agrees_made F f g make (Ok found) (Ok made) p e = record { depth = p.depth; agrees = λ n h. rw (p.agrees n h, e.0, e.1) refl }
agrees_made F f g make (Ok found) (Err (Unexpected i)) p e = absurd cc
agrees_made F f g make (Ok found) (Err NoMemory) p e = record { depth = 0; agrees = λ n h. tt }
agrees_made {B = B} F f g make (Err stop) result p e = subst (AgreesDeep (λ n. after (F n) (λ x j. good (make x) j)) g) (sym e) (by stop p)
  where
    by : (s : Stop) → AgreesDeep F f (Err s) → AgreesDeep {A = B} (λ n. after (F n) (λ x j. good (make x) j)) g (Err s)
    by (Unexpected i) p = record { depth = p.depth; agrees = λ n h. rw (p.agrees n h) refl }
    by NoMemory p = record { depth = 0; agrees = λ n h. tt }

-- the mark is read with the phrase, or after it
pub then_same : {A B : Type 0} (ts : List Kind) (m : List ℕ) (r : Outcome A) (g : A → ℕ → Outcome B) → after r (λ x k. marked ts m k (g x (suc k))) ≡ after (then_mark ts m r) g
unfolding after marked
then_same ts m (bad i) g = refl
then_same ts m spent g = refl
then_same ts m (good x k) g = by (is_mark m (slice_get ts k))
  where
    by : (t : Bool) → (if t then g x (suc k) else bad k) ≡ after (if t then good x (suc k) else bad k) g
    by true = refl
    by false = refl

-- what was read before, and what is read after it
pub agrees_with_first : {A B C D E : Type 0} {F : ℕ → Outcome C} (f : A → C) (G : ℕ → ℕ → Outcome D) (g : B → D) (make : C → D → E) {a : A} {j : ℕ} (read : Result (B × ℕ) Stop) (result : Result ((A × B) × ℕ) Stop) → AgreesDeep F f (Ok (a, j)) → AgreesDeep (λ n. G n j) g read → result ≡ with_first a read →
    AgreesDeep (λ n. after (F n) (λ x j. after (G n j) (λ y k. good (make x y) k))) (λ p. make (f p.0) (g p.1)) result
agrees_with_first {A = A} {B = B} {F = F} f G g make {a = a} {j = j} read result p q e = after_read (λ n x j. after (G n j) (λ y k. good (make x y) k)) (λ p. make (f p.0) (g p.1)) (eventual_read f p) (subst (AgreesDeep (λ n. after (G n j) (λ y k. good (make (f a) y) k)) (λ p. make (f p.0) (g p.1))) (sym e) (by read q))
  where
    by : (read : Result (B × ℕ) Stop) → AgreesDeep (λ n. G n j) g read → AgreesDeep (λ n. after (G n j) (λ y k. good (make (f a) y) k)) (λ p. make (f p.0) (g p.1)) (with_first a read)
    by (Ok found) q = agrees_made (λ n. G n j) g (λ p. make (f p.0) (g p.1)) (make (f a)) (Ok found) (Ok ((a, found.0), found.1)) q (refl, refl)
    by (Err stop) q = agrees_made (λ n. G n j) g (λ p. make (f p.0) (g p.1)) (make (f a)) (Err stop) (Err stop) q refl

-- the same of two marks
pub two_marks : {A B : Type 0} (ts : List Kind) (m l : List ℕ) (r : Outcome A) (K : A → ℕ → Outcome B) → after r (λ x j. marked ts m j (marked ts l (j + 1) (K x (j + 2)))) ≡ after (then_mark ts l (then_mark ts m r)) K
unfolding after marked
two_marks ts m l (bad i) K = refl
two_marks ts m l spent K = refl
two_marks ts m l (good x j) K = by (is_mark m (slice_get ts j))
  where
    shift : marked ts l (j + 1) (K x (j + 2)) ≡ marked ts l (suc j) (K x (suc (suc j)))
    shift = ap (λ z. marked ts l z (K x (j + 2))) (add-one j) ∙ ap (λ z. marked ts l (suc j) (K x z)) (let e : j + 2 ≡ suc (suc j) = omega arith in e)

    last : (t : Bool) → (if t then K x (suc (suc j)) else bad (suc j)) ≡ after (if t then good x (suc (suc j)) else bad (suc j)) K
    last true = refl
    last false = refl

    by : (t : Bool) → (if t then marked ts l (j + 1) (K x (j + 2)) else bad j) ≡ after (then_mark ts l (if t then good x (suc j) else bad j)) K
    by true = shift ∙ last (is_mark l (slice_get ts (suc j)))
    by false = refl

-- a pair is made of its second part
pub with_first_makes : {A B D E : Type 0} (g : B → D) (f : A × B → E) (make : D → E) (a : A) (read : Result (B × ℕ) Stop) (result : Result ((A × B) × ℕ) Stop) → ((y : B) → f (a, y) ≡ make (g y)) → result ≡ with_first a read → Makes g f make read result
with_first_makes {B = B} g f make a read result q e = subst (Makes g f make read) (sym e) (by read)
  where
    by : (read : Result (B × ℕ) Stop) → Makes g f make read (with_first a read)
    by (Ok found) = (q found.0, refl)
    by (Err stop) = refl

-- ---- where they end

pub moves_marked : {A : Type 0} (ts : List Kind) (m : List ℕ) (pos from : ℕ) (read result : Result (A × ℕ) Stop) → pos ≤ from → Moves from (length ts) read → result ≡ with_mark ts m read → Moves pos (length ts) result
moves_marked {A} ts m pos from read result l p e = subst (Moves pos (length ts)) (sym e) (by read p)
  where
    by : (read : Result (A × ℕ) Stop) → Moves from (length ts) read → Moves pos (length ts) (with_mark ts m read)
    by (Ok found) p = at (is_mark m (slice_get ts found.1)) refl
      where
        at : (b : Bool) → is_mark m (slice_get ts found.1) ≡ b → Moves {A = A} pos (length ts) (if b then Ok (found.0, found.1 + 1) else Err (Unexpected found.1))
        at true t = let w = mark_within m ts found.1 t in (omega (arith, l, p.0), omega (arith, w))
        at false t = tt
    by (Err stop) p = tt

pub advances_marked : {A : Type 0} (ts : List Kind) (m : List ℕ) (pos from : ℕ) (read result : Result (A × ℕ) Stop) → pos ≤ from → Advances from (length ts) read → result ≡ with_mark ts m read → Moves pos (length ts) result
advances_marked {A} ts m pos from read result l p e = subst (Moves pos (length ts)) (sym e) (by read p)
  where
    by : (read : Result (A × ℕ) Stop) → Advances from (length ts) read → Moves pos (length ts) (with_mark ts m read)
    by (Ok found) p = at (is_mark m (slice_get ts found.1)) refl
      where
        at : (b : Bool) → is_mark m (slice_get ts found.1) ≡ b → Moves {A = A} pos (length ts) (if b then Ok (found.0, found.1 + 1) else Err (Unexpected found.1))
        at true t = let w = mark_within m ts found.1 t in (omega (arith, l, p.0), omega (arith, w))
        at false t = tt
    by (Err stop) p = tt

pub moves_made : {A B C D : Type 0} (f : A → C) (g : B → D) (make : C → D) (pos from end : ℕ) (read : Result (A × ℕ) Stop) (result : Result (B × ℕ) Stop) → pos ≤ from → Moves from end read → Makes f g make read result → Moves pos end result
moves_made f g make pos from end (Ok found) (Ok made) l p e = (omega (arith, l, p.0, e.1), omega (arith, p.1, e.1))
moves_made f g make pos from end (Ok found) (Err stop) l p e = tt
moves_made {B = B} f g make pos from end (Err stop) result l p e = subst (Moves pos end) (sym e) (let t : Moves {A = B} pos end (Err stop) = tt in t)

pub advances_made : {A B C D : Type 0} (f : A → C) (g : B → D) (make : C → D) (pos from end : ℕ) (read : Result (A × ℕ) Stop) (result : Result (B × ℕ) Stop) → pos < from → Advances from end read → Makes f g make read result → Moves pos end result
advances_made f g make pos from end (Ok found) (Ok made) l p e = (omega (arith, l, p.0, e.1), omega (arith, p.1, e.1))
advances_made f g make pos from end (Ok found) (Err stop) l p e = tt
advances_made {B = B} f g make pos from end (Err stop) result l p e = subst (Moves pos end) (sym e) (let t : Moves {A = B} pos end (Err stop) = tt in t)

pub moves_with_first : {A B : Type 0} (x : A) (pos from end : ℕ) (read : Result (B × ℕ) Stop) (result : Result ((A × B) × ℕ) Stop) → pos ≤ from → Moves from end read → result ≡ with_first x read → Moves pos end result
moves_with_first {A} {B} x pos from end read result l p e = subst (Moves pos end) (sym e) (by read p)
  where
    by : (read : Result (B × ℕ) Stop) → Moves from end read → Moves pos end (with_first x read)
    by (Ok found) p = (omega (arith, l, p.0), p.1)
    by (Err stop) p = tt

pub once : {A B : Type 0} {r : Outcome B} {f : A → B} {result : Result (A × ℕ) Stop} → AgreesDeep (λ n. r) f result → Agrees r f result
once p = p.agrees p.depth (omega arith)

-- ---- lists

-- what a list that is read further on is with these before it
abbrev pub prepend : {A : Type 0} → List A → Outcome (List A) → Outcome (List A)
prepend xs (good ys k) = good (xs ++ ys) k
prepend xs (bad i) = bad i
prepend xs spent = spent

-- these were read so far of F, and G reads the others
pub record SoFar {A : Type 0} (F G : ℕ → Outcome (List A)) (xs : List A) : Type 0 where
  pub rest : (r : Outcome (List A)) → Eventually G r → Eventually F (prepend xs r)

prepend_none : {A : Type 0} (r : Outcome (List A)) → prepend [] r ≡ r
prepend_none (good ys k) = refl
prepend_none (bad i) = refl
prepend_none spent = refl

prepend_more : {A : Type 0} (xs ys : List A) (r : Outcome (List A)) → prepend xs (prepend ys r) ≡ prepend (xs ++ ys) r
prepend_more xs ys (good zs k) = ap (λ z. good z k) (sym (append_assoc xs ys zs))
prepend_more xs ys (bad i) = refl
prepend_more xs ys spent = refl

pub none_yet : {A : Type 0} (F : ℕ → Outcome (List A)) → SoFar F F []
none_yet F = record { rest = λ r g. subst (λ z. Eventually F z) (sym (prepend_none r)) g }

pub one_more_read : {A : Type 0} {F G H : ℕ → Outcome (List A)} {xs : List A} {x : A} → SoFar F G xs → ((r : Outcome (List A)) → Eventually H r → Eventually G (prepend (x ∷ []) r)) → SoFar F H (xs ++ x ∷ [])
one_more_read {F = F} {xs = xs} {x = x} s f = record { rest = λ r g. subst (λ z. Eventually F z) (prepend_more xs (x ∷ []) r) (s.rest (prepend (x ∷ []) r) (f r g)) }

-- no other is there
pub all_read : {A : Type 0} {F G : ℕ → Outcome (List A)} {xs : List A} {k : ℕ} → SoFar F G xs → Eventually G (good [] k) → Eventually F (good xs k)
all_read {F = F} {xs = xs} {k = k} s g = subst (λ z. Eventually F (good z k)) (append-nil xs) (s.rest (good [] k) g)

-- the others are not read
pub other_fails : {A : Type 0} {F G : ℕ → Outcome (List A)} {xs : List A} {i : ℕ} → SoFar F G xs → Eventually G (bad i) → Eventually F (bad i)
other_fails {i = i} s g = s.rest (bad i) g

-- ---- lists with commas

-- what follows a phrase of such a list
abbrev pub tail_from : {A : Type 0} → List Kind → (ℕ → ℕ → Outcome A) → ℕ → ℕ → Outcome (List A)
tail_from ts one n j = if is_mark (codes ",") (slice_get ts j) then commas_from ts one n (suc j) else good [] j

cons_prepend : {A : Type 0} (x : A) (r : Outcome (List A)) → after r (λ xs k. good (x ∷ xs) k) ≡ prepend (x ∷ []) r
unfolding after
cons_prepend x (good ys k) = refl
cons_prepend x (bad i) = refl
cons_prepend x spent = refl

comma_step : {A : Type 0} (ts : List Kind) (one : ℕ → ℕ → Outcome A) (n : ℕ) (x : A) (j : ℕ) →
    (if is_mark (codes ",") (slice_get ts j) then after (commas_from ts one n (suc j)) (λ xs k. good (x ∷ xs) k) else good (x ∷ []) j) ≡ prepend (x ∷ []) (tail_from ts one n j)
comma_step {A} ts one n x j = by (is_mark (codes ",") (slice_get ts j))
  where
    by : (b : Bool) → (if b then after (commas_from ts one n (suc j)) (λ xs k. good (x ∷ xs) k) else good (x ∷ []) j) ≡ prepend (x ∷ []) (if b then commas_from ts one n (suc j) else good [] j)
    by true = cons_prepend x (commas_from ts one n (suc j))
    by false = refl

pub comma_phrase : {A : Type 0} (ts : List Kind) (one : ℕ → ℕ → Outcome A) (i : ℕ) {x : A} {j : ℕ} → Eventually (λ n. one n i) (good x j) → (r : Outcome (List A)) → Eventually (λ n. tail_from ts one n j) r → Eventually (λ n. commas_from ts one n i) (prepend (x ∷ []) r)
unfolding after
comma_phrase ts one i {x = x} {j = j} p r g = deeper (by_two p g (λ n e f. rw e (comma_step ts one n x j ∙ ap (prepend (x ∷ [])) f)))

pub comma_fails : {A : Type 0} (ts : List Kind) (one : ℕ → ℕ → Outcome A) (i : ℕ) {k : ℕ} → Eventually (λ n. one n i) (bad k) → Eventually (λ n. commas_from ts one n i) (bad k)
unfolding after
comma_fails ts one i p = deeper (by_one p (λ n e. rw e refl))

pub commas_go_on : {A : Type 0} (ts : List Kind) (one : ℕ → ℕ → Outcome A) (j k : ℕ) {r : Outcome (List A)} → k ≡ suc j → is_mark (codes ",") (slice_get ts j) ≡ true → Eventually (λ n. commas_from ts one n k) r → Eventually (λ n. tail_from ts one n j) r
commas_go_on ts one j k {r = r} q e g = by_one (subst (λ z. Eventually (λ n. commas_from ts one n z) r) q g) (λ n f. rw e f)

pub commas_stop : {A : Type 0} (ts : List Kind) (one : ℕ → ℕ → Outcome A) (j : ℕ) → is_mark (codes ",") (slice_get ts j) ≡ false → Eventually (λ n. tail_from ts one n j) (good [] j)
commas_stop ts one j e = flat (λ n. rw e refl)

-- ---- lists up to a token

pub many_phrase : {A : Type 0} (one : ℕ → ℕ → Outcome A) (stops : ℕ → Bool) (i : ℕ) {x : A} {j : ℕ} → stops i ≡ false → Eventually (λ n. one n i) (good x j) → (r : Outcome (List A)) → Eventually (λ n. many_from one stops n j) r → Eventually (λ n. many_from one stops n i) (prepend (x ∷ []) r)
unfolding after
many_phrase one stops i {x = x} {j = j} q p r g = deeper (by_two p g (λ n e f. rw (q, e) (cons_prepend x (many_from one stops n j) ∙ ap (prepend (x ∷ [])) f)))

pub many_fail : {A : Type 0} (one : ℕ → ℕ → Outcome A) (stops : ℕ → Bool) (i : ℕ) {k : ℕ} → stops i ≡ false → Eventually (λ n. one n i) (bad k) → Eventually (λ n. many_from one stops n i) (bad k)
unfolding after
many_fail one stops i q p = deeper (by_one p (λ n e. rw (q, e) refl))

pub many_stop : {A : Type 0} (one : ℕ → ℕ → Outcome A) (stops : ℕ → Bool) (i : ℕ) → stops i ≡ true → Eventually (λ n. many_from one stops n i) (good [] i)
many_stop one stops i q = deeper (flat (λ n. rw q refl))

-- one phrase at least
pub some_phrase : {A : Type 0} (one : ℕ → ℕ → Outcome A) (stops : ℕ → Bool) (i : ℕ) {x : A} {j : ℕ} → Eventually (λ n. one n i) (good x j) → (r : Outcome (List A)) → Eventually (λ n. many_from one stops n j) r → Eventually (λ n. some_from one stops n i) (prepend (x ∷ []) r)
unfolding after
some_phrase one stops i {x = x} {j = j} p r g = by_two p g (λ n e f. rw e (cons_prepend x (many_from one stops n j) ∙ ap (prepend (x ∷ [])) f))

pub some_fail : {A : Type 0} (one : ℕ → ℕ → Outcome A) (stops : ℕ → Bool) (i : ℕ) {k : ℕ} → Eventually (λ n. one n i) (bad k) → Eventually (λ n. some_from one stops n i) (bad k)
unfolding after
some_fail one stops i p = by_one p (λ n e. rw e refl)

-- ---- lists of the code

pub none_yet_of : {A T : Type 0} (f : T → A) (F : ℕ → Outcome (List A)) {ys : List T} → ys ≡ [] → SoFar F F (map f ys)
none_yet_of f F e = subst (λ zs. SoFar F F (map f zs)) (sym e) (none_yet F)

-- the first phrase of a list with commas was read
pub commas_begin : {A T : Type 0} (ts : List Kind) (one : ℕ → ℕ → Outcome A) (f : T → A) (i : ℕ) {x : T} {j : ℕ} {ys : List T} → Eventually (λ n. one n i) (good (f x) j) → ys ≡ x ∷ [] → SoFar (λ n. commas_from ts one n i) (λ n. tail_from ts one n j) (map f ys)
commas_begin ts one f i {j = j} g e = subst (λ zs. SoFar (λ n. commas_from ts one n i) (λ n. tail_from ts one n j) (map f zs)) (sym e) (one_more_read (none_yet (λ n. commas_from ts one n i)) (comma_phrase ts one i g))

-- a comma and one more
pub commas_more : {A T : Type 0} (ts : List Kind) (one : ℕ → ℕ → Outcome A) (f : T → A) (j k : ℕ) {F : ℕ → Outcome (List A)} (xs : List T) {ys : List T} {x : T} {l : ℕ} → SoFar F (λ n. tail_from ts one n j) (map f xs) → is_mark (codes ",") (slice_get ts j) ≡ true → k ≡ suc j → Eventually (λ n. one n k) (good (f x) l) → ys ≡ xs ++ x ∷ [] → SoFar F (λ n. tail_from ts one n l) (map f ys)
commas_more ts one f j k {F = F} xs {x = x} {l = l} s t q g e = subst (λ zs. SoFar F (λ n. tail_from ts one n l) zs) (sym (ap (map f) e ∙ map-append f xs (x ∷ []))) (one_more_read s (λ r h. commas_go_on ts one j k q t (comma_phrase ts one k g r h)))

-- a comma, and then a phrase that fails
pub commas_broken : {A : Type 0} (ts : List Kind) (one : ℕ → ℕ → Outcome A) (j k : ℕ) {F : ℕ → Outcome (List A)} {xs : List A} → SoFar F (λ n. tail_from ts one n j) xs → is_mark (codes ",") (slice_get ts j) ≡ true → k ≡ suc j → (i : ℕ) → Eventually (λ n. one n k) (bad i) → Eventually F (bad i)
commas_broken ts one j k s t q i g = other_fails s (commas_go_on ts one j k q t (comma_fails ts one k g))

-- one more of a list up to a token
pub many_more : {A T : Type 0} (one : ℕ → ℕ → Outcome A) (stops : ℕ → Bool) (f : T → A) (j : ℕ) {F : ℕ → Outcome (List A)} (xs : List T) {ys : List T} {x : T} {l : ℕ} → SoFar F (λ n. many_from one stops n j) (map f xs) → stops j ≡ false → Eventually (λ n. one n j) (good (f x) l) → ys ≡ xs ++ x ∷ [] → SoFar F (λ n. many_from one stops n l) (map f ys)
many_more one stops f j {F = F} xs {x = x} {l = l} s t g e = subst (λ zs. SoFar F (λ n. many_from one stops n l) zs) (sym (ap (map f) e ∙ map-append f xs (x ∷ []))) (one_more_read s (many_phrase one stops j t g))

pub many_broken : {A : Type 0} (one : ℕ → ℕ → Outcome A) (stops : ℕ → Bool) (j : ℕ) {F : ℕ → Outcome (List A)} {xs : List A} → SoFar F (λ n. many_from one stops n j) xs → stops j ≡ false → (i : ℕ) → Eventually (λ n. one n j) (bad i) → Eventually F (bad i)
many_broken one stops j s t i g = other_fails s (many_fail one stops j t g)

-- the first of a list of one at least
pub some_begin : {A T : Type 0} (one : ℕ → ℕ → Outcome A) (stops : ℕ → Bool) (f : T → A) (i : ℕ) {x : T} {j : ℕ} {ys : List T} → Eventually (λ n. one n i) (good (f x) j) → ys ≡ x ∷ [] → SoFar (λ n. some_from one stops n i) (λ n. many_from one stops n j) (map f ys)
some_begin one stops f i {j = j} g e = subst (λ zs. SoFar (λ n. some_from one stops n i) (λ n. many_from one stops n j) (map f zs)) (sym e) (one_more_read (none_yet (λ n. some_from one stops n i)) (some_phrase one stops i g))

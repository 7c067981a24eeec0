-- Gates define their variables: whatever the earlier variables are, the clauses of a part can be made to hold.
use Rattle.std.proofs.Common.{◌≡◌, ◌≢◌, ℕ, ◌+◌, ◌-◌, ◌<◌, ◌≤◌, zero, suc, ◌%◌, ◌/◌, ◌==◌, ℤ, pos, negsuc, Bool, true, false, not, ◌&&◌, ◌||◌, List, [], ◌∷◌, ◌++◌, map, take, drop, refl, ap, sym, ◌∙◌, subst, arith}
use Rattle.std.specs.Prelude.{if◌then◌else◌}
use Rattle.std.specs.Bool.{beq}
use Rattle.std.specs.List.{AllByRecursion, list_any}
use Rattle.std.proofs.lemmas.List.Folds.{list_all-append}
use Rattle.std.proofs.lemmas.Bool.{cond-true, cond-false, and_parts, and_from, eq-eqb, eqb-true, false_from_ne_true}
use Rattle.bv_terms.specs.declared.node.TermOp.{TermOp}
use Rattle.bv_terms.specs.declared.node.TermOp.TheVariants.{Add, Sub, And, Or, Xor, Concat, Equal, Less}
use Rattle.bv_terms.specs.TermTrees.{Term, constant, input, apply, not_, binary, slice, pick}
use Rattle.cnf_core.specs.Literals.{opposite, variable}
use Rattle.cnf_core.proofs.LiteralFacts.{variable-opposite}
use Rattle.bit_blast.specs.Gates.{Circuit, plain, before, and_gate, or_gate, xor_gate, same_gate, choice_gate, carry_gate, bitwise, sums, equals, equals_from, less_from, fresh, constant_bits, true_bit, false_bit}
use Rattle.bit_blast.specs.Clauses.{first_bit, joined, circuit_of}
use Rattle.bit_blast.specs.Goals.{IsUnapplied}
use Rattle.bit_blast.specs.Meanings.{IsValuation, all_hold}
use Rattle.bit_blast.proofs.GateMeanings.{and-means, or-means, xor-means, same-means, choice-means, carry-means}
use Rattle.bit_blast.specs.Orders.{OfParts}

-- ---- lists

pub every : {A : Type 0} {P Q : A → Type 0} → ((x : A) → P x → Q x) → (xs : List A) → AllByRecursion P xs → AllByRecursion Q xs
every f [] h = tt
every f (x ∷ xs) h = (f x h.0, every f xs h.1)

pub every-append : {A : Type 0} (P : A → Type 0) (xs ys : List A) → AllByRecursion P xs → AllByRecursion P ys → AllByRecursion P (xs ++ ys)
every-append P [] ys h k = k
every-append P (x ∷ xs) ys h k = (h.0, every-append P xs ys h.1 k)

every-take : {A : Type 0} (P : A → Type 0) (n : ℕ) (xs : List A) → AllByRecursion P xs → AllByRecursion P (take n xs)
every-take P zero [] h = tt
every-take P zero (x ∷ xs) h = tt
every-take P (suc n) [] h = tt
every-take P (suc n) (x ∷ xs) h = (h.0, every-take P n xs h.1)

every-drop : {A : Type 0} (P : A → Type 0) (n : ℕ) (xs : List A) → AllByRecursion P xs → AllByRecursion P (drop n xs)
every-drop P zero [] h = tt
every-drop P zero (x ∷ xs) h = h
every-drop P (suc n) [] h = tt
every-drop P (suc n) (x ∷ xs) h = every-drop P n xs h.1

-- ---- literals of variables below n

abbrev pub Named : ℕ → ℤ → Type 0
Named n l = (1 ≤ variable l) × (variable l < n)

abbrev pub AllNamed : ℕ → List ℤ → Type 0
AllNamed n ls = AllByRecursion (Named n) ls

abbrev pub ClausesNamed : ℕ → List (List ℤ) → Type 0
ClausesNamed n cs = AllByRecursion (AllNamed n) cs

pub opp : (n : ℕ) (l : ℤ) → Named n l → Named n (opposite l)
opp n l h = (subst (λ k. 1 ≤ k) (sym (variable-opposite l)) h.0, subst (λ k. k < n) (sym (variable-opposite l)) h.1)

pub named-more : (n m : ℕ) → n ≤ m → (l : ℤ) → Named n l → Named m l
named-more n m e l h = (h.0, (let q = h.1 in omega arith))

pub all-more : (n m : ℕ) → n ≤ m → (ls : List ℤ) → AllNamed n ls → AllNamed m ls
all-more n m e ls h = every (named-more n m e) ls h

pub clauses-more : (n m : ℕ) → n ≤ m → (cs : List (List ℤ)) → ClausesNamed n cs → ClausesNamed m cs
clauses-more n m e cs h = every (all-more n m e) cs h

pub all-opposite : (n : ℕ) (ls : List ℤ) → AllNamed n ls → AllNamed n (map opposite ls)
all-opposite n [] h = tt
all-opposite n (l ∷ ls) h = (opp n l h.0, all-opposite n ls h.1)

pub not-zero : (n : ℕ) (l : ℤ) → Named n l → l ≢ pos 0
not-zero n l h e = (let z : variable l ≡ 0 = ap variable e in let q = h.0 in absurd (omega arith))

new-named : (n m : ℕ) → 1 ≤ n → n < m → Named m (pos n)
new-named n m h k = (h, k)

-- ---- values of variables, and of literals

abbrev pub lit : (ℕ → Bool) → ℤ → Bool
lit val (pos n) = val n
lit val (negsuc n) = not (val (suc n))

not-not : (b : Bool) → b ≡ not (not b)
not-not true = refl
not-not false = refl

pub lit-valuation : (val : ℕ → Bool) → IsValuation (lit val)
lit-valuation val (pos zero) h = absurd (h refl)
lit-valuation val (pos (suc n)) h = refl
lit-valuation val (negsuc n) h = not-not (val (suc n))

abbrev pub Agree : ℕ → (ℕ → Bool) → (ℕ → Bool) → Type 0
Agree n val new = (k : ℕ) → k < n → new k ≡ val k

pub lit-same : (n : ℕ) (val new : ℕ → Bool) → Agree n val new → (l : ℤ) → Named n l → lit new l ≡ lit val l
lit-same n val new h (pos k) l = h k l.1
lit-same n val new h (negsuc k) l = ap not (h (suc k) l.1)

-- ---- clauses over these literals

any-same : (n : ℕ) (v w : ℤ → Bool) → ((l : ℤ) → Named n l → v l ≡ w l) → (c : List ℤ) → AllNamed n c → list_any v c ≡ list_any w c
any-same n v w f [] h = refl
any-same n v w f (l ∷ ls) h = ap (λ b. b || list_any v ls) (f l h.0) ∙ ap (λ b. w l || b) (any-same n v w f ls h.1)

pub holds-same : (n : ℕ) (v w : ℤ → Bool) → ((l : ℤ) → Named n l → v l ≡ w l) → (cs : List (List ℤ)) → ClausesNamed n cs → all_hold v cs ≡ all_hold w cs
holds-same n v w f [] h = refl
holds-same n v w f (c ∷ cs) h = ap (λ b. b && all_hold v cs) (any-same n v w f c h.0) ∙ ap (λ b. list_any w c && b) (holds-same n v w f cs h.1)

pub hold-both : (v : ℤ → Bool) (cs ds : List (List ℤ)) → all_hold v cs ≡ true → all_hold v ds ≡ true → all_hold v (cs ++ ds) ≡ true
hold-both v cs ds h k = list_all-append (λ c. list_any v c) cs ds ∙ and_from (all_hold v cs) (all_hold v ds) h k

pub hold-parts : (v : ℤ → Bool) (cs ds : List (List ℤ)) → all_hold v (cs ++ ds) ≡ true → (all_hold v cs ≡ true) × (all_hold v ds ≡ true)
hold-parts v cs ds h = and_parts (all_hold v cs) (all_hold v ds) (sym (list_all-append (λ c. list_any v c) cs ds) ∙ h)

-- ---- parts whose clauses can be made to hold, whatever the variables below n are

pub record Extended (n : ℕ) (p : Circuit) (val : ℕ → Bool) : Type 0 where
  pub new : ℕ → Bool
  pub same : Agree n val new
  pub holds : all_hold (lit new) p.clauses ≡ true

pub record Defines (n : ℕ) (p : Circuit) : Type 0 where
  pub grows : n ≤ p.next
  pub bits : AllNamed p.next p.bits
  pub clauses : ClausesNamed p.next p.clauses
  pub extend : (val : ℕ → Bool) → Extended n p val

abbrev circuit : List ℤ → List (List ℤ) → ℕ → Circuit
circuit bits clauses next = record { bits = bits; clauses = clauses; next = next }

before-defines : (n m : ℕ) (bits : List ℤ) (clauses : List (List ℤ)) (rest : Circuit) → Defines n (circuit bits clauses m) → Defines m rest → Defines n (before bits clauses rest)
before-defines n m bits clauses rest h k = record {
  grows = (let a = h.grows in let b = k.grows in omega arith);
  bits = every-append (Named rest.next) bits rest.bits (all-more m rest.next k.grows bits h.bits) k.bits;
  clauses = every-append (AllNamed rest.next) clauses rest.clauses (clauses-more m rest.next k.grows clauses h.clauses) k.clauses;
  extend = λ val.
      let e = h.extend val in
      let f = k.extend e.new in
      record {
        new = f.new;
        same = λ i l. f.same i (let g = h.grows in omega arith) ∙ e.same i l;
        holds = hold-both (lit f.new) clauses rest.clauses
            (holds-same m (lit f.new) (lit e.new) (lit-same m e.new f.new f.same) clauses h.clauses ∙ e.holds) f.holds;
      };
}

pub plain-defines : (n : ℕ) (bits : List ℤ) → AllNamed n bits → Defines n (plain bits n)
plain-defines n bits h = record { grows = omega arith; bits = h; clauses = tt; extend = λ val. record { new = val; same = λ k l. refl; holds = refl } }

-- ---- gates

pub put : (ℕ → Bool) → ℕ → Bool → ℕ → Bool
put val g b k = if k == g then b else val k

pub put-here : (val : ℕ → Bool) (g : ℕ) (b : Bool) → put val g b g ≡ b
unfolding put
put-here val g b = cond-true (g == g) b (val g) (eq-eqb g g refl)

pub put-other : (val : ℕ → Bool) (g : ℕ) (b : Bool) (k : ℕ) → (k ≡ g → ⊥) → put val g b k ≡ val k
unfolding put
put-other val g b k n = cond-false (k == g) b (val k) (false_from_ne_true (k == g) (λ e. n (eqb-true k g e)))

beq-itself : (b : Bool) → beq b b ≡ true
beq-itself true = refl
beq-itself false = refl

gate-defines : (n m : ℕ) (bits : List ℤ) (clauses : List (List ℤ)) (h : (ℤ → Bool) → Bool) → n < m → AllNamed m bits → ClausesNamed m clauses
    → ((v : ℤ → Bool) → IsValuation v → all_hold v clauses ≡ beq (v (pos n)) (h v))
    → ((v w : ℤ → Bool) → ((l : ℤ) → Named n l → v l ≡ w l) → h v ≡ h w) → Defines n (circuit bits clauses m)
gate-defines n m bits clauses h l bs cs means local = record {
  grows = omega arith;
  bits = bs;
  clauses = cs;
  extend = λ val.
      let new = put val n (h (lit val)) in
      let same : Agree n val new = (λ k j. put-other val n (h (lit val)) k (λ e. absurd (omega (arith, e, j)))) in
      record {
        new = new;
        same = same;
        holds = means (lit new) (lit-valuation new)
            ∙ ap (λ b. beq b (h (lit new))) (put-here val n (h (lit val)))
            ∙ ap (beq (h (lit val))) (local (lit new) (lit val) (lit-same n val new same)) ∙ beq-itself (h (lit val));
      };
}

module _ (n m : ℕ) (bits : List ℤ) (some : 1 ≤ n) (less : n < m) (named : AllNamed m bits) where
  up : (l : ℤ) → Named n l → Named m l
  up l h = named-more n m (omega (arith, less)) l h

  here : Named m (pos n)
  here = (some, less)

  off : (l : ℤ) → Named n l → Named m (opposite l)
  off l h = opp m l (up l h)

  and-defines : (a b : ℤ) → Named n a → Named n b → Defines n (circuit bits (and_gate (pos n) a b) m)
  and-defines a b ha hb = gate-defines n m bits (and_gate (pos n) a b) (λ v. v a && v b) less named
      ((opp m (pos n) here, (up a ha, tt)), ((opp m (pos n) here, (up b hb, tt)), ((here, (off a ha, (off b hb, tt))), tt)))
      (λ v h. and-means v h (pos n) a b (not-zero m (pos n) here) (not-zero n a ha) (not-zero n b hb))
      (λ v w f. rw (f a ha, f b hb) refl)

  or-defines : (a b : ℤ) → Named n a → Named n b → Defines n (circuit bits (or_gate (pos n) a b) m)
  or-defines a b ha hb = gate-defines n m bits (or_gate (pos n) a b) (λ v. v a || v b) less named
      ((here, (off a ha, tt)), ((here, (off b hb, tt)), ((opp m (pos n) here, (up a ha, (up b hb, tt))), tt)))
      (λ v h. or-means v h (pos n) a b (not-zero m (pos n) here) (not-zero n a ha) (not-zero n b hb))
      (λ v w f. rw (f a ha, f b hb) refl)

  xor-defines : (a b : ℤ) → Named n a → Named n b → Defines n (circuit bits (xor_gate (pos n) a b) m)
  xor-defines a b ha hb = gate-defines n m bits (xor_gate (pos n) a b) (λ v. not (beq (v a) (v b))) less named (
    (opp m (pos n) here, (up a ha, (up b hb, tt))),
    (
      (opp m (pos n) here, (off a ha, (off b hb, tt))),
      ((here, (off a ha, (up b hb, tt))), ((here, (up a ha, (off b hb, tt))), tt)),
    ),
  )
      (λ v h. xor-means v h (pos n) a b (not-zero m (pos n) here) (not-zero n a ha) (not-zero n b hb))
      (λ v w f. rw (f a ha, f b hb) refl)

  same-defines : (a b : ℤ) → Named n a → Named n b → Defines n (circuit bits (same_gate (pos n) a b) m)
  same-defines a b ha hb = gate-defines n m bits (same_gate (pos n) a b) (λ v. beq (v a) (v b)) less named (
    (here, (up a ha, (up b hb, tt))),
    (
      (here, (off a ha, (off b hb, tt))),
      ((opp m (pos n) here, (off a ha, (up b hb, tt))), ((opp m (pos n) here, (up a ha, (off b hb, tt))), tt)),
    ),
  )
      (λ v h. same-means v h (pos n) a b (not-zero m (pos n) here) (not-zero n a ha) (not-zero n b hb))
      (λ v w f. rw (f a ha, f b hb) refl)

  choice-defines : (c a b : ℤ) → Named n c → Named n a → Named n b → Defines n (circuit bits (choice_gate c (pos n) a b) m)
  choice-defines c a b hc ha hb = gate-defines n m bits (choice_gate c (pos n) a b) (λ v. if v c then v a else v b) less named (
    (off c hc, (off a ha, (here, tt))),
    (
      (off c hc, (up a ha, (opp m (pos n) here, tt))),
      (
        (up c hc, (off b hb, (here, tt))),
        (
          (up c hc, (up b hb, (opp m (pos n) here, tt))),
          ((off a ha, (off b hb, (here, tt))), ((up a ha, (up b hb, (opp m (pos n) here, tt))), tt)),
        ),
      ),
    ),
  )
      (λ v h. choice-means v h c (pos n) a b (not-zero n c hc) (not-zero m (pos n) here) (not-zero n a ha) (not-zero n b hb))
      (λ v w f. rw (f c hc, f a ha, f b hb) refl)

  carry-defines : (a b c : ℤ) → Named n a → Named n b → Named n c → Defines n (circuit bits (carry_gate (pos n) a b c) m)
  carry-defines a b c ha hb hc = gate-defines n m bits (carry_gate (pos n) a b c) (λ v. v a && v b || v a && v c || v b && v c) less named (
    (off a ha, (off b hb, (here, tt))),
    (
      (off a ha, (off c hc, (here, tt))),
      (
        (off b hb, (off c hc, (here, tt))),
        (
          (up a ha, (up b hb, (opp m (pos n) here, tt))),
          ((up a ha, (up c hc, (opp m (pos n) here, tt))), ((up b hb, (up c hc, (opp m (pos n) here, tt))), tt)),
        ),
      ),
    ),
  )
      (λ v h. carry-means v h (pos n) a b c (not-zero m (pos n) here) (not-zero n a ha) (not-zero n b hb) (not-zero n c hc))
      (λ v w f. rw (f a ha, f b hb, f c hc) refl)

-- ---- gates bit by bit

bitwise-defines : (gate : ℤ → ℤ → ℤ → List (List ℤ)) (from : ℕ)
    → ((n : ℕ) (a b : ℤ) → from ≤ n → Named n a → Named n b → Defines n (circuit (pos n ∷ []) (gate (pos n) a b) (n + 1)))
    → (n : ℕ) (xs ys : List ℤ) → from ≤ n → AllNamed n xs → AllNamed n ys → Defines n (bitwise gate n xs ys)
bitwise-defines gate from step n [] ys l hx hy = plain-defines n [] tt
bitwise-defines gate from step n (x ∷ xs) [] l hx hy = plain-defines n [] tt
bitwise-defines gate from step n (x ∷ xs) (y ∷ ys) l hx hy =
    before-defines n (n + 1) (pos n ∷ []) (gate (pos n) x y) (bitwise gate (n + 1) xs ys) (step n x y l hx.0 hy.0)
    (bitwise-defines gate from step (n + 1) xs ys (omega arith) (all-more n (n + 1) (omega arith) xs hx.1) (all-more n (n + 1) (omega arith) ys hy.1))

one-bit : (n : ℕ) → 1 ≤ n → AllNamed (n + 1) (pos n ∷ [])
one-bit n h = ((h, omega arith), tt)

sums-defines : (n : ℕ) (c : ℤ) (xs ys : List ℤ) → 1 ≤ n → Named n c → AllNamed n xs → AllNamed n ys → Defines n (sums n c xs ys)
sums-defines n c [] ys l hc hx hy = plain-defines n [] tt
sums-defines n c (x ∷ xs) [] l hc hx hy = plain-defines n [] tt
sums-defines n c (x ∷ xs) (y ∷ ys) l hc hx hy =
    let up1 = named-more n (n + 1) (omega arith) in
    let up2 = named-more n (n + 2) (omega arith) in
    let carry = carry-defines (n + 2) (n + 3) (pos (n + 1) ∷ []) (omega arith) (omega arith) ((omega arith, omega arith), tt) x y c (up2 x hx.0) (up2 y hy.0) (up2 c hc) in
    let sum = before-defines (n + 1) (n + 2) [] (xor_gate (pos (n + 1)) (pos n) c) (circuit (pos (n + 1) ∷ []) (carry_gate (pos (n + 2)) x y c) (n + 3))
    (xor-defines (n + 1) (n + 2) [] (omega arith) (omega arith) tt (pos n) c (l, omega arith) (up1 c hc)) carry in
    let first : Defines n (circuit (pos (n + 1) ∷ []) (xor_gate (pos n) x y ++ xor_gate (pos (n + 1)) (pos n) c ++ carry_gate (pos (n + 2)) x y c) (n + 3))
    = before-defines n (n + 1) [] (xor_gate (pos n) x y) _ (xor-defines n (n + 1) [] l (omega arith) tt x y hx.0 hy.0) sum in
    before-defines n (n + 3) (pos (n + 1) ∷ []) (xor_gate (pos n) x y ++ xor_gate (pos (n + 1)) (pos n) c ++ carry_gate (pos (n + 2)) x y c)
    (sums (n + 3) (pos (n + 2)) xs ys) first
    (sums-defines (n + 3) (pos (n + 2)) xs ys (omega arith) (omega arith, omega arith) (all-more n (n + 3) (omega arith) xs hx.1) (all-more n (n + 3) (omega arith) ys hy.1))

equals-from-defines : (n : ℕ) (c : ℤ) (xs ys : List ℤ) → 1 ≤ n → Named n c → AllNamed n xs → AllNamed n ys → Defines n (equals_from n c xs ys)
equals-from-defines n c [] ys l hc hx hy = plain-defines n (c ∷ []) (hc, tt)
equals-from-defines n c (x ∷ xs) [] l hc hx hy = plain-defines n (c ∷ []) (hc, tt)
equals-from-defines n c (x ∷ xs) (y ∷ ys) l hc hx hy =
    let first : Defines n (circuit [] (same_gate (pos n) x y ++ and_gate (pos (n + 1)) c (pos n)) (n + 2))
    = before-defines n (n + 1) [] (same_gate (pos n) x y) (circuit [] (and_gate (pos (n + 1)) c (pos n)) (n + 2))
    (same-defines n (n + 1) [] l (omega arith) tt x y hx.0 hy.0)
    (and-defines (n + 1) (n + 2) [] (omega arith) (omega arith) tt c (pos n) (named-more n (n + 1) (omega arith) c hc) (l, omega arith)) in
    before-defines n (n + 2) [] (same_gate (pos n) x y ++ and_gate (pos (n + 1)) c (pos n)) (equals_from (n + 2) (pos (n + 1)) xs ys) first
    (equals-from-defines (n + 2) (pos (n + 1)) xs ys (omega arith) (omega arith, omega arith) (all-more n (n + 2) (omega arith) xs hx.1) (all-more n (n + 2) (omega arith) ys hy.1))

true-named : (n : ℕ) → 2 ≤ n → Named n true_bit
true-named n h = (omega arith, h)

false-named : (n : ℕ) → 2 ≤ n → Named n false_bit
false-named n h = (omega arith, h)

equals-defines : (n : ℕ) (xs ys : List ℤ) → 2 ≤ n → AllNamed n xs → AllNamed n ys → Defines n (equals n xs ys)
equals-defines n [] ys l hx hy = plain-defines n (true_bit ∷ []) (true-named n l, tt)
equals-defines n (x ∷ xs) [] l hx hy = plain-defines n (true_bit ∷ []) (true-named n l, tt)
equals-defines n (x ∷ xs) (y ∷ ys) l hx hy =
    before-defines n (n + 1) [] (same_gate (pos n) x y) (equals_from (n + 1) (pos n) xs ys)
    (same-defines n (n + 1) [] (omega arith) (omega arith) tt x y hx.0 hy.0)
    (equals-from-defines (n + 1) (pos n) xs ys (omega arith) (omega arith, omega arith) (all-more n (n + 1) (omega arith) xs hx.1) (all-more n (n + 1) (omega arith) ys hy.1))

less-defines : (n : ℕ) (c : ℤ) (xs ys : List ℤ) → 1 ≤ n → Named n c → AllNamed n xs → AllNamed n ys → Defines n (less_from n c xs ys)
less-defines n c [] ys l hc hx hy = plain-defines n (c ∷ []) (hc, tt)
less-defines n c (x ∷ xs) [] l hc hx hy = plain-defines n (c ∷ []) (hc, tt)
less-defines n c (x ∷ xs) (y ∷ ys) l hc hx hy =
    let up1 = named-more n (n + 1) (omega arith) in
    let first : Defines n (circuit [] (xor_gate (pos n) x y ++ choice_gate (pos n) (pos (n + 1)) y c) (n + 2))
    = before-defines n (n + 1) [] (xor_gate (pos n) x y) (circuit [] (choice_gate (pos n) (pos (n + 1)) y c) (n + 2))
    (xor-defines n (n + 1) [] l (omega arith) tt x y hx.0 hy.0)
    (choice-defines (n + 1) (n + 2) [] (omega arith) (omega arith) tt (pos n) y c (l, omega arith) (up1 y hy.0) (up1 c hc)) in
    before-defines n (n + 2) [] (xor_gate (pos n) x y ++ choice_gate (pos n) (pos (n + 1)) y c) (less_from (n + 2) (pos (n + 1)) xs ys) first
    (less-defines (n + 2) (pos (n + 1)) xs ys (omega arith) (omega arith, omega arith) (all-more n (n + 2) (omega arith) xs hx.1) (all-more n (n + 2) (omega arith) ys hy.1))

-- ---- the part of a term

constant-named : (n w k : ℕ) → 2 ≤ n → AllNamed n (constant_bits w k)
constant-named n zero k h = tt
constant-named n (suc w) k h = (bit-named (k % 2 == 1), constant-named n w (k / 2) h)
  where
    bit-named : (b : Bool) → Named n (if b then true_bit else false_bit)
    bit-named true = true-named n h
    bit-named false = false-named n h

fresh-named : (n w m : ℕ) → 1 ≤ n → n + w ≤ m → AllNamed m (fresh n w)
fresh-named n zero m h l = tt
fresh-named n (suc w) m h l = ((h, omega arith), fresh-named (suc n) w m (omega arith) (omega arith))

pub first-named : (n : ℕ) (bits : List ℤ) → 2 ≤ n → AllNamed n bits → Named n (first_bit bits)
first-named n [] h k = true-named n h
first-named n (b ∷ bits) h k = k.0

joined-defines : (op : TermOp) (n : ℕ) (xs ys : List ℤ) → 2 ≤ n → AllNamed n xs → AllNamed n ys → Defines n (joined op n xs ys)
joined-defines Add n xs ys h hx hy = sums-defines n false_bit xs ys (omega arith) (false-named n h) hx hy
joined-defines Sub n xs ys h hx hy = sums-defines n true_bit xs (map opposite ys) (omega arith) (true-named n h) hx (all-opposite n ys hy)
joined-defines And n xs ys h hx hy =
    bitwise-defines and_gate n (λ k a b l ha hb. and-defines k (k + 1) (pos k ∷ []) (omega arith) (omega arith) (one-bit k (omega arith)) a b ha hb) n xs ys (omega arith) hx hy
joined-defines Or n xs ys h hx hy =
    bitwise-defines or_gate n (λ k a b l ha hb. or-defines k (k + 1) (pos k ∷ []) (omega arith) (omega arith) (one-bit k (omega arith)) a b ha hb) n xs ys (omega arith) hx hy
joined-defines Xor n xs ys h hx hy =
    bitwise-defines xor_gate n (λ k a b l ha hb. xor-defines k (k + 1) (pos k ∷ []) (omega arith) (omega arith) (one-bit k (omega arith)) a b ha hb) n xs ys (omega arith) hx hy
joined-defines Concat n xs ys h hx hy = plain-defines n (ys ++ xs) (every-append (Named n) ys xs hy hx)
joined-defines Equal n xs ys h hx hy = equals-defines n xs ys h hx hy
joined-defines Less n xs ys h hx hy = less-defines n false_bit xs ys (omega arith) (false-named n h) hx hy

input-defines : (n w : ℕ) → 2 ≤ n → Defines n (plain (fresh n w) (n + w))
input-defines n w h = record {
  grows = omega arith;
  bits = fresh-named n w (n + w) (omega arith) (omega arith);
  clauses = tt;
  extend = λ val. record { new = val; same = λ k l. refl; holds = refl };
}

pub part-defines : (bits : Term → List ℤ) (n : ℕ) (t : Term) → 2 ≤ n → IsUnapplied t → OfParts (λ u. AllNamed n (bits u)) t → Defines n (circuit_of bits n t)
part-defines bits n (constant w v) h u ps = plain-defines n (constant_bits w v) (constant-named n w v h)
part-defines bits n (input i w) h u ps = input-defines n w h
part-defines bits n (apply f args w) h u ps = absurd u
part-defines bits n (not_ a) h u ps = plain-defines n (map opposite (bits a)) (all-opposite n (bits a) ps)
part-defines bits n (binary op a b) h u ps = joined-defines op n (bits a) (bits b) h ps.0 ps.1
part-defines bits n (slice a high low) h u ps = plain-defines n (take (high - low + 1) (drop low (bits a))) (every-take (Named n) (high - low + 1) (drop low (bits a)) (every-drop (Named n) low (bits a) ps))
part-defines bits n (pick c a b) h u ps =
    let choice = first-named n (bits c) h ps.0 in
    bitwise-defines (choice_gate (first_bit (bits c))) n
    (λ k x y l hx hy. choice-defines k (k + 1) (pos k ∷ []) (omega arith) (omega arith) (one-bit k (omega arith)) (first_bit (bits c)) x y (named-more n k l (first_bit (bits c)) choice) hx hy)
    n (bits a) (bits b) (omega arith) ps.1 ps.2

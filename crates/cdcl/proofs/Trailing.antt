-- The reasons of a trail, as it grows.
use Rattle.std.proofs.Common.{◌≡◌, ◌≢◌, ℕ, zero, suc, ◌+◌, ◌==◌, ◌<◌, ◌≤◌, ◌||◌, ℤ, pos, Bool, true, false, List, [], ◌∷◌, ◌++◌, length, get_or, take, map, Option, Some, None, refl, sym, ap, ◌∙◌, subst, arith, ◌⊎◌, inl, inr}
use Rattle.std.specs.Prelude.{slice_get}
use Rattle.std.specs.List.{All}
use Rattle.std.proofs.lemmas.Bool.{cases_lt, or_from, false≢true, eqb-false, or_parts}
use Rattle.std.proofs.lemmas.List.{get_or_append_left, get_or_push, length_push, take-append-le, take_at, take_all, map-append, take_more}
use Rattle.std.proofs.lemmas.List.Elements.{All-append, All-cons, All-head, All-map, All-nil, All-tail}
use Rattle.std.proofs.lemmas.Option.{get_or_from_slice_get, slice_get_within}
use Rattle.cocoon_num.specs.Lists.{has_number}
use Rattle.cnf_core.specs.Clauses.{literals}
use Rattle.cnf_core.specs.Deriving.{EachDerived, forces, known}
use Rattle.cnf_core.specs.Literals.{Names, has_literal, same}
use Rattle.cnf_core.specs.Satisfying.{WellNamed}
use Rattle.cnf_core.specs.Trails.{literal_at}
use Rattle.cnf_core.specs.declared.clauses.Cnf.{Cnf}
use Rattle.cnf_core.specs.declared.log.Step.{Step}
use Rattle.cdcl.specs.Searching.{HasReason, IsClosed, IsForcedBy, IsReasoned}
use Rattle.cdcl.proofs.Jumping.{get-last, get-prefix}
use Rattle.cnf_core.proofs.LiteralFacts.{same-is}

module _ (clauses : List (List ℤ)) (ts : List ℤ) (l : ℤ) where
  forced-kept : (p n : ℕ) → p < length ts → IsForcedBy clauses ts p n → IsForcedBy clauses (ts ++ l ∷ []) p n
  forced-kept p n lt f = (
    f.0,
    f.1,
    subst (λ us. forces us f.0 (literal_at (ts ++ l ∷ []) p) ≡ true) (sym (take-append-le p ts (l ∷ []) (omega (arith, lt))))
        (subst (λ m. forces (take p ts) f.0 m ≡ true) (sym (get_or_append_left ts (l ∷ []) (pos 0) p lt)) f.2),
  )

  pub forced-here : (c : List ℤ) (n : ℕ) → slice_get clauses n ≡ Some c → forces ts c l ≡ true → IsForcedBy clauses (ts ++ l ∷ []) (length ts) n
  forced-here c n e f = (
    c,
    e,
    subst (λ us. forces us c (literal_at (ts ++ l ∷ []) (length ts)) ≡ true) (sym (take_at ts (l ∷ []) (length ts) refl))
        (subst (λ m. forces ts c m ≡ true) (sym (get_or_push ts l (pos 0) (length ts) refl)) f),
  )

  module _ (reasons : List (Option ℕ)) (starts : List ℕ) (h : IsReasoned clauses ts reasons starts) where
    sized-push : (r : Option ℕ) → length (reasons ++ r ∷ []) ≡ length (ts ++ l ∷ [])
    sized-push r = length_push reasons r ∙ ap (λ n. n + 1) h.sized ∙ sym (length_push ts l)

    before : (p : ℕ) (r : Option ℕ) → p < length ts → has_number p starts ≡ false → HasReason clauses (ts ++ l ∷ []) (reasons ++ r ∷ []) p
    before p r lt none = let f = h.forced p lt none in (f.0, get-prefix reasons (r ∷ []) p (Some f.0) f.1, forced-kept p f.0 lt f.2)

    closed-kept : (i : ℕ) → i < length starts → IsClosed clauses (take (get_or starts i 0) (ts ++ l ∷ []))
    closed-kept i lt = subst (IsClosed clauses) (sym (take-append-le (get_or starts i 0) ts (l ∷ []) (omega (arith, h.under i lt)))) (h.closed i lt)

    pub reasoned-push : (r : ℕ) → IsForcedBy clauses (ts ++ l ∷ []) (length ts) r → IsReasoned clauses (ts ++ l ∷ []) (reasons ++ Some r ∷ []) starts
    reasoned-push r f = record {
      sized = sized-push (Some r);
      forced = λ p lt none. elim (cases_lt p (length ts)) [
        | inl below ↦ before p (Some r) below none
        | inr above ↦ let is : length ts ≡ p = omega (arith, lt, above, length_push ts l) in
            subst (HasReason clauses (ts ++ l ∷ []) (reasons ++ Some r ∷ [])) is
            (r, ap (slice_get (reasons ++ Some r ∷ [])) (sym h.sized) ∙ get-last reasons (Some r), f)
      ];
      rising = h.rising;
      under = λ i lt. omega (arith, h.under i lt, length_push ts l);
      closed = closed-kept;
    }

    no-start : (p : ℕ) → has_number p (starts ++ length ts ∷ []) ≡ false → (has_number p starts ≡ false) × (p ≢ length ts)
    no-start p none = split starts none
      where
        split : (ss : List ℕ) → has_number p (ss ++ length ts ∷ []) ≡ false → (has_number p ss ≡ false) × (p ≢ length ts)
        split [] e = let parts = or_parts (p == length ts) false e in (refl, eqb-false p (length ts) parts.0)
        split (s ∷ ss) e = let parts = or_parts (p == s) (has_number p (ss ++ length ts ∷ [])) e in
            let rest = split ss parts.1 in (or_from (p == s) (has_number p ss) parts.0 rest.0, rest.1)

    pub reasoned-decide : IsClosed clauses ts → IsReasoned clauses (ts ++ l ∷ []) (reasons ++ None ∷ []) (starts ++ length ts ∷ [])
    reasoned-decide closed = record {
      sized = sized-push None;
      forced = λ p lt none. let r = no-start p none in before p None (omega (arith, lt, length_push ts l, r.1)) r.0;
      rising = λ i j less lt. elim (cases_lt j (length starts)) [
        | inl below ↦ let old = h.rising i j less below in
            omega (arith, old, get_or_append_left starts (length ts ∷ []) 0 i (omega (arith, less, below)), get_or_append_left starts (length ts ∷ []) 0 j below)
        | inr above ↦ let is : length starts ≡ j = omega (arith, lt, above, length_push starts (length ts)) in
            let under : i < length starts = omega (arith, less, is) in
            omega (arith, h.under i under, get_or_append_left starts (length ts ∷ []) 0 i under, get_or_push starts (length ts) 0 j is)
      ];
      under = λ i lt. elim (cases_lt i (length starts)) [
        | inl below ↦ omega (arith, h.under i below, get_or_append_left starts (length ts ∷ []) 0 i below, length_push ts l)
        | inr above ↦ omega (arith, get_or_push starts (length ts) 0 i (omega (arith, lt, above, length_push starts (length ts))), length_push ts l)
      ];
      closed = λ i lt. elim (cases_lt i (length starts)) [
        | inl below ↦ subst (λ s. IsClosed clauses (take s (ts ++ l ∷ []))) (sym (get_or_append_left starts (length ts ∷ []) 0 i below)) (closed-kept i below)
        | inr above ↦ subst (λ s. IsClosed clauses (take s (ts ++ l ∷ []))) (sym (get_or_push starts (length ts) 0 i (omega (arith, lt, above, length_push starts (length ts)))))
            (subst (IsClosed clauses) (sym (take_at ts (l ∷ []) (length ts) refl)) closed)
      ];
    }

pub reasoned-forced : (clauses : List (List ℤ)) (ts us : List ℤ) (l : ℤ) (reasons rs : List (Option ℕ)) (starts : List ℕ) (r : ℕ) → IsReasoned clauses ts reasons starts
    → IsForcedBy clauses (ts ++ l ∷ []) (length ts) r → us ≡ ts ++ l ∷ [] → rs ≡ reasons ++ Some r ∷ [] → IsReasoned clauses us rs starts
reasoned-forced clauses ts us l reasons rs starts r h f e k = subst (λ vs. IsReasoned clauses vs rs starts) (sym e)
    (subst (λ qs. IsReasoned clauses (ts ++ l ∷ []) qs starts) (sym k) (reasoned-push clauses ts l reasons starts h r f))

pub reasoned-begun : (clauses : List (List ℤ)) (ts us : List ℤ) (l : ℤ) (reasons rs : List (Option ℕ)) (starts ss : List ℕ) (n : ℕ) → IsReasoned clauses ts reasons starts
    → IsClosed clauses ts → us ≡ ts ++ l ∷ [] → rs ≡ reasons ++ None ∷ [] → ss ≡ starts ++ n ∷ [] → n ≡ length ts → IsReasoned clauses us rs ss
reasoned-begun clauses ts us l reasons rs starts ss n h c e k m is = subst (λ vs. IsReasoned clauses vs rs ss) (sym e)
    (subst (λ qs. IsReasoned clauses (ts ++ l ∷ []) qs ss) (sym k)
    (subst (λ bs. IsReasoned clauses (ts ++ l ∷ []) (reasons ++ None ∷ []) bs) (sym (m ∙ ap (λ x. starts ++ x ∷ []) is)) (reasoned-decide clauses ts l reasons starts h c)))

-- ---- what the clause of a number is

pub named-literal : {vars : ℕ} (ls : List ℤ) → All (Names vars) ls → (l : ℤ) → has_literal ls l ≡ true → Names vars l
named-literal [] named l h = absurd (false≢true h)
named-literal {vars} (m ∷ ls) named l h = elim (cases_or (same l m) (has_literal ls l) h) [
  | inl here ↦ subst (Names vars) (sym (same-is l m here)) (All-head (Names vars) m ls named)
  | inr there ↦ named-literal ls (All-tail (Names vars) m ls named) l there
]
  where
    cases_or : (a b : Bool) → (a || b) ≡ true → (a ≡ true) ⊎ (b ≡ true)
    cases_or true b e = inl refl
    cases_or false b e = inr e

-- ---- names

take_some : (steps : List Step) (k : ℕ) (s : Step) → slice_get steps k ≡ Some s → take (k + 1) steps ≡ take k steps ++ s ∷ []
take_some steps k s e = take_more steps k s (slice_get_within steps k s e) ∙ ap (λ x. take k steps ++ x ∷ []) (get_or_from_slice_get steps k s s e)

steps-named : (cnf : Cnf) (steps : List Step) → EachDerived cnf steps → (i : ℕ) → i ≤ length steps → All (All (Names cnf.vars)) (map (λ (s : Step). literals s.clause) (take i steps))
steps-named cnf steps h zero le = All-nil (All (Names cnf.vars))
steps-named cnf steps h (suc k) le =
    let d = h k (omega (arith, le)) in
    let next : suc k ≡ k + 1 = omega arith in
    subst (All (All (Names cnf.vars))) (sym (ap (λ n. map (λ (s : Step). literals s.clause) (take n steps)) next ∙ ap (map (λ (s : Step). literals s.clause)) (take_some steps k d.0 d.1) ∙ map-append (λ (s : Step). literals s.clause) (take k steps) (d.0 ∷ [])))
    (All-append (All (Names cnf.vars)) (map (λ (s : Step). literals s.clause) (take k steps)) (literals d.0.clause ∷ []) (steps-named cnf steps h k (omega (arith, le)))
    (All-cons (All (Names cnf.vars)) (literals d.0.clause) [] d.2.proper.named (All-nil (All (Names cnf.vars)))))

pub known-named : (cnf : Cnf) (steps : List Step) → WellNamed cnf → EachDerived cnf steps → All (All (Names cnf.vars)) (known cnf steps)
known-named cnf steps named h = All-append (All (Names cnf.vars)) (map literals cnf.clauses) (map (λ (s : Step). literals s.clause) steps)
    (All-map (All (Names cnf.vars)) literals cnf.clauses named.1)
    (subst (λ ss. All (All (Names cnf.vars)) (map (λ (s : Step). literals s.clause) ss)) (take_all (length steps) steps (omega arith)) (steps-named cnf steps h (length steps) (omega arith)))

pub at-some : (P : List ℤ → Type 0) (cs : List (List ℤ)) (k : ℕ) (c : List ℤ) → All P cs → slice_get cs k ≡ Some c → P c
at-some P cs k c h e = subst P (get_or_from_slice_get cs k c [] e) (h k [] (slice_get_within cs k c e))

-- the literals of a clause that is known name variables
pub pair-named : (cnf : Cnf) (steps : List Step) → WellNamed cnf → EachDerived cnf steps → (k : ℕ) (c : List ℤ) → slice_get (known cnf steps) k ≡ Some c
    → (l : ℤ) → has_literal c l ≡ true → Names cnf.vars l
pair-named cnf steps named derived k c e l h = named-literal {vars = cnf.vars} c (at-some (All (Names cnf.vars)) (known cnf steps) k c (known-named cnf steps named derived) e) l h

-- The least hidden choice among some choices, and among those of a body.
use Rattle.std.specs.Prelude.{◌≡◌, ℕ, ◌<◌, ◌≤◌, ◌⊎◌, ◌==◌, ◌&&◌, ◌||◌, Bool, true, false, nat_lt, List, [], ◌∷◌, ◌++◌, length, if◌then◌else◌, Option, Some, None, refl}
use Rattle.std.proofs.Common.{sym, ◌∙◌, ap, ap₂, subst, inl, inr, arith}
use Rattle.std.proofs.Math.Bool.{or-false}
use Rattle.std.proofs.lemmas.Bool.{eqb-true, eq-eqb, ltb-true, ltb-false, or_cases, and_parts, cases_Bool}
use Rattle.cocoon_num.specs.Tree.{Block, HeaderDecl, Design}
use Rattle.cocoon_num.specs.Lists.{has_number}
use Rattle.cocoon_types.specs.ReadBack.{hidden_in}
use Rattle.form_rules.specs.declared.scope.FieldName.{FieldName}
use Rattle.form_rules.specs.declared.steps.Step.{Step}
use Rattle.form_rules.specs.Steps.{StepsOf, is_hidden_by}
use Rattle.form_rules.specs.Following.{Names, at_choice, at_start, finds_in, names_in, body_names, is_hidden, choices_in, IsLeastOf, IsLeastHidden, comes_before, lesser}
use Rattle.form_rules.specs.Least.{IsLeast}
use Rattle.form_rules.proofs.Paths.{member_is}
use Rattle.form_rules.proofs.Lists.{apart, number_append}
use Rattle.form_rules.proofs.Unmade.{none_hidden}

-- a number of a list with one more at its end
last_or_before : (c m : ℕ) (cs : List ℕ) → has_number m (cs ++ (c ∷ [])) ≡ true → (has_number m cs ≡ true) ⊎ (m ≡ c)
last_or_before c m cs h =
    elim (or_cases (has_number m cs) ((m == c) || false) (sym (number_append m cs (c ∷ [])) ∙ h)) [
      | inl e ↦ inl e
      | inr e ↦ inr (eqb-true m c (sym (or-false (m == c)) ∙ e))
    ]

-- a number passes a test, as one that is equal to it
same_test : (f : ℕ → Bool) (c m : ℕ) → m ≡ c → f m ≡ f c
same_test f c m e = ap f e

taken : (f : ℕ → Bool) (cs : List ℕ) (c : ℕ) (least : Option ℕ) → comes_before c least ≡ true → f c ≡ true → IsLeastOf f cs least → IsLeastOf f (cs ++ (c ∷ [])) (Some c)
taken f cs c None before passes is =
    (passes, λ m has h. elim (last_or_before c m cs has) [ inl e ↦ apart (f m) h (is m e) | inr e ↦ omega arith ])
taken f cs c (Some k) before passes is =
    let below : c < k = ltb-true c k before in
    (passes, λ m has h. elim (last_or_before c m cs has) [ inl e ↦ let l : k ≤ m = is.1 m e h in omega arith | inr e ↦ omega arith ])

left : (f : ℕ → Bool) (cs : List ℕ) (c : ℕ) (least : Option ℕ) → (comes_before c least && f c) ≡ false → IsLeastOf f cs least → IsLeastOf f (cs ++ (c ∷ [])) least
left f cs c None unmet is = λ m has. elim (last_or_before c m cs has) [ inl e ↦ is m e | inr e ↦ same_test f c m e ∙ unmet ]
left f cs c (Some k) unmet is = (
  is.0,
  λ m has h. elim (last_or_before c m cs has) [
    | inl e ↦ is.1 m e h
    | inr e ↦ elim (cases_Bool (nat_lt c k)) [
      | inl l ↦ apart (f c) (sym (same_test f c m e) ∙ h) (ap (λ d. d && f c) (sym l) ∙ unmet)
      | inr l ↦ let g : k ≤ c = ltb-false c k l in omega arith
    ]
  ],
)

-- one more number
one_more : (f : ℕ → Bool) (cs : List ℕ) (c : ℕ) (least : Option ℕ) → IsLeastOf f cs least → IsLeastOf f (cs ++ (c ∷ [])) (lesser f c least)
one_more f cs c least is = by_test (comes_before c least && f c) refl where
  by_test : (d : Bool) → (comes_before c least && f c) ≡ d → IsLeastOf f (cs ++ (c ∷ [])) (if d then Some c else least)
  by_test true e = let both = and_parts (comes_before c least) (f c) e in taken f cs c least both.0 both.1 is
  by_test false e = left f cs c least e is

no_numbers : (ns : List ℕ) → ((c : ℕ) → has_number c ns ≡ false) → ns ≡ []
no_numbers [] h = refl
no_numbers (n ∷ ns) h = apart ((n == n) || has_number n ns) (ap (λ b. b || has_number n ns) (eq-eqb n n refl)) (h n)

-- among the choices of a body are all that are hidden
pub of_body : (d : Design) (b : Block) (found : Option ℕ) → IsLeastHidden d.headers b (choices_in b) found → IsLeast found (hidden_in d b)
of_body d b None is = no_numbers (hidden_in d b) (λ c. member_is c d b ∙ elim (cases_Bool (has_number c (choices_in b))) [ inl e ↦ is c e | inr e ↦ none_hidden (body_names c d.headers) b e ])
of_body d b (Some m) is = (
  member_is m d b ∙ is.0,
  λ c has.
      let h : is_hidden (body_names c d.headers) b ≡ true = sym (member_is c d b) ∙ has in
      elim (cases_Bool (has_number c (choices_in b))) [ inl e ↦ is.1 c e h | inr e ↦ apart (is_hidden (body_names c d.headers) b) h (none_hidden (body_names c d.headers) b e) ],
)

-- the same where the loop over the choices meets it
pub more_tried : (f : ℕ → Bool) (tried more : List ℕ) (c : ℕ) (least found : Option ℕ) → more ≡ tried ++ (c ∷ []) → found ≡ lesser f c least → IsLeastOf f tried least → IsLeastOf f more found
more_tried f tried more c least found grown next h =
    subst (λ (o : Option ℕ). IsLeastOf f more o) (sym next) (subst (λ (ns : List ℕ). IsLeastOf f ns (lesser f c least)) (sym grown) (one_more f tried c least h))

-- tests that agree have the same least number
pub same_least : (f g : ℕ → Bool) (cs : List ℕ) (o : Option ℕ) → ((c : ℕ) → f c ≡ g c) → IsLeastOf f cs o → IsLeastOf g cs o
same_least f g cs None same is = λ c has. sym (same c) ∙ is c has
same_least f g cs (Some m) same is = (sym (same m) ∙ is.0, λ c has h. is.1 c has (same c ∙ h))

pub none_tried : (f : ℕ → Bool) (cs : List ℕ) → cs ≡ [] → IsLeastOf f cs None
none_tried f cs is = λ c has. apart (has_number c cs) has (ap (has_number c) is)

-- the steps of a body find its hidden choices
pub body_hidden : (c : ℕ) (hs : List HeaderDecl) (b : Block) (n : Names) (names : List FieldName) (ss all : List Step) → StepsOf n b ss → all ≡ ss → n.fields ≡ names_in hs → n.vars ≡ [] → names ≡ names_in hs →
    is_hidden_by c all (at_start names) ≡ is_hidden (body_names c hs) b
body_hidden c hs b n names ss all steps same fields vars are =
    let names_with : List FieldName → List (List ℕ) → Names = λ fs vs. record { choice = c; fields = fs; vars = vs } in
    ap (λ xs. is_hidden_by c xs (at_start names)) same
    ∙ ap (λ f. f (at_start names)) (steps c (λ q. false))
    ∙ ap (λ fs. finds_in (at_choice c n) b (λ q. false) (at_start fs)) are
    ∙ ap₂ (λ fs vs. finds_in (names_with fs vs) b (λ q. false) (at_start (names_in hs))) fields vars

-- nothing was noted
pub none_noted : (xs ys : List ℕ) (n : ℕ) → (n == 0) ≡ true → n ≡ length xs → xs ≡ ys → ys ≡ []
none_noted xs [] n zero many same = refl
none_noted xs (y ∷ ys) n zero many same = let e : 0 ≡ length (y ∷ ys) = sym (eqb-true n 0 zero) ∙ many ∙ ap length same in absurd cc

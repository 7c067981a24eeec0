-- Lists of states, one after another.
use Rattle.std.proofs.Common.{◌≡◌, ℕ, zero, suc, ◌+◌, ◌-◌, ◌<◌, ◌≤◌, List, [], ◌∷◌, ◌++◌, map, take, drop, length, reverse, All, Bool, true, false, cond, Option, Some, None, option_map, refl, sym, ap, subst, ◌∙◌, arith}
use Rattle.std.specs.Prelude.{filter, is_some}
use Rattle.std.proofs.lemmas.List.{append_assoc, drop-map, length-drop, length-reverse, map-append, reverse-append, take-append-drop}
use Rattle.std.proofs.lemmas.List.Elements.{All-append, All-cons, All-nil}
use Rattle.bv_terms.specs.declared.node.Node.{Node}
use Rattle.bv_terms.specs.Arenas.{KeepsTerms, inputs_in, term_at}
use Rattle.expr_terms.specs.Variables.{AreThere, VariablesThere, terms_at, variable_of, variables_of}
use Rattle.expr_terms.specs.declared.variables.Variable.{Variable}
use Rattle.obligation_laws.specs.States as tree
use Rattle.obligation_laws.specs.Following.{Followed, each, has_sent, then_those}
use Rattle.symbolic_runs.specs.Reading.{Follows, IsInput, IsThere, PlaceThere, cut_to, input_of, place_of, state_of, states_of}
use Rattle.symbolic_runs.specs.declared.states.Place.{Place}
use Rattle.symbolic_runs.specs.declared.states.State.{State}
use Rattle.symbolic_runs.proofs.Growing.{head_all, states_on, states_there, tail_all}
use Rattle.symbolic_runs.proofs.Stepping.{dropped, variables_counted}

-- ---- those that have sent

same_sent : (a : List Node) (o : Option Place) → is_some (option_map (place_of a) o) ≡ is_some o
same_sent a None = refl
same_sent a (Some at) = refl

pub sent_read : (a : List Node) (s : State) → has_sent (state_of a s) ≡ is_some s.sent
sent_read a s = same_sent a s.sent

-- one that has sent stands behind those before
pub sent_more : (a : List Node) (out rest : List State) (s : State) → is_some s.sent ≡ true
    → states_of a (out ++ s ∷ []) ++ filter has_sent (states_of a rest) ≡ states_of a out ++ filter has_sent (states_of a (s ∷ rest))
sent_more a out rest s e =
    let t = state_of a s in
    let yes : has_sent t ≡ true = sent_read a s ∙ e in
    ap (λ ts. ts ++ filter has_sent (states_of a rest)) (map-append (state_of a) out (s ∷ []))
    ∙ append_assoc (states_of a out) (t ∷ []) (filter has_sent (states_of a rest))
    ∙ ap (λ b. states_of a out ++ cond b (t ∷ filter has_sent (states_of a rest)) (filter has_sent (states_of a rest))) (sym yes)

-- any other goes
pub sent_past : (a : List Node) (out rest : List State) (s : State) → is_some s.sent ≡ false
    → states_of a out ++ filter has_sent (states_of a rest) ≡ states_of a out ++ filter has_sent (states_of a (s ∷ rest))
sent_past a out rest s e =
    let t = state_of a s in
    let no : has_sent t ≡ false = sent_read a s ∙ e in
    ap (λ b. states_of a out ++ cond b (t ∷ filter has_sent (states_of a rest)) (filter has_sent (states_of a rest))) (sym no)

-- ---- states one after another

-- the states of a list, and then those that come of the rest
pub each_more : (a b : List Node) (f : tree.State → ℕ → Followed) (out made : List State) (t : tree.State) (ts : List tree.State) → KeepsTerms a b → All (IsThere a) out
    → Follows b made (f t (inputs_in a))
    → then_those (states_of b (out ++ made), inputs_in b) (each f ts) ≡ then_those (states_of a out, inputs_in a) (each f (t ∷ ts))
each_more a b f out made t ts h there k =
    let r = f t (inputs_in a) in
    let front : states_of b (out ++ made) ≡ states_of a out ++ r.0 = map-append (state_of b) out made ∙ (λ j. states_on a b out h there j ++ k.are j) in
    (λ j. (front j ++ (each f ts (k.next j)).0, (each f ts (k.next j)).1))
    ∙ ap (λ zs. (zs, (each f ts r.1).1)) (append_assoc (states_of a out) r.0 (each f ts r.1).0)

pub there_more : (a b : List Node) (out made : List State) → KeepsTerms a b → All (IsThere a) out → All (IsThere b) made → All (IsThere b) (out ++ made)
there_more a b out made h k l = All-append (IsThere b) out made (states_there a b out h k) l

-- two lists, one after the other
pub follows_both : (a b : List Node) (first second : List State) (r : Followed) (f : ℕ → Followed) → KeepsTerms a b → Follows a first r → Follows b second (f (inputs_in a)) → Follows b (first ++ second) (then_those r f)
follows_both a b first second r f h k l = record {
  there = there_more a b first second h k.there l.there;
  are = map-append (state_of b) first second ∙ (λ j. (states_on a b first h k.there ∙ k.are) j ++ (l.are ∙ ap (λ n. (f n).0) k.next) j);
  next = l.next ∙ ap (λ n. (f n).1) k.next;
}

-- ---- the first variables alone

take_every : {A : Type 0} (P : A → Type 0) (n : ℕ) (xs : List A) → All P xs → All P (take n xs)
take_every P zero xs all = All-nil P
take_every P (suc n) [] all = All-nil P
take_every P (suc n) (x ∷ xs) all = All-cons P x (take n xs) (head_all P x xs all) (take_every P n xs (tail_all P x xs all))

taken_back : {A : Type 0} (n : ℕ) (xs : List A) → reverse (take n xs) ≡ drop (length xs - n) (reverse xs)
taken_back n xs =
    let whole : reverse xs ≡ reverse (drop n xs) ++ reverse (take n xs) = ap reverse (sym (take-append-drop n xs)) ∙ reverse-append (take n xs) (drop n xs) in
    let many : length xs - n ≡ length (reverse (drop n xs)) = sym (length-reverse (drop n xs) ∙ length-drop n xs) in
    sym (ap (drop (length xs - n)) whole ∙ dropped (reverse (drop n xs)) (reverse (take n xs)) (length xs - n) many)

variables_cut : (a : List Node) (n : ℕ) (vs : List Variable) → variables_of a (take n vs) ≡ drop (length (variables_of a vs) - n) (variables_of a vs)
variables_cut a n vs =
    ap (map (variable_of a)) (taken_back n vs) ∙ sym (drop-map (variable_of a) (length vs - n) (reverse vs))
    ∙ ap (λ k. drop (k - n) (variables_of a vs)) (variables_counted a vs)

pub cut_reads : (a : List Node) (n : ℕ) (s c : State) → c.variables.items ≡ take n s.variables.items → c.fields ≡ s.fields → c.condition ≡ s.condition → c.choices ≡ s.choices → c.way ≡ s.way → c.sent ≡ s.sent
    → state_of a c ≡ cut_to n (state_of a s)
cut_reads a n s c vars fields condition choices way sent = λ j. record {
  vars = (ap (variables_of a) vars ∙ variables_cut a n s.variables.items) j;
  fields = terms_at a (fields j).items;
  cond = term_at a (condition j);
  choices = map input_of (choices j).items;
  way = (way j).items;
  sent = option_map (place_of a) (sent j);
}

pub cut_there : (a : List Node) (n : ℕ) (s c : State) → c.variables.items ≡ take n s.variables.items → c.fields ≡ s.fields → c.condition ≡ s.condition → c.choices ≡ s.choices → c.sent ≡ s.sent → IsThere a s → IsThere a c
cut_there a n s c vars fields condition choices sent h = record {
  variables = subst (VariablesThere a) (sym vars) (take_every (λ (v : Variable). v.term < length a) n s.variables.items h.variables);
  fields = subst (λ v. AreThere a v.items) (sym fields) h.fields;
  condition = subst (λ k. k < length a) (sym condition) h.condition;
  choices = subst (λ v. All (IsInput a) v.items) (sym choices) h.choices;
  sent = subst (PlaceThere a) (sym sent) h.sent;
}

pub cut_more : (a : List Node) (n : ℕ) (out rest : List State) (s c : State) → state_of a c ≡ cut_to n (state_of a s)
    → states_of a (out ++ c ∷ []) ++ map (cut_to n) (states_of a rest) ≡ states_of a out ++ map (cut_to n) (states_of a (s ∷ rest))
cut_more a n out rest s c e =
    ap (λ ts. ts ++ map (cut_to n) (states_of a rest)) (map-append (state_of a) out (c ∷ []))
    ∙ append_assoc (states_of a out) (state_of a c ∷ []) (map (cut_to n) (states_of a rest))
    ∙ ap (λ t. states_of a out ++ t ∷ map (cut_to n) (states_of a rest)) e

pub empty_of : {A : Type 0} (xs : List A) → length xs ≡ 0 → xs ≡ []
empty_of [] e = refl
empty_of (x ∷ xs) e = absurd (omega (arith, e))

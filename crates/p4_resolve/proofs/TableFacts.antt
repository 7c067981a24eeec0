-- Tables, each after those before it.
use Rattle.std.proofs.Common.{◌≡◌, ℕ, suc, ◌+◌, ◌-◌, ◌*◌, ◌^◌, ◌<◌, ◌≤◌, ◌&&◌, Bool, true, false, List, [], ◌∷◌, ◌++◌, length, map, take, drop, get_or, Option, codes, refl, sym, ap, ap₂, subst, ◌∙◌, append_assoc, arith}
use Rattle.std.specs.Prelude.{MatchOption, decimal, nat_le}
use Rattle.std.proofs.Math.Nat.{add_assoc, mod-eq_of_lt}
use Rattle.std.proofs.lemmas.Bool.{and_parts, ltb-true}
use Rattle.std.proofs.lemmas.List.{at_drop_more, at_drop_all, append-nil, map-append, take_all}
use Rattle.cocoon_num.specs.Lists.{each}
use Rattle.cocoon_num.specs.Names.{same_name}
use Rattle.cocoon_num.specs.Tokens.{Kind as Token, a_name, literal, mark}
use Rattle.p4_ir.specs.P4Kinds.{numbers_of, table_fits}
use Rattle.p4_ir.specs.P4Tree.{P4Table}
use Rattle.p4_ir.specs.Program as ir
use Rattle.p4_ir.specs.declared.program.Table.{Table}
use Rattle.p4_texts.specs.KindFaults.{Piece, action_keeps, action_tokens, least_after, own_table_tokens, table_keeps, table_pieces}
use Rattle.p4_texts.specs.Meant.{number_in, program_of_text, table_meant}
use Rattle.p4_texts.specs.Written.{ProgramText, TableText, each_then, key_then, keys_then}
use Rattle.p4_texts.specs.TreeOf.{keys_of, table_of}
use Rattle.p4_texts.specs.declared.written.WrittenTable.{WrittenTable}
use Rattle.numbering.proofs.NameFacts.{same-true}
use Rattle.p4_resolve.proofs.ScopeFacts.{taken}
use Rattle.p4_resolve.specs.Controls.{IsBefore, TablesKeep, action_names, table_numbers}
use Rattle.p4_resolve.specs.Judged.{Rest, Sees, Stops, StopsBy, index}
use Rattle.p4_resolve.specs.Numbered.{is_small}
use Rattle.p4_resolve.specs.TableForms.{agrees, own_keeps}
use Rattle.p4_resolve.specs.declared.controls.Before.{Before}
use Rattle.p4_resolve.specs.declared.fault.KindFault.{KindFault}
use Rattle.p4_resolve.specs.declared.fault.KindFault.TheVariants.{Kind}
use Rattle.p4_resolve.proofs.PieceFacts.{all_passed, index_kept, one_stopped, passed, started, stopped, then_after}

-- ---- the rules of a table

-- its action is named so
pub named_of : (t : ProgramText) (names : List (List ℕ)) (k : TableText) → action_keeps t names k ≡ true → same_name k.action (97 ∷ decimal (number_in k.action)) ≡ true
named_of t names k h = (and_parts _ _ (and_parts _ _ (and_parts _ _ h).0).0).0

-- what is found of a table: it keeps its own rules and is this one, or it breaks one
abbrev pub Found : ProgramText → (least : ℕ) → TableText → Option Table → Type 0
Found t least k o = MatchOption o (own_keeps t least k ≡ false) (λ made. (own_keeps t least k ≡ true) × (ir.table_of made ≡ table_meant t k))

pub own_is : (t : ProgramText) (before : List ℕ) (k : TableText) → same_name k.action (97 ∷ decimal (number_in k.action)) ≡ true → own_keeps t (least_after before) k ≡ table_keeps t before k
own_is t before k h =
    let rest : drop 1 k.action ≡ decimal (number_in k.action) = ap (drop 1) (same-true k.action (97 ∷ decimal (number_in k.action)) h) in
    ap (λ ds. same_name k.table (116 ∷ ds) && nat_le (least_after before) (number_in k.action) && table_fits (program_of_text t) (table_meant t k) && agrees k) rest
    ∙ regroup (same_name k.table (116 ∷ decimal (number_in k.action)) && nat_le (least_after before) (number_in k.action) && table_fits (program_of_text t) (table_meant t k)) _ _ _ _
  where
    regroup : (x d e f g : Bool) → (x && (((d && e) && f) && g)) ≡ ((((x && d) && e) && f) && g)
    regroup true d e f g = refl
    regroup false d e f g = refl

pub small_of : (t : ProgramText) (least : ℕ) (k : TableText) → own_keeps t least k ≡ true → is_small (number_in k.action) ≡ true
small_of t least k h = (and_parts _ _ (and_parts _ _ (and_parts _ _ h).0).1).1

-- ---- the tokens of a table

each_count : (b : Bool) (xs : List (List ℕ)) (ks : List Token) → length (each_then (key_then b) xs ks) ≡ length xs * 6 + length ks
each_count b [] ks = omega arith
each_count b (x ∷ xs) ks = let h = each_count b xs ks in omega (arith, h)

keys_count : (b : Bool) (xs : List (List ℕ)) (ks : List Token) → length (keys_then (keys_of b xs) ks) ≡ length xs * 6 + length ks
keys_count b [] ks = omega arith
keys_count b (x ∷ xs) ks = let h = each_count b xs ks in omega (arith, h)

-- what follows the keys
abbrev after_keys : TableText → List Token
after_keys k =
    mark (codes "}") ∷ a_name (codes "actions") ∷ mark (codes "=") ∷ mark (codes "{") ∷ a_name k.actions ∷ mark (codes ";") ∷ mark (codes "}")
    ∷ a_name (codes "default_action") ∷ mark (codes "=") ∷ a_name k.default_action ∷ mark (codes "(") ∷ literal k.default_width k.default ∷ mark (codes ")") ∷ mark (codes ";") ∷ mark (codes "}") ∷ []

pub own_count : (k : WrittenTable) → length (own_table_tokens (table_of k)) ≡ 21 + length k.keys * 6
own_count k = let h = keys_count k.exact k.keys (after_keys (table_of k)) in omega (arith, h)

-- ---- one table

abbrev pub action_piece : ProgramText → List (List ℕ) → TableText → Piece
action_piece t names k = record { tokens = action_tokens k; keeps = action_keeps t names k }

abbrev pub own_piece : ProgramText → List ℕ → TableText → Piece
own_piece t numbers k = record { tokens = own_table_tokens k; keeps = table_keeps t numbers k }

last_least : (ns : List ℕ) (n : ℕ) → least_after (ns ++ n ∷ []) ≡ suc n
last_least [] n = refl
last_least (m ∷ []) n = refl
last_least (m ∷ l ∷ ns) n = last_least (l ∷ ns) n

pub names_more : (done : List TableText) (k : TableText) → action_names (done ++ k ∷ []) ≡ action_names done ++ (k.action ∷ [])
names_more done k = map-append (λ (k : TableText). k.action) done (k ∷ [])

pub numbers_more : (t : ProgramText) (done : List TableText) (k : TableText) → table_numbers t (done ++ k ∷ []) ≡ table_numbers t done ++ (number_in k.action ∷ [])
numbers_more t done k = ap numbers_of (map-append (table_meant t) done (k ∷ [])) ∙ map-append (λ (m : P4Table). m.number) (map (table_meant t) done) (table_meant t k ∷ [])

-- the number after that of a table has 32 bits
pub least_is : (n l : ℕ) → is_small n ≡ true → l ≡ index (n + 1) → l ≡ n + 1
least_is n l h e = e ∙ mod-eq_of_lt (let b = ltb-true n (2 ^ 32 - 1) h in omega (arith, b))

pub before_more : (t : ProgramText) (done : List TableText) (k : TableText) (b : Before) → Sees b.actions.keys (action_names done ++ (k.action ∷ [])) → b.least ≡ number_in k.action + 1 → IsBefore b t (done ++ k ∷ [])
before_more t done k b seen least = record {
  actions = subst (Sees b.actions.keys) (sym (names_more done k)) seen;
  least = least ∙ omega arith ∙ sym (ap least_after (numbers_more t done k) ∙ last_least (table_numbers t done) (number_in k.action));
}

action_passed : (t : ProgramText) (names : List (List ℕ)) (numbers : List ℕ) (k : TableText) (at middle : ℕ) → action_keeps t names k ≡ true → middle ≡ index (at + 17) → Rest at (table_pieces t names numbers (k ∷ [])) middle (own_piece t numbers k ∷ [])
action_passed t names numbers k at middle h e =
    passed at (table_pieces t names numbers (k ∷ [])) at middle (action_piece t names k) (own_piece t numbers k ∷ []) (started at (table_pieces t names numbers (k ∷ []))) h e

pub one_table : (t : ProgramText) (done : List TableText) (k : WrittenTable) (b : Before) (made : P4Table) (at middle mid end : ℕ) → action_keeps t (action_names done) (table_of k) ≡ true → middle ≡ index (at + 17)
    → own_keeps t (least_after (table_numbers t done)) (table_of k) ≡ true → made ≡ table_meant t (table_of k) → mid ≡ index (middle + 21) → end ≡ index (mid + length k.keys * 6)
    → Sees b.actions.keys (action_names done ++ (k.action ∷ [])) → b.least ≡ made.number + 1 → TablesKeep t done (table_of k ∷ []) at (made ∷ []) b end
one_table t done k b made at middle mid end h e own is m n seen least = record {
  is = ap (λ x. x ∷ []) is;
  passes = passed at _ middle end (own_piece t (table_numbers t done) (table_of k)) [] (action_passed t (action_names done) (table_numbers t done) (table_of k) at middle h e)
      (sym (own_is t (table_numbers t done) (table_of k) (named_of t (action_names done) (table_of k) h)) ∙ own) (n ∙ ap (λ i. index (i + length k.keys * 6)) m ∙ then_after (middle + 21) (length k.keys * 6) ∙ ap index (add_assoc middle 21 (length k.keys * 6)) ∙ ap (λ l. index (middle + l)) (sym (own_count k)));
  before = before_more t done (table_of k) b seen (least ∙ ap (λ (x : P4Table). x.number + 1) is);
  small = ap (λ (x : P4Table). is_small x.number && true) is ∙ ap (λ x. x && true) (small_of t (least_after (table_numbers t done)) (table_of k) own);
}

pub own_stops : (t : ProgramText) (done : List TableText) (k : WrittenTable) (at middle : ℕ) → action_keeps t (action_names done) (table_of k) ≡ true → middle ≡ index (at + 17)
    → own_keeps t (least_after (table_numbers t done)) (table_of k) ≡ false → StopsBy at (table_pieces t (action_names done) (table_numbers t done) (table_of k ∷ [])) (Kind middle)
own_stops t done k at middle h e own =
    subst (Stops at (table_pieces t (action_names done) (table_numbers t done) (table_of k ∷ []))) (ap index e ∙ index_kept (at + 17) ∙ sym e)
    (stopped at _ middle (own_piece t (table_numbers t done) (table_of k)) [] (action_passed t (action_names done) (table_numbers t done) (table_of k) at middle h e)
    (sym (own_is t (table_numbers t done) (table_of k) (named_of t (action_names done) (table_of k) h)) ∙ own))

-- ---- tables

-- the first ones of some tables, after others, keep their rules
pub record SoFar (t : ProgramText) (done : List TableText) (ks : List WrittenTable) (at : ℕ) (made : List P4Table) (b : Before) (next i : ℕ) : Type 0 where
  pub rest : Rest at (table_pieces t (action_names done) (table_numbers t done) (map table_of ks)) next
      (table_pieces t (action_names (done ++ map table_of (take i ks))) (table_numbers t (done ++ map table_of (take i ks))) (map table_of (drop i ks)))
  pub is : made ≡ map (table_meant t) (map table_of (take i ks))
  pub before : IsBefore b t (done ++ map table_of (take i ks))
  pub small : each is_small (numbers_of made) ≡ true

abbrev pub so_far : List TableText → List WrittenTable → ℕ → List TableText
so_far done ks i = done ++ map table_of (take i ks)

pub none_yet : (t : ProgramText) (done : List TableText) (ks : List WrittenTable) (at : ℕ) (made : List P4Table) (b : Before) → IsBefore b t done → made ≡ [] → SoFar t done ks at made b at 0
none_yet t done ks at made b before e = rw e (record {
  rest = subst (λ ds. Rest at (table_pieces t (action_names done) (table_numbers t done) (map table_of ks)) at (table_pieces t (action_names ds) (table_numbers t ds) (map table_of ks))) (sym (append-nil done)) (started at _);
  is = refl;
  before = subst (IsBefore b t) (sym (append-nil done)) before;
  small = refl;
})

left : (t : ProgramText) (done : List TableText) (ks : List WrittenTable) (at : ℕ) (made : List P4Table) (b : Before) (next i : ℕ) (k : WrittenTable) → i < length ks → k ≡ get_or ks i k → SoFar t done ks at made b next i
    → Rest at (table_pieces t (action_names done) (table_numbers t done) (map table_of ks)) next
    (table_pieces t (action_names (so_far done ks i)) (table_numbers t (so_far done ks i)) (table_of k ∷ [])
    ++ table_pieces t (action_names (so_far done ks i) ++ (k.action ∷ [])) (table_numbers t (so_far done ks i) ++ (number_in k.action ∷ [])) (map table_of (drop (i + 1) ks)))
left t done ks at made b next i k h e s =
    subst (λ rs. Rest at (table_pieces t (action_names done) (table_numbers t done) (map table_of ks)) next rs)
    (at_drop_more (λ xs. table_pieces t (action_names (so_far done ks i)) (table_numbers t (so_far done ks i)) (map table_of xs)) ks i k h
    ∙ ap (λ x. table_pieces t (action_names (so_far done ks i)) (table_numbers t (so_far done ks i)) (table_of x ∷ map table_of (drop (i + 1) ks))) (sym e))
    s.rest

one_taken : (done : List TableText) (ks : List WrittenTable) (i : ℕ) (k : WrittenTable) → i < length ks → k ≡ get_or ks i k → so_far done ks i ++ (table_of k ∷ []) ≡ so_far done ks (i + 1)
one_taken done ks i k h e = append_assoc done (map table_of (take i ks)) (table_of k ∷ []) ∙ ap (λ xs. done ++ xs) (sym (taken table_of ks i k h e))

each_more : (ms : List P4Table) (m : P4Table) → each is_small (numbers_of ms) ≡ true → each is_small (numbers_of (m ∷ [])) ≡ true → each is_small (numbers_of (ms ++ m ∷ [])) ≡ true
each_more [] m h g = g
each_more (x ∷ ms) m h g = let p = and_parts (is_small x.number) (each is_small (numbers_of ms)) h in rw (p.0) (each_more ms m p.1 g)

pub one_more : (t : ProgramText) (done : List TableText) (ks : List WrittenTable) (at : ℕ) (made more : List P4Table) (b new : Before) (next end i : ℕ) (k : WrittenTable) (m : P4Table) → i < length ks → k ≡ get_or ks i k → SoFar t done ks at made b next i
    → TablesKeep t (so_far done ks i) (table_of k ∷ []) next (m ∷ []) new end → more ≡ made ++ m ∷ [] → SoFar t done ks at more new end (i + 1)
one_more t done ks at made more b new next end i k m h e s one p =
    let now : so_far done ks i ++ (table_of k ∷ []) ≡ so_far done ks (i + 1) = one_taken done ks i k h e in
    subst (λ ms. SoFar t done ks at ms new end (i + 1)) (sym p) (record {
      rest = subst (λ rs. Rest at (table_pieces t (action_names done) (table_numbers t done) (map table_of ks)) end rs)
          (ap₂ (λ xs ns. table_pieces t xs ns (map table_of (drop (i + 1) ks)))
          (sym (names_more (so_far done ks i) (table_of k)) ∙ ap action_names now)
          (sym (numbers_more t (so_far done ks i) (table_of k)) ∙ ap (table_numbers t) now))
          (all_passed at _ next end _ _ (left t done ks at made b next i k h e s) one.passes);
      is = ap₂ (λ xs ys. xs ++ ys) s.is one.is ∙ sym (map-append (table_meant t) (map table_of (take i ks)) (table_of k ∷ [])) ∙ ap (map (table_meant t)) (sym (taken table_of ks i k h e));
      before = subst (IsBefore new t) now one.before;
      small = each_more made m s.small one.small;
    })

pub one_stops : (t : ProgramText) (done : List TableText) (ks : List WrittenTable) (at : ℕ) (made : List P4Table) (b : Before) (next i : ℕ) (k : WrittenTable) (fault : KindFault) → i < length ks → k ≡ get_or ks i k → SoFar t done ks at made b next i
    → StopsBy next (table_pieces t (action_names (so_far done ks i)) (table_numbers t (so_far done ks i)) (table_of k ∷ [])) fault → StopsBy at (table_pieces t (action_names done) (table_numbers t done) (map table_of ks)) fault
one_stops t done ks at made b next i k fault h e s x = one_stopped at _ next _ _ fault (left t done ks at made b next i k h e s) x

pub all_keep : (t : ProgramText) (done : List TableText) (ks : List WrittenTable) (at : ℕ) (made : List P4Table) (b : Before) (next i : ℕ) → length ks ≤ i → SoFar t done ks at made b next i → TablesKeep t done (map table_of ks) at made b next
all_keep t done ks at made b next i h s =
    let all : take i ks ≡ ks = take_all i ks h in
    record {
      is = s.is ∙ ap (λ xs. map (table_meant t) (map table_of xs)) all;
      passes = subst (λ rs. Rest at (table_pieces t (action_names done) (table_numbers t done) (map table_of ks)) next rs)
          (at_drop_all (λ xs. table_pieces t (action_names (so_far done ks i)) (table_numbers t (so_far done ks i)) (map table_of xs)) ks i h) s.rest;
      before = subst (λ xs. IsBefore b t (done ++ map table_of xs)) all s.before;
      small = s.small;
    }

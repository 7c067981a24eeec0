-- The loop over the terms that a term is made of.
use Rattle.std.proofs.Common.{◌≡◌, ℕ, ◌-◌, ◌<◌, ◌≤◌, List, [], ◌∷◌, length, map, Some, slice_get, slice_index, get_or, refl, ap, sym, ◌∙◌, subst, arith, inl, inr}
use Rattle.std.specs.List.{AllByRecursion}
use Rattle.std.proofs.lemmas.List.Elements.{recursion_from_All, All-from_recursion}
use Rattle.std.proofs.lemmas.Option.{slice_get_within, slice_get-get_or}
use Rattle.std.proofs.lemmas.Bool.{cases_eq}
use Rattle.bv_terms.specs.declared.node.Node.{Node}
use Rattle.bv_terms.specs.declared.node.Node.TheVariants.{Constant, Input, Apply, Not, Binary, Slice, Pick}
use Rattle.bv_terms.specs.TermTrees.{Term, not_, slice, width, arg_widths, IsTerm}
use Rattle.bv_terms.specs.Arenas.{parts, args_of, made_of, term_at, width_at, IsArena}
use Rattle.bv_terms.specs.Needed.{AreNeeded, IsAmong}
use Rattle.bv_terms.specs.Rebuilt.{Names, name_in, with_parts}
use Rattle.bv_terms.specs.TermMaps.{IsSet}
use Rattle.bv_terms.proofs.EvalFacts.{fit-of}
use Rattle.bv_terms.proofs.Members.{both, each, read-index}
use Rattle.bv_terms.proofs.NeededFacts.{inherits, needed-later}
use Rattle.bv_terms.proofs.NodeFacts.{node-width}
use Rattle.bv_terms.proofs.ReplaceFacts.{fit-with, name-new, name-old, node-kept, there-with, width-with}
use Rattle.bv_terms.specs.WithRows.{Tables, table_of, looked_up, with_rows, args_with_rows}
use Rattle.bv_terms.specs.Fitting.{CanStand, TablesFit, TablesFitArgs}
use Rattle.bv_terms.specs.Growth.{IsMade, OnlyGrows}
use Rattle.bv_terms.specs.Nodes.{CanMake, FitsNode, IsOwn, node_with_rows}
use Rattle.bv_terms.proofs.Growing.{grows-both, grows-none, made-kept, still-there}
use Rattle.bv_terms.proofs.Widths.{width-rows}

-- ---- tables that fit a term fit its parts

args-fit : (tables : Tables) (f : ℕ → Term) (xs : List ℕ) → TablesFitArgs tables (args_of f xs) → AllByRecursion (λ p. TablesFit tables (f p)) xs
args-fit tables f [] h = tt
args-fit tables f (a ∷ xs) h = (h.0, args-fit tables f xs h.1)

parts-fit : (tables : Tables) (f : ℕ → Term) (node : Node) → TablesFit tables (made_of f node) → AllByRecursion (λ p. TablesFit tables (f p)) (parts node)
parts-fit tables f (Constant b) h = tt
parts-fit tables f (Input i w) h = tt
parts-fit tables f (Apply g args w) h = args-fit tables f args h.0
parts-fit tables f (Not a) h = (h, tt)
parts-fit tables f (Binary op a b) h = (h.0, (h.1, tt))
parts-fit tables f (Slice a high low) h = (h, tt)
parts-fit tables f (Pick c a b) h = (h.0, (h.1, (h.2, tt)))

arg-widths : (f : ℕ → Term) (xs : List ℕ) → arg_widths (args_of f xs) ≡ map (λ a. width (f a)) xs
arg-widths f [] = refl
arg-widths f (a ∷ xs) = ap (λ ws. width (f a) ∷ ws) (arg-widths f xs)

map-names : (u w name : ℕ → ℕ) (xs : List ℕ) → AllByRecursion (λ p. u (name p) ≡ w p) xs → map u (map name xs) ≡ map w xs
map-names u w name [] e = refl
map-names u w name (a ∷ xs) e = let d = e.0 in let d' = map-names u w name xs e.1 in cc

node-fits : (tables : Tables) (f : ℕ → Term) (u name : ℕ → ℕ) (node : Node) → AllByRecursion (λ p. u (name p) ≡ width (f p)) (parts node) → TablesFit tables (made_of f node)
    → FitsNode tables u (with_parts name node)
node-fits tables f u name (Constant b) e h = tt
node-fits tables f u name (Input i w) e h = tt
node-fits tables f u name (Apply g args w) e h =
    subst (λ ws. CanStand (table_of tables g) ws w) (arg-widths f args ∙ sym (map-names u (λ p. width (f p)) name args e)) h.1
node-fits tables f u name (Not a) e h = tt
node-fits tables f u name (Binary op a b) e h = tt
node-fits tables f u name (Slice a high low) e h = tt
node-fits tables f u name (Pick c a b) e h = tt

-- ---- a node over parts with rows

args-made : (tables : Tables) (f g : ℕ → Term) (name : ℕ → ℕ) (xs : List ℕ) → AllByRecursion (λ p. g (name p) ≡ with_rows tables (f p)) xs
    → args_of g (map name xs) ≡ args_with_rows tables (args_of f xs)
args-made tables f g name [] e = refl
args-made tables f g name (a ∷ xs) e = let d = args-made tables f g name xs e.1 in let d' = e.0 in cc

node-made : (tables : Tables) (f g : ℕ → Term) (name : ℕ → ℕ) (node : Node) → AllByRecursion (λ p. g (name p) ≡ with_rows tables (f p)) (parts node)
    → node_with_rows tables g (with_parts name node) ≡ with_rows tables (made_of f node)
node-made tables f g name (Constant b) e = refl
node-made tables f g name (Input i w) e = refl
node-made tables f g name (Apply h args w) e = ap (λ xs. looked_up (table_of tables h) h xs w) (args-made tables f g name args e)
node-made tables f g name (Not a) e = ap not_ e.0
node-made tables f g name (Binary op a b) e = let d = e.0 in let d' = e.1.0 in cc
node-made tables f g name (Slice a high low) e = ap (λ x. slice x high low) e.0
node-made tables f g name (Pick c a b) e = let d = e.0 in let d' = e.1.0 in let d'' = e.1.1.0 in cc

own-is-own : (old now : List Node) (name : ℕ → ℕ) (node : Node) (k : ℕ) → IsArena old → OnlyGrows old now → slice_get old k ≡ Some node → IsOwn now (with_parts name node) k
own-is-own old now name (Input i w) k a g e =
    let here : k < length old = slice_get_within old k (Input i w) e in
    record { there = still-there old now k g here; term = g.kept.terms k here ∙ a.made k (Input i w) e }
own-is-own old now name (Constant b) k a g e = tt
own-is-own old now name (Apply f args w) k a g e = tt
own-is-own old now name (Not x) k a g e = tt
own-is-own old now name (Binary op x y) k a g e = tt
own-is-own old now name (Slice x high low) k a g e = tt
own-is-own old now name (Pick c x y) k a g e = tt

-- ---- the loop

-- the term under k has one with choices over rows
abbrev pub IsDone : Tables → (old now : List Node) → (k id : ℕ) → Type 0
IsDone tables old now k id = IsMade now (with_rows tables (term_at old k)) id

abbrev pub From : List ℕ → ℕ → ℕ → Type 0
From ids at k = (i : ℕ) × (at ≤ i) × (slice_get ids i ≡ Some k)

pub record Replacing (tables : Tables) (old now : List Node) (goal : ℕ) (ids : List ℕ) (at : ℕ) (names : Names) : Type 0 where
  pub needed : AreNeeded old goal ids
  pub there : goal < length old
  pub fits : TablesFit tables (term_at old goal)
  pub within : at ≤ length ids
  pub grown : OnlyGrows old now
  pub done : (k : ℕ) → From ids at k → IsDone tables old now k (name_in names k)

pub replace-first : (tables : Tables) (old : List Node) (goal : ℕ) (ids : List ℕ) (at : ℕ) (names : Names) → AreNeeded old goal ids → goal < length old → TablesFit tables (term_at old goal)
    → at ≡ length ids → Replacing tables old old goal ids at names
replace-first tables old goal ids at names n l f e = record {
  needed = n;
  there = l;
  fits = f;
  within = omega arith;
  grown = grows-none old;
  done = λ k d. absurd (let q = slice_get_within ids d.0 k d.2 in let m = d.1 in omega arith);
}

module _ (tables : Tables) (old now : List Node) (goal : ℕ) (ids : List ℕ) (at : ℕ) (names : Names) (h : Replacing tables old now goal ids at names) (p : 0 < at) where
  abbrev its : ℕ
  its = slice_index ids (at - 1)

  its-at : slice_get ids (at - 1) ≡ Some its
  its-at = (let w = h.within in slice_get-get_or ids (at - 1) 0 (omega arith))

  its-there : its < length old
  its-there = (let l = h.needed.within its (at - 1, its-at) in let t = h.there in omega arith)

  its-fits : TablesFit tables (term_at old its)
  its-fits =
      inherits old goal (λ k. TablesFit tables (term_at old k))
      (λ k node e f. parts-fit tables (term_at old) node (subst (TablesFit tables) (h.needed.arena.made k node e) f)) h.fits its (h.needed.only its (at - 1, its-at))

  parts-done : (node : Node) → slice_get old its ≡ Some node → AllByRecursion (λ q. IsDone tables old now q (name_in names q)) (parts node)
  parts-done node e =
      both (λ q. q < its) (IsAmong ids) (λ q. IsDone tables old now q (name_in names q))
      (λ q l a. let r = needed-later old goal ids h.needed (at - 1) its q its-at l a in h.done q (r.0, (let m = r.1 in omega arith), r.2))
      (parts node) (recursion_from_All (λ q. q < its) (parts node) (h.needed.arena.below its node e)) (h.needed.parts_ its node (at - 1, its-at) e)

  its-can : (node : Node) (w : ℕ) → slice_get old its ≡ Some node → w ≡ width_at now its → CanMake tables now (with_parts (name_in names) node) w its
  its-can node w e we =
      let name = name_in names in
      let made = h.needed.arena.made its node e in
      let part-fits : AllByRecursion (λ q. TablesFit tables (term_at old q)) (parts node) = parts-fit tables (term_at old) node (subst (TablesFit tables) made its-fits) in
      let widths : AllByRecursion (λ q. width_at now (name q) ≡ width_at old q) (parts node)
      = both (λ q. TablesFit tables (term_at old q)) (λ q. IsDone tables old now q (name q)) (λ q. width_at now (name q) ≡ width_at old q)
      (λ q f d. ap width d.term ∙ width-rows tables (term_at old q) f) (parts node) part-fits (parts-done node e) in
      let there : AllByRecursion (λ q. name q < length now) (parts node) = each (λ q (d : IsDone tables old now q (name q)). d.there) (parts node) (parts-done node e) in
      let fits = fit-of (term_at old) node (subst IsTerm made (h.needed.arena.terms its its-there)) in
      record {
        follows = record {
          there = All-from_recursion (λ q. q < length now) (parts (with_parts name node)) (there-with (length now) name node there);
          fit = fit-with (width_at now) (width_at old) name node widths fits;
        };
        width = we ∙ ap width (h.grown.kept.terms its its-there) ∙ ap width made ∙ node-width (term_at old) node ∙ sym (width-with (width_at now) (width_at old) name node widths);
        fits = node-fits tables (term_at old) (width_at now) name node widths (subst (TablesFit tables) made its-fits);
        own_ = own-is-own old now name node its h.needed.arena h.grown e;
      }

  its-step : (new : List Node) (more : Names) (next : ℕ) (node : Node) → slice_get old its ≡ Some node
      → IsMade new (node_with_rows tables (term_at now) (with_parts (name_in names) node)) next → OnlyGrows now new
      → IsSet names more its next → Replacing tables old new goal ids (at - 1) more
  its-step new more next node e made grown up =
      let terms : AllByRecursion (λ q. term_at now (name_in names q) ≡ with_rows tables (term_at old q)) (parts node)
      = each (λ q (d : IsDone tables old now q (name_in names q)). d.term) (parts node) (parts-done node e) in
      let is : IsDone tables old new its next = record {
        there = made.there;
        term = made.term ∙ node-made tables (term_at old) (term_at now) (name_in names) node terms ∙ ap (with_rows tables) (sym (h.needed.arena.made its node e));
      } in
      record {
        needed = h.needed;
        there = h.there;
        fits = h.fits;
        within = (let w = h.within in omega arith);
        grown = grows-both old now new h.grown grown;
        done = λ q d. elim (cases_eq its q) [
          | inl s ↦ subst (λ x. IsDone tables old new x (name_in more x)) s (subst (IsDone tables old new its) (sym (name-new names more its next up)) is)
          | inr o ↦
              let before : From ids at q = elim (cases_eq d.0 (at - 1)) [
                | inl s ↦ absurd (o (let x : Some its ≡ Some q = sym its-at ∙ ap (slice_get ids) (sym s) ∙ d.2 in cc))
                | inr n ↦ (d.0, (let n' = n in let l = d.1 in omega arith), d.2)
              ] in
              subst (IsDone tables old new q) (sym (name-old names more its next q up o)) (made-kept now new (with_rows tables (term_at old q)) (name_in names q) grown (h.done q before))
        ];
      }

  -- the same at what is read there
  own-is : (k : ℕ) → k ≡ get_or ids (at - 1) k → k ≡ its
  own-is k e = read-index ids (at - 1) k (let w = h.within in omega arith) e

  pub own-there : (k : ℕ) → k ≡ get_or ids (at - 1) k → k < length now
  own-there k e = still-there old now k h.grown (subst (λ j. j < length old) (sym (own-is k e)) its-there)

  -- the node is that of the arena at first
  its-node : (k : ℕ) (node : Node) → k ≡ get_or ids (at - 1) k → slice_get now k ≡ Some node → slice_get old its ≡ Some node
  its-node k node e n =
      sym (node-kept old now its h.grown.kept its-there) ∙ ap (slice_get now) (sym (own-is k e)) ∙ n

  pub own-can : (k w : ℕ) (node other : Node) → k ≡ get_or ids (at - 1) k → slice_get now k ≡ Some node → other ≡ with_parts (name_in names) node → w ≡ width_at now k
      → CanMake tables now other w k
  own-can k w node other e n o we =
      subst (λ j. CanMake tables now other w j) (sym (own-is k e))
      (subst (λ x. CanMake tables now x w its) (sym o) (its-can node w (its-node k node e n) (we ∙ ap (width_at now) (own-is k e))))

  pub own-step : (new : List Node) (more : Names) (next k : ℕ) (node other : Node) → k ≡ get_or ids (at - 1) k → slice_get now k ≡ Some node → other ≡ with_parts (name_in names) node
      → IsMade new (node_with_rows tables (term_at now) other) next → OnlyGrows now new → IsSet names more k next
      → Replacing tables old new goal ids (at - 1) more
  own-step new more next k node other e n o made grown up =
      its-step new more next node (its-node k node e n) (subst (λ x. IsMade new (node_with_rows tables (term_at now) x) next) o made) grown
      (subst (λ j. IsSet names more j next) (own-is k e) up)

pub replace-last : (tables : Tables) (old now : List Node) (goal : ℕ) (ids : List ℕ) (at : ℕ) (names : Names) → Replacing tables old now goal ids at names → at ≡ 0
    → IsDone tables old now goal (name_in names goal)
replace-last tables old now goal ids at names h z = let i = h.needed.itself in h.done goal (i.0, omega arith, i.1)

-- The loop of a copy.
use Rattle.std.proofs.Common.{◌≡◌, ℕ, ◌+◌, ◌-◌, ◌<◌, ◌≤◌, List, [], ◌∷◌, ◌++◌, length, length-append, map, drop, take, Some, slice_get, slice_index, get_or, refl, ap, sym, ◌∙◌, subst, arith, inl, inr, append_assoc, suc}
use Rattle.std.specs.List.{AllByRecursion}
use Rattle.std.proofs.lemmas.List.Elements.{recursion_from_All, All-from_recursion}
use Rattle.std.proofs.lemmas.Option.{slice_get_within, slice_get-get_or}
use Rattle.std.proofs.lemmas.Bool.{cases_eq}
use Rattle.std.proofs.Math.Seq.{drop-cons, drop-length}
use Rattle.bv_terms.specs.declared.node.Node.{Node}
use Rattle.bv_terms.specs.declared.node.Node.TheVariants.{Constant, Input, Apply, Not, Binary, Slice, Pick}
use Rattle.bv_terms.specs.TermTrees.{Term, constant, input, apply, not_, binary, slice, pick, width, joined_width, IsTerm}
use Rattle.bv_terms.specs.Arenas.{parts, args_of, made_of, term_at, width_at, node_width, inputs_in, CanFollow, IsArena, IsPut, KeepsTerms}
use Rattle.bv_terms.specs.Inputs.{renamed, renamed_args}
use Rattle.bv_terms.specs.Needed.{AreFalling, AreNeeded, IsAmong}
use Rattle.bv_terms.specs.Rebuilt.{Names, name_in, with_parts}
use Rattle.bv_terms.specs.TermMaps.{IsSet}
use Rattle.bv_terms.proofs.EvalFacts.{fit-of}
use Rattle.bv_terms.proofs.Members.{both, each, read-index}
use Rattle.bv_terms.proofs.NeededFacts.{needed-few, needed-later}
use Rattle.bv_terms.proofs.NodeFacts.{node-width}
use Rattle.bv_terms.proofs.ReplaceFacts.{fit-with, grown-length, keeps-both, keeps-none, name-new, name-old, there-with, width-with}
use Rattle.bv_terms.specs.Copies.{AreInputs, index_in, new_name}
use Rattle.bv_terms.specs.Copying.{CanCopy, copied_node, input_of, inputs_among}
use Rattle.bv_terms.proofs.InputLists.{are-inputs, falling-drop, index-new, smaller, split}

-- ---- one node

pub width-renamed : (f : ℕ → ℕ) (t : Term) → width (renamed f t) ≡ width t
width-renamed f (constant w n) = refl
width-renamed f (input i w) = refl
width-renamed f (apply g args w) = refl
width-renamed f (not_ a) = width-renamed f a
width-renamed f (binary op a b) = ap (λ v. joined_width op v (width (renamed f b))) (width-renamed f a) ∙ ap (joined_width op (width a)) (width-renamed f b)
width-renamed f (slice a high low) = refl
width-renamed f (pick c a b) = width-renamed f a

made-args : (t g : ℕ → Term) (f name : ℕ → ℕ) (xs : List ℕ) → AllByRecursion (λ p. g (name p) ≡ renamed f (t p)) xs → args_of g (map name xs) ≡ renamed_args f (args_of t xs)
made-args t g f name [] e = refl
made-args t g f name (a ∷ xs) e = let d = made-args t g f name xs e.1 in let d' = e.0 in cc

made-copied : (t g : ℕ → Term) (f name : ℕ → ℕ) (next : ℕ) (node : Node) → ((i w : ℕ) → node ≡ Input i w → next ≡ f i) → AllByRecursion (λ p. g (name p) ≡ renamed f (t p)) (parts node)
    → made_of g (copied_node next name node) ≡ renamed f (made_of t node)
made-copied t g f name next (Constant b) n e = refl
made-copied t g f name next (Input i w) n e = ap (λ j. input j w) (n i w refl)
made-copied t g f name next (Apply h args w) n e = ap (λ xs. apply h xs w) (made-args t g f name args e)
made-copied t g f name next (Not a) n e = ap not_ e.0
made-copied t g f name next (Binary op a b) n e = let d = e.0 in let d' = e.1.0 in cc
made-copied t g f name next (Slice a high low) n e = ap (λ x. slice x high low) e.0
made-copied t g f name next (Pick c a b) n e = let d = e.0 in let d' = e.1.0 in let d'' = e.1.1.0 in cc

-- the term under k has a copy
pub record IsCopied (source now : List Node) (f : ℕ → ℕ) (k id : ℕ) : Type 0 where
  pub there : id < length now
  pub term : term_at now id ≡ renamed f (term_at source k)

same-width : (source now : List Node) (f : ℕ → ℕ) (k id : ℕ) → IsCopied source now f k id → width_at now id ≡ width_at source k
same-width source now f k id h = ap width h.term ∙ width-renamed f (term_at source k)

-- what a copy of a node over copied parts takes
others : (source now : List Node) (f name : ℕ → ℕ) (k w : ℕ) (node : Node) → IsArena source → slice_get source k ≡ Some node → w ≡ width_at source k
    → AllByRecursion (λ p. IsCopied source now f p (name p)) (parts node)
    → CanFollow now (with_parts name node) × (w ≡ node_width (width_at now) (with_parts name node))
others source now f name k w node a e we done =
    let there : AllByRecursion (λ p. name p < length now) (parts node) = each (λ p (q : IsCopied source now f p (name p)). q.there) (parts node) done in
    let widths : AllByRecursion (λ p. width_at now (name p) ≡ width_at source p) (parts node)
    = each (λ p (q : IsCopied source now f p (name p)). same-width source now f p (name p) q) (parts node) done in
    let made = a.made k node e in
    let fits = fit-of (term_at source) node (subst IsTerm made (a.terms k (slice_get_within source k node e))) in (
      record {
        there = All-from_recursion (λ q. q < length now) (parts (with_parts name node)) (there-with (length now) name node there);
        fit = fit-with (width_at now) (width_at source) name node widths fits;
      },
      we ∙ ap width made ∙ node-width (term_at source) node ∙ sym (width-with (width_at now) (width_at source) name node widths),
    )

can-copy : (source now : List Node) (f name : ℕ → ℕ) (k w : ℕ) (node : Node) → IsArena source → slice_get source k ≡ Some node → w ≡ width_at source k
    → AllByRecursion (λ p. IsCopied source now f p (name p)) (parts node) → CanCopy now name node w
can-copy source now f name k w (Input i v) a e we done = subst IsTerm (a.made k (Input i v) e) (a.terms k (slice_get_within source k (Input i v) e))
can-copy source now f name k w (Constant b) a e we done = others source now f name k w (Constant b) a e we done
can-copy source now f name k w (Apply g args v) a e we done = others source now f name k w (Apply g args v) a e we done
can-copy source now f name k w (Not x) a e we done = others source now f name k w (Not x) a e we done
can-copy source now f name k w (Binary op x y) a e we done = others source now f name k w (Binary op x y) a e we done
can-copy source now f name k w (Slice x high low) a e we done = others source now f name k w (Slice x high low) a e we done
can-copy source now f name k w (Pick c x y) a e we done = others source now f name k w (Pick c x y) a e we done

-- ---- the loop

-- the terms from a place on
abbrev pub From : List ℕ → ℕ → ℕ → Type 0
From ids at k = (i : ℕ) × (at ≤ i) × (slice_get ids i ≡ Some k)

pub record Copying (source old now : List Node) (id : ℕ) (ids : List ℕ) (at : ℕ) (names : Names) (inputs : List ℕ) : Type 0 where
  pub needed : AreNeeded source id ids
  pub there : id < length source
  pub within : at ≤ length ids
  pub keeps : KeepsTerms old now
  pub done : (k : ℕ) → From ids at k → IsCopied source now (new_name (inputs_in old) (inputs_among source ids)) k (name_in names k)
  pub listed : inputs ≡ inputs_among source (drop at ids)
  pub count : inputs_in now ≡ inputs_in old + length inputs
  pub few : length now ≤ length old + (length ids - at)

pub copy-first : (source old : List Node) (id : ℕ) (ids : List ℕ) (at : ℕ) (names : Names) (inputs : List ℕ) → AreNeeded source id ids → id < length source → at ≡ length ids → inputs ≡ []
    → Copying source old old id ids at names inputs
copy-first source old id ids at names inputs n l e none = record {
  needed = n;
  there = l;
  within = omega arith;
  keeps = keeps-none old;
  done = λ k d. absurd (let q = slice_get_within ids d.0 k d.2 in let m = d.1 in omega arith);
  listed = none ∙ sym (ap (inputs_among source) (ap (λ m. drop m ids) e ∙ drop-length ids));
  count = omega (arith, ap length none);
  few = omega arith;
}

module _ (source old now : List Node) (id : ℕ) (ids : List ℕ) (at : ℕ) (names : Names) (inputs : List ℕ) (h : Copying source old now id ids at names inputs) (p : 0 < at) where
  abbrev pub its : ℕ
  its = slice_index ids (at - 1)

  its-at : slice_get ids (at - 1) ≡ Some its
  its-at = (let w = h.within in slice_get-get_or ids (at - 1) 0 (omega arith))

  its-there : its < length source
  its-there = (let l = h.needed.within its (at - 1, its-at) in let t = h.there in omega arith)

  its-drop : drop (at - 1) ids ≡ its ∷ drop at ids
  its-drop = (let w = h.within in let s : suc (at - 1) ≡ at = omega arith in drop-cons ids (at - 1) 0 (omega arith) ∙ ap (λ n. its ∷ drop n ids) s)

  parts-done : (node : Node) → slice_get source its ≡ Some node
      → AllByRecursion (λ q. IsCopied source now (new_name (inputs_in old) (inputs_among source ids)) q (name_in names q)) (parts node)
  parts-done node e =
      both (λ q. q < its) (IsAmong ids) (λ q. IsCopied source now (new_name (inputs_in old) (inputs_among source ids)) q (name_in names q))
      (λ q l a. let r = needed-later source id ids h.needed (at - 1) its q its-at l a in h.done q (r.0, (let m = r.1 in omega arith), r.2))
      (parts node) (recursion_from_All (λ q. q < its) (parts node) (h.needed.arena.below its node e)) (h.needed.parts_ its node (at - 1, its-at) e)

  more-listed : inputs_among source (drop (at - 1) ids) ≡ inputs_among source (drop at ids) ++ input_of (slice_get source its)
  more-listed = ap (inputs_among source) its-drop

  -- the next number is the name of the input
  name-is : (i w : ℕ) → slice_get source its ≡ Some (Input i w) → inputs_in now ≡ new_name (inputs_in old) (inputs_among source ids) i
  name-is i w e =
      let rest = inputs_among source (take (at - 1) ids) in
      let whole : inputs_among source ids ≡ inputs_among source (drop at ids) ++ i ∷ rest
      = split source (at - 1) ids ∙ ap (λ xs. xs ++ rest) (more-listed ∙ ap (λ o. inputs_among source (drop at ids) ++ input_of o) e)
      ∙ append_assoc (inputs_among source (drop at ids)) (i ∷ []) rest in
      let falling = subst AreFalling its-drop (falling-drop (at - 1) ids h.needed.falling) in
      let index : index_in (inputs_among source ids) i ≡ length (inputs_among source (drop at ids))
      = ap (λ xs. index_in xs i) whole
      ∙ index-new (inputs_among source (drop at ids)) rest i (λ a. let l = smaller source its (drop at ids) i w h.needed.arena falling e i a in omega arith) in
      h.count ∙ ap (λ n. inputs_in old + n) (ap length h.listed ∙ sym index)

  copied-step : (new : List Node) (more : Names) (next : ℕ) (longer : List ℕ) (node : Node) → slice_get source its ≡ Some node
      → IsPut now new (copied_node (inputs_in now) (name_in names) node) next → KeepsTerms now new → length new ≤ length now + 1
      → longer ≡ inputs ++ input_of (Some node) → inputs_in new ≡ inputs_in now + length (input_of (Some node))
      → IsSet names more its next → Copying source old new id ids (at - 1) more longer
  copied-step new more next longer node e put kept few longer-is count up =
      let f = new_name (inputs_in old) (inputs_among source ids) in
      let terms : AllByRecursion (λ q. term_at now (name_in names q) ≡ renamed f (term_at source q)) (parts node)
      = each (λ q (d : IsCopied source now f q (name_in names q)). d.term) (parts node) (parts-done node e) in
      let made = made-copied (term_at source) (term_at now) f (name_in names) (inputs_in now) node (λ i w is. name-is i w (e ∙ ap Some is)) terms in
      let is : IsCopied source new f its next = record { there = put.there; term = put.term ∙ made ∙ ap (renamed f) (sym (h.needed.arena.made its node e)) } in
      record {
        needed = h.needed;
        there = h.there;
        within = (let w = h.within in omega arith);
        keeps = keeps-both old now new h.keeps kept;
        done = λ q d. elim (cases_eq its q) [
          | inl s ↦ subst (λ x. IsCopied source new f x (name_in more x)) s (subst (IsCopied source new f its) (sym (name-new names more its next up)) is)
          | inr o ↦
              let before : From ids at q = elim (cases_eq d.0 (at - 1)) [
                | inl s ↦ absurd (o (let x : Some its ≡ Some q = sym its-at ∙ ap (slice_get ids) (sym s) ∙ d.2 in cc))
                | inr n ↦ (d.0, (let n' = n in let l = d.1 in omega arith), d.2)
              ] in
              let c = h.done q before in
              subst (IsCopied source new f q) (sym (name-old names more its next q up o)) (record {
                there = (let l = c.there in let g = grown-length now new kept in omega arith);
                term = kept.terms (name_in names q) c.there ∙ c.term;
              })
        ];
        listed = longer-is ∙ ap (λ xs. xs ++ input_of (Some node)) h.listed ∙ sym (more-listed ∙ ap (λ o. inputs_among source (drop at ids) ++ input_of o) e);
        count = omega (arith, count, h.count, ap length longer-is, length-append inputs (input_of (Some node)));
        few = (let a = h.few in let w = h.within in omega arith);
      }

  -- the same at what is read there
  own-is : (k : ℕ) → k ≡ get_or ids (at - 1) k → k ≡ its
  own-is k e = read-index ids (at - 1) k (let w = h.within in omega arith) e

  pub own-there : (k : ℕ) → k ≡ get_or ids (at - 1) k → k < length source
  own-there k e = subst (λ j. j < length source) (sym (own-is k e)) its-there

  pub own-can : (k w : ℕ) (node : Node) → k ≡ get_or ids (at - 1) k → slice_get source k ≡ Some node → w ≡ width_at source k → CanCopy now (name_in names) node w
  own-can k w node e n we =
      let n' = subst (λ j. slice_get source j ≡ Some node) (own-is k e) n in
      can-copy source now (new_name (inputs_in old) (inputs_among source ids)) (name_in names) its w node h.needed.arena n' (we ∙ ap (width_at source) (own-is k e)) (parts-done node n')

  pub own-step : (new : List Node) (more : Names) (next : ℕ) (longer : List ℕ) (node : Node) (k : ℕ) → k ≡ get_or ids (at - 1) k → slice_get source k ≡ Some node
      → IsPut now new (copied_node (inputs_in now) (name_in names) node) next → KeepsTerms now new → length new ≤ length now + 1
      → longer ≡ inputs ++ input_of (Some node) → inputs_in new ≡ inputs_in now + length (input_of (Some node))
      → IsSet names more k next → Copying source old new id ids (at - 1) more longer
  own-step new more next longer node k e n put kept few longer-is count up =
      copied-step new more next longer node (subst (λ j. slice_get source j ≡ Some node) (own-is k e) n) put kept few longer-is count
      (subst (λ j. IsSet names more j next) (own-is k e) up)

  pub step-few : (new : List Node) → length new ≤ length now + 1 → length new ≤ length old + (id + 1)
  step-few new l = (let n = needed-few source id ids h.needed in let w = h.within in let f = h.few in omega arith)

pub copy-few : (source old now : List Node) (id : ℕ) (ids : List ℕ) (at : ℕ) (names : Names) (inputs : List ℕ) → Copying source old now id ids at names inputs
    → length now ≤ length old + (id + 1)
copy-few source old now id ids at names inputs h = (let n = needed-few source id ids h.needed in let f = h.few in omega arith)

pub copy-last : (source old now : List Node) (id : ℕ) (ids : List ℕ) (at : ℕ) (names : Names) (inputs : List ℕ) → Copying source old now id ids at names inputs → at ≡ 0
    → IsCopied source now (new_name (inputs_in old) inputs) id (name_in names id)
copy-last source old now id ids at names inputs h z =
    let i = h.needed.itself in
    subst (λ js. IsCopied source now (new_name (inputs_in old) js) id (name_in names id)) (sym (h.listed ∙ ap (λ n. inputs_among source (drop n ids)) z))
    (h.done id (i.0, omega arith, i.1))

pub copy-inputs : (source old now : List Node) (id : ℕ) (ids : List ℕ) (at : ℕ) (names : Names) (inputs : List ℕ) → Copying source old now id ids at names inputs → at ≡ 0
    → AreInputs (term_at source id) inputs
copy-inputs source old now id ids at names inputs h z =
    subst (AreInputs (term_at source id)) (sym (h.listed ∙ ap (λ n. inputs_among source (drop n ids)) z)) (are-inputs source id ids h.needed h.there)

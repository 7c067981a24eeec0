-- Declarations, one after the other, each after those with the names before it.
use Rattle.std.proofs.Common.{◌≡◌, ℕ, ◌+◌, ◌<◌, ◌≤◌, List, [], ◌∷◌, ◌++◌, length, map, drop, get_or, Vec, Global, refl, sym, ap, subst, ◌∙◌, append_assoc}
use Rattle.std.proofs.lemmas.List.{at_drop_more, at_drop_all, append-nil, map-append}
use Rattle.p4_texts.specs.KindFaults.{Piece}
use Rattle.p4_resolve.specs.Judged.{Rest, Passes, StopsBy, Sees}
use Rattle.p4_resolve.specs.declared.fault.KindFault.{KindFault}
use Rattle.p4_resolve.proofs.NameFacts.{none_seen}
use Rattle.p4_resolve.proofs.PieceFacts.{started, all_passed, one_stopped}

-- a list of declarations as the code has them, W, as the text has them, T, and as the program has them, M: the pieces of
-- all, those of one, and its name
pub record Forms (W T M : Type 0) : Type 0 where
  pub text : W → T
  pub all : List (List ℕ) → List T → List Piece
  pub one : List (List ℕ) → T → List Piece
  pub meant : T → M
  pub name : M → List ℕ
  pub none_left : (names : List (List ℕ)) → all names [] ≡ []
  pub one_left : (names : List (List ℕ)) (f : T) (fs : List T) → all names (f ∷ fs) ≡ one names f ++ all (names ++ (name (meant f) ∷ [])) fs

pub record SoFar {W T M : Type 0} (x : Forms W T M) (at : ℕ) (fields : List W) (keys : List (Vec ℕ Global)) (made : List M) (next i : ℕ) : Type 0 where
  pub seen : Sees keys (map x.name made)
  pub rest : Rest at (x.all [] (map x.text fields)) next (x.all (map x.name made) (map x.text (drop i fields)))
  pub same : made ++ map x.meant (map x.text (drop i fields)) ≡ map x.meant (map x.text fields)

pub none_yet : {W T M : Type 0} (x : Forms W T M) (at : ℕ) (fields : List W) (keys : List (Vec ℕ Global)) (made : List M) → keys ≡ [] → made ≡ [] → SoFar x at fields keys made at 0
none_yet x at fields keys made e m = rw (e, m) (record {
  seen = none_seen;
  rest = started at (x.all [] (map x.text fields));
  same = refl;
})

-- what is left begins with this one
left : {W T M : Type 0} (x : Forms W T M) (at : ℕ) (fields : List W) (keys : List (Vec ℕ Global)) (made : List M) (next i : ℕ) (f : W) → i < length fields → f ≡ get_or fields i f → SoFar x at fields keys made next i
    → Rest at (x.all [] (map x.text fields)) next (x.one (map x.name made) (x.text f) ++ x.all (map x.name made ++ (x.name (x.meant (x.text f)) ∷ [])) (map x.text (drop (i + 1) fields)))
left x at fields keys made next i f h e s =
    subst (λ rs. Rest at (x.all [] (map x.text fields)) next rs)
    (at_drop_more (λ fs. x.all (map x.name made) (map x.text fs)) fields i f h
    ∙ ap (λ g. x.all (map x.name made) (x.text g ∷ map x.text (drop (i + 1) fields))) (sym e)
    ∙ x.one_left (map x.name made) (x.text f) (map x.text (drop (i + 1) fields)))
    s.rest

pub one_more : {W T M : Type 0} (x : Forms W T M) (at : ℕ) (fields : List W) (keys new : List (Vec ℕ Global)) (made more : List M) (next end i : ℕ) (f : W) (field : M) → i < length fields → f ≡ get_or fields i f
    → SoFar x at fields keys made next i → field ≡ x.meant (x.text f) → Sees new (map x.name made ++ (x.name field ∷ [])) → Passes next (x.one (map x.name made) (x.text f)) end
    → more ≡ made ++ field ∷ [] → SoFar x at fields new more end (i + 1)
one_more x at fields keys new made more next end i f field h e s is seen p m =
    let names : map x.name (made ++ field ∷ []) ≡ map x.name made ++ (x.name field ∷ []) = map-append x.name made (field ∷ []) in
    subst (λ fs. SoFar x at fields new fs end (i + 1)) (sym m) (record {
      seen = subst (Sees new) (sym names) seen;
      rest = subst (λ ns. Rest at (x.all [] (map x.text fields)) end (x.all ns (map x.text (drop (i + 1) fields)))) (ap (λ g. map x.name made ++ (x.name g ∷ [])) (sym is) ∙ sym names)
          (all_passed at (x.all [] (map x.text fields)) next end _ _ (left x at fields keys made next i f h e s) p);
      same = append_assoc made (field ∷ []) (map x.meant (map x.text (drop (i + 1) fields)))
          ∙ ap (λ g. made ++ (g ∷ map x.meant (map x.text (drop (i + 1) fields)))) is
          ∙ sym (at_drop_more (λ fs. made ++ map x.meant (map x.text fs)) fields i f h ∙ ap (λ g. made ++ (x.meant (x.text g) ∷ map x.meant (map x.text (drop (i + 1) fields)))) (sym e))
          ∙ s.same;
    })

pub one_breaks : {W T M : Type 0} (x : Forms W T M) (at : ℕ) (fields : List W) (keys : List (Vec ℕ Global)) (made : List M) (next i : ℕ) (f : W) (fault : KindFault) → i < length fields → f ≡ get_or fields i f
    → SoFar x at fields keys made next i → StopsBy next (x.one (map x.name made) (x.text f)) fault → StopsBy at (x.all [] (map x.text fields)) fault
one_breaks x at fields keys made next i f fault h e s b = one_stopped at (x.all [] (map x.text fields)) next _ _ fault (left x at fields keys made next i f h e s) b

pub all_pass : {W T M : Type 0} (x : Forms W T M) (at : ℕ) (fields : List W) (keys : List (Vec ℕ Global)) (made : List M) (next i : ℕ) → length fields ≤ i → SoFar x at fields keys made next i
    → Passes at (x.all [] (map x.text fields)) next
all_pass x at fields keys made next i h s =
    subst (λ rs. Rest at (x.all [] (map x.text fields)) next rs) (at_drop_all (λ fs. x.all (map x.name made) (map x.text fs)) fields i h ∙ x.none_left (map x.name made)) s.rest

pub all_made : {W T M : Type 0} (x : Forms W T M) (at : ℕ) (fields : List W) (keys : List (Vec ℕ Global)) (made : List M) (next i : ℕ) → length fields ≤ i → SoFar x at fields keys made next i
    → made ≡ map x.meant (map x.text fields)
all_made x at fields keys made next i h s = sym (append-nil made) ∙ sym (at_drop_all (λ fs. made ++ map x.meant (map x.text fs)) fields i h) ∙ s.same

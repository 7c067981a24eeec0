-- Ways that go on, one after another.
use Rattle.std.proofs.Common.{◌≡◌, ℕ, zero, suc, ◌-◌, ◌≤◌, List, [], ◌∷◌, ◌++◌, All, Bool, true, false, Option, Some, None, Result, Ok, Err, OnOk, if◌then◌else◌, refl, sym, ap, subst, ◌∙◌, arith}
use Rattle.std.specs.Prelude.{flat_map}
use Rattle.std.proofs.lemmas.Grind.{flat_map-append}
use Rattle.std.proofs.lemmas.List.{append_assoc, append-nil}
use Rattle.cocoon_num.specs.Tree.{Param}
use Rattle.cocoon_syntax.specs.TreeOf.{design_of}
use Rattle.bv_terms.specs.declared.node.Node.{Node}
use Rattle.bv_terms.specs.Arenas.{KeepsTerms, inputs_in}
use Rattle.bv_terms.proofs.ReplaceFacts.{keeps-both, keeps-none}
use Rattle.obligation_laws.specs.States as tree
use Rattle.obligation_laws.specs.States.{TermWorld}
use Rattle.obligation_laws.specs.Following.{Followed, each, one}
use Rattle.obligation_laws.specs.Leaves as laws
use Rattle.obligation_laws.specs.Leaves.{at_new, leaf_of, onward}
use Rattle.symbolic_runs.specs.Fitting.{FitsState, Stands}
use Rattle.symbolic_runs.specs.Reading.{IsThere, from_place, state_of, states_of}
use Rattle.symbolic_runs.specs.declared.states.State.{State}
use Rattle.symbolic_runs.specs.declared.world.World.{World}
use Rattle.symbolic_runs.proofs.Growing.{head_all, map_all, state_on, state_there, states_on, tail_all}
use Rattle.obligation_gen.specs.declared.hops.Hops.{Hops}
use Rattle.obligation_gen.specs.declared.tree.Leaf.{Leaf}
use Rattle.obligation_gen.specs.Bodies.{design_in, new_in}
use Rattle.obligation_gen.specs.ShownTrees.{ShowsLeaves}
use Rattle.obligation_gen.proofs.Growing.{leaves_on, zip_append}

stands_on : (w : World) (a b : List Node) (vars : List Param) (s : State) → KeepsTerms a b → Stands w a vars s → Stands w b vars s
stands_on w a b vars s h k = record {
  there = state_there a b s h k.there;
  fits = subst (FitsState w.level (design_of w.checked.now) vars) (sym (state_on a b s h k.there)) k.fits;
}

all_stand_on : (w : World) (a b : List Node) (ss : List State) → KeepsTerms a b → All (Stands w a []) ss → All (Stands w b []) ss
all_stand_on w a b ss h all = map_all (Stands w a []) (Stands w b []) ss (λ s k. stands_on w a b [] s h k) all

all_there : (w : World) (a : List Node) (ss : List State) → All (Stands w a []) ss → All (IsThere a) ss
all_there w a ss all = map_all (Stands w a []) (IsThere a) ss (λ s k. k.there) all

-- the leaves of some ways
abbrev pub leaves_in : (List ℕ → Bool) → Followed → List laws.Leaf
leaves_in new r = flat_map (leaf_of new) r.0

-- the leaves behind some ways were made, and those of others are still to come
pub record Gone (h : Hops) (f : tree.State → ℕ → Followed) (start now : List Node) (all left : List State) (leaves : List Leaf) : Type 0 where
  pub kept : KeepsTerms start now
  pub stand : All (Stands h.world now []) left
  pub done : List laws.Leaf
  pub shows : ShowsLeaves (design_in h) now leaves done
  pub are : done ++ leaves_in (new_in h) (each f (states_of now left) (inputs_in now)) ≡ leaves_in (new_in h) (each f (states_of start all) (inputs_in start))
  pub next : (each f (states_of now left) (inputs_in now)).1 ≡ (each f (states_of start all) (inputs_in start)).1

pub none_gone : (h : Hops) (f : tree.State → ℕ → Followed) (start : List Node) (all : List State) → All (Stands h.world start []) all → Gone h f start start all all []
none_gone h f start all stand = record { kept = keeps-none start; stand = stand; done = []; shows = tt; are = refl; next = refl }

pub first_stands : (h : Hops) (f : tree.State → ℕ → Followed) (start now : List Node) (all left : List State) (leaves : List Leaf) (s : State) (rest : List State) → left ≡ s ∷ rest
    → Gone h f start now all left leaves → Stands h.world now [] s
first_stands h f start now all left leaves s rest is g = head_all (Stands h.world now []) s rest (subst (All (Stands h.world now [])) is g.stand)

pub one_gone : (h : Hops) (f : tree.State → ℕ → Followed) (start now new : List Node) (all left : List State) (leaves more : List Leaf) (s : State) (rest : List State) → left ≡ s ∷ rest
    → KeepsTerms now new → Gone h f start now all left leaves
    → ShowsLeaves (design_in h) new more (leaves_in (new_in h) (f (state_of now s) (inputs_in now))) → inputs_in new ≡ (f (state_of now s) (inputs_in now)).1
    → Gone h f start new all rest (leaves ++ more)
one_gone h f start now new all left leaves more s rest is step g shows next =
    let G = new_in h in
    let r = f (state_of now s) (inputs_in now) in
    let stand : All (Stands h.world now []) (s ∷ rest) = subst (All (Stands h.world now [])) is g.stand in
    let behind = tail_all (Stands h.world now []) s rest stand in
    let same : states_of new rest ≡ states_of now rest = states_on now new rest step (all_there h.world now rest behind) in
    let later : each f (states_of new rest) (inputs_in new) ≡ each f (states_of now rest) r.1 = λ j. each f (same j) (next j) in
    let last = each f (states_of now rest) r.1 in
    record {
      kept = keeps-both start now new g.kept step;
      stand = all_stand_on h.world now new rest step behind;
      done = g.done ++ leaves_in G r;
      shows = zip_append _ leaves g.done more (leaves_in G r) (leaves_on (design_in h) now new leaves g.done step g.shows) shows;
      are = ap (λ z. (g.done ++ leaves_in G r) ++ leaves_in G z) later
          ∙ append_assoc g.done (leaves_in G r) (leaves_in G last)
          ∙ ap (λ z. g.done ++ z) (sym (flat_map-append (leaf_of G) r.0 last.0))
          ∙ ap (λ z. g.done ++ leaves_in G (each f (states_of now z) (inputs_in now))) (sym is)
          ∙ g.are;
      next = ap (λ (z : Followed). z.1) later ∙ ap (λ z. (each f (states_of now z) (inputs_in now)).1) (sym is) ∙ g.next;
    }

pub all_gone : (h : Hops) (f : tree.State → ℕ → Followed) (start now : List Node) (all left : List State) (leaves : List Leaf) → left ≡ [] → Gone h f start now all left leaves
    → ShowsLeaves (design_in h) now leaves (leaves_in (new_in h) (each f (states_of start all) (inputs_in start))) × (inputs_in now ≡ (each f (states_of start all) (inputs_in start)).1)
all_gone h f start now all left leaves is g =
    let e : g.done ≡ leaves_in (new_in h) (each f (states_of start all) (inputs_in start)) =
    sym (append-nil g.done) ∙ ap (λ z. g.done ++ leaves_in (new_in h) (each f (states_of now z) (inputs_in now))) (sym is) ∙ g.are in
    (subst (ShowsLeaves (design_in h) now leaves) e g.shows, ap (λ z. (each f (states_of now z) (inputs_in now)).1) (sym is) ∙ g.next)

-- ---- one hop

pub hops_are : (T : TermWorld) (new : List ℕ → Bool) (k : ℕ) (S : tree.State) (n : ℕ) → laws.hops T new (suc k) S n ≡ each (onward new (laws.hops T new k)) (from_place T S n).0 (from_place T S n).1
hops_are T new k S n = by S.sent
  where
    by : (o : Option tree.Place)
        → (elim o as (λ x. Followed) [ None ↦ ([], n) | Some at ↦ each (onward new (laws.hops T new k)) (laws.follow_body T at S n).0 (laws.follow_body T at S n).1 ])
        ≡ each (onward new (laws.hops T new k)) (elim o as (λ x. Followed) [ None ↦ ([], n) | Some at ↦ laws.follow_body T at S n ]).0
        (elim o as (λ x. Followed) [ None ↦ ([], n) | Some at ↦ laws.follow_body T at S n ]).1
    by None = refl
    by (Some at) = refl

-- the body of the place, and then the others
pub hopped : (T : TermWorld) (new : List ℕ → Bool) (bodies : ℕ) (S : tree.State) (n : ℕ) (now : List tree.State) (m : ℕ) → 1 ≤ bodies → now ≡ (from_place T S n).0 → m ≡ (from_place T S n).1
    → each (onward new (laws.hops T new (bodies - 1))) now m ≡ laws.hops T new bodies S n
hopped T new zero S n now m l p q = absurd (omega (arith, l))
hopped T new (suc k) S n now m l p q =
    let e : suc k - 1 ≡ k = omega arith in
    (λ j. each (onward new (laws.hops T new (e j))) (p j) (q j)) ∙ sym (hops_are T new k S n)

pub goes_on : (T : TermWorld) (new : List ℕ → Bool) (bodies : ℕ) (S : tree.State) (n : ℕ) → at_new new S ≡ true → onward new (laws.hops T new bodies) S n ≡ laws.hops T new bodies S n
goes_on T new bodies S n e = ap (λ b. if b then laws.hops T new bodies S n else one S n) e

pub ends_old : (T : TermWorld) (new : List ℕ → Bool) (bodies : ℕ) (S : tree.State) (n : ℕ) → at_new new S ≡ false → onward new (laws.hops T new bodies) S n ≡ one S n
ends_old T new bodies S n e = ap (λ b. if b then laws.hops T new bodies S n else one S n) e

pub ends_spent : (T : TermWorld) (new : List ℕ → Bool) (S : tree.State) (n : ℕ) → onward new (laws.hops T new zero) S n ≡ one S n
ends_spent T new S n = by (at_new new S)
  where
    by : (b : Bool) → (if b then one S n else one S n) ≡ one S n
    by true = refl
    by false = refl

pub one_leaf : (new : List ℕ → Bool) (S : tree.State) (n : ℕ) → leaves_in new (one S n) ≡ leaf_of new S
one_leaf new S n = append-nil (leaf_of new S)

pub on_ok_weaker : {A E : Type 0} (r : Result A E) (P Q : Type 0) → (P → Q) → OnOk r P → OnOk r Q
on_ok_weaker (Ok v) P Q f h = f h
on_ok_weaker (Err e) P Q f h = tt
